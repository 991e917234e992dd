use Rattle.std.proofs.Common.{◌≡◌, ◌∙◌, ◌-◌, ap, refl, subst, length, sym, arith}
use Rattle.std.specs.List.{AllByRecursion}
use Rattle.dwarf_meaning.specs.Rest.{State}
use Rattle.dwarf_base.proofs.Suffixes.{suffix_whole}
use Rattle.dwarf_base.specs.Reads.{IsRestOf}
use Rattle.dwarf_eval.specs.Lists.{MayRefuse}
use Rattle.dwarf_eval.proofs.MachineViews.{callers-push, length-callers, all_and_last}
use Rattle.dwarf_eval.proofs.Pushes.{caller_pushed, caller_faults}
use Rattle.dwarf_eval.proofs.run.machine.Machine.push_caller.Goals as goal

pub returns-in-Err : goal.returns-in-Err
returns-in-Err g c =
    let R = g.row.R.Denot in
    let rest_is = ap (λ (f : R × R). f.0) c.in-Err.ensures.returned ∙ c.replace-rest.ensures.value in
    let whole_is = ap (λ (f : R × R). f.1) c.in-Err.ensures.returned ∙ c.replace-whole.ensures.value in
    let is = rw (rest_is, whole_is, c.in-Err.ensures.err, c.push.ensures.limit) at c.fail.ensures in
    caller_faults c.args.self.now c.fail.new.self
    (subst (λ (s : State). MayRefuse s.setup.limits.callers (length s.callers)) c.self.view_is (rw length-callers c.in-Err.ensures.full))
    (rw (← c.self.view_is) is)

pub invariant_of-self : goal.invariant_of-self
invariant_of-self g c =
    let R = g.row.R.Denot in
    let P = λ (f : R × R). IsRestOf (g.R.Reader.text f.0) (g.R.Reader.text f.1) in
    record {
      mask = c.self.invariant.mask;
      width = c.self.invariant.width;
      here = rw (c.replace-rest.ensures.after, c.replace-whole.ensures.after, c.copy_of.ensures) (record { rest = suffix_whole _; order = refl });
      callers = subst (AllByRecursion P) (sym c.in-Ok.ensures.ok) (all_and_last P (g.S.ExpressionStack.ArrayLike.items c.self.inside.expression_stack) (c.replace-rest.result, c.replace-whole.result) c.self.invariant.callers
          (rw (c.replace-rest.ensures.value, c.replace-whole.ensures.value) c.self.invariant.here));
    }

pub returns-in-Ok : goal.returns-in-Ok
returns-in-Ok g c =
    let text = g.R.Reader.text in
    let none : length (text c.args.callee).bytes - length (text c.args.callee).bytes ≡ 0 = omega arith in
    rw (← c.self.view_is) (record {
      steps = caller_pushed _ _ _ _ (rw length-callers c.in-Ok.ensures.room) refl;
      alone = rw (c.replace-rest.ensures.after, c.replace-whole.ensures.after, c.copy_of.ensures, none, c.push.ensures.limit, callers-push text (c.replace-rest.result, c.replace-whole.result) _ _ c.in-Ok.ensures.ok, c.replace-rest.ensures.value, c.replace-whole.ensures.value) refl;
    })
