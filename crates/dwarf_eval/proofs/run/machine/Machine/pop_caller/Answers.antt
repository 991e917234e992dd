use Rattle.std.proofs.Common.{refl, subst}
use Rattle.std.specs.List.{AllByRecursion}
use Rattle.dwarf_base.specs.Reads.{IsRestOf}
use Rattle.dwarf_eval.proofs.MachineViews.{callers-push, all_but_last}
use Rattle.dwarf_eval.proofs.run.machine.Machine.pop_caller.Goals as goal

pub invariant_of-self-2 : goal.invariant_of-self-2
invariant_of-self-2 g c =
    let R = g.row.R.Denot in
    let P = λ (f : R × R). IsRestOf (g.R.Reader.text f.0) (g.R.Reader.text f.1) in
    let h = all_but_last P (g.S.ExpressionStack.ArrayLike.items c.pop.new.self) c.in-Some.caller (subst (AllByRecursion P) c.in-Some.ensures.items c.self.invariant.callers) in
    record { mask = c.self.invariant.mask; width = c.self.invariant.width; here = h.1; callers = h.0 }

pub returns : goal.returns
returns g c = rw (← c.self.view_is) (_, _, callers-push g.R.Reader.text c.in-Some.caller _ _ c.in-Some.ensures.items, rw c.pop.ensures.limit refl)
