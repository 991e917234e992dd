use Rattle.std.proofs.Common.{◌≡◌, Bool, true, refl, sym, ◌∙◌, subst}
use Rattle.dwarf_meaning.specs.Meaning.{finish}
use Rattle.dwarf_meaning.specs.RunLaws.{waits_of}
use Rattle.dwarf_meaning.specs.Rest.{State, Status, Running}
use Rattle.dwarf_eval.specs.inner.StateChanges.{Closes, GoesBack, is_running}
use Rattle.dwarf_eval.proofs.Finishing.{back_turned, finish_turns}
use Rattle.dwarf_eval.proofs.Reaching.{comes_more, comes_over}
use Rattle.dwarf_eval.proofs.run.machine.Machine.run_on.Goals as goal

runs_in : (status : Status) → is_running status ≡ true → status ≡ Running
runs_in Running is = refl
runs_in _ is = cc

pub loop-self-init : goal.loop-self-init
loop-self-init g c = λ from totals came. came

pub loop-self-preserved-then-not-pop_caller : goal.loop-self-preserved-then-not-pop_caller
loop-self-preserved-then-not-pop_caller g c = λ from totals came.
    let x : State = c.loop-self.self in
    let runs = sym c.is_running.ensures ∙ c.loop-self-test.true in
    let h = subst (λ (b : Bool). GoesBack b x c.pop_caller.new.self) c.if-not-pop_caller.true c.pop_caller.ensures in
    let turn = finish_turns x (runs_in x.status runs) (c.is_at_end.ensures.ends c.if-is_at_end.true) c.finish.new.self h.0 (subst (λ (z : State). Closes (waits_of z.store.last) (finish z.setup) z c.finish.new.self) h.1 c.finish.ensures) in
    comes_more from totals x c.finish.new.self runs (c.loop-self.invariant from totals came) turn.comes

pub loop-self-preserved-else-not-pop_caller : goal.loop-self-preserved-else-not-pop_caller
loop-self-preserved-else-not-pop_caller g c = λ from totals came.
    let x : State = c.loop-self.self in
    let runs = sym c.is_running.ensures ∙ c.loop-self-test.true in
    let turn = back_turned x (runs_in x.status runs) (c.is_at_end.ensures.ends c.if-is_at_end.true) c.pop_caller.new.self (subst (λ (b : Bool). GoesBack b x c.pop_caller.new.self) c.if-not-pop_caller.false c.pop_caller.ensures) in
    comes_more from totals x c.pop_caller.new.self runs (c.loop-self.invariant from totals came) turn.comes

pub loop-self-preserved : goal.loop-self-preserved
loop-self-preserved g c = λ from totals came.
    comes_more from totals c.loop-self.self c.turn.new.self (sym c.is_running.ensures ∙ c.loop-self-test.true) (c.loop-self.invariant from totals came) c.turn.ensures.comes

pub returns : goal.returns
returns g c = λ from totals came.
    let now = c.loop-self.invariant from totals came in
    (now, comes_over from totals c.loop-self.self (sym c.is_running.ensures ∙ c.loop-self-test.false) now)
