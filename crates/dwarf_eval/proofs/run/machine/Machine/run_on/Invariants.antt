use Rattle.std.specs.Prelude.{List}
use Rattle.dwarf_meaning.specs.Refusals.{Refusal}
use Rattle.dwarf_meaning.specs.Requests.{Input}
use Rattle.dwarf_meaning.specs.Rest.{State}
use Rattle.dwarf_eval.specs.inner.StateChanges.{ComesToState, Total, effort}
use Rattle.dwarf_eval.proofs.run.machine.Machine.run_on.Given as goal

-- what comes to the state at the call comes to the state now
abbrev pub invariant-loop-self : goal.invariant-loop-self
invariant-loop-self g l =
    (from : State) → (totals : Refusal → List Input → Total) → ComesToState from totals l.fn.self → ComesToState from totals l.self

abbrev pub decreases-loop-self : goal.decreases-loop-self
decreases-loop-self g l = effort l.self
