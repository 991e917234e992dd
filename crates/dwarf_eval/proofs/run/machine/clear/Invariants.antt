use Rattle.std.specs.Prelude.{◌≡◌, length}
use Rattle.dwarf_eval.proofs.run.machine.clear.Given as goal

abbrev pub invariant-loop-list : goal.invariant-loop-list
invariant-loop-list g l = g.L.ArrayLike.limit l.list ≡ g.L.ArrayLike.limit l.fn.list

abbrev pub decreases-loop-list : goal.decreases-loop-list
decreases-loop-list g l = length (g.L.ArrayLike.items l.list)
