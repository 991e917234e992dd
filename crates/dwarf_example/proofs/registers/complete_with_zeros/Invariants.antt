use Rattle.dwarf_expr.specs.Bounds.{calls_left}
use Rattle.dwarf_example.proofs.registers.complete_with_zeros.Given as goal

abbrev pub decreases-requests : goal.decreases-requests
decreases-requests g l = calls_left l.evaluation
