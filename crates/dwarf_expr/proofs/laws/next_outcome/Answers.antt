use Rattle.dwarf_expr.proofs.CallOutcomes.{evaluate_gives, resume_gives}
use Rattle.dwarf_expr.proofs.laws.next_outcome.Goals as goal

pub returns : goal.returns
returns g c = record { evaluate = evaluate_gives _ _ _; resume = resume_gives _ _ _ }
