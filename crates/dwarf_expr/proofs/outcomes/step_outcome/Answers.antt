use Rattle.dwarf_expr.proofs.Computing.{outcome_of_step}
use Rattle.dwarf_expr.proofs.outcomes.step_outcome.Goals as goal

pub returns : goal.returns
returns g c = outcome_of_step _ _ _ _ _ _ _ c.requires
