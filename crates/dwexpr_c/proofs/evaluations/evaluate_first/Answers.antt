use Rattle.std.proofs.Common.{ap, ◌∙◌}
use Rattle.dwarf_meaning.specs.Rest.{State}
use Rattle.dwarf_meaning.specs.Stores.{Setup}
use Rattle.dwexpr_c.proofs.evaluations.evaluate_first.Goals as goal

pub returns-in-Some-text_at-clause-capacities : goal.returns-in-Some-text_at-clause-capacities
returns-in-Some-text_at-clause-capacities c =
    ap (λ (s : Setup). s.limits) c.evaluate.ensures.done.setup ∙ ap (λ (x : State). x.setup.limits) c.restart.ensures.fresh
