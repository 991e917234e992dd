use Rattle.std.proofs.Common.{ap, ◌∙◌}
use Rattle.dwarf_meaning.specs.Inputs.{fresh_state}
use Rattle.dwarf_meaning.specs.Refusals.{Limits}
use Rattle.dwarf_meaning.specs.Stores.{setup_of}
use Rattle.dwexpr_c.specs.CallerTexts.{text_of_placed}
use Rattle.dwexpr_c.proofs.evaluations.restart.Goals as goal

pub returns-clause-fresh : goal.returns-clause-fresh
returns-clause-fresh c =
    c.restart.ensures
    ∙ ap (λ (l : Limits). fresh_state (setup_of c.args.encoding 64 l.values l.callers l.pieces) (text_of_placed c.args.text)) c.requires.capacities
