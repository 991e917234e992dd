-- The outcome by the inputs and the start alone.
use Rattle.std.specs.Prelude.{List, Option, option_map}
use Rattle.dwarf_base.specs.Reads.{Text}
use Rattle.dwarf_meaning.specs.Requests.{Input}
use Rattle.dwarf_meaning.specs.Stores.{Setup}
use Rattle.dwarf_meaning.specs.Meaning.{Outcome, First, meaning}
use Rattle.dwarf_meaning.specs.Refusals.{Refusal}

abbrev pub outcome_from : Setup → Refusal → Text → List Input → Option First → Option Outcome
outcome_from setup refusal text inputs start = option_map (λ first. meaning setup refusal text first inputs) start
