-- The outcome of an expression with the settings of a caller in C (DWARF 5, sections 2.5 and 2.6).
use Rattle.std.specs.Prelude.{◌≡◌, List, Option, Some, None, length}
use Rattle.dwarf_base.specs.declared.common.Encoding.{Encoding}
use Rattle.dwarf_base.specs.Reads.{Text}
use Rattle.dwarf_meaning.specs.Inputs.{fresh_state}
use Rattle.dwarf_meaning.specs.Meaning.{Outcome, RequestOutcome, FaultOutcome, CompleteOutcome}
use Rattle.dwarf_meaning.specs.Refusals.{Limits, Never}
use Rattle.dwarf_meaning.specs.Rest.{State}
use Rattle.dwarf_meaning.specs.Steps.{AllAllowed, Log, Step, after_steps, outcome_of}
use Rattle.dwarf_meaning.specs.Stores.{Setup}
use Rattle.dwarf_replay.specs.Replays.{log_at}
use Rattle.dwexpr_c.specs.Codes.{code_of_fault, number_of_fault}
use Rattle.dwexpr_c.specs.Outcomes.{AreWritten, ShowsRequest, complete_outcome, ended_outcome}
use Rattle.dwexpr_c.specs.declared.faults.TheConstants as codes
use Rattle.dwexpr_c.specs.declared.outcomes.DwexprOutcome.{DwexprOutcome}
use Rattle.dwexpr_c.specs.declared.pieces.DwexprPiece.{DwexprPiece}
use Rattle.dwexpr_c.specs.declared.texts.DwexprText.{DwexprText}

-- how many values, callers and pieces an evaluation holds at most
abbrev pub capacities : Limits
capacities = record { values = Some 64; callers = Some 16; pieces = Some 32 }

-- an encoding, with those limits
abbrev pub limited_setup : Encoding → Setup
limited_setup encoding = record { encoding = encoding; offset_bits = 64; limits = capacities }

-- the log of a fresh evaluation once the steps are done
abbrev pub log_by : State → List Step → Log
log_by first steps = after_steps first.setup Never first.text (log_at first) steps

-- the outcome by a log; no push is refused before a limit is met
abbrev pub outcome_by : State → Log → Option Outcome
outcome_by first log = outcome_of first.setup Never first.text log

-- the outcome of the steps
abbrev pub comes_of : State → List Step → Option Outcome
comes_of first steps = outcome_by first (log_by first steps)

-- what is shown of the outcome, and what is written to the caller's array of pieces
abbrev pub ShowsOutcome : List DwexprText → Option Outcome → DwexprOutcome → (old new : List DwexprPiece) → Type 0
ShowsOutcome texts (Some (RequestOutcome request positions)) out old new = ShowsRequest texts request out × (new ≡ old)
ShowsOutcome texts (Some (CompleteOutcome pieces value)) out old new =
    (out ≡ complete_outcome (length pieces) value) × AreWritten texts pieces old new
ShowsOutcome texts (Some (FaultOutcome fault)) out old new =
    (out ≡ ended_outcome (code_of_fault fault) (number_of_fault fault)) × (new ≡ old)
ShowsOutcome texts None out old new = ⊥

-- each of the steps is allowed in its turn, and their outcome is shown
pub record Evaluates (first : State) (texts : List DwexprText) (steps : List Step) (out : DwexprOutcome)
    (old new : List DwexprPiece) : Type 0 where
  pub allowed : AllAllowed first.setup Never first.text (log_at first) steps
  pub shown : ShowsOutcome texts (comes_of first steps) out old new

-- the first of the texts is evaluated, if there is one
abbrev pub EvaluatesFirst : Encoding → (first : Option Text) → List DwexprText → List Step → DwexprOutcome
    → (old new : List DwexprPiece) → Type 0
EvaluatesFirst encoding None texts steps out old new = (out ≡ ended_outcome codes.BAD_TEXT 0) × (new ≡ old)
EvaluatesFirst encoding (Some text) texts steps out old new =
    Evaluates (fresh_state (limited_setup encoding) text) texts steps out old new
