-- The meaning of an expression, given the settings and the answers of its caller (DWARF 5, sections 2.5, 2.6.1.1 and
-- 2.6.1.2).
use Rattle.std.specs.Prelude.{Bool, true, false, ℕ, List, [], ◌∷◌, Option, Some, None, Result, Ok, Err, if◌then◌else◌}
use Rattle.dwarf_base.specs.Faults.{Fault}
use Rattle.dwarf_base.specs.declared.errors.Error.TheVariants.{InvalidPiece, NotEnoughStackItems}
use Rattle.dwarf_base.specs.Reads.{Text}
use Rattle.dwarf_value.specs.declared.types.Value.{Value}
use Rattle.dwarf_value.specs.declared.types.Value.TheVariants.{Generic}
use Rattle.dwarf_value.specs.Values.{to_u64_of}
use Rattle.dwarf_meaning.specs.Locations.{Location, AtAddress, Piece}
use Rattle.dwarf_meaning.specs.Requests.{Request, Settings, Input}
use Rattle.dwarf_meaning.specs.Acts.{on_top}
use Rattle.dwarf_meaning.specs.Stores.{Setup, address_bits, Store, Last, Nothing, Plain, Pushed, Located, push_value, push_piece}
use Rattle.dwarf_meaning.specs.Run.{Position, End, CompleteEnd, RequestEnd, FaultEnd, Course, after_push, run}
use Rattle.dwarf_meaning.specs.Refusals.{Refusal}

-- the outcome of an evaluation
pub data Outcome : Type 0 where
  -- a request, with the open texts, the innermost first, each at the place after the last operation begun in it
  RequestOutcome : Request → List Position → Outcome
  FaultOutcome : Fault → Outcome
  CompleteOutcome : List Piece → Option Value → Outcome

-- the evaluation asks nothing more
abbrev pub IsOver : Outcome → Type 0
IsOver (RequestOutcome request positions) = ⊥
IsOver _ = Unit {0}

-- completion with this value; a fault if the last push was refused
abbrev pub completion_of : Option Value → Result Store Fault → Outcome
completion_of value (Ok s) = CompleteOutcome s.pieces value
completion_of value (Err fault) = FaultOutcome fault

-- ---- the end of the outermost text

-- whether there is a piece
abbrev pub has_pieces : List Piece → Bool
has_pieces [] = false
has_pieces (piece ∷ pieces) = true

-- a piece without size and bit offset, which is the whole variable
abbrev pub whole_piece : Location → Piece
whole_piece location = record { size_in_bits = None; bit_offset = None; location = location }

module _ (setup : Setup) where
  -- the top is the value, and the address of the whole variable
  abbrev pub finish_value : Store → Outcome
  finish_value s =
      on_top s.values (FaultOutcome NotEnoughStackItems) (λ x rest. completion_of (Some x)
      (push_piece setup (whole_piece (AtAddress (to_u64_of (address_bits setup) x))) (record s { values = rest })))

  -- the end, by the last operation: a location describes the whole variable; after pieces neither a location nor a
  -- value may be left
  abbrev pub finish_by : Store → Last → Outcome
  finish_by s (Located location) = if has_pieces s.pieces then FaultOutcome InvalidPiece
      else completion_of None (push_piece setup (whole_piece location) s)
  finish_by s Plain = if has_pieces s.pieces then FaultOutcome InvalidPiece else finish_value s
  finish_by s Pushed = if has_pieces s.pieces then FaultOutcome InvalidPiece else finish_value s
  finish_by s _ = if has_pieces s.pieces then CompleteOutcome s.pieces None else finish_value s

  -- the end of the outermost text
  abbrev pub finish : Store → Outcome
  finish s = finish_by s s.last

-- ---- the meaning

-- the outcome, by the end of the outermost text's run
abbrev pub outcome_of_end : Setup → End → Outcome
outcome_of_end setup (CompleteEnd s inputs) = finish setup s
outcome_of_end setup (RequestEnd request positions inputs) = RequestOutcome request positions
outcome_of_end setup (FaultEnd fault) = FaultOutcome fault

-- the initial value, if there is one, and the settings at the start of an evaluation
pub record First : Type 0 where
  pub initial_value : Option ℕ
  pub settings : Settings

-- the store at the start: empty lists, and the settings
abbrev pub fresh_store : First → Refusal → Store
fresh_store first r =
    record { values = []; pieces = []; count = 0; settings = first.settings; last = Nothing; refusal = r }

-- the initial value is pushed, if there is one
abbrev pub with_initial : Setup → Option ℕ → Store → Result Store Fault
with_initial setup None s = Ok s
with_initial setup (Some number) s = push_value setup (Generic number) s

-- the run of a text from its beginning, given the first settings and the inputs; a fault if the push of the initial
-- value is refused
abbrev pub course_of : Setup → Refusal → Text → First → List Input → Course
course_of setup refusal text first inputs =
    after_push (run setup) (record { text = text; place = 0 }) 0 inputs
    (with_initial setup first.initial_value (fresh_store first refusal))

-- the outcome of a text
unfoldable pub meaning : Setup → Refusal → Text → First → List Input → Outcome
meaning setup refusal text first inputs = outcome_of_end setup (course_of setup refusal text first inputs).end
