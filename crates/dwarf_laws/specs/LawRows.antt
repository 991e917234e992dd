-- Abbreviations for the worked rows: computed evaluations, and tight bounds (DWARF 5, sections 2.5 and 2.6).
use Rattle.std.specs.Prelude.{ℕ, ◌≡◌, ◌≢◌, List, [], ◌∷◌, ◌++◌, Some, false, map, None}
use Rattle.std.specs.List.{AllZip}
use Rattle.dwarf_base.specs.Faults.{Fault}
use Rattle.dwarf_meaning.specs.Operations.{UnitRef}
use Rattle.dwarf_meaning.specs.Requests.{Request, RequiresAtLocation, Answer, Input}
use Rattle.dwarf_meaning.specs.Stores.{Setup, Located}
use Rattle.dwarf_meaning.specs.Meaning.{Outcome, FaultOutcome, First, course_of, meaning, fresh_store}
use Rattle.dwarf_meaning.specs.Steps.{Step, Evaluate, Resume, outcome_of, AllAllowed, after_steps, Reply, replies_of, empty_log}
use Rattle.dwarf_meaning.specs.RowWords.{text, no_limits, dwarf4, unset}
use Rattle.dwarf_meaning.specs.Refusals.{Refusal, Never}
use Rattle.dwarf_meaning.specs.Agreement.{AgreeingSteps, AgreeingOutcomes}
use Rattle.dwarf_laws.specs.Inlining.{CallSite, outer_text, inlined_text, with_answer, StandsIn, IsInlinable, LeadsToCall, EndAlike}
use Rattle.dwarf_base.specs.declared.errors.Error.TheVariants.{InvalidPiece}
use Rattle.dwarf_value.specs.declared.types.Value.{Value}
use Rattle.dwarf_meaning.specs.Locations.{Location, Piece}
use Rattle.dwarf_meaning.specs.Run.{Position, Course, FaultEnd}
use Rattle.dwarf_meaning.specs.Rest.{State, Running, FaultStatus}
use Rattle.dwarf_meaning.specs.Bounds.{Spends}

-- the start of an evaluation, and then these answers
abbrev pub started_steps : List Answer → List Step
started_steps answers = Evaluate ∷ map Resume answers

-- Steps from the beginning, each of them allowed; their replies and their outcome.
pub record ComeTo (setup : Setup) (bytes : List ℕ) (steps : List Step) (replied : List Reply)
    (outcome : Outcome) : Type 0 where
  pub allowed : AllAllowed setup Never (text bytes) empty_log steps
  pub replies : replies_of setup Never (text bytes) empty_log steps ≡ replied
  pub comes : outcome_of setup Never (text bytes) (after_steps setup Never (text bytes) empty_log steps) ≡ Some outcome

-- Two runs by agreeing steps, for addresses of 4 bytes; their replies, which are the same, and the outcome of each.
pub record ComeAlike (setup : Setup) (bytes : List ℕ) (steps others : List Step) (replied : List Reply)
    (outcome other : Outcome) : Type 0 where
  pub agree : AllZip (AgreeingSteps 32) steps others
  pub one : ComeTo setup bytes steps replied outcome
  pub another : ComeTo setup bytes others replied other

-- ---- called texts

-- the call of the entry at offset 5, between other bytes, and the bytes that answer it
abbrev pub call_site : (before beyond callee : List ℕ) → CallSite
call_site before beyond callee =
    record { before = before; call = 0x98 ∷ 0x05 ∷ 0x00 ∷ []; beyond = beyond; callee = callee; is_big = false }

-- Every premise of the law holds for evaluations without settings. These are the outcomes of both texts, and their
-- requests before the call and after it.
pub record IsWorked (site : CallSite) (earlier later : List Input) (before after : List Request)
    (outcome : Outcome) : Type 0 where
  pub unlimited : dwarf4.limits ≡ no_limits
  pub stands : StandsIn dwarf4 site (UnitRef 5)
  pub inlinable : IsInlinable dwarf4 site
  pub leads : LeadsToCall dwarf4 site (UnitRef 5) unset earlier before
  pub faultless : (fault : Fault)
      → meaning dwarf4 Never (outer_text site) unset (with_answer site unset earlier later) ≢ FaultOutcome fault
  pub outer_comes : meaning dwarf4 Never (outer_text site) unset (with_answer site unset earlier later) ≡ outcome
  pub inlined_comes : meaning dwarf4 Never (inlined_text site) unset (earlier ++ later) ≡ outcome
  pub outer_asks :
      (course_of dwarf4 Never (outer_text site) unset (with_answer site unset earlier later)).requests
      ≡ before ++ (RequiresAtLocation (UnitRef 5) ∷ after)
  pub inlined_asks : (course_of dwarf4 Never (inlined_text site) unset (earlier ++ later)).requests ≡ before ++ after

-- ---- why the laws have their premises

-- Two runs of one text, for addresses of 4 bytes, and the outcome of each. The outcomes don't agree.
pub record Disagree (setup other : Setup) (refusal another : Refusal) (bytes : List ℕ) (first second : First)
    (inputs others : List Input) (outcome another_outcome : Outcome) : Type 0 where
  pub one_comes : meaning setup refusal (text bytes) first inputs ≡ outcome
  pub other_comes : meaning other another (text bytes) second others ≡ another_outcome
  pub differ : AgreeingOutcomes 32 outcome another_outcome → ⊥

-- Two texts, and the outcome of each with its own inputs. They don't end alike.
pub record EndUnlike (setup : Setup) (bytes others : List ℕ) (first : First) (inputs later : List Input)
    (outcome another_outcome : Outcome) : Type 0 where
  pub outer_comes : meaning setup Never (text bytes) first inputs ≡ outcome
  pub inlined_comes : meaning setup Never (text others) first later ≡ another_outcome
  pub differ : EndAlike outcome another_outcome → ⊥

-- ---- how tight the bounds are (DWARF 5, section 2.5)

-- an evaluation with these counts of operations and of decodings, and these values, callers and pieces
abbrev pub sample : (count decodings : ℕ) → List Value → List Position → List Piece → State
sample count decodings values callers pieces = record {
  status = Running;
  setup = dwarf4;
  text = text [];
  place = 0;
  callers = callers;
  store = record (fresh_store unset Never) { values = values; pieces = pieces; count = count };
  decodings = decodings;
}

-- a piece of 8 bits at this location
abbrev pub byte_at : Location → Piece
byte_at location = record { size_in_bits = Some 8; bit_offset = None; location = location }

-- the same state after a fault
abbrev pub in_fault : State → State
in_fault x = record x { status = FaultStatus InvalidPiece }

-- the same state with a location that waits for its piece
abbrev pub with_waiting : Location → State → State
with_waiting location x = record x { store = record x.store { last = Located location } }

-- a run whose counted operations are at these positions
abbrev pub course_over : List Position → Course
course_over path = record { path = path; requests = []; end = FaultEnd InvalidPiece }

-- From the start, an evaluation may reach the first state, but not its neighbour.
pub record IsTight (new neighbour : State) : Type 0 where
  pub holds : Spends 0 (sample 0 0 [] [] []) new
  pub fails : Spends 0 (sample 0 0 [] [] []) neighbour → ⊥
