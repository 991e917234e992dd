-- Two evaluations of one text, each replayed by its own steps: bits above the address size change no request, fault,
-- branch or address (DWARF 5, section 2.5.1).
use Rattle.std.specs.Prelude.{ℕ, ◌<◌, ◌≤◌, ◌≡◌, ◌⊎◌, List, [], ◌∷◌, ◌++◌, Option}
use Rattle.std.specs.List.{AllZip}
use Rattle.dwarf_base.specs.declared.errors.Error.{Error}
use Rattle.dwarf_base.specs.Faults.{fault_of}
use Rattle.dwarf_value.specs.declared.types.Value.{Value}
use Rattle.dwarf_value.specs.Values.{Agree}
use Rattle.dwarf_value.specs.Laws.{IsWidth}
use Rattle.dwarf_meaning.specs.Requests.{Request, OnAnswer}
use Rattle.dwarf_meaning.specs.Stores.{address_bits}
use Rattle.dwarf_meaning.specs.Run.{Position}
use Rattle.dwarf_meaning.specs.Inputs.{fresh_state}
use Rattle.dwarf_meaning.specs.RowWords.{text, dwarf4}
use Rattle.dwarf_meaning.specs.Rest.{State, Start, RequestStatus, CompleteStatus, FaultStatus}
use Rattle.dwarf_meaning.specs.Steps.{Step, Reply}
use Rattle.dwarf_meaning.specs.Refusals.{Refusal, HasFreeList}
use Rattle.dwarf_meaning.specs.Agreement.{Both, AgreeingNumbers, AgreeingSteps, AgreeingSettings, AgreeingPieces}
use Rattle.dwarf_laws.specs.TwoRuns.{NoneIsFull}
use Rattle.dwarf_replay.specs.Replays.{DoesAll, StopsAt, OverflowsAt}

-- ---- the premises

-- one text and one encoding, the same maximum, and agreeing object addresses
pub record AreTwins (x y : State) : Type 0 where
  pub text : x.text ≡ y.text
  pub encoding : x.setup.encoding ≡ y.setup.encoding
  pub offset_bits : x.setup.offset_bits ≡ y.setup.offset_bits
  pub settings : AgreeingSettings (address_bits x.setup) x.store.settings y.store.settings

-- twins, with addresses of 1 to 64 bits, and agreeing steps
pub record MayReplay (x y : State) (steps others : List Step) : Type 0 where
  pub width : IsWidth (address_bits x.setup)
  pub twins : AreTwins x y
  pub agreeing : AllZip (AgreeingSteps (address_bits x.setup)) steps others

-- either the limits are the same, and the refusal too if a list has no limit; or no push was refused
abbrev pub AreComparableReplays : (x y : State) → (refusal another : Refusal) → (replies given : List Reply) → Type 0
AreComparableReplays x y refusal another replies given =
    ((x.setup.limits ≡ y.setup.limits) × (HasFreeList x.setup.limits → refusal ≡ another))
    ⊎ (NoneIsFull replies × NoneIsFull given)

-- ---- the law

-- the open texts, the innermost first, each with its place
abbrev pub open_texts : State → List Position
open_texts x = record { text = x.text; place = x.place } ∷ x.callers

-- Both wait in the same request with the same open texts and places, or met the same fault, or are complete with
-- agreeing pieces and values, or weren't started and have agreeing initial values.
pub data StatesStandAlike (bits : ℕ) (x y : State) : Type 0 where
  unstarted : (number other : Option ℕ) → x.status ≡ Start number → y.status ≡ Start other
      → Both (AgreeingNumbers bits) number other → StatesStandAlike bits x y
  in_request : (request : Request) (on_answer another : OnAnswer) → x.status ≡ RequestStatus request on_answer
      → y.status ≡ RequestStatus request another → open_texts x ≡ open_texts y → StatesStandAlike bits x y
  in_fault : (error other : Error) → x.status ≡ FaultStatus error → y.status ≡ FaultStatus other
      → fault_of error ≡ fault_of other → StatesStandAlike bits x y
  in_completion : (value other : Option Value) → x.status ≡ CompleteStatus value → y.status ≡ CompleteStatus other
      → Both (Agree bits) value other → AllZip (AgreeingPieces bits) x.store.pieces y.store.pieces
      → StatesStandAlike bits x y

-- the first list is a prefix of the second
abbrev pub IsFront : List Reply → List Reply → Type 0
IsFront replies all = (more : List Reply) × (replies ++ more ≡ all)

-- all steps were done, with this refusal
abbrev pub DoesAllWith : Refusal → State → List Step → List Reply → State → Type 0
DoesAllWith refusal old steps replies new = (does_all : DoesAll old steps replies new) × (does_all.refusal ≡ refusal)

-- with this refusal, the steps before this one were done, and this one isn't allowed
abbrev pub FindsMisplaced : (index : ℕ) → Refusal → State → List Step → List Reply → State → Type 0
FindsMisplaced index refusal old steps replies new =
    (stops_at : StopsAt index old steps replies new) × (stops_at.does_all.refusal ≡ refusal)

-- with this refusal, the steps up to this one were done; its reply is the last of these, and had no room
abbrev pub FindsNoRoom : (index : ℕ) → Refusal → State → List Step → List Reply → State → Type 0
FindsNoRoom index refusal old steps replies new =
    (before : List Reply) × (last : Reply) × (limit : Option ℕ)
    × (overflows_at : OverflowsAt index last limit old steps before new)
    × (overflows_at.does_all.refusal ≡ refusal) × (replies ≡ before ++ last ∷ [])

-- What two replays have in common, by how each ended: the replies are the same as long as both go on, and both
-- evaluations stand alike.
pub record ReplayAlike (x y new other : State) (steps others : List Step) (refusal another : Refusal)
    (replies given : List Reply) : Type 0 where
  -- all steps were done on both sides: the replies are the same
  pub done : DoesAllWith refusal x steps replies new → DoesAllWith another y others given other
      → (replies ≡ given) × StatesStandAlike (address_bits x.setup) new other
  -- on both sides a step wasn't allowed: it is the same step, and the replies before it are the same
  pub misplaced : (index second : ℕ) → FindsMisplaced index refusal x steps replies new
      → FindsMisplaced second another y others given other
      → (index ≡ second) × (replies ≡ given) × StatesStandAlike (address_bits x.setup) new other
  -- if all steps were done on one side, each was allowed on the other
  pub not_alone : (index : ℕ)
      → (FindsMisplaced index refusal x steps replies new → DoesAllWith another y others given other → ⊥)
      × (DoesAllWith refusal x steps replies new → FindsMisplaced index another y others given other → ⊥)
  -- All steps were done on the first side, and a reply had no room on the second: the replies of the second side,
  -- including that reply, are a prefix of the first side's.
  pub no_room : (second : ℕ) → DoesAllWith refusal x steps replies new → FindsNoRoom second another y others given other
      → IsFront given replies
  -- The same if a later step on the first side wasn't allowed.
  pub no_room_before : (index second : ℕ) → FindsMisplaced index refusal x steps replies new
      → FindsNoRoom second another y others given other → (second < index) × IsFront given replies
  -- The same if a reply had no room on the first side either, at that step or a later one.
  pub no_room_twice : (index second : ℕ) → FindsNoRoom index refusal x steps replies new
      → FindsNoRoom second another y others given other → second ≤ index → IsFront given replies

-- Comparable replays of twins are alike. Each replay has its own refusal.
abbrev pub TwoReplays : Type 0
TwoReplays =
    (x y new other : State) (steps others : List Step) (refusal another : Refusal) (replies given : List Reply)
    → MayReplay x y steps others → AreComparableReplays x y refusal another replies given
    → ReplayAlike x y new other steps others refusal another replies given

-- ---- a worked row

-- Agreeing steps, in fresh evaluations of one text without limits: both do all steps, with this refusal, and give these
-- replies.
pub record MeetRefusal (refusal : Refusal) (bytes : List ℕ) (steps others : List Step)
    (replied : List Reply) : Type 0 where
  pub agree : AllZip (AgreeingSteps 32) steps others
  pub one : (new : State) × DoesAllWith refusal (fresh_state dwarf4 (text bytes)) steps replied new
  pub another : (new : State) × DoesAllWith refusal (fresh_state dwarf4 (text bytes)) others replied new
