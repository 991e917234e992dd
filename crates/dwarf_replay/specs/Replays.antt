-- What the steps of an evaluation lead to, one after another (DWARF 5, section 2.5).
use Rattle.std.specs.Prelude.{ℕ, suc, ◌≡◌, List, [], ◌∷◌, ◌++◌, Option, Some, None, map, take, length, slice_get}
use Rattle.dwarf_base.specs.Faults.{Fault, fault_of}
use Rattle.dwarf_base.specs.Reads.{Text}
use Rattle.dwarf_meaning.specs.Requests.{Request}
use Rattle.dwarf_meaning.specs.Refusals.{Refusal, MayPick}
use Rattle.dwarf_meaning.specs.Run.{Position}
use Rattle.dwarf_meaning.specs.Meaning.{Outcome, RequestOutcome, FaultOutcome, CompleteOutcome}
use Rattle.dwarf_meaning.specs.Rest.{State, Status, Start, RequestStatus, CompleteStatus, FaultStatus, first_of}
use Rattle.dwarf_meaning.specs.Steps as meaning
use Rattle.dwarf_meaning.specs.Steps.{Log, Reply, Allows, AreDone, replies_of, outcome_of}
use Rattle.dwarf_eval.specs.Evaluation.{reply_of}
use Rattle.dwarf_eval.specs.Lists.{MayRefuse}
use Rattle.dwarf_replay.specs.Stepping.{step_of}
use Rattle.dwarf_replay.specs.declared.steps.Step.{Step}
use Rattle.dwarf_replay.specs.declared.steps.Answer.{Answer}
use Rattle.dwarf_replay.specs.declared.steps.Replayed.{Replayed}
use Rattle.dwarf_replay.specs.declared.steps.Replayed.TheVariants as replayed

-- maps steps in the code to the definitions
abbrev pub steps_of : {R : Type 0} → (R → Text) → List (Step R) → List meaning.Step
steps_of text steps = map (step_of text) steps

module _ {R O : Type 0} (text : R → Text) (number : O → ℕ) where
  -- the reply in an item of the list
  abbrev pub reply_in : Answer R O → Reply
  reply_in answer = reply_of text number answer.0

  -- the replies in the list
  abbrev pub replies_in : List (Answer R O) → List Reply
  replies_in given = map reply_in given

-- the log before any step, with the settings of a state
abbrev pub log_at : State → Log
log_at x = record { now = first_of x None; first = None; inputs = [] }

-- ---- where an evaluation stands

-- it waits in this request, with these open texts
abbrev pub IsInRequest : Request → List Position → State → Status → Type 0
IsInRequest request positions x (RequestStatus open_request on_answer) =
    (open_request ≡ request) × (positions ≡ record { text = x.text; place = x.place } ∷ x.callers)
IsInRequest request positions x _ = ⊥

-- it met this fault
abbrev pub IsInFault : Fault → Status → Type 0
IsInFault fault (FaultStatus error) = fault_of error ≡ fault
IsInFault fault _ = ⊥

-- The evaluation is where the steps lead: not started yet, in a request, at a fault, or complete with pieces and a
-- value. Until it is over, its settings are those that were set last.
abbrev pub StandsAt : Log → State → Option Outcome → Type 0
StandsAt log x None = (x.status ≡ Start log.now.initial_value) × (x.store.settings ≡ log.now.settings)
StandsAt log x (Some (RequestOutcome request positions)) =
    IsInRequest request positions x x.status × (x.store.settings ≡ log.now.settings)
StandsAt log x (Some (FaultOutcome fault)) = IsInFault fault x.status
StandsAt log x (Some (CompleteOutcome pieces value)) = (x.status ≡ CompleteStatus value) × (x.store.pieces ≡ pieces)

-- the steps are done from this state on, with this refusal
abbrev pub AreDoneFrom : State → List meaning.Step → List Reply → Log → Refusal → Type 0
AreDoneFrom old steps replies log refusal = AreDone old.setup refusal old.text (log_at old) steps replies log

-- ---- replay

-- All steps were allowed and done, with some refusal or none. These are their replies, and the evaluation stands where
-- they lead.
pub record DoesAll (old : State) (steps : List meaning.Step) (replies : List Reply) (new : State) : Type 0 where
  pub refusal : Refusal
  pub may : MayPick old.setup.limits refusal
  pub log : Log
  pub are_done : AreDoneFrom old steps replies log refusal
  pub stands : StandsAt log new (outcome_of old.setup refusal old.text log)

-- the steps before this one were done, and this one isn't allowed
pub record StopsAt (index : ℕ) (old : State) (steps : List meaning.Step) (replies : List Reply)
    (new : State) : Type 0 where
  pub does_all : DoesAll old (take index steps) replies new
  pub step : meaning.Step
  pub is_next : slice_get steps index ≡ Some step
  pub misplaced : Allows does_all.log (outcome_of old.setup does_all.refusal old.text does_all.log) step → ⊥

-- the steps up to this one were done, and the list had no room for its reply
pub record OverflowsAt (index : ℕ) (answer : Reply) (limit : Option ℕ) (old : State) (steps : List meaning.Step)
    (replies : List Reply) (new : State) : Type 0 where
  pub does_all : DoesAll old (take (suc index) steps) (replies ++ answer ∷ []) new
  pub before : replies ≡ replies_of old.setup does_all.refusal old.text (log_at old) (take index steps)
  pub inside : (step : meaning.Step) × (slice_get steps index ≡ Some step)
  pub full : MayRefuse limit (length replies)

module _ {R O : Type 0} (text : R → Text) (number : O → ℕ) where
  -- what holds by the end of a replay: all steps were done, one isn't allowed, or a reply had no room
  abbrev pub Replays : Option ℕ → State → List (Step R) → List (Answer R O) → State → Replayed R O → Type 0
  Replays limit old steps given new replayed.Done =
      DoesAll old (steps_of text steps) (replies_in text number given) new
  Replays limit old steps given new (replayed.Misplaced index) =
      StopsAt index old (steps_of text steps) (replies_in text number given) new
  Replays limit old steps given new (replayed.NoRoom index answer) =
      OverflowsAt index (reply_in text number answer) limit old (steps_of text steps) (replies_in text number given) new
