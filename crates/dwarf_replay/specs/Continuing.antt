-- What a caller needs to know to go on by hand after a replay (DWARF 5, section 2.5).
use Rattle.std.specs.Prelude.{ℕ, suc, ◌≡◌, List, [], ◌∷◌, ◌++◌, Some, take, length}
use Rattle.dwarf_base.specs.Reads.{Text}
use Rattle.dwarf_meaning.specs.Requests.{Input}
use Rattle.dwarf_meaning.specs.Refusals.{Refusal, IsLater, before_inputs}
use Rattle.dwarf_meaning.specs.Rest.{State, Status, Start, Running, RequestStatus, CompleteStatus, FaultStatus, total}
use Rattle.dwarf_meaning.specs.Steps as meaning
use Rattle.dwarf_meaning.specs.Steps.{InitialValue, Log, Reply, outcome_of}
use Rattle.dwarf_replay.specs.Replays.{reply_in, replies_in, steps_of, AreDoneFrom}
use Rattle.dwarf_replay.specs.declared.steps.Answer.{Answer}
use Rattle.dwarf_replay.specs.declared.steps.Replayed.{Replayed}
use Rattle.dwarf_replay.specs.declared.steps.Replayed.TheVariants as replayed
use Rattle.dwarf_replay.specs.declared.steps.Step.{Step}

-- ---- the steps that were done

-- the steps that were done: all steps; the steps before the one that isn't allowed; or the steps up to the one whose
-- reply had no room
abbrev pub done_steps : {R O : Type 0} → (R → Text) → List (Step R) → Replayed R O → List meaning.Step
done_steps text steps replayed.Done = steps_of text steps
done_steps text steps (replayed.Misplaced index) = take index (steps_of text steps)
done_steps text steps (replayed.NoRoom index answer) = take (suc index) (steps_of text steps)

-- the replies to these steps: those in the list, and the one that had no room
abbrev pub done_replies : {R O : Type 0} → (R → Text) → (O → ℕ) → List (Answer R O) → Replayed R O → List Reply
done_replies text number given replayed.Done = replies_in text number given
done_replies text number given (replayed.Misplaced index) = replies_in text number given
done_replies text number given (replayed.NoRoom index answer) =
    replies_in text number given ++ reply_in text number answer ∷ []

-- 1 if one of the steps sets an initial value
abbrev pub initial_items : List meaning.Step → ℕ
initial_items [] = 0
initial_items (InitialValue number ∷ steps) = 1
initial_items (step ∷ steps) = initial_items steps

-- ---- the rest

-- It wasn't started: the setup and the text are the old ones, and the steps are done in this way whichever push is
-- refused.
pub record IsUnbegun (old : State) (steps : List meaning.Step) (replies : List Reply) (new : State) : Type 0 where
  pub log : Log
  pub setup : new.setup ≡ old.setup
  pub text : new.text ≡ old.text
  pub alike : (r : Refusal) → AreDoneFrom old steps replies log r

-- It was started and met no fault: the setup is the old one, and the steps are done in this way whichever push after
-- these inputs is refused. If more inputs are given, it comes to the outcome that the meaning has for all inputs.
pub record IsLeft (old : State) (steps : List meaning.Step) (replies : List Reply) (new : State) : Type 0 where
  pub log : Log
  pub setup : new.setup ≡ old.setup
  pub alike : (r : Refusal) → IsLater r → AreDoneFrom old steps replies log (before_inputs (length log.inputs) r)
  pub more : (r : Refusal) (inputs : List Input) → IsLater r →
      outcome_of old.setup (before_inputs (length log.inputs) r) old.text
      (record log { inputs = log.inputs ++ inputs }) ≡ Some (total new r inputs).outcome

-- what the evaluation comes to, by its status
abbrev pub Leaves : State → List meaning.Step → List Reply → State → Status → Type 0
Leaves old steps replies new (Start initial_value) = IsUnbegun old steps replies new
Leaves old steps replies new (RequestStatus request on_answer) = IsLeft old steps replies new
Leaves old steps replies new (CompleteStatus value) = IsLeft old steps replies new
Leaves old steps replies new (FaultStatus error) = Unit {0}
Leaves old steps replies new Running = ⊥
