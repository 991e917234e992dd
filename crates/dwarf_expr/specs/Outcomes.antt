-- What the calls of an evaluation give, by the meaning of its text (DWARF 5, sections 2.5 and 2.6).
use Rattle.std.specs.Prelude.{ℕ, ◌≡◌, ◌⊎◌, List, [], ◌∷◌, ◌++◌, length, Some, Result, Ok, Err}
use Rattle.dwarf_base.specs.declared.errors.Error.{Error}
use Rattle.dwarf_base.specs.declared.errors.Error.TheVariants.{StackFull}
use Rattle.dwarf_base.specs.Faults.{fault_of}
use Rattle.dwarf_base.specs.Reads.{Text}
use Rattle.dwarf_meaning.specs.Requests.{Answer, Input, Request}
use Rattle.dwarf_meaning.specs.Kinds.{kind_of_request, kind_of_answer}
use Rattle.dwarf_meaning.specs.Stores.{Setup}
use Rattle.dwarf_meaning.specs.Inputs.{fresh_state}
use Rattle.dwarf_meaning.specs.Meaning.{Outcome, RequestOutcome, FaultOutcome, CompleteOutcome, First, meaning}
use Rattle.dwarf_meaning.specs.Rest.{State, Start, CompleteStatus, FaultStatus, total}
use Rattle.dwarf_meaning.specs.Bounds.{faults_in}
use Rattle.dwarf_meaning.specs.Refusals.{Refusal, Never, IsLater, before_inputs}
use Rattle.dwarf_meaning.specs.RowWords.{no_limits, inputs_of, unset}
use Rattle.dwarf_meaning.specs.Run.{Position}
use Rattle.dwarf_meaning.specs.Steps.{Step, Evaluate, Resume}
use Rattle.dwarf_eval.specs.Evaluation.{Evaluates, request_in}
use Rattle.dwarf_eval.specs.Permits.{IsOpenFor, AnswersWith}
use Rattle.dwarf_eval.specs.declared.op.results.EvaluationResult.{EvaluationResult}
use Rattle.dwarf_eval.specs.declared.op.results.EvaluationResult.TheVariants as result
use Rattle.dwarf_replay.specs.Replays.{IsInRequest, IsInFault}

-- the same setup without limits
abbrev pub unlimited : Setup → Setup
unlimited setup = record setup { limits = no_limits }

-- An evaluation of this text, with these settings, that wasn't started. Its lists may have limits.
pub record IsUnstarted (setup : Setup) (text : Text) (first : First) (x : State) : Type 0 where
  pub setup_is : unlimited x.setup ≡ setup
  pub text_is : x.text ≡ text
  pub status_is : x.status ≡ Start first.initial_value
  pub settings_are : x.store.settings ≡ first.settings

-- An evaluation of this text, with these settings, that has taken these inputs and met no fault: whatever inputs
-- follow, and whichever push after these inputs is refused, it comes to the outcome that the meaning has for all inputs.
pub record HasTaken (setup : Setup) (text : Text) (first : First) (inputs : List Input) (x : State) : Type 0 where
  pub setup_is : unlimited x.setup ≡ setup
  pub settings_are : x.store.settings ≡ first.settings
  pub clear : faults_in x.status ≡ 0
  pub comes : (r : Refusal) (later : List Input) → IsLater r
      → (total x r later).outcome ≡ meaning x.setup (before_inputs (length inputs) r) text first (inputs ++ later)

-- a push was refused
abbrev pub IsFull : Error → State → Type 0
IsFull error x = (error ≡ StackFull) × (x.status ≡ FaultStatus StackFull)

module _ {R O : Type 0} (view : R → Text) (number : O → ℕ) (setup : Setup) (text : Text) (first : First)
    (inputs : List Input) where
  -- A call's result and the state after it. A request is open, and the evaluation has taken these inputs; it is
  -- complete, with these pieces and this value; it met this fault; or a push was refused.
  abbrev pub GivesBy : Outcome → Result (EvaluationResult R O) Error → State → Type 0
  GivesBy (RequestOutcome request positions) (Ok replied) x =
      (request_in view number replied ≡ Some request) × IsOpenFor (kind_of_request request) x.status
      × IsInRequest request positions x x.status × HasTaken setup text first inputs x
  GivesBy (CompleteOutcome pieces value) (Ok replied) x =
      (replied ≡ result.Complete) × (x.status ≡ CompleteStatus value) × (x.store.pieces ≡ pieces)
  GivesBy (FaultOutcome fault) (Ok replied) x = ⊥
  GivesBy (FaultOutcome fault) (Err error) x =
      ((fault_of error ≡ fault) × IsInFault fault x.status) ⊎ IsFull error x
  GivesBy _ (Err error) x = IsFull error x

-- In an evaluation of this text with these settings, the call after these inputs gives this outcome, or `StackFull` if
-- a push is refused.
pub record GivesOutcome {R O : Type 0} (view : R → Text) (number : O → ℕ) (setup : Setup) (text : Text) (first : First)
    (inputs : List Input) (outcome : Outcome) (replied : Result (EvaluationResult R O) Error) (x : State) : Type 0 where
  pub by_outcome : GivesBy view number setup text first inputs outcome replied x

-- ---- the laws

module _ {R O : Type 0} (view : R → Text) (number : O → ℕ) (old : State) where
  -- At the start, `evaluate` gives the outcome that the meaning has without limits, refused pushes and inputs.
  abbrev pub EvaluateGives : Type 0
  EvaluateGives =
      (setup : Setup) (text : Text) (first : First) (outcome : Outcome)
      (replied : Result (EvaluationResult R O) Error) (new : State)
      → IsUnstarted setup text first old → Evaluates view number old new replied old.status
      → meaning setup Never text first [] ≡ outcome
      → GivesOutcome view number setup text first [] outcome replied new

  -- In a request, the resume with an answer gives the outcome for one more input.
  abbrev pub ResumeGives : Type 0
  ResumeGives =
      (setup : Setup) (text : Text) (first : First) (inputs : List Input) (answer : Answer) (outcome : Outcome)
      (replied : Result (EvaluationResult R O) Error) (new : State)
      → HasTaken setup text first inputs old → IsOpenFor (kind_of_answer answer) old.status
      → AnswersWith view number answer old new replied
      → meaning setup Never text first (inputs ++ record { settings = first.settings; answer = answer } ∷ []) ≡ outcome
      → GivesOutcome view number setup text first (inputs ++ record { settings = first.settings; answer = answer } ∷ [])
      outcome replied new

-- ---- the outcome of one text, with nothing set

-- the answers of a step: that of a resume
abbrev pub answers_in : Step → List Answer
answers_in (Resume answer) = answer ∷ []
answers_in _ = []

-- the inputs of a step, with nothing set
abbrev pub inputs_in : Step → List Input
inputs_in step = inputs_of unset (answers_in step)

-- the outcome for these inputs, without limits and refused pushes
abbrev pub outcome_of : Setup → Text → List Input → Outcome
outcome_of setup text inputs = meaning setup Never text unset inputs

module _ {R O : Type 0} (view : R → Text) (number : O → ℕ) (setup : Setup) (text : Text) where
  -- `evaluate` gave this result in a fresh evaluation of this text, whose lists may have limits.
  pub record IsEvaluated (replied : Result (EvaluationResult R O) Error) (new : State) : Type 0 where
    pub old : State
    pub old_setup : Setup
    pub is_fresh : old ≡ fresh_state old_setup text
    pub setup_is : unlimited old_setup ≡ setup
    pub evaluates : Evaluates view number old new replied old.status

  -- This answer gave this result, after a first request of an evaluation of this text.
  pub record IsAnswered (answer : Answer) (replied : Result (EvaluationResult R O) Error) (new : State) : Type 0 where
    pub old : State
    pub old_text : Text
    pub request : Request
    pub positions : List Position
    pub asked : EvaluationResult R O
    pub first : Result (EvaluationResult R O) Error
    pub gives : GivesOutcome view number setup old_text unset [] (RequestOutcome request positions) first old
    pub text_is : text ≡ old_text
    pub first_is : first ≡ Ok asked
    pub kind_is : kind_of_request request ≡ kind_of_answer answer
    pub answers : AnswersWith view number answer old new replied

  -- The step gave this result: `evaluate` at the start, or a resume after one request.
  abbrev pub IsResultOf : Step → Result (EvaluationResult R O) Error → State → Type 0
  IsResultOf Evaluate replied new = IsEvaluated replied new
  IsResultOf (Resume answer) replied new = IsAnswered answer replied new
  IsResultOf _ replied new = ⊥
