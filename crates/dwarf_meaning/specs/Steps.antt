-- The calls of an evaluation, one after another: which are allowed, and what each replies (DWARF 5, section 2.5).
use Rattle.std.specs.Prelude.{ℕ, ◌≡◌, List, [], ◌∷◌, ◌++◌, Option, Some, None, IfSome, option_map, unwrap_or}
use Rattle.dwarf_base.specs.Faults.{Fault}
use Rattle.dwarf_base.specs.Reads.{Text}
use Rattle.dwarf_meaning.specs.Requests.{Request, Answer, Input}
use Rattle.dwarf_meaning.specs.Kinds.{kind_of_request, kind_of_answer}
use Rattle.dwarf_meaning.specs.Stores.{Setup}
use Rattle.dwarf_meaning.specs.Meaning.{Outcome, RequestOutcome, FaultOutcome, CompleteOutcome, IsOver, First, meaning}
use Rattle.dwarf_meaning.specs.Run.{most_operations}
use Rattle.dwarf_meaning.specs.Refusals.{Refusal}

-- a setting, the start, or an answer
pub data Step : Type 0 where
  InitialValue : (number : ℕ) → Step
  ObjectAddress : (address : ℕ) → Step
  MaxIterations : (maximum : ℕ) → Step
  Evaluate : Step
  Resume : (answer : Answer) → Step

-- The log of an evaluation: the current settings, the settings at the start, if it was started, and the inputs since.
pub record Log : Type 0 where
  pub now : First
  pub first : Option First
  pub inputs : List Input

-- no step was done: nothing is set, and nothing was started
abbrev pub empty_log : Log
empty_log = record {
  now = record { initial_value = None; settings = record { object_address = None; maximum = most_operations } };
  first = None;
  inputs = [];
}

-- the outcome that a log leads to, if the evaluation was started
abbrev pub outcome_of : Setup → Refusal → Text → Log → Option Outcome
outcome_of setup refusal text log = option_map (λ first. meaning setup refusal text first log.inputs) log.first

-- ---- which step may come next

-- a request of the answer's kind is open; after a fault every answer is allowed
abbrev pub Awaits : Answer → Option Outcome → Type 0
Awaits answer (Some (RequestOutcome request positions)) = kind_of_request request ≡ kind_of_answer answer
Awaits answer (Some (FaultOutcome fault)) = Unit {0}
Awaits answer _ = ⊥

-- whether a step may come after steps with this outcome; an initial value is set once, before the start
abbrev pub Allows : Log → Option Outcome → Step → Type 0
Allows log outcome (InitialValue number) = (log.first ≡ None) × (log.now.initial_value ≡ None)
Allows log outcome (ObjectAddress address) = Unit {0}
Allows log outcome (MaxIterations maximum) = Unit {0}
Allows log outcome Evaluate = IfSome outcome IsOver
Allows log outcome (Resume answer) = Awaits answer outcome

-- ---- the log after a step

-- the inputs after an answer: it is added with the current settings, but not after a fault
abbrev pub inputs_after : First → List Input → Answer → Option Outcome → List Input
inputs_after now inputs answer (Some (RequestOutcome request positions)) =
    inputs ++ record { settings = now.settings; answer = answer } ∷ []
inputs_after now inputs answer _ = inputs

-- the log after a step; the settings at the start are those of the first start
abbrev pub after : Log → Option Outcome → Step → Log
after log outcome (InitialValue number) = record log { now = record log.now { initial_value = Some number } }
after log outcome (ObjectAddress address) =
    record log { now = record log.now { settings = record log.now.settings { object_address = Some address } } }
after log outcome (MaxIterations maximum) =
    record log { now = record log.now { settings = record log.now.settings { maximum = maximum } } }
after log outcome Evaluate = record log { first = Some (unwrap_or log.first log.now) }
after log outcome (Resume answer) = record log { inputs = inputs_after log.now log.inputs answer outcome }

-- ---- the replies

-- the reply of a call: completion, a request or a fault
pub data Reply : Type 0 where
  CompleteReply : Reply
  RequestReply : Request → Reply
  FaultReply : Fault → Reply

-- the reply that an outcome gives
abbrev pub reply : Outcome → Reply
reply (RequestOutcome request positions) = RequestReply request
reply (CompleteOutcome pieces value) = CompleteReply
reply (FaultOutcome fault) = FaultReply fault

-- the reply, if the evaluation was started
abbrev pub replies : Option Outcome → List Reply
replies None = []
replies (Some outcome) = reply outcome ∷ []

-- the replies of a step: none for a setting, else that of `outcome`, the outcome after the step
abbrev pub step_replies : Step → Option Outcome → List Reply
step_replies Evaluate outcome = replies outcome
step_replies (Resume answer) outcome = replies outcome
step_replies _ outcome = []

module _ (setup : Setup) (refusal : Refusal) (text : Text) where
  -- the log after a step, by the outcome before it
  abbrev pub after_step : Log → Step → Log
  after_step log step = after log (outcome_of setup refusal text log) step

  -- the log after these steps
  abbrev pub after_steps : Log → List Step → Log
  after_steps log [] = log
  after_steps log (step ∷ steps) = after_steps (after_step log step) steps

  -- each step is allowed in its turn
  abbrev pub AllAllowed : Log → List Step → Type 0
  AllAllowed log [] = Unit {0}
  AllAllowed log (step ∷ steps) =
      Allows log (outcome_of setup refusal text log) step × AllAllowed (after_step log step) steps

  -- the replies to the steps, each by the outcome of the log up to it
  abbrev pub replies_of : Log → List Step → List Reply
  replies_of log [] = []
  replies_of log (step ∷ steps) =
      let log_now = after_step log step
      in step_replies step (outcome_of setup refusal text log_now) ++ replies_of log_now steps

-- With this refusal each step is allowed in its turn, `given` are the replies, and `now` is the log after the steps.
pub record AreDone (setup : Setup) (refusal : Refusal) (text : Text) (log : Log) (steps : List Step)
    (given : List Reply) (now : Log) : Type 0 where
  pub allowed : AllAllowed setup refusal text log steps
  pub replies_are : given ≡ replies_of setup refusal text log steps
  pub log_is : after_steps setup refusal text log steps ≡ now
