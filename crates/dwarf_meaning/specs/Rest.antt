-- How an evaluation goes on from any of its states (DWARF 5, sections 2.5 and 2.5.1.5).
use Rattle.std.specs.Prelude.{ℕ, ◌+◌, List, [], ◌∷◌, Option, length}
use Rattle.dwarf_base.specs.declared.errors.Error.{Error}
use Rattle.dwarf_base.specs.Faults.{fault_of}
use Rattle.dwarf_base.specs.Reads.{Text}
use Rattle.dwarf_value.specs.declared.types.Value.{Value}
use Rattle.dwarf_meaning.specs.Requests.{Request, OnAnswer, Input}
use Rattle.dwarf_meaning.specs.Stores.{Setup, Store}
use Rattle.dwarf_meaning.specs.Run.{Position, Course, await_answer, run, return_to_callers}
use Rattle.dwarf_meaning.specs.Meaning.{Outcome, FaultOutcome, CompleteOutcome, First, outcome_of_end, course_of}
use Rattle.dwarf_meaning.specs.Refusals.{Refusal, before_input}

-- where an evaluation stands
pub data Status : Type 0 where
  Start : (initial_value : Option ℕ) → Status
  Running : Status
  RequestStatus : Request → OnAnswer → Status
  CompleteStatus : (value : Option Value) → Status
  FaultStatus : Error → Status

-- the state of an evaluation
pub record State : Type 0 where
  pub status : Status
  pub setup : Setup
  -- the running text, and the place in it
  pub text : Text
  pub place : ℕ
  -- its callers, the innermost first, each with the place where it goes on
  pub callers : List Position
  pub store : Store
  -- how often an operation was decoded; nothing depends on it
  pub decodings : ℕ

-- the same store with this refusal
abbrev pub with_refusal : Refusal → Store → Store
with_refusal refusal s = record s { refusal = refusal }

-- the outcome of an evaluation, and how many operations it counts in all
pub record Total : Type 0 where
  pub outcome : Outcome
  pub count : ℕ

-- the total of a course and then of its callers, if n operations were counted before
abbrev pub total_of_course : (n : ℕ) → Setup → (callers : List Position) → Course → Total
total_of_course n setup callers course =
    let whole = return_to_callers setup callers course in
    record { outcome = outcome_of_end setup whole.end; count = n + length whole.path }

-- the settings at the start of the evaluation
abbrev pub first_of : State → Option ℕ → First
first_of x initial_value = record { initial_value = initial_value; settings = x.store.settings }

-- the total, by the status: at the start it is the meaning's; a running evaluation goes on; an evaluation in a request
-- takes the first input; one that is over stays as it is
abbrev pub total_by : State → Store → List Input → Status → Total
total_by x s inputs (Start initial_value) =
    total_of_course x.store.count x.setup [] (course_of x.setup s.refusal x.text (first_of x initial_value) inputs)
total_by x s inputs Running =
    total_of_course x.store.count x.setup x.callers (run x.setup x.text x.place (length x.callers) s inputs)
total_by x s inputs (RequestStatus request on_answer) =
    total_of_course x.store.count x.setup x.callers
    (await_answer (run x.setup) x.setup (record { text = x.text; place = x.place }) (length x.callers) request on_answer
    s inputs)
total_by x s inputs (CompleteStatus value) = record { outcome = CompleteOutcome s.pieces value; count = x.store.count }
total_by x s inputs (FaultStatus error) = record { outcome = FaultOutcome (fault_of error); count = x.store.count }

-- the total of a state, given the refusal and the inputs
unfoldable pub total : State → Refusal → List Input → Total
total x refusal inputs = total_by x (with_refusal refusal x.store) inputs x.status

-- the total of a state that takes this input before the others
abbrev pub total_after : State → Input → Refusal → List Input → Total
total_after x input refusal inputs = total x (before_input refusal) (input ∷ inputs)
