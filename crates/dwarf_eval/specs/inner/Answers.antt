-- What a machine is given as an answer, what it waits for, and how it ended.
use Rattle.std.specs.Prelude.{ℤ, ◌≡◌, Option, Some, None, Result, Ok, Err}
use Rattle.dwarf_base.specs.declared.errors.Error.{Error}
use Rattle.dwarf_base.specs.Reads.{Text}
use Rattle.dwarf_meaning.specs.Inputs.{fresh_state, with_settings, with_status}
use Rattle.dwarf_meaning.specs.declared.kinds.WaitingKind.{WaitingKind}
use Rattle.dwarf_meaning.specs.Kinds.{kind_of_request}
use Rattle.dwarf_meaning.specs.Requests as requests
use Rattle.dwarf_meaning.specs.Rest as rest
use Rattle.dwarf_meaning.specs.Rest.{Start, Running, RequestStatus, CompleteStatus, FaultStatus}
use Rattle.dwarf_eval.specs.declared.op.results.EvaluationResult.{EvaluationResult}
use Rattle.dwarf_eval.specs.declared.op.results.EvaluationResult.TheVariants as result
use Rattle.dwarf_eval.specs.declared.run.states.Answer.{Answer}
use Rattle.dwarf_eval.specs.declared.run.states.Answer.TheVariants as answer

-- what a machine is given, as an answer
abbrev pub answer_of : {R : Type 0} → (R → Text) → Answer R → requests.Answer
answer_of text (answer.Value kind value) = requests.ValueAnswer kind value
answer_of text (answer.Number kind number) = requests.NumberAnswer kind number
answer_of text (answer.Location expression) = requests.LocationAnswer (text expression)
answer_of text (answer.BaseType value_type) = requests.BaseTypeAnswer value_type

-- a request is open
abbrev pub IsWaiting : rest.Status → Type 0
IsWaiting (RequestStatus request on_answer) = Unit {0}
IsWaiting _ = ⊥

-- the offset that is added to an answer
abbrev pub offset_of : requests.OnAnswer → Option ℤ
offset_of (requests.Add offset) = Some offset
offset_of _ = None

-- the offset that is added to the answer to the open request
abbrev pub offset_in : rest.Status → Option ℤ
offset_in (RequestStatus request on_answer) = offset_of on_answer
offset_in _ = None

-- the kind of the open request, if there is one
abbrev pub open_kind : rest.Status → Option WaitingKind
open_kind (RequestStatus request on_answer) = Some (kind_of_request request)
open_kind _ = None

-- by the status: the machine doesn't run; at the start it is fresh, except for its settings
abbrev pub IsAtRestBy : rest.State → rest.Status → Type 0
IsAtRestBy x (Start initial_value) =
    x ≡ with_status (Start initial_value) (with_settings x.store.settings (fresh_state x.setup x.text))
IsAtRestBy x Running = ⊥
IsAtRestBy x _ = Unit {0}

-- the machine doesn't run, as between calls
abbrev pub IsAtRest : rest.State → Type 0
IsAtRest x = IsAtRestBy x x.status

-- after the end the result is completion; after a fault it is that fault
abbrev pub IsEndedBy : {R O : Type 0} → Result (EvaluationResult R O) Error → rest.Status → Type 0
IsEndedBy replied (CompleteStatus value) = replied ≡ Ok result.Complete
IsEndedBy replied (FaultStatus error) = replied ≡ Err error
IsEndedBy replied _ = Unit {0}
