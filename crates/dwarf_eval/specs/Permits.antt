-- The status that a caller sees, and the calls that it permits.
use Rattle.std.specs.Prelude.{ℕ, ◌≡◌, ◌<◌, Bool, true, false, [], Option, Some, None, Result, IfOk, is_some}
use Rattle.dwarf_base.specs.declared.errors.Error.{Error}
use Rattle.dwarf_base.specs.Reads.{Text}
use Rattle.dwarf_meaning.specs.Kinds.{kind_of_request}
use Rattle.dwarf_meaning.specs.Requests.{Answer, Request}
use Rattle.dwarf_meaning.specs.Rest as rest
use Rattle.dwarf_meaning.specs.Rest.{Start, Running, RequestStatus, CompleteStatus, FaultStatus}
use Rattle.dwarf_meaning.specs.Bounds.{calls_left}
use Rattle.dwarf_eval.specs.Evaluation.{IsClosed, IsComplete, Resumes, input_of, request_in}
use Rattle.dwarf_eval.specs.declared.op.results.EvaluationResult.{EvaluationResult}
use Rattle.dwarf_meaning.specs.declared.kinds.WaitingKind.{WaitingKind}
use Rattle.dwarf_eval.specs.declared.eval.states.Status.{Status}
use Rattle.dwarf_eval.specs.declared.eval.states.Status.TheVariants as status

-- the caller sees this status of the evaluation; an open request is seen as its kind
abbrev pub Shows : rest.Status → Status → Type 0
Shows (Start initial_value) shown = shown ≡ status.Start (is_some initial_value)
Shows (RequestStatus request on_answer) shown = shown ≡ status.Waiting (kind_of_request request)
Shows (CompleteStatus value) shown = shown ≡ status.Complete
Shows (FaultStatus error) shown = shown ≡ status.Failed error
Shows Running shown = ⊥

-- a request is open for an answer of this kind, or the evaluation met a fault
abbrev pub IsOpenFor : WaitingKind → rest.Status → Type 0
IsOpenFor kind (RequestStatus request on_answer) = kind_of_request request ≡ kind
IsOpenFor kind (FaultStatus error) = Unit {0}
IsOpenFor kind _ = ⊥

-- the precondition of the call that comes next at the start: setting an initial value, or `evaluate` after that
abbrev pub IsStart : (initial : Bool) → rest.Status → Type 0
IsStart true s = IsClosed s
IsStart false s = s ≡ Start None

-- the preconditions of the calls that a status permits: settings and `evaluate`, resumes, results
abbrev pub Permits : rest.Status → Status → Type 0
Permits s (status.Start initial) = IsStart initial s
Permits s (status.Waiting kind) = IsOpenFor kind s
Permits s status.Complete = IsComplete s
Permits s (status.Failed error) = (kind : WaitingKind) → IsOpenFor kind s

-- the precondition of the call that a reply permits: the results, or the resume of the request's kind
abbrev pub AdmitsBy : Option Request → rest.Status → Type 0
AdmitsBy None s = IsComplete s
AdmitsBy (Some request) s = IsOpenFor (kind_of_request request) s

-- the precondition of the call that a result permits, whatever its texts and offsets are
abbrev pub Admits : {R O : Type 0} → EvaluationResult R O → rest.Status → Type 0
Admits replied s = AdmitsBy (request_in (λ reader. record { bytes = []; is_big = false }) (λ offset. 0) replied) s

-- A resume with this answer goes on with it, or gives the fault that was met. Its reply permits the call that it names,
-- and fewer resumes are left.
pub record AnswersWith {R O : Type 0} (text : R → Text) (number : O → ℕ) (answer : Answer) (old new : rest.State)
    (replied : Result (EvaluationResult R O) Error) : Type 0 where
  pub follows : Resumes text number (input_of old answer) old new replied old.status
  pub admits : IfOk replied (λ reply. Admits reply new.status)
  pub fewer : IfOk replied (λ reply. calls_left new < calls_left old)
