-- What a result says of the status in which it is replied, and where a resume is allowed.
use Rattle.std.proofs.Common.{◌≡◌, ℕ, Option, Some, None, ap, sym, refl}
use Rattle.std.specs.Option.{option_map_or}
use Rattle.dwarf_base.specs.declared.errors.Error.{Error}
use Rattle.dwarf_base.specs.Reads.{Text}
use Rattle.dwarf_meaning.specs.declared.kinds.WaitingKind.{WaitingKind}
use Rattle.dwarf_meaning.specs.declared.kinds.WaitingKind.TheVariants.{Memory}
use Rattle.dwarf_meaning.specs.Kinds.{kind_of_request}
use Rattle.dwarf_meaning.specs.Requests.{Request}
use Rattle.dwarf_meaning.specs.Rest.{RequestStatus}
use Rattle.dwarf_meaning.specs.Requests.{OnAnswer}
use Rattle.dwarf_meaning.specs.Steps.{CompleteReply, RequestReply}
use Rattle.dwarf_eval.specs.Evaluation.{IsReplied, ok_reply, request_in}
use Rattle.dwarf_eval.specs.Permits.{Admits, IsOpenFor}
use Rattle.dwarf_eval.specs.declared.op.results.EvaluationResult.{EvaluationResult}
use Rattle.dwarf_eval.specs.declared.op.results.EvaluationResult.TheVariants as result
use Rattle.dwarf_eval.specs.inner.Answers.{IsWaiting}
use Rattle.dwarf_eval.specs.inner.Machine.{status_of}
use Rattle.dwarf_eval.specs.declared.run.states.EvaluationState.{EvaluationState}
use Rattle.dwarf_eval.specs.declared.run.states.EvaluationState.TheVariants as state

abbrev asked_kind : Option Request → WaitingKind
asked_kind None = Memory
asked_kind (Some request) = kind_of_request request

-- a result that makes this request
module _ {R O : Type 0} (text : R → Text) (number : O → ℕ) (request : Request) (on_answer : OnAnswer) where
  pub result_replied : (replied : EvaluationResult R O) → request_in text number replied ≡ Some request → IsReplied (ok_reply text number replied) (RequestStatus request on_answer)
  result_replied replied is = ap (λ asked. option_map_or RequestReply asked CompleteReply) is

  pub result_admits : (replied : EvaluationResult R O) → request_in text number replied ≡ Some request → Admits replied (RequestStatus request on_answer)
  result_admits result.Complete is = cc
  result_admits _ is = sym (ap asked_kind is)

-- a request is open unless a fault was met
pub waits_unless : {R O : Type 0} (text : R → Text) (number : O → ℕ) (kind : WaitingKind) (held : EvaluationState R O)
    → IsOpenFor kind (status_of text number held) → ((error : Error) → held ≡ state.Failed error → ⊥) → IsWaiting (status_of text number held)
waits_unless text number kind (state.Waiting waiting) h other = tt
waits_unless text number kind (state.Failed error) h other = absurd (other error refl)
waits_unless text number kind _ h other = absurd h
