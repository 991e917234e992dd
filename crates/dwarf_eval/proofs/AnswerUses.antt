-- What an answer of the kind that is waited for gives.
use Rattle.std.proofs.Common.{ℕ, ℤ, ◌≡◌, ◌∙◌, List, Option, Some, None, ap, refl, sym}
use Rattle.dwarf_base.specs.Reads.{Text}
use Rattle.dwarf_value.specs.declared.types.Value.{Value}
use Rattle.dwarf_value.specs.declared.types.Value.TheVariants.{Generic}
use Rattle.dwarf_value.specs.declared.types.ValueType.{ValueType}
use Rattle.dwarf_meaning.specs.Kinds.{kind_of_request}
use Rattle.dwarf_meaning.specs.declared.kinds.WaitingKind.{WaitingKind}
use Rattle.dwarf_meaning.specs.Requests.{Request, OnAnswer, Add, Reinterpret, ValueAnswer, NumberAnswer, BaseTypeAnswer}
use Rattle.dwarf_meaning.specs.Acts.{PushesAnswer, use_of}
use Rattle.dwarf_meaning.specs.Rest.{Status, RequestStatus}
use Rattle.dwarf_eval.specs.inner.Answers.{IsWaiting, offset_in, offset_of}
use Rattle.dwarf_base.specs.declared.common.UnitOffset.{UnitOffset}
use Rattle.dwarf_eval.specs.inner.Machine.{on_answer_of, request_of, status_of}
use Rattle.dwarf_eval.specs.declared.run.states.EvaluationState.{EvaluationState}
use Rattle.dwarf_eval.specs.declared.run.states.EvaluationState.TheVariants as state
use Rattle.dwarf_eval.specs.declared.run.states.EvaluationWaiting.{EvaluationWaiting}
use Rattle.dwarf_eval.specs.declared.run.states.EvaluationWaiting.TheVariants as waiting

-- ---- the open request

-- a request is open
pub record IsOpen (status : Status) : Type 0 where
  pub request : Request
  pub on_answer : OnAnswer
  pub is : status ≡ RequestStatus request on_answer

pub open_in : (status : Status) → IsWaiting status → IsOpen status
open_in (RequestStatus request on_answer) h = record { request = request; on_answer = on_answer; is = refl }
open_in _ h = absurd h

-- a request of this kind is open, to do this with its answer
pub record IsOpenTo (kind : WaitingKind) (on_answer : OnAnswer) (status : Status) : Type 0 where
  pub request : Request
  pub is : status ≡ RequestStatus request on_answer
  pub fits : kind_of_request request ≡ kind

-- ---- answers that are pushed as they are

-- the offset of the open request
pub offset_is : (status : Status) (request : Request) (on_answer : OnAnswer) (offset : Option ℤ) → offset ≡ offset_in status → status ≡ RequestStatus request on_answer → offset_of on_answer ≡ offset
offset_is status request on_answer offset e open_now = sym (e ∙ ap offset_in open_now)

-- its answer is added to it
pub adds : (on_answer : OnAnswer) (offset : ℤ) → offset_of on_answer ≡ Some offset → on_answer ≡ Add offset
adds (Add other) offset e = cc
adds _ offset e = cc

module _ {R O : Type 0} (text : R → Text) (number : O → ℕ) where
  -- the use of its answer is that of what the code waits for
  pub answer_used : (status : Status) (held : EvaluationState R O) (w : EvaluationWaiting R O) (request : Request) (on_answer : OnAnswer)
      → status_of text number held ≡ status → held ≡ state.Waiting w → status ≡ RequestStatus request on_answer → on_answer_of text number w ≡ on_answer
  answer_used status held w request on_answer e is open_now =
      let both : RequestStatus (request_of text number w) (on_answer_of text number w) ≡ RequestStatus request on_answer = sym (ap (status_of text number) is) ∙ (e ∙ open_now) in
      cc

module _ (bits : ℕ) (values : List Value) where
  -- a value or a number, if nothing is added to it
  pub plain : (kind : WaitingKind) (v : Value) (n : ℕ) (on_answer : OnAnswer) → offset_of on_answer ≡ None
      → (use_of bits on_answer (ValueAnswer kind v) values ≡ PushesAnswer values v) × (use_of bits on_answer (NumberAnswer kind n) values ≡ PushesAnswer values (Generic n))
  unfolding use_of
  plain kind v n (Add offset) none = cc
  plain kind v n _ none = (refl, refl)

  -- what isn't parsed or converted is reinterpreted
  pub reinterpreted : {R O : Type 0} (text : R → Text) (number : O → ℕ) (t : ValueType) (w : EvaluationWaiting R O)
      → ((base_type : UnitOffset O) (value : R) → w ≡ waiting.TypedLiteral base_type value → ⊥) → ((base_type : UnitOffset O) → w ≡ waiting.Convert base_type → ⊥)
      → use_of bits (on_answer_of text number w) (BaseTypeAnswer t) values ≡ use_of bits Reinterpret (BaseTypeAnswer t) values
  unfolding use_of
  reinterpreted text number t (waiting.TypedLiteral base_type value) not_parsed not_converted = absurd (not_parsed base_type value refl)
  reinterpreted text number t (waiting.Convert base_type) not_parsed not_converted = absurd (not_converted base_type refl)
  reinterpreted text number t _ not_parsed not_converted = refl
