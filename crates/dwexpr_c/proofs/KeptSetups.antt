-- What a step keeps, the encoding and the limits, and the status that a reply leads to.
use Rattle.std.proofs.Common.{ℕ, ◌≡◌, Result, Ok, Err, ap, ◌∙◌, refl, sym, subst}
use Rattle.std.specs.Prelude.{IsOkAnd}
use Rattle.dwarf_base.specs.declared.errors.Error.{Error}
use Rattle.dwarf_meaning.specs.Kinds.{kind_of_answer}
use Rattle.dwarf_meaning.specs.Requests as requests
use Rattle.dwarf_meaning.specs.Rest.{State, Status, Start, RequestStatus, CompleteStatus, FaultStatus}
use Rattle.dwarf_meaning.specs.Steps.{Step, InitialValue, ObjectAddress, MaxIterations, Evaluate, Resume, CompleteReply, RequestReply, FaultReply}
use Rattle.dwarf_base.specs.Faults.{fault_of}
use Rattle.dwarf_eval.specs.Evaluation.{Evaluates, Resumes, input_of, IsClosed, IsComplete, IsReplied, reply_of}
use Rattle.dwarf_eval.specs.Permits.{IsOpenFor}
use Rattle.dwarf_eval.specs.declared.op.results.EvaluationResult.{EvaluationResult}
use Rattle.dwarf_eval.specs.declared.op.results.EvaluationResult.TheVariants as replied
use Rattle.dwarf_replay.specs.Stepping.{HasReplied, IsSet}
use Rattle.dwexpr_c.specs.CallerTexts.{text_of_placed}
use Rattle.dwexpr_c.specs.declared.places.Placed.{Placed}

-- after the reply that it is complete
pub complete_by : (status : Status) → IsReplied CompleteReply status → IsComplete status
complete_by (CompleteStatus value) e = tt
complete_by (RequestStatus request on_answer) e = absurd (let s : CompleteReply ≡ RequestReply request = e in cc)
complete_by (FaultStatus error) e = absurd (let s : CompleteReply ≡ FaultReply (fault_of error) = e in cc)
complete_by _ e = absurd e

module _ (x new : State) where
  same_keeps : new ≡ x → new.setup ≡ x.setup
  same_keeps e = ap (λ (z : State). z.setup) e

  pub set_keeps : (step : Step) → IsSet step x new → new.setup ≡ x.setup
  set_keeps (InitialValue number) h = ap (λ (z : State). z.setup) h.1
  set_keeps (ObjectAddress address) h = ap (λ (z : State). z.setup) h
  set_keeps (MaxIterations maximum) h = ap (λ (z : State). z.setup) h
  set_keeps _ h = absurd h

  module _ (result : Result (EvaluationResult Placed ℕ) Error) where
    -- the status is that of the reply
    pub record Replied : Type 0 where
      pub setup : new.setup ≡ x.setup
      pub status : IsReplied (reply_of text_of_placed (λ x. x) result) new.status

    -- it was replied before
    again : (status : Status) (before : Result (EvaluationResult Placed ℕ) Error) → x.status ≡ status → result ≡ before → new ≡ x → IsReplied (reply_of text_of_placed (λ x. x) before) status → Replied
    again status before e t n h =
        let stays : new.status ≡ status = ap (λ (z : State). z.status) n ∙ e in
        record {
          setup = same_keeps n;
          status =
              subst (λ (s : Status). IsReplied (reply_of text_of_placed (λ x. x) result) s) (sym stays)
              (subst (λ (r : Result (EvaluationResult Placed ℕ) Error). IsReplied (reply_of text_of_placed (λ x. x) r) status) (sym t) h);
        }

    evaluated : (status : Status) → x.status ≡ status → IsClosed status → Evaluates text_of_placed (λ x. x) x new result status → Replied
    evaluated (Start initial_value) e closed h = record { setup = h.kept.setup; status = h.status }
    evaluated (CompleteStatus value) e closed h = again (CompleteStatus value) (Ok replied.Complete) e h.0 h.1 refl
    evaluated (FaultStatus error) e closed h = again (FaultStatus error) (Err error) e h.0 h.1 refl
    evaluated _ e closed h = absurd h

    resumed : (answer : requests.Answer) (status : Status) → x.status ≡ status → IsOpenFor (kind_of_answer answer) status → Resumes text_of_placed (λ x. x) (input_of x answer) x new result status → Replied
    resumed answer (RequestStatus request on_answer) e asking h = record { setup = h.kept.setup; status = h.status }
    resumed answer (FaultStatus error) e asking h = again (FaultStatus error) (Err error) e h.0 h.1 refl
    resumed answer _ e asking h = absurd asking

    pub replied_by : (step : Step) → HasReplied text_of_placed (λ x. x) step x new result → Replied
    replied_by Evaluate h = evaluated x.status refl h.0 h.1
    replied_by (Resume answer) h = resumed answer x.status refl h.0 h.1
    replied_by _ h = absurd h

    -- so it is after the answer that the numbers say
    pub replied_said : (said : Result requests.Answer ℕ) → IsOkAnd said (λ answer. HasReplied text_of_placed (λ x. x) (Resume answer) x new result) → Replied
    replied_said (Ok answer) h = replied_by (Resume answer) h
    replied_said (Err code) h = absurd h
