-- What is shown of a reply is the outcome by where it left the evaluation.
use Rattle.std.proofs.Common.{ℕ, ◌≡◌, inl, inr, List, Option, Some, Result, Ok, Err, refl, subst}
use Rattle.std.specs.Prelude.{IsOkAnd}
use Rattle.dwarf_base.specs.declared.errors.Error.{Error}
use Rattle.dwarf_base.specs.Faults.{Fault, fault_of}
use Rattle.dwarf_eval.specs.Evaluation.{IsReplied}
use Rattle.dwarf_eval.specs.declared.op.results.EvaluationResult.{EvaluationResult}
use Rattle.dwarf_meaning.specs.Meaning.{Outcome, RequestOutcome, CompleteOutcome}
use Rattle.dwarf_meaning.specs.Rest.{State, Status, RequestStatus, CompleteStatus, FaultStatus}
use Rattle.dwarf_meaning.specs.Requests.{Answer}
use Rattle.dwarf_meaning.specs.Steps.{FaultReply, Reply, Resume}
use Rattle.dwarf_replay.specs.Stepping.{HasReplied}
use Rattle.dwexpr_c.specs.Answered.{ShowsCall, Takes, outcome_at, outcome_in}
use Rattle.dwexpr_c.specs.CallerTexts.{AsksNowhere, IsGiven, text_of_placed}
use Rattle.dwexpr_c.specs.Codes.{code_of_fault, number_of_fault}
use Rattle.dwexpr_c.specs.Evaluated.{Evaluates, ShowsOutcome, comes_of, log_by}
use Rattle.dwexpr_c.specs.Held.{HasDone}
use Rattle.dwexpr_c.specs.Outcomes.{ShowsReply, ended_outcome}
use Rattle.dwexpr_c.specs.Settings.{steps_in}
use Rattle.dwexpr_c.specs.declared.faults.TheConstants as codes
use Rattle.dwexpr_c.specs.declared.outcomes.DwexprOutcome.{DwexprOutcome}
use Rattle.dwexpr_c.specs.declared.pieces.DwexprPiece.{DwexprPiece}
use Rattle.dwexpr_c.specs.declared.places.Placed.{Placed}
use Rattle.dwexpr_c.specs.declared.settings.DwexprSettings.{DwexprSettings}
use Rattle.dwexpr_c.specs.declared.texts.DwexprText.{DwexprText}
use Rattle.dwexpr_c.proofs.Given.{asks_somewhere, pieces_somewhere}
use Rattle.dwexpr_c.proofs.StepsDone.{stands_as, stands_by}

same_fault : (a b : Fault) → FaultReply a ≡ FaultReply b → a ≡ b
same_fault a b e = cc

module _ (texts : List DwexprText) (x : State) (out : DwexprOutcome) (places : List DwexprPiece) where
  abbrev Shown : Status → Type 0
  Shown status = ShowsCall texts (outcome_in x status) out places places

  pub asked_shown : (reply : Reply) (status : Status) → IsReplied reply status → ShowsReply texts reply out → Shown status
  asked_shown reply (RequestStatus request on_answer) e h = inl (subst (λ (r : Reply). ShowsReply texts r out) e h, refl)
  asked_shown reply (CompleteStatus value) e h = absurd (subst (λ (r : Reply). ShowsReply texts r out) e h)
  asked_shown reply (FaultStatus error) e h = absurd (subst (λ (r : Reply). ShowsReply texts r out) e h)
  asked_shown reply _ e h = absurd e

  pub nowhere_shown : (reply : Reply) (status : Status) → IsReplied reply status → AsksNowhere texts reply → out ≡ ended_outcome codes.LOST_TEXT 0 → Shown status
  nowhere_shown reply (RequestStatus request on_answer) e h s = inr ((subst (AsksNowhere texts) e h, refl), s)
  nowhere_shown reply (CompleteStatus value) e h s = absurd (subst (AsksNowhere texts) e h)
  nowhere_shown reply (FaultStatus error) e h s = absurd (subst (AsksNowhere texts) e h)
  nowhere_shown reply _ e h s = absurd e

  pub fault_shown : (fault : Fault) (status : Status) → IsReplied (FaultReply fault) status → out ≡ ended_outcome (code_of_fault fault) (number_of_fault fault) → Shown status
  fault_shown fault (FaultStatus error) e s =
      inl (subst (λ (f : Fault). out ≡ ended_outcome (code_of_fault f) (number_of_fault f)) (same_fault fault (fault_of error) e) s, refl)
  fault_shown fault (RequestStatus request on_answer) e s = absurd cc
  fault_shown fault (CompleteStatus value) e s = absurd cc
  fault_shown fault _ e s = absurd e

-- ---- the settings and the start, whose texts lack nothing

module _ (texts : List DwexprText) (first : State) (given : IsGiven texts first.text.bytes) (settings : DwexprSettings) (out : DwexprOutcome) (old new : List DwexprPiece) where
  lacks_nothing : (o : Option Outcome) → comes_of first (steps_in settings) ≡ o → ShowsCall texts o out old new → ShowsOutcome texts o out old new
  lacks_nothing o e (inl h) = h
  lacks_nothing (Some (RequestOutcome request positions)) e (inr h) = absurd (asks_somewhere texts first given settings request positions e h.0.0)
  lacks_nothing (Some (CompleteOutcome pieces value)) e (inr h) = absurd (pieces_somewhere texts first given settings pieces value e h.0)
  lacks_nothing _ e (inr h) = absurd h.0

  pub evaluates : (x : State) → HasDone first (steps_in settings) x → ShowsCall texts (outcome_at x) out old new → Evaluates first texts (steps_in settings) out old new
  evaluates x done h =
      let stands = stands_as (log_by first (steps_in settings)) x (comes_of first (steps_in settings)) (stands_by first (steps_in settings) x done) in
      record {
        allowed = done.are_done.allowed;
        shown = lacks_nothing (comes_of first (steps_in settings)) refl (subst (λ (o : Option Outcome). ShowsCall texts o out old new) stands h);
      }

-- ---- an answer that was taken

pub taken : (texts : List DwexprText) (x new : State) (out : DwexprOutcome) (old places : List DwexprPiece) (result : Result (EvaluationResult Placed ℕ) Error) (said : Result Answer ℕ) → IsOkAnd said (λ answer. HasReplied text_of_placed (λ x. x) (Resume answer) x new result) → ShowsCall texts (outcome_at new) out old places → IsOkAnd said (λ answer. Takes texts answer x new out old places)
taken texts x new out old places result (Ok answer) h shown = record { result = result; called = h; shown = shown }
taken texts x new out old places result (Err code) h shown = absurd h
