-- What an answer of a caller in C does, and what is shown of it (DWARF 5, section 2.5).
use Rattle.std.specs.Prelude.{ℕ, ◌≡◌, ◌⊎◌, List, [], ◌∷◌, ◌++◌, Option, None, Some, Result, Ok, Err, IfOk, IsOkAnd}
use Rattle.dwarf_base.specs.ByteOrder.{is_big_of}
use Rattle.dwarf_base.specs.Faults.{fault_of}
use Rattle.dwarf_base.specs.declared.errors.Error.{Error}
use Rattle.dwarf_eval.specs.declared.op.results.EvaluationResult.{EvaluationResult}
use Rattle.dwarf_meaning.specs.Meaning.{Outcome, RequestOutcome, FaultOutcome, CompleteOutcome}
use Rattle.dwarf_meaning.specs.Requests.{Answer}
use Rattle.dwarf_meaning.specs.Rest.{State, Status, RequestStatus, CompleteStatus, FaultStatus}
use Rattle.dwarf_meaning.specs.Steps.{Allows, RequestReply, Resume, Step}
use Rattle.dwarf_replay.specs.Stepping.{HasReplied, MayTake}
use Rattle.dwexpr_c.specs.CallerTexts.{AsksNowhere, SomeNowhere, text_of_placed}
use Rattle.dwexpr_c.specs.Evaluated.{ShowsOutcome, outcome_by}
use Rattle.dwexpr_c.specs.Held.{HasDone}
use Rattle.dwexpr_c.specs.Outcomes.{answer_coded, ended_outcome}
use Rattle.dwexpr_c.specs.declared.answers.DwexprAnswer.{DwexprAnswer}
use Rattle.dwexpr_c.specs.declared.faults.TheConstants as codes
use Rattle.dwexpr_c.specs.declared.memory.Held.{Held}
use Rattle.dwexpr_c.specs.declared.outcomes.DwexprOutcome.{DwexprOutcome}
use Rattle.dwexpr_c.specs.declared.pieces.DwexprPiece.{DwexprPiece}
use Rattle.dwexpr_c.specs.declared.places.Placed.{Placed}
use Rattle.dwexpr_c.specs.declared.texts.DwexprText.{DwexprText}

-- ---- what is shown of a call

-- the outcome, by the evaluation's status; none before it is started
abbrev pub outcome_in : State → Status → Option Outcome
outcome_in x (RequestStatus request on_answer) =
    Some (RequestOutcome request (record { text = x.text; place = x.place } ∷ x.callers))
outcome_in x (CompleteStatus value) = Some (CompleteOutcome x.store.pieces value)
outcome_in x (FaultStatus error) = Some (FaultOutcome (fault_of error))
outcome_in x _ = None

abbrev pub outcome_at : State → Option Outcome
outcome_at x = outcome_in x x.status

-- bytes of the request or of a piece are in none of the texts
abbrev pub LacksBytes : List DwexprText → Option Outcome → (old new : List DwexprPiece) → Type 0
LacksBytes texts (Some (RequestOutcome request positions)) old new =
    AsksNowhere texts (RequestReply request) × (new ≡ old)
LacksBytes texts (Some (CompleteOutcome pieces value)) old new = SomeNowhere texts pieces
LacksBytes texts _ old new = ⊥

-- the outcome is shown, or the code for bytes that the texts lack
abbrev pub ShowsCall : List DwexprText → Option Outcome → (out : DwexprOutcome) → (old new : List DwexprPiece) → Type 0
ShowsCall texts outcome out old new =
    ShowsOutcome texts outcome out old new
    ⊎ (LacksBytes texts outcome old new × (out ≡ ended_outcome codes.LOST_TEXT 0))

-- ---- what an answer does

-- the numbers stand for no answer, which has this code, or for an answer that isn't allowed
abbrev pub IsRefused : Result Answer ℕ → (code : ℕ) → Status → Type 0
IsRefused (Err refused) code status = code ≡ refused
IsRefused (Ok answer) code status = (code ≡ codes.MISPLACED) × (MayTake (Resume answer) status → ⊥)

-- the answer isn't taken: nothing is changed, and the code is shown
pub record Refuses (said : Result Answer ℕ) (before after : State) (out : DwexprOutcome)
    (old new : List DwexprPiece) : Type 0 where
  pub code : ℕ
  pub refused : IsRefused said code before.status
  pub same : after ≡ before
  pub shown : out ≡ ended_outcome code 0
  pub kept : new ≡ old

-- the evaluation went on with the answer, and its new outcome is shown
pub record Takes (texts : List DwexprText) (answer : Answer) (before after : State) (out : DwexprOutcome)
    (old new : List DwexprPiece) : Type 0 where
  pub result : Result (EvaluationResult Placed ℕ) Error
  pub called : HasReplied text_of_placed (λ x. x) (Resume answer) before after result
  pub shown : ShowsCall texts (outcome_at after) out old new

-- the answer that the numbers stand for is taken, or it isn't
abbrev pub TakesOrRefuses : List DwexprText → Result Answer ℕ → (before after : State) → (out : DwexprOutcome)
    → (old new : List DwexprPiece) → Type 0
TakesOrRefuses texts said before after out old new =
    IsOkAnd said (λ answer. Takes texts answer before after out old new) ⊎ Refuses said before after out old new

-- an answer is taken or refused, and the byte order stays
pub record HasResumed (texts : List DwexprText) (numbers : DwexprAnswer) (before after : Held) (out : DwexprOutcome)
    (old new : List DwexprPiece) : Type 0 where
  pub order : after.order ≡ before.order
  pub does : TakesOrRefuses texts (answer_coded (is_big_of before.order) texts numbers) before.evaluation after.evaluation
      out old new

-- ---- one more answer than those so far

-- if the answer is allowed, it was given after those steps; else nothing changed
abbrev pub DoesMore : (first : State) (steps : List Step) → Result Answer ℕ → (before after : State)
    → HasDone first steps before → Type 0
DoesMore first steps (Ok answer) before after done =
    HasDone first (steps ++ Resume answer ∷ []) after
    ⊎ ((Allows done.log (outcome_by first done.log) (Resume answer) → ⊥) × (after ≡ before))
DoesMore first steps (Err code) before after done = after ≡ before

-- the answer is added, and the outcome of all steps is shown
pub record AddsAnswer (texts : List DwexprText) (said : Result Answer ℕ) (before after : State) (out : DwexprOutcome)
    (old new : List DwexprPiece) (first : State) (steps : List Step) (done : HasDone first steps before) : Type 0 where
  pub more : DoesMore first steps said before after done
  pub shown : IfOk said (λ answer. (all : HasDone first (steps ++ Resume answer ∷ []) after)
      → ShowsCall texts (outcome_by first all.log) out old new)

-- whichever steps led to the state before, this answer is added to them
abbrev pub GoesOn : List DwexprText → DwexprAnswer → (before after : Held) → (out : DwexprOutcome)
    → (old new : List DwexprPiece) → Type 0
GoesOn texts numbers before after out old new =
    (first : State) (steps : List Step) (done : HasDone first steps before.evaluation)
    → AddsAnswer texts (answer_coded (is_big_of before.order) texts numbers) before.evaluation after.evaluation
    out old new first steps done
