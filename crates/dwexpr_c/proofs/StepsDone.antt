-- The steps that were done on an evaluation whose lists all have limits, and one more.
use Rattle.std.proofs.Common.{ℕ, ◌≡◌, ◌∙◌, inl, inr, ◌++◌, List, [], ◌∷◌, take, slice_get, Option, Some, None, Result, Ok, Err, length, refl, sym, ap, subst}
use Rattle.std.specs.Prelude.{IfOk}
use Rattle.std.proofs.Math.Seq.{take-append_seam}
use Rattle.dwarf_base.specs.ByteOrder.{is_big_of}
use Rattle.dwarf_base.specs.declared.errors.Error.{Error}
use Rattle.dwarf_base.specs.Faults.{Fault}
use Rattle.dwarf_meaning.specs.Locations.{Piece}
use Rattle.dwarf_meaning.specs.Meaning.{Outcome, RequestOutcome, FaultOutcome, CompleteOutcome}
use Rattle.dwarf_meaning.specs.Requests.{Answer, Request}
use Rattle.dwarf_meaning.specs.Rest.{State, Status, Start, RequestStatus, FaultStatus}
use Rattle.dwarf_meaning.specs.Run.{Position}
use Rattle.dwarf_meaning.specs.Steps.{Step, Resume, Log, Reply, Allows, after_steps, outcome_of}
use Rattle.dwarf_meaning.specs.Stores.{Setup}
use Rattle.dwarf_meaning.specs.Refusals.{Limits, Refusal, Never, After, MayPick}
use Rattle.dwarf_eval.specs.Evaluation.{reply_of}
use Rattle.dwarf_eval.specs.declared.op.results.EvaluationResult.{EvaluationResult}
use Rattle.dwarf_replay.specs.Replays.{StandsAt, IsInRequest, IsInFault, AreDoneFrom, log_at}
use Rattle.dwarf_replay.specs.Stepping.{HasReplied, IsSet, MayTake}
use Rattle.dwarf_replay.proofs.Standings.{Went, went_at_first}
use Rattle.dwarf_replay.proofs.Settings.{set_went_on}
use Rattle.dwarf_replay.proofs.CallSteps.{called_went_on}
use Rattle.dwarf_replay.proofs.Leading.{does_all_by, last_settings, leaves, spends, stops_at, went_back}
use Rattle.dwarf_replay.proofs.ReplayTurns.{last_allowed}
use Rattle.dwexpr_c.specs.Answered.{DoesMore, GoesOn, HasResumed, ShowsCall, TakesOrRefuses, outcome_at, outcome_in}
use Rattle.dwexpr_c.specs.Evaluated.{capacities, comes_of, log_by, outcome_by}
use Rattle.dwexpr_c.specs.Outcomes.{answer_coded}
use Rattle.dwexpr_c.specs.CallerTexts.{text_of_placed}
use Rattle.dwexpr_c.specs.Held.{HasCapacities, HasDone}
use Rattle.dwexpr_c.specs.declared.answers.DwexprAnswer.{DwexprAnswer}
use Rattle.dwexpr_c.specs.declared.memory.Held.{Held}
use Rattle.dwexpr_c.specs.declared.outcomes.DwexprOutcome.{DwexprOutcome}
use Rattle.dwexpr_c.specs.declared.pieces.DwexprPiece.{DwexprPiece}
use Rattle.dwexpr_c.specs.declared.places.Placed.{Placed}
use Rattle.dwexpr_c.specs.declared.texts.DwexprText.{DwexprText}
use Rattle.dwexpr_c.proofs.KeptSetups.{replied_by, set_keeps}

-- ---- the outcome by where an evaluation stands is that by its log

in_request : (request : Request) (positions : List Position) (x : State) (status : Status) → IsInRequest request positions x status → outcome_in x status ≡ Some (RequestOutcome request positions)
in_request request positions x (RequestStatus other on_answer) h =
    ap (λ (r : Request). Some (RequestOutcome r (record { text = x.text; place = x.place } ∷ x.callers))) h.0
    ∙ ap (λ (l : List Position). Some (RequestOutcome request l)) (sym h.1)
in_request request positions x _ h = absurd h

in_fault : (fault : Fault) (x : State) (status : Status) → IsInFault fault status → outcome_in x status ≡ Some (FaultOutcome fault)
in_fault fault x (FaultStatus error) h = ap (λ (f : Fault). Some (FaultOutcome f)) h
in_fault fault x _ h = absurd h

pub stands_as : (log : Log) (x : State) (o : Option Outcome) → StandsAt log x o → outcome_at x ≡ o
stands_as log x None h = ap (outcome_in x) h.0
stands_as log x (Some (RequestOutcome request positions)) h = in_request request positions x x.status h.0
stands_as log x (Some (FaultOutcome fault)) h = in_fault fault x x.status h
stands_as log x (Some (CompleteOutcome pieces value)) h =
    ap (outcome_in x) h.0 ∙ ap (λ (l : List Piece). Some (CompleteOutcome l value)) h.1

-- ---- no push is refused before a limit is met

none_free : (limits : Limits) (refusal : Refusal) → limits ≡ capacities → MayPick limits refusal → refusal ≡ Never
none_free limits Never e h = refl
none_free limits (After inputs pushes) e (inl h) = absurd (let v : Some 64 ≡ None = ap (λ (l : Limits). l.values) (sym e) ∙ h in cc)
none_free limits (After inputs pushes) e (inr (inl h)) = absurd (let v : Some 16 ≡ None = ap (λ (l : Limits). l.callers) (sym e) ∙ h in cc)
none_free limits (After inputs pushes) e (inr (inr h)) = absurd (let v : Some 32 ≡ None = ap (λ (l : Limits). l.pieces) (sym e) ∙ h in cc)

-- these steps were done without a refusal
pub record Done (first : State) (steps : List Step) (replies : List Reply) (new : State) : Type 0 where
  pub are_done : AreDoneFrom first steps replies (after_steps first.setup Never first.text (log_at first) steps) Never
  pub stands :
      let log = after_steps first.setup Never first.text (log_at first) steps in
      StandsAt log new (outcome_of first.setup Never first.text log)

done_by : (first : State) (steps : List Step) (replies : List Reply) (x : State) (log : Log) (refusal : Refusal)
    → AreDoneFrom first steps replies log refusal → StandsAt log x (outcome_of first.setup refusal first.text log) → refusal ≡ Never
    → Done first steps replies x
done_by first steps replies x log refusal are_done stands never =
    let done = subst (AreDoneFrom first steps replies log) never are_done in
    record {
      are_done = record { allowed = done.allowed; replies_are = done.replies_are; log_is = refl };
      stands =
          subst (λ (t : Log). StandsAt t x (outcome_of first.setup Never first.text t)) (sym done.log_is)
          (subst (λ (r : Refusal). StandsAt log x (outcome_of first.setup r first.text log)) never stands);
    }

pub done_never : (first : State) (steps : List Step) (replies : List Reply) (x : State) → first.setup.limits ≡ capacities → Went first steps replies x → Done first steps replies x
done_never first steps replies x limits went =
    let all = does_all_by first steps replies x went in
    done_by first steps replies x all.log all.refusal all.are_done all.stands (none_free first.setup.limits all.refusal limits all.may)

at_seam : (steps : List Step) (step : Step) → slice_get (steps ++ step ∷ []) (length steps) ≡ Some step
at_seam [] step = refl
at_seam (s ∷ steps) step = at_seam steps step

some_same : (a b : Step) → Some a ≡ Some b → a ≡ b
some_same a b e = cc

-- a step that isn't allowed after these steps
abbrev Refuses : State → Refusal → Step → List Step → Type 0
Refuses first refusal step steps =
    let log = after_steps first.setup refusal first.text (log_at first) steps in
    Allows log (outcome_of first.setup refusal first.text log) step → ⊥

refused_as : (first : State) (refusal : Refusal) (a b : Step) (steps others : List Step) → refusal ≡ Never → a ≡ b → steps ≡ others → Refuses first refusal a steps → Refuses first Never b others
refused_as first refusal a b steps others r s l h =
    subst (λ (z : List Step). Refuses first Never b z) l
    (subst (λ (z : Step). Refuses first Never z steps) s
    (subst (λ (z : Refusal). Refuses first z a steps) r h))

module _ (first : State) (steps : List Step) (replies : List Reply) (x : State) (limits : first.setup.limits ≡ capacities) where
  -- a step that the evaluation can't take isn't allowed
  pub refused : Went first steps replies x → (step : Step) → (MayTake step x.status → ⊥) → Refuses first Never step steps
  refused went step h =
      let beyond = steps ++ step ∷ [] in
      let there : slice_get beyond (length steps) ≡ Some step = at_seam steps step in
      let front : take (length steps) beyond ≡ steps = take-append_seam steps (step ∷ []) in
      let w = stops_at first beyond (length steps) replies x step there (subst (λ (l : List Step). Went first l replies x) (sym front) went) h in
      let same : w.step ≡ step = some_same w.step step (sym w.is_next ∙ there) in
      let refused : Refuses first w.does_all.refusal w.step (take (length steps) beyond) =
      subst (λ (t : Log). Allows t (outcome_of first.setup w.does_all.refusal first.text t) w.step → ⊥) (sym w.does_all.are_done.log_is) w.misplaced
      in
      refused_as first w.does_all.refusal w.step step (take (length steps) beyond) steps (none_free first.setup.limits w.does_all.refusal limits w.does_all.may) same front refused

  pub has_done : x.setup ≡ first.setup → Went first steps replies x → HasDone first steps x
  has_done setup went =
      let w = done_never first steps replies x limits went in
      let log = after_steps first.setup Never first.text (log_at first) steps in
      record {
        replies = replies;
        log = log;
        are_done = w.are_done;
        stands = w.stands;
        leaves = leaves first steps replies x went;
        setup = setup;
        settings = last_settings first steps replies x log w.are_done went;
        spends = spends first steps replies x went;
      }

-- before any step
pub none_done : (first : State) → first.setup.limits ≡ capacities → first.status ≡ Start None → HasDone first [] first
none_done first limits fresh = has_done first [] [] first limits refl (went_at_first first fresh)

-- where it stands, by the log of all steps
pub stands_by : (first : State) (steps : List Step) (x : State) (done : HasDone first steps x) → StandsAt (log_by first steps) x (comes_of first steps)
stands_by first steps x done =
    subst (λ (t : Log). StandsAt t x (outcome_of first.setup Never first.text t)) (sym done.are_done.log_is) done.stands

-- ---- one more step

module _ (first : State) (limits : first.setup.limits ≡ capacities) (steps : List Step) (x new : State) (done : HasDone first steps x) where
  went : Went first steps done.replies x
  went = went_back first steps done.replies x done.log done.are_done done.stands done.setup done.spends done.settings done.leaves

  pub called_more : (step : Step) (result : Result (EvaluationResult Placed ℕ) Error) → HasReplied text_of_placed (λ x. x) step x new result → HasDone first (steps ++ step ∷ []) new
  called_more step result h =
      has_done first (steps ++ step ∷ []) (done.replies ++ reply_of text_of_placed (λ x. x) result ∷ []) new limits
      ((replied_by x new result step h).setup ∙ done.setup)
      (called_went_on text_of_placed (λ x. x) first steps done.replies x new step result h went)

  pub set_more : (step : Step) → IsSet step x new → HasDone first (steps ++ step ∷ []) new
  set_more step h =
      has_done first (steps ++ step ∷ []) done.replies new limits (set_keeps x new step h ∙ done.setup)
      (set_went_on first steps done.replies step x new h went)

  not_more : (step : Step) → (MayTake step x.status → ⊥) → Allows done.log (outcome_of first.setup Never first.text done.log) step → ⊥
  not_more step h =
      subst (λ (t : Log). Allows t (outcome_of first.setup Never first.text t) step → ⊥) done.are_done.log_is
      (refused first steps done.replies x limits went step h)

  -- the last of the steps was allowed
  was_allowed : (step : Step) → HasDone first (steps ++ step ∷ []) new → (MayTake step x.status → ⊥) → ⊥
  was_allowed step all h =
      refused first steps done.replies x limits went step h
      (last_allowed first.setup Never first.text (log_at first) steps step all.are_done.allowed)

  -- ---- a resume

  module _ (texts : List DwexprText) (out : DwexprOutcome) (old places : List DwexprPiece) where
    does_more : (said : Result Answer ℕ) → TakesOrRefuses texts said x new out old places → DoesMore first steps said x new done
    does_more (Ok answer) (inl h) = inl (called_more (Resume answer) h.result h.called)
    does_more (Err code) (inl h) = absurd h
    does_more (Ok answer) (inr h) = inr (not_more (Resume answer) h.refused.1, h.same)
    does_more (Err code) (inr h) = h.same

    all_shown : (said : Result Answer ℕ) → TakesOrRefuses texts said x new out old places → IfOk said (λ answer. (all : HasDone first (steps ++ Resume answer ∷ []) new) → ShowsCall texts (outcome_by first all.log) out old places)
    all_shown (Ok answer) (inl h) = λ all.
        subst (λ (o : Option Outcome). ShowsCall texts o out old places) (stands_as all.log new (outcome_by first all.log) all.stands) h.shown
    all_shown (Ok answer) (inr h) = λ all. absurd (was_allowed (Resume answer) all h.refused.1)
    all_shown (Err code) h = tt

-- a resume goes on
pub goes_on : (texts : List DwexprText) (numbers : DwexprAnswer) (before after : Held) (out : DwexprOutcome) (old new : List DwexprPiece) → HasResumed texts numbers before after out old new → HasCapacities before.evaluation → GoesOn texts numbers before after out old new
goes_on texts numbers before after out old new h limits first steps done =
    let all = ap (λ (s : Setup). s.limits) (sym done.setup) ∙ limits in
    let said = answer_coded (is_big_of before.order) texts numbers in
    record {
      more = does_more first all steps before.evaluation after.evaluation done texts out old new said h.does;
      shown = all_shown first all steps before.evaluation after.evaluation done texts out old new said h.does;
    }
