-- One turn of a replay.
use Rattle.std.proofs.Common.{ℕ, suc, ◌≡◌, List, [], ◌∷◌, ◌++◌, length, Result, Option, Some, None, take, slice_get, arith, ◌≤◌, ap, ◌∙◌, sym, refl, subst}
use Rattle.std.proofs.lemmas.List.{length-append, length-map, map-append, take_all}
use Rattle.std.proofs.lemmas.Option.{slice_get-map, slice_get_within, get_or_from_slice_get}
use Rattle.std.proofs.Math.Seq.{take-suc, take-append_seam}
use Rattle.std.specs.Option.{option_map, unwrap_or}
use Rattle.dwarf_base.specs.declared.errors.Error.{Error}
use Rattle.dwarf_base.specs.Reads.{Text}
use Rattle.dwarf_meaning.specs.Requests.{Answer}
use Rattle.dwarf_meaning.specs.Stores.{Setup}
use Rattle.dwarf_meaning.specs.Meaning.{First, meaning}
use Rattle.dwarf_meaning.specs.Rest.{State}
use Rattle.dwarf_meaning.proofs.OutcomeByInputs.{outcome_from}
use Rattle.dwarf_meaning.specs.Steps.{Step, Evaluate, Resume, Log, Reply, reply, replies, Awaits, Allows, AllAllowed, after_step, after_steps, replies_of, outcome_of, step_replies}
use Rattle.dwarf_meaning.specs.Refusals.{Refusal}
use Rattle.dwarf_eval.specs.Lists.{MayRefuse}
use Rattle.dwarf_replay.specs.Stepping.{step_of, IsSet, HasReplied}
use Rattle.dwarf_replay.specs.Replays.{log_at, steps_of, reply_in, replies_in, OverflowsAt}
use Rattle.dwarf_replay.specs.declared.steps.Step as code
use Rattle.dwarf_replay.specs.declared.steps.Answer as kept_answer
use Rattle.dwarf_eval.specs.declared.op.results.EvaluationResult.{EvaluationResult}
use Rattle.dwarf_replay.proofs.Standings.{answers_more, Went}
use Rattle.dwarf_replay.proofs.Settings.{set_went_on}
use Rattle.dwarf_replay.proofs.CallSteps.{called_went_on}
use Rattle.dwarf_replay.proofs.Leading.{does_all_by}

-- ---- one turn of a replay

-- two lists that are the same with one more item each
same_front : {A : Type 0} (xs ys : List A) (a b : A) → xs ++ a ∷ [] ≡ ys ++ b ∷ [] → xs ≡ ys
same_front xs ys a b e =
    let left = length-append xs (a ∷ []) in
    let right = length-append ys (b ∷ []) in
    let both = ap length e in
    let same : length xs ≡ length ys = omega (arith, left, right, both) in
    sym (take-append_seam xs (a ∷ []))
    ∙ (ap (take (length xs)) e
    ∙ (ap (λ (n : ℕ). take n (ys ++ b ∷ [])) same
    ∙ take-append_seam ys (b ∷ [])))

module _ (setup : Setup) (refusal : Refusal) (text : Text) where
  pub last_allowed : (log : Log) (steps : List Step) (step : Step) → AllAllowed setup refusal text log (steps ++ step ∷ []) → Allows (after_steps setup refusal text log steps) (outcome_of setup refusal text (after_steps setup refusal text log steps)) step
  last_allowed log [] step h = h.0
  last_allowed log (s ∷ steps) step h = last_allowed (after_step setup refusal text log s) steps step h.1

  -- a call that is allowed answers once
  record Replies (step : Step) (log : Log) : Type 0 where
    reply_is : Reply
    one : step_replies step (outcome_of setup refusal text (after_step setup refusal text log step)) ≡ reply_is ∷ []

  started_replies : (answer : Answer) (log : Log) (f : Option First) → log.first ≡ f → Awaits answer (outcome_from setup refusal text log.inputs f) → Replies (Resume answer) log
  started_replies answer log None e h = absurd h
  started_replies answer log (Some first) e h =
      let now = after_step setup refusal text log (Resume answer) in
      record {
        reply_is = reply (meaning setup refusal text first now.inputs);
        one = ap (λ (f : Option First). replies (outcome_from setup refusal text now.inputs f)) e;
      }

  call_replies : {R O : Type 0} (view : R → Text) (number : O → ℕ) (step : Step) (log : Log) (x new : State) (given : Result (EvaluationResult R O) Error) → HasReplied view number step x new given → Allows log (outcome_of setup refusal text log) step → Replies step log
  call_replies view number Evaluate log x new given c h = record { reply_is = reply (meaning setup refusal text (unwrap_or log.first log.now) log.inputs); one = refl }
  call_replies view number (Resume answer) log x new given c h = started_replies answer log log.first refl h
  call_replies view number _ log x new given c h = absurd c

module _ {R : Type 0} (view : R → Text) (all : List (code.Step R)) (index : ℕ) (step : code.Step R) (is_next : slice_get all index ≡ Some step) where
  pub next_is : slice_get (steps_of view all) index ≡ Some (step_of view step)
  next_is = slice_get-map (step_of view) all index ∙ ap (option_map (step_of view)) is_next

  take_next : take (suc index) (steps_of view all) ≡ take index (steps_of view all) ++ step_of view step ∷ []
  take_next =
      take-suc (steps_of view all) index (step_of view step) (slice_get_within (steps_of view all) index (step_of view step) next_is)
      ∙ ap (λ (s : Step). take index (steps_of view all) ++ s ∷ []) (get_or_from_slice_get (steps_of view all) index (step_of view step) (step_of view step) next_is)

module _ {R O : Type 0} (view : R → Text) (number : O → ℕ) (first : State) (all : List (code.Step R)) (index : ℕ) (step : code.Step R) (is_next : slice_get all index ≡ Some step) (given : List (kept_answer.Answer R O)) (x new : State) (w : Went first (take index (steps_of view all)) (replies_in view number given) x) where
  -- the step set something
  pub set_on : (kept : List (kept_answer.Answer R O)) → kept ≡ given → IsSet (step_of view step) x new → Went first (take (suc index) (steps_of view all)) (replies_in view number kept) new
  set_on kept e h =
      subst (λ (steps : List Step). Went first steps (replies_in view number kept) new) (sym (take_next view all index step is_next))
      (subst (λ (l : List (kept_answer.Answer R O)). Went first (take index (steps_of view all) ++ step_of view step ∷ []) (replies_in view number l) new) (sym e)
      (set_went_on first (take index (steps_of view all)) (replies_in view number given) (step_of view step) x new h w))

  -- the step was done, and gave an answer
  module _ (answer : kept_answer.Answer R O) (h : HasReplied view number (step_of view step) x new answer.0) where
    pub called_on : Went first (take (suc index) (steps_of view all)) (replies_in view number given ++ reply_in view number answer ∷ []) new
    called_on =
        subst (λ (steps : List Step). Went first steps (replies_in view number given ++ reply_in view number answer ∷ []) new) (sym (take_next view all index step is_next))
        (called_went_on view number first (take index (steps_of view all)) (replies_in view number given) x new (step_of view step) answer.0 h w)

    -- which was kept
    pub kept_on : (kept : List (kept_answer.Answer R O)) → kept ≡ given ++ answer ∷ [] → Went first (take (suc index) (steps_of view all)) (replies_in view number kept) new
    kept_on kept e =
        subst (λ (l : List Reply). Went first (take (suc index) (steps_of view all)) l new)
        (sym (ap (replies_in view number) e ∙ map-append (reply_in view number) given (answer ∷ []))) called_on

    -- which found no room
    pub overflowed : (limit : Option ℕ) → MayRefuse limit (length given) → OverflowsAt index (reply_in view number answer) limit first (steps_of view all) (replies_in view number given) new
    overflowed limit full =
        let done = take index (steps_of view all) in
        let one = reply_in view number answer in
        let before = replies_in view number given in
        let next = take_next view all index step is_next in
        let whole = does_all_by first (take (suc index) (steps_of view all)) (before ++ one ∷ []) new called_on in
        let r = whole.refusal in
        let log = after_steps first.setup r first.text (log_at first) done in
        let allowed = subst (AllAllowed first.setup r first.text (log_at first)) next whole.are_done.allowed in
        let calls = call_replies first.setup r first.text view number (step_of view step) log x new answer.0 h (last_allowed first.setup r first.text (log_at first) done (step_of view step) allowed) in
        record {
          does_all = whole;
          before = same_front before (replies_of first.setup r first.text (log_at first) done) one calls.reply_is
              (whole.are_done.replies_are ∙ (ap (replies_of first.setup r first.text (log_at first)) next
              ∙ (answers_more first.setup r first.text (log_at first) done (step_of view step)
              ∙ ap (λ (l : List Reply). replies_of first.setup r first.text (log_at first) done ++ l) calls.one)));
          inside = (step_of view step, next_is view all index step is_next);
          full = subst (MayRefuse limit) (sym (length-map given (reply_in view number))) full;
        }

-- at the end all steps were taken
pub went_all : {R O : Type 0} (view : R → Text) (number : O → ℕ) (first : State) (all : List (code.Step R)) (index : ℕ) (given : List (kept_answer.Answer R O)) (x : State) → length all ≤ index → Went first (take index (steps_of view all)) (replies_in view number given) x → Went first (steps_of view all) (replies_in view number given) x
went_all view number first all index given x h w =
    let lengths = length-map all (step_of view) in
    let past : length (steps_of view all) ≤ index = omega (arith, lengths, h) in
    subst (λ (steps : List Step). Went first steps (replies_in view number given) x) (take_all index (steps_of view all) past) w
