-- A call gives the outcome of its text, by what the contracts of the calls say.
use Rattle.std.proofs.Common.{ℕ, suc, ◌≡◌, ap, refl, sym, subst, ◌∙◌, ◌⊎◌, inl, inr, List, [], ◌∷◌, ◌++◌, length, Option, Some, None, Result, Ok, Err, append_assoc, length-append, arith}
use Rattle.std.proofs.lemmas.List.{append-nil}
use Rattle.std.specs.Option.{option_map_or}
use Rattle.dwarf_base.specs.declared.errors.Error.{Error}
use Rattle.dwarf_base.specs.declared.errors.Error.TheVariants.{StackFull, UnexpectedEof}
use Rattle.dwarf_base.specs.Faults.{Fault, fault_of}
use Rattle.dwarf_base.specs.Reads.{Text}
use Rattle.dwarf_value.specs.declared.types.Value.{Value}
use Rattle.dwarf_meaning.specs.Requests.{Request, OnAnswer, Settings, Input}
use Rattle.dwarf_meaning.specs.declared.kinds.WaitingKind.{WaitingKind}
use Rattle.dwarf_meaning.specs.Kinds.{kind_of_request, kind_of_answer}
use Rattle.dwarf_meaning.specs.Stores.{Setup}
use Rattle.dwarf_meaning.specs.Run.{Position}
use Rattle.dwarf_meaning.specs.Meaning.{Outcome, RequestOutcome, FaultOutcome, CompleteOutcome, First, meaning}
use Rattle.dwarf_meaning.specs.Rest.{State, Status, Start, Running, RequestStatus, CompleteStatus, FaultStatus, Total, first_of, total, total_after}
use Rattle.dwarf_meaning.specs.Inputs.{input_of}
use Rattle.dwarf_meaning.specs.Bounds.{faults_in}
use Rattle.dwarf_meaning.specs.Refusals.{Refusal, Never, before_input, before_inputs}
use Rattle.dwarf_meaning.specs.Steps.{CompleteReply, RequestReply, FaultReply, reply}
use Rattle.dwarf_eval.specs.Evaluation.{Evaluates, Resumes, Follows, IsReplied, request_in, ok_reply, reply_of}
use Rattle.dwarf_eval.specs.Permits.{IsOpenFor}
use Rattle.dwarf_eval.specs.declared.op.results.EvaluationResult.{EvaluationResult}
use Rattle.dwarf_eval.specs.declared.op.results.EvaluationResult.TheVariants as result
use Rattle.dwarf_eval.proofs.Following.{total_open, total_complete, total_meaning}
use Rattle.dwarf_replay.specs.Replays.{IsInRequest, IsInFault}
use Rattle.dwarf_replay.proofs.Standings.{later_before}
use Rattle.dwarf_laws.proofs.Unrefused.{full_or_unlimited}
use Rattle.dwarf_expr.specs.Outcomes.{unlimited, IsFull, GivesBy, HasTaken, GivesOutcome, EvaluateGives, ResumeGives}

-- ---- replies

asked_of : (o : Option Request) (request : Request) → option_map_or RequestReply o CompleteReply ≡ RequestReply request → o ≡ Some request
asked_of None request e = absurd (cc)
asked_of (Some asked) request e = let same : asked ≡ request = cc in ap Some same

not_a_fault : (o : Option Request) (fault : Fault) → option_map_or RequestReply o CompleteReply ≡ FaultReply fault → ⊥
not_a_fault None fault e = cc
not_a_fault (Some asked) fault e = cc

full_of : (error : Error) → fault_of error ≡ StackFull → error ≡ StackFull
full_of (UnexpectedEof id) e = absurd (cc)
full_of error e = e

same_fault : (first second : Fault) → FaultReply first ≡ FaultReply second → first ≡ second
same_fault first second e = cc

-- the actual outcome is that of a refused push, or this one
abbrev IsFullOr : Outcome → Outcome → Type 0
IsFullOr outcome actual = (actual ≡ FaultOutcome StackFull) ⊎ (actual ≡ outcome)

full_or_then : (outcome actual other : Outcome) → other ≡ actual → IsFullOr outcome actual → IsFullOr outcome other
full_or_then outcome actual other e (inl full) = inl (e ∙ full)
full_or_then outcome actual other e (inr same) = inr (e ∙ same)

full_or_by : (outcome actual middle : Outcome) → middle ≡ outcome → IsFullOr middle actual → IsFullOr outcome actual
full_or_by outcome actual middle e (inl full) = inl full
full_or_by outcome actual middle e (inr same) = inr (same ∙ e)

module _ {R O : Type 0} (view : R → Text) (number : O → ℕ) where
  complete_of : (replied : EvaluationResult R O) → ok_reply view number replied ≡ CompleteReply → replied ≡ result.Complete
  complete_of result.Complete e = refl
  complete_of replied e = absurd (cc)

  -- ---- what a call gives, by the status after it

  module _ (setup : Setup) (text : Text) (first : First) (inputs : List Input) (new : State) where
    abbrev Given : Outcome → Result (EvaluationResult R O) Error → Type 0
    Given outcome replied = GivesBy view number setup text first inputs outcome replied new

    abbrev open_texts : List Position
    open_texts = record { text = new.text; place = new.place } ∷ new.callers

    gives_request : (request : Request) (on_answer : OnAnswer) (replied : Result (EvaluationResult R O) Error)
        → HasTaken setup text first inputs new → new.status ≡ RequestStatus request on_answer
        → reply_of view number replied ≡ RequestReply request → Given (RequestOutcome request open_texts) replied
    gives_request request on_answer (Ok replied) taken status e = (
      asked_of (request_in view number replied) request e,
      subst (IsOpenFor (kind_of_request request)) (sym status) refl,
      subst (IsInRequest request open_texts new) (sym status) (refl, refl),
      taken,
    )
    gives_request request on_answer (Err error) taken status e = absurd (cc)

    gives_completion : (value : Option Value) (replied : Result (EvaluationResult R O) Error)
        → new.status ≡ CompleteStatus value → reply_of view number replied ≡ CompleteReply
        → Given (CompleteOutcome new.store.pieces value) replied
    gives_completion value (Ok replied) status e = (complete_of replied e, status, refl)
    gives_completion value (Err error) status e = absurd (cc)

    gives_fault : (error : Error) (replied : Result (EvaluationResult R O) Error)
        → new.status ≡ FaultStatus error → reply_of view number replied ≡ FaultReply (fault_of error)
        → Given (FaultOutcome (fault_of error)) replied
    gives_fault error (Ok replied) status e = absurd (not_a_fault (request_in view number replied) (fault_of error) e)
    gives_fault error (Err other) status e =
        inl (same_fault (fault_of other) (fault_of error) e, subst (IsInFault (fault_of error)) (sym status) refl)

    is_full : (error other : Error) → new.status ≡ FaultStatus error → FaultReply (fault_of other) ≡ FaultReply (fault_of error)
        → fault_of error ≡ StackFull → IsFull other new
    is_full error other status e full =
        (full_of other (same_fault (fault_of other) (fault_of error) e ∙ full), status ∙ ap FaultStatus (full_of error full))

    gives_full : (outcome : Outcome) (error : Error) (replied : Result (EvaluationResult R O) Error)
        → new.status ≡ FaultStatus error → reply_of view number replied ≡ FaultReply (fault_of error)
        → fault_of error ≡ StackFull → Given outcome replied
    gives_full outcome error (Ok replied) status e full =
        absurd (not_a_fault (request_in view number replied) (fault_of error) e)
    gives_full (FaultOutcome fault) error (Err other) status e full = inr (is_full error other status e full)
    gives_full (RequestOutcome request positions) error (Err other) status e full = is_full error other status e full
    gives_full (CompleteOutcome pieces value) error (Err other) status e full = is_full error other status e full

    -- a fault was met, and the outcome is that of a refused push, or the one given
    gives_met : (outcome actual : Outcome) (error : Error) (replied : Result (EvaluationResult R O) Error)
        → reply_of view number replied ≡ reply actual → new.status ≡ FaultStatus error
        → reply_of view number replied ≡ FaultReply (fault_of error) → IsFullOr outcome actual → Given outcome replied
    gives_met outcome actual error replied told status e (inl full) =
        gives_full outcome error replied status e (same_fault (fault_of error) StackFull (sym e ∙ (told ∙ ap reply full)))
    gives_met (FaultOutcome fault) actual error replied told status e (inr same) =
        subst (λ (f : Fault). Given (FaultOutcome f) replied)
        (same_fault (fault_of error) fault (sym e ∙ (told ∙ ap reply same)))
        (gives_fault error replied status e)
    gives_met (RequestOutcome request positions) actual error replied told status e (inr same) =
        let clash : FaultReply (fault_of error) ≡ RequestReply request = sym e ∙ (told ∙ ap reply same) in absurd (cc)
    gives_met (CompleteOutcome pieces value) actual error replied told status e (inr same) =
        let clash : FaultReply (fault_of error) ≡ CompleteReply = sym e ∙ (told ∙ ap reply same) in absurd (cc)

    -- where the evaluation stands is the outcome given, unless that is a fault
    stands_at : (outcome stands : Outcome) → (stands ≡ FaultOutcome StackFull → ⊥) → IsFullOr outcome stands → stands ≡ outcome
    stands_at outcome stands clear (inl full) = absurd (clear full)
    stands_at outcome stands clear (inr same) = same

    module _ (replied : Result (EvaluationResult R O) Error) (outcome actual : Outcome)
        (told : reply_of view number replied ≡ reply actual) (is : IsFullOr outcome actual)
        (taken : faults_in new.status ≡ 0 → HasTaken setup text first inputs new)
        (here : faults_in new.status ≡ 0 → IsFullOr outcome (total new Never []).outcome) where
      gives_by : (status : Status) → new.status ≡ status → IsReplied (reply_of view number replied) status
          → Given outcome replied
      gives_by (RequestStatus request on_answer) e t =
          subst (λ (o : Outcome). Given o replied)
          (stands_at outcome (RequestOutcome request open_texts) (λ f. cc)
          (full_or_then outcome _ (RequestOutcome request open_texts)
          (sym (ap (λ (z : Total). z.outcome) (total_open Never new request on_answer e))) (here (ap faults_in e))))
          (gives_request request on_answer replied (taken (ap faults_in e)) e t)
      gives_by (CompleteStatus value) e t =
          subst (λ (o : Outcome). Given o replied)
          (stands_at outcome (CompleteOutcome new.store.pieces value) (λ f. cc)
          (full_or_then outcome _ (CompleteOutcome new.store.pieces value)
          (sym (ap (λ (z : Total). z.outcome) (total_complete Never new [] value e))) (here (ap faults_in e))))
          (gives_completion value replied e t)
      gives_by (FaultStatus error) e t = gives_met outcome actual error replied told e t is
      gives_by (Start initial_value) e t = absurd t
      gives_by Running e t = absurd t

  -- ---- from what `Follows` says

  module _ (setup : Setup) (text : Text) (first : First) (inputs : List Input) (old new : State)
      (totals : Refusal → List Input → Total)
      (meant : (r : Refusal) (later : List Input)
      → (totals r later).outcome ≡ meaning old.setup (before_inputs (length inputs) r) text first (inputs ++ later))
      (setup_is : unlimited old.setup ≡ setup) (settings_are : old.store.settings ≡ first.settings)
      (replied : Result (EvaluationResult R O) Error) (follows : Follows old totals (reply_of view number replied) new) where
    full_or : (r : Refusal) (outcome : Outcome) → meaning setup Never text first inputs ≡ outcome
        → IsFullOr outcome (totals r []).outcome
    full_or r outcome e =
        full_or_then outcome _ (totals r []).outcome (meant r [])
        (full_or_by outcome _ _
        (ap (λ (s : Setup). meaning s Never text first (inputs ++ [])) setup_is
        ∙ (ap (meaning setup Never text first) (append-nil inputs) ∙ e))
        (full_or_unlimited old.setup (before_inputs (length inputs) r) text first (inputs ++ [])))

    has_taken : faults_in new.status ≡ 0 → HasTaken setup text first inputs new
    has_taken o =
        record {
          setup_is = ap unlimited follows.kept.setup ∙ setup_is;
          settings_are = follows.kept.settings ∙ settings_are;
          clear = o;
          comes = λ r later l. sym (ap (λ (z : Total). z.outcome) (follows.more o r later l)) ∙ (meant r later
              ∙ ap (λ (s : Setup). meaning s (before_inputs (length inputs) r) text first (inputs ++ later)) (sym follows.kept.setup));
        }

    follows_gives : (outcome : Outcome) → meaning setup Never text first inputs ≡ outcome
        → GivesOutcome view number setup text first inputs outcome replied new
    follows_gives outcome e =
        record {
          by_outcome = gives_by setup text first inputs new replied outcome (totals follows.refusal []).outcome follows.reply
              (full_or follows.refusal outcome e) has_taken
              (λ o. full_or_then outcome _ (total new Never []).outcome
              (sym (ap (λ (z : Total). z.outcome) (follows.more o Never [] tt))) (full_or Never outcome e))
              new.status refl follows.status;
        }

  -- ---- the laws

  pub evaluate_gives : (old : State) → EvaluateGives view number old
  evaluate_gives old setup text first outcome replied new fresh evaluates e =
      let follows : Follows old (total old) (reply_of view number replied) new =
      subst (λ (s : Status). Evaluates view number old new replied s) fresh.status_is evaluates in
      follows_gives setup text first [] old new (total old)
      (λ r later. total_meaning r old later first.initial_value fresh.status_is
      ∙ (ap (λ (t : Text). meaning old.setup r t (first_of old first.initial_value) later) fresh.text_is
      ∙ ap (λ (s : Settings). meaning old.setup r text (record { initial_value = first.initial_value; settings = s }) later) fresh.settings_are))
      fresh.setup_is fresh.settings_are replied follows outcome e

  -- one more input was taken
  one_more : (f : Refusal → List Input → Outcome) (inputs later : List Input) (input : Input) (r : Refusal)
      → f (before_inputs (length inputs) (before_input r)) (inputs ++ input ∷ later)
      ≡ f (before_inputs (length (inputs ++ input ∷ [])) r) ((inputs ++ input ∷ []) ++ later)
  one_more f inputs later input r =
      let n : length (inputs ++ input ∷ []) ≡ suc (length inputs) = omega (arith, length-append inputs (input ∷ [])) in
      ap (λ (k : ℕ). f (before_inputs k r) (inputs ++ input ∷ later)) (sym n)
      ∙ ap (f (before_inputs (length (inputs ++ input ∷ [])) r)) (sym (append_assoc inputs (input ∷ []) later))

  -- the request that is open
  open_request : (kind : WaitingKind) (status : Status) → IsOpenFor kind status → faults_in status ≡ 0
      → (request : Request) × (on_answer : OnAnswer) × (status ≡ RequestStatus request on_answer)
  open_request kind (RequestStatus request on_answer) is_open clear = (request, on_answer, refl)
  open_request kind (FaultStatus error) is_open clear = absurd (omega (arith, clear))
  open_request kind (Start initial_value) is_open clear = absurd is_open
  open_request kind Running is_open clear = absurd is_open
  open_request kind (CompleteStatus value) is_open clear = absurd is_open

  pub resume_gives : (old : State) → ResumeGives view number old
  resume_gives old setup text first inputs answer outcome replied new taken is_open answers e =
      let input : Input = record { settings = first.settings; answer = answer } in
      let waits = open_request (kind_of_answer answer) old.status is_open taken.clear in
      let resumes : Follows old (total_after old (input_of old answer)) (reply_of view number replied) new =
      subst (λ (s : Status). Resumes view number (input_of old answer) old new replied s) waits.2 answers.follows in
      let follows : Follows old (total_after old input) (reply_of view number replied) new =
      subst (λ (s : Settings). Follows old (total_after old (record { settings = s; answer = answer })) (reply_of view number replied) new)
      taken.settings_are resumes in
      follows_gives setup text first (inputs ++ input ∷ []) old new (total_after old input)
      (λ r later. taken.comes (before_input r) (input ∷ later) (later_before r)
      ∙ one_more (λ (q : Refusal) (l : List Input). meaning old.setup q text first l) inputs later input r)
      taken.setup_is taken.settings_are replied follows outcome e
