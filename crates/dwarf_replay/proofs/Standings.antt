-- What some steps came to, by where the evaluation stands, and one step more.
use Rattle.std.proofs.Common.{ℕ, zero, suc, ◌≡◌, List, [], ◌++◌, length, Option, Some, None, sym, refl, subst, ◌∷◌, ap, ◌∙◌, append_assoc}
use Rattle.dwarf_base.specs.declared.errors.Error.{Error}
use Rattle.dwarf_base.specs.Faults.{fault_of}
use Rattle.dwarf_meaning.specs.Requests.{Input}
use Rattle.dwarf_meaning.specs.Refusals.{Refusal, Never, After, Limits, IsLater, before_inputs, MayPick, before_input}
use Rattle.dwarf_meaning.specs.Meaning.{FaultOutcome, First, meaning, Outcome}
use Rattle.dwarf_meaning.specs.Rest.{State, Status, Start, Running, FaultStatus, total}
use Rattle.dwarf_meaning.specs.Steps.{Step, Log, Reply, Allows, AllAllowed, after, after_step, after_steps, replies_of, outcome_of, step_replies}
use Rattle.dwarf_replay.specs.Replays.{log_at, AreDoneFrom}
use Rattle.dwarf_meaning.specs.Bounds.{Spends}
use Rattle.dwarf_eval.proofs.Spending.{spent_here}
use Rattle.std.proofs.lemmas.List.{append-nil}
use Rattle.dwarf_base.specs.Reads.{Text}
use Rattle.dwarf_meaning.specs.Stores.{Setup}

-- ---- what some steps came to

-- how many items an initial value is
abbrev pub initial_count : Option ℕ → ℕ
initial_count (Some number) = 1
initial_count None = 0

-- the settings are those of the log
pub record Holds (first : State) (log : Log) (x : State) : Type 0 where
  pub setup : x.setup ≡ first.setup
  pub settings : x.store.settings ≡ log.now.settings

-- it wasn't started
pub record Unstarted (first : State) (steps : List Step) (given : List Reply) (x : State) (initial_value : Option ℕ) : Type 0 where
  pub log : Log
  pub are_done : (r : Refusal) → AreDoneFrom first steps given log r
  pub started : log.first ≡ None
  pub inputs : log.inputs ≡ []
  pub initial : log.now.initial_value ≡ initial_value
  pub text : x.text ≡ first.text
  pub holds : Holds first log x
  pub spent : Spends (initial_count log.now.initial_value) first x

-- it waits or is complete: what is left of it is what the meaning gives, for all inputs to come
pub record Going (first : State) (steps : List Step) (given : List Reply) (x : State) : Type 0 where
  pub log : Log
  pub taken : ℕ
  pub counted : length log.inputs ≡ taken
  pub are_done : (r : Refusal) → IsLater r → AreDoneFrom first steps given log (before_inputs taken r)
  pub settings : First
  pub started : log.first ≡ Some settings
  pub rest_is : (r : Refusal) (inputs : List Input) → IsLater r → meaning first.setup (before_inputs taken r) first.text settings (log.inputs ++ inputs) ≡ (total x r inputs).outcome
  pub holds : Holds first log x
  pub spent : Spends (initial_count log.now.initial_value) first x

-- it met a fault, for some refusal
pub record Over (first : State) (steps : List Step) (given : List Reply) (x : State) (error : Error) : Type 0 where
  pub log : Log
  pub refusal : Refusal
  pub may : MayPick first.setup.limits refusal
  pub are_done : AreDoneFrom first steps given log refusal
  pub settings : First
  pub started : log.first ≡ Some settings
  pub fails : meaning first.setup refusal first.text settings log.inputs ≡ FaultOutcome (fault_of error)
  pub spent : Spends (initial_count log.now.initial_value) first x

abbrev pub WentBy : State → List Step → List Reply → State → Status → Type 0
WentBy first steps given x (Start initial_value) = Unstarted first steps given x initial_value
WentBy first steps given x (FaultStatus error) = Over first steps given x error
WentBy first steps given x Running = ⊥
WentBy first steps given x _ = Going first steps given x

abbrev pub Went : State → List Step → List Reply → State → Type 0
Went first steps given x = WentBy first steps given x x.status

pub went_at_first : (x : State) → x.status ≡ Start None → Went x [] [] x
went_at_first x e =
    subst (WentBy x [] [] x) (sym e)
    (record {
      log = log_at x;
      are_done = λ r. record { allowed = tt; replies_are = refl; log_is = refl };
      started = refl;
      inputs = refl;
      initial = refl;
      text = refl;
      holds = record { setup = refl; settings = refl };
      spent = spent_here x;
    })

-- ---- refusals

pub later_before : (r : Refusal) → IsLater (before_input r)
later_before Never = tt
later_before (After inputs pushes) = tt

may_input : (limits : Limits) (r : Refusal) → MayPick limits r → MayPick limits (before_input r)
may_input limits Never h = h
may_input limits (After inputs pushes) h = h

pub may_inputs : (limits : Limits) (n : ℕ) (r : Refusal) → MayPick limits r → MayPick limits (before_inputs n r)
may_inputs limits zero r h = h
may_inputs limits (suc n) r h = may_inputs limits n (before_input r) (may_input limits r h)

-- ---- one more step of the definitions

module _ (setup : Setup) (refusal : Refusal) (text : Text) where
  after_more : (log : Log) (steps : List Step) (step : Step) → after_steps setup refusal text log (steps ++ step ∷ []) ≡ after_step setup refusal text (after_steps setup refusal text log steps) step
  after_more log [] step = refl
  after_more log (s ∷ steps) step = after_more (after_step setup refusal text log s) steps step

  allowed_more : (log : Log) (steps : List Step) (step : Step) → AllAllowed setup refusal text log steps → Allows (after_steps setup refusal text log steps) (outcome_of setup refusal text (after_steps setup refusal text log steps)) step → AllAllowed setup refusal text log (steps ++ step ∷ [])
  allowed_more log [] step h i = (i, tt)
  allowed_more log (s ∷ steps) step h i = (h.0, allowed_more (after_step setup refusal text log s) steps step h.1 i)

  pub answers_more : (log : Log) (steps : List Step) (step : Step) → replies_of setup refusal text log (steps ++ step ∷ []) ≡ replies_of setup refusal text log steps ++ step_replies step (outcome_of setup refusal text (after_step setup refusal text (after_steps setup refusal text log steps) step))
  answers_more log [] step = append-nil (step_replies step (outcome_of setup refusal text (after_step setup refusal text log step)))
  answers_more log (s ∷ steps) step =
      let now = after_step setup refusal text log s in
      let first = step_replies s (outcome_of setup refusal text now) in
      ap (λ (l : List Reply). first ++ l) (answers_more now steps step)
      ∙ sym (append_assoc first (replies_of setup refusal text now steps) (step_replies step (outcome_of setup refusal text (after_step setup refusal text (after_steps setup refusal text now steps) step))))

-- ---- one more step

module _ (first : State) where
  abbrev pub outcome : Refusal → Log → Option Outcome
  outcome r log = outcome_of first.setup r first.text log

  done_by : (steps : List Step) (given : List Reply) (step : Step) (r : Refusal) (log : Log) → AllAllowed first.setup r first.text (log_at first) steps → given ≡ replies_of first.setup r first.text (log_at first) steps → after_steps first.setup r first.text (log_at first) steps ≡ log → Allows log (outcome r log) step → AreDoneFrom first (steps ++ step ∷ []) (given ++ step_replies step (outcome r (after log (outcome r log) step))) (after log (outcome r log) step) r
  done_by steps given step r log allowed replies_are log_is h =
      let was = after_steps first.setup r first.text (log_at first) steps in
      record {
        allowed = allowed_more first.setup r first.text (log_at first) steps step allowed (subst (λ (t : Log). Allows t (outcome r t) step) (sym log_is) h);
        replies_are =
            ap (λ (l : List Reply). l ++ step_replies step (outcome r (after log (outcome r log) step))) replies_are
            ∙ (ap (λ (t : Log). replies_of first.setup r first.text (log_at first) steps ++ step_replies step (outcome r (after t (outcome r t) step))) (sym log_is)
            ∙ sym (answers_more first.setup r first.text (log_at first) steps step));
        log_is = after_more first.setup r first.text (log_at first) steps step ∙ ap (λ (t : Log). after t (outcome r t) step) log_is;
      }

  -- one more step that is allowed, and the log and the replies by then
  pub done_more : (steps : List Step) (given all : List Reply) (step : Step) (r : Refusal) (log now : Log) → AreDoneFrom first steps given log r → Allows log (outcome r log) step → after log (outcome r log) step ≡ now → all ≡ given ++ step_replies step (outcome r now) → AreDoneFrom first (steps ++ step ∷ []) all now r
  done_more steps given all step r log now w h after_is all_is =
      let made = done_by steps given step r log w.allowed w.replies_are w.log_is h in
      record {
        allowed = made.allowed;
        replies_are = all_is ∙ (ap (λ (t : Log). given ++ step_replies step (outcome r t)) (sym after_is) ∙ made.replies_are);
        log_is = made.log_is ∙ after_is;
      }
