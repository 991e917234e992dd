-- Settings, one more step each.
use Rattle.std.proofs.Common.{ℕ, ◌≡◌, List, [], ◌∷◌, ◌++◌, length, Option, Some, None, ap, ◌∙◌, sym, refl, subst}
use Rattle.std.proofs.lemmas.List.{append-nil}
use Rattle.dwarf_meaning.specs.Requests.{Request, OnAnswer, Input, Settings}
use Rattle.dwarf_meaning.specs.Refusals.{Refusal, before_inputs}
use Rattle.dwarf_meaning.specs.Meaning.{Outcome, meaning}
use Rattle.dwarf_meaning.specs.Rest.{State, Status, Start, Running, RequestStatus, CompleteStatus, FaultStatus, with_refusal, Total, total_by, total}
use Rattle.dwarf_meaning.specs.Steps.{Step, InitialValue, ObjectAddress, MaxIterations, Log, Reply, Allows, after, step_replies}
use Rattle.dwarf_meaning.specs.Inputs.{with_settings}
use Rattle.dwarf_eval.specs.Evaluation.{with_status}
use Rattle.dwarf_replay.specs.Stepping.{IsSet}
use Rattle.dwarf_replay.specs.Replays.{AreDoneFrom}
use Rattle.dwarf_meaning.specs.Bounds.{Spends}
use Rattle.dwarf_eval.proofs.Spending.{setting_spends, spent_initial, spent_more}
use Rattle.dwarf_replay.proofs.Standings.{outcome, done_more, Holds, Unstarted, Going, WentBy, Went, initial_count}

-- a request is open, or the evaluation is complete
abbrev IsOpenOrComplete : Status → Type 0
IsOpenOrComplete (RequestStatus request on_answer) = Unit {0}
IsOpenOrComplete (CompleteStatus value) = Unit {0}
IsOpenOrComplete _ = ⊥

module _ (first : State) where
  -- ---- settings

  -- the settings aren't looked at before an input brings its own
  waits_set : (settings : Settings) (r : Refusal) (x : State) (inputs : List Input) (request : Request) (on_answer : OnAnswer) → total_by (with_settings settings x) (with_refusal r (with_settings settings x).store) inputs (RequestStatus request on_answer) ≡ total_by x (with_refusal r x.store) inputs (RequestStatus request on_answer)
  waits_set settings r x [] request on_answer = refl
  waits_set settings r x (input ∷ inputs) request on_answer = refl

  total_set_by : (settings : Settings) (r : Refusal) (x : State) (inputs : List Input) (status : Status) → IsOpenOrComplete status → total_by (with_settings settings x) (with_refusal r (with_settings settings x).store) inputs status ≡ total_by x (with_refusal r x.store) inputs status
  total_set_by settings r x inputs (RequestStatus request on_answer) h = waits_set settings r x inputs request on_answer
  total_set_by settings r x inputs (CompleteStatus value) h = refl
  total_set_by settings r x inputs _ h = absurd h

  total_set : (settings : Settings) (r : Refusal) (x : State) (inputs : List Input) → IsOpenOrComplete x.status → total (with_settings settings x) r inputs ≡ total x r inputs
  unfolding total
  total_set settings r x inputs h = total_set_by settings r x inputs x.status h

  -- a step that is always allowed, and sets one of the two settings
  record IsSetting (step : Step) (x new : State) : Type 0 where
    log_after : Log → Log
    allowed : (log : Log) (o : Option Outcome) → Allows log o step
    after_is : (log : Log) (o : Option Outcome) → after log o step ≡ log_after log
    quiet : (o : Option Outcome) → step_replies step o ≡ []
    first_is : (log : Log) → (log_after log).first ≡ log.first
    inputs_are : (log : Log) → (log_after log).inputs ≡ log.inputs
    initial_is : (log : Log) → (log_after log).now.initial_value ≡ log.now.initial_value
    settings : Settings
    new_is : new ≡ with_settings settings x
    holds : (log : Log) → Holds first log x → Holds first (log_after log) new
    spends : Spends 0 x new

  module _ (steps : List Step) (given : List Reply) (step : Step) (x new : State) (s : IsSetting step x new) where
    set_spent : (log : Log) → Spends (initial_count log.now.initial_value) first x → Spends (initial_count (s.log_after log).now.initial_value) first new
    set_spent log h =
        let same : initial_count (s.log_after log).now.initial_value ≡ initial_count log.now.initial_value = ap initial_count (s.initial_is log) in
        subst (λ (n : ℕ). Spends n first new) (sym same) (spent_more (initial_count log.now.initial_value) first x new h s.spends)

    set_done : (r : Refusal) (log : Log) → AreDoneFrom first steps given log r → AreDoneFrom first (steps ++ step ∷ []) given (s.log_after log) r
    set_done r log w =
        done_more first steps given given step r log (s.log_after log) w (s.allowed log _) (s.after_is log _)
        (sym (append-nil given) ∙ ap (λ (l : List Reply). given ++ l) (sym (s.quiet (outcome first r (s.log_after log)))))

    set_going : IsOpenOrComplete x.status → Going first steps given x → Going first (steps ++ step ∷ []) given new
    set_going o w = record {
      log = s.log_after w.log;
      taken = w.taken;
      counted = ap length (s.inputs_are w.log) ∙ w.counted;
      are_done = λ r l. set_done (before_inputs w.taken r) w.log (w.are_done r l);
      settings = w.settings;
      started = s.first_is w.log ∙ w.started;
      rest_is = λ r inputs l.
          ap (λ (is : List Input). meaning first.setup (before_inputs w.taken r) first.text w.settings (is ++ inputs)) (s.inputs_are w.log)
          ∙ (w.rest_is r inputs l
          ∙ ap (λ (t : Total). t.outcome) (sym (total_set s.settings r x inputs o) ∙ ap (λ (z : State). total z r inputs) (sym s.new_is)));
      holds = s.holds w.log w.holds;
      spent = set_spent w.log w.spent;
    }

    set_by : (status : Status) → x.status ≡ status → WentBy first steps given x status → WentBy first (steps ++ step ∷ []) given new status
    set_by (Start initial_value) e w = record {
      log = s.log_after w.log;
      are_done = λ r. set_done r w.log (w.are_done r);
      started = s.first_is w.log ∙ w.started;
      inputs = s.inputs_are w.log ∙ w.inputs;
      initial = s.initial_is w.log ∙ w.initial;
      text = ap (λ (z : State). z.text) s.new_is ∙ w.text;
      holds = s.holds w.log w.holds;
      spent = set_spent w.log w.spent;
    }
    set_by (FaultStatus error) e w = record {
      log = s.log_after w.log;
      refusal = w.refusal;
      may = w.may;
      are_done = set_done w.refusal w.log w.are_done;
      settings = w.settings;
      started = s.first_is w.log ∙ w.started;
      fails = ap (meaning first.setup w.refusal first.text w.settings) (s.inputs_are w.log) ∙ w.fails;
      spent = set_spent w.log w.spent;
    }
    set_by Running e w = absurd w
    set_by _ e w = set_going (subst IsOpenOrComplete (sym e) tt) w

    set_went : Went first steps given x → Went first (steps ++ step ∷ []) given new
    set_went w =
        let status : x.status ≡ new.status = ap (λ (z : State). z.status) (sym s.new_is) in
        subst (WentBy first (steps ++ step ∷ []) given new) status (set_by x.status refl w)

  one_setting : (step : Step) (set : Settings → Settings) (x new : State) → ((log : Log) (o : Option Outcome) → Allows log o step) → ((log : Log) (o : Option Outcome) → after log o step ≡ record log { now = record log.now { settings = set log.now.settings } }) → ((o : Option Outcome) → step_replies step o ≡ []) → new ≡ with_settings (set x.store.settings) x → IsSetting step x new
  one_setting step set x new allowed after_is quiet e = record {
    log_after = λ log. record log { now = record log.now { settings = set log.now.settings } };
    allowed = allowed;
    after_is = after_is;
    quiet = quiet;
    first_is = λ log. refl;
    inputs_are = λ log. refl;
    initial_is = λ log. refl;
    settings = set x.store.settings;
    new_is = e;
    holds = λ log h. record { setup = ap (λ (z : State). z.setup) e ∙ h.setup; settings = ap (λ (z : State). z.store.settings) e ∙ ap set h.settings };
    spends = subst (Spends 0 x) (sym e) (setting_spends (set x.store.settings) x);
  }

  -- the initial value
  initial_went : (steps : List Step) (given : List Reply) (number : ℕ) (x new : State) → x.status ≡ Start None → new ≡ with_status (Start (Some number)) x → Went first steps given x → Went first (steps ++ InitialValue number ∷ []) given new
  initial_went steps given number x new e n h =
      let w : Unstarted first steps given x None = subst (WentBy first steps given x) e h in
      let now = record w.log { now = record w.log.now { initial_value = Some number } } in
      let status : new.status ≡ Start (Some number) = ap (λ (z : State). z.status) n in
      subst (WentBy first (steps ++ InitialValue number ∷ []) given new) (sym status)
      (record {
        log = now;
        are_done = λ r. done_more first steps given given (InitialValue number) r w.log now (w.are_done r) (w.started, w.initial) refl (sym (append-nil given));
        started = w.started;
        inputs = w.inputs;
        initial = refl;
        text = ap (λ (z : State). z.text) n ∙ w.text;
        holds = record { setup = ap (λ (z : State). z.setup) n ∙ w.holds.setup; settings = ap (λ (z : State). z.store.settings) n ∙ w.holds.settings };
        spent = spent_initial number first x new e n (subst (λ (v : Option ℕ). Spends (initial_count v) first x) w.initial w.spent);
      })

  pub set_went_on : (steps : List Step) (given : List Reply) (step : Step) (x new : State) → IsSet step x new → Went first steps given x → Went first (steps ++ step ∷ []) given new
  set_went_on steps given (InitialValue number) x new h w = initial_went steps given number x new h.0 h.1 w
  set_went_on steps given (ObjectAddress address) x new h w = set_went steps given (ObjectAddress address) x new (one_setting (ObjectAddress address) (λ k. record k { object_address = Some address }) x new (λ log o. tt) (λ log o. refl) (λ o. refl) h) w
  set_went_on steps given (MaxIterations maximum) x new h w = set_went steps given (MaxIterations maximum) x new (one_setting (MaxIterations maximum) (λ k. record k { maximum = maximum }) x new (λ log o. tt) (λ log o. refl) (λ o. refl) h) w
  set_went_on steps given _ x new h w = absurd h
