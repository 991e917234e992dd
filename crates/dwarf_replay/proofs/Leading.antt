-- Where the steps lead: what the contract of a replay says of them.
use Rattle.std.proofs.Common.{ℕ, zero, suc, ◌≡◌, arith, List, [], ◌∷◌, Option, Some, None, take, slice_get, ap, ◌∙◌, sym, refl, subst, ◌++◌, length}
use Rattle.dwarf_base.specs.declared.errors.Error.{Error}
use Rattle.dwarf_base.specs.Faults.{Fault, fault_of}
use Rattle.dwarf_meaning.specs.Refusals.{Refusal, Never, before_inputs, MayPick}
use Rattle.dwarf_meaning.specs.Run.{Position}
use Rattle.dwarf_meaning.specs.Meaning.{Outcome, RequestOutcome, FaultOutcome, CompleteOutcome, First, meaning}
use Rattle.dwarf_meaning.specs.Rest.{State, Status, Start, Running, RequestStatus, CompleteStatus, FaultStatus, Total, total}
use Rattle.dwarf_meaning.proofs.OutcomeByInputs.{outcome_from}
use Rattle.dwarf_meaning.specs.Requests.{Input}
use Rattle.dwarf_meaning.specs.Steps.{Step, InitialValue, ObjectAddress, MaxIterations, Evaluate, Resume, Log, Reply, Allows, inputs_after, outcome_of, after_step, after_steps}
use Rattle.dwarf_replay.specs.Stepping.{MayTake}
use Rattle.dwarf_replay.specs.Replays.{IsInRequest, IsInFault, StandsAt, AreDoneFrom, DoesAll, StopsAt, log_at}
use Rattle.dwarf_eval.proofs.Following.{total_open, total_complete}
use Rattle.dwarf_replay.proofs.Standings.{WentBy, Went, may_inputs, Unstarted, Going, Over, initial_count}
use Rattle.dwarf_replay.proofs.CallSteps.{some_not_none, going_outcome}
use Rattle.dwarf_base.specs.Reads.{Text}
use Rattle.dwarf_meaning.specs.Bounds.{Spends, faults_in}
use Rattle.dwarf_meaning.specs.Stores.{Setup}
use Rattle.dwarf_replay.specs.Continuing.{IsUnbegun, IsLeft, Leaves, initial_items}

-- ---- where the steps lead

-- the steps were done, and something holds of the log
pub record Led (first : State) (steps : List Step) (given : List Reply) (x : State) (P : Log → Option Outcome → Type 0) : Type 0 where
  pub does_all : DoesAll first steps given x
  pub holds : P does_all.log (outcome_of first.setup does_all.refusal first.text does_all.log)

module _ (first : State) (steps : List Step) (given : List Reply) (x : State) (P : Log → Option Outcome → Type 0) where
  led : (log : Log) (refusal : Refusal) (outcome : Option Outcome) → AreDoneFrom first steps given log refusal → MayPick first.setup.limits refusal → outcome_of first.setup refusal first.text log ≡ outcome → StandsAt log x outcome → P log outcome → Led first steps given x P
  led log refusal outcome w may is stands holds = record {
    does_all = record {
      refusal = refusal;
      may = may;
      log = log;
      are_done = w;
      stands = subst (StandsAt log x) (sym is) stands;
    };
    holds = subst (P log) (sym is) holds;
  }

  -- what has to hold of the log, by where the evaluation stands
  abbrev Wanted : Status → Type 0
  Wanted (Start initial_value) = (log : Log) → log.first ≡ None → log.now.initial_value ≡ initial_value → P log None
  Wanted (RequestStatus request on_answer) = (log : Log) (settings : First) (positions : List Position) → log.first ≡ Some settings → P log (Some (RequestOutcome request positions))
  Wanted (CompleteStatus value) = (log : Log) (settings : First) → log.first ≡ Some settings → P log (Some (CompleteOutcome x.store.pieces value))
  Wanted (FaultStatus error) = (log : Log) (settings : First) → log.first ≡ Some settings → P log (Some (FaultOutcome (fault_of error)))
  Wanted Running = Unit {0}

  led_by : (status : Status) → x.status ≡ status → WentBy first steps given x status → Wanted status → Led first steps given x P
  led_by (Start initial_value) e w wanted =
      led w.log Never None (w.are_done Never) tt (ap (outcome_from first.setup Never first.text w.log.inputs) w.started) (e ∙ ap Start (sym w.initial), w.holds.settings) (wanted w.log w.started w.initial)
  led_by (RequestStatus request on_answer) e w wanted =
      let position : Position = record { text = x.text; place = x.place } in
      led w.log (before_inputs w.taken Never) (Some (RequestOutcome request (position ∷ x.callers))) (w.are_done Never tt) (may_inputs first.setup.limits w.taken Never tt)
      (going_outcome first steps given x w Never tt
      ∙ ap (λ (t : Total). Some t.outcome) (total_open Never x request on_answer e))
      (subst (IsInRequest request (position ∷ x.callers) x) (sym e) (refl, refl), w.holds.settings)
      (wanted w.log w.settings (position ∷ x.callers) w.started)
  led_by (CompleteStatus value) e w wanted =
      led w.log (before_inputs w.taken Never) (Some (CompleteOutcome x.store.pieces value)) (w.are_done Never tt) (may_inputs first.setup.limits w.taken Never tt)
      (going_outcome first steps given x w Never tt ∙ ap (λ (t : Total). Some t.outcome) (total_complete Never x [] value e))
      (e, refl)
      (wanted w.log w.settings w.started)
  led_by (FaultStatus error) e w wanted =
      led w.log w.refusal (Some (FaultOutcome (fault_of error))) w.are_done w.may
      (ap (outcome_from first.setup w.refusal first.text w.log.inputs) w.started ∙ ap Some w.fails)
      (subst (IsInFault (fault_of error)) (sym e) refl)
      (wanted w.log w.settings w.started)
  led_by Running e w wanted = absurd w

-- all steps were done
wanted_all : (x : State) (first : State) (steps : List Step) (given : List Reply) (status : Status) → Wanted first steps given x (λ log outcome. Unit {0}) status
wanted_all x first steps given (Start initial_value) = λ log s i. tt
wanted_all x first steps given (RequestStatus request on_answer) = λ log settings positions s. tt
wanted_all x first steps given Running = tt
wanted_all x first steps given _ = λ log settings s. tt

pub does_all_by : (first : State) (steps : List Step) (given : List Reply) (x : State) → Went first steps given x → DoesAll first steps given x
does_all_by first steps given x w =
    (led_by first steps given x (λ log outcome. Unit {0}) x.status refl w (wanted_all x first steps given x.status)).does_all

-- a step that the evaluation can't take isn't allowed
abbrev Misplaced : Step → Log → Option Outcome → Type 0
Misplaced step log outcome = Allows log outcome step → ⊥

wanted_not : (first : State) (steps : List Step) (given : List Reply) (x : State) (step : Step) (status : Status) → (MayTake step status → ⊥) → Wanted first steps given x (Misplaced step) status
wanted_not first steps given x (InitialValue number) (Start initial_value) h = λ log s i a. h (ap Start (sym i ∙ a.1))
wanted_not first steps given x (InitialValue number) (RequestStatus request on_answer) h = λ log settings positions s a. some_not_none settings (sym s ∙ a.0)
wanted_not first steps given x (InitialValue number) (CompleteStatus value) h = λ log settings s a. some_not_none settings (sym s ∙ a.0)
wanted_not first steps given x (InitialValue number) (FaultStatus error) h = λ log settings s a. some_not_none settings (sym s ∙ a.0)
wanted_not first steps given x (InitialValue number) Running h = tt
wanted_not first steps given x (ObjectAddress address) status h = absurd (h tt)
wanted_not first steps given x (MaxIterations maximum) status h = absurd (h tt)
wanted_not first steps given x Evaluate (Start initial_value) h = absurd (h tt)
wanted_not first steps given x Evaluate (RequestStatus request on_answer) h = λ log settings positions s a. a
wanted_not first steps given x Evaluate (CompleteStatus value) h = absurd (h tt)
wanted_not first steps given x Evaluate (FaultStatus error) h = absurd (h tt)
wanted_not first steps given x Evaluate Running h = tt
wanted_not first steps given x (Resume answer) (Start initial_value) h = λ log s i a. a
wanted_not first steps given x (Resume answer) (RequestStatus request on_answer) h = λ log settings positions s a. h a
wanted_not first steps given x (Resume answer) (CompleteStatus value) h = λ log settings s a. a
wanted_not first steps given x (Resume answer) (FaultStatus error) h = absurd (h tt)
wanted_not first steps given x (Resume answer) Running h = tt

pub stops_at : (first : State) (all : List Step) (index : ℕ) (given : List Reply) (x : State) (step : Step) → slice_get all index ≡ Some step → Went first (take index all) given x → (MayTake step x.status → ⊥) → StopsAt index first all given x
stops_at first all index given x step is_next w h =
    let l = led_by first (take index all) given x (Misplaced step) x.status refl w (wanted_not first (take index all) given x step x.status h) in
    record { does_all = l.does_all; step = step; is_next = is_next; misplaced = l.holds }

-- ---- the bounds

module _ (setup : Setup) (refusal : Refusal) (text : Text) where
  -- whether an initial value is set after these steps
  set_after : Log → List Step → ℕ
  set_after log steps = initial_count (after_steps setup refusal text log steps).now.initial_value

  stays_set : (log : Log) (number : ℕ) (steps : List Step) → log.now.initial_value ≡ Some number → set_after log steps ≡ 1
  unfolding set_after
  stays_set log number [] h = ap initial_count h
  stays_set log number (InitialValue other ∷ steps) h = stays_set (after_step setup refusal text log (InitialValue other)) other steps refl
  stays_set log number (ObjectAddress address ∷ steps) h = stays_set (after_step setup refusal text log (ObjectAddress address)) number steps h
  stays_set log number (MaxIterations maximum ∷ steps) h = stays_set (after_step setup refusal text log (MaxIterations maximum)) number steps h
  stays_set log number (Evaluate ∷ steps) h = stays_set (after_step setup refusal text log Evaluate) number steps h
  stays_set log number (Resume answer ∷ steps) h = stays_set (after_step setup refusal text log (Resume answer)) number steps h

  set_by : (log : Log) (steps : List Step) → log.now.initial_value ≡ None → set_after log steps ≡ initial_items steps
  unfolding set_after
  set_by log [] h = ap initial_count h
  set_by log (InitialValue number ∷ steps) h = stays_set (after_step setup refusal text log (InitialValue number)) number steps refl
  set_by log (ObjectAddress address ∷ steps) h = set_by (after_step setup refusal text log (ObjectAddress address)) steps h
  set_by log (MaxIterations maximum ∷ steps) h = set_by (after_step setup refusal text log (MaxIterations maximum)) steps h
  set_by log (Evaluate ∷ steps) h = set_by (after_step setup refusal text log Evaluate) steps h
  set_by log (Resume answer ∷ steps) h = set_by (after_step setup refusal text log (Resume answer)) steps h

module _ (first : State) (steps : List Step) (given : List Reply) (x : State) where
  spends_log : (log : Log) (refusal : Refusal) → AreDoneFrom first steps given log refusal → Spends (initial_count log.now.initial_value) first x → Spends (initial_items steps) first x
  unfolding set_after
  spends_log log refusal are_done h =
      subst (λ (n : ℕ). Spends n first x) (set_by first.setup refusal first.text (log_at first) steps refl)
      (subst (λ (t : Log). Spends (initial_count t.now.initial_value) first x) (sym are_done.log_is) h)

  spends_by : (status : Status) → WentBy first steps given x status → Spends (initial_items steps) first x
  spends_by (Start initial_value) w = spends_log w.log Never (w.are_done Never) w.spent
  spends_by (FaultStatus error) w = spends_log w.log w.refusal w.are_done w.spent
  spends_by Running w = absurd w
  spends_by _ w = spends_log w.log (before_inputs w.taken Never) (w.are_done Never tt) w.spent

  pub spends : Went first steps given x → Spends (initial_items steps) first x
  spends w = spends_by x.status w

  -- ---- what is left

  going_leaves : Going first steps given x → IsLeft first steps given x
  going_leaves w = record {
    log = w.log;
    setup = w.holds.setup;
    alike = λ r l. subst (λ (n : ℕ). AreDoneFrom first steps given w.log (before_inputs n r)) (sym w.counted) (w.are_done r l);
    more = λ r inputs l.
        let all = w.log.inputs ++ inputs in
        ap (outcome_from first.setup (before_inputs (length w.log.inputs) r) first.text all) w.started
        ∙ ap Some
        (ap (λ (n : ℕ). meaning first.setup (before_inputs n r) first.text w.settings all) w.counted ∙ w.rest_is r inputs l);
  }

  leaves_by : (status : Status) → WentBy first steps given x status → Leaves first steps given x status
  leaves_by (Start initial_value) w = record { log = w.log; setup = w.holds.setup; text = w.text; alike = w.are_done }
  leaves_by (FaultStatus error) w = tt
  leaves_by Running w = absurd w
  leaves_by _ w = going_leaves w

  pub leaves : Went first steps given x → Leaves first steps given x x.status
  leaves w = leaves_by x.status w

-- ---- and back: what the contract of a replay says is enough to go on

pub never_before : (n : ℕ) → before_inputs n Never ≡ Never
never_before zero = refl
never_before (suc n) = never_before n

module _ (setup : Setup) (refusal : Refusal) (text : Text) where
  none_first : (inputs : List Input) (start : Option First) → outcome_from setup refusal text inputs start ≡ None → start ≡ None
  none_first inputs None e = refl
  none_first inputs (Some first) e = absurd (let none : Some (meaning setup refusal text first inputs) ≡ None = e in cc)

  some_first : (inputs : List Input) (start : Option First) (o : Outcome) → outcome_from setup refusal text inputs start ≡ Some o → (first : First) × (start ≡ Some first)
  some_first inputs None o e = absurd (let none : None ≡ Some o = e in cc)
  some_first inputs (Some first) o e = (first, refl)

  -- before the start no input is taken
  untaken : (log : Log) (steps : List Step) → (after_steps setup refusal text log steps).first ≡ None → (log.first ≡ None) × ((after_steps setup refusal text log steps).inputs ≡ log.inputs)
  untaken log [] e = (e, refl)
  untaken log (InitialValue number ∷ steps) e = untaken (after_step setup refusal text log (InitialValue number)) steps e
  untaken log (ObjectAddress address ∷ steps) e = untaken (after_step setup refusal text log (ObjectAddress address)) steps e
  untaken log (MaxIterations maximum ∷ steps) e = untaken (after_step setup refusal text log (MaxIterations maximum)) steps e
  untaken log (Evaluate ∷ steps) e = absurd (some_not_none _ (untaken (after_step setup refusal text log Evaluate) steps e).0)
  untaken log (Resume answer ∷ steps) e =
      let w = untaken (after_step setup refusal text log (Resume answer)) steps e in
      (w.0, w.1 ∙ ap (λ (f : Option First). inputs_after log.now log.inputs answer (outcome_from setup refusal text log.inputs f)) w.0)

some_same : (a b : Outcome) → Some a ≡ Some b → a ≡ b
some_same a b e = cc

-- what stands at a status comes of such an outcome
stands_unstarted : (log : Log) (x : State) (initial_value : Option ℕ) → x.status ≡ Start initial_value → (o : Option Outcome) → StandsAt log x o → o ≡ None
stands_unstarted log x initial_value e None h = refl
stands_unstarted log x initial_value e (Some (RequestOutcome request positions)) h = absurd (subst (IsInRequest request positions x) e h.0)
stands_unstarted log x initial_value e (Some (FaultOutcome fault)) h = absurd (subst (IsInFault fault) e h)
stands_unstarted log x initial_value e (Some (CompleteOutcome pieces value)) h = absurd (let s : Start initial_value ≡ CompleteStatus value = sym e ∙ h.0 in cc)

stands_failed : (log : Log) (x : State) (error : Error) → x.status ≡ FaultStatus error → (o : Option Outcome) → StandsAt log x o → o ≡ Some (FaultOutcome (fault_of error))
stands_failed log x error e None h = absurd (let s : FaultStatus error ≡ Start log.now.initial_value = sym e ∙ h.0 in cc)
stands_failed log x error e (Some (RequestOutcome request positions)) h = absurd (subst (IsInRequest request positions x) e h.0)
stands_failed log x error e (Some (FaultOutcome fault)) h = ap (λ (f : Fault). Some (FaultOutcome f)) (sym (subst (IsInFault fault) e h))
stands_failed log x error e (Some (CompleteOutcome pieces value)) h = absurd (let s : FaultStatus error ≡ CompleteStatus value = sym e ∙ h.0 in cc)

module _ (first : State) (steps : List Step) (given : List Reply) (x : State) (log : Log) (done : AreDoneFrom first steps given log Never) where
  same_log : (other : Log) → AreDoneFrom first steps given other Never → other ≡ log
  same_log other w = sym w.log_is ∙ done.log_is

  same_later : (other : Log) (n : ℕ) → AreDoneFrom first steps given other (before_inputs n Never) → other ≡ log
  same_later other n w = same_log other (subst (AreDoneFrom first steps given other) (never_before n) w)

  settings_by : (status : Status) → WentBy first steps given x status → faults_in status ≡ 0 → x.store.settings ≡ log.now.settings
  settings_by (Start initial_value) w h = w.holds.settings ∙ ap (λ (t : Log). t.now.settings) (same_log w.log (w.are_done Never))
  settings_by (FaultStatus error) w h = absurd (omega (arith, h))
  settings_by Running w h = absurd w
  settings_by _ w h = w.holds.settings ∙ ap (λ (t : Log). t.now.settings) (same_later w.log w.taken (w.are_done Never tt))

  -- the settings are the last, unless it met a fault
  pub last_settings : Went first steps given x → faults_in x.status ≡ 0 → x.store.settings ≡ log.now.settings
  last_settings w h = settings_by x.status w h

  module _ (stands : StandsAt log x (outcome_of first.setup Never first.text log)) (setup : x.setup ≡ first.setup) (spent : Spends (initial_items steps) first x) where
    spent_by_log : Spends (initial_count log.now.initial_value) first x
    unfolding set_after
    spent_by_log =
        subst (λ (t : Log). Spends (initial_count t.now.initial_value) first x) done.log_is
        (subst (λ (n : ℕ). Spends n first x) (sym (set_by first.setup Never first.text (log_at first) steps refl)) spent)

    back_unstarted : (initial_value : Option ℕ) → x.status ≡ Start initial_value → IsUnbegun first steps given x → Unstarted first steps given x initial_value
    back_unstarted initial_value e w =
        let none = stands_unstarted log x initial_value e (outcome_of first.setup Never first.text log) stands in
        let at : StandsAt log x None = subst (StandsAt log x) none stands in
        let started : log.first ≡ None = none_first first.setup Never first.text log.inputs log.first none in
        record {
          log = log;
          are_done = λ r. subst (λ (t : Log). AreDoneFrom first steps given t r) (same_log w.log (w.alike Never)) (w.alike r);
          started = started;
          inputs = ap (λ (t : Log). t.inputs) (sym done.log_is) ∙ (untaken first.setup Never first.text (log_at first) steps (ap (λ (t : Log). t.first) done.log_is ∙ started)).1;
          initial = (let s : Start log.now.initial_value ≡ Start initial_value = sym at.0 ∙ e in cc);
          text = w.text;
          holds = record { setup = setup; settings = at.1 };
          spent = spent_by_log;
        }

    back_going : IsLeft first steps given x → x.store.settings ≡ log.now.settings → Going first steps given x
    back_going w last =
        let n = length w.log.inputs in
        let same : w.log ≡ log = same_later w.log n (w.alike Never tt) in
        let started = some_first first.setup (before_inputs n Never) first.text (w.log.inputs ++ []) w.log.first _ (w.more Never [] tt) in
        record {
          log = w.log;
          taken = n;
          counted = refl;
          are_done = w.alike;
          settings = started.0;
          started = started.1;
          rest_is = λ r inputs l.
              let given_first : Some (meaning first.setup (before_inputs n r) first.text started.0 (w.log.inputs ++ inputs)) ≡ Some (total x r inputs).outcome =
              ap (outcome_from first.setup (before_inputs n r) first.text (w.log.inputs ++ inputs)) (sym started.1) ∙ w.more r inputs l in
              some_same _ _ given_first;
          holds = record { setup = setup; settings = last ∙ ap (λ (t : Log). t.now.settings) (sym same) };
          spent = subst (λ (t : Log). Spends (initial_count t.now.initial_value) first x) (sym same) spent_by_log;
        }

    back_over : (error : Error) → x.status ≡ FaultStatus error → Over first steps given x error
    back_over error e =
        let failed = stands_failed log x error e (outcome_of first.setup Never first.text log) stands in
        let started = some_first first.setup Never first.text log.inputs log.first _ failed in
        record {
          log = log;
          refusal = Never;
          may = tt;
          are_done = done;
          settings = started.0;
          started = started.1;
          fails = some_same _ _ (ap (outcome_from first.setup Never first.text log.inputs) (sym started.1) ∙ failed);
          spent = spent_by_log;
        }

    went_by : (status : Status) → x.status ≡ status → (faults_in status ≡ 0 → x.store.settings ≡ log.now.settings) → Leaves first steps given x status → WentBy first steps given x status
    went_by (Start initial_value) e last w = back_unstarted initial_value e w
    went_by (FaultStatus error) e last w = back_over error e
    went_by Running e last w = absurd w
    went_by _ e last w = back_going w (last refl)

    pub went_back : (faults_in x.status ≡ 0 → x.store.settings ≡ log.now.settings) → Leaves first steps given x x.status → Went first steps given x
    went_back last w = went_by x.status refl last w
