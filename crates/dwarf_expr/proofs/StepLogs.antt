-- The log after steps, if no fault was met; and a refusal that refused nothing changes nothing.
use Rattle.std.proofs.Common.{◌≡◌, ◌≢◌, ap, refl, sym, subst, ◌∙◌, ◌⊎◌, inl, inr, List, [], ◌∷◌, ◌++◌, Option, Some, None, append_assoc}
use Rattle.std.proofs.lemmas.List.{append-nil}
use Rattle.dwarf_base.specs.Faults.{Fault}
use Rattle.dwarf_base.specs.declared.errors.Error.TheVariants.{StackFull}
use Rattle.dwarf_base.specs.Reads.{Text}
use Rattle.dwarf_meaning.specs.Requests.{RequiresCallFrameCfa, Input}
use Rattle.dwarf_meaning.specs.Stores.{Setup}
use Rattle.dwarf_meaning.specs.Meaning.{IsOver, Outcome, RequestOutcome, FaultOutcome, CompleteOutcome, First, meaning}
use Rattle.std.specs.Option.{unwrap_or}
use Rattle.dwarf_meaning.proofs.OutcomeByInputs.{outcome_from}
use Rattle.dwarf_meaning.specs.Steps.{Step, Evaluate, Resume, Log, outcome_of, Allows, after, step_replies, after_step, after_steps, AllAllowed, replies_of}
use Rattle.dwarf_meaning.specs.Rest.{State}
use Rattle.dwarf_replay.specs.Replays.{StandsAt}
use Rattle.dwarf_meaning.specs.Refusals.{Refusal, Never}
use Rattle.dwarf_meaning.proofs.MoreInputs.{over_meaning}
use Rattle.dwarf_laws.specs.TwoRuns.{NoneIsFull}
use Rattle.dwarf_meaning.specs.RowWords.{no_limits}
use Rattle.dwarf_laws.proofs.Unrefused.{meaning_calm}
use Rattle.dwarf_laws.proofs.Evaluations.{none_full_beyond, clear_after}

-- ---- the log after steps

-- a request is open
abbrev waiting : Option Outcome
waiting = Some (RequestOutcome RequiresCallFrameCfa [])

-- the log after steps, if every answer is awaited
abbrev pub log_steps : Log → List Step → Log
log_steps log [] = log
log_steps log (step ∷ steps) = log_steps (after log waiting step) steps

pub log_steps_more : (log : Log) (steps more : List Step) → log_steps log (steps ++ more) ≡ log_steps (log_steps log steps) more
log_steps_more log [] more = refl
log_steps_more log (step ∷ steps) more = log_steps_more (after log waiting step) steps more

-- the inputs that steps add come after those before
pub log_steps_inputs : (log : Log) (inputs : List Input) (steps : List Step)
    → (log_steps (record log { inputs = inputs }) steps).inputs ≡ inputs ++ (log_steps (record log { inputs = [] }) steps).inputs
log_steps_inputs log inputs [] = sym (append-nil inputs)
log_steps_inputs log inputs (Resume answer ∷ steps) =
    let input : Input = record { settings = log.now.settings; answer = answer } in
    log_steps_inputs log (inputs ++ input ∷ []) steps
    ∙ (append_assoc inputs (input ∷ []) (log_steps (record log { inputs = [] }) steps).inputs
    ∙ ap (λ (l : List Input). inputs ++ l) (sym (log_steps_inputs log (input ∷ []) steps)))
log_steps_inputs log inputs (step ∷ steps) = log_steps_inputs (after log waiting step) inputs steps

pub log_steps_first : (log : Log) (steps : List Step) (first : First) → log.first ≡ Some first
    → (log_steps log steps).first ≡ Some first
log_steps_first log [] first e = e
log_steps_first log (Evaluate ∷ steps) first e =
    log_steps_first (after log waiting Evaluate) steps first (ap (λ (o : Option First). Some (unwrap_or o log.now)) e)
log_steps_first log (step ∷ steps) first e = log_steps_first (after log waiting step) steps first e

module _ (setup : Setup) (refusal : Refusal) (text : Text) where
  abbrev pub comes : Log → Option Outcome
  comes log = outcome_of setup refusal text log

  -- ---- a fault is kept

  more_keeps : (inputs more : List Input) (o : Option First) (fault : Fault)
      → outcome_from setup refusal text inputs o ≡ Some (FaultOutcome fault)
      → outcome_from setup refusal text (inputs ++ more) o ≡ Some (FaultOutcome fault)
  more_keeps inputs more None fault e = absurd (cc)
  more_keeps inputs more (Some first) fault e =
      let met : meaning setup refusal text first inputs ≡ FaultOutcome fault = cc in
      ap Some (over_meaning setup refusal text first inputs more (subst IsOver (sym met) tt) ∙ met)

  begun_keeps : (settings : First) (inputs : List Input) (o : Option First) (fault : Fault)
      → outcome_from setup refusal text inputs o ≡ Some (FaultOutcome fault)
      → outcome_from setup refusal text inputs (Some (unwrap_or o settings)) ≡ Some (FaultOutcome fault)
  begun_keeps settings inputs None fault e = absurd (cc)
  begun_keeps settings inputs (Some first) fault e = e

  -- whatever is open
  step_keeps : (log : Log) (step : Step) (o : Option Outcome) (fault : Fault) → comes log ≡ Some (FaultOutcome fault)
      → comes (after log o step) ≡ Some (FaultOutcome fault)
  step_keeps log Evaluate o fault e = begun_keeps log.now log.inputs log.first fault e
  step_keeps log (Resume answer) (Some (RequestOutcome request positions)) fault e = more_keeps log.inputs _ log.first fault e
  step_keeps log step o fault e = e

  steps_keep : (log : Log) (steps : List Step) (fault : Fault) → comes log ≡ Some (FaultOutcome fault)
      → comes (after_steps setup refusal text log steps) ≡ Some (FaultOutcome fault)
  steps_keep log [] fault e = e
  steps_keep log (step ∷ steps) fault e =
      steps_keep (after_step setup refusal text log step) steps fault (step_keeps log step (comes log) fault e)

  log_steps_keep : (log : Log) (steps : List Step) (fault : Fault) → comes log ≡ Some (FaultOutcome fault)
      → comes (log_steps log steps) ≡ Some (FaultOutcome fault)
  log_steps_keep log [] fault e = e
  log_steps_keep log (step ∷ steps) fault e =
      log_steps_keep (after log waiting step) steps fault (step_keeps log step waiting fault e)

  -- ---- without a fault every answer was awaited

  log_by : (log : Log) (step : Step) (o : Option Outcome) → Allows log o step → ((fault : Fault) → o ≢ Some (FaultOutcome fault))
      → after log o step ≡ after log waiting step
  log_by log (Resume answer) None a h = absurd a
  log_by log (Resume answer) (Some (FaultOutcome fault)) a h = absurd (h fault refl)
  log_by log (Resume answer) (Some (CompleteOutcome pieces value)) a h = absurd a
  log_by log step o a h = refl

  -- if no fault was met in the end, of the first steps
  pub log_before : (log : Log) (steps more : List Step) → AllAllowed setup refusal text log (steps ++ more)
      → ((fault : Fault) → comes (after_steps setup refusal text log (steps ++ more)) ≢ Some (FaultOutcome fault))
      → after_steps setup refusal text log steps ≡ log_steps log steps
  log_before log [] more a h = refl
  log_before log (step ∷ steps) more a h =
      let now = log_by log step (comes log) a.0 (λ fault e. h fault (steps_keep log (step ∷ (steps ++ more)) fault e)) in
      log_before (after_step setup refusal text log step) steps more a.1 h ∙ ap (λ (t : Log). log_steps t steps) now

  -- of all
  pub log_is : (log : Log) (steps : List Step) → AllAllowed setup refusal text log steps
      → ((fault : Fault) → comes (after_steps setup refusal text log steps) ≢ Some (FaultOutcome fault))
      → after_steps setup refusal text log steps ≡ log_steps log steps
  log_is log steps =
      subst (λ (l : List Step). AllAllowed setup refusal text log l
      → ((fault : Fault) → comes (after_steps setup refusal text log l) ≢ Some (FaultOutcome fault))
      → after_steps setup refusal text log steps ≡ log_steps log steps) (append-nil steps) (log_before log steps [])

  -- if the outcome by the log after the steps is no fault
  pub log_comes : (log : Log) (steps : List Step) → AllAllowed setup refusal text log steps
      → ((fault : Fault) → comes (log_steps log steps) ≢ Some (FaultOutcome fault))
      → after_steps setup refusal text log steps ≡ log_steps log steps
  log_comes log [] a h = refl
  log_comes log (step ∷ steps) a h =
      let now = log_by log step (comes log) a.0 (λ fault e. h fault (log_steps_keep log (step ∷ steps) fault e)) in
      let same = ap (λ (t : Log). log_steps t steps) now in
      log_comes (after_step setup refusal text log step) steps a.1
      (subst (λ (t : Log). (fault : Fault) → comes t ≢ Some (FaultOutcome fault)) (sym same) h) ∙ same

-- ---- without a refusal

-- the steps were done by the definitions without a refusal
pub record Done (setup : Setup) (text : Text) (log : Log) (steps : List Step) (new : State) : Type 0 where
  pub allowed : AllAllowed setup Never text log steps
  pub stands : StandsAt (after_steps setup Never text log steps) new
      (outcome_of setup Never text (after_steps setup Never text log steps))

module _ (setup : Setup) (free_lists : setup.limits ≡ no_limits) (refusal : Refusal) (text : Text) where
  abbrev IsClear : Option Outcome → Type 0
  IsClear o = o ≢ Some (FaultOutcome StackFull)

  same_or : (o o' : Outcome) → (o ≡ FaultOutcome StackFull) ⊎ (o ≡ o') → IsClear (Some o) → Some o ≡ Some o'
  same_or o o' (inl e) c = absurd (c (ap Some e))
  same_or o o' (inr e) c = ap Some e

  same_from : (inputs : List Input) (o : Option First) → IsClear (outcome_from setup refusal text inputs o)
      → outcome_from setup refusal text inputs o ≡ outcome_from setup Never text inputs o
  same_from inputs None c = refl
  same_from inputs (Some first) c = same_or _ _ (meaning_calm setup free_lists refusal text first inputs) c

  pub unrefused : (log : Log) (steps : List Step) (new : State) → IsClear (outcome_of setup refusal text log)
      → AllAllowed setup refusal text log steps
      → NoneIsFull (replies_of setup refusal text log steps)
      → StandsAt (after_steps setup refusal text log steps) new
      (outcome_of setup refusal text (after_steps setup refusal text log steps))
      → Done setup text log steps new
  unrefused log [] new c a n s =
      record { allowed = tt; stands = subst (λ (o : Option Outcome). StandsAt log new o) (same_from log.inputs log.first c) s }
  unrefused log (step ∷ steps) new c a n s =
      let same = same_from log.inputs log.first c in
      let now = after_step setup refusal text log step in
      let clear_now = clear_after (Unit {0}) setup refusal text log step (replies_of setup refusal text now steps)
      (λ free. c) (λ free. n) in
      let rest = subst (λ (t : Log). Done setup text t steps new) (ap (λ (o : Option Outcome). after log o step) same)
      (unrefused now steps new (clear_now tt) a.1
      (none_full_beyond (step_replies step (outcome_of setup refusal text now)) (replies_of setup refusal text now steps) n) s) in
      record { allowed = (subst (λ (o : Option Outcome). Allows log o step) same a.0, rest.allowed); stands = rest.stands }
