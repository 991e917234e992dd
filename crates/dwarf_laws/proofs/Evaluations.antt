-- Two evaluations of one text, step by step.
use Rattle.std.proofs.Common.{ℕ, ◌≡◌, ◌≢◌, ap, refl, sym, ◌∙◌, ◌⊎◌, inl, inr, List, [], ◌∷◌, ◌++◌, Option, Some, None}
use Rattle.std.specs.Prelude.{◌↔◌, option_map}
use Rattle.std.specs.List.{AllZip}
use Rattle.std.proofs.lemmas.List.Elements.{AllZip-push}
use Rattle.dwarf_base.specs.declared.errors.Error.TheVariants.{StackFull}
use Rattle.dwarf_base.specs.Reads.{Text}
use Rattle.dwarf_value.specs.Laws.{IsWidth}
use Rattle.dwarf_meaning.specs.Requests.{Answer, Input}
use Rattle.dwarf_meaning.specs.Stores.{Setup, address_bits}
use Rattle.dwarf_meaning.specs.Meaning.{IsOver, Outcome, FaultOutcome, First, course_of}
use Rattle.std.specs.Option.{unwrap_or}
use Rattle.std.specs.Option.{IfSome}
use Rattle.dwarf_meaning.proofs.OutcomeByInputs.{outcome_from}
use Rattle.dwarf_meaning.specs.Steps.{Step, Evaluate, Resume, Log, outcome_of, Awaits, Allows, inputs_after, after, Reply, reply, replies, step_replies, after_step, replies_of, empty_log}
use Rattle.dwarf_meaning.specs.Refusals.{Limits, Refusal}
use Rattle.dwarf_meaning.specs.Agreement.{Both, nothing, something, AgreeingAnswers, AgreeingSteps, initial_value, object_address, max_iterations, evaluate, resume, AgreeingFirsts, AgreeingInputs, AgreeingLogs, AgreeingOutcomes, requests}
use Rattle.dwarf_laws.specs.TwoRuns.{NoneIsFull, StandAlike, AreAlike, TwoRuns}
use Rattle.dwarf_meaning.proofs.Pairs.{Pairwise, none, more, pairs}
use Rattle.dwarf_meaning.proofs.Actions.{same_kinds}
use Rattle.dwarf_laws.proofs.Holdings.{either, pushing_either}
use Rattle.dwarf_laws.proofs.Meanings.{meaning_both}

-- ---- which step may come next

none_alike : {A : Type 0} {R : A → A → Type 0} {x y : Option A} → Both R x y → (x ≡ None) ↔ (y ≡ None)
none_alike nothing = (λ e. refl, λ e. refl)
none_alike (something r) = (λ e. cc, λ e. cc)

module _ (w : ℕ) where
  evaluable_both : (o o' : Option Outcome) → Both (AgreeingOutcomes w) o o' → IfSome o IsOver ↔ IfSome o' IsOver
  evaluable_both o o' (something requests) = (λ h. h, λ h. h)
  evaluable_both o o' _ = (λ h. h, λ h. h)

  awaits_both : (a b : Answer) (o o' : Option Outcome) → AgreeingAnswers w a b → Both (AgreeingOutcomes w) o o'
      → Awaits a o ↔ Awaits b o'
  awaits_both a b o o' k (something requests) = (λ h. h ∙ same_kinds w a b k, λ h. h ∙ sym (same_kinds w a b k))
  awaits_both a b o o' k _ = (λ h. h, λ h. h)

  allows_both : (log log' : Log) (o o' : Option Outcome) (x y : Step) → AgreeingLogs w log log'
      → Both (AgreeingOutcomes w) o o' → AgreeingSteps w x y → Allows log o x ↔ Allows log' o' y
  allows_both log log' o o' x y t h (initial_value e) = (
    λ i. ((none_alike t.first).0 i.0, (none_alike t.now.initial_value).0 i.1),
    λ i. ((none_alike t.first).1 i.0, (none_alike t.now.initial_value).1 i.1),
  )
  allows_both log log' o o' x y t h evaluate = evaluable_both o o' h
  allows_both log log' o o' x y t h (resume k) = awaits_both _ _ o o' k h
  allows_both log log' o o' x y t h _ = (λ i. i, λ i. i)

  -- ---- the log after a step

  begun_both : (x y : First) (f g : Option First) → AgreeingFirsts w x y → Both (AgreeingFirsts w) f g
      → AgreeingFirsts w (unwrap_or f x) (unwrap_or g y)
  begun_both x y f g a nothing = a
  begun_both x y f g a (something b) = b

  inputs_after_both : (x y : First) (inputs inputs' : List Input) (a b : Answer) (o o' : Option Outcome)
      → AgreeingFirsts w x y → AllZip (AgreeingInputs w) inputs inputs' → AgreeingAnswers w a b
      → Both (AgreeingOutcomes w) o o' → AllZip (AgreeingInputs w) (inputs_after x inputs a o) (inputs_after y inputs' b o')
  inputs_after_both x y inputs inputs' a b o o' f i k (something requests) =
      AllZip-push (AgreeingInputs w) _ _ _ _ i (record { settings = f.settings; answer = k })
  inputs_after_both x y inputs inputs' a b o o' f i k _ = i

  with_now : {log log' : Log} {x y : First} → AgreeingLogs w log log' → AgreeingFirsts w x y
      → AgreeingLogs w (record log { now = x }) (record log' { now = y })
  with_now t a = record { now = a; first = t.first; inputs = t.inputs }

  after_both : (log log' : Log) (o o' : Option Outcome) (x y : Step) → AgreeingLogs w log log'
      → Both (AgreeingOutcomes w) o o' → AgreeingSteps w x y → AgreeingLogs w (after log o x) (after log' o' y)
  after_both log log' o o' x y t h (initial_value e) =
      with_now t (record { initial_value = something e; settings = t.now.settings })
  after_both log log' o o' x y t h (object_address e) =
      with_now t (record {
        initial_value = t.now.initial_value;
        settings = record { object_address = something e; maximum = t.now.settings.maximum };
      })
  after_both log log' o o' x y t h max_iterations =
      with_now t (record {
        initial_value = t.now.initial_value;
        settings = record { object_address = t.now.settings.object_address; maximum = refl };
      })
  after_both log log' o o' x y t h evaluate =
      record { now = t.now; first = something (begun_both _ _ _ _ t.now t.first); inputs = t.inputs }
  after_both log log' o o' x y t h (resume k) =
      record { now = t.now; first = t.first; inputs = inputs_after_both _ _ _ _ _ _ o o' t.now t.inputs k h }

  -- ---- what a step answers

  same_reply : (o o' : Option Outcome) → Both (AgreeingOutcomes w) o o' → replies o ≡ replies o'
  same_reply o o' (something requests) = refl
  same_reply o o' _ = refl

  same_step_replies : (o o' : Option Outcome) (x y : Step) → Both (AgreeingOutcomes w) o o' → AgreeingSteps w x y
      → step_replies x o ≡ step_replies y o'
  same_step_replies o o' x y h evaluate = same_reply o o' h
  same_step_replies o o' x y h (resume k) = same_reply o o' h
  same_step_replies o o' x y h _ = refl

pub none_full_beyond : (xs ys : List Reply) → NoneIsFull (xs ++ ys) → NoneIsFull ys
none_full_beyond [] ys h = h
none_full_beyond (x ∷ xs) ys h = none_full_beyond xs ys h.1

-- ---- all steps

module _ (Free : Type 0) where
  -- no push was refused, if `Free` holds
  abbrev pub IsClearSoFar : Option Outcome → Type 0
  IsClearSoFar o = Free → o ≢ Some (FaultOutcome StackFull)

  pub clear_reply : (o : Option Outcome) (rest : List Reply) → (Free → NoneIsFull (replies o ++ rest)) → IsClearSoFar o
  clear_reply None rest h free e = cc
  clear_reply (Some x) rest h free e = let i : x ≡ FaultOutcome StackFull = cc in (h free).0 (ap reply i)

  pub clear_after : (setup : Setup) (refusal : Refusal) (text : Text) (log : Log) (x : Step) (rest : List Reply)
      → IsClearSoFar (outcome_of setup refusal text log)
      → (Free → NoneIsFull (step_replies x (outcome_of setup refusal text
      (after_step setup refusal text log x)) ++ rest))
      → IsClearSoFar (outcome_of setup refusal text (after_step setup refusal text log x))
  clear_after setup refusal text log Evaluate rest c h = clear_reply _ rest h
  clear_after setup refusal text log (Resume answer) rest c h = clear_reply _ rest h
  clear_after setup refusal text log step rest c h = c

module _ (Free : Type 0) (setup : Setup) (limits : Limits) (premise : Free ⊎ (setup.limits ≡ limits))
    (width : IsWidth (address_bits setup)) (refusal another : Refusal) (same_refusal : Free ⊎ (refusal ≡ another))
    (text : Text) where
  abbrev w : ℕ
  w = address_bits setup

  abbrev other : Setup
  other = record setup { limits = limits }

  outcomes_from : (f g : Option First) (inputs inputs' : List Input) → Both (AgreeingFirsts w) f g
      → AllZip (AgreeingInputs w) inputs inputs'
      → IsClearSoFar Free (outcome_from setup refusal text inputs f)
      → IsClearSoFar Free (outcome_from other another text inputs' g)
      → Both (AgreeingOutcomes w) (outcome_from setup refusal text inputs f) (outcome_from other another text inputs' g)
      × (option_map (λ (first : First). (course_of setup refusal text first inputs).path) f
      ≡ option_map (λ (first : First). (course_of other another text first inputs').path) g)
  outcomes_from f g inputs inputs' nothing i h k = (nothing, refl)
  outcomes_from f g inputs inputs' (something a) i h k =
      let both = meaning_both (either Free) setup limits (pushing_either Free setup.limits limits premise) (inl width)
      refusal another same_refusal text _ _ inputs inputs' a (λ e. absurd e) (record { each = pairs _ _ i; same = λ e. absurd e })
      (λ free e. h free (ap Some e)) (λ free e. k free (ap Some e)) in
      (something both.0, ap Some both.1)

  -- what agreeing logs lead to, if no push was refused
  stand_alike : (log log' : Log) → AgreeingLogs w log log'
      → IsClearSoFar Free (outcome_of setup refusal text log) → IsClearSoFar Free (outcome_of other another text log')
      → StandAlike setup other refusal another text log log'
  stand_alike log log' t c d =
      let o = outcomes_from log.first log'.first log.inputs log'.inputs t.first t.inputs c d in
      record {
        agreeing = t;
        outcomes = o.0;
        paths = o.1;
        next = λ x y a. allows_both w log log' _ _ x y t o.0 a;
      }

  pub alike_steps : (steps others : List Step) (log log' : Log) → Pairwise (AgreeingSteps w) steps others
      → AgreeingLogs w log log'
      → IsClearSoFar Free (outcome_of setup refusal text log) → IsClearSoFar Free (outcome_of other another text log')
      → (Free → NoneIsFull (replies_of setup refusal text log steps))
      → (Free → NoneIsFull (replies_of other another text log' others))
      → AreAlike setup other refusal another text log log' steps others
  alike_steps steps others log log' none t c d h k =
      record { allowed = (λ i. i, λ i. i); replies = refl; stand = stand_alike log log' t c d }
  alike_steps steps others log log' (more {x = x} {y = y} {xs = xs} {ys = ys} a as') t c d h k =
      let now = stand_alike log log' t c d in
      let log_now = after_step setup refusal text log x in
      let log_now' = after_step other another text log' y in
      let t_now = after_both w log log' _ _ x y t now.outcomes a in
      let c_now = clear_after Free setup refusal text log x (replies_of setup refusal text log_now xs) c h in
      let d_now = clear_after Free other another text log' y (replies_of other another text log_now' ys) d k in
      let o_now = outcomes_from log_now.first log_now'.first log_now.inputs log_now'.inputs t_now.first
      t_now.inputs c_now d_now in
      let allows = now.next x y a in
      let rest = alike_steps xs ys log_now log_now' as' t_now c_now d_now
      (λ free. none_full_beyond _ _ (h free)) (λ free. none_full_beyond _ _ (k free)) in
      let reply_now = same_step_replies w _ _ x y o_now.0 a in
      let replies_beyond = rest.replies in
      record {
        allowed = (λ i. (allows.0 i.0, rest.allowed.0 i.1), λ i. (allows.1 i.0, rest.allowed.1 i.1));
        replies = ap (λ (l : List Reply). l ++ replies_of setup refusal text log_now xs) reply_now
            ∙ ap (λ (l : List Reply). step_replies y (outcome_of other another text log_now') ++ l) replies_beyond;
        stand = rest.stand;
      }

pub two_runs : TwoRuns
two_runs setup limits refusal another text log second steps others width t p (inl e) =
    alike_steps ⊥ setup limits (inr e.0) width refusal another (inr e.1) text steps others log second (pairs _ _ p) t
    (λ free. absurd free) (λ free. absurd free) (λ free. absurd free) (λ free. absurd free)
two_runs setup limits refusal another text log second steps others width t p (inr e) =
    alike_steps (Unit {0}) setup limits (inl tt) width refusal another (inl tt) text steps others log second (pairs _ _ p) t
    (clear_reply (Unit {0}) _ _ (λ free. e.0)) (clear_reply (Unit {0}) _ _ (λ free. e.1))
    (λ free. none_full_beyond _ _ e.0) (λ free. none_full_beyond _ _ e.1)

-- with empty logs the premise holds
pub empty_logs_agree : (w : ℕ) → AgreeingLogs w empty_log empty_log
empty_logs_agree w =
    record {
      now = record { initial_value = nothing; settings = record { object_address = nothing; maximum = refl } };
      first = nothing;
      inputs = tt;
    }
