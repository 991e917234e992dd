-- Two replays by agreeing steps, over the law of two runs.
use Rattle.std.proofs.Common.{ℕ, zero, suc, ◌≡◌, ◌<◌, ◌≤◌, ap, refl, sym, subst, ◌∙◌, ◌⊎◌, inl, inr, List, [], ◌∷◌, ◌++◌, length, take, Option, Some, arith, append_assoc}
use Rattle.std.proofs.lemmas.Bool.{cases_lt}
use Rattle.std.proofs.lemmas.List.{take_all}
use Rattle.std.proofs.lemmas.List.Elements.{length_all_zip}
use Rattle.std.proofs.lemmas.Option.{slice_get_within}
use Rattle.std.specs.Prelude.{slice_get}
use Rattle.std.specs.List.{AllZip}
use Rattle.dwarf_base.specs.declared.errors.Error.{Error}
use Rattle.dwarf_base.specs.Faults.{Fault, fault_of}
use Rattle.dwarf_base.specs.Reads.{Text}
use Rattle.dwarf_meaning.specs.Requests.{Request, OnAnswer}
use Rattle.dwarf_meaning.specs.Stores.{Setup, address_bits}
use Rattle.dwarf_meaning.specs.Run.{Position}
use Rattle.dwarf_meaning.specs.Meaning.{Outcome}
use Rattle.dwarf_meaning.specs.Inputs.{fresh_state}
use Rattle.dwarf_meaning.specs.RowWords.{dwarf4}
use Rattle.dwarf_meaning.specs.Rest.{State, Status, RequestStatus, FaultStatus}
use Rattle.dwarf_meaning.specs.Steps.{Step, Log, Reply, outcome_of, Allows, AllAllowed, step_replies, after_step, after_steps, replies_of}
use Rattle.dwarf_meaning.specs.Refusals.{Limits, Refusal, Never, After, HasFreeList, MayPick}
use Rattle.dwarf_meaning.specs.Agreement as agreeing
use Rattle.dwarf_meaning.specs.Agreement.{Both, nothing, something, AgreeingSteps, AgreeingLogs, AgreeingOutcomes}
use Rattle.dwarf_laws.specs.TwoRuns.{NoneIsFull, AreAlike, AreComparable}
use Rattle.dwarf_meaning.proofs.Pairs.{Pairwise, none, more, zipped, pairs, get_both}
use Rattle.dwarf_laws.proofs.Evaluations.{two_runs}
use Rattle.dwarf_replay.specs.Replays.{log_at, IsInRequest, IsInFault, StandsAt}
use Rattle.dwarf_expr.specs.Twins.{AreTwins, MayReplay, AreComparableReplays, open_texts, StatesStandAlike, unstarted, in_request, in_fault, in_completion, IsFront, DoesAllWith, FindsMisplaced, FindsNoRoom, ReplayAlike, TwoReplays}

-- ---- prefixes of lists

pub take_both : {A : Type 0} {R : A → A → Type 0} (n : ℕ) {xs ys : List A} → Pairwise R xs ys → Pairwise R (take n xs) (take n ys)
take_both zero h = none
take_both (suc n) none = none
take_both (suc n) (more r rs) = more r (take_both n rs)

none_full_front : (xs ys : List Reply) → NoneIsFull (xs ++ ys) → NoneIsFull xs
none_full_front [] ys h = tt
none_full_front (x ∷ xs) ys h = (h.0, none_full_front xs ys h.1)

module _ (setup : Setup) (refusal : Refusal) (text : Text) where
  -- the replies to the first steps, and to more of them
  replies_front : (n m : ℕ) (log : Log) (steps : List Step) → n ≤ m
      → IsFront (replies_of setup refusal text log (take n steps)) (replies_of setup refusal text log (take m steps))
  replies_front zero m log steps h = (replies_of setup refusal text log (take m steps), refl)
  replies_front (suc n) zero log steps h = absurd (omega arith)
  replies_front (suc n) (suc m) log [] h = ([], refl)
  replies_front (suc n) (suc m) log (step ∷ steps) h =
      let now = after_step setup refusal text log step in
      let first = step_replies step (outcome_of setup refusal text now) in
      let beyond = replies_front n m now steps (omega arith) in (
        beyond.0,
        append_assoc first (replies_of setup refusal text now (take n steps)) beyond.0
            ∙ ap (λ (l : List Reply). first ++ l) beyond.1,
      )

  -- of steps that are all allowed, each one is
  allowed_at : (n m : ℕ) (log : Log) (steps : List Step) (step : Step) → n < m → slice_get steps n ≡ Some step
      → AllAllowed setup refusal text log (take m steps)
      → Allows (after_steps setup refusal text log (take n steps))
      (outcome_of setup refusal text (after_steps setup refusal text log (take n steps))) step
  allowed_at n zero log steps step h e a = absurd (omega arith)
  allowed_at n (suc m) log [] step h e a = absurd (cc)
  allowed_at zero (suc m) log (s ∷ steps) step h e a =
      let same : s ≡ step = cc in subst (λ (z : Step). Allows log (outcome_of setup refusal text log) z) same a.0
  allowed_at (suc n) (suc m) log (s ∷ steps) step h e a =
      allowed_at n m (after_step setup refusal text log s) steps step (omega arith) e a.1

-- ---- where evaluations stand

pub asking_of : (x : State) (request : Request) (positions : List Position) (status : Status) → IsInRequest request positions x status
    → (on_answer : OnAnswer) × (status ≡ RequestStatus request on_answer) × (positions ≡ open_texts x)
asking_of x request positions (RequestStatus open_request on_answer) h = (on_answer, ap (λ r. RequestStatus r on_answer) h.0, h.1)
asking_of x request positions _ h = absurd h

pub stopped_of : (fault : Fault) (status : Status) → IsInFault fault status
    → (error : Error) × (status ≡ FaultStatus error) × (fault_of error ≡ fault)
stopped_of fault (FaultStatus error) h = (error, refl, h)
stopped_of fault _ h = absurd h

stand_alike : (bits : ℕ) (x y : State) (log log' : Log) (o o' : Option Outcome) → AgreeingLogs bits log log'
    → Both (AgreeingOutcomes bits) o o'
    → StandsAt log x o → StandsAt log' y o' → StatesStandAlike bits x y
stand_alike bits x y log log' o o' t nothing h k = unstarted _ _ h.0 k.0 t.now.initial_value
stand_alike bits x y log log' o o' t (something (agreeing.requests {request = request} {positions = positions})) h k =
    let first = asking_of x request positions x.status h.0 in
    let second = asking_of y request positions y.status k.0 in
    in_request request first.0 second.0 first.1 second.1 (sym first.2 ∙ second.2)
stand_alike bits x y log log' o o' t (something (agreeing.faults {fault = fault})) h k =
    let first = stopped_of fault x.status h in
    let second = stopped_of fault y.status k in
    in_fault first.0 second.0 first.1 second.1 (first.2 ∙ sym second.2)
stand_alike bits x y log log' o o' t (something (agreeing.completions {pieces = pieces} {others = others} p v)) h k =
    let q : AllZip (agreeing.AgreeingPieces bits) x.store.pieces others =
    subst (λ ps. AllZip (agreeing.AgreeingPieces bits) ps others) (sym h.1) p
    in
    in_completion _ _ h.0 k.0 v (subst (λ ps. AllZip (agreeing.AgreeingPieces bits) x.store.pieces ps) (sym k.1) q)

-- ---- steps that were done

-- with this refusal they were allowed, the replies are theirs, and the evaluation stands where they lead
pub record Did (x : State) (steps : List Step) (refusal : Refusal) (replies : List Reply) (new : State) : Type 0 where
  pub may : MayPick x.setup.limits refusal
  pub allowed : AllAllowed x.setup refusal x.text (log_at x) steps
  pub replies_are : replies ≡ replies_of x.setup refusal x.text (log_at x) steps
  pub stands : StandsAt (after_steps x.setup refusal x.text (log_at x) steps) new
      (outcome_of x.setup refusal x.text (after_steps x.setup refusal x.text (log_at x) steps))

pub did : (x : State) (steps : List Step) (refusal : Refusal) (replies : List Reply) (new : State)
    → DoesAllWith refusal x steps replies new → Did x steps refusal replies new
did x steps refusal replies new w =
    subst (λ (r : Refusal). Did x steps r replies new) w.1
    (record {
      may = w.0.may;
      allowed = w.0.are_done.allowed;
      replies_are = w.0.are_done.replies_are;
      stands = subst (λ (t : Log). StandsAt t new (outcome_of x.setup w.0.refusal x.text t)) (sym w.0.are_done.log_is) w.0.stands;
    })

module _ (x : State) (steps : List Step) (refusal : Refusal) (replies : List Reply) (new : State) where
  -- the first n of them
  abbrev DidFirst : ℕ → Type 0
  DidFirst n = Did x (take n steps) refusal replies new

  -- and then the next one isn't allowed
  record Stuck (n : ℕ) : Type 0 where
    did : DidFirst n
    step : Step
    is_next : slice_get steps n ≡ Some step
    misplaced : Allows (after_steps x.setup refusal x.text (log_at x) (take n steps))
        (outcome_of x.setup refusal x.text (after_steps x.setup refusal x.text (log_at x) (take n steps))) step → ⊥

  did_all : DoesAllWith refusal x steps replies new → DidFirst (length steps)
  did_all w =
      subst (λ (l : List Step). Did x l refusal replies new) (sym (take_all (length steps) steps (omega arith)))
      (did x steps refusal replies new w)

  did_over : (n : ℕ) → FindsNoRoom n refusal x steps replies new → DidFirst (suc n)
  did_over n w =
      subst (λ (l : List Reply). Did x (take (suc n) steps) refusal l new) (sym w.5)
      (did x (take (suc n) steps) refusal (w.0 ++ w.1 ∷ []) new (w.3.does_all, w.4))

  front_of : (n m : ℕ) → n ≤ m → DidFirst m → IsFront (replies_of x.setup refusal x.text (log_at x) (take n steps)) replies
  front_of n m h d =
      let f = replies_front x.setup refusal x.text n m (log_at x) steps h in (f.0, f.1 ∙ sym d.replies_are)

  -- no more steps than these meet no more refusals
  front_is_clear : (n m : ℕ) → n ≤ m → DidFirst m → NoneIsFull replies
      → NoneIsFull (replies_of x.setup refusal x.text (log_at x) (take n steps))
  front_is_clear n m h d k = let f = front_of n m h d in none_full_front _ f.0 (subst NoneIsFull (sym f.1) k)

stuck : (n : ℕ) (x : State) (steps : List Step) (refusal : Refusal) (replies : List Reply) (new : State)
    → FindsMisplaced n refusal x steps replies new → Stuck x steps refusal replies new n
stuck n x steps refusal replies new w =
    let d = w.0.does_all in
    subst (λ (r : Refusal). Stuck x steps r replies new n) w.1
    (record {
      did = did x (take n steps) d.refusal replies new (d, refl);
      step = w.0.step;
      is_next = w.0.is_next;
      misplaced = subst (λ (t : Log). Allows t (outcome_of x.setup d.refusal x.text t) w.0.step → ⊥) (sym d.are_done.log_is) w.0.misplaced;
    })

same_setup : (a b : Setup) → a.encoding ≡ b.encoding → a.offset_bits ≡ b.offset_bits → b ≡ record a { limits = b.limits }
same_setup a b e o =
    ap (λ c. record b { encoding = c }) (sym e) ∙ ap (λ (n : ℕ). record a { offset_bits = n; limits = b.limits }) (sym o)

-- if every list has a limit, both are `Never`
same_refusal : (limits : Limits) (refusal another : Refusal) → MayPick limits refusal → MayPick limits another
    → (HasFreeList limits → refusal ≡ another) → refusal ≡ another
same_refusal limits Never Never m m' h = refl
same_refusal limits Never (After inputs pushes) m m' h = h m'
same_refusal limits (After inputs pushes) another m m' h = h m

partner : {A : Type 0} {R : A → A → Type 0} {x : A} {o : Option A} → Both R (Some x) o → (y : A) × (o ≡ Some y) × R x y
partner (something r) = (_, refl, r)

partner_back : {A : Type 0} {R : A → A → Type 0} {y : A} {o : Option A} → Both R o (Some y) → (x : A) × (o ≡ Some x) × R x y
partner_back (something r) = (_, refl, r)

-- ---- two evaluations

-- the second is of the first one's text, with limits of its own
module _ (x z new other : State) (steps others : List Step) (refusal another : Refusal) (replies given : List Reply) where
  abbrev y : State
  y = record z { setup = record x.setup { limits = z.setup.limits }; text = x.text }

  abbrev w : ℕ
  w = address_bits x.setup

  abbrev First : ℕ → Type 0
  First n = DidFirst x steps refusal replies new n

  abbrev Second : ℕ → Type 0
  Second n = DidFirst y others another given other n

  module _ (h : MayReplay x y steps others) (c : AreComparableReplays x y refusal another replies given) where
    paired : Pairwise (AgreeingSteps w) steps others
    paired = pairs steps others h.agreeing

    -- no more steps than each side did
    alike : (n a b : ℕ) → n ≤ a → n ≤ b → First a → Second b
        → AreAlike x.setup y.setup refusal another x.text (log_at x) (log_at y) (take n steps) (take n others)
    alike n a b la lb d e =
        two_runs x.setup z.setup.limits refusal another x.text (log_at x) (log_at y) (take n steps) (take n others) h.width
        (record { now = record { initial_value = nothing; settings = h.twins.settings }; first = nothing; inputs = tt })
        (zipped (take_both n paired)) (comparable c)
      where
        comparable : AreComparableReplays x y refusal another replies given
            → AreComparable x.setup y.setup refusal another x.text (log_at x) (log_at y) (take n steps) (take n others)
        comparable (inl same) =
            inl (
              same.0,
              same_refusal x.setup.limits refusal another d.may
                  (subst (λ (l : Limits). MayPick l another) (sym same.0) e.may) same.1,
            )
        comparable (inr clear) =
            inr (
              front_is_clear x steps refusal replies new n a la d clear.0,
              front_is_clear y others another given other n b lb e clear.1,
            )

    -- as many steps on both sides
    equal : (n m : ℕ) → n ≡ m → First n → Second m → (replies ≡ given) × StatesStandAlike w new other
    equal n m same d e' =
        let e : Second n = subst Second (sym same) e' in
        let a = alike n n n (omega arith) (omega arith) d e in (
          d.replies_are ∙ (a.replies ∙ sym e.replies_are),
          stand_alike w new other _ _ _ _ a.stand.agreeing a.stand.outcomes d.stands e.stands,
        )

    -- a step that is misplaced on one side isn't done on the other
    not_first : (n m : ℕ) → n < m → Stuck x steps refusal replies new n → Second m → ⊥
    not_first n m l d e =
        let a = alike n n m (omega arith) (omega arith) d.did e in
        let s = partner (subst (λ (o : Option Step). Both (AgreeingSteps w) o (slice_get others n)) d.is_next
        (get_both (AgreeingSteps w) n paired)) in
        d.misplaced ((a.stand.next d.step s.0 s.2).1
        (allowed_at y.setup another x.text n m (log_at y) others s.0 l s.1 e.allowed))

    not_second : (n m : ℕ) → n < m → First m → Stuck y others another given other n → ⊥
    not_second n m l d e =
        let a = alike n m n (omega arith) (omega arith) d e.did in
        let s = partner_back (subst (λ (o : Option Step). Both (AgreeingSteps w) (slice_get steps n) o) e.is_next
        (get_both (AgreeingSteps w) n paired)) in
        e.misplaced ((a.stand.next s.0 e.step s.2).0
        (allowed_at x.setup refusal x.text n m (log_at x) steps s.0 l s.1 d.allowed))

    -- the second side did no more steps: its replies are the first ones of the other's
    front : (n m : ℕ) → n ≤ m → First m → Second n → IsFront given replies
    front n m l d e =
        let a = alike n m n l (omega arith) d e in
        subst (λ (k : List Reply). IsFront k replies) (a.replies ∙ sym e.replies_are)
        (front_of x steps refusal replies new n m l d)

    same_step : (n m : ℕ) → Stuck x steps refusal replies new n → Stuck y others another given other m
        → (n ≡ m) × (replies ≡ given) × StatesStandAlike w new other
    same_step n m d e = by_order (cases_lt n m) (cases_lt m n)
      where
        by_order : (n < m) ⊎ (m ≤ n) → (m < n) ⊎ (n ≤ m) → (n ≡ m) × (replies ≡ given) × StatesStandAlike w new other
        by_order (inl lt) _ = absurd (not_first n m lt d e.did)
        by_order (inr ge) (inl gt) = absurd (not_second m n gt d.did e)
        by_order (inr ge) (inr le) =
            let same : n ≡ m = omega arith in let both = equal n m same d.did e.did in (same, both.0, both.1)

    later_step : (n m : ℕ) → Stuck x steps refusal replies new n → Second (suc m) → (m < n) × IsFront given replies
    later_step n m d e = by_order (cases_lt m n)
      where
        by_order : (m < n) ⊎ (n ≤ m) → (m < n) × IsFront given replies
        by_order (inl lt) = (lt, front (suc m) n (omega arith) d.did e)
        by_order (inr ge) = absurd (not_first n (suc m) (omega arith) d e)

    law : ReplayAlike x y new other steps others refusal another replies given
    law =
        let first = did_all x steps refusal replies new in
        let second = did_all y others another given other in
        let stuck_first = λ (n : ℕ). stuck n x steps refusal replies new in
        let stuck_second = λ (n : ℕ). stuck n y others another given other in
        let over = λ (n : ℕ). did_over y others another given other n in
        let same = length_all_zip (AgreeingSteps w) steps others h.agreeing in
        record {
          done = λ k l. equal (length steps) (length others) same (first k) (second l);
          misplaced = λ n m k l. same_step n m (stuck_first n k) (stuck_second m l);
          not_alone = λ n. (
            λ k l. not_first n (length others) (let i = slice_get_within steps n k.0.step k.0.is_next in omega (arith, same, i))
                (stuck_first n k) (second l),
            λ k l. not_second n (length steps) (let i = slice_get_within others n l.0.step l.0.is_next in omega (arith, same, i))
                (first k) (stuck_second n l),
          );
          no_room = λ m k l. front (suc m) (length steps)
              (let i = slice_get_within others m l.3.inside.0 l.3.inside.1 in omega (arith, same, i)) (first k) (over m l);
          no_room_before = λ n m k l. later_step n m (stuck_first n k) (over m l);
          no_room_twice = λ n m k l le. front (suc m) (suc n) (omega arith) (did_over x steps refusal replies new n k) (over m l);
        }

-- ---- the law

twin_is : (x y : State) → AreTwins x y → record y { setup = record x.setup { limits = y.setup.limits }; text = x.text } ≡ y
twin_is x y t =
    ap (λ (s : Setup). record y { setup = s; text = x.text }) (sym (same_setup x.setup y.setup t.encoding t.offset_bits))
    ∙ ap (λ (u : Text). record y { text = u }) t.text

pub two_replays : TwoReplays
two_replays x y new other steps others refusal another replies given h =
    subst (λ (z : State). MayReplay x z steps others → AreComparableReplays x z refusal another replies given
    → ReplayAlike x z new other steps others refusal another replies given) (twin_is x y h.twins)
    (law x y new other steps others refusal another replies given) h

-- ---- the premises, of fresh evaluations

pub may_replay : (text : Text) (steps others : List Step) → AllZip (AgreeingSteps 32) steps others
    → MayReplay (fresh_state dwarf4 text) (fresh_state dwarf4 text) steps others
may_replay text steps others h =
    record {
      width = record { some_bit = omega arith; within_64 = omega arith };
      twins = record { text = refl; encoding = refl; offset_bits = refl; settings = record { object_address = nothing; maximum = refl } };
      agreeing = h;
    }
