-- A run in one text, and a run in another that reads the same operations, if the first has counted more.
use Rattle.std.proofs.Common.{ℕ, zero, suc, ◌+◌, ◌-◌, ◌≡◌, true, false, List, [], ◌∷◌, ◌++◌, length, Result, Ok, Err, refl, sym, ap, subst, ◌∙◌, ◌==◌, arith, append_assoc, length-append, ◌⊎◌, inl, inr, ◌≤◌, ◌<◌}
use Rattle.std.proofs.lemmas.Bool.{cond-true, cond-false, cond_both}
use Rattle.std.proofs.lemmas.Bool.Decides.{nat_tests}
use Rattle.std.proofs.lemmas.List.{append-nil}
use Rattle.dwarf_base.specs.declared.common.Encoding.{Encoding}
use Rattle.dwarf_base.specs.Faults.{Fault}
use Rattle.dwarf_base.specs.declared.errors.Error.TheVariants.{TooManyIterations}
use Rattle.dwarf_base.specs.Reads.{Text}
use Rattle.dwarf_meaning.specs.Operations.{Operation}
use Rattle.dwarf_meaning.specs.Requests.{Request, OnAnswer, Input, Settings}
use Rattle.dwarf_meaning.specs.Kinds.{kind_of_request, kind_of_answer, is_same_kind}
use Rattle.dwarf_meaning.specs.Acts.{Act, act, Use, PushesAnswer, Calls, FaultUse, use_of}
use Rattle.dwarf_meaning.specs.Stores.{Setup, address_bits, Store, Last, Pushed, Called, Located, push_value, push_caller, Next, do_act}
use Rattle.dwarf_meaning.specs.Run.{Position, End, CompleteEnd, RequestEnd, FaultEnd, Course, only_end, prepend, Continues, return_to_caller, run_callee, after_answer, await_answer, after_operation, read, can_count, count_one, do_operation, turn_counted, counted_act, located_act, turn_by, turn, out_of_turns, run_for, enough_turns, run}
use Rattle.dwarf_laws.specs.Inlining.{in_force}
use Rattle.dwarf_meaning.proofs.Turns.{run_turn}
use Rattle.dwarf_meaning.proofs.Pairs.{if_pair}
use Rattle.dwarf_laws.proofs.Jumps.{AllJumps, jumps_by, act_jumps}
use Rattle.dwarf_laws.proofs.Calm.{free, calm, ahead, NextBoth, goes_both, request_both, fails_both, Lands, done_both, located_both}

-- the settings that will be in force once the inputs are taken
abbrev pub Fits : Settings → List Input → Settings → Type 0
Fits target inputs settings = in_force settings inputs ≡ target

-- a course asks these first, and goes on as another
pub record GoesOn (front all : List Request) (last : End) (course : Course) : Type 0 where
  pub requests : all ≡ front ++ course.requests
  pub end : last ≡ course.end

-- the second asks the same
pub record AsksToo (front : List Request) (request : Request) (inputs : List Input) (requests : List Request)
    (end : End) : Type 0 where
  pub positions : List Position
  pub same : requests ≡ front
  pub is : end ≡ RequestEnd request positions inputs

-- a request may be open at the place, if enough of inner texts and of inputs are there
abbrev pub MayAsk : (Asks : List Position → List Input → Type 0) → Text → (enough place : ℕ) → Type 0
MayAsk Asks text enough place =
    (inner : List Position) (left : List Input) → enough ≤ length inner + length left
    → Asks (inner ++ record { text = text; place = place } ∷ []) left

module _ (encoding : Encoding) (bits : ℕ) (target : Settings) (n : ℕ) where
  abbrev S : Setup
  S = free encoding bits

  -- the first has come to its text's end; the second goes on from the place beside it
  pub record Rests (text : Text) (stop depth : ℕ) (front : List Request) (s : Store) (inputs : List Input)
      (requests : List Request) (end : End) : Type 0 where
    pub store : Store
    pub is : s ≡ ahead n store
    pub fits : Fits target inputs store.settings
    pub goes_on : GoesOn front requests end (run S text stop depth (calm store) inputs)

  -- by how the first ends; of the texts that are open in it `Asks` holds
  abbrev pub MirrorsAt : (Asks : List Position → List Input → Type 0) (text : Text) (stop depth : ℕ)
      → List Request → End → List Request → End → Type 0
  MirrorsAt Asks text stop depth front (CompleteEnd s inputs) requests end = Rests text stop depth front s inputs requests end
  MirrorsAt Asks text stop depth front (RequestEnd request positions inputs) requests end =
      Asks positions inputs × AsksToo front request inputs requests end
  MirrorsAt Asks text stop depth front (FaultEnd fault) requests end = Unit {0}

  -- or, if `Early` holds, the first goes on where the second rests
  pub data Mirrors (Early : Type 0) (Asks : List Position → List Input → Type 0) (text : Text) (stop depth : ℕ)
      (first second : Course) : Type 0 where
    by_end : MirrorsAt Asks text stop depth first.requests first.end second.requests second.end
        → Mirrors Early Asks text stop depth first second
    early : Early → (front : List Request) (s : Store) (inputs : List Input)
        → Rests text stop depth front s inputs second.requests second.end → Mirrors Early Asks text stop depth first second

  pub in_full : (Asks : List Position → List Input → Type 0) (text : Text) (stop depth : ℕ) (first second : Course)
      → Mirrors ⊥ Asks text stop depth first second
      → MirrorsAt Asks text stop depth first.requests first.end second.requests second.end
  in_full Asks text stop depth first second (by_end h) = h
  in_full Asks text stop depth first second (early impossible front s inputs r) = absurd impossible

  -- ---- texts side by side

  -- the same operation is read at the place beside
  pub record ReadsToo (T T' : Text) (Asks : List Position → List Input → Type 0) (Al : ℕ → ℕ → Type 0) (p' : ℕ)
      (op : Operation) (rest : List ℕ) : Type 0 where
    pub rest' : List ℕ
    pub same : read S T' p' ≡ Ok (op, rest')
    pub next : Al (length T.bytes - length rest) (length T'.bytes - length rest')
    pub asks : MayAsk Asks T 0 (length T.bytes - length rest)
    pub jumps : AllJumps (Lands encoding bits n Al (length T.bytes) (length T'.bytes) (length T.bytes - length rest)
        (length T'.bytes - length rest')) op

  pub record Inside (T T' : Text) (Asks : List Position → List Input → Type 0) (Al : ℕ → ℕ → Type 0) (p p' : ℕ) : Type 0 where
    pub not_over : (p' == length T'.bytes) ≡ false
    pub reads : (op : Operation) (rest : List ℕ) → read S T p ≡ Ok (op, rest) → ReadsToo T T' Asks Al p' op rest

  pub record Alignment (T T' : Text) (Early : Type 0) (Asks : List Position → List Input → Type 0) (Al : ℕ → ℕ → Type 0)
      (stop : ℕ) : Type 0 where
    pub ends : (p p' : ℕ) → Al p p' → p ≡ length T.bytes → p' ≡ stop
    pub inside : (p p' : ℕ) → Al p p' → (p == length T.bytes) ≡ false → Inside T T' Asks Al p p' ⊎ (Early × (p' ≡ stop))

  abbrev Equal : ℕ → ℕ → Type 0
  Equal p p' = p' ≡ p

  -- some text is open
  abbrev SomeOpen : List Position → List Input → Type 0
  SomeOpen positions left = 0 < length positions

  same_text : (T : Text) → Alignment T T ⊥ SomeOpen Equal (length T.bytes)
  same_text T = record {
    ends = λ p p' h e. h ∙ e;
    inside = λ p p' h e. inl (record {
      not_over = ap (λ (k : ℕ). k == length T.bytes) h ∙ e;
      reads = λ op rest e. record {
        rest' = rest;
        same = ap (λ (k : ℕ). read S T k) h ∙ e;
        next = refl;
        asks = λ inner left enough. omega (arith, length-append inner (record { text = T; place = length T.bytes - length rest } ∷ []));
        jumps = jumps_by (λ op. Unit {0}) _ (λ z _ l. (l, refl)) (λ z _ l. (l, refl)) op tt;
      };
    });
  }

  abbrev pub GoMirrors : Continues → Type 1
  GoMirrors go =
      (T T' : Text) (Early : Type 0) (Asks : List Position → List Input → Type 0) (Al : ℕ → ℕ → Type 0) (stop : ℕ)
      → Alignment T T' Early Asks Al stop
      → (p p' d d' : ℕ) (t : Store) (inputs : List Input) → Al p p' → Fits target inputs t.settings
      → Mirrors Early Asks T' stop d' (go T p d (ahead n t) inputs) (run S T' p' d' (calm t) inputs)

  -- a run that begins at the end is over
  pub at_end : (T : Text) (d : ℕ) (s : Store) (inputs : List Input)
      → run S T (length T.bytes) d s inputs ≡ only_end (CompleteEnd s inputs)
  at_end T d s inputs =
      run_turn S T (length T.bytes) d s inputs ∙ cond-true (length T.bytes == length T.bytes) _ _ (grind (arith, nat_tests))

  module _ (Early : Type 0) (Asks : List Position → List Input → Type 0) (T' : Text) (stop d' : ℕ) where
    pub beyond_at : (more front : List Request) (end : End) (requests : List Request) (end' : End)
        → MirrorsAt Asks T' stop d' front end requests end' → MirrorsAt Asks T' stop d' (more ++ front) end (more ++ requests) end'
    beyond_at more front (CompleteEnd s inputs) requests end' h = record {
      store = h.store;
      is = h.is;
      fits = h.fits;
      goes_on =
          record {
            requests = ap (λ (l : List Request). more ++ l) h.goes_on.requests ∙ sym
                (append_assoc more front _);
            end = h.goes_on.end;
          };
    }
    beyond_at more front (RequestEnd request positions inputs) requests end' h =
        (h.0, record { positions = h.1.positions; same = ap (λ (l : List Request). more ++ l) h.1.same; is = h.1.is })
    beyond_at more front (FaultEnd fault) requests end' h = tt

    beyond : (path path' : List Position) (more : List Request) (first second : Course)
        → Mirrors Early Asks T' stop d' first second
        → Mirrors Early Asks T' stop d' (prepend path more first) (prepend path' more second)
    beyond path path' more first second (by_end h) =
        by_end (beyond_at more first.requests first.end second.requests second.end h)
    beyond path path' more first second (early e front s inputs r) =
        early e (more ++ front) s inputs (beyond_at more front (CompleteEnd s inputs) second.requests second.end r)

  module _ (go : Continues) (H : GoMirrors go) (T T' : Text) (Early : Type 0)
      (Asks : List Position → List Input → Type 0) (Al : ℕ → ℕ → Type 0) (stop : ℕ)
      (al : Alignment T T' Early Asks Al stop) (d d' : ℕ) where
    abbrev Here : Course → Course → Type 0
    Here first second = Mirrors Early Asks T' stop d' first second

    abbrev at : Text → ℕ → Position
    at text place = record { text = text; place = place }

    goes_mirror : (q q' : ℕ) (t : Store) (inputs : List Input) → Al q q'
        → Fits target inputs t.settings → Here (go T q d (ahead n t) inputs) (run S T' q' d' (calm t) inputs)
    goes_mirror q q' t inputs a f = H T T' Early Asks Al stop al q q' d d' t inputs a f

    back_mirror : (q q' : ℕ) (callee : Text) (c : Course) (end : End) (c' : Course) → Al q q' → MayAsk Asks T 1 q
        → MirrorsAt SomeOpen callee (length callee.bytes) (suc d') c.requests end c'.requests c'.end
        → Here (return_to_caller go (at T q) d c end) (return_to_caller (run S) (at T' q') d' c' c'.end)
    back_mirror q q' callee c (FaultEnd fault) c' a k h = by_end tt
    back_mirror q q' callee c (RequestEnd request positions inputs) c' a k h =
        subst (λ (e : End). Here (return_to_caller go (at T q) d c (RequestEnd request positions inputs))
        (return_to_caller (run S) (at T' q') d' c' e)) (sym h.1.is)
        (by_end (
          k positions inputs (let some = h.0 in omega (arith, some)),
          record { positions = h.1.positions ++ at T' q' ∷ []; same = h.1.same; is = refl },
        ))
    back_mirror q q' callee c (CompleteEnd s inputs) c' a k h =
        let over = at_end callee (suc d') (calm h.store) inputs in
        let e : c'.end ≡ CompleteEnd (calm h.store) inputs = h.goes_on.end ∙ ap (λ (x : Course). x.end) over in
        let r : c'.requests ≡ c.requests = h.goes_on.requests
        ∙ (ap (λ (x : Course). c.requests ++ x.requests) over ∙ append-nil c.requests) in
        let inner = go T q d (ahead n h.store) inputs in
        let outer = run S T' q' d' (calm h.store) inputs in
        subst (λ (e : End). Here (return_to_caller go (at T q) d c (CompleteEnd s inputs)) (return_to_caller (run S) (at T' q') d' c' e)) (sym e)
        (subst (λ (u : Store). Here (prepend c.path c.requests (go T q d u inputs)) (prepend c'.path c'.requests outer)) (sym h.is)
        (subst (λ (l : List Request). Here (prepend c.path c.requests inner) (prepend c'.path l outer)) (sym r)
        (beyond Early Asks T' stop d' c.path c'.path c.requests inner outer (goes_mirror q q' h.store inputs a h.fits))))

    called_mirror : (q q' : ℕ) (callee : Text) (bytes : List ℕ) (t : Store) (inputs : List Input) → Al q q'
        → MayAsk Asks T 1 q → Fits target inputs t.settings
        → Here (run_callee go S (at T q) d callee bytes (ahead n t) inputs)
        (run_callee (run S) S (at T' q') d' callee bytes (calm t) inputs)
    unfolding push_caller
    called_mirror q q' callee [] t inputs a k f = goes_mirror q q' (record t { last = Called }) inputs a f
    called_mirror q q' callee (byte ∷ bytes) t inputs a k f =
        let c = go callee 0 (suc d) (ahead n t) inputs in
        let c' = run S callee 0 (suc d') (calm t) inputs in
        back_mirror q q' callee c c.end c' a k (in_full SomeOpen callee (length callee.bytes) (suc d') c c'
        (H callee callee ⊥ SomeOpen Equal (length callee.bytes) (same_text callee) 0 0 (suc d) (suc d') t inputs refl f))

    used_mirror : (q q' : ℕ) (u : Use) (t : Store) (inputs : List Input) → Al q q' → MayAsk Asks T 1 q
        → Fits target inputs t.settings
        → Here (after_answer go S (at T q) d u (ahead n t) inputs)
        (after_answer (run S) S (at T' q') d' u (calm t) inputs)
    unfolding push_value
    used_mirror q q' (PushesAnswer rest value) t inputs a k f =
        goes_mirror q q' (record t { values = value ∷ rest; last = Pushed }) inputs a f
    used_mirror q q' (Calls callee) t inputs a k f = called_mirror q q' callee callee.bytes t inputs a k f
    used_mirror q q' (FaultUse fault) t inputs a k f = by_end tt

    pub answered_mirror : (q q' : ℕ) (request : Request) (on_answer : OnAnswer) (t : Store) (input : Input)
        (inputs : List Input) → Al q q' → MayAsk Asks T 1 q → Fits target (input ∷ inputs) t.settings
        → Here (await_answer go S (at T q) d request on_answer (ahead n t) (input ∷ inputs))
        (await_answer (run S) S (at T' q') d' request on_answer (calm t) (input ∷ inputs))
    answered_mirror q q' request on_answer t input inputs a k f =
        if_pair Here (is_same_kind (kind_of_request request) (kind_of_answer input.answer)) _ _ _ _ _ refl
        (used_mirror q q' (use_of (address_bits S) on_answer input.answer t.values)
        (record t { settings = input.settings }) inputs a k f)
        (by_end (k [] (input ∷ inputs) (omega arith), record { positions = at T' q' ∷ []; same = refl; is = refl }))

    asked_mirror : (q q' : ℕ) (request : Request) (on_answer : OnAnswer) (t : Store) (inputs : List Input) → Al q q'
        → MayAsk Asks T 0 q → Fits target inputs t.settings
        → Here (await_answer go S (at T q) d request on_answer (ahead n t) inputs)
        (await_answer (run S) S (at T' q') d' request on_answer (calm t) inputs)
    asked_mirror q q' request on_answer t [] a k f =
        by_end (k [] [] (omega arith), record { positions = at T' q' ∷ []; same = refl; is = refl })
    asked_mirror q q' request on_answer t (input ∷ inputs) a k f =
        answered_mirror q q' request on_answer t input inputs a (λ inner left enough. k inner left (omega arith)) f

    after_operation_mirror : (place place' : ℕ) (inputs : List Input) (settings : Settings) (x y : Next)
        → Al place place' → MayAsk Asks T 0 place → Fits target inputs settings → NextBoth encoding bits n Al settings x y
        → Here (after_operation go S T d place inputs x) (after_operation (run S) S T' d' place' inputs y)
    after_operation_mirror place place' inputs settings x y a k f (goes_both t b e) =
        goes_mirror _ _ t inputs b (subst (Fits target inputs) (sym e) f)
    after_operation_mirror place place' inputs settings x y a k f (request_both {request = request} {on_answer = on_answer} t e) =
        beyond Early Asks T' stop d' [] [] (request ∷ []) _ _
        (asked_mirror place place' request on_answer t inputs a k (subst (Fits target inputs) (sym e) f))
    after_operation_mirror place place' inputs settings x y a k f fails_both = by_end tt

    does_mirror : (p p' : ℕ) (t : Store) (inputs : List Input) (act_at : ℕ → Operation → Act)
        (r : Result (Operation × List ℕ) Fault) → Inside T T' Asks Al p p' → Fits target inputs t.settings
        → ((place place' : ℕ) (op : Operation) → Al place place'
        → AllJumps (Lands encoding bits n Al (length T.bytes) (length T'.bytes) place place') op
        → NextBoth encoding bits n Al t.settings (do_act S place (length T.bytes) (act_at place op) (ahead n t))
        (do_act S place' (length T'.bytes) (act_at place' op) (calm t)))
        → read S T p ≡ r
        → Here (do_operation go S T d (ahead n t) inputs act_at r) (do_operation (run S) S T' d' (calm t) inputs act_at (read S T' p'))
    does_mirror p p' t inputs act_at (Err fault) i f both e = by_end tt
    does_mirror p p' t inputs act_at (Ok x) i f both e =
        let too = i.reads x.0 x.1 e in
        subst (λ (r : Result (Operation × List ℕ) Fault). Here (do_operation go S T d (ahead n t) inputs act_at (Ok x))
        (do_operation (run S) S T' d' (calm t) inputs act_at r)) (sym too.same)
        (after_operation_mirror _ _ inputs t.settings _ _ too.next too.asks f (both _ _ x.0 too.next too.jumps))

    counted_ahead : (t : Store) → ahead n (record t { count = t.count + 1 }) ≡ count_one (ahead n t)
    counted_ahead t =
        ap (λ (k : ℕ). record (ahead n t) { count = k }) (let e : t.count + 1 + n ≡ t.count + n + 1 = omega arith in e)

    can_too : (t : Store) → can_count (ahead n t) ≡ true → can_count (calm t) ≡ true
    can_too t e = grind (arith, nat_tests)

    counts_mirror : (p p' : ℕ) (t : Store) (inputs : List Input) → Inside T T' Asks Al p p' → Fits target inputs t.settings
        → Here (turn_counted go S T p d (ahead n t) inputs) (turn_counted (run S) S T' p' d' (calm t) inputs)
    counts_mirror p p' t inputs i f =
        cond_both (can_count (ahead n t)) _ _ (λ (c : Course). Here c (turn_counted (run S) S T' p' d' (calm t) inputs))
        (λ can.
        let first = do_operation go S T d (count_one (ahead n t)) inputs (counted_act S t) (read S T p) in
        let second = do_operation (run S) S T' d' (count_one (calm t)) inputs (counted_act S t) (read S T' p') in
        let inner : Here first second = subst
        (λ (s : Store). Here (do_operation go S T d s inputs (counted_act S t) (read S T p)) second) (counted_ahead t)
        (does_mirror p p' (record t { count = t.count + 1 }) inputs (counted_act S t) (read S T p) i f
        (λ place place' op a jumps. done_both encoding bits n Al _ _ place place'
        (act (address_bits S) t.settings.object_address op t.values) (record t { count = t.count + 1 }) a
        (act_jumps _ (address_bits S) t.settings.object_address op t.values jumps)) refl) in
        subst (λ (c : Course). Here (prepend ((at T p) ∷ []) [] first) c) (sym
        (cond-true (can_count (calm t)) (prepend ((at T' p') ∷ []) [] second)
        (only_end (FaultEnd TooManyIterations)) (can_too t can)))
        (beyond Early Asks T' stop d' (at T p ∷ []) (at T' p' ∷ []) [] first second inner))
        (λ e. by_end tt)

    by_mirror : (p p' : ℕ) (t : Store) (inputs : List Input) (last : Last) → Inside T T' Asks Al p p'
        → Fits target inputs t.settings
        → Here (turn_by go S T p d (ahead n t) inputs last) (turn_by (run S) S T' p' d' (calm t) inputs last)
    by_mirror p p' t inputs (Located location) i f =
        does_mirror p p' t inputs (located_act location t) (read S T p) i f
        (λ place place' op a jumps. located_both encoding bits n Al _ _ place place' location t op a) refl
    by_mirror p p' t inputs _ i f = counts_mirror p p' t inputs i f

    turn_mirror : (p p' : ℕ) (t : Store) (inputs : List Input) → Al p p'
        → Fits target inputs t.settings
        → Here (turn go S T p d (ahead n t) inputs) (run S T' p' d' (calm t) inputs)
    turn_mirror p p' t inputs a f =
        cond_both (p == length T.bytes) _ _ (λ (c : Course). Here c second)
        (λ e. by_end (rests (al.ends p p' a (let l : p ≡ length T.bytes = grind (arith, nat_tests) in l))))
        (λ e. by_place (al.inside p p' a e))
      where
        second : Course
        second = run S T' p' d' (calm t) inputs

        rests : p' ≡ stop → Rests T' stop d' [] (ahead n t) inputs second.requests second.end
        rests here = record {
          store = t;
          is = refl;
          fits = f;
          goes_on = subst (λ (k : ℕ). GoesOn [] second.requests second.end (run S T' k d' (calm t) inputs)) here
              (record { requests = refl; end = refl });
        }

        by_place : Inside T T' Asks Al p p' ⊎ (Early × (p' ≡ stop)) → Here (turn_by go S T p d (ahead n t) inputs t.last) second
        by_place (inl i) =
            subst (λ (c : Course). Here (turn_by go S T p d (ahead n t) inputs t.last) c)
            (sym (run_turn S T' p' d' (calm t) inputs ∙ cond-false (p' == length T'.bytes) _ _ i.not_over))
            (by_mirror p p' t inputs t.last i f)
        by_place (inr stops) = early stops.0 [] (ahead n t) inputs (rests stops.1)

  mirrors_for : (turns : ℕ) → GoMirrors (run_for turns S)
  unfolding run_for
  mirrors_for zero T T' Early Asks Al stop al p p' d d' t inputs a f =
      turn_mirror out_of_turns (λ T T' Early Asks Al stop al p p' d d' t inputs a f. by_end tt) T T' Early Asks Al stop al
      d d' p p' t inputs a f
  mirrors_for (suc turns) T T' Early Asks Al stop al p p' d d' t inputs a f =
      turn_mirror (run_for turns S) (mirrors_for turns) T T' Early Asks Al stop al d d' p p' t inputs a f

  -- the whole run
  pub mirror : GoMirrors (run S)
  mirror = mirrors_for enough_turns
