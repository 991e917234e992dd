-- Up to the call: what is asked, and what is kept there.
use Rattle.std.proofs.Common.{ℕ, ◌-◌, ◌≡◌, ◌≤◌, ◌<◌, List, [], ◌∷◌, ◌++◌, length, Result, Ok, refl, sym, subst, ◌==◌, arith, ◌+◌, Bool, true, false, drop, ap, ◌∙◌, append_assoc, length-append, ◌⊎◌, inl, inr, cond}
use Rattle.std.proofs.lemmas.Bool.{cond-true, cond-false}
use Rattle.std.proofs.lemmas.Bool.Decides.{nat_tests}
use Rattle.std.proofs.lemmas.List.{append-nil, drop-append-le, length-drop}
use Rattle.std.proofs.Math.Seq.{drop-append_seam}
use Rattle.std.specs.List.{AllByRecursion}
use Rattle.dwarf_base.specs.declared.common.Encoding.{Encoding}
use Rattle.dwarf_base.specs.declared.errors.Error.TheVariants.{TooManyIterations, InvalidExpressionTerminator}
use Rattle.dwarf_base.specs.Faults.{Fault}
use Rattle.dwarf_base.specs.Reads.{Text}
use Rattle.dwarf_meaning.specs.Operations as operation
use Rattle.dwarf_meaning.specs.Operations.{Operation, DieReference}
use Rattle.dwarf_meaning.specs.Operands.{context_of}
use Rattle.dwarf_meaning.specs.Locations.{Location}
use Rattle.dwarf_meaning.specs.Spelling.{Spells}
use Rattle.dwarf_meaning.specs.Splitting.{Joined}
use Rattle.dwarf_meaning.specs.Splitting as splitting
use Rattle.dwarf_meaning.specs.Requests.{Request, Input, RequiresAtLocation, Push, Settings}
use Rattle.dwarf_meaning.specs.Acts.{act}
use Rattle.dwarf_meaning.specs.Stores.{Setup, address_bits, Store, Last, Located, do_act}
use Rattle.dwarf_meaning.specs.Run.{Position, End, CompleteEnd, RequestEnd, FaultEnd, Course, await_answer, after_operation, read, can_count, count_one, do_operation, turn_counted, counted_act, located_act, turn_by, run, only_end, prepend}
use Rattle.dwarf_meaning.specs.RunLaws.{IsSettled, end_before, course_before}
use Rattle.dwarf_meaning.proofs.Turns.{run_turn}
use Rattle.dwarf_meaning.proofs.MoreInputs.{extends_run}
use Rattle.dwarf_meaning.proofs.DecodingFacts.{spelled_operation, some_bytes}
use Rattle.dwarf_laws.specs.Inlining.{IsStraight, in_force}
use Rattle.dwarf_laws.proofs.Jumps.{straight_jumps}
use Rattle.dwarf_laws.proofs.Calm.{free, calm, ahead}
use Rattle.dwarf_laws.proofs.Mirror.{Fits, GoesOn, MayAsk, Rests, MirrorsAt, Mirrors, by_end, early, in_full, ReadsToo, Inside, Alignment, at_end, answered_mirror, mirror}
use Rattle.dwarf_laws.proofs.TextPlaces.{stands, StraightFrom, straight_step, Beside, beyond_aligned}

none_ahead : (t : Store) → ahead 0 t ≡ calm t
none_ahead t = ap (λ (k : ℕ). record (calm t) { count = k }) (let e : t.count + 0 ≡ t.count = omega arith in e)

same_read : (x y : Operation × List ℕ) (r : Result (Operation × List ℕ) Fault) → r ≡ Ok x → r ≡ Ok y → x ≡ y
same_read x y r e f = cc

abbrev first_place : List Position → ℕ
first_place [] = 0
first_place (x ∷ positions) = x.place

module _ (encoding : Encoding) (bits : ℕ) (A K B : List ℕ) (big : Bool) (offset : DieReference)
    (spelled : Spells (context_of encoding bits big) K (operation.Call offset)) where
  abbrev S : Setup
  S = free encoding bits

  -- a text that begins with the bytes before the call
  abbrev pub text : List ℕ → Text
  text X = record { bytes = A ++ X; is_big = big }

  abbrev pub outer : Text
  outer = text (K ++ B)

  abbrev pub call : Request
  call = RequiresAtLocation offset

  abbrev pub after_call : Position
  after_call = record { text = outer; place = length A + length K }

  abbrev pub AtCall : End → Type 0
  AtCall end = end ≡ RequestEnd call (after_call ∷ []) []

  some_call : 0 < length K
  some_call = some_bytes encoding bits big K (operation.Call offset) spelled

  read_call : read S outer (length A) ≡ Ok (operation.Call offset, B)
  read_call =
      ap (λ (xs : List ℕ). read S (record { bytes = xs; is_big = big }) 0) (drop-append_seam A (K ++ B))
      ∙ spelled_operation encoding bits big K (operation.Call offset) B spelled

  call_place : length (A ++ (K ++ B)) - length B ≡ length A + length K
  call_place = omega (arith, length-append A (K ++ B), length-append K B)

  -- ---- the call's turn

  abbrev pub call_course : Store → List Input → Course
  call_course t inputs =
      prepend (record { text = outer; place = length A } ∷ []) []
      (prepend [] (call ∷ []) (await_answer (run S) S after_call 0 call Push (count_one (calm t)) inputs))

  does_call : (s : Store) (inputs : List Input) → do_operation (run S) S outer 0 s inputs (counted_act S s) (read S outer (length A)) ≡ prepend [] (call ∷ []) (await_answer (run S) S after_call 0 call Push s inputs)
  unfolding act
  does_call s inputs =
      ap (do_operation (run S) S outer 0 s inputs (counted_act S s)) read_call
      ∙ ap (λ (k : ℕ). after_operation (run S) S outer 0 k inputs
      (do_act S k (length (A ++ (K ++ B))) (act (address_bits S) s.settings.object_address (operation.Call offset) s.values)
      s)) call_place

  may_count : (b : Bool) (c : Course) → AtCall (cond b c (only_end (FaultEnd TooManyIterations))).end → b ≡ true
  may_count true c at_call = refl
  may_count false c at_call = let x : FaultEnd TooManyIterations ≡ RequestEnd call (after_call ∷ []) [] = at_call in absurd cc

  counts_call : (t : Store) (before : List Input) → AtCall (turn_counted (run S) S outer (length A) 0 (calm t) before).end
      → (inputs : List Input) → turn_counted (run S) S outer (length A) 0 (calm t) inputs ≡ call_course t inputs
  counts_call t before at_call inputs =
      cond-true (can_count (calm t)) _ _ (may_count (can_count (calm t)) _ at_call)
      ∙ ap (prepend (record { text = outer; place = length A } ∷ []) []) (does_call (count_one (calm t)) inputs)

  held_call : (location : Location) (s : Store) (inputs : List Input)
      → AtCall (do_operation (run S) S outer 0 s inputs (located_act location s) (read S outer (length A))).end → ⊥
  held_call location s inputs at_call =
      let x : FaultEnd (InvalidExpressionTerminator (length (A ++ (K ++ B)) - length B - 1)) ≡ RequestEnd call (after_call ∷ []) [] = sym (ap (λ r. (do_operation (run S) S outer 0 s inputs (located_act location s) r).end) read_call) ∙ at_call in
      cc

  by_call : (last : Last) (t : Store) (before : List Input)
      → AtCall (turn_by (run S) S outer (length A) 0 (calm t) before last).end → (inputs : List Input)
      → turn_by (run S) S outer (length A) 0 (calm t) inputs last ≡ call_course t inputs
  by_call (Located location) t before at_call inputs = absurd (held_call location (calm t) before at_call)
  by_call _ t before at_call inputs = counts_call t before at_call inputs

  opened : (t : Store) (inputs : List Input) → run S outer (length A) 0 (calm t) inputs ≡ turn_by (run S) S outer
      (length A) 0 (calm t) inputs t.last
  opened t inputs =
      run_turn S outer (length A) 0 (calm t) inputs
      ∙ cond-false (length A == length (A ++ (K ++ B))) _ _ (let l = length-append A (K ++ B) in
      let k = length-append K B in let m = some_call in grind (arith, nat_tests))

  -- if the run of some inputs stays at the call, the run of any asks it
  pub call_turn : (t : Store) (before : List Input) → AtCall (run S outer (length A) 0 (calm t) before).end
      → (inputs : List Input) → run S outer (length A) 0 (calm t) inputs ≡ call_course t inputs
  call_turn t before at_call inputs =
      opened t inputs ∙ by_call t.last t before (sym (ap (λ (c : Course). c.end) (opened t before)) ∙ at_call) inputs

  pub straight_beyond : StraightFrom encoding bits outer (length A) → StraightFrom encoding bits outer (length A + length K)
  straight_beyond h =
      subst (λ (k : ℕ). StraightFrom encoding bits outer k) call_place
      (straight_step encoding bits outer (length A) (operation.Call offset) B read_call h).1

  -- ---- the call is not asked again

  abbrev NotAtCall : List Position → List Input → Type 0
  NotAtCall positions left = positions ≡ after_call ∷ [] → left ≡ [] → ⊥

  not_at_call : (T : Text) (enough place : ℕ) → (place ≡ length A + length K → 0 < enough) → MayAsk NotAtCall T enough place
  not_at_call T enough place h [] left some e none =
      let here = h (ap first_place e) in
      let empty : length left ≡ 0 = ap (λ (xs : List Input). length xs) none in
      omega (arith, here, empty, some)
  not_at_call T enough place h (x ∷ inner) left some e none =
      let one : length (x ∷ (inner ++ record { text = T; place = place } ∷ [])) ≡ 1 = ap (λ (xs : List Position). length xs) e in
      omega (arith, one, length-append inner (record { text = T; place = place } ∷ []))

  asked_not : StraightFrom encoding bits outer (length A + length K) → (t : Store) (input : Input) (inputs : List Input)
      → AtCall (await_answer (run S) S after_call 0 call Push (count_one (calm t)) (input ∷ inputs)).end → ⊥
  asked_not straight t input inputs at_call =
      let u : Store = record t { count = t.count + 1 } in
      let target : Settings = in_force t.settings (input ∷ inputs) in
      let at : ℕ = length A + length K in
      let c : Store → Course = λ s. await_answer (run S) S after_call 0 call Push s (input ∷ inputs) in
      let b : Beside encoding bits A K K B big at at = record { beyond = 0; first = omega arith; second = omega arith; straight = straight } in
      let m = answered_mirror encoding bits target 0 (run S) (mirror encoding bits target 0) outer outer ⊥ NotAtCall
      (Beside encoding bits A K K B big) (length outer.bytes)
      (beyond_aligned encoding bits A K K B big target 0 NotAtCall (λ place later. not_at_call outer 0 place
      (λ e. absurd (omega (arith, e, later))))) 0 0 at at call Push u input inputs b
      (not_at_call outer 1 at (λ e. omega arith)) refl in
      (subst (λ (e : End). MirrorsAt encoding bits target 0 NotAtCall outer (length outer.bytes) 0
      (c (ahead 0 u)).requests e (c (calm u)).requests (c (calm u)).end)
      (ap (λ (s : Store). (c s).end) (none_ahead u) ∙ at_call)
      (in_full encoding bits target 0 NotAtCall outer (length outer.bytes) 0 (c (ahead 0 u)) (c (calm u)) m)).0 refl refl

  -- ---- texts that begin with the same bytes

  -- the operations that are still to come before the call
  record InFront (p p' : ℕ) : Type 0 where
    same : p' ≡ p
    within : p ≤ length A
    todo : List ℕ
    ops : List Operation
    is : drop p A ≡ todo
    joined : Joined (context_of encoding bits big) todo ops
    straight : AllByRecursion IsStraight ops

  module _ (target : Settings) (X X' : List ℕ) where
    inside_front : (p p' : ℕ) (todo : List ℕ) (ops : List Operation) → p' ≡ p → p ≤ length A → drop p A ≡ todo
        → Joined (context_of encoding bits big) todo ops → AllByRecursion IsStraight ops → (p == length (A ++ X)) ≡ false
        → Inside encoding bits target 0 (text X) (text X') NotAtCall InFront p p' ⊎ ((0 < length X) × (p' ≡ length A))
    inside_front p p' todo ops same within e splitting.none straight not_over =
        let x : length (drop p A) ≡ 0 = ap (λ (xs : List ℕ). length xs) e in
        let l = length-drop p A in let k = length-append A X in
        inr (grind (arith, nat_tests), omega (arith, x, l))
    inside_front p p' todo ops same within e (splitting.one_more front rest op ops' s more) straight not_over =
        let reads : (Y : List ℕ) → read S (text Y) p ≡ Ok (op, rest ++ Y) = λ Y.
        ap (λ (xs : List ℕ). read S (record { bytes = xs; is_big = big }) 0)
        (drop-append-le p A Y within ∙ (ap (λ (xs : List ℕ). xs ++ Y) e ∙ append_assoc front rest Y))
        ∙ spelled_operation encoding bits big front op (rest ++ Y) s in
        let alone : read S (record { bytes = A; is_big = big }) p ≡ Ok (op, rest) = ap
        (λ (xs : List ℕ). read S (record { bytes = xs; is_big = big }) 0) e ∙ spelled_operation encoding bits big
        front op rest s in
        let st = stands encoding bits (record { bytes = A; is_big = big }) p op rest alone in
        let few : length rest ≤ length A = let a = st.left in let b = length-drop p A in omega (arith, a, b) in
        let place : (Y : List ℕ) → length (A ++ Y) - length (rest ++ Y) ≡ length A - length rest = λ Y. omega
        (arith, length-append A Y, length-append rest Y, few) in
        inl (record {
          not_over = let a = st.within in let b = st.some in let k = length-append A X' in grind (arith, nat_tests);
          reads = λ op' rest' read_it.
              subst (λ (x : Operation × List ℕ). ReadsToo encoding bits target 0 (text X) (text X') NotAtCall InFront p' x.0 x.1)
              (same_read (op, rest ++ X) (op', rest') _ (reads X) read_it)
              (record {
                rest' = rest ++ X';
                same = ap (λ (k : ℕ). read S (text X') k) same ∙ reads X';
                next = record {
                  same = place X' ∙ sym (place X);
                  within = omega (arith, place X);
                  todo = rest;
                  ops = ops';
                  is = ap (λ (k : ℕ). drop k A) (place X) ∙ st.beyond;
                  joined = more;
                  straight = straight.1;
                };
                asks = not_at_call (text X) 0 _ (λ at. absurd (omega (arith, at, place X, some_call)));
                jumps = straight_jumps _ op straight.0;
              });
        })

    front_aligned : Alignment encoding bits target 0 (text X) (text X') (0 < length X) NotAtCall InFront (length A)
    front_aligned = record {
      ends = λ p p' h e. let s = h.same in let w = h.within in omega (arith, e, s, w, length-append A X);
      inside = λ p p' h not_over.
          inside_front p p' h.todo h.ops h.same h.within h.is h.joined h.straight not_over;
    }

  -- ---- up to the call

  -- with this much asked, each run comes to the call's place, whatever stands there
  pub record Reached (t : Store) (earlier : List Input) : Type 0 where
    pub front : List Request
    pub store : Store
    pub fits : store.settings ≡ in_force t.settings earlier
    pub at_call : AtCall (run S outer (length A) 0 (calm store) []).end
    pub goes_on : (X : List ℕ) (more : List Input) → let c = run S (text X) 0 0 (calm t) (earlier ++ more) in
        GoesOn front c.requests c.end (run S (text X) (length A) 0 (calm store) more)

  module _ (ops : List Operation) (joined : Joined (context_of encoding bits big) A ops)
      (straight : AllByRecursion IsStraight ops) (beyond : StraightFrom encoding bits outer (length A + length K))
      (t : Store) (earlier : List Input) (at_call : AtCall (run S outer 0 0 (calm t) earlier).end) where
    begins : InFront 0 0
    begins = record { same = refl; within = omega arith; todo = A; ops = ops; is = refl; joined = joined; straight = straight }

    abbrev alone : List Input → Course
    alone inputs = run S (text []) 0 0 (calm t) inputs

    -- the bytes before the call are run to their end
    record Ended : Type 0 where
      store : Store
      left : List Input
      fits : Fits (in_force t.settings earlier) left store.settings
      end : (alone earlier).end ≡ CompleteEnd (calm store) left

    ended_by : Mirrors encoding bits (in_force t.settings earlier) 0 (0 < length (K ++ B)) NotAtCall (text []) (length A) 0
        (run S outer 0 0 (ahead 0 t) earlier) (alone earlier) → Ended
    ended_by (by_end h) =
        absurd ((subst (λ (e : End). MirrorsAt encoding bits (in_force t.settings earlier) 0 NotAtCall (text []) (length A) 0
        (run S outer 0 0 (ahead 0 t) earlier).requests e (alone earlier).requests (alone earlier).end)
        (ap (λ (s : Store). (run S outer 0 0 s earlier).end) (none_ahead t) ∙ at_call) h).0 refl refl)
    ended_by (early some front s left r) =
        let whole : length A ≡ length (A ++ []) = omega (arith, length-append A []) in
        record {
          store = r.store;
          left = left;
          fits = r.fits;
          end = r.goes_on.end ∙ ap (λ (c : Course). c.end) (ap (λ (k : ℕ). run S (text []) k 0 (calm r.store) left) whole
              ∙ at_end encoding bits (in_force t.settings earlier) 0 (text []) 0 (calm r.store) left);
        }

    ended : Ended
    ended =
        ended_by (mirror encoding bits (in_force t.settings earlier) 0 outer (text []) (0 < length (K ++ B)) NotAtCall InFront
        (length A) (front_aligned (in_force t.settings earlier) (K ++ B) []) 0 0 0 0 t earlier begins refl)

    module _ (X : List ℕ) (more : List Input) where
      abbrev target : Settings
      target = in_force t.settings (earlier ++ more)

      abbrev long : Course
      long = run S (text X) 0 0 (calm t) (earlier ++ more)

      goes_by : Mirrors encoding bits target 0 (0 < 0) NotAtCall (text X) (length A) 0
          (run S (text []) 0 0 (ahead 0 t) (earlier ++ more)) long
          → GoesOn (alone earlier).requests long.requests long.end
          (run S (text X) (length A) 0 (calm ended.store) (ended.left ++ more))
      goes_by (early some front s left r) = absurd (omega (arith, some))
      goes_by (by_end h) =
          let same : run S (text []) 0 0 (ahead 0 t) (earlier ++ more) ≡ course_before more (alone earlier) =
          ap (λ (s : Store). run S (text []) 0 0 s (earlier ++ more)) (none_ahead t)
          ∙ extends_run S (text []) 0 0 (calm t) earlier more (subst IsSettled (sym ended.end) tt) in
          let r : Rests encoding bits target 0 (text X) (length A) 0 (alone earlier).requests (calm ended.store)
          (ended.left ++ more) long.requests long.end = subst (λ (e : End). MirrorsAt encoding bits target 0 NotAtCall (text X) (length A) 0 (alone earlier).requests e
          long.requests long.end) (ap (end_before more) ended.end)
          (subst (λ (x : Course). MirrorsAt encoding bits target 0 NotAtCall (text X) (length A) 0 x.requests x.end
          long.requests long.end) same h) in
          subst (λ (s : Store). GoesOn (alone earlier).requests long.requests long.end
          (run S (text X) (length A) 0 s (ended.left ++ more))) (sym (r.is ∙ none_ahead r.store)) r.goes_on

      goes : GoesOn (alone earlier).requests long.requests long.end
          (run S (text X) (length A) 0 (calm ended.store) (ended.left ++ more))
      goes =
          goes_by (mirror encoding bits target 0 (text []) (text X) (0 < 0) NotAtCall InFront (length A)
          (front_aligned target [] X) 0 0 0 0 t (earlier ++ more) begins refl)

    none_left : (left : List Input) → AtCall (run S outer (length A) 0 (calm ended.store) left).end → left ≡ []
    none_left [] a = refl
    none_left (input ∷ inputs) a =
        absurd (asked_not beyond ended.store input inputs
        (sym (ap (λ (c : Course). c.end) (call_turn ended.store (input ∷ inputs) a (input ∷ inputs))) ∙ a))

    pub reached : Reached t earlier
    reached =
        let a : AtCall (run S outer (length A) 0 (calm ended.store) ended.left).end =
        subst (λ (l : List Input). AtCall (run S outer (length A) 0 (calm ended.store) l).end) (append-nil ended.left)
        (sym (goes (K ++ B) []).end ∙ (ap (λ (l : List Input). (run S outer 0 0 (calm t) l).end) (append-nil earlier) ∙ at_call)) in
        let none = none_left ended.left a in
        record {
          front = (alone earlier).requests;
          store = ended.store;
          fits = subst (λ (l : List Input). Fits (in_force t.settings earlier) l ended.store.settings) none ended.fits;
          at_call = subst (λ (l : List Input). AtCall (run S outer (length A) 0 (calm ended.store) l).end) none a;
          goes_on = λ X more. let c = run S (text X) 0 0 (calm t) (earlier ++ more) in
              subst (λ (l : List Input). GoesOn (alone earlier).requests c.requests c.end
              (run S (text X) (length A) 0 (calm ended.store) (l ++ more))) none (goes X more);
        }
