-- Two runs of one text, side by side, and their outcomes.
use Rattle.std.proofs.Common.{ℕ, zero, suc, ◌+◌, ◌≡◌, ap, refl, subst, ◌∙◌, ◌⊎◌, inl, inr, List, [], ◌∷◌, length, Result, Ok, Err, ◌≢◌, Option, Some, None}
use Rattle.dwarf_base.specs.Faults.{Fault}
use Rattle.dwarf_base.specs.declared.errors.Error.TheVariants.{StackFull}
use Rattle.dwarf_base.specs.Reads.{Text}
use Rattle.dwarf_value.specs.Laws.{IsWidth}
use Rattle.dwarf_meaning.specs.Operations as operation
use Rattle.dwarf_meaning.specs.Operations.{Operation}
use Rattle.dwarf_meaning.specs.Requests.{Request, OnAnswer, Input}
use Rattle.dwarf_meaning.specs.Kinds.{kind_of_request, is_same_kind}
use Rattle.dwarf_meaning.specs.Acts.{Act, EndsPiece, act, Use, use_of}
use Rattle.dwarf_meaning.specs.Stores.{Setup, address_bits, Store, Last, Next, Nothing, Plain, Located}
use Rattle.dwarf_meaning.specs.Run.{Position, End, CompleteEnd, RequestEnd, FaultEnd, Course, only_end, prepend, Continues, return_to_caller, after_push, enter_callee, run_callee, after_answer, with_input, await_answer, after_operation, read, can_count, count_one, do_operation, turn_counted, counted_act, located_act, turn_by, turn, out_of_turns, run_for, enough_turns, run}
use Rattle.dwarf_meaning.specs.Refusals.{Limits, Refusal, Never}
use Rattle.dwarf_meaning.specs.Agreement.{AgreeingActs, AgreeingUses, pushes_answer, calls, fault_use, AgreeingInputs, Both, nothing, something, AgreeingNumbers, AgreeingFirsts, AgreeingLocations, AgreeingPieces, AgreeingOutcomes, requests, faults, completions}
use Rattle.dwarf_laws.proofs.Calm.{calm}
use Rattle.dwarf_meaning.proofs.Pairs.{Pairwise, none, more, pairs, if_pair, zipped, top_pair}
use Rattle.dwarf_meaning.proofs.Actions.{located_both, uses_refl, act_both, same_kinds, use_both, same_addresses}
use Rattle.dwarf_laws.proofs.Holdings.{Mode, Pushing, AgreeingLasts, both_nothing, both_plain, both_pushed, both_called, both_located, AgreeingStores, AgreeingResults, results, refusals, result_first, result_second, AgreeingNexts, goes_on, request_next, fails, next_first, next_second, changed, push_value_both, push_frame_both, done_both, push_piece_both}
use Rattle.dwarf_value.specs.declared.types.Value.{Value}
use Rattle.dwarf_value.specs.Values.{Agree, to_u64_of}
use Rattle.dwarf_value.proofs.Agreements.{Agree-Generic}
use Rattle.dwarf_meaning.specs.Locations.{Location, AtAddress, Piece, sized_piece}
use Rattle.dwarf_meaning.specs.Meaning.{Outcome, FaultOutcome, CompleteOutcome, whole_piece, completion_of, has_pieces, finish_value, finish_by, First, fresh_store, with_initial, outcome_of_end, course_of, meaning}

-- inputs that agree
pub record AgreeingLists (m : Mode) (w : ℕ) (inputs inputs' : List Input) : Type 0 where
  pub each : Pairwise (AgreeingInputs w) inputs inputs'
  pub same : m.Same → inputs ≡ inputs'

pub data AgreeingEnds (m : Mode) (w : ℕ) : End → End → Type 0 where
  finish_both : {s t : Store} {inputs inputs' : List Input} → AgreeingStores m w s t
      → AgreeingLists m w inputs inputs' → AgreeingEnds m w (CompleteEnd s inputs) (CompleteEnd t inputs')
  ask_both : {request : Request} {positions : List Position} {inputs inputs' : List Input}
      → AgreeingEnds m w (RequestEnd request positions inputs) (RequestEnd request positions inputs')
  fail_both : {fault : Fault} → AgreeingEnds m w (FaultEnd fault) (FaultEnd fault)

-- Two courses with agreeing ends, or one of them ends in a push that was refused there alone.
pub data AgreeingCourses (m : Mode) (w : ℕ) : Course → Course → Type 0 where
  courses : {first second : Course} → first.path ≡ second.path → first.requests ≡ second.requests
      → AgreeingEnds m w first.end second.end → AgreeingCourses m w first second
  course_first : {first second : Course} → m.First → first.end ≡ FaultEnd StackFull → AgreeingCourses m w first second
  course_second : {first second : Course} → m.Second → second.end ≡ FaultEnd StackFull → AgreeingCourses m w first second

-- two ways to go on
abbrev pub GoAlike : (m : Mode) (w : ℕ) → Continues → Continues → Type 0
GoAlike m w go go' =
    (text : Text) (place depth : ℕ) (s t : Store) (inputs inputs' : List Input) → AgreeingStores m w s t
    → AgreeingLists m w inputs inputs'
    → AgreeingCourses m w (go text place depth s inputs) (go' text place depth t inputs')

module _ (m : Mode) (w : ℕ) where
  ended_both : (e e' : End) → AgreeingEnds m w e e' → AgreeingCourses m w (only_end e) (only_end e')
  ended_both e e' h = courses refl refl h

  prepended_both : (path path' : List Position) (asked asked' : List Request) (c c' : Course) → path ≡ path' → asked ≡ asked'
      → AgreeingCourses m w c c' → AgreeingCourses m w (prepend path asked c) (prepend path' asked' c')
  prepended_both path path' asked asked' c c' p q (courses p' q' h) = courses (cc) (cc) h
  prepended_both path path' asked asked' c c' p q (course_first free e) = course_first free e
  prepended_both path path' asked asked' c c' p q (course_second free e) = course_second free e

-- They agree, or one of them is a push that was refused on that side alone.
pub data AgreeUnlessFull (m : Mode) (w : ℕ) : Outcome → Outcome → Type 0 where
  agree : {x y : Outcome} → AgreeingOutcomes w x y → (m.Same → x ≡ y) → AgreeUnlessFull m w x y
  full_first : {x y : Outcome} → m.First → x ≡ FaultOutcome StackFull → AgreeUnlessFull m w x y
  full_second : {x y : Outcome} → m.Second → y ≡ FaultOutcome StackFull → AgreeUnlessFull m w x y

-- no push was refused, if `Free` holds
abbrev pub IsClear : (Free : Type 0) → Outcome → Type 0
IsClear Free x = Free → x ≢ FaultOutcome StackFull

decided : (m : Mode) (w : ℕ) (x y : Outcome) → AgreeUnlessFull m w x y → IsClear m.First x → IsClear m.Second y
    → AgreeingOutcomes w x y
decided m w x y (agree a same) h i = a
decided m w x y (full_first free e) h i = absurd (h free e)
decided m w x y (full_second free e) h i = absurd (i free e)

same_has : (w : ℕ) (ps qs : List Piece) → Pairwise (AgreeingPieces w) ps qs → has_pieces ps ≡ has_pieces qs
same_has w ps qs none = refl
same_has w ps qs (more a as') = refl

-- the same act after the same location
located_same : (location other : Location) (s t : Store) (place : ℕ) (op : Operation) → location ≡ other
    → s.values ≡ t.values → located_act location s place op ≡ located_act other t place op
located_same location other s t place (operation.Piece size_in_bits bit_offset) l v =
    ap (λ (x : Location). EndsPiece s.values (sized_piece size_in_bits bit_offset x)) l
    ∙ ap (λ (values : List Value). EndsPiece values (sized_piece size_in_bits bit_offset other)) v
located_same location other s t place op l v = refl

module _ (m : Mode) (setup : Setup) (limits : Limits) (pushing : Pushing m setup.limits limits)
    (width : IsWidth (address_bits setup) ⊎ m.Same) where
  abbrev w : ℕ
  w = address_bits setup

  abbrev other : Setup
  other = record setup { limits = limits }

  with_input_both : (i j : Input) (s t : Store) → AgreeingInputs w i j → (m.Same → i ≡ j) → AgreeingStores m w s t
      → AgreeingStores m w (with_input i s) (with_input j t)
  with_input_both i j s t a e h =
      record {
        values = h.values;
        pieces = h.pieces;
        count = h.count;
        settings = a.settings;
        last = h.last;
        refusal = pushing.inputs s.refusal t.refusal h.refusal;
        same = λ k. ap (λ (u : Store). record u { settings = i.settings }) (h.same k)
            ∙ ap (λ (x : Input). record (calm t) { settings = x.settings }) (e k);
      }

  uses_both : (u u' : Use) → (IsWidth w → AgreeingUses w u u') → (m.Same → u ≡ u') → AgreeingUses w u u'
  uses_both u u' h e = by_width width
    where
      by_width : IsWidth w ⊎ m.Same → AgreeingUses w u u'
      by_width (inl is_width) = h is_width
      by_width (inr same) = subst (AgreeingUses w u) (e same) (uses_refl w u)

  module _ (go go' : Continues) (H : GoAlike m w go go') where
    back_ends : (position : Position) (depth : ℕ) (c c' : Course) (e e' : End) → c.path ≡ c'.path → c.requests ≡ c'.requests
        → AgreeingEnds m w e e'
        → AgreeingCourses m w (return_to_caller go position depth c e) (return_to_caller go' position depth c' e')
    back_ends position depth c c' e e' p q (finish_both h i) =
        prepended_both m w c.path c'.path c.requests c'.requests _ _ p q (H position.text position.place depth _ _ _ _ h i)
    back_ends position depth c c' e e' p q ask_both = courses p q ask_both
    back_ends position depth c c' e e' p q fail_both = courses p q fail_both

    back_both : (position : Position) (depth : ℕ) (c c' : Course) → AgreeingCourses m w c c'
        → AgreeingCourses m w (return_to_caller go position depth c c.end) (return_to_caller go' position depth c' c'.end)
    back_both position depth c c' (courses p q h) = back_ends position depth c c' c.end c'.end p q h
    back_both position depth c c' (course_first free e) = course_first free (ap (λ (end : End). (return_to_caller go position depth c end).end) e)
    back_both position depth c c' (course_second free e) =
        course_second free (ap (λ (end : End). (return_to_caller go' position depth c' end).end) e)

    resumed_both : (position : Position) (depth : ℕ) (inputs inputs' : List Input) (r r' : Result Store Fault)
        → AgreeingLists m w inputs inputs' → AgreeingResults m w r r'
        → AgreeingCourses m w (after_push go position depth inputs r) (after_push go' position depth inputs' r')
    resumed_both position depth inputs inputs' r r' i (results h) = H position.text position.place depth _ _ inputs inputs' h i
    resumed_both position depth inputs inputs' r r' i refusals = ended_both m w _ _ fail_both
    resumed_both position depth inputs inputs' r r' i (result_first free) = course_first free refl
    resumed_both position depth inputs inputs' r r' i (result_second free) = course_second free refl

    entered_both : (position : Position) (depth : ℕ) (callee : Text) (inputs inputs' : List Input)
        (r r' : Result Store Fault) → AgreeingLists m w inputs inputs' → AgreeingResults m w r r'
        → AgreeingCourses m w (enter_callee go position depth callee inputs r) (enter_callee go' position depth callee inputs' r')
    entered_both position depth callee inputs inputs' r r' i (results h) =
        back_both position depth _ _ (H callee 0 (suc depth) _ _ inputs inputs' h i)
    entered_both position depth callee inputs inputs' r r' i refusals = ended_both m w _ _ fail_both
    entered_both position depth callee inputs inputs' r r' i (result_first free) = course_first free refl
    entered_both position depth callee inputs inputs' r r' i (result_second free) = course_second free refl

    called_both : (position : Position) (depth : ℕ) (callee : Text) (bytes : List ℕ) (s t : Store)
        (inputs inputs' : List Input) → AgreeingStores m w s t → AgreeingLists m w inputs inputs'
        → AgreeingCourses m w (run_callee go setup position depth callee bytes s inputs)
        (run_callee go' other position depth callee bytes t inputs')
    called_both position depth callee [] s t inputs inputs' h i =
        H position.text position.place depth _ _ inputs inputs'
        (changed h h.values both_called (λ k. (ap (λ (u : Store). u.values) (h.same k), refl))) i
    called_both position depth callee (byte ∷ bytes) s t inputs inputs' h i =
        entered_both position depth callee inputs inputs' _ _ i (push_frame_both m setup limits pushing depth s t h)

    used_both : (position : Position) (depth : ℕ) (u u' : Use) (s t : Store) (inputs inputs' : List Input)
        → AgreeingUses w u u' → (m.Same → u ≡ u') → AgreeingStores m w s t → AgreeingLists m w inputs inputs'
        → AgreeingCourses m w (after_answer go setup position depth u s inputs)
        (after_answer go' other position depth u' t inputs')
    used_both position depth u u' s t inputs inputs' (pushes_answer {rest = rest} {other = below} r a) x h i =
        resumed_both position depth inputs inputs' _ _ i
        (push_value_both m setup limits pushing _ _ _ _ a (λ k. let e = x k in cc)
        (changed h (pairs rest below r) both_pushed (λ k. let e = x k in ((cc), refl))))
    used_both position depth u u' s t inputs inputs' (calls {text = callee}) x h i = called_both position depth callee
        callee.bytes s t inputs inputs' h i
    used_both position depth u u' s t inputs inputs' fault_use x h i = ended_both m w _ _ fail_both

    asked_both : (position : Position) (depth : ℕ) (request : Request) (on_answer : OnAnswer) (s t : Store)
        (inputs inputs' : List Input) → AgreeingStores m w s t → Pairwise (AgreeingInputs w) inputs inputs'
        → (m.Same → inputs ≡ inputs')
        → AgreeingCourses m w (await_answer go setup position depth request on_answer s inputs)
        (await_answer go' other position depth request on_answer t inputs')
    asked_both position depth request on_answer s t inputs inputs' h none e = ended_both m w _ _ ask_both
    asked_both position depth request on_answer s t inputs inputs' h (more {x = x} {y = y} {xs = xs} {ys = ys} a i) e =
        let first : m.Same → x ≡ y = λ k. let p = e k in cc in
        let rest : m.Same → xs ≡ ys = λ k. let p = e k in cc in
        let same : m.Same → use_of w on_answer x.answer s.values ≡ use_of w on_answer y.answer t.values = λ k.
        ap (λ (z : Input). use_of w on_answer z.answer s.values) (first k)
        ∙ ap (λ (u : Store). use_of w on_answer y.answer u.values) (h.same k) in
        if_pair (AgreeingCourses m w) _ _ _ _ _ _
        (ap (is_same_kind (kind_of_request request)) (same_kinds w x.answer y.answer a.answer))
        (used_both position depth _ _ _ _ _ _
        (uses_both _ _ (λ is_width. use_both w is_width on_answer x.answer y.answer s.values t.values a.answer h.values) same)
        same (with_input_both x y s t a first h) (record { each = i; same = rest }))
        (ended_both m w _ _ ask_both)

    after_operation_both : (text : Text) (depth place : ℕ) (inputs inputs' : List Input) (n n' : Next)
        → AgreeingLists m w inputs inputs' → AgreeingNexts m w n n'
        → AgreeingCourses m w (after_operation go setup text depth place inputs n) (after_operation go' other text depth place inputs' n')
    after_operation_both text depth place inputs inputs' n n' i (goes_on h) = H text _ depth _ _ inputs inputs' h i
    after_operation_both text depth place inputs inputs' n n' i (request_next {request = request} h) =
        prepended_both m w [] [] (request ∷ []) (request ∷ []) _ _ refl refl (asked_both (record { text = text; place = place }) depth _ _ _ _ inputs inputs' h
        i.each i.same)
    after_operation_both text depth place inputs inputs' n n' i fails = ended_both m w _ _ fail_both
    after_operation_both text depth place inputs inputs' n n' i (next_first free) = course_first free refl
    after_operation_both text depth place inputs inputs' n n' i (next_second free) = course_second free refl

    does_both : (text : Text) (depth : ℕ) (s t : Store) (inputs inputs' : List Input) (act_at act_at' : ℕ → Operation → Act)
        (r : Result (Operation × List ℕ) Fault) → ((place : ℕ) (op : Operation) → AgreeingActs w (act_at place op) (act_at' place op))
        → ((place : ℕ) (op : Operation) → m.Same → act_at place op ≡ act_at' place op)
        → AgreeingStores m w s t → AgreeingLists m w inputs inputs'
        → AgreeingCourses m w (do_operation go setup text depth s inputs act_at r) (do_operation go' other text depth t inputs' act_at' r)
    does_both text depth s t inputs inputs' act_at act_at' (Ok x) acts same h i =
        after_operation_both text depth _ inputs inputs' _ _ i
        (done_both m setup limits pushing _ (length text.bytes) _ _ s t (acts _ x.0) (same _ x.0) h)
    does_both text depth s t inputs inputs' act_at act_at' (Err fault) acts same h i = ended_both m w _ _ fail_both

    counted_both : (s t : Store) → AgreeingStores m w s t → AgreeingStores m w (count_one s) (count_one t)
    counted_both s t h =
        record {
          values = h.values;
          pieces = h.pieces;
          count = ap (λ (n : ℕ). n + 1) h.count;
          settings = h.settings;
          last = h.last;
          refusal = h.refusal;
          same = λ k. ap count_one (h.same k);
        }

    same_can : (s t : Store) → AgreeingStores m w s t → can_count s ≡ can_count t
    same_can s t h = let p = h.count in let q = h.settings.maximum in cc

    counts_both : (text : Text) (place depth : ℕ) (s t : Store) (inputs inputs' : List Input)
        → AgreeingStores m w s t → AgreeingLists m w inputs inputs'
        → AgreeingCourses m w (turn_counted go setup text place depth s inputs) (turn_counted go' other text place depth t inputs')
    counts_both text place depth s t inputs inputs' h i =
        if_pair (AgreeingCourses m w) (can_count s) (can_count t) _ _ _ _ (same_can s t h)
        (prepended_both m w (record { text = text; place = place } ∷ []) (record { text = text; place = place } ∷ []) [] [] _ _ refl refl
        (does_both text depth (count_one s) (count_one t) inputs inputs' (counted_act setup s) (counted_act other t) (read setup text place)
        (λ after op. act_both w s.settings.object_address t.settings.object_address op s.values t.values h.settings.object_address h.values)
        (λ after op k. ap (λ (u : Store). act w u.settings.object_address op u.values) (h.same k))
        (counted_both s t h) i))
        (ended_both m w _ _ fail_both)

    by_both : (text : Text) (place depth : ℕ) (s t : Store) (inputs inputs' : List Input) (l l' : Last)
        → AgreeingLasts w l l' → (m.Same → l ≡ l') → AgreeingStores m w s t → AgreeingLists m w inputs inputs'
        → AgreeingCourses m w (turn_by go setup text place depth s inputs l) (turn_by go' other text place depth t inputs' l')
    by_both text place depth s t inputs inputs' l l' (both_located {location = held} {other = held'} k) x h i =
        does_both text depth s t inputs inputs' _ _ (read setup text place) (located_both w s t k h.values)
        (λ after op e. located_same held held' s t after op (let p = x e in cc) (ap (λ (u : Store). u.values) (h.same e))) h i
    by_both text place depth s t inputs inputs' l l' _ x h i = counts_both text place depth s t inputs inputs' h i

    turn_both : GoAlike m w (turn go setup) (turn go' other)
    turn_both text place depth s t inputs inputs' h i =
        if_pair (AgreeingCourses m w) _ _ _ _ _ _ refl (ended_both m w _ _ (finish_both h i))
        (by_both text place depth s t inputs inputs' s.last t.last h.last (λ k. ap (λ (u : Store). u.last) (h.same k)) h i)

  run_for_both : (turns : ℕ) → GoAlike m w (run_for turns setup) (run_for turns other)
  unfolding run_for
  run_for_both zero =
      turn_both out_of_turns out_of_turns (λ text place depth s t inputs inputs' h i. ended_both m w _ _ fail_both)
  run_for_both (suc turns) = turn_both (run_for turns setup) (run_for turns other) (run_for_both turns)

  pub run_both : GoAlike m w (run setup) (run other)
  run_both = run_for_both enough_turns

  -- ---- the end

  completed_both : (value value' : Option Value) (r r' : Result Store Fault) → Both (Agree w) value value'
      → (m.Same → value ≡ value') → AgreeingResults m w r r' → AgreeUnlessFull m w (completion_of value r) (completion_of value' r')
  completed_both value value' r r' a x (results {x = s} {y = t} h) =
      agree (completions (zipped h.pieces) a) (λ k. ap (λ (u : Store). CompleteOutcome u.pieces value) (h.same k)
      ∙ ap (CompleteOutcome t.pieces) (x k))
  completed_both value value' r r' a x refusals = agree faults (λ k. refl)
  completed_both value value' r r' a x (result_first free) = full_first free refl
  completed_both value value' r r' a x (result_second free) = full_second free refl

  at_location_both : (location location' : Location) (s t : Store) → AgreeingLocations w location location'
      → (m.Same → location ≡ location') → AgreeingStores m w s t
      → AgreeUnlessFull m w (finish_by setup s (Located location)) (finish_by other t (Located location'))
  at_location_both location location' s t l x h =
      if_pair (AgreeUnlessFull m w) _ _ _ _ _ _ (same_has w _ _ h.pieces) (agree faults (λ k. refl))
      (completed_both None None _ _ nothing (λ k. refl) (push_piece_both m setup limits pushing _ _ s t
      (record { sizes = refl; offsets = refl; locations = l }) (λ k. ap whole_piece (x k)) h))

  value_both : (s t : Store) → AgreeingStores m w s t → AgreeUnlessFull m w (finish_value setup s) (finish_value other t)
  value_both s t h =
      top_pair (AgreeUnlessFull m w) m.Same w s.values t.values _ _ _ _ h.values (λ k. ap (λ (u : Store). u.values) (h.same k))
      (agree faults (λ k. refl)) (λ x x' rest rest' a b e.
      let top : m.Same → x ≡ x' = λ k. let p = e k in cc in
      let below : m.Same → rest ≡ rest' = λ k. let p = e k in cc in
      completed_both (Some x) (Some x') _ _ (something a) (λ k. ap Some (top k))
      (push_piece_both m setup limits pushing _ _ (record s { values = rest }) (record t { values = rest' })
      (record { sizes = refl; offsets = refl; locations = same_addresses w x x' a })
      (λ k. ap (λ (z : Value). whole_piece (AtAddress (to_u64_of w z))) (top k))
      (changed h b h.last (λ k. (below k, ap (λ (u : Store). u.last) (h.same k))))))

  judged_both : (s t : Store) → AgreeingStores m w s t → AgreeUnlessFull m w (finish_by setup s Plain) (finish_by other t Plain)
  judged_both s t h =
      if_pair (AgreeUnlessFull m w) _ _ _ _ _ _ (same_has w _ _ h.pieces) (agree faults (λ k. refl)) (value_both s t h)

  free_both : (s t : Store) → AgreeingStores m w s t → AgreeUnlessFull m w (finish_by setup s Nothing) (finish_by other t Nothing)
  free_both s t h =
      if_pair (AgreeUnlessFull m w) _ _ _ _ _ _ (same_has w _ _ h.pieces)
      (agree (completions (zipped h.pieces) nothing) (λ k. ap (λ (u : Store). CompleteOutcome u.pieces None) (h.same k)))
      (value_both s t h)

  finished_both : (s t : Store) (l l' : Last) → AgreeingStores m w s t → AgreeingLasts w l l' → (m.Same → l ≡ l')
      → AgreeUnlessFull m w (finish_by setup s l) (finish_by other t l')
  finished_both s t l l' h (both_located {location = held} {other = held'} k) x =
      at_location_both held held' s t k (λ e. let p = x e in cc) h
  finished_both s t l l' h both_plain x = judged_both s t h
  finished_both s t l l' h both_pushed x = judged_both s t h
  finished_both s t l l' h _ x = free_both s t h

  ends_both : (e e' : End) → AgreeingEnds m w e e' → AgreeUnlessFull m w (outcome_of_end setup e) (outcome_of_end other e')
  ends_both e e' (finish_both {s = s} {t = t} h i) =
      finished_both s t s.last t.last h h.last (λ k. ap (λ (u : Store). u.last) (h.same k))
  ends_both e e' ask_both = agree requests (λ k. refl)
  ends_both e e' fail_both = agree faults (λ k. refl)

  pub courses_both : (c c' : Course) → AgreeingCourses m w c c'
      → AgreeUnlessFull m w (outcome_of_end setup c.end) (outcome_of_end other c'.end)
  courses_both c c' (courses p q h) = ends_both c.end c'.end h
  courses_both c c' (course_first free e) = full_first free (ap (λ (end : End). outcome_of_end setup end) e)
  courses_both c c' (course_second free e) = full_second free (ap (λ (end : End). outcome_of_end other end) e)

  -- if no push was refused on one side alone
  clear_both : (c c' : Course) → AgreeingCourses m w c c' → IsClear m.First (outcome_of_end setup c.end)
      → IsClear m.Second (outcome_of_end other c'.end)
      → AgreeingOutcomes w (outcome_of_end setup c.end) (outcome_of_end other c'.end) × (c.path ≡ c'.path)
  clear_both c c' (courses p q h) i j = (decided m w _ _ (ends_both c.end c'.end h) i j, p)
  clear_both c c' (course_first free e) i j = absurd (i free (ap (λ (end : End). outcome_of_end setup end) e))
  clear_both c c' (course_second free e) i j = absurd (j free (ap (λ (end : End). outcome_of_end other end) e))

  -- ---- the start

  initial_both : (n n' : Option ℕ) (s t : Store) → Both (AgreeingNumbers w) n n' → (m.Same → n ≡ n') → AgreeingStores m w s t
      → AgreeingResults m w (with_initial setup n s) (with_initial other n' t)
  initial_both n n' s t nothing x h = results h
  initial_both n n' s t (something e) x h =
      push_value_both m setup limits pushing _ _ s t (Agree-Generic w _ _ e) (λ k. let p = x k in cc) h

  module _ (refusal another : Refusal) (left : m.Left refusal another) (text : Text) where
    fresh_both : (x y : First) → AgreeingFirsts w x y → (m.Same → x ≡ y)
        → AgreeingStores m w (fresh_store x refusal) (fresh_store y another)
    fresh_both x y a e =
        record {
          values = none;
          pieces = none;
          count = refl;
          settings = a.settings;
          last = both_nothing;
          refusal = left;
          same = λ k. ap (λ (z : First). fresh_store z Never) (e k);
        }

    pub course_both : (x y : First) (inputs inputs' : List Input) → AgreeingFirsts w x y → (m.Same → x ≡ y)
        → AgreeingLists m w inputs inputs'
        → AgreeingCourses m w (course_of setup refusal text x inputs) (course_of other another text y inputs')
    course_both x y inputs inputs' a e i =
        resumed_both (run setup) (run other) run_both (record { text = text; place = 0 }) 0 inputs inputs' _ _ i
        (initial_both x.initial_value y.initial_value _ _ a.initial_value (λ k. ap (λ (z : First). z.initial_value) (e k))
        (fresh_both x y a e))

    -- agreeing settings and inputs have agreeing meanings, if no push was refused on one side alone; and the operations
    -- that they count stand at the same places
    pub meaning_both : (x y : First) (inputs inputs' : List Input) → AgreeingFirsts w x y → (m.Same → x ≡ y)
        → AgreeingLists m w inputs inputs' → IsClear m.First (meaning setup refusal text x inputs)
        → IsClear m.Second (meaning other another text y inputs')
        → AgreeingOutcomes w (meaning setup refusal text x inputs) (meaning other another text y inputs')
        × ((course_of setup refusal text x inputs).path ≡ (course_of other another text y inputs').path)
    unfolding meaning
    meaning_both x y inputs inputs' a e i h k = clear_both _ _ (course_both x y inputs inputs' a e i) h k
