-- Each list stays within its limit, and so do the texts that are open.
use Rattle.std.proofs.Common.{ℕ, zero, suc, ◌≡◌, ◌≤◌, ◌<◌, List, [], ◌∷◌, ◌++◌, length, Option, Some, None, Result, Ok, Err, arith, refl, subst, ◌==◌, length-append}
use Rattle.std.proofs.lemmas.Bool.{cond_both}
use Rattle.std.specs.Prelude.{nat_lt}
use Rattle.std.proofs.lemmas.Bool.Decides.{nat_tests}
use Rattle.dwarf_base.specs.Faults.{Fault, ◌>>=◌}
use Rattle.dwarf_base.specs.declared.errors.Error.TheVariants.{StackFull}
use Rattle.dwarf_base.specs.Reads.{Text}
use Rattle.dwarf_value.specs.declared.types.Value.{Value}
use Rattle.dwarf_meaning.specs.Operations as operation
use Rattle.dwarf_meaning.specs.Operations.{Operation}
use Rattle.dwarf_meaning.specs.Locations.{Location, Piece, sized_piece}
use Rattle.dwarf_meaning.specs.Requests.{Request, OnAnswer, Answer, Input}
use Rattle.dwarf_meaning.specs.Kinds.{kind_of_request, kind_of_answer, is_same_kind}
use Rattle.dwarf_meaning.specs.Acts.{on_top, Act, Pushes, Branches, Locates, EndsPiece, RequestAct, FaultAct, Use, PushesAnswer, Calls, FaultUse, use_of}
use Rattle.dwarf_meaning.specs.Stores.{IsWithin, Setup, address_bits, Store, Last, Nothing, Plain, Pieced, Pushed, Called, Located, push_value, push_piece, push_caller, push_values, Next, Goes, RequestNext, FaultNext, branch_target, do_act}
use Rattle.dwarf_meaning.specs.Run.{Position, End, CompleteEnd, RequestEnd, FaultEnd, Course, Continues, return_to_caller, after_push, enter_callee, run_callee, after_answer, with_input, await_answer, after_operation, read, can_count, count_one, do_operation, turn_counted, counted_act, located_act, turn_by, turn, out_of_turns, run_for, enough_turns, run, return_to_callers}
use Rattle.dwarf_meaning.specs.Meaning.{completion_of, has_pieces, whole_piece, finish_value, finish_by, First, fresh_store, with_initial, outcome_of_end, course_of, meaning}
use Rattle.dwarf_meaning.specs.RunLaws.{ListsWithin, OpenTexts, EndWithin, OutcomeWithin, outermost}
use Rattle.dwarf_meaning.specs.Refusals.{Refusal, refusal_after_push, push_with_room}
use Rattle.dwarf_meaning.proofs.Counts.{OnStore, OnNext, bound_store, on_bound, on_goes}
use Rattle.dwarf_meaning.proofs.Effects.{IsActOf, pushes, branches, locates, ends, asks, act_is, IsUseOf, use_is}

within_less : (limit : Option ℕ) (n m : ℕ) → m ≤ n → IsWithin limit n → IsWithin limit m
within_less None n m h i = tt
within_less (Some limit) n m h i = omega (arith, h, i)

-- ---- pushes

-- if there is room for one more, there is one more within the limit
room_within : (limit : Option ℕ) (n : ℕ) (refusal : Refusal) (P : Store → Type 0) (make : Refusal → Store) → (IsWithin limit (suc n) → (left : Refusal) → P (make left)) → OnStore P (push_with_room limit n refusal >>= λ left. Ok (make left))
room_within None n refusal P make h = bound_store P (refusal_after_push refusal) make (h tt)
room_within (Some limit) n refusal P make h =
    cond_both (nat_lt n limit) (Ok refusal) (Err StackFull) (λ (r : Result Refusal Fault). OnStore P (r >>= λ left. Ok (make left)))
    (λ e. let below : n < limit = grind (arith, nat_tests) in h (omega (arith, below)) refusal)
    (λ e. tt)

module _ (setup : Setup) where
  abbrev Kept : Store → Type 0
  Kept s = ListsWithin setup.limits s

  kept_value : (value : Value) (s : Store) → Kept s → OnStore Kept (push_value setup value s)
  unfolding push_value
  kept_value value s h =
      room_within setup.limits.values (length s.values) s.refusal Kept (λ left. record s { values = value ∷ s.values; refusal = left })
      (λ within left. record { values = within; pieces = h.pieces })

  kept_piece : (piece : Piece) (s : Store) → Kept s → OnStore Kept (push_piece setup piece s)
  unfolding push_piece
  kept_piece piece s h =
      let e : suc (length s.pieces) ≡ length (s.pieces ++ piece ∷ []) = let l = length-append s.pieces (piece ∷ []) in omega (arith, l) in
      room_within setup.limits.pieces (length s.pieces) s.refusal Kept (λ left. record s { pieces = s.pieces ++ piece ∷ []; refusal = left })
      (λ within left. record { values = h.values; pieces = subst (λ (n : ℕ). IsWithin setup.limits.pieces n) e within })

  -- room for a callee's frame
  record Enters (depth : ℕ) (s : Store) : Type 0 where
    kept : Kept s
    within : IsWithin setup.limits.callers (suc depth)

  kept_frame : (depth : ℕ) (s : Store) → Kept s → OnStore (Enters depth) (push_caller setup depth s)
  unfolding push_caller
  kept_frame depth s h =
      room_within setup.limits.callers depth s.refusal (Enters depth) (λ left. record s { refusal = left })
      (λ within left. record { kept = record { values = h.values; pieces = h.pieces }; within = within })

  kept_values : (values : List Value) (s : Store) → Kept s → OnStore Kept (push_values setup values s)
  kept_values [] s h = h
  kept_values (value ∷ values) s h =
      on_bound Kept Kept (push_value setup value s) (push_values setup values) (kept_value value s h) (λ t i. kept_values values t i)

  -- ---- operations

  kept_done : {op : Operation} (place len : ℕ) (a : Act) (s : Store) → IsActOf op (length s.values) a → Kept s → OnNext Kept (do_act setup place len a s)
  kept_done place len (Pushes rest pushed) s (pushes l _) h =
      on_goes Kept place _ (kept_values pushed (record s { values = rest; last = Plain }) (record { values = within_less setup.limits.values _ _ l h.values; pieces = h.pieces }))
  kept_done place len (Branches rest target) s (branches l _) h =
      cond_both (nat_lt len (branch_target setup place target)) _ _ (OnNext Kept) (λ e. tt) (λ e. record { values = within_less setup.limits.values _ _ l h.values; pieces = h.pieces })
  kept_done place len (Locates rest location) s (locates l _) h = record { values = within_less setup.limits.values _ _ l h.values; pieces = h.pieces }
  kept_done place len (EndsPiece rest piece) s (ends l _) h =
      on_goes Kept place _ (kept_piece piece (record s { values = rest; last = Pieced }) (record { values = within_less setup.limits.values _ _ l h.values; pieces = h.pieces }))
  kept_done place len (RequestAct rest request on_answer) s (asks l _) h = record { values = within_less setup.limits.values _ _ l h.values; pieces = h.pieces }
  kept_done place len (FaultAct fault) s _ h = tt

  kept_located : (location : Location) (s : Store) → Kept s → (place len : ℕ) (op : Operation) → OnNext Kept (do_act setup place len (located_act location s place op) s)
  kept_located location s h place len (operation.Piece size_in_bits bit_offset) =
      on_goes Kept place _ (kept_piece (sized_piece size_in_bits bit_offset location) (record s { last = Pieced }) (record { values = h.values; pieces = h.pieces }))
  kept_located location s h place len op = tt

  -- ---- runs

  abbrev Limited : Continues → Type 0
  Limited go = (text : Text) (place depth : ℕ) (s : Store) (inputs : List Input) → IsWithin setup.limits.callers depth → Kept s → EndWithin setup.limits text depth (go text place depth s inputs).end

  -- the text alone is open
  one_open : (position : Position) (depth : ℕ) → IsWithin setup.limits.callers depth → OpenTexts setup.limits.callers position.text depth (position ∷ [])
  one_open position depth h = record { callees = []; place = position.place; itself = refl; one_more = refl; within = within_less setup.limits.callers _ _ (omega arith) h }

  -- a caller is open as long as its callees are
  caller_open : (position : Position) (callee : Text) (depth : ℕ) (positions : List Position) → OpenTexts setup.limits.callers callee (suc depth) positions → OpenTexts setup.limits.callers position.text depth (positions ++ position ∷ [])
  caller_open position callee depth positions h =
      let l = length-append positions (position ∷ []) in
      record { callees = positions; place = position.place; itself = refl; one_more = omega (arith, l); within = within_less setup.limits.callers _ _ (omega (arith, h.one_more)) h.within }

  module _ (go : Continues) (limited : Limited go) where
    limited_back : (position : Position) (callee : Text) (depth : ℕ) (course : Course) (end : End) → IsWithin setup.limits.callers depth → EndWithin setup.limits callee (suc depth) end → EndWithin setup.limits position.text depth (return_to_caller go position depth course end).end
    limited_back position callee depth course (CompleteEnd s left) d h = limited position.text position.place depth s left d h
    limited_back position callee depth course (RequestEnd request positions left) d h = caller_open position callee depth positions h
    limited_back position callee depth course (FaultEnd fault) d h = tt

    limited_resumed : (position : Position) (depth : ℕ) (inputs : List Input) (r : Result Store Fault) → IsWithin setup.limits.callers depth → OnStore Kept r → EndWithin setup.limits position.text depth (after_push go position depth inputs r).end
    limited_resumed position depth inputs (Ok s) d h = limited position.text position.place depth s inputs d h
    limited_resumed position depth inputs (Err fault) d h = tt

    limited_entered : (position : Position) (depth : ℕ) (callee : Text) (inputs : List Input) (r : Result Store Fault) → IsWithin setup.limits.callers depth → OnStore (Enters depth) r → EndWithin setup.limits position.text depth (enter_callee go position depth callee inputs r).end
    limited_entered position depth callee inputs (Ok s) d h =
        let course = go callee 0 (suc depth) s inputs in
        limited_back position callee depth course course.end d (limited callee 0 (suc depth) s inputs h.within h.kept)
    limited_entered position depth callee inputs (Err fault) d h = tt

    limited_called : (position : Position) (depth : ℕ) (callee : Text) (bytes : List ℕ) (s : Store) (inputs : List Input) → IsWithin setup.limits.callers depth → Kept s → EndWithin setup.limits position.text depth (run_callee go setup position depth callee bytes s inputs).end
    limited_called position depth callee [] s inputs d h = limited position.text position.place depth (record s { last = Called }) inputs d (record { values = h.values; pieces = h.pieces })
    limited_called position depth callee (byte ∷ bytes) s inputs d h = limited_entered position depth callee inputs _ d (kept_frame depth s h)

    limited_used : (position : Position) (depth : ℕ) (u : Use) (s : Store) (inputs : List Input) (answer : Answer) → IsWithin setup.limits.callers depth → IsUseOf answer (length s.values) u → Kept s → EndWithin setup.limits position.text depth (after_answer go setup position depth u s inputs).end
    limited_used position depth (PushesAnswer rest value) s inputs answer d l h =
        limited_resumed position depth inputs _ d (kept_value value (record s { values = rest; last = Pushed }) (record { values = within_less setup.limits.values _ _ l h.values; pieces = h.pieces }))
    limited_used position depth (Calls callee) s inputs answer d k h = limited_called position depth callee callee.bytes s inputs d h
    limited_used position depth (FaultUse fault) s inputs answer d k h = tt

    limited_asked : (position : Position) (depth : ℕ) (request : Request) (on_answer : OnAnswer) (s : Store) (inputs : List Input) → IsWithin setup.limits.callers depth → Kept s → EndWithin setup.limits position.text depth (await_answer go setup position depth request on_answer s inputs).end
    limited_asked position depth request on_answer s [] d h = one_open position depth d
    limited_asked position depth request on_answer s (input ∷ inputs) d h =
        cond_both (is_same_kind (kind_of_request request) (kind_of_answer input.answer)) _ _ (λ (c : Course). EndWithin setup.limits position.text depth c.end)
        (λ fits. limited_used position depth (use_of (address_bits setup) on_answer input.answer s.values) (with_input input s) inputs input.answer d
        (use_is (address_bits setup) on_answer input.answer s.values) (record { values = h.values; pieces = h.pieces }))
        (λ other. one_open position depth d)

    limited_led : (text : Text) (depth place : ℕ) (inputs : List Input) (next : Next) → IsWithin setup.limits.callers depth → OnNext Kept next → EndWithin setup.limits text depth (after_operation go setup text depth place inputs next).end
    limited_led text depth place inputs (Goes to s) d h = limited text to depth s inputs d h
    limited_led text depth place inputs (RequestNext request on_answer s) d h = limited_asked (record { text = text; place = place }) depth request on_answer s inputs d h
    limited_led text depth place inputs (FaultNext fault) d h = tt

    limited_does : (text : Text) (depth : ℕ) (s : Store) (inputs : List Input) (act_at : ℕ → Operation → Act) (r : Result (Operation × List ℕ) Fault) → IsWithin setup.limits.callers depth → ((place len : ℕ) (op : Operation) → OnNext Kept (do_act setup place len (act_at place op) s)) → EndWithin setup.limits text depth (do_operation go setup text depth s inputs act_at r).end
    limited_does text depth s inputs act_at (Ok x) d h = limited_led text depth _ inputs _ d (h _ _ x.0)
    limited_does text depth s inputs act_at (Err fault) d h = tt

    limited_counts : (text : Text) (place depth : ℕ) (s : Store) (inputs : List Input) → IsWithin setup.limits.callers depth → Kept s → EndWithin setup.limits text depth (turn_counted go setup text place depth s inputs).end
    limited_counts text place depth s inputs d h =
        cond_both (can_count s) _ _ (λ (c : Course). EndWithin setup.limits text depth c.end)
        (λ can. limited_does text depth (count_one s) inputs (counted_act setup s) (read setup text place) d
        (λ place len op. kept_done place len _ (count_one s) (act_is (address_bits setup) s.settings.object_address op s.values) (record { values = h.values; pieces = h.pieces })))
        (λ e. tt)

    limited_by : (text : Text) (place depth : ℕ) (s : Store) (inputs : List Input) (last : Last) → IsWithin setup.limits.callers depth → Kept s → EndWithin setup.limits text depth (turn_by go setup text place depth s inputs last).end
    limited_by text place depth s inputs (Located location) d h = limited_does text depth s inputs (located_act location s) (read setup text place) d (kept_located location s h)
    limited_by text place depth s inputs last d h = limited_counts text place depth s inputs d h

    limited_turn : Limited (turn go setup)
    limited_turn text place depth s inputs d h =
        cond_both (place == length text.bytes) _ _ (λ (c : Course). EndWithin setup.limits text depth c.end)
        (λ e. h) (λ e. limited_by text place depth s inputs s.last d h)

  limited_run_for : (turns : ℕ) → Limited (run_for turns setup)
  unfolding run_for
  limited_run_for zero = limited_turn out_of_turns (λ text place depth s inputs d h. tt)
  limited_run_for (suc turns) = limited_turn (run_for turns setup) (limited_run_for turns)

  -- ---- the whole

  completed_within : (text : Text) (value : Option Value) (r : Result Store Fault) → OnStore Kept r → OutcomeWithin setup.limits text (completion_of value r)
  completed_within text value (Ok s) h = h.pieces
  completed_within text value (Err fault) h = tt

  value_within : (text : Text) (s : Store) (values : List Value) → length values ≤ length s.values → Kept s → OutcomeWithin setup.limits text (finish_value setup (record s { values = values }))
  unfolding on_top
  value_within text s [] l h = tt
  value_within text s (x ∷ rest) l h =
      completed_within text (Some x) _ (kept_piece _ (record s { values = rest }) (record { values = within_less setup.limits.values _ _ (omega (arith, l)) h.values; pieces = h.pieces }))

  located_within : (text : Text) (location : Location) (s : Store) → Kept s → OutcomeWithin setup.limits text (finish_by setup s (Located location))
  located_within text location s h = cond_both (has_pieces s.pieces) _ _ (OutcomeWithin setup.limits text) (λ e. tt) (λ e. completed_within text None _ (kept_piece (whole_piece location) s h))

  judged_within : (text : Text) (s : Store) → Kept s → OutcomeWithin setup.limits text (finish_by setup s Plain)
  judged_within text s h = cond_both (has_pieces s.pieces) _ _ (OutcomeWithin setup.limits text) (λ e. tt) (λ e. value_within text s s.values (omega arith) h)

  free_within : (text : Text) (s : Store) → Kept s → OutcomeWithin setup.limits text (finish_by setup s Nothing)
  free_within text s h = cond_both (has_pieces s.pieces) _ _ (OutcomeWithin setup.limits text) (λ e. h.pieces) (λ e. value_within text s s.values (omega arith) h)

  finish_within : (text : Text) (s : Store) (last : Last) → Kept s → OutcomeWithin setup.limits text (finish_by setup s last)
  finish_within text s (Located location) h = located_within text location s h
  finish_within text s Plain h = judged_within text s h
  finish_within text s Pushed h = judged_within text s h
  finish_within text s last h = free_within text s h

  -- a text's callers are within the limits if it is
  returned_within : (text : Text) (callers : List Position) (course : Course) → IsWithin setup.limits.callers (length callers) → EndWithin setup.limits text (length callers) course.end → EndWithin setup.limits (outermost text callers) 0 (return_to_callers setup callers course).end
  returned_within text [] course d h = h
  returned_within text (caller ∷ callers) course d h =
      let above = within_less setup.limits.callers (suc (length callers)) (length callers) (omega arith) d in
      returned_within caller.text callers (return_to_caller (run setup) caller (length callers) course course.end) above
      (limited_back (run setup) (limited_run_for enough_turns) caller text (length callers) course course.end above h)

  ended_within : (text : Text) (end : End) → EndWithin setup.limits text 0 end → OutcomeWithin setup.limits text (outcome_of_end setup end)
  ended_within text (CompleteEnd s left) h = finish_within text s s.last h
  ended_within text (RequestEnd request positions left) h = h
  ended_within text (FaultEnd fault) h = tt

  none_within : (limit : Option ℕ) → IsWithin limit 0
  none_within None = tt
  none_within (Some limit) = omega arith

  initial_kept : (initial : Option ℕ) (s : Store) → Kept s → OnStore Kept (with_initial setup initial s)
  initial_kept None s h = h
  initial_kept (Some number) s h = kept_value _ s h

pub run_within : (setup : Setup) (text : Text) (place depth : ℕ) (s : Store) (inputs : List Input) → IsWithin setup.limits.callers depth → ListsWithin setup.limits s → EndWithin setup.limits text depth (run setup text place depth s inputs).end
run_within setup = limited_run_for setup enough_turns

pub callers_within : (setup : Setup) (text : Text) (callers : List Position) (course : Course) → IsWithin setup.limits.callers (length callers) → EndWithin setup.limits text (length callers) course.end → OutcomeWithin setup.limits (outermost text callers) (outcome_of_end setup (return_to_callers setup callers course).end)
callers_within setup text callers course d h = ended_within setup (outermost text callers) (return_to_callers setup callers course).end (returned_within setup text callers course d h)

pub meaning_within : (setup : Setup) (refusal : Refusal) (text : Text) (first : First) (inputs : List Input) → OutcomeWithin setup.limits text (meaning setup refusal text first inputs)
unfolding meaning
meaning_within setup refusal text first inputs =
    ended_within setup text (course_of setup refusal text first inputs).end
    (limited_resumed setup (run setup) (limited_run_for setup enough_turns) (record { text = text; place = 0 }) 0 inputs (with_initial setup first.initial_value (fresh_store first refusal)) (none_within setup setup.limits.callers)
    (initial_kept setup first.initial_value (fresh_store first refusal) (record { values = none_within setup setup.limits.values; pieces = none_within setup setup.limits.pieces })))
