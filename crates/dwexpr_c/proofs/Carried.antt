-- Each block that an evaluation gives is a block of an operation of one of its texts.
use Rattle.std.proofs.Common.{ℕ, zero, suc, ◌==◌, subst, List, [], ◌∷◌, ◌++◌, length, Option, Some, None, Result, Ok, Err, nat_lt}
use Rattle.std.proofs.lemmas.Bool.{cond_both}
use Rattle.dwarf_base.specs.Faults.{Fault}
use Rattle.dwarf_base.specs.Reads.{Text}
use Rattle.dwarf_value.specs.declared.types.Value.{Value}
use Rattle.dwarf_value.specs.declared.types.Value.TheVariants.{Generic}
use Rattle.dwarf_meaning.specs.Operations as operation
use Rattle.dwarf_meaning.specs.Operations.{Operation}
use Rattle.dwarf_meaning.specs.Locations.{Location, HoldsBytes, Piece}
use Rattle.dwarf_meaning.specs.Kinds.{kind_of_request, kind_of_answer, is_same_kind}
use Rattle.dwarf_meaning.specs.Requests.{Request, OnAnswer, Answer, LocationAnswer, Input}
use Rattle.dwarf_meaning.specs.Acts.{Act, Pushes, Branches, Locates, EndsPiece, RequestAct, FaultAct, Use, PushesAnswer, Calls, FaultUse, use_of}
use Rattle.dwarf_meaning.specs.Stores.{Setup, address_bits, Store, Last, Nothing, Plain, Pieced, Pushed, Called, Located, push_value, push_piece, push_caller, push_values, Next, Goes, RequestNext, FaultNext, next_at, do_act, branch_target}
use Rattle.dwarf_meaning.specs.Run.{Position, End, CompleteEnd, RequestEnd, FaultEnd, Course, Continues, return_to_caller, after_push, enter_callee, run_callee, after_answer, with_input, await_answer, after_operation, read, can_count, count_one, do_operation, turn_counted, counted_act, located_act, turn_by, turn, out_of_turns, run_for, enough_turns}
use Rattle.dwarf_meaning.specs.Meaning.{Outcome, RequestOutcome, FaultOutcome, CompleteOutcome, completion_of, has_pieces, whole_piece, finish_value, finish_by, First, fresh_store, with_initial, outcome_of_end, meaning}
use Rattle.dwarf_meaning.specs.Refusals.{Refusal, push_with_room}
use Rattle.dwarf_meaning.proofs.Choices.{top_both}
use Rattle.dwarf_meaning.proofs.Counts.{OnStore, bound_store, on_bound}
use Rattle.dwarf_meaning.proofs.Effects.{IsActOf, IsOwnPlace, locates, ends, asks, act_is, IsUseOf, use_is}
use Rattle.dwexpr_c.specs.CodedOperations.{block_in}
use Rattle.dwarf_meaning.specs.Requests as asked_for

-- ---- what is known of blocks, and where they may be

abbrev pub OnBlock : (List ℕ → Type 0) → Option (List ℕ) → Type 0
OnBlock Q None = Unit {0}
OnBlock Q (Some block) = Q block

abbrev pub OnRead : (List ℕ → Type 0) → Result (Operation × List ℕ) Fault → Type 0
OnRead Q (Ok x) = OnBlock Q (block_in x.0)
OnRead Q (Err fault) = Unit {0}

abbrev pub OnLocation : (List ℕ → Type 0) → Location → Type 0
OnLocation Q (HoldsBytes text) = Q text.bytes
OnLocation Q _ = Unit {0}

abbrev pub OnPieces : (List ℕ → Type 0) → List Piece → Type 0
OnPieces Q [] = Unit {0}
OnPieces Q (piece ∷ pieces) = OnLocation Q piece.location × OnPieces Q pieces

abbrev pub OnRequest : (List ℕ → Type 0) → Request → Type 0
OnRequest Q (asked_for.RequiresEntryValue text) = Q text.bytes
OnRequest Q _ = Unit {0}

abbrev OnAct : (List ℕ → Type 0) → Act → Type 0
OnAct Q (Locates rest location) = OnLocation Q location
OnAct Q (EndsPiece rest piece) = OnLocation Q piece.location
OnAct Q (RequestAct rest request on_answer) = OnRequest Q request
OnAct Q _ = Unit {0}

abbrev pub OnGiven : (Text → Type 0) → Answer → Type 0
OnGiven P (LocationAnswer text) = P text
OnGiven P _ = Unit {0}

abbrev pub OnInputs : (Text → Type 0) → List Input → Type 0
OnInputs P [] = Unit {0}
OnInputs P (input ∷ inputs) = OnGiven P input.answer × OnInputs P inputs

abbrev OnUse : (Text → Type 0) → Use → Type 0
OnUse P (Calls text) = P text
OnUse P _ = Unit {0}

abbrev OnLast : (List ℕ → Type 0) → Last → Type 0
OnLast Q (Located location) = OnLocation Q location
OnLast Q _ = Unit {0}

record Holds (Q : List ℕ → Type 0) (s : Store) : Type 0 where
  pieces : OnPieces Q s.pieces
  last : OnLast Q s.last

abbrev pub OnOutcome : (List ℕ → Type 0) → Outcome → Type 0
OnOutcome Q (RequestOutcome request positions) = OnRequest Q request
OnOutcome Q (CompleteOutcome pieces value) = OnPieces Q pieces
OnOutcome Q (FaultOutcome fault) = Unit {0}

-- ---- operations

module _ (Q : List ℕ → Type 0) where
  own_holds : (location : Location) → IsOwnPlace location → OnLocation Q location
  own_holds (HoldsBytes text) o = absurd o
  own_holds _ o = tt

  act_holds : (op : Operation) {n : ℕ} (a : Act) → IsActOf op n a → OnBlock Q (block_in op) → OnAct Q a
  act_holds op (Locates rest (HoldsBytes text)) (locates l e) h = subst (λ (o : Operation). OnBlock Q (block_in o)) e h
  act_holds op (EndsPiece rest piece) (ends l w) h = own_holds piece.location w
  act_holds op (RequestAct rest (asked_for.RequiresEntryValue text) on_answer) (asks l e) h = subst (λ (o : Operation). OnBlock Q (block_in o)) e h
  act_holds op _ d h = tt

  -- ---- what is kept

  snoc_pieces : (pieces : List Piece) (piece : Piece) → OnPieces Q pieces → OnLocation Q piece.location → OnPieces Q (pieces ++ piece ∷ [])
  snoc_pieces [] piece h i = (i, tt)
  snoc_pieces (first ∷ pieces) piece h i = (h.0, snoc_pieces pieces piece h.1 i)

  value_holds : (setup : Setup) (value : Value) (s : Store) → Holds Q s → OnStore (Holds Q) (push_value setup value s)
  unfolding push_value
  value_holds setup value s h =
      bound_store (Holds Q) (push_with_room setup.limits.values (length s.values) s.refusal) (λ left. record s { values = value ∷ s.values; refusal = left }) (λ left. record { pieces = h.pieces; last = h.last })

  piece_holds : (setup : Setup) (piece : Piece) (s : Store) → Holds Q s → OnLocation Q piece.location → OnStore (Holds Q) (push_piece setup piece s)
  unfolding push_piece
  piece_holds setup piece s h i =
      bound_store (Holds Q) (push_with_room setup.limits.pieces (length s.pieces) s.refusal) (λ left. record s { pieces = s.pieces ++ piece ∷ []; refusal = left })
      (λ left. record { pieces = snoc_pieces s.pieces piece h.pieces i; last = h.last })

  frame_holds : (setup : Setup) (depth : ℕ) (s : Store) → Holds Q s → OnStore (Holds Q) (push_caller setup depth s)
  unfolding push_caller
  frame_holds setup depth s h =
      bound_store (Holds Q) (push_with_room setup.limits.callers depth s.refusal) (λ left. record s { refusal = left }) (λ left. record { pieces = h.pieces; last = h.last })

  values_hold : (setup : Setup) (values : List Value) (s : Store) → Holds Q s → OnStore (Holds Q) (push_values setup values s)
  values_hold setup [] s h = h
  values_hold setup (value ∷ values) s h =
      on_bound (Holds Q) (Holds Q) (push_value setup value s) (push_values setup values) (value_holds setup value s h) (λ t k. values_hold setup values t k)

  abbrev OnNext : Next → Type 0
  OnNext (Goes place s) = Holds Q s
  OnNext (RequestNext request on_answer s) = OnRequest Q request × Holds Q s
  OnNext (FaultNext fault) = Unit {0}

  goes_holds : (place : ℕ) (r : Result Store Fault) → OnStore (Holds Q) r → OnNext (next_at place r)
  goes_holds place (Ok s) h = h
  goes_holds place (Err fault) h = tt

  done_holds : (setup : Setup) (place len : ℕ) (a : Act) (s : Store) → OnAct Q a → Holds Q s → OnNext (do_act setup place len a s)
  done_holds setup place len (Pushes rest pushed) s a h =
      goes_holds place _ (values_hold setup pushed (record s { values = rest; last = Plain }) (record { pieces = h.pieces; last = tt }))
  done_holds setup place len (Branches rest target) s a h =
      cond_both (nat_lt len (branch_target setup place target)) _ _ OnNext (λ e. tt) (λ e. record { pieces = h.pieces; last = tt })
  done_holds setup place len (Locates rest location) s a h = record { pieces = h.pieces; last = a }
  done_holds setup place len (EndsPiece rest piece) s a h =
      goes_holds place _ (piece_holds setup piece (record s { values = rest; last = Pieced }) (record { pieces = h.pieces; last = tt }) a)
  done_holds setup place len (RequestAct rest request on_answer) s a h = (a, record { pieces = h.pieces; last = h.last })
  done_holds setup place len (FaultAct fault) s a h = tt

  located_on : (location : Location) (s : Store) (place : ℕ) (op : Operation) → OnLocation Q location → OnAct Q (located_act location s place op)
  located_on location s place (operation.Piece size_in_bits bit_offset) l = l
  located_on location s place op l = tt

-- ---- answers

module _ (P : Text → Type 0) where
  use_holds : (answer : Answer) (n : ℕ) (u : Use) → IsUseOf answer n u → OnGiven P answer → OnUse P u
  use_holds answer n (Calls text) e h = subst (OnGiven P) e h
  use_holds answer n _ e h = tt

-- ---- runs

module _ (P : Text → Type 0) (Q : List ℕ → Type 0) where
  abbrev OnEnd : End → Type 0
  OnEnd (CompleteEnd s inputs) = Holds Q s × OnInputs P inputs
  OnEnd (RequestEnd request positions inputs) = OnRequest Q request
  OnEnd (FaultEnd fault) = Unit {0}

  abbrev Carries : Continues → Type 0
  Carries go = (text : Text) (place depth : ℕ) (s : Store) (inputs : List Input) → P text → Holds Q s → OnInputs P inputs → OnEnd (go text place depth s inputs).end

  -- what is read of such a text
  abbrev pub Reads : Setup → Type 0
  Reads setup = (text : Text) (place : ℕ) → P text → OnRead Q (read setup text place)

  module _ (setup : Setup) (reads : Reads setup) (go : Continues) (carries : Carries go) where
    back_carries : (position : Position) (depth : ℕ) (course : Course) (end : End) → P position.text → OnEnd end → OnEnd (return_to_caller go position depth course end).end
    back_carries position depth course (CompleteEnd s inputs) p h = carries position.text position.place depth s inputs p h.0 h.1
    back_carries position depth course (RequestEnd request positions inputs) p h = h
    back_carries position depth course (FaultEnd fault) p h = tt

    resumed_carries : (position : Position) (depth : ℕ) (inputs : List Input) (r : Result Store Fault) → P position.text → OnStore (Holds Q) r → OnInputs P inputs → OnEnd (after_push go position depth inputs r).end
    resumed_carries position depth inputs (Ok s) p h i = carries position.text position.place depth s inputs p h i
    resumed_carries position depth inputs (Err fault) p h i = tt

    entered_carries : (position : Position) (depth : ℕ) (callee : Text) (inputs : List Input) (r : Result Store Fault) → P position.text → P callee → OnStore (Holds Q) r → OnInputs P inputs → OnEnd (enter_callee go position depth callee inputs r).end
    entered_carries position depth callee inputs (Ok s) p c h i =
        let course = go callee 0 (suc depth) s inputs in
        back_carries position depth course course.end p (carries callee 0 (suc depth) s inputs c h i)
    entered_carries position depth callee inputs (Err fault) p c h i = tt

    called_carries : (position : Position) (depth : ℕ) (callee : Text) (bytes : List ℕ) (s : Store) (inputs : List Input) → P position.text → P callee → Holds Q s → OnInputs P inputs → OnEnd (run_callee go setup position depth callee bytes s inputs).end
    called_carries position depth callee [] s inputs p c h i =
        carries position.text position.place depth (record s { last = Called }) inputs p (record { pieces = h.pieces; last = tt }) i
    called_carries position depth callee (byte ∷ bytes) s inputs p c h i =
        entered_carries position depth callee inputs _ p c (frame_holds Q setup depth s h) i

    used_carries : (position : Position) (depth : ℕ) (u : Use) (s : Store) (inputs : List Input) → P position.text → OnUse P u → Holds Q s → OnInputs P inputs → OnEnd (after_answer go setup position depth u s inputs).end
    used_carries position depth (PushesAnswer rest value) s inputs p u h i =
        resumed_carries position depth inputs _ p (value_holds Q setup value (record s { values = rest; last = Pushed }) (record { pieces = h.pieces; last = tt })) i
    used_carries position depth (Calls callee) s inputs p u h i = called_carries position depth callee callee.bytes s inputs p u h i
    used_carries position depth (FaultUse fault) s inputs p u h i = tt

    asked_carries : (position : Position) (depth : ℕ) (request : Request) (on_answer : OnAnswer) (s : Store) (inputs : List Input) → P position.text → OnRequest Q request → Holds Q s → OnInputs P inputs → OnEnd (await_answer go setup position depth request on_answer s inputs).end
    asked_carries position depth request on_answer s [] p r h i = r
    asked_carries position depth request on_answer s (input ∷ inputs) p r h i =
        cond_both (is_same_kind (kind_of_request request) (kind_of_answer input.answer)) _ _ (λ (c : Course). OnEnd c.end)
        (λ fits. used_carries position depth (use_of (address_bits setup) on_answer input.answer s.values) (with_input input s) inputs
        p (use_holds P input.answer (length s.values) _ (use_is (address_bits setup) on_answer input.answer s.values) i.0) (record { pieces = h.pieces; last = h.last }) i.1)
        (λ other. r)

    after_operation_carries : (text : Text) (depth place : ℕ) (inputs : List Input) (next : Next) → P text → OnNext Q next → OnInputs P inputs → OnEnd (after_operation go setup text depth place inputs next).end
    after_operation_carries text depth place inputs (Goes to s) p h i = carries text to depth s inputs p h i
    after_operation_carries text depth place inputs (RequestNext request on_answer s) p h i =
        asked_carries (record { text = text; place = place }) depth request on_answer s inputs p h.0 h.1 i
    after_operation_carries text depth place inputs (FaultNext fault) p h i = tt

    does_carries : (text : Text) (depth : ℕ) (s : Store) (inputs : List Input) (r : Result (Operation × List ℕ) Fault) → P text → OnRead Q r → Holds Q s → OnInputs P inputs → OnEnd (do_operation go setup text depth s inputs (counted_act setup s) r).end
    does_carries text depth s inputs (Ok x) p b h i =
        after_operation_carries text depth _ inputs _ p (done_holds Q setup _ _ _ s (act_holds Q x.0 _ (act_is (address_bits setup) s.settings.object_address x.0 s.values) b) h) i
    does_carries text depth s inputs (Err fault) p b h i = tt

    counts_carries : (text : Text) (place depth : ℕ) (s : Store) (inputs : List Input) → P text → Holds Q s → OnInputs P inputs → OnEnd (turn_counted go setup text place depth s inputs).end
    counts_carries text place depth s inputs p h i =
        cond_both (can_count s) _ _ (λ (c : Course). OnEnd c.end)
        (λ e. does_carries text depth (count_one s) inputs (read setup text place) p (reads text place p) (record { pieces = h.pieces; last = h.last }) i)
        (λ e. tt)

    held_carries : (text : Text) (depth : ℕ) (location : Location) (s : Store) (inputs : List Input) (r : Result (Operation × List ℕ) Fault) → P text → OnLocation Q location → Holds Q s → OnInputs P inputs → OnEnd (do_operation go setup text depth s inputs (located_act location s) r).end
    held_carries text depth location s inputs (Ok x) p l h i =
        after_operation_carries text depth _ inputs _ p (done_holds Q setup _ _ _ s (located_on Q location s _ x.0 l) h) i
    held_carries text depth location s inputs (Err fault) p l h i = tt

    by_carries : (text : Text) (place depth : ℕ) (s : Store) (inputs : List Input) (last : Last) → P text → OnLast Q last → Holds Q s → OnInputs P inputs → OnEnd (turn_by go setup text place depth s inputs last).end
    by_carries text place depth s inputs (Located location) p l h i = held_carries text depth location s inputs (read setup text place) p l h i
    by_carries text place depth s inputs _ p l h i = counts_carries text place depth s inputs p h i

    turn_carries : Carries (turn go setup)
    turn_carries text place depth s inputs p h i =
        cond_both (place == length text.bytes) _ _ (λ (c : Course). OnEnd c.end) (λ e. (h, i))
        (λ e. by_carries text place depth s inputs s.last p h.last h i)

  run_for_carries : (turns : ℕ) (setup : Setup) → Reads setup → Carries (run_for turns setup)
  unfolding run_for
  run_for_carries zero setup reads = turn_carries setup reads out_of_turns (λ text place depth s inputs p h i. tt)
  run_for_carries (suc turns) setup reads = turn_carries setup reads (run_for turns setup) (run_for_carries turns setup reads)

  -- ---- the end

  completed_holds : (value : Option Value) (r : Result Store Fault) → OnStore (Holds Q) r → OnOutcome Q (completion_of value r)
  completed_holds value (Ok s) h = h.pieces
  completed_holds value (Err fault) h = tt

  value_ends : (setup : Setup) (s : Store) → Holds Q s → OnOutcome Q (finish_value setup s)
  value_ends setup s h =
      top_both (OnOutcome Q) s.values _ _ tt
      (λ x rest e. completed_holds (Some x) _ (piece_holds Q setup _ (record s { values = rest }) (record { pieces = h.pieces; last = h.last }) tt))

  judged_ends : (setup : Setup) (s : Store) → Holds Q s → OnOutcome Q (finish_by setup s Plain)
  judged_ends setup s h = cond_both (has_pieces s.pieces) _ _ (OnOutcome Q) (λ e. tt) (λ e. value_ends setup s h)

  free_ends : (setup : Setup) (s : Store) → Holds Q s → OnOutcome Q (finish_by setup s Nothing)
  free_ends setup s h = cond_both (has_pieces s.pieces) _ _ (OnOutcome Q) (λ e. h.pieces) (λ e. value_ends setup s h)

  finish_holds : (setup : Setup) (s : Store) (last : Last) → Holds Q s → OnLast Q last → OnOutcome Q (finish_by setup s last)
  finish_holds setup s (Located location) h l =
      cond_both (has_pieces s.pieces) _ _ (OnOutcome Q) (λ e. tt) (λ e. completed_holds None _ (piece_holds Q setup (whole_piece location) s h l))
  finish_holds setup s Plain h l = judged_ends setup s h
  finish_holds setup s Pushed h l = judged_ends setup s h
  finish_holds setup s _ h l = free_ends setup s h

  ends_holds : (setup : Setup) (end : End) → OnEnd end → OnOutcome Q (outcome_of_end setup end)
  ends_holds setup (CompleteEnd s inputs) h = finish_holds setup s s.last h.0 h.0.last
  ends_holds setup (RequestEnd request positions inputs) h = h
  ends_holds setup (FaultEnd fault) h = tt

  begins : (setup : Setup) (first : First) (refusal : Refusal) (initial : Option ℕ) → OnStore (Holds Q) (with_initial setup initial (fresh_store first refusal))
  begins setup first refusal None = record { pieces = tt; last = tt }
  begins setup first refusal (Some number) = value_holds Q setup (Generic number) (fresh_store first refusal) (record { pieces = tt; last = tt })

  pub meaning_holds : (setup : Setup) (refusal : Refusal) (text : Text) (first : First) (inputs : List Input) → Reads setup → P text → OnInputs P inputs → OnOutcome Q (meaning setup refusal text first inputs)
  unfolding meaning
  meaning_holds setup refusal text first inputs reads p i =
      ends_holds setup _
      (resumed_carries setup reads (run_for enough_turns setup) (run_for_carries enough_turns setup reads) (record { text = text; place = 0 }) 0 inputs _ p
      (begins setup first refusal first.initial_value) i)
