-- A location that waits for its piece.
use Rattle.std.proofs.Common.{ℕ, ◌≡◌, ◌+◌, ◌-◌, ◌<◌, Bool, true, false, cond, List, [], ◌∷◌, ◌++◌, length, Result, Ok, Err, Option, arith, ap, ◌∙◌, sym, refl, subst}
use Rattle.std.proofs.lemmas.List.{length-append}
use Rattle.dwarf_base.specs.declared.errors.Error.{Error}
use Rattle.dwarf_base.specs.declared.errors.Error.TheVariants as error
use Rattle.dwarf_base.specs.Faults.{Fault, fault_of}
use Rattle.dwarf_base.specs.declared.errors.Error.TheVariants.{InvalidExpressionTerminator}
use Rattle.dwarf_meaning.specs.Acts.{Act, EndsPiece, FaultAct}
use Rattle.dwarf_meaning.specs.Operations as operation
use Rattle.dwarf_meaning.specs.Operations.{Operation}
use Rattle.dwarf_meaning.specs.Locations.{Location, Piece, sized_piece}
use Rattle.dwarf_meaning.specs.Requests.{Input}
use Rattle.dwarf_meaning.specs.RunLaws.{waits_of}
use Rattle.dwarf_meaning.specs.Stores.{Store, Last, Pieced, Located, push_piece, Next, Goes, FaultNext, next_at, do_act}
use Rattle.dwarf_meaning.specs.Run.{after_operation, do_operation, located_act, read, run, turn_by}
use Rattle.dwarf_meaning.specs.Meaning.{FaultOutcome}
use Rattle.dwarf_meaning.specs.Rest.{State, Running, FaultStatus, with_refusal, total_of_course}
use Rattle.dwarf_meaning.specs.Refusals.{Refusal, Never}
use Rattle.dwarf_meaning.specs.Bounds.{is_given, endings}
use Rattle.dwarf_meaning.specs.Inputs.{with_status}
use Rattle.dwarf_eval.specs.inner.StateChanges.{ChangesStoreBy, Refused, TriesChange, ReadsOperation, EndsLocated, total, ComesToStateBy, Turns, read_to, with_last, before_pushes}
use Rattle.dwarf_eval.proofs.Loads.{endings_more, piece_due, kept_in, piece_stored}
use Rattle.dwarf_eval.proofs.Spending.{nears_by, held_spends}
use Rattle.dwarf_eval.proofs.Staying.{stays_status}
use Rattle.dwarf_eval.proofs.Totals.{closed, going, total_running, course_failed}
use Rattle.dwarf_eval.proofs.Turning.{ReadsOn, total_inside, effort_running, falls_from}

module _ (x : State) (location : Location) (runs : x.status ≡ Running) (inside : x.place < length x.text.bytes) (waits : x.store.last ≡ Located location) where
  held_total : (r : Refusal) (inputs : List Input) (z : Result (Operation × List ℕ) Fault) → read x.setup x.text x.place ≡ z → total x r inputs ≡ total_of_course x.store.count x.setup x.callers (do_operation (run x.setup) x.setup x.text (length x.callers) (with_refusal r x.store) inputs (located_act location x.store) z)
  held_total r inputs z e =
      let s : Store = with_refusal r x.store in
      total_inside x r inputs runs inside
      ∙ (ap (λ (last : Last). total_of_course x.store.count x.setup x.callers (turn_by (run x.setup) x.setup x.text x.place (length x.callers) s inputs last)) waits
      ∙ ap (λ (y : Result (Operation × List ℕ) Fault). total_of_course x.store.count x.setup x.callers (do_operation (run x.setup) x.setup x.text (length x.callers) s inputs (located_act location x.store) y)) e)

  waited : waits_of x.store.last ≡ 1
  waited = ap waits_of waits

  due : piece_due x.store.last x.status ≡ 1
  due = ap (piece_due x.store.last) runs ∙ ap (λ (l : Last). piece_due l Running) waits

  reads_piece : (place : ℕ) (last : Last) → ReadsOn x (with_last last (read_to place x))
  reads_piece place last = record { setup = refl; settings = refl; callers = refl; items = refl; pieces = refl; count = omega arith; decodings = omega (arith, due); each = omega arith; one = omega arith }

  -- a fault of what was read: nothing is counted
  module _ (place : ℕ) (new : State) (error : Error) (is : new ≡ with_status (FaultStatus error) (read_to place x)) where
    read_falls : ((inputs : List Input) → total x Never inputs ≡ closed (FaultOutcome (fault_of error)) x.store.count) → Turns x new
    read_falls same =
        falls_from x (read_to place x) new error Never runs (ap (λ (z : State). z.status) is) tt same (reads_piece place x.store.last)
        (stays_status (FaultStatus error) (read_to place x) new is)

    pub held_unread : read x.setup x.text x.place ≡ Err (fault_of error) → Turns x new
    held_unread e = read_falls (λ inputs. held_total Never inputs (Err (fault_of error)) e ∙ course_failed x.store.count x.setup x.callers (fault_of error))

  module _ (op : Operation) (beyond : List ℕ) (was : read x.setup x.text x.place ≡ Ok (op, beyond)) where
    abbrev place_then : ℕ
    place_then = length x.text.bytes - length beyond

    abbrev acted : Act
    acted = located_act location x.store place_then op

    held_after_operation : (r : Refusal) (inputs : List Input) (a : Act) (next : Next) → acted ≡ a → do_act x.setup place_then (length x.text.bytes) a (with_refusal r x.store) ≡ next → total x r inputs ≡ total_of_course x.store.count x.setup x.callers (after_operation (run x.setup) x.setup x.text (length x.callers) place_then inputs next)
    held_after_operation r inputs a next e f =
        held_total r inputs (Ok (op, beyond)) was
        ∙ (ap (λ (b : Act). total_of_course x.store.count x.setup x.callers (after_operation (run x.setup) x.setup x.text (length x.callers) place_then inputs (do_act x.setup place_then (length x.text.bytes) b (with_refusal r x.store)))) e
        ∙ ap (λ (n : Next). total_of_course x.store.count x.setup x.callers (after_operation (run x.setup) x.setup x.text (length x.callers) place_then inputs n)) f)

    held_other : (new : State) → acted ≡ FaultAct (InvalidExpressionTerminator (place_then - 1)) → new ≡ with_status (FaultStatus (error.InvalidExpressionTerminator (place_then - 1))) (read_to place_then x) → Turns x new
    held_other new none is =
        read_falls place_then new (error.InvalidExpressionTerminator (place_then - 1)) is
        (λ inputs. held_after_operation Never inputs _ (FaultNext (InvalidExpressionTerminator (place_then - 1))) none refl ∙ course_failed x.store.count x.setup x.callers (InvalidExpressionTerminator (place_then - 1)))

    module _ (size_in_bits : ℕ) (bit_offset : Option ℕ) (some : acted ≡ EndsPiece x.store.values (sized_piece size_in_bits bit_offset location)) where
      abbrev piece : Piece
      piece = sized_piece size_in_bits bit_offset location

      abbrev mid : State
      mid = with_last Pieced (read_to place_then x)

      piece_turned : (new : State) → ChangesStoreBy (push_piece x.setup piece) mid new → Turns x new
      piece_turned new d =
          let still : new.status ≡ Running = ap (λ (z : State). z.status) d.alone ∙ runs in
          let stored = piece_stored x.setup piece mid.store new.store d.steps in
          let count : new.store.count ≡ x.store.count = ap (λ (s : Store). s.count) stored in
          let pieced : new.store.last ≡ Pieced = ap (λ (s : Store). s.last) stored in
          let last : waits_of new.store.last ≡ 0 = ap waits_of pieced in
          let callers : length new.callers ≡ length x.callers = ap (λ (z : State). length z.callers) d.alone in
          let values = ap (λ (s : Store). length s.values) stored in
          let pieces : new.store.pieces ≡ x.store.pieces ++ piece ∷ [] = ap (λ (s : Store). s.pieces) stored in
          let longer = ap length pieces ∙ length-append x.store.pieces (piece ∷ []) in
          let kept : kept_in new.store ≡ kept_in x.store = omega (arith, values, longer, last, waited) in
          let more : endings new.store.pieces ≡ endings x.store.pieces + cond (is_given location) 1 0 = ap endings pieces ∙ endings_more x.store.pieces piece in
          let was = effort_running x runs in
          let is = effort_running new still in
          record {
            comes = subst (ComesToStateBy x (total x) new) (sym still) (record {
              pushes = d.steps.pushes;
              same = λ r inputs.
                  held_after_operation (before_pushes d.steps.pushes r) inputs _ (Goes place_then (with_refusal r new.store)) some (ap (next_at place_then) (d.steps.same r))
                  ∙ (ap (λ (n : ℕ). going (record mid { store = record mid.store { count = n } }) (with_refusal r new.store) inputs) (sym count)
                  ∙ sym (total_running r new inputs still ∙ ap (λ (z : State). going z (with_refusal r new.store) inputs) d.alone));
              kept = record { setup = ap (λ (z : State). z.setup) d.alone; settings = ap (λ (s : Store). s.settings) stored };
              spends = held_spends x new location runs still callers count (ap (λ (z : State). z.decodings) d.alone) waits pieced kept more;
              nears = nears_by x new Running Running runs still (omega (arith, count));
            });
            less = omega (arith, was, is, callers, count, last, waited);
          }

      piece_falls : (new : State) → Refused 0 (push_piece x.setup piece) mid new → Turns x new
      piece_falls new h =
          falls_from x mid new h.error h.gets.refusal runs h.failed h.gets.may
          (λ inputs.
          held_after_operation h.gets.refusal inputs _ (FaultNext (fault_of h.error)) some (ap (next_at place_then) h.gets.same)
          ∙ course_failed x.store.count x.setup x.callers (fault_of h.error))
          (reads_piece place_then Pieced) h.stays

      piece_turns : (new : State) (done : Bool) → TriesChange 0 (push_piece x.setup piece) mid new done → Turns x new
      piece_turns new true h = piece_turned new h
      piece_turns new false h = piece_falls new h

-- ---- as the machine does it

module _ (x : State) (location : Location) (runs : x.status ≡ Running) (inside : x.place < length x.text.bytes) (waits : x.store.last ≡ Located location) (beyond new : State) where
  pub hold_unread : (error : Error) → read x.setup x.text x.place ≡ Err (fault_of error) → beyond ≡ read_to beyond.place x → new ≡ with_status (FaultStatus error) beyond → Turns x new
  hold_unread error was moved is = held_unread x location runs inside waits beyond.place new error (is ∙ ap (with_status (FaultStatus error)) moved) was

  hold_read : (op : Operation) (left : List ℕ) → read x.setup x.text x.place ≡ Ok (op, left) → EndsLocated location op (read_to (length x.text.bytes - length left) x) new → Turns x new
  hold_read (operation.Piece size_in_bits bit_offset) left was h = piece_turns x location runs inside waits (operation.Piece size_in_bits bit_offset) left was size_in_bits bit_offset refl new h.0 h.1
  hold_read op left was h = held_other x location runs inside waits op left was new refl h

  pub hold_turns : (op : Operation) → ReadsOperation op x beyond → EndsLocated location op beyond new → Turns x new
  hold_turns op r h = hold_read op r.beyond r.was (subst (λ (z : State). EndsLocated location op z new) r.moved h)
