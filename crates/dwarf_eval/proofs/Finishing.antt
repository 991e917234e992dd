-- The end of a run.
use Rattle.std.proofs.Common.{ℕ, suc, ◌≡◌, ◌+◌, ◌≤◌, ◌==◌, true, false, List, [], ◌∷◌, length, Option, Some, None, arith, ap, ◌∙◌, sym, refl, subst, cond}
use Rattle.std.proofs.lemmas.Bool.{cond-true, cond-false}
use Rattle.std.proofs.lemmas.Bool.Decides.{nat_tests}
use Rattle.std.proofs.lemmas.List.{length-append}
use Rattle.dwarf_base.specs.declared.errors.Error.{Error}
use Rattle.dwarf_base.specs.declared.errors.Error.TheVariants as error
use Rattle.dwarf_base.specs.Faults.{fault_of}
use Rattle.dwarf_base.specs.declared.errors.Error.TheVariants.{NotEnoughStackItems}
use Rattle.dwarf_value.specs.declared.types.Value.{Value}
use Rattle.dwarf_value.specs.Values.{to_u64_of}
use Rattle.dwarf_meaning.specs.Locations.{AtAddress, Piece}
use Rattle.dwarf_meaning.specs.Requests.{Input}
use Rattle.dwarf_meaning.specs.RunLaws.{waits_of}
use Rattle.dwarf_meaning.specs.Stores.{Setup, address_bits, Store, Last, Located, push_piece}
use Rattle.dwarf_meaning.specs.Run.{Position, CompleteEnd, only_end, turn_by, run}
use Rattle.dwarf_meaning.specs.Meaning.{Outcome, FaultOutcome, CompleteOutcome, completion_of, has_pieces, whole_piece, finish_value, finish_by, finish}
use Rattle.dwarf_meaning.specs.Rest.{State, Status, Running, CompleteStatus, FaultStatus, with_refusal, total_of_course}
use Rattle.dwarf_meaning.specs.Refusals.{Refusal, Never}
use Rattle.dwarf_meaning.proofs.Choices.{top_none, top_some}
use Rattle.dwarf_meaning.proofs.Turns.{run_turn}
use Rattle.dwarf_meaning.specs.Bounds.{endings}
use Rattle.dwarf_meaning.specs.Inputs.{with_status}
use Rattle.dwarf_eval.specs.inner.StateChanges.{ChangesStoreBy, Stays, Pops, TriesToPop, total, ComesToStateBy, GoesBack, ClosesBy, Closes, has_location, Turns, with_store, with_values, before_pushes}
use Rattle.dwarf_eval.proofs.Reaching.{may_along}
use Rattle.dwarf_eval.proofs.Loads.{EndsAlike, finish_alike, piece_stored}
use Rattle.dwarf_eval.proofs.Spending.{nears_by, back_spends, over_spends}
use Rattle.dwarf_eval.proofs.Staying.{fewer_one, keeps_more, stays_here, stays_low, stays_more, stays_then}
use Rattle.dwarf_eval.proofs.Totals.{closed, total_running, total_complete, course_ended}
use Rattle.dwarf_eval.proofs.Turning.{effort_running, less_stopped, falls_from, reads_none}

-- if both are alike, one closes as the other
module _ (f g : Store → Outcome) (m n : ℕ) (old low new : State) (fits : length low.store.values + length low.store.pieces + m ≤ length old.store.values + length old.store.pieces + n) (fewer : Stays 0 old low) (is : (r : Refusal) → g (with_refusal r old.store) ≡ f (with_refusal r low.store)) (alone : (s : Store) (status : Status) → with_store s (with_status status low) ≡ with_store s (with_status status old)) where
  finished_as : (status : Status) → ClosesBy m f low new status → ClosesBy n g old new status
  finished_as (CompleteStatus value) h = record {
    steps = record { pushes = h.steps.pushes; same = λ r. is (before_pushes h.steps.pushes r) ∙ h.steps.same r };
    alone = h.alone ∙ alone new.store (CompleteStatus value);
    kept = keeps_more old low new fewer.kept h.kept;
    count = h.count ∙ fewer.count;
    items = omega (arith, h.items, fits);
  }
  finished_as (FaultStatus error) h = record {
    gets = record { refusal = h.gets.refusal; may = may_along old low h.gets.refusal fewer.kept h.gets.may; same = is h.gets.refusal ∙ h.gets.same };
    stays = stays_more 0 0 old low new fewer h.stays;
  }
  finished_as Running h = absurd h
  finished_as _ h = absurd h

  pub closes_as : Closes m f low new → Closes n g old new
  closes_as h = finished_as new.status h

-- a last piece, and then the end
pub completes_ok : (value : Option Value) (piece : Piece) (old mid new : State) → ChangesStoreBy (push_piece old.setup piece) old mid → new ≡ with_status (CompleteStatus value) mid → Closes 1 (λ s. completion_of value (push_piece old.setup piece s)) old new
completes_ok value piece old mid new d e =
    let stored = piece_stored old.setup piece old.store mid.store d.steps in
    let values = ap (λ (z : State). length z.store.values) e ∙ ap (λ (s : Store). length s.values) stored in
    let pieces = ap (λ (z : State). length z.store.pieces) e ∙ (ap (λ (s : Store). length s.pieces) stored ∙ length-append old.store.pieces (piece ∷ [])) in
    subst (ClosesBy 1 (λ s. completion_of value (push_piece old.setup piece s)) old new) (sym (ap (λ (z : State). z.status) e)) (record {
      steps = record {
        pushes = d.steps.pushes;
        same = λ r. ap (completion_of value) (d.steps.same r) ∙ ap (λ (z : State). CompleteOutcome z.store.pieces value) (sym e);
      };
      alone = e ∙ (ap (with_status (CompleteStatus value)) d.alone ∙ ap (λ (z : State). with_store z.store (with_status (CompleteStatus value) old)) (sym e));
      kept = record { setup = ap (λ (z : State). z.setup) e ∙ ap (λ (z : State). z.setup) d.alone; settings = ap (λ (z : State). z.store.settings) e ∙ ap (λ (s : Store). s.settings) stored };
      count = ap (λ (z : State). z.store.count) e ∙ ap (λ (s : Store). s.count) stored;
      items = omega (arith, values, pieces);
    })

-- by whether there are pieces
pub closes_else : (more : ℕ) (f g : Store → Outcome) (old new : State) → has_pieces old.store.pieces ≡ false → Closes more g old new → Closes more (λ s. cond (has_pieces s.pieces) (f s) (g s)) old new
closes_else more f g old new e h =
    closes_as g (λ s. cond (has_pieces s.pieces) (f s) (g s)) more more old old new (omega arith) (stays_here old) (λ r. cond-false (has_pieces old.store.pieces) (f (with_refusal r old.store)) (g (with_refusal r old.store)) e) (λ s status. refl) h

-- a fault that ends the run
ends_in : (more : ℕ) (f : Store → Outcome) (error : Error) (old mid new : State) → Stays 0 old mid → new ≡ with_status (FaultStatus error) mid → f (with_refusal Never old.store) ≡ FaultOutcome (fault_of error) → Closes more f old new
ends_in more f error old mid new stays is e =
    subst (ClosesBy more f old new) (sym (ap (λ (z : State). z.status) is)) (record {
      gets = record { refusal = Never; may = tt; same = e };
      stays = stays_then (FaultStatus error) old mid new stays is;
    })

-- the end, by the last operation
pub finish_as : (last : Last) (old new : State) → old.store.last ≡ last → Closes (waits_of last) (λ s. finish_by old.setup s last) old new → Closes (waits_of old.store.last) (finish old.setup) old new
finish_as last old new e h =
    let more = waits_of old.store.last in
    closes_as (λ s. finish_by old.setup s old.store.last) (finish old.setup) more more old old new (omega arith) (stays_here old) (λ r. refl) (λ s status. refl)
    (subst (λ (l : Last). Closes (waits_of l) (λ s. finish_by old.setup s l) old new) (sym e) h)

-- with the value on top, without pieces, if no location waits
pub finish_plain : (last : Last) (old new : State) → old.store.last ≡ last → has_location last ≡ false → has_pieces old.store.pieces ≡ false → Closes 0 (finish_value old.setup) old new → Closes (waits_of old.store.last) (finish old.setup) old new
finish_plain (Located location) old new e free none h = cc
finish_plain last old new e free none h = finish_as last old new e (closes_else 0 _ (finish_value old.setup) old new none h)

-- the value on top is the result
abbrev pub top_done : Setup → Store → Value → List Value → Outcome
top_done setup s x rest = completion_of (Some x) (push_piece setup (whole_piece (AtAddress (to_u64_of (address_bits setup) x))) (record s { values = rest }))

pub value_closes : (x : Value) (old low new : State) → Pops (Some x) old low → Closes 1 (λ s. completion_of (Some x) (push_piece low.setup (whole_piece (AtAddress (to_u64_of (address_bits low.setup) x))) s)) low new → Closes 0 (finish_value old.setup) old new
value_closes x old low new h t =
    let rest = h.0 in
    let there = subst (λ (z : State). Closes 1 (λ s. completion_of (Some x) (push_piece z.setup (whole_piece (AtAddress (to_u64_of (address_bits z.setup) x))) s)) z new) h.2 t in
    let values = ap length h.1 in
    closes_as (λ s. completion_of (Some x) (push_piece old.setup (whole_piece (AtAddress (to_u64_of (address_bits old.setup) x))) s)) (finish_value old.setup) 1 0 old (with_values rest old) new (omega (arith, values)) (stays_low rest old.store.last old (with_values rest old) (fewer_one x rest old.store.values h.1) refl)
    (λ r. top_some old.store.values (FaultOutcome NotEnoughStackItems) (top_done old.setup (with_refusal r old.store)) x rest h.1) (λ s status. refl) there

pub value_none : (old new : State) → TriesToPop None old new → Closes 0 (finish_value old.setup) old new
value_none old new h =
    ends_in 0 (finish_value old.setup) error.NotEnoughStackItems old old new (stays_here old) h.1
    (top_none old.store.values (FaultOutcome NotEnoughStackItems) (top_done old.setup (with_refusal Never old.store)) h.0)

-- ---- the end of a text

module _ (x : State) (runs : x.status ≡ Running) (end : x.place ≡ length x.text.bytes) where
  end_total : (r : Refusal) (inputs : List Input) → total x r inputs ≡ total_of_course x.store.count x.setup x.callers (only_end (CompleteEnd (with_refusal r x.store) inputs))
  end_total r inputs =
      let s : Store = with_refusal r x.store in
      let at_end : (x.place == length x.text.bytes) ≡ true = grind (arith, nat_tests, end) in
      total_running r x inputs runs
      ∙ ap (total_of_course x.store.count x.setup x.callers)
      (run_turn x.setup x.text x.place (length x.callers) s inputs
      ∙ cond-true (x.place == length x.text.bytes) (only_end (CompleteEnd s inputs)) (turn_by (run x.setup) x.setup x.text x.place (length x.callers) s inputs s.last) at_end)

  pub back_turned : (new : State) → GoesBack true x new → Turns x new
  back_turned new h =
      let back : State = record x { text = h.0.text; place = h.0.place; callers = h.1 } in
      let was = effort_running x runs in
      let is = effort_running back runs in
      let callers : length x.callers ≡ suc (length h.1) = ap length h.2 in
      subst (Turns x) (sym h.3) (record {
        comes = subst (ComesToStateBy x (total x) back) (sym runs) (record {
          pushes = 0;
          same = λ r inputs.
              end_total r inputs
              ∙ (ap (λ (fs : List Position). total_of_course x.store.count x.setup fs (only_end (CompleteEnd (with_refusal r x.store) inputs))) h.2
              ∙ sym (total_running r back inputs runs));
          kept = record { setup = refl; settings = refl };
          spends = back_spends x back runs runs callers refl refl;
          nears = nears_by x back Running Running runs runs (omega arith);
        });
        less = omega (arith, was, is, callers);
      })

  -- the outcome of the end of the outermost text
  outer_total : (r : Refusal) (inputs : List Input) (outcome : Outcome) → x.callers ≡ [] → finish x.setup (with_refusal r x.store) ≡ outcome → total x r inputs ≡ closed outcome x.store.count
  outer_total r inputs outcome none e =
      end_total r inputs
      ∙ (ap (λ (fs : List Position). total_of_course x.store.count x.setup fs (only_end (CompleteEnd (with_refusal r x.store) inputs))) none
      ∙ course_ended x.store.count x.setup (with_refusal r x.store) inputs outcome e)

  finish_turned : (new : State) (status : Status) → x.callers ≡ [] → new.status ≡ status → ClosesBy (waits_of x.store.last) (finish x.setup) x new status → Turns x new
  finish_turned new (CompleteStatus value) none e h = record {
    comes = subst (ComesToStateBy x (total x) new) (sym e) (record {
      pushes = h.steps.pushes;
      same = λ r inputs.
          outer_total (before_pushes h.steps.pushes r) inputs (CompleteOutcome new.store.pieces value) none (h.steps.same r)
          ∙ (ap (closed (CompleteOutcome new.store.pieces value)) (sym h.count)
          ∙ sym (total_complete r new inputs value e));
      kept = h.kept;
      spends = over_spends x new value runs e (ap (λ (z : State). length z.callers) h.alone) h.count (ap (λ (z : State). z.decodings) h.alone) h.items
          (subst (EndsAlike (endings x.store.pieces)) (h.steps.same Never) (finish_alike x.setup (with_refusal (before_pushes h.steps.pushes Never) x.store)));
      nears = nears_by x new Running (CompleteStatus value) runs e (omega arith);
    });
    less = less_stopped x new (CompleteStatus value) runs e refl;
  }
  finish_turned new (FaultStatus error) none e h =
      falls_from x x new error h.gets.refusal runs e h.gets.may (λ inputs. outer_total h.gets.refusal inputs (FaultOutcome (fault_of error)) none h.gets.same) (reads_none x) h.stays
  finish_turned new _ none e h = absurd h

  pub finish_turns : (new : State) → x.callers ≡ [] → Closes (waits_of x.store.last) (finish x.setup) x new → Turns x new
  finish_turns new none h = finish_turned new new.status none refl h

-- with a piece that stands for this one
pub closes_with : (value : Option Value) (piece same : Piece) (old new : State) → piece ≡ same → Closes 1 (λ s. completion_of value (push_piece old.setup piece s)) old new → Closes 1 (λ s. completion_of value (push_piece old.setup same s)) old new
closes_with value piece same old new e h = subst (λ (p : Piece). Closes 1 (λ s. completion_of value (push_piece old.setup p s)) old new) e h
