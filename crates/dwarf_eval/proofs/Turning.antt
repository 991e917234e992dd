-- One operation that is counted is one turn of the nested run.
use Rattle.std.proofs.Common.{[], ◌∷◌, ℕ, ◌≡◌, ◌+◌, ◌-◌, ◌*◌, ◌<◌, ◌≤◌, true, false, List, length, Result, Ok, Err, arith, ap, ◌∙◌, sym, refl, subst, ◌==◌}
use Rattle.std.proofs.lemmas.Bool.{cond-true, cond-false}
use Rattle.std.proofs.lemmas.Bool.Decides.{nat_tests}
use Rattle.dwarf_base.specs.declared.errors.Error.{Error}
use Rattle.dwarf_base.specs.declared.errors.Error.TheVariants as error
use Rattle.dwarf_base.specs.Faults.{Fault, fault_of}
use Rattle.dwarf_base.specs.declared.errors.Error.TheVariants.{TooManyIterations}
use Rattle.dwarf_base.specs.Reads.{Text}
use Rattle.dwarf_meaning.specs.Operations.{Operation}
use Rattle.dwarf_meaning.specs.Requests.{Request, OnAnswer, Input}
use Rattle.dwarf_meaning.specs.RunLaws.{waits_of}
use Rattle.dwarf_meaning.specs.Stores.{Setup, address_bits, Store, Last, Located, Next, Goes, RequestNext, FaultNext}
use Rattle.dwarf_meaning.specs.Run.{Position, CompleteEnd, FaultEnd, Course, only_end, prepend, read, most_operations, can_count, count_one, counted_act, do_operation, turn_counted, after_operation, await_answer, turn_by, run}
use Rattle.dwarf_meaning.specs.Meaning.{FaultOutcome}
use Rattle.dwarf_meaning.specs.Rest.{State, Status, Running, RequestStatus, FaultStatus, with_refusal, total_of_course}
use Rattle.dwarf_meaning.specs.Refusals.{Refusal, Never, MayPick}
use Rattle.dwarf_meaning.proofs.Counts.{HasTally, OnNext, Tally, tally_of, tally-done}
use Rattle.dwarf_meaning.proofs.Effects.{act_is}
use Rattle.dwarf_meaning.proofs.Turns.{run_turn, below_most, waits_little}
use Rattle.dwarf_meaning.specs.Bounds.{endings, faults_in}
use Rattle.dwarf_meaning.specs.Inputs.{Keeps, with_status}
use Rattle.dwarf_eval.specs.inner.StateChanges.{Stays, total, CountsOne, ReadsOperation, act_of, do_act_at, LeadsToPlace, LeadsToRequest, LeadsToFault, LeadsBy, Performs, read_to, with_store, ComesToStateBy, has_location, Turns, effort, effort_by, before_pushes}
use Rattle.dwarf_eval.proofs.Loads.{EndsNoMore, done_ends, free_given, piece_due, request_waits, IsLighter, kept_in, done_lighter}
use Rattle.dwarf_eval.proofs.Spending.{nears_by, counted_spends, fallen_spends}
use Rattle.dwarf_eval.proofs.Staying.{stays_status}
use Rattle.dwarf_eval.proofs.Totals.{closed, going, waiting_total, total_running, total_waits, course_failed, course_counted, course_asked}

-- ---- what there is still to do

pub effort_running : (x : State) → x.status ≡ Running → effort x ≡ 3 * (most_operations - x.store.count) + length x.callers + waits_of x.store.last + 1
effort_running x e = ap (effort_by x) e

pub less_stopped : (x new : State) (status : Status) → x.status ≡ Running → new.status ≡ status → effort_by new status ≡ 0 → effort new < effort x
less_stopped x new status runs e none =
    let was = effort_running x runs in
    let is : effort new ≡ 0 = ap (effort_by new) e ∙ none in
    omega (arith, was, is)

less_counted : (x new : State) → x.status ≡ Running → new.status ≡ Running → can_count x.store ≡ true → new.callers ≡ x.callers → new.store.count ≡ x.store.count + 1 → effort new < effort x
less_counted x new runs still can callers count =
    let was = effort_running x runs in
    let is = effort_running new still in
    let below = below_most x.store can in
    let same : length new.callers ≡ length x.callers = ap length callers in
    omega (arith, was, is, below, same, count, waits_little new.store.last)

-- ---- the turn

free_turn : (setup : Setup) (text : Text) (place depth : ℕ) (s : Store) (inputs : List Input) (last : Last) → has_location last ≡ false → turn_by (run setup) setup text place depth s inputs last ≡ turn_counted (run setup) setup text place depth s inputs
free_turn setup text place depth s inputs (Located location) h = cc
free_turn setup text place depth s inputs _ h = refl

-- what is left inside a text, by its next turn
pub total_inside : (x : State) (r : Refusal) (inputs : List Input) → x.status ≡ Running → x.place < length x.text.bytes → total x r inputs ≡ total_of_course x.store.count x.setup x.callers (turn_by (run x.setup) x.setup x.text x.place (length x.callers) (with_refusal r x.store) inputs x.store.last)
total_inside x r inputs runs inside =
    let s : Store = with_refusal r x.store in
    let before_end : (x.place == length x.text.bytes) ≡ false = grind (arith, nat_tests, inside) in
    total_running r x inputs runs
    ∙ ap (total_of_course x.store.count x.setup x.callers)
    (run_turn x.setup x.text x.place (length x.callers) s inputs
    ∙ cond-false (x.place == length x.text.bytes) (only_end (CompleteEnd s inputs)) (turn_by (run x.setup) x.setup x.text x.place (length x.callers) s inputs s.last) before_end)

-- From the beginning of a turn to where a fault is met: the lists stay, and each operation that was counted was decoded,
-- and one more at most.
pub record ReadsOn (x y : State) : Type 0 where
  pub setup : y.setup ≡ x.setup
  pub settings : y.store.settings ≡ x.store.settings
  pub callers : length y.callers ≡ length x.callers
  pub items : length y.store.values + length y.store.pieces ≡ length x.store.values + length x.store.pieces
  pub pieces : y.store.pieces ≡ x.store.pieces
  pub count : x.store.count ≤ y.store.count
  pub decodings : y.decodings + 2 * x.store.count ≤ x.decodings + piece_due x.store.last x.status + 2 * y.store.count
  pub each : x.decodings + y.store.count ≤ y.decodings + x.store.count
  pub one : y.decodings + x.store.count ≤ x.decodings + y.store.count + 1

-- a turn that met a fault, and nothing else was done
pub falls_from : (x y new : State) (error : Error) (refusal : Refusal) → x.status ≡ Running → new.status ≡ FaultStatus error → MayPick x.setup.limits refusal → ((inputs : List Input) → total x refusal inputs ≡ closed (FaultOutcome (fault_of error)) y.store.count) → ReadsOn x y → Stays 0 y new → Turns x new
falls_from x y new error refusal runs failed may same reads stays =
    record {
      comes = subst (ComesToStateBy x (total x) new) (sym failed) (record {
        refusal = refusal;
        may = may;
        same = λ inputs. same inputs ∙ ap (closed (FaultOutcome (fault_of error))) (sym stays.count);
        kept = record { setup = stays.kept.setup ∙ reads.setup; settings = stays.kept.settings ∙ reads.settings };
        spends = fallen_spends x new error (ap faults_in runs) failed (omega (arith, reads.callers, stays.callers)) (omega (arith, reads.count, stays.count)) (omega (arith, reads.items, stays.items)) (omega (arith, reads.decodings, stays.decodings, stays.count)) (stays.pieces ∙ reads.pieces) (omega (arith, reads.each, stays.decodings, stays.count)) (omega (arith, reads.one, stays.decodings, stays.count));
      });
      less = less_stopped x new (FaultStatus error) runs failed refl;
    }

-- nothing was done
pub reads_none : (x : State) → ReadsOn x x
reads_none x = record { setup = refl; settings = refl; callers = refl; items = refl; pieces = refl; count = omega arith; decodings = omega arith; each = omega arith; one = omega arith }

-- if the operation was read
abbrev pub beyond_op : State → ℕ → State
beyond_op x place = read_to place (with_store (count_one x.store) x)

counts_and_reads : (x : State) (place : ℕ) → ReadsOn x (beyond_op x place)
counts_and_reads x place = record { setup = refl; settings = refl; callers = refl; items = refl; pieces = refl; count = omega arith; decodings = omega arith; each = omega arith; one = omega arith }

-- the next operation is there, and will be counted
pub record IsReady (x : State) : Type 0 where
  pub runs : x.status ≡ Running
  pub inside : x.place < length x.text.bytes
  pub free : has_location x.store.last ≡ false

module _ (x : State) (ready : IsReady x) where
  ready_total : (r : Refusal) (inputs : List Input) → total x r inputs ≡ total_of_course x.store.count x.setup x.callers (turn_counted (run x.setup) x.setup x.text x.place (length x.callers) (with_refusal r x.store) inputs)
  ready_total r inputs =
      total_inside x r inputs ready.runs ready.inside
      ∙ ap (total_of_course x.store.count x.setup x.callers) (free_turn x.setup x.text x.place (length x.callers) (with_refusal r x.store) inputs x.store.last ready.free)

  pub ready_none : (new : State) → CountsOne x new false → Turns x new
  ready_none new h =
      falls_from x x new error.TooManyIterations Never ready.runs (ap (λ (z : State). z.status) h.1) tt
      (λ inputs.
      ready_total Never inputs
      ∙ (ap (total_of_course x.store.count x.setup x.callers) (cond-false (can_count x.store) _ (only_end (FaultEnd TooManyIterations)) h.0)
      ∙ course_failed x.store.count x.setup x.callers TooManyIterations))
      (reads_none x)
      (stays_status (FaultStatus error.TooManyIterations) x new h.1)

  module _ (can : can_count x.store ≡ true) where
    ready_read : (r : Refusal) (inputs : List Input) (z : Result (Operation × List ℕ) Fault) → read x.setup x.text x.place ≡ z → total x r inputs ≡ total_of_course (x.store.count + 1) x.setup x.callers (do_operation (run x.setup) x.setup x.text (length x.callers) (count_one (with_refusal r x.store)) inputs (counted_act x.setup x.store) z)
    ready_read r inputs z e =
        let position : Position = record { text = x.text; place = x.place } in
        let course : Course = do_operation (run x.setup) x.setup x.text (length x.callers) (count_one (with_refusal r x.store)) inputs (counted_act x.setup x.store) (read x.setup x.text x.place) in
        ready_total r inputs
        ∙ (ap (total_of_course x.store.count x.setup x.callers) (cond-true (can_count x.store) (prepend (position ∷ []) [] course) (only_end (FaultEnd TooManyIterations)) can)
        ∙ (course_counted x.store.count x.setup x.callers position course
        ∙ ap (λ (y : Result (Operation × List ℕ) Fault). total_of_course (x.store.count + 1) x.setup x.callers (do_operation (run x.setup) x.setup x.text (length x.callers) (count_one (with_refusal r x.store)) inputs (counted_act x.setup x.store) y)) e))

    pub ready_unread : (new : State) (error : Error) (place : ℕ) → read x.setup x.text x.place ≡ Err (fault_of error) → new ≡ with_status (FaultStatus error) (beyond_op x place) → Turns x new
    ready_unread new error place e is =
        falls_from x (beyond_op x place) new error Never ready.runs (ap (λ (z : State). z.status) is) tt
        (λ inputs. ready_read Never inputs (Err (fault_of error)) e ∙ course_failed (x.store.count + 1) x.setup x.callers (fault_of error))
        (counts_and_reads x place) (stays_status (FaultStatus error) (beyond_op x place) new is)

    module _ (op : Operation) (beyond : List ℕ) (was : read x.setup x.text x.place ≡ Ok (op, beyond)) where
      abbrev place_then : ℕ
      place_then = length x.text.bytes - length beyond

      abbrev there : State
      there = beyond_op x place_then

      ready_after_operation : (r : Refusal) (inputs : List Input) (next : Next) → do_act_at (act_of there op) there (with_refusal r there.store) ≡ next → total x r inputs ≡ total_of_course (x.store.count + 1) x.setup x.callers (after_operation (run x.setup) x.setup x.text (length x.callers) place_then inputs next)
      ready_after_operation r inputs next e =
          ready_read r inputs (Ok (op, beyond)) was
          ∙ ap (λ (n : Next). total_of_course (x.store.count + 1) x.setup x.callers (after_operation (run x.setup) x.setup x.text (length x.callers) place_then inputs n)) e

      ready_fails : (new : State) (error : Error) → new.status ≡ FaultStatus error → LeadsToFault (do_act_at (act_of there op) there) error there new → Turns x new
      ready_fails new error failed h =
          falls_from x there new error h.gets.refusal ready.runs failed h.gets.may
          (λ inputs.
          ready_after_operation h.gets.refusal inputs (FaultNext (fault_of error)) h.gets.same
          ∙ course_failed (x.store.count + 1) x.setup x.callers (fault_of error))
          (counts_and_reads x place_then) h.stays

      -- an operation leaves the count and the settings
      next_tally : (r : Refusal) (next : Next) → do_act_at (act_of there op) there (with_refusal r there.store) ≡ next → OnNext (HasTally (tally_of there.store)) next
      next_tally r next e = subst (OnNext (HasTally (tally_of there.store))) e (tally-done x.setup place_then (length x.text.bytes) (act_of there op) (with_refusal r there.store))

      goes_tally : (new : State) → LeadsToPlace (do_act_at (act_of there op) there) there new → tally_of new.store ≡ tally_of there.store
      goes_tally new h = next_tally (before_pushes h.steps.pushes Never) (Goes new.place (with_refusal Never new.store)) (h.steps.same Never)

      asks_tally : (new : State) (request : Request) (on_answer : OnAnswer) → LeadsToRequest (do_act_at (act_of there op) there) request on_answer there new → tally_of new.store ≡ tally_of there.store
      asks_tally new request on_answer h = next_tally (before_pushes h.steps.pushes Never) (RequestNext request on_answer (with_refusal Never new.store)) (h.steps.same Never)

      -- it adds one item at most
      next_lighter : (r : Refusal) (next : Next) → do_act_at (act_of there op) there (with_refusal r there.store) ≡ next → IsLighter (kept_in there.store) next
      next_lighter r next e =
          subst (IsLighter (kept_in there.store)) e
          (done_lighter x.setup place_then (length x.text.bytes) (act_of there op) (with_refusal r there.store) (act_is (address_bits there.setup) there.store.settings.object_address op there.store.values))

      -- no piece that it gives ended a location, and it gave the one that waits
      next_ends : (r : Refusal) (next : Next) → do_act_at (act_of there op) there (with_refusal r there.store) ≡ next → OnNext (EndsNoMore (endings x.store.pieces)) next
      next_ends r next e =
          subst (OnNext (EndsNoMore (endings x.store.pieces))) e
          (done_ends op x.setup place_then (length x.text.bytes) (act_of there op) (with_refusal r there.store) (act_is (address_bits there.setup) there.store.settings.object_address op there.store.values)
          (free_given x.store.last ready.free))

      keeps_by : (new : State) → new.setup ≡ x.setup → tally_of new.store ≡ tally_of there.store → Keeps x new
      keeps_by new setup tally = record { setup = setup; settings = ap (λ (m : Tally). m.settings) tally }

      ready_goes : (new : State) → new.status ≡ Running → LeadsToPlace (do_act_at (act_of there op) there) there new → Turns x new
      ready_goes new runs goes =
          let tally = goes_tally new goes in
          let count : new.store.count ≡ x.store.count + 1 = ap (λ (m : Tally). m.count) tally in
          let ends : EndsNoMore (endings x.store.pieces) (with_refusal Never new.store) = next_ends (before_pushes goes.steps.pushes Never) (Goes new.place (with_refusal Never new.store)) (goes.steps.same Never) in
          record {
            comes = subst (ComesToStateBy x (total x) new) (sym runs) (record {
              pushes = goes.steps.pushes;
              same = λ r inputs.
                  let course = run x.setup x.text new.place (length x.callers) (with_refusal r new.store) inputs in
                  ready_after_operation (before_pushes goes.steps.pushes r) inputs (Goes new.place (with_refusal r new.store)) (goes.steps.same r)
                  ∙ (ap (λ (n : ℕ). total_of_course n x.setup x.callers course) (sym count)
                  ∙ sym (total_running r new inputs runs ∙ ap (λ (y : State). going y (with_refusal r new.store) inputs) goes.alone));
              kept = keeps_by new (ap (λ (z : State). z.setup) goes.alone) tally;
              spends = counted_spends x new Running ready.runs runs refl refl (ap (λ (z : State). length z.callers) goes.alone) count (ap (λ (z : State). z.decodings) goes.alone) (omega arith)
                  (let lighter : kept_in new.store ≤ kept_in x.store + 1 = next_lighter (before_pushes goes.steps.pushes Never) (Goes new.place (with_refusal Never new.store)) (goes.steps.same Never) in omega (arith, lighter)) ends.pieces ends.given;
              nears = nears_by x new Running Running ready.runs runs (omega (arith, count));
            });
            less = less_counted x new ready.runs runs can (ap (λ (z : State). z.callers) goes.alone) count;
          }

      ready_asks : (new : State) (request : Request) (on_answer : OnAnswer) → new.status ≡ RequestStatus request on_answer → LeadsToRequest (do_act_at (act_of there op) there) request on_answer there new → Turns x new
      ready_asks new request on_answer open_now asks =
          let tally = asks_tally new request on_answer asks in
          let count : new.store.count ≡ x.store.count + 1 = ap (λ (m : Tally). m.count) tally in
          let ends : EndsNoMore (endings x.store.pieces) (with_refusal Never new.store) = next_ends (before_pushes asks.steps.pushes Never) (RequestNext request on_answer (with_refusal Never new.store)) (asks.steps.same Never) in
          record {
            comes = subst (ComesToStateBy x (total x) new) (sym open_now) (record {
              pushes = asks.steps.pushes;
              same = λ r inputs.
                  ready_after_operation (before_pushes asks.steps.pushes r) inputs (RequestNext request on_answer (with_refusal r new.store)) (asks.steps.same r)
                  ∙ (course_asked (x.store.count + 1) x.setup x.callers request (await_answer (run x.setup) x.setup (record { text = x.text; place = place_then }) (length x.callers) request on_answer (with_refusal r new.store) inputs)
                  ∙ (ap (λ (n : ℕ). waiting_total (record there { store = record there.store { count = n } }) request on_answer (with_refusal r new.store) inputs) (sym count)
                  ∙ sym (total_waits r new inputs request on_answer open_now ∙ ap (λ (y : State). waiting_total y request on_answer (with_refusal r new.store) inputs) asks.alone)));
              kept = keeps_by new (ap (λ (z : State). z.setup) asks.alone) tally;
              spends = counted_spends x new (RequestStatus request on_answer) ready.runs open_now (request_waits new.store.last request on_answer) refl (ap (λ (z : State). length z.callers) asks.alone) count (ap (λ (z : State). z.decodings) asks.alone) (omega arith)
                  (let lighter : kept_in new.store ≤ kept_in x.store = next_lighter (before_pushes asks.steps.pushes Never) (RequestNext request on_answer (with_refusal Never new.store)) (asks.steps.same Never) in omega (arith, lighter)) ends.pieces ends.given;
              nears =
                  let below = below_most x.store can in
                  nears_by x new Running (RequestStatus request on_answer) ready.runs open_now (omega (arith, count, below));
            });
            less = less_stopped x new (RequestStatus request on_answer) ready.runs open_now refl;
          }

      ready_by : (new : State) (status : Status) → new.status ≡ status → LeadsBy (do_act_at (act_of there op) there) there new status → Turns x new
      ready_by new Running e h = ready_goes new e h
      ready_by new (RequestStatus request on_answer) e h = ready_asks new request on_answer e h
      ready_by new (FaultStatus error) e h = ready_fails new error e h
      ready_by new _ e h = absurd h

      pub ready_performs : (new : State) → Performs (act_of there op) there new → Turns x new
      ready_performs new h = ready_by new new.status refl h

-- the operation at the place, counted, read and done
pub counted_turns : (x mid beyond new : State) (op : Operation) → IsReady x → CountsOne x mid true → ReadsOperation op mid beyond → Performs (act_of beyond op) beyond new → Turns x new
counted_turns x mid beyond new op ready can reads h =
    let read_there : ReadsOperation op (with_store (count_one x.store) x) beyond = subst (λ (z : State). ReadsOperation op z beyond) can.1 reads in
    ready_performs x ready can.0 op read_there.beyond read_there.was new (subst (λ (z : State). Performs (act_of z op) z new) read_there.moved h)

-- the operation at the place, counted, which can't be read
pub unread_turns : (x mid beyond new : State) (error : Error) → IsReady x → CountsOne x mid true → read mid.setup mid.text mid.place ≡ Err (fault_of error) → beyond ≡ read_to beyond.place mid → new ≡ with_status (FaultStatus error) beyond → Turns x new
unread_turns x mid beyond new error ready can was moved is =
    ready_unread x ready can.0 new error beyond.place (subst (λ (z : State). read z.setup z.text z.place ≡ Err (fault_of error)) can.1 was)
    (is ∙ ap (with_status (FaultStatus error)) (moved ∙ ap (read_to beyond.place) can.1))
