-- A run is decided by the inputs that it takes: one for each request, in order, but for the one that stays open.
use Rattle.std.proofs.Common.{ℕ, zero, suc, ◌≡◌, List, [], ◌∷◌, ◌++◌, length, Result, Ok, Err, refl, ap, ◌∙◌, ◌==◌, ◌+◌, arith, sym, length-append, append_assoc}
use Rattle.dwarf_base.specs.Faults.{Fault}
use Rattle.dwarf_base.specs.Reads.{Text}
use Rattle.dwarf_meaning.specs.Operations.{Operation}
use Rattle.dwarf_meaning.specs.Requests.{Request, OnAnswer, Input}
use Rattle.dwarf_meaning.specs.Kinds.{kind_of_request, kind_of_answer, is_same_kind}
use Rattle.dwarf_meaning.specs.Acts.{Act, Use, PushesAnswer, Calls, FaultUse, use_of}
use Rattle.dwarf_meaning.specs.Stores.{Setup, address_bits, Store, Last, Pushed, Called, Located, push_value, push_caller, Next, Goes, RequestNext, FaultNext}
use Rattle.dwarf_meaning.specs.Run.{Position, End, CompleteEnd, RequestEnd, FaultEnd, Course, prepend, Continues, return_to_caller, after_push, enter_callee, run_callee, after_answer, with_input, await_answer, after_operation, read, can_count, count_one, do_operation, turn_counted, counted_act, located_act, turn_by, turn, out_of_turns, run_for, enough_turns, run, only_end}
use Rattle.dwarf_meaning.specs.Meaning.{IsOver, First, fresh_store, with_initial, outcome_of_end, course_of, meaning}
use Rattle.dwarf_meaning.specs.RunLaws.{IsSettled, end_before, course_before, Took, EndTook}
use Rattle.dwarf_meaning.specs.Refusals.{Refusal}
use Rattle.dwarf_base.specs.declared.errors.Error.TheVariants.{TooManyIterations}
use Rattle.dwarf_meaning.proofs.Choices.{cond_pair}

-- ---- one course and then another

took_then : (inputs between left : List Input) (answered others : List Request) → Took inputs between answered → Took between left others → Took inputs left (answered ++ others)
took_then inputs between left answered others h i =
    let l = length-append h.taken i.taken in
    let k = length-append answered others in
    record {
      taken = h.taken ++ i.taken;
      split = h.split ∙ ap (λ (xs : List Input). h.taken ++ xs) i.split ∙ sym (append_assoc h.taken i.taken left);
      one_each = omega (arith, l, k, h.one_each, i.one_each);
    }

fewer_left : (inputs left : List Input) (answered : List Request) → Took inputs left answered → length inputs ≡ length answered + length left
fewer_left inputs left answered h =
    let l = length-append h.taken left in
    let e : length inputs ≡ length (h.taken ++ left) = ap (λ (xs : List Input). length xs) h.split in
    omega (arith, l, e, h.one_each)

took_end : (inputs between : List Input) (answered others : List Request) (end : End) → Took inputs between answered → EndTook between others end → EndTook inputs (answered ++ others) end
took_end inputs between answered others (CompleteEnd s left) h i = took_then inputs between left answered others h i
took_end inputs between answered others (RequestEnd request positions left) h i =
    record {
      answered = answered ++ i.answered;
      last = ap (λ (xs : List Request). answered ++ xs) i.last ∙ sym (append_assoc answered i.answered (request ∷ []));
      took = took_then inputs between left answered i.answered h i.took;
    }
took_end inputs between answered others (FaultEnd fault) h i = omega (arith, length-append answered others, fewer_left inputs between answered h, i)

-- the request that takes the first input
taking_next : (request : Request) (input : Input) (inputs : List Input) (requests : List Request) (end : End) → EndTook inputs requests end → EndTook (input ∷ inputs) (request ∷ requests) end
taking_next request input inputs requests end =
    took_end (input ∷ inputs) inputs (request ∷ []) requests end (record { taken = input ∷ []; split = refl; one_each = refl })

-- the request that stays open
taking_open : (request : Request) (position : Position) (inputs : List Input) → EndTook inputs (request ∷ []) (RequestEnd request (position ∷ []) inputs)
taking_open request position inputs = record { answered = []; last = refl; took = record { taken = []; split = refl; one_each = refl } }

-- ---- runs

-- Each request of the first took one input, but for the one that is open; and the second is the first with more inputs left, if that waits for none.
pub record Runs (more inputs : List Input) (first second : Course) : Type 0 where
  pub takes : EndTook inputs first.requests first.end
  pub extends : IsSettled first.end → second ≡ course_before more first

-- more inputs to come change nothing
abbrev pub AllRuns : List Input → Continues → Type 0
AllRuns more go = (text : Text) (place depth : ℕ) (s : Store) (inputs : List Input) → Runs more inputs (go text place depth s inputs) (go text place depth s (inputs ++ more))

module _ (more : List Input) (go : Continues) (runs : AllRuns more go) where
  failed : {inputs : List Input} (fault : Fault) → Runs more inputs (only_end (FaultEnd fault)) (only_end (FaultEnd fault))
  failed fault = record { takes = omega arith; extends = λ settled. refl }

  settled_callee : (position : Position) (depth : ℕ) (course : Course) (end : End) → IsSettled (return_to_caller go position depth course end).end → IsSettled end
  settled_callee position depth course (RequestEnd request positions []) h = h
  settled_callee position depth course end h = tt

  runs_back : (position : Position) (depth : ℕ) (inputs : List Input) (course : Course) (end : End) → EndTook inputs course.requests end → Runs more inputs (return_to_caller go position depth course end) (return_to_caller go position depth (course_before more course) (end_before more end))
  runs_back position depth inputs course (CompleteEnd s left) h =
      let rest = go position.text position.place depth s left in
      let after = runs position.text position.place depth s left in
      record { takes = took_end inputs left course.requests rest.requests rest.end h after.takes; extends = λ settled. ap (prepend course.path course.requests) (after.extends settled) }
  runs_back position depth inputs course end h = record { takes = h; extends = λ settled. refl }

  runs_resumed : (position : Position) (depth : ℕ) (inputs : List Input) (r : Result Store Fault) → Runs more inputs (after_push go position depth inputs r) (after_push go position depth (inputs ++ more) r)
  runs_resumed position depth inputs (Ok s) = runs position.text position.place depth s inputs
  runs_resumed position depth inputs (Err fault) = failed fault

  runs_entered : (position : Position) (depth : ℕ) (callee : Text) (inputs : List Input) (r : Result Store Fault) → Runs more inputs (enter_callee go position depth callee inputs r) (enter_callee go position depth callee (inputs ++ more) r)
  runs_entered position depth callee inputs (Ok s) =
      let course = go callee 0 (suc depth) s inputs in
      let called = runs callee 0 (suc depth) s inputs in
      let back = runs_back position depth inputs course course.end called.takes in
      record {
        takes = back.takes;
        extends = λ settled. ap (λ (c : Course). return_to_caller go position depth c c.end) (called.extends (settled_callee position depth course course.end settled)) ∙ back.extends settled;
      }
  runs_entered position depth callee inputs (Err fault) = failed fault

  runs_called : (setup : Setup) (position : Position) (depth : ℕ) (callee : Text) (bytes : List ℕ) (s : Store) (inputs : List Input) → Runs more inputs (run_callee go setup position depth callee bytes s inputs) (run_callee go setup position depth callee bytes s (inputs ++ more))
  runs_called setup position depth callee [] s inputs = runs position.text position.place depth (record s { last = Called }) inputs
  runs_called setup position depth callee (byte ∷ bytes) s inputs = runs_entered position depth callee inputs (push_caller setup depth s)

  runs_answered : (request : Request) (input : Input) (inputs : List Input) (first second : Course) → Runs more inputs first second → Runs more (input ∷ inputs) (prepend [] (request ∷ []) first) (prepend [] (request ∷ []) second)
  runs_answered request input inputs first second h = record { takes = taking_next request input inputs first.requests first.end h.takes; extends = λ settled. ap (prepend [] (request ∷ [])) (h.extends settled) }

  runs_used : (setup : Setup) (position : Position) (depth : ℕ) (request : Request) (input : Input) (u : Use) (s : Store) (inputs : List Input) → Runs more (input ∷ inputs) (prepend [] (request ∷ []) (after_answer go setup position depth u s inputs)) (prepend [] (request ∷ []) (after_answer go setup position depth u s (inputs ++ more)))
  runs_used setup position depth request input (PushesAnswer rest value) s inputs =
      runs_answered request input inputs _ _ (runs_resumed position depth inputs (push_value setup value (record s { values = rest; last = Pushed })))
  runs_used setup position depth request input (Calls callee) s inputs = runs_answered request input inputs _ _ (runs_called setup position depth callee callee.bytes s inputs)
  runs_used setup position depth request input (FaultUse fault) s inputs = record { takes = omega arith; extends = λ settled. refl }

  runs_asked : (setup : Setup) (position : Position) (depth : ℕ) (request : Request) (on_answer : OnAnswer) (s : Store) (inputs : List Input) → Runs more inputs (prepend [] (request ∷ []) (await_answer go setup position depth request on_answer s inputs)) (prepend [] (request ∷ []) (await_answer go setup position depth request on_answer s (inputs ++ more)))
  runs_asked setup position depth request on_answer s [] = record { takes = taking_open request position []; extends = λ settled. absurd settled }
  runs_asked setup position depth request on_answer s (input ∷ inputs) =
      cond_pair (λ (c d : Course). Runs more (input ∷ inputs) (prepend [] (request ∷ []) c) (prepend [] (request ∷ []) d)) (is_same_kind (kind_of_request request) (kind_of_answer input.answer)) _ _ _ _
      (λ fits. runs_used setup position depth request input (use_of (address_bits setup) on_answer input.answer s.values) (with_input input s) inputs)
      (λ other. record { takes = taking_open request position (input ∷ inputs); extends = λ settled. refl })

  runs_led : (setup : Setup) (text : Text) (depth place : ℕ) (inputs : List Input) (next : Next) → Runs more inputs (after_operation go setup text depth place inputs next) (after_operation go setup text depth place (inputs ++ more) next)
  runs_led setup text depth place inputs (Goes to s) = runs text to depth s inputs
  runs_led setup text depth place inputs (RequestNext request on_answer s) = runs_asked setup (record { text = text; place = place }) depth request on_answer s inputs
  runs_led setup text depth place inputs (FaultNext fault) = failed fault

  runs_does : (setup : Setup) (text : Text) (depth : ℕ) (s : Store) (inputs : List Input) (act_at : ℕ → Operation → Act) (r : Result (Operation × List ℕ) Fault) → Runs more inputs (do_operation go setup text depth s inputs act_at r) (do_operation go setup text depth s (inputs ++ more) act_at r)
  runs_does setup text depth s inputs act_at (Ok x) = runs_led setup text depth _ inputs _
  runs_does setup text depth s inputs act_at (Err fault) = failed fault

  runs_counts : (setup : Setup) (text : Text) (place depth : ℕ) (s : Store) (inputs : List Input) → Runs more inputs (turn_counted go setup text place depth s inputs) (turn_counted go setup text place depth s (inputs ++ more))
  runs_counts setup text place depth s inputs =
      let does = runs_does setup text depth (count_one s) inputs (counted_act setup s) (read setup text place) in
      cond_pair (Runs more inputs) (can_count s) _ _ _ _
      (λ can. record { takes = does.takes; extends = λ settled. ap (prepend (record { text = text; place = place } ∷ []) []) (does.extends settled) })
      (λ e. failed TooManyIterations)

  runs_by : (setup : Setup) (text : Text) (place depth : ℕ) (s : Store) (inputs : List Input) (last : Last) → Runs more inputs (turn_by go setup text place depth s inputs last) (turn_by go setup text place depth s (inputs ++ more) last)
  runs_by setup text place depth s inputs (Located location) = runs_does setup text depth s inputs (located_act location s) (read setup text place)
  runs_by setup text place depth s inputs last = runs_counts setup text place depth s inputs

  runs_turn : (setup : Setup) → AllRuns more (turn go setup)
  runs_turn setup text place depth s inputs =
      cond_pair (Runs more inputs) (place == length text.bytes) _ _ _ _
      (λ e. record { takes = record { taken = []; split = refl; one_each = refl }; extends = λ settled. refl })
      (λ e. runs_by setup text place depth s inputs s.last)

runs_for : (turns : ℕ) (setup : Setup) (more : List Input) → AllRuns more (run_for turns setup)
unfolding run_for
runs_for zero setup more = runs_turn more out_of_turns (λ text place depth s inputs. record { takes = omega arith; extends = λ settled. refl }) setup
runs_for (suc turns) setup more = runs_turn more (run_for turns setup) (runs_for turns setup more) setup

pub extends_run : (setup : Setup) (text : Text) (place depth : ℕ) (s : Store) (inputs more : List Input) → IsSettled (run setup text place depth s inputs).end → run setup text place depth s (inputs ++ more) ≡ course_before more (run setup text place depth s inputs)
extends_run setup text place depth s inputs more = (runs_for enough_turns setup more text place depth s inputs).extends

pub run_takes : (setup : Setup) (text : Text) (place depth : ℕ) (s : Store) (inputs : List Input) → let course = run setup text place depth s inputs in EndTook inputs course.requests course.end
run_takes setup text place depth s inputs = (runs_for enough_turns setup [] text place depth s inputs).takes

-- ---- the whole

settled_end : (setup : Setup) (end : End) → IsOver (outcome_of_end setup end) → IsSettled end
settled_end setup (RequestEnd request positions left) h = absurd h
settled_end setup end h = tt

over_end : (setup : Setup) (more : List Input) (end : End) → outcome_of_end setup (end_before more end) ≡ outcome_of_end setup end
over_end setup more (CompleteEnd s left) = refl
over_end setup more end = refl

extends_course : (setup : Setup) (refusal : Refusal) (text : Text) (first : First) (inputs more : List Input) → IsSettled (course_of setup refusal text first inputs).end → course_of setup refusal text first (inputs ++ more) ≡ course_before more (course_of setup refusal text first inputs)
extends_course setup refusal text first inputs more =
    (runs_resumed more (run setup) (runs_for enough_turns setup more) (record { text = text; place = 0 }) 0 inputs (with_initial setup first.initial_value (fresh_store first refusal))).extends

pub over_meaning : (setup : Setup) (refusal : Refusal) (text : Text) (first : First) (inputs more : List Input) → IsOver (meaning setup refusal text first inputs) → meaning setup refusal text first (inputs ++ more) ≡ meaning setup refusal text first inputs
unfolding meaning
over_meaning setup refusal text first inputs more h =
    let end = (course_of setup refusal text first inputs).end in
    ap (λ (c : Course). outcome_of_end setup c.end) (extends_course setup refusal text first inputs more (settled_end setup end h))
    ∙ over_end setup more end
