-- Enough turns are enough: a run is one turn, and then a run again.
use Rattle.std.proofs.Common.{ℕ, zero, suc, ◌≡◌, ◌+◌, ◌-◌, ◌*◌, ◌≤◌, ◌<◌, true, List, [], ◌∷◌, length, Result, Ok, Err, arith, ap, ◌∙◌, refl, ◌==◌}
use Rattle.std.proofs.lemmas.Bool.Decides.{nat_tests}
use Rattle.dwarf_base.specs.Faults.{Fault}
use Rattle.dwarf_base.specs.declared.errors.Error.TheVariants.{TooManyIterations}
use Rattle.dwarf_base.specs.Reads.{Text}
use Rattle.dwarf_meaning.specs.Operations.{Operation}
use Rattle.dwarf_meaning.specs.Locations.{Location}
use Rattle.dwarf_meaning.specs.Requests.{Request, OnAnswer, Input}
use Rattle.dwarf_meaning.specs.Kinds.{kind_of_request, kind_of_answer, is_same_kind}
use Rattle.dwarf_meaning.specs.Acts.{Act, Use, PushesAnswer, Calls, FaultUse, use_of}
use Rattle.dwarf_meaning.specs.Stores.{Setup, address_bits, Store, Last, Pushed, Called, Located, Next, Goes, RequestNext, FaultNext}
use Rattle.dwarf_meaning.specs.Run.{Position, End, CompleteEnd, RequestEnd, FaultEnd, Course, only_end, prepend, Continues, return_to_caller, after_push, enter_callee, run_callee, after_answer, with_input, await_answer, after_operation, read, most_operations, can_count, count_one, do_operation, turn_counted, counted_act, located_act, turn_by, turn, out_of_turns, run_for, enough_turns, run}
use Rattle.dwarf_meaning.specs.RunLaws.{waits_of, turns_left}
use Rattle.dwarf_meaning.proofs.Choices.{cond_pair}
use Rattle.dwarf_meaning.proofs.Counts.{OnStore, OnNext, Tally, tally_of, HasTally, OnPiece, tally-push_value, tally-push_caller, tally-done, both-located}

pub waits_little : (last : Last) → waits_of last ≤ 1
waits_little (Located location) = omega arith
waits_little _ = omega arith

-- what is left if this many were counted
abbrev room_at : ℕ → ℕ
room_at n = 2 * (most_operations - n) + 1

left_at : (m : Tally) (s : Store) → tally_of s ≡ m → turns_left s ≤ room_at m.count
left_at m s e = let count : s.count ≡ m.count = ap (λ (k : Tally). k.count) e in omega (arith, count, waits_little s.last)

pub below_most : (s : Store) → can_count s ≡ true → s.count < most_operations
below_most s h = grind (arith, nat_tests)

-- a run that ends leaves no more turns than n
abbrev pub EndsWithin : ℕ → End → Type 0
EndsWithin n (CompleteEnd s inputs) = turns_left s ≤ n
EndsWithin n (RequestEnd request positions inputs) = Unit {0}
EndsWithin n (FaultEnd fault) = Unit {0}

ends_more : (n k : ℕ) (end : End) → n ≤ k → EndsWithin n end → EndsWithin k end
ends_more n k (CompleteEnd s inputs) h i = omega (arith, h, i)
ends_more n k end h i = tt

-- the first leaves no more turns than n, and both are the same if n is below m
pub record Within (m n : ℕ) (first second : Course) : Type 0 where
  pub ends : EndsWithin n first.end
  pub alike : n < m → first ≡ second

within_more : (m n k j : ℕ) (first second : Course) → n ≤ j → (j < k → n < m) → Within m n first second → Within k j first second
within_more m n k j first second h i w = record { ends = ends_more n j first.end h w.ends; alike = λ less. w.alike (i less) }

abbrev pub BothWithin : ℕ → Continues → Continues → Type 0
BothWithin m go other = (text : Text) (place depth : ℕ) (s : Store) (inputs : List Input) → Within m (turns_left s) (go text place depth s inputs) (other text place depth s inputs)

module _ (m : ℕ) (go other : Continues) (both : BothWithin m go other) where
  within_from : (n : ℕ) (text : Text) (place depth : ℕ) (s : Store) (inputs : List Input) → turns_left s ≤ n → Within m n (go text place depth s inputs) (other text place depth s inputs)
  within_from n text place depth s inputs h = within_more m (turns_left s) m n _ _ h (λ less. omega (arith, h, less)) (both text place depth s inputs)

  failed : {n k : ℕ} (fault : Fault) → Within k n (only_end (FaultEnd fault)) (only_end (FaultEnd fault))
  failed fault = record { ends = tt; alike = λ less. refl }

  within_back : (n : ℕ) (position : Position) (depth : ℕ) (course : Course) (end : End) → EndsWithin n end → Within m n (return_to_caller go position depth course end) (return_to_caller other position depth course end)
  within_back n position depth course (CompleteEnd s inputs) h =
      let rest = within_from n position.text position.place depth s inputs h in
      record { ends = rest.ends; alike = λ less. ap (prepend course.path course.requests) (rest.alike less) }
  within_back n position depth course end h = record { ends = tt; alike = λ less. refl }

  within_resumed : (n : Tally) (position : Position) (depth : ℕ) (inputs : List Input) (r : Result Store Fault) → OnStore (HasTally n) r → Within m (room_at n.count) (after_push go position depth inputs r) (after_push other position depth inputs r)
  within_resumed n position depth inputs (Ok s) h = within_from (room_at n.count) position.text position.place depth s inputs (left_at n s h)
  within_resumed n position depth inputs (Err fault) h = failed fault

  within_entered : (n : Tally) (position : Position) (depth : ℕ) (callee : Text) (inputs : List Input) (r : Result Store Fault) → OnStore (HasTally n) r → Within m (room_at n.count) (enter_callee go position depth callee inputs r) (enter_callee other position depth callee inputs r)
  within_entered n position depth callee inputs (Ok s) h =
      let course = go callee 0 (suc depth) s inputs in
      let called = within_from (room_at n.count) callee 0 (suc depth) s inputs (left_at n s h) in
      let back = within_back (room_at n.count) position depth course course.end called.ends in
      record { ends = back.ends; alike = λ less. back.alike less ∙ ap (λ (c : Course). return_to_caller other position depth c c.end) (called.alike less) }
  within_entered n position depth callee inputs (Err fault) h = failed fault

  within_called : (setup : Setup) (position : Position) (depth : ℕ) (callee : Text) (bytes : List ℕ) (s : Store) (inputs : List Input) → Within m (room_at s.count) (run_callee go setup position depth callee bytes s inputs) (run_callee other setup position depth callee bytes s inputs)
  within_called setup position depth callee [] s inputs = within_from (room_at s.count) position.text position.place depth _ inputs (left_at (tally_of s) (record s { last = Called }) refl)
  within_called setup position depth callee (byte ∷ bytes) s inputs = within_entered (tally_of s) position depth callee inputs _ (tally-push_caller setup depth s)

  within_used : (setup : Setup) (position : Position) (depth : ℕ) (u : Use) (s : Store) (inputs : List Input) → Within m (room_at s.count) (after_answer go setup position depth u s inputs) (after_answer other setup position depth u s inputs)
  within_used setup position depth (PushesAnswer rest value) s inputs = within_resumed (tally_of s) position depth inputs _ (tally-push_value setup value (record s { values = rest; last = Pushed }))
  within_used setup position depth (Calls callee) s inputs = within_called setup position depth callee callee.bytes s inputs
  within_used setup position depth (FaultUse fault) s inputs = failed fault

  within_asked : (setup : Setup) (position : Position) (depth : ℕ) (request : Request) (on_answer : OnAnswer) (s : Store) (inputs : List Input) → Within m (room_at s.count) (await_answer go setup position depth request on_answer s inputs) (await_answer other setup position depth request on_answer s inputs)
  within_asked setup position depth request on_answer s [] = record { ends = tt; alike = λ less. refl }
  within_asked setup position depth request on_answer s (input ∷ inputs) =
      cond_pair (Within m (room_at s.count)) (is_same_kind (kind_of_request request) (kind_of_answer input.answer)) _ _ _ _
      (λ fits. within_used setup position depth (use_of (address_bits setup) on_answer input.answer s.values) (with_input input s) inputs)
      (λ other_kind. record { ends = tt; alike = λ less. refl })

  -- from where n operations are counted
  within_led : (setup : Setup) (text : Text) (depth place : ℕ) (inputs : List Input) (n : Tally) (next : Next) → OnNext (HasTally n) next → Within m (room_at n.count) (after_operation go setup text depth place inputs next) (after_operation other setup text depth place inputs next)
  within_led setup text depth place inputs n (Goes to s) h = within_from (room_at n.count) text to depth s inputs (left_at n s h)
  within_led setup text depth place inputs n (RequestNext request on_answer s) h =
      let count : s.count ≡ n.count = ap (λ (k : Tally). k.count) h in
      let asked = within_asked setup (record { text = text; place = place }) depth request on_answer s inputs in
      record {
        ends = ends_more (room_at s.count) (room_at n.count) _ (omega (arith, count)) asked.ends;
        alike = λ less. ap (prepend [] (request ∷ [])) (asked.alike (omega (arith, count, less)));
      }
  within_led setup text depth place inputs n (FaultNext fault) h = failed fault

  within_does : (setup : Setup) (text : Text) (depth : ℕ) (s : Store) (inputs : List Input) (act_at : ℕ → Operation → Act) (r : Result (Operation × List ℕ) Fault) → Within m (room_at s.count) (do_operation go setup text depth s inputs act_at r) (do_operation other setup text depth s inputs act_at r)
  within_does setup text depth s inputs act_at (Ok x) = within_led setup text depth _ inputs (tally_of s) _ (tally-done setup (length text.bytes - length x.1) (length text.bytes) (act_at (length text.bytes - length x.1) x.0) s)
  within_does setup text depth s inputs act_at (Err fault) = failed fault

  within_counts : (setup : Setup) (text : Text) (place depth : ℕ) (s : Store) (inputs : List Input) → Within (suc m) (turns_left s) (turn_counted go setup text place depth s inputs) (turn_counted other setup text place depth s inputs)
  within_counts setup text place depth s inputs =
      cond_pair (Within (suc m) (turns_left s)) (can_count s) _ _ _ _
      (λ can.
      let below = below_most s can in
      let does = within_does setup text depth (count_one s) inputs (counted_act setup s) (read setup text place) in
      record {
        ends = ends_more (room_at (s.count + 1)) (turns_left s) _ (omega arith) does.ends;
        alike = λ less. ap (prepend (record { text = text; place = place } ∷ []) []) (does.alike (omega arith));
      })
      (λ e. failed TooManyIterations)

  -- after a location
  within_piece : (setup : Setup) (text : Text) (depth place : ℕ) (inputs : List Input) (n : Tally) (next : Next) → OnPiece n next → Within m (2 * (most_operations - n.count)) (after_operation go setup text depth place inputs next) (after_operation other setup text depth place inputs next)
  within_piece setup text depth place inputs n (Goes to s) h =
      let none : waits_of s.last ≡ 0 = ap waits_of h.last in
      let count : s.count ≡ n.count = ap (λ (k : Tally). k.count) h.tally in
      within_from _ text to depth s inputs (omega (arith, count, none))
  within_piece setup text depth place inputs n (RequestNext request on_answer s) h = absurd h
  within_piece setup text depth place inputs n (FaultNext fault) h = failed fault

  within_held : (setup : Setup) (text : Text) (depth : ℕ) (location : Location) (s : Store) (inputs : List Input) (r : Result (Operation × List ℕ) Fault) → Within m (2 * (most_operations - s.count)) (do_operation go setup text depth s inputs (located_act location s) r) (do_operation other setup text depth s inputs (located_act location s) r)
  within_held setup text depth location s inputs (Ok x) = within_piece setup text depth _ inputs (tally_of s) _ (both-located setup location _ (length text.bytes) s x.0)
  within_held setup text depth location s inputs (Err fault) = failed fault

  within_by : (setup : Setup) (text : Text) (place depth : ℕ) (s : Store) (inputs : List Input) (last : Last) → waits_of s.last ≡ waits_of last → Within (suc m) (turns_left s) (turn_by go setup text place depth s inputs last) (turn_by other setup text place depth s inputs last)
  within_by setup text place depth s inputs (Located location) e =
      within_more m (2 * (most_operations - s.count)) (suc m) (turns_left s) _ _ (omega arith) (λ less. omega (arith, e, less)) (within_held setup text depth location s inputs (read setup text place))
  within_by setup text place depth s inputs last e = within_counts setup text place depth s inputs

  pub within_turn : (setup : Setup) → BothWithin (suc m) (turn go setup) (turn other setup)
  within_turn setup text place depth s inputs =
      cond_pair (Within (suc m) (turns_left s)) (place == length text.bytes) _ _ _ _ (λ e. record { ends = omega arith; alike = λ less. refl }) (λ e. within_by setup text place depth s inputs s.last refl)

-- no run leaves more turns than there were
pub lowers_run : (turns : ℕ) (setup : Setup) (text : Text) (place depth : ℕ) (s : Store) (inputs : List Input) → EndsWithin (turns_left s) (run_for turns setup text place depth s inputs).end
unfolding run_for
lowers_run zero setup text place depth s inputs =
    (within_turn 0 out_of_turns out_of_turns (λ text place depth s inputs. record { ends = tt; alike = λ less. refl }) setup text place depth s inputs).ends
lowers_run (suc turns) setup text place depth s inputs =
    (within_turn 0 (run_for turns setup) (run_for turns setup) (λ text place depth s inputs. record { ends = lowers_run turns setup text place depth s inputs; alike = λ less. refl }) setup text place depth s inputs).ends

-- two numbers of turns that are enough give one course; if no turn is left, however it would go on
pub run_for-enough : (n m : ℕ) (setup : Setup) (text : Text) (place depth : ℕ) (s : Store) (inputs : List Input) → turns_left s ≤ n → turns_left s ≤ m → run_for n setup text place depth s inputs ≡ run_for m setup text place depth s inputs
unfolding run_for
run_for-enough zero zero setup text place depth s inputs h i = refl
run_for-enough zero (suc m) setup text place depth s inputs h i =
    (within_turn 0 out_of_turns (run_for m setup) (λ text place depth s inputs. record { ends = tt; alike = λ less. absurd (omega (arith, less)) }) setup text place depth s inputs).alike (omega (arith, h))
run_for-enough (suc n) zero setup text place depth s inputs h i =
    (within_turn 0 (run_for n setup) out_of_turns (λ text place depth s inputs. record { ends = lowers_run n setup text place depth s inputs; alike = λ less. absurd (omega (arith, less)) }) setup text place depth s inputs).alike (omega (arith, i))
run_for-enough (suc n) (suc m) setup text place depth s inputs h i =
    (within_turn (turns_left s) (run_for n setup) (run_for m setup)
    (λ text place depth t inputs. record { ends = lowers_run n setup text place depth t inputs; alike = λ less. run_for-enough n m setup text place depth t inputs (omega (arith, h, less)) (omega (arith, i, less)) })
    setup text place depth s inputs).alike (omega arith)

pub all_left : (s : Store) → turns_left s ≤ enough_turns
unfolding enough_turns
all_left s = omega (arith, waits_little s.last)

-- a run is one turn, and then a run again
pub run_turn : (setup : Setup) (text : Text) (place depth : ℕ) (s : Store) (inputs : List Input) → run setup text place depth s inputs ≡ turn (run setup) setup text place depth s inputs
unfolding run_for
run_turn setup text place depth s inputs =
    run_for-enough enough_turns (suc enough_turns) setup text place depth s inputs (all_left s) (omega (arith, all_left s))

-- enough turns are twenty, which compute a worked row, and more
abbrev pub twenty_and : ℕ → ℕ
twenty_and more = suc (suc (suc (suc (suc (suc (suc (suc (suc (suc (suc (suc (suc (suc (suc (suc (suc (suc (suc (suc more)))))))))))))))))))

enough_is : enough_turns ≡ twenty_and (enough_turns - 20)
unfolding enough_turns most_operations
enough_is = refl

pub few_turns : (setup : Setup) (text : Text) (place depth : ℕ) (s : Store) (inputs : List Input) → run setup text place depth s inputs ≡ run_for (twenty_and (enough_turns - 20)) setup text place depth s inputs
few_turns setup text place depth s inputs = ap (λ (turns : ℕ). run_for turns setup text place depth s inputs) enough_is
