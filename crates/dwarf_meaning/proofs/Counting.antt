-- Each operation of a run's path is counted once, and none beyond a bound on the maxima.
use Rattle.std.proofs.Common.{ℕ, zero, suc, ◌≡◌, ◌+◌, ◌≤◌, ◌<◌, List, [], ◌∷◌, ◌++◌, length, Result, Ok, Err, arith, subst, ◌==◌, length-append, ◌-◌}
use Rattle.std.specs.Prelude.{All}
use Rattle.std.proofs.lemmas.List.Elements.{All-head, All-tail}
use Rattle.std.proofs.lemmas.Bool.{cond_both}
use Rattle.std.proofs.lemmas.Bool.Decides.{nat_tests}
use Rattle.dwarf_base.specs.Faults.{Fault}
use Rattle.dwarf_base.specs.declared.errors.Error.TheVariants.{TooManyIterations}
use Rattle.dwarf_base.specs.Reads.{Text}
use Rattle.dwarf_meaning.specs.Operations.{Operation}
use Rattle.dwarf_meaning.specs.Requests.{Request, OnAnswer, Input}
use Rattle.dwarf_meaning.specs.Kinds.{kind_of_request, kind_of_answer, is_same_kind}
use Rattle.dwarf_meaning.specs.Acts.{Act, Use, PushesAnswer, Calls, FaultUse, use_of}
use Rattle.dwarf_meaning.specs.Stores.{Setup, address_bits, Store, Last, Pushed, Called, Located, Next, Goes, RequestNext, FaultNext}
use Rattle.dwarf_meaning.specs.Run.{Position, End, CompleteEnd, RequestEnd, FaultEnd, Course, only_end, prepend, Continues, return_to_caller, after_push, enter_callee, run_callee, after_answer, with_input, await_answer, after_operation, read, most_operations, can_count, count_one, do_operation, turn_counted, counted_act, located_act, turn_by, turn, out_of_turns, run_for, enough_turns, run}
use Rattle.dwarf_meaning.specs.RunLaws.{MaximaWithin, AtEnd, CountsWithin}
use Rattle.dwarf_meaning.proofs.Counts.{OnStore, OnNext, Tally, tally_of, HasTally, tally-push_value, tally-push_caller, tally-done}

-- P holds of each maximum that they set
abbrev AllMaxima : (ℕ → Type 0) → List Input → Type 0
AllMaxima P inputs = All (λ (input : Input). P input.settings.maximum) inputs

-- what is known of each maximum, and the bound on counts that it gives
pub record Bounded (bound : ℕ) (Fits : ℕ → Type 0) : Type 0 where
  pub below : (m : ℕ) → Fits m → (n : ℕ) → n < m → n < most_operations → n < bound

-- this many operations may be counted, under this maximum and those to come
pub record Allowed (bound : ℕ) (Fits : ℕ → Type 0) (n : Tally) (inputs : List Input) : Type 0 where
  pub count : n.count ≤ bound
  pub maximum : Fits n.settings.maximum
  pub others : AllMaxima Fits inputs

-- where the text ends
pub record Stands (Fits : ℕ → Type 0) (total : ℕ) (s : Store) (left : List Input) : Type 0 where
  pub count : s.count ≡ total
  pub maximum : Fits s.settings.maximum
  pub others : AllMaxima Fits left

abbrev pub EndStands : (ℕ → Type 0) → (total : ℕ) → End → Type 0
EndStands Fits total (CompleteEnd s left) = Stands Fits total s left
EndStands Fits total (RequestEnd request positions left) = Unit {0}
EndStands Fits total (FaultEnd fault) = Unit {0}

pub record Counted (bound : ℕ) (Fits : ℕ → Type 0) (start : ℕ) (course : Course) : Type 0 where
  pub few : start + length course.path ≤ bound
  pub at_end : EndStands Fits (start + length course.path) course.end

stands_at : (Fits : ℕ → Type 0) (total other : ℕ) (end : End) → total ≡ other → EndStands Fits total end → EndStands Fits other end
stands_at Fits total other end e h = subst (λ (n : ℕ). EndStands Fits n end) e h

module _ (bound : ℕ) (Fits : ℕ → Type 0) where
  abbrev pub Counting : Continues → Type 0
  Counting go = (text : Text) (place depth : ℕ) (s : Store) (inputs : List Input) → Allowed bound Fits (tally_of s) inputs → Counted bound Fits s.count (go text place depth s inputs)

  counted_failed : (n : ℕ) (fault : Fault) → n ≤ bound → Counted bound Fits n (only_end (FaultEnd fault))
  counted_failed n fault h = record { few = omega (arith, h); at_end = tt }

  counted_joined : (n : ℕ) (first second : Course) → Counted bound Fits (n + length first.path) second → Counted bound Fits n (prepend first.path first.requests second)
  counted_joined n first second h =
      let e : n + length first.path + length second.path ≡ n + length (first.path ++ second.path) = let l = length-append first.path second.path in omega (arith, l) in
      record { few = omega (arith, e, h.few); at_end = stands_at Fits _ _ second.end e h.at_end }

  counted_passing : (n : ℕ) (position : Position) (course : Course) → Counted bound Fits (n + 1) course → Counted bound Fits n (prepend (position ∷ []) [] course)
  counted_passing n position course h =
      record { few = omega (arith, h.few); at_end = stands_at Fits (n + 1 + length course.path) (n + suc (length course.path)) course.end (omega arith) h.at_end }

  module _ (bounded : Bounded bound Fits) (go : Continues) (counting : Counting go) where
    counted_from : (n : Tally) (text : Text) (place depth : ℕ) (s : Store) (inputs : List Input) → tally_of s ≡ n → Allowed bound Fits n inputs → Counted bound Fits n.count (go text place depth s inputs)
    counted_from n text place depth s inputs e =
        subst (λ (k : Tally). Allowed bound Fits k inputs → Counted bound Fits k.count (go text place depth s inputs)) e (counting text place depth s inputs)

    counted_back : (n : ℕ) (position : Position) (depth : ℕ) (course : Course) (end : End) → n + length course.path ≤ bound → EndStands Fits (n + length course.path) end → Counted bound Fits n (return_to_caller go position depth course end)
    counted_back n position depth course (CompleteEnd s left) h i =
        counted_joined n course (go position.text position.place depth s left)
        (subst (λ (k : ℕ). Counted bound Fits k (go position.text position.place depth s left)) i.count
        (counting position.text position.place depth s left (record { count = omega (arith, h, i.count); maximum = i.maximum; others = i.others })))
    counted_back n position depth course end h i = record { few = h; at_end = tt }

    counted_resumed : (n : Tally) (position : Position) (depth : ℕ) (inputs : List Input) (r : Result Store Fault) → OnStore (HasTally n) r → Allowed bound Fits n inputs → Counted bound Fits n.count (after_push go position depth inputs r)
    counted_resumed n position depth inputs (Ok s) h a = counted_from n position.text position.place depth s inputs h a
    counted_resumed n position depth inputs (Err fault) h a = counted_failed n.count fault a.count

    counted_entered : (n : Tally) (position : Position) (depth : ℕ) (callee : Text) (inputs : List Input) (r : Result Store Fault) → OnStore (HasTally n) r → Allowed bound Fits n inputs → Counted bound Fits n.count (enter_callee go position depth callee inputs r)
    counted_entered n position depth callee inputs (Ok s) h a =
        let course = go callee 0 (suc depth) s inputs in
        let c = counted_from n callee 0 (suc depth) s inputs h a in
        counted_back n.count position depth course course.end c.few c.at_end
    counted_entered n position depth callee inputs (Err fault) h a = counted_failed n.count fault a.count

    counted_called : (setup : Setup) (position : Position) (depth : ℕ) (callee : Text) (bytes : List ℕ) (s : Store) (inputs : List Input) → Allowed bound Fits (tally_of s) inputs → Counted bound Fits s.count (run_callee go setup position depth callee bytes s inputs)
    counted_called setup position depth callee [] s inputs a = counting position.text position.place depth (record s { last = Called }) inputs a
    counted_called setup position depth callee (byte ∷ bytes) s inputs a = counted_entered (tally_of s) position depth callee inputs _ (tally-push_caller setup depth s) a

    counted_used : (setup : Setup) (position : Position) (depth : ℕ) (u : Use) (s : Store) (inputs : List Input) → Allowed bound Fits (tally_of s) inputs → Counted bound Fits s.count (after_answer go setup position depth u s inputs)
    counted_used setup position depth (PushesAnswer rest value) s inputs a =
        counted_resumed (tally_of s) position depth inputs _ (tally-push_value setup value (record s { values = rest; last = Pushed })) a
    counted_used setup position depth (Calls callee) s inputs a = counted_called setup position depth callee callee.bytes s inputs a
    counted_used setup position depth (FaultUse fault) s inputs a = counted_failed s.count fault a.count

    counted_asked : (setup : Setup) (position : Position) (depth : ℕ) (request : Request) (on_answer : OnAnswer) (s : Store) (inputs : List Input) → Allowed bound Fits (tally_of s) inputs → Counted bound Fits s.count (await_answer go setup position depth request on_answer s inputs)
    counted_asked setup position depth request on_answer s [] a = record { few = omega (arith, a.count); at_end = tt }
    counted_asked setup position depth request on_answer s (input ∷ inputs) a =
        cond_both (is_same_kind (kind_of_request request) (kind_of_answer input.answer)) _ _ (Counted bound Fits s.count)
        (λ fits. counted_used setup position depth (use_of (address_bits setup) on_answer input.answer s.values) (with_input input s) inputs
        (record { count = a.count; maximum = All-head (λ (next : Input). Fits next.settings.maximum) input inputs a.others; others = All-tail (λ (next : Input). Fits next.settings.maximum) input inputs a.others }))
        (λ other. record { few = omega (arith, a.count); at_end = tt })

    counted_led : (setup : Setup) (text : Text) (depth place : ℕ) (inputs : List Input) (n : Tally) (next : Next) → OnNext (HasTally n) next → Allowed bound Fits n inputs → Counted bound Fits n.count (after_operation go setup text depth place inputs next)
    counted_led setup text depth place inputs n (Goes to s) h a = counted_from n text to depth s inputs h a
    counted_led setup text depth place inputs n (RequestNext request on_answer s) h a =
        let position : Position = record { text = text; place = place } in
        subst (λ (k : Tally). Allowed bound Fits k inputs → Counted bound Fits k.count (prepend [] (request ∷ []) (await_answer go setup position depth request on_answer s inputs))) h
        (λ allowed. let c = counted_asked setup position depth request on_answer s inputs allowed in record { few = c.few; at_end = c.at_end })
        a
    counted_led setup text depth place inputs n (FaultNext fault) h a = counted_failed n.count fault a.count

    counted_does : (setup : Setup) (text : Text) (depth : ℕ) (s : Store) (inputs : List Input) (act_at : ℕ → Operation → Act) (r : Result (Operation × List ℕ) Fault) → Allowed bound Fits (tally_of s) inputs → Counted bound Fits s.count (do_operation go setup text depth s inputs act_at r)
    counted_does setup text depth s inputs act_at (Ok x) a = counted_led setup text depth _ inputs (tally_of s) _ (tally-done setup (length text.bytes - length x.1) (length text.bytes) (act_at (length text.bytes - length x.1) x.0) s) a
    counted_does setup text depth s inputs act_at (Err fault) a = counted_failed s.count fault a.count

    counted_counts : (setup : Setup) (text : Text) (place depth : ℕ) (s : Store) (inputs : List Input) → Allowed bound Fits (tally_of s) inputs → Counted bound Fits s.count (turn_counted go setup text place depth s inputs)
    counted_counts setup text place depth s inputs a =
        cond_both (can_count s) _ _ (Counted bound Fits s.count)
        (λ can. let below = bounded.below s.settings.maximum a.maximum s.count (grind (arith, nat_tests)) (grind (arith, nat_tests)) in
        counted_passing s.count _ _ (counted_does setup text depth (count_one s) inputs (counted_act setup s) (read setup text place)
        (record { count = omega (arith, below); maximum = a.maximum; others = a.others })))
        (λ e. counted_failed s.count TooManyIterations a.count)

    counted_by : (setup : Setup) (text : Text) (place depth : ℕ) (s : Store) (inputs : List Input) (last : Last) → Allowed bound Fits (tally_of s) inputs → Counted bound Fits s.count (turn_by go setup text place depth s inputs last)
    counted_by setup text place depth s inputs (Located location) a = counted_does setup text depth s inputs (located_act location s) (read setup text place) a
    counted_by setup text place depth s inputs last a = counted_counts setup text place depth s inputs a

    counted_turn : (setup : Setup) → Counting (turn go setup)
    counted_turn setup text place depth s inputs a =
        cond_both (place == length text.bytes) _ _ (Counted bound Fits s.count)
        (λ e. record { few = omega (arith, a.count); at_end = record { count = omega arith; maximum = a.maximum; others = a.others } })
        (λ e. counted_by setup text place depth s inputs s.last a)

  counted_run_for : Bounded bound Fits → (turns : ℕ) (setup : Setup) → Counting (run_for turns setup)
  unfolding run_for
  counted_run_for bounded zero setup = counted_turn bounded out_of_turns (λ text place depth s inputs a. counted_failed s.count TooManyIterations a.count) setup
  counted_run_for bounded (suc turns) setup = counted_turn bounded (run_for turns setup) (counted_run_for bounded turns setup) setup

-- ---- a bound on the maxima

within_bounded : (bound : ℕ) → Bounded bound (λ m. m ≤ bound)
within_bounded bound = record { below = λ m h n i j. omega (arith, h, i) }

most_bounded : Bounded most_operations (λ m. Unit {0})
most_bounded = record { below = λ m h n i j. j }

count_at : (bound total : ℕ) (Fits : ℕ → Type 0) (end : End) → total ≤ bound → EndStands Fits total end → AtEnd (λ s. s.count ≤ bound) end
count_at bound total Fits (CompleteEnd s left) h i = omega (arith, h, i.count)
count_at bound total Fits end h i = tt

total_at : (total : ℕ) (Fits : ℕ → Type 0) (end : End) → EndStands Fits total end → AtEnd (λ s. s.count ≡ total) end
total_at total Fits (CompleteEnd s left) i = i.count
total_at total Fits end i = tt

maximum_at : (bound total : ℕ) (end : End) → EndStands (λ m. m ≤ bound) total end → AtEnd (λ s. s.settings.maximum ≤ bound) end
maximum_at bound total (CompleteEnd s left) i = i.maximum
maximum_at bound total end i = tt

counts_within : (bound start : ℕ) (Fits : ℕ → Type 0) (course : Course) → Counted bound Fits start course → CountsWithin bound start course
counts_within bound start Fits course h = record { few = omega (arith, h.few); count = count_at bound _ Fits course.end h.few h.at_end }

pub count_within : (bound : ℕ) (setup : Setup) (text : Text) (place depth : ℕ) (s : Store) (inputs : List Input) → s.count ≤ bound → s.settings.maximum ≤ bound → MaximaWithin bound inputs → CountsWithin bound s.count (run setup text place depth s inputs)
count_within bound setup text place depth s inputs h i j =
    counts_within bound s.count _ _ (counted_run_for bound (λ m. m ≤ bound) (within_bounded bound) enough_turns setup text place depth s inputs (record { count = h; maximum = i; others = j }))

pub maximum_within : (bound : ℕ) (setup : Setup) (text : Text) (place depth : ℕ) (s : Store) (inputs : List Input) → s.count ≤ bound → s.settings.maximum ≤ bound → MaximaWithin bound inputs → AtEnd (λ s. s.settings.maximum ≤ bound) (run setup text place depth s inputs).end
maximum_within bound setup text place depth s inputs h i j =
    maximum_at bound _ _ (counted_run_for bound (λ m. m ≤ bound) (within_bounded bound) enough_turns setup text place depth s inputs (record { count = h; maximum = i; others = j })).at_end

more_bounded : (start : ℕ) → Bounded (start + most_operations) (λ m. Unit {0})
more_bounded start = record { below = λ m h n i j. omega (arith, j) }

pub counts_path : (setup : Setup) (text : Text) (place depth : ℕ) (s : Store) (inputs : List Input) → let course = run setup text place depth s inputs in AtEnd (λ end. end.count ≡ s.count + length course.path) course.end
counts_path setup text place depth s inputs =
    total_at _ (λ m. Unit {0}) _ (counted_run_for (s.count + most_operations) (λ m. Unit {0}) (more_bounded s.count) enough_turns setup text place depth s inputs (record { count = omega arith; maximum = tt; others = λ k d l. tt })).at_end

pub count_at_most : (setup : Setup) (text : Text) (place depth : ℕ) (s : Store) (inputs : List Input) → s.count ≤ most_operations → CountsWithin most_operations s.count (run setup text place depth s inputs)
count_at_most setup text place depth s inputs h =
    counts_within most_operations s.count _ _ (counted_run_for most_operations (λ m. Unit {0}) most_bounded enough_turns setup text place depth s inputs (record { count = h; maximum = tt; others = λ k d l. tt }))
