-- What is spent from one state to the next, and how the calls that are left fall.
use Rattle.std.proofs.Common.{◌≡◌, ◌+◌, ◌≤◌, ◌<◌, List, Result, Ok, Err, IfOk, arith, ap, refl, ℕ, length, Some, None, ◌∙◌, sym, subst, suc, ◌*◌, Option, true, cond}
use Rattle.dwarf_base.specs.declared.errors.Error.{Error}
use Rattle.dwarf_meaning.specs.Requests.{Input, Request, OnAnswer, Settings}
use Rattle.dwarf_meaning.specs.Refusals.{Refusal}
use Rattle.dwarf_meaning.specs.Rest.{State, Status, Start, Running, RequestStatus, CompleteStatus, FaultStatus}
use Rattle.dwarf_meaning.specs.Bounds.{calls_left, calls_left_by, waiting, initial_due, answer_due, endings, faults_in, DecodesOnce, Spends, is_given}
use Rattle.dwarf_eval.specs.inner.StateChanges.{ComesToState, ComesToStateBy, HasReply, NearsItsEnd, Total, replies_by}
use Rattle.dwarf_meaning.specs.Locations.{Location}
use Rattle.dwarf_meaning.specs.Inputs.{with_settings}
use Rattle.dwarf_eval.proofs.Loads.{AllGiven, start_waits, piece_due, due_waits, request_waits, kept_in}
use Rattle.std.proofs.lemmas.Bool.{and_parts, cond-true}
use Rattle.dwarf_value.specs.declared.types.Value.{Value}
use Rattle.dwarf_meaning.specs.RunLaws.{waits_of}
use Rattle.dwarf_meaning.specs.Stores.{Last, Pieced, Located}
use Rattle.dwarf_meaning.proofs.Turns.{waits_little}

pub nears_by : (old new : State) (was is : Status) → old.status ≡ was → new.status ≡ is → calls_left_by new is + replies_by is ≤ calls_left_by old was → NearsItsEnd old new
nears_by old new was is e f h =
    let before = ap (calls_left_by old) e in
    let after = ap (calls_left_by new) f in
    let stop = ap replies_by f in
    omega (arith, before, after, stop, h)

pub nears_more : (a b c : State) → NearsItsEnd a b → NearsItsEnd b c → NearsItsEnd a c
nears_more a b c h i = omega (arith, h, i)

-- a call that ends
pub fewer_ended : (old new : State) (status : Status) → new.status ≡ status → replies_by status ≡ 1 → NearsItsEnd old new → calls_left new < calls_left old
fewer_ended old new status is ends h =
    let stop = ap replies_by is in
    omega (arith, h, stop, ends)

-- a call that met a fault
pub fewer_fallen : (old new : State) (request : Request) (on_answer : OnAnswer) (error : Error) → old.status ≡ RequestStatus request on_answer → new.status ≡ FaultStatus error → calls_left new < calls_left old
fewer_fallen old new request on_answer error was is =
    let before = ap (calls_left_by old) was in
    let after = ap (calls_left_by new) is in
    omega (arith, before, after)

pub if_ok : {Y : Type 0} (P : Type 0) (replied : Result Y Error) → P → IfOk replied (λ t. P)
if_ok P (Ok t) h = h
if_ok P (Err e) h = tt

module _ (old : State) (totals : Refusal → List Input → Total) (new : State) (request : Request) (on_answer : OnAnswer) (was : old.status ≡ RequestStatus request on_answer) where
  fewer_by : (status : Status) → new.status ≡ status → HasReply status → ComesToStateBy old totals new status → calls_left new < calls_left old
  fewer_by (RequestStatus request on_answer) e o h = fewer_ended old new (RequestStatus request on_answer) e (omega arith) h.nears
  fewer_by (CompleteStatus value) e o h = fewer_ended old new (CompleteStatus value) e (omega arith) h.nears
  fewer_by (FaultStatus error) e o h = fewer_fallen old new request on_answer error was e
  fewer_by _ e o h = absurd o

  -- an answer leaves fewer calls
  pub comes_fewer : HasReply new.status → ComesToState old totals new → calls_left new < calls_left old
  comes_fewer o h = fewer_by new.status refl o h

pub spent_here : (x : State) → Spends 0 x x
spent_here x = record { items = omega arith; callers = omega arith; decodings = omega arith; once = λ d. d }

-- one call more
pub spent_more : (more : ℕ) (a b c : State) → Spends more a b → Spends 0 b c → Spends more a c
spent_more more a b c h i =
    record { items = omega (arith, h.items, i.items); callers = omega (arith, h.callers, i.callers); decodings = omega (arith, h.decodings, i.decodings); once = λ d. i.once (h.once d) }

-- a state with the same pieces, status and counts
once_alike : (old new : State) → faults_in new.status ≡ faults_in old.status → new.store.pieces ≡ old.store.pieces → new.store.count ≡ old.store.count → new.decodings ≡ old.decodings → waiting new.store.last new.status ≡ waiting old.store.last old.status → DecodesOnce old → DecodesOnce new
once_alike old new faults pieces count decodings due d =
    let ended = ap endings pieces in
    record { each = omega (arith, d.each, ended, count, decodings); no_other = omega (arith, d.no_other, ended, count, decodings, faults); given = subst AllGiven (sym due) d.given }

-- an initial value
pub spent_initial : (number : ℕ) (a b c : State) → b.status ≡ Start None → c ≡ record b { status = Start (Some number) } → Spends 0 a b → Spends 1 a c
spent_initial number a b c was is h =
    let i = ap initial_due was in
    let d = ap answer_due was in
    let met = ap faults_in was in
    let waits : waiting b.store.last (Start (Some number)) ≡ waiting b.store.last b.status = start_waits b.store.last (Some number) ∙ sym (ap (waiting b.store.last) was ∙ start_waits b.store.last None) in
    let due = ap (λ (w : List Location). length w) waits in
    subst (Spends 1 a) (sym is) (record {
      items = omega (arith, h.items, i, d, due);
      callers = omega (arith, h.callers, d);
      decodings = omega (arith, h.decodings, due);
      once = λ was_once. once_alike b (record b { status = Start (Some number) }) (omega (arith, met)) refl refl refl waits (h.once was_once);
    })

-- the settings
pub setting_spends : (settings : Settings) (x : State) → Spends 0 x (with_settings settings x)
setting_spends settings x = record { items = omega arith; callers = omega arith; decodings = omega arith; once = once_alike x (with_settings settings x) refl refl refl refl refl }

-- what is due in a state that isn't over
record Due (x : State) (items callers : ℕ) : Type 0 where
  waits : waiting x.store.last x.status ≡ waiting x.store.last Running
  locations : length (waiting x.store.last x.status) ≡ waits_of x.store.last
  initial : initial_due x.status ≡ items
  answer : answer_due x.status ≡ callers

due_by : (x : State) (status : Status) → x.status ≡ status → waiting x.store.last status ≡ waiting x.store.last Running → Due x (initial_due status) (answer_due status)
due_by x status e waits =
    let w = ap (waiting x.store.last) e ∙ waits in
    record { waits = w; locations = due_waits x.store.last _ w; initial = ap initial_due e; answer = ap answer_due e }

running : (x : State) → x.status ≡ Running → Due x 0 0
running x e = due_by x Running e refl

-- this many operations more were counted and pieces ended, and this many decoded, from where no fault was met
once_by : (old new : State) → faults_in old.status ≡ 0 → new.decodings + old.store.count + endings old.store.pieces ≡ old.decodings + new.store.count + endings new.store.pieces → AllGiven (waiting new.store.last new.status) → DecodesOnce old → DecodesOnce new
once_by old new sound same given d =
    record { each = omega (arith, d.each, same); no_other = omega (arith, d.no_other, same, sound); given = given }

module _ (old new : State) where
  -- an operation that was counted and read, to a state where an answer is due or none
  pub counted_spends : (status : Status) → old.status ≡ Running → new.status ≡ status → waiting new.store.last status ≡ waiting new.store.last Running → initial_due status ≡ 0 → length new.callers ≡ length old.callers → new.store.count ≡ old.store.count + 1 → new.decodings ≡ old.decodings + 1 → answer_due status ≤ 1 → kept_in new.store + answer_due status ≤ kept_in old.store + 1 → endings new.store.pieces ≡ endings old.store.pieces → AllGiven (waiting new.store.last Running) → Spends 0 old new
  counted_spends status was is waits none callers count decodings one kept ended given =
      let o = running old was in
      let n = due_by new status is waits in
      let little = waits_little new.store.last in
      record { items = omega (arith, o.locations, o.initial, o.answer, n.locations, n.initial, n.answer, none, callers, count, kept); callers = omega (arith, o.answer, n.answer, callers, count, one); decodings = omega (arith, o.locations, n.locations, count, decodings, little); once = once_by old new (ap faults_in was) (omega (arith, count, decodings, ended)) (subst AllGiven (sym n.waits) given) }

  -- the piece after a location: it isn't counted
  pub held_spends : (location : Location) → old.status ≡ Running → new.status ≡ Running → length new.callers ≡ length old.callers → new.store.count ≡ old.store.count → new.decodings ≡ old.decodings + 1 → old.store.last ≡ Located location → new.store.last ≡ Pieced → kept_in new.store ≡ kept_in old.store → endings new.store.pieces ≡ endings old.store.pieces + cond (is_given location) 1 0 → Spends 0 old new
  held_spends location was is callers count decodings located pieced kept ended =
      let o = running old was in
      let n = running new is in
      let waited = ap waits_of located in
      let waits = ap waits_of pieced in
      record {
        items = omega (arith, o.locations, o.initial, o.answer, n.locations, n.initial, n.answer, callers, count, kept);
        callers = omega (arith, o.answer, n.answer, callers, count);
        decodings = omega (arith, o.locations, n.locations, count, decodings, waited, waits);
        once = λ d.
            let given = subst (λ (l : Last). AllGiven (waiting l Running)) located (subst AllGiven o.waits d.given) in
            let one = cond-true {A = ℕ} (is_given location) 1 0 (and_parts (is_given location) true given).0 in
            once_by old new (ap faults_in was) (omega (arith, count, decodings, ended, one)) (subst AllGiven (sym n.waits) (subst (λ (l : Last). AllGiven (waiting l Running)) (sym pieced) refl)) d;
      }

  -- back in the caller
  pub back_spends : old.status ≡ Running → new.status ≡ Running → length old.callers ≡ suc (length new.callers) → new.store ≡ old.store → new.decodings ≡ old.decodings → Spends 0 old new
  back_spends was is callers store decodings =
      let o = running old was in
      let n = running new is in
      let kept = ap kept_in store in
      let count = ap (λ (s : _). s.count) store in
      let waits = ap (λ (s : _). waits_of s.last) store in
      let ended = ap (λ (s : _). endings s.pieces) store in
      record {
        items = omega (arith, o.locations, o.initial, o.answer, n.locations, n.initial, n.answer, callers, count, kept);
        callers = omega (arith, o.answer, n.answer, callers, count);
        decodings = omega (arith, o.locations, n.locations, count, decodings, waits);
        once = λ d. once_by old new (ap faults_in was) (omega (arith, count, decodings, ended)) (subst AllGiven (sym n.waits) (subst (λ (s : _). AllGiven (waiting s.last Running)) (sym store) (subst AllGiven o.waits d.given))) d;
      }

  -- the end
  pub over_spends : (value : Option Value) → old.status ≡ Running → new.status ≡ CompleteStatus value → length new.callers ≡ length old.callers → new.store.count ≡ old.store.count → new.decodings ≡ old.decodings → length new.store.values + length new.store.pieces ≤ length old.store.values + length old.store.pieces + waits_of old.store.last → endings new.store.pieces ≡ endings old.store.pieces → Spends 0 old new
  over_spends value was is callers count decodings kept ended =
      let o = running old was in
      let v = ap (waiting new.store.last) is in
      let q = ap (λ (l : List Location). length l) v in
      let j = ap initial_due is in
      let b = ap answer_due is in
      record { items = omega (arith, o.locations, o.initial, o.answer, q, j, b, callers, count, kept); callers = omega (arith, o.answer, b, callers, count); decodings = omega (arith, o.locations, q, count, decodings); once = once_by old new (ap faults_in was) (omega (arith, count, decodings, ended)) (subst AllGiven (sym v) refl) }

  -- the beginning, with a value that is pushed or with none
  pub begun_spends : (initial_value : Option ℕ) → old.status ≡ Start initial_value → new.status ≡ Running → length new.callers ≡ length old.callers → new.store.count ≡ old.store.count → new.decodings ≡ old.decodings → new.store.last ≡ old.store.last → kept_in new.store ≤ kept_in old.store + initial_due (Start initial_value) → new.store.pieces ≡ old.store.pieces → Spends 0 old new
  begun_spends initial_value was is callers count decodings last kept pieces =
      let waits = ap waits_of last in
      let ended = ap endings pieces in
      let o = due_by old (Start initial_value) was (start_waits old.store.last initial_value) in
      let n = running new is in
      record {
        items = omega (arith, o.locations, o.initial, o.answer, n.locations, n.initial, n.answer, callers, count, kept);
        callers = omega (arith, o.answer, n.answer, callers, count);
        decodings = omega (arith, o.locations, n.locations, count, decodings, waits);
        once = λ d. once_by old new (ap faults_in was) (omega (arith, count, decodings, ended)) (subst AllGiven (sym n.waits) (subst (λ (l : Last). AllGiven (waiting l Running)) (sym last) (subst AllGiven o.waits d.given))) d;
      }

  -- an answer: a value more at most, or a caller more at most
  pub answered_spends : (request : Request) (on_answer : OnAnswer) → old.status ≡ RequestStatus request on_answer → new.status ≡ Running → length new.callers ≤ length old.callers + 1 → length new.callers + kept_in new.store ≤ length old.callers + kept_in old.store + 1 → new.store.count ≡ old.store.count → new.decodings ≡ old.decodings → waits_of new.store.last ≤ waits_of old.store.last → new.store.pieces ≡ old.store.pieces → (AllGiven (waiting old.store.last Running) → AllGiven (waiting new.store.last Running)) → Spends 0 old new
  answered_spends request on_answer was is callers kept count decodings waits pieces gives =
      let ended = ap endings pieces in
      let o = due_by old (RequestStatus request on_answer) was (request_waits old.store.last request on_answer) in
      let n = running new is in
      record {
        items = omega (arith, o.locations, o.initial, o.answer, n.locations, n.initial, n.answer, kept, count);
        callers = omega (arith, o.answer, n.answer, callers, count);
        decodings = omega (arith, o.locations, n.locations, count, decodings, waits);
        once = λ d. once_by old new (ap faults_in was) (omega (arith, count, decodings, ended)) (subst AllGiven (sym n.waits) (gives (subst AllGiven o.waits d.given))) d;
      }

-- a fault: no more items and callers are there than before, and each operation that was counted was decoded, and one more at most
pub fallen_spends : (old new : State) (error : Error) → faults_in old.status ≡ 0 → new.status ≡ FaultStatus error → length new.callers ≤ length old.callers → old.store.count ≤ new.store.count → length new.store.values + length new.store.pieces ≤ length old.store.values + length old.store.pieces → new.decodings + 2 * old.store.count ≤ old.decodings + piece_due old.store.last old.status + 2 * new.store.count → new.store.pieces ≡ old.store.pieces → old.decodings + new.store.count ≤ new.decodings + old.store.count → new.decodings + old.store.count ≤ old.decodings + new.store.count + 1 → Spends 0 old new
fallen_spends old new error sound is callers count lists decodings pieces each one =
    let v = ap (waiting new.store.last) is in
    let q = ap (λ (l : List Location). length l) v in
    let j = ap initial_due is in
    let b = ap answer_due is in
    let ended = ap endings pieces in
    let met = ap faults_in is in
    record {
      items = omega (arith, q, j, b, callers, count, lists);
      callers = omega (arith, b, callers, count);
      decodings = omega (arith, q, decodings);
      once = λ d.
          record { each = omega (arith, d.each, each, ended); no_other = omega (arith, d.no_other, one, ended, sound, met); given = subst AllGiven (sym v) refl };
    }
