-- What pushes and operations add to what is kept, and how many pieces ended a location.
use Rattle.std.proofs.Common.{ℕ, ◌≡◌, ◌+◌, ◌≤◌, List, [], ◌∷◌, ◌++◌, length, Result, Ok, Err, arith, refl, subst, nat_lt, Option, Some, None, ap, false, cond, ◌&&◌, is_some, IsTrue, rules}
use Rattle.std.proofs.lemmas.Bool.{cond_both}
use Rattle.std.proofs.lemmas.List.{length-append}
use Rattle.dwarf_base.specs.Faults.{Fault}
use Rattle.dwarf_value.specs.declared.types.Value.{Value}
use Rattle.dwarf_meaning.specs.Operations.{Operation}
use Rattle.dwarf_meaning.specs.Locations.{Piece, Location, Empty, InRegister, AtAddress, HoldsValue, HoldsBytes, PointsInto}
use Rattle.dwarf_meaning.specs.Acts.{Act, Pushes, Branches, Locates, EndsPiece, RequestAct, FaultAct, on_top}
use Rattle.dwarf_meaning.specs.RunLaws.{waits_of}
use Rattle.dwarf_meaning.specs.Stores.{Setup, Store, Last, Plain, Pieced, push_value, push_piece, push_caller, push_values, Next, Goes, RequestNext, FaultNext, next_at, do_act, branch_target, address_bits, Located}
use Rattle.dwarf_meaning.specs.Refusals.{Never, push_with_room}
use Rattle.dwarf_meaning.specs.Rest.{with_refusal, Status, Start, Running, RequestStatus}
use Rattle.dwarf_eval.specs.inner.StateChanges.{StoreSteps, has_location, before_pushes}
use Rattle.dwarf_meaning.proofs.Counts.{OnStore, bound_store, on_bound, OnNext, on_goes}
use Rattle.dwarf_meaning.proofs.Effects.{IsActOf, pushes, branches, locates, ends, asks, IsGivenBy, IsOwnPlace}
use Rattle.std.specs.List.{list_all}
use Rattle.std.proofs.lemmas.List.Sums.{sum_by-append}
use Rattle.dwarf_base.specs.declared.errors.Error.TheVariants.{NotEnoughStackItems}
use Rattle.dwarf_value.specs.Values.{to_u64_of}
use Rattle.dwarf_meaning.specs.Meaning.{Outcome, FaultOutcome, CompleteOutcome, completion_of, whole_piece, finish_value, finish, has_pieces}
use Rattle.dwarf_meaning.specs.Requests.{Request, OnAnswer}
use Rattle.dwarf_meaning.specs.Bounds.{waiting, is_given, endings}

-- the values and the pieces, with one that waits
abbrev pub kept_in : Store → ℕ
kept_in s = length s.values + length s.pieces + waits_of s.last

abbrev Keeping : ℕ → Store → Type 0
Keeping n t = kept_in t ≡ n

value_adds : (setup : Setup) (value : Value) (s : Store) → OnStore (Keeping (kept_in s + 1)) (push_value setup value s)
unfolding push_value
value_adds setup value s =
    bound_store (Keeping (kept_in s + 1)) (push_with_room setup.limits.values (length s.values) s.refusal) (λ left. record s { values = value ∷ s.values; refusal = left }) (λ left. omega arith)

piece_adds : (setup : Setup) (piece : Piece) (s : Store) → OnStore (Keeping (kept_in s + 1)) (push_piece setup piece s)
unfolding push_piece
piece_adds setup piece s =
    let longer = length-append s.pieces (piece ∷ []) in
    bound_store (Keeping (kept_in s + 1)) (push_with_room setup.limits.pieces (length s.pieces) s.refusal) (λ left. record s { pieces = s.pieces ++ piece ∷ []; refusal = left }) (λ left. omega (arith, longer))

-- what is kept after a push: a value more, a piece more, or the same
pub value_stored : (setup : Setup) (value : Value) (old new : Store) → StoreSteps (push_value setup value) old Ok new → with_refusal Never new ≡ record old { values = value ∷ old.values; refusal = Never }
unfolding push_value
value_stored setup value old new h =
    let s : Store = with_refusal (before_pushes h.pushes Never) old in
    let P : Store → Type 0 = λ t. t ≡ record s { values = value ∷ s.values; refusal = t.refusal } in
    subst (OnStore P) (h.same Never) (bound_store P (push_with_room setup.limits.values (length s.values) s.refusal) (λ left. record s { values = value ∷ s.values; refusal = left }) (λ left. refl))

pub piece_stored : (setup : Setup) (piece : Piece) (old new : Store) → StoreSteps (push_piece setup piece) old Ok new → with_refusal Never new ≡ record old { pieces = old.pieces ++ piece ∷ []; refusal = Never }
unfolding push_piece
piece_stored setup piece old new h =
    let s : Store = with_refusal (before_pushes h.pushes Never) old in
    let P : Store → Type 0 = λ t. t ≡ record s { pieces = s.pieces ++ piece ∷ []; refusal = t.refusal } in
    subst (OnStore P) (h.same Never) (bound_store P (push_with_room setup.limits.pieces (length s.pieces) s.refusal) (λ left. record s { pieces = s.pieces ++ piece ∷ []; refusal = left }) (λ left. refl))

pub caller_stored : (setup : Setup) (depth : ℕ) (old new : Store) → StoreSteps (push_caller setup depth) old Ok new → with_refusal Never new ≡ record old { refusal = Never }
unfolding push_caller
caller_stored setup depth old new h =
    let s : Store = with_refusal (before_pushes h.pushes Never) old in
    let P : Store → Type 0 = λ t. t ≡ record s { refusal = t.refusal } in
    subst (OnStore P) (h.same Never) (bound_store P (push_with_room setup.limits.callers depth s.refusal) (λ left. record s { refusal = left }) (λ left. refl))

pub values_add : (setup : Setup) (values : List Value) (s : Store) → OnStore (Keeping (kept_in s + length values)) (push_values setup values s)
values_add setup [] s = omega arith
values_add setup (value ∷ values) s =
    on_bound (Keeping (kept_in s + 1)) (Keeping (kept_in s + length (value ∷ values))) (push_value setup value s) (push_values setup values) (value_adds setup value s)
    (λ t e. let n : kept_in t + length values ≡ kept_in s + length (value ∷ values) = omega (arith, e) in subst (λ (k : ℕ). OnStore (Keeping k) (push_values setup values t)) n (values_add setup values t))

-- an operation leaves this many, and one more if it goes on
abbrev pub IsLighter : ℕ → Next → Type 0
IsLighter n (Goes place t) = kept_in t ≤ n + 1
IsLighter n (RequestNext request on_answer t) = kept_in t ≤ n
IsLighter n (FaultNext fault) = Unit {0}

goes_lighter : (n m place : ℕ) (r : Result Store Fault) → n ≤ m + 1 → OnStore (Keeping n) r → IsLighter m (next_at place r)
goes_lighter n m place (Ok s) h e = omega (arith, h, e)
goes_lighter n m place (Err fault) h e = tt

pub done_lighter : {op : Operation} (setup : Setup) (place len : ℕ) (a : Act) (s : Store) → IsActOf op (length s.values) a → IsLighter (kept_in s) (do_act setup place len a s)
done_lighter setup place len (Pushes rest pushed) s (pushes fewer h) =
    goes_lighter (length rest + length s.pieces + 0 + length pushed) (kept_in s) place _ (omega (arith, h)) (values_add setup pushed (record s { values = rest; last = Plain }))
done_lighter setup place len (Branches rest target) s (branches h _) = cond_both (nat_lt len (branch_target setup place target)) _ _ (IsLighter (kept_in s)) (λ e. tt) (λ e. omega (arith, h))
done_lighter setup place len (Locates rest location) s (locates h _) = omega (arith, h)
done_lighter setup place len (EndsPiece rest piece) s (ends h _) =
    goes_lighter (length rest + length s.pieces + 0 + 1) (kept_in s) place _ (omega (arith, h)) (piece_adds setup piece (record s { values = rest; last = Pieced }))
done_lighter setup place len (RequestAct rest request on_answer) s (asks h _) = omega (arith, h)
done_lighter setup place len (FaultAct fault) s h = tt

-- 1 if a location waits for its piece, until the evaluation is over
abbrev pub piece_due : Last → Status → ℕ
piece_due last status = length (waiting last status)

-- until then it waits whatever the status is
pub start_waits : (last : Last) (initial_value : Option ℕ) → waiting last (Start initial_value) ≡ waiting last Running
start_waits (Located location) initial_value = refl
start_waits _ initial_value = refl

pub request_waits : (last : Last) (request : Request) (on_answer : OnAnswer) → waiting last (RequestStatus request on_answer) ≡ waiting last Running
request_waits (Located location) request on_answer = refl
request_waits _ request on_answer = refl

pub due_waits : (last : Last) (locations : List Location) → locations ≡ waiting last Running → length locations ≡ waits_of last
due_waits (Located location) locations e = ap (λ (l : List Location). length l) e
due_waits _ locations e = ap (λ (l : List Location). length l) e

-- an operation gave each location
abbrev pub AllGiven : List Location → Type 0
AllGiven locations = IsTrue (list_all is_given locations)

pub free_given : (last : Last) → has_location last ≡ false → AllGiven (waiting last Running)
free_given (Located location) h = cc
free_given _ h = refl

-- 1 for a piece that ended a location
abbrev pub ending_of : Piece → ℕ
ending_of piece = cond (is_some piece.size_in_bits && is_given piece.location) 1 0

-- with one piece more
pub endings_more : (pieces : List Piece) (piece : Piece) → endings (pieces ++ piece ∷ []) ≡ endings pieces + ending_of piece
endings_more pieces piece =
    let e = sum_by-append ending_of pieces (piece ∷ []) in
    omega (arith, e)

-- ---- pushes

-- this many pieces ended a location
abbrev Ending : ℕ → Store → Type 0
Ending n t = endings t.pieces ≡ n

piece_ends : (setup : Setup) (piece : Piece) (s : Store) → OnStore (Ending (endings s.pieces + ending_of piece)) (push_piece setup piece s)
unfolding push_piece
piece_ends setup piece s =
    let n = endings s.pieces + ending_of piece in
    bound_store (Ending n) (push_with_room setup.limits.pieces (length s.pieces) s.refusal) (λ left. record s { pieces = s.pieces ++ piece ∷ []; refusal = left }) (λ left. endings_more s.pieces piece)

-- as many pieces ended a location, and an operation gave the one that waits
pub record EndsNoMore (n : ℕ) (t : Store) : Type 0 where
  pub pieces : endings t.pieces ≡ n
  pub given : AllGiven (waiting t.last Running)

value_ends : (n : ℕ) (setup : Setup) (value : Value) (s : Store) → EndsNoMore n s → OnStore (EndsNoMore n) (push_value setup value s)
unfolding push_value
value_ends n setup value s h =
    bound_store (EndsNoMore n) (push_with_room setup.limits.values (length s.values) s.refusal) (λ left. record s { values = value ∷ s.values; refusal = left }) (λ left. record { pieces = h.pieces; given = h.given })

values_end : (n : ℕ) (setup : Setup) (values : List Value) (s : Store) → EndsNoMore n s → OnStore (EndsNoMore n) (push_values setup values s)
values_end n setup [] s h = h
values_end n setup (value ∷ values) s h = on_bound (EndsNoMore n) (EndsNoMore n) (push_value setup value s) (push_values setup values) (value_ends n setup value s h) (λ t i. values_end n setup values t i)

own_ends : (n : ℕ) (setup : Setup) (piece : Piece) (s : Store) → ending_of piece ≡ 0 → EndsNoMore n s → OnStore (EndsNoMore n) (push_piece setup piece s)
unfolding push_piece
own_ends n setup piece s none h =
    let more = endings_more s.pieces piece in
    bound_store (EndsNoMore n) (push_with_room setup.limits.pieces (length s.pieces) s.refusal) (λ left. record s { pieces = s.pieces ++ piece ∷ []; refusal = left })
    (λ left. record { pieces = omega (arith, more, h.pieces, none); given = h.given })

given_by : (op : Operation) (location : Location) → IsGivenBy op location → AllGiven (location ∷ [])
given_by op (InRegister register) g = refl
given_by op (HoldsValue value) g = refl
given_by op (HoldsBytes text) g = refl
given_by op (PointsInto value byte_offset) g = refl
given_by op _ g = absurd g

own_by : (size_in_bits bit_offset : Option ℕ) (location : Location) → IsOwnPlace location → ending_of (record { size_in_bits = size_in_bits; bit_offset = bit_offset; location = location }) ≡ 0
own_by None bit_offset location o = refl
own_by (Some size_in_bits) bit_offset Empty o = refl
own_by (Some size_in_bits) bit_offset (AtAddress address) o = refl
own_by (Some size_in_bits) bit_offset _ o = absurd o

-- an operation that is counted ends no location
pub done_ends : (op : Operation) (setup : Setup) (place len : ℕ) (a : Act) (s : Store) → IsActOf op (length s.values) a → AllGiven (waiting s.last Running) → OnNext (EndsNoMore (endings s.pieces)) (do_act setup place len a s)
done_ends op setup place len (Pushes rest pushed) s h free =
    on_goes (EndsNoMore (endings s.pieces)) place _ (values_end (endings s.pieces) setup pushed _ (record { pieces = refl; given = refl }))
done_ends op setup place len (Branches rest target) s h free =
    cond_both (nat_lt len (branch_target setup place target)) _ _ (OnNext (EndsNoMore (endings s.pieces))) (λ e. tt) (λ e. record { pieces = refl; given = refl })
done_ends op setup place len (Locates rest location) s (locates _ g) free =
    record { pieces = refl; given = given_by op location g }
done_ends op setup place len (EndsPiece rest piece) s (ends _ own) free =
    on_goes (EndsNoMore (endings s.pieces)) place _ (own_ends (endings s.pieces) setup piece _ (own_by piece.size_in_bits piece.bit_offset piece.location own) (record { pieces = refl; given = refl }))
done_ends op setup place len (RequestAct rest request on_answer) s h free = record { pieces = refl; given = free }
done_ends op setup place len (FaultAct fault) s h free = tt

-- ---- the end

-- if it completes, as many pieces ended a location
abbrev pub EndsAlike : ℕ → Outcome → Type 0
EndsAlike n (CompleteOutcome pieces value) = endings pieces ≡ n
EndsAlike n _ = Unit {0}

stored_alike : (n : ℕ) (value : Option Value) (r : Result Store Fault) → OnStore (Ending n) r → EndsAlike n (completion_of value r)
stored_alike n value (Ok s) h = h
stored_alike n value (Err fault) h = tt

whole_alike : (setup : Setup) (value : Option Value) (location : Location) (s : Store) → EndsAlike (endings s.pieces) (completion_of value (push_piece setup (whole_piece location) s))
whole_alike setup value location s =
    stored_alike (endings s.pieces) value (push_piece setup (whole_piece location) s)
    (let n : endings s.pieces + 0 ≡ endings s.pieces = omega arith in subst (λ (k : ℕ). OnStore (Ending k) (push_piece setup (whole_piece location) s)) n (piece_ends setup (whole_piece location) s))

value_alike : (n : ℕ) (values : List Value) (go : Value → List Value → Outcome) → ((x : Value) (rest : List Value) → EndsAlike n (go x rest)) → EndsAlike n (on_top values (FaultOutcome NotEnoughStackItems) go)
unfolding on_top
value_alike n [] go h = tt
value_alike n (x ∷ rest) go h = h x rest

top_alike : (setup : Setup) (s : Store) → EndsAlike (endings s.pieces) (finish_value setup s)
top_alike setup s = value_alike (endings s.pieces) s.values _ (λ x rest. whole_alike setup (Some x) (AtAddress (to_u64_of (address_bits setup) x)) (record s { values = rest }))

finish_alike_by : (setup : Setup) (s : Store) (last : Last) → EndsAlike (endings s.pieces) (finish setup (record s { last = last }))
finish_alike_by setup s (Located location) = cond_both (has_pieces s.pieces) _ _ (EndsAlike (endings s.pieces)) (λ e. tt) (λ e. whole_alike setup None location (record s { last = Located location }))
finish_alike_by setup s last = cond_both (has_pieces s.pieces) _ _ (EndsAlike (endings s.pieces)) (λ e. search rules) (λ e. top_alike setup (record s { last = last }))

-- the end adds at most the whole variable
pub finish_alike : (setup : Setup) (s : Store) → EndsAlike (endings s.pieces) (finish setup s)
finish_alike setup s = finish_alike_by setup s s.last
