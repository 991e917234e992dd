-- What an operation does, a piece after a location and an answer leave the count and the settings as they are.
use Rattle.std.proofs.Common.{ℕ, ◌≡◌, nat_lt, List, [], ◌∷◌, ◌++◌, length, Result, Ok, Err, refl, ◌∙◌}
use Rattle.std.proofs.lemmas.Bool.{cond_both}
use Rattle.dwarf_base.specs.Faults.{Fault, ◌>>=◌}
use Rattle.dwarf_value.specs.declared.types.Value.{Value}
use Rattle.dwarf_meaning.specs.Operations as operation
use Rattle.dwarf_meaning.specs.Operations.{Operation}
use Rattle.dwarf_meaning.specs.Locations.{Location, Piece, sized_piece}
use Rattle.dwarf_meaning.specs.Requests.{Settings}
use Rattle.dwarf_meaning.specs.Acts.{Act, Pushes, Branches, Locates, EndsPiece, RequestAct, FaultAct}
use Rattle.dwarf_meaning.specs.Stores.{Setup, Store, Last, Plain, Pieced, push_value, push_piece, push_caller, push_values, Next, Goes, RequestNext, FaultNext, next_at, branch_target, do_act}
use Rattle.dwarf_meaning.specs.Run.{located_act}
use Rattle.dwarf_meaning.specs.Refusals.{Refusal, push_with_room}

-- if a store comes of it, P holds of that
abbrev pub OnStore : (Store → Type 0) → Result Store Fault → Type 0
OnStore P (Ok s) = P s
OnStore P (Err fault) = Unit {0}

-- if the run goes on, P holds of what is kept
abbrev pub OnNext : (Store → Type 0) → Next → Type 0
OnNext P (Goes place s) = P s
OnNext P (RequestNext request on_answer s) = P s
OnNext P (FaultNext fault) = Unit {0}

-- what only counting and inputs change
pub record Tally : Type 0 where
  pub count : ℕ
  pub settings : Settings

abbrev pub tally_of : Store → Tally
tally_of s = record { count = s.count; settings = s.settings }

abbrev pub HasTally : Tally → Store → Type 0
HasTally m s = tally_of s ≡ m

pub bound_store : (P : Store → Type 0) (r : Result Refusal Fault) (make : Refusal → Store) → ((left : Refusal) → P (make left)) → OnStore P (r >>= λ left. Ok (make left))
bound_store P (Ok left) make h = h left
bound_store P (Err fault) make h = tt

pub tally-push_value : (setup : Setup) (value : Value) (s : Store) → OnStore (HasTally (tally_of s)) (push_value setup value s)
unfolding push_value
tally-push_value setup value s =
    bound_store (HasTally (tally_of s)) (push_with_room setup.limits.values (length s.values) s.refusal) (λ left. record s { values = value ∷ s.values; refusal = left }) (λ left. refl)

-- pushing a piece leaves the kind of the last operation as it is, too
pub record KeepsBoth (m : Tally) (sort : Last) (s : Store) : Type 0 where
  pub tally : tally_of s ≡ m
  pub last : s.last ≡ sort

pub both-push_piece : (setup : Setup) (piece : Piece) (s : Store) → OnStore (KeepsBoth (tally_of s) s.last) (push_piece setup piece s)
unfolding push_piece
both-push_piece setup piece s =
    bound_store (KeepsBoth (tally_of s) s.last) (push_with_room setup.limits.pieces (length s.pieces) s.refusal) (λ left. record s { pieces = s.pieces ++ piece ∷ []; refusal = left })
    (λ left. record { tally = refl; last = refl })

tally_of_both : (m : Tally) (last : Last) (r : Result Store Fault) → OnStore (KeepsBoth m last) r → OnStore (HasTally m) r
tally_of_both m last (Ok s) h = h.tally
tally_of_both m last (Err fault) h = tt

pub tally-push_piece : (setup : Setup) (piece : Piece) (s : Store) → OnStore (HasTally (tally_of s)) (push_piece setup piece s)
tally-push_piece setup piece s = tally_of_both (tally_of s) s.last (push_piece setup piece s) (both-push_piece setup piece s)

pub tally-push_caller : (setup : Setup) (depth : ℕ) (s : Store) → OnStore (HasTally (tally_of s)) (push_caller setup depth s)
unfolding push_caller
tally-push_caller setup depth s = bound_store (HasTally (tally_of s)) (push_with_room setup.limits.callers depth s.refusal) (λ left. record s { refusal = left }) (λ left. refl)

pub on_bound : (P Q : Store → Type 0) (r : Result Store Fault) (next : Store → Result Store Fault) → OnStore P r → ((s : Store) → P s → OnStore Q (next s)) → OnStore Q (r >>= next)
on_bound P Q (Ok s) next h i = i s h
on_bound P Q (Err fault) next h i = tt

tally_along : (m : Tally) (s : Store) (r : Result Store Fault) → tally_of s ≡ m → OnStore (HasTally (tally_of s)) r → OnStore (HasTally m) r
tally_along m s (Ok t) e h = h ∙ e
tally_along m s (Err fault) e h = tt

pub tally-push_values : (setup : Setup) (values : List Value) (s : Store) → OnStore (HasTally (tally_of s)) (push_values setup values s)
tally-push_values setup [] s = refl
tally-push_values setup (value ∷ values) s =
    on_bound (HasTally (tally_of s)) (HasTally (tally_of s)) (push_value setup value s) (push_values setup values) (tally-push_value setup value s)
    (λ t e. tally_along (tally_of s) t (push_values setup values t) e (tally-push_values setup values t))

pub on_goes : (P : Store → Type 0) (place : ℕ) (r : Result Store Fault) → OnStore P r → OnNext P (next_at place r)
on_goes P place (Ok s) h = h
on_goes P place (Err fault) h = tt

pub tally-done : (setup : Setup) (place len : ℕ) (a : Act) (s : Store) → OnNext (HasTally (tally_of s)) (do_act setup place len a s)
tally-done setup place len (Pushes rest pushed) s =
    on_goes (HasTally (tally_of s)) place _ (tally-push_values setup pushed (record s { values = rest; last = Plain }))
tally-done setup place len (Branches rest target) s = cond_both (nat_lt len (branch_target setup place target)) _ _ (OnNext (HasTally (tally_of s))) (λ e. tt) (λ e. refl)
tally-done setup place len (Locates rest location) s = refl
tally-done setup place len (EndsPiece rest piece) s = on_goes (HasTally (tally_of s)) place _ (tally-push_piece setup piece (record s { values = rest; last = Pieced }))
tally-done setup place len (RequestAct rest request on_answer) s = refl
tally-done setup place len (FaultAct fault) s = tt

-- after a location the run goes on after its piece, or fails
abbrev pub OnPiece : Tally → Next → Type 0
OnPiece m (Goes place s) = KeepsBoth m Pieced s
OnPiece m (RequestNext request on_answer s) = ⊥
OnPiece m (FaultNext fault) = Unit {0}

piece_goes : (m : Tally) (place : ℕ) (r : Result Store Fault) → OnStore (KeepsBoth m Pieced) r → OnPiece m (next_at place r)
piece_goes m place (Ok s) h = h
piece_goes m place (Err fault) h = tt

pub both-located : (setup : Setup) (location : Location) (place len : ℕ) (s : Store) (op : Operation) → OnPiece (tally_of s) (do_act setup place len (located_act location s place op) s)
both-located setup location place len s (operation.Piece size_in_bits bit_offset) = piece_goes (tally_of s) place _ (both-push_piece setup (sized_piece size_in_bits bit_offset location) (record s { last = Pieced }))
both-located setup location place len s op = tt
