-- What two runs keep, and what is pushed on it.
use Rattle.std.proofs.Common.{ℕ, zero, ◌≡◌, ap, refl, sym, subst, ◌∙◌, ◌⊎◌, inl, inr, List, [], ◌∷◌, ◌++◌, length, Option, Some, None, Result, Ok, Err}
use Rattle.std.proofs.lemmas.Bool.{cond_both}
use Rattle.std.proofs.lemmas.List.Elements.{length_all_zip}
use Rattle.std.specs.Prelude.{nat_lt}
use Rattle.dwarf_base.specs.Faults.{Fault, ◌>>=◌}
use Rattle.dwarf_base.specs.declared.errors.Error.TheVariants.{StackFull}
use Rattle.dwarf_value.specs.declared.types.Value.{Value}
use Rattle.dwarf_value.specs.Values.{Agree}
use Rattle.dwarf_meaning.specs.Locations.{Location, Piece}
use Rattle.dwarf_meaning.specs.Requests.{Request, OnAnswer}
use Rattle.dwarf_meaning.specs.Acts.{Act}
use Rattle.dwarf_meaning.specs.Stores.{Setup, address_bits, Store, Last, Nothing, Plain, Pieced, Pushed, Called, Located, push_value, push_piece, push_caller, push_values, Next, Goes, RequestNext, FaultNext, next_at, do_act}
use Rattle.dwarf_meaning.specs.Refusals.{Limits, Refusal, Never, After, refusal_after_push, refusal_after_input, push_with_room}
use Rattle.dwarf_meaning.specs.Agreement.{AgreeingSettings, AgreeingLocations, AgreeingPieces, AgreeingActs, pushes, branches, locates, ends_piece, request_act, fault_act}
use Rattle.dwarf_meaning.specs.RowWords.{no_limits}
use Rattle.dwarf_laws.proofs.Calm.{calm}
use Rattle.dwarf_meaning.proofs.Pairs.{Pairwise, none, more, pairs, zipped, snoc_both, if_pair}

pub data AgreeingLasts (w : ℕ) : Last → Last → Type 0 where
  both_nothing : AgreeingLasts w Nothing Nothing
  both_plain : AgreeingLasts w Plain Plain
  both_pieced : AgreeingLasts w Pieced Pieced
  both_pushed : AgreeingLasts w Pushed Pushed
  both_called : AgreeingLasts w Called Called
  both_located : {location other : Location} → AgreeingLocations w location other
      → AgreeingLasts w (Located location) (Located other)

-- How two runs may differ: on which side a push may be refused alone, what is left of both refusals, and whether all
-- else is the same.
pub record Mode : Type 1 where
  pub First : Type 0
  pub Second : Type 0
  pub Same : Type 0
  pub Left : Refusal → Refusal → Type 0

-- the same refusals; or, if `Free` holds, pushes that are refused on one side alone
abbrev pub either : Type 0 → Mode
either Free = record { First = Free; Second = Free; Same = ⊥; Left = λ left right. Free ⊎ (left ≡ right) }

-- no push is refused on the second side, and all else is the same
abbrev pub calmed : Mode
calmed = record { First = Unit {0}; Second = ⊥; Same = Unit {0}; Left = λ left right. right ≡ Never }

pub record AgreeingStores (m : Mode) (w : ℕ) (s t : Store) : Type 0 where
  pub values : Pairwise (Agree w) s.values t.values
  pub pieces : Pairwise (AgreeingPieces w) s.pieces t.pieces
  pub count : s.count ≡ t.count
  pub settings : AgreeingSettings w s.settings t.settings
  pub last : AgreeingLasts w s.last t.last
  pub refusal : m.Left s.refusal t.refusal
  pub same : m.Same → calm s ≡ calm t

-- two results that are related, or a push that was refused on one side alone
pub data Agreeing (m : Mode) {A : Type 0} (R : A → A → Type 0) : Result A Fault → Result A Fault → Type 0 where
  results : {x y : A} → R x y → Agreeing m R (Ok x) (Ok y)
  refusals : {fault : Fault} → Agreeing m R (Err fault) (Err fault)
  result_first : {r : Result A Fault} → m.First → Agreeing m R (Err StackFull) r
  result_second : {r : Result A Fault} → m.Second → Agreeing m R r (Err StackFull)

bind_both : {m : Mode} {A B : Type 0} {R : A → A → Type 0} {Q : B → B → Type 0} (r r' : Result A Fault)
    (f g : A → Result B Fault) → Agreeing m R r r' → ((x y : A) → R x y → Agreeing m Q (f x) (g y))
    → Agreeing m Q (r >>= f) (r' >>= g)
bind_both r r' f g (results h) k = k _ _ h
bind_both r r' f g refusals k = refusals
bind_both r r' f g (result_first free) k = result_first free
bind_both r r' f g (result_second free) k = result_second free

abbrev pub AgreeingRooms : Mode → Result Refusal Fault → Result Refusal Fault → Type 0
AgreeingRooms m = Agreeing m m.Left

abbrev pub AgreeingResults : Mode → ℕ → Result Store Fault → Result Store Fault → Type 0
AgreeingResults m w = Agreeing m (AgreeingStores m w)

pub data AgreeingNexts (m : Mode) (w : ℕ) : Next → Next → Type 0 where
  goes_on : {place : ℕ} {s t : Store} → AgreeingStores m w s t → AgreeingNexts m w (Goes place s) (Goes place t)
  request_next : {request : Request} {on_answer : OnAnswer} {s t : Store} → AgreeingStores m w s t
      → AgreeingNexts m w (RequestNext request on_answer s) (RequestNext request on_answer t)
  fails : {fault : Fault} → AgreeingNexts m w (FaultNext fault) (FaultNext fault)
  next_first : {next : Next} → m.First → AgreeingNexts m w (FaultNext StackFull) next
  next_second : {next : Next} → m.Second → AgreeingNexts m w next (FaultNext StackFull)

-- ---- rooms

-- a push is refused by `StackFull` alone
data IsRoom : Result Refusal Fault → Type 0 where
  is_left : {left : Refusal} → IsRoom (Ok left)
  is_full : IsRoom (Err StackFull)

after_push_is : (refusal : Refusal) → IsRoom (refusal_after_push refusal)
after_push_is (After zero zero) = is_full
after_push_is _ = is_left

room_is : (limit : Option ℕ) (n : ℕ) (refusal : Refusal) → IsRoom (push_with_room limit n refusal)
room_is None n refusal = after_push_is refusal
room_is (Some limit) n refusal = cond_both (nat_lt n limit) (Ok refusal) (Err StackFull) IsRoom (λ e. is_left) (λ e. is_full)

-- a push on both sides, with these limits
abbrev pub Rooms : Mode → (limit limit' : Option ℕ) → Type 0
Rooms m limit limit' =
    (n n' : ℕ) (refusal refusal' : Refusal) → n ≡ n' → m.Left refusal refusal'
    → AgreeingRooms m (push_with_room limit n refusal) (push_with_room limit' n' refusal')

pub record Pushing (m : Mode) (limits limits' : Limits) : Type 0 where
  pub values : Rooms m limits.values limits'.values
  pub callers : Rooms m limits.callers limits'.callers
  pub pieces : Rooms m limits.pieces limits'.pieces
  pub inputs : (refusal refusal' : Refusal) → m.Left refusal refusal'
      → m.Left (refusal_after_input refusal) (refusal_after_input refusal')

map_free : {Free A B : Type 0} (f : A → B) (x y : A) → Free ⊎ (x ≡ y) → Free ⊎ (f x ≡ f y)
map_free f x y (inl free) = inl free
map_free f x y (inr e) = inr (ap f e)

module _ (Free : Type 0) where
  free_rooms : (r r' : Result Refusal Fault) → Free → IsRoom r → IsRoom r' → AgreeingRooms (either Free) r r'
  free_rooms r r' free is_left is_left = results (inl free)
  free_rooms r r' free is_left is_full = result_second free
  free_rooms r r' free is_full h = result_first free

  same_rooms : (r : Result Refusal Fault) → IsRoom r → AgreeingRooms (either Free) r r
  same_rooms r is_left = results (inr refl)
  same_rooms r is_full = refusals

  rooms_agree : (limit limit' : Option ℕ) → Free ⊎ (limit ≡ limit') → Rooms (either Free) limit limit'
  rooms_agree limit limit' (inl free) n n' refusal refusal' e h =
      free_rooms _ _ free (room_is limit n refusal) (room_is limit' n' refusal')
  rooms_agree limit limit' (inr l) n n' refusal refusal' e (inl free) =
      free_rooms _ _ free (room_is limit n refusal) (room_is limit' n' refusal')
  rooms_agree limit limit' (inr l) n n' refusal refusal' e (inr r) =
      let same : push_with_room limit n refusal ≡ push_with_room limit' n' refusal' = cc in
      subst (λ (p : Result Refusal Fault). AgreeingRooms (either Free) (push_with_room limit n refusal) p) same
      (same_rooms _ (room_is limit n refusal))

  pub pushing_either : (limits limits' : Limits) → Free ⊎ (limits ≡ limits') → Pushing (either Free) limits limits'
  pushing_either limits limits' h =
      record {
        values = rooms_agree limits.values limits'.values (map_free (λ (l : Limits). l.values) limits limits' h);
        callers = rooms_agree limits.callers limits'.callers (map_free (λ (l : Limits). l.callers) limits limits' h);
        pieces = rooms_agree limits.pieces limits'.pieces (map_free (λ (l : Limits). l.pieces) limits limits' h);
        inputs = λ refusal refusal' e. map_free refusal_after_input refusal refusal' e;
      }

calm_rooms : (limit : Option ℕ) → Rooms calmed limit None
calm_rooms limit n n' refusal refusal' e never =
    subst (λ (r : Refusal). AgreeingRooms calmed (push_with_room limit n refusal) (refusal_after_push r)) (sym never)
    (at _ (room_is limit n refusal))
  where
    at : (r : Result Refusal Fault) → IsRoom r → AgreeingRooms calmed r (Ok Never)
    at r is_left = results refl
    at r is_full = result_first tt

pub pushing_calmed : (limits : Limits) → Pushing calmed limits no_limits
pushing_calmed limits =
    record {
      values = calm_rooms limits.values;
      callers = calm_rooms limits.callers;
      pieces = calm_rooms limits.pieces;
      inputs = λ refusal refusal' never. ap refusal_after_input never;
    }

-- ---- pushes

-- the stores after values and the last operation have changed
pub changed : {m : Mode} {w : ℕ} {s t : Store} {vs ws : List Value} {l k : Last} → AgreeingStores m w s t
    → Pairwise (Agree w) vs ws → AgreeingLasts w l k → (m.Same → (vs ≡ ws) × (l ≡ k))
    → AgreeingStores m w (record s { values = vs; last = l }) (record t { values = ws; last = k })
changed {t = t} {vs = vs} {ws = ws} {l = l} a v i h =
    record {
      values = v;
      pieces = a.pieces;
      count = a.count;
      settings = a.settings;
      last = i;
      refusal = a.refusal;
      same = λ e. ap (λ (u : Store). record u { values = vs; last = l }) (a.same e)
          ∙ (ap (λ (x : List Value). record (calm t) { values = x; last = l }) (h e).0
          ∙ ap (λ (x : Last). record (calm t) { values = ws; last = x }) (h e).1);
    }

module _ (m : Mode) (setup : Setup) (limits : Limits) (pushing : Pushing m setup.limits limits) where
  abbrev w : ℕ
  w = address_bits setup

  abbrev other : Setup
  other = record setup { limits = limits }

  pub push_value_both : (x x' : Value) (s t : Store) → Agree w x x' → (m.Same → x ≡ x') → AgreeingStores m w s t
      → AgreeingResults m w (push_value setup x s) (push_value other x' t)
  unfolding push_value
  push_value_both x x' s t a i h =
      bind_both _ _ (λ left. Ok (record s { values = x ∷ s.values; refusal = left }))
      (λ left. Ok (record t { values = x' ∷ t.values; refusal = left }))
      (pushing.values (length s.values) (length t.values) s.refusal t.refusal (length_all_zip (Agree w) s.values t.values (zipped h.values)) h.refusal)
      (λ left right e. results (record {
        values = more a h.values;
        pieces = h.pieces;
        count = h.count;
        settings = h.settings;
        last = h.last;
        refusal = e;
        same = λ k. ap (λ (u : Store). record u { values = x ∷ u.values }) (h.same k)
            ∙ ap (λ (y : Value). record (calm t) { values = y ∷ t.values }) (i k);
      }))

  pub push_piece_both : (p p' : Piece) (s t : Store) → AgreeingPieces w p p' → (m.Same → p ≡ p') → AgreeingStores m w s t
      → AgreeingResults m w (push_piece setup p s) (push_piece other p' t)
  unfolding push_piece
  push_piece_both p p' s t a i h =
      bind_both _ _ (λ left. Ok (record s { pieces = s.pieces ++ p ∷ []; refusal = left }))
      (λ left. Ok (record t { pieces = t.pieces ++ p' ∷ []; refusal = left }))
      (pushing.pieces (length s.pieces) (length t.pieces) s.refusal t.refusal (length_all_zip (AgreeingPieces w) s.pieces t.pieces (zipped h.pieces)) h.refusal)
      (λ left right e. results (record {
        values = h.values;
        pieces = snoc_both h.pieces a;
        count = h.count;
        settings = h.settings;
        last = h.last;
        refusal = e;
        same = λ k. ap (λ (u : Store). record u { pieces = u.pieces ++ p ∷ [] }) (h.same k)
            ∙ ap (λ (q : Piece). record (calm t) { pieces = t.pieces ++ q ∷ [] }) (i k);
      }))

  pub push_frame_both : (depth : ℕ) (s t : Store) → AgreeingStores m w s t
      → AgreeingResults m w (push_caller setup depth s) (push_caller other depth t)
  unfolding push_caller
  push_frame_both depth s t h =
      bind_both _ _ (λ left. Ok (record s { refusal = left })) (λ left. Ok (record t { refusal = left }))
      (pushing.callers depth depth s.refusal t.refusal refl h.refusal)
      (λ left right e. results (record {
        values = h.values;
        pieces = h.pieces;
        count = h.count;
        settings = h.settings;
        last = h.last;
        refusal = e;
        same = h.same;
      }))

  push_values_both : (xs ys : List Value) (s t : Store) → Pairwise (Agree w) xs ys → (m.Same → xs ≡ ys) → AgreeingStores m w s t
      → AgreeingResults m w (push_values setup xs s) (push_values other ys t)
  push_values_both xs ys s t none i h = results h
  push_values_both xs ys s t (more {x = x} {y = y} {xs = xs'} {ys = ys'} a as') i h =
      bind_both (push_value setup x s) (push_value other y t) (push_values setup xs') (push_values other ys')
      (push_value_both x y s t a (λ k. let e = i k in cc) h)
      (λ s' t' j. push_values_both xs' ys' s' t' as' (λ k. let e = i k in cc) j)

  -- ---- what an operation leads to

  goes_both : (place : ℕ) (r r' : Result Store Fault) → AgreeingResults m w r r'
      → AgreeingNexts m w (next_at place r) (next_at place r')
  goes_both place r r' (results h) = goes_on h
  goes_both place r r' refusals = fails
  goes_both place r r' (result_first free) = next_first free
  goes_both place r r' (result_second free) = next_second free

  pub done_both : (place len : ℕ) (a b : Act) (s t : Store) → AgreeingActs w a b → (m.Same → a ≡ b) → AgreeingStores m w s t
      → AgreeingNexts m w (do_act setup place len a s) (do_act other place len b t)
  done_both place len a b s t (pushes {rest = rest} {other = below} {pushed = pushed} {others = others} r p) i h =
      goes_both place _ _ (push_values_both _ _ _ _ (pairs pushed others p) (λ k. let e = i k in cc)
      (changed h (pairs rest below r) both_plain (λ k. let e = i k in ((cc), refl))))
  done_both place len a b s t (branches {rest = rest} {other = below} r) i h =
      if_pair (AgreeingNexts m w) _ _ _ _ _ _ refl fails
      (goes_on (changed h (pairs rest below r) both_plain (λ k. let e = i k in ((cc), refl))))
  done_both place len a b s t (locates {rest = rest} {other = below} r l) i h =
      goes_on (changed h (pairs rest below r) (both_located l) (λ k. let e = i k in ((cc), (cc))))
  done_both place len a b s t (ends_piece {rest = rest} {other = below} r p) i h =
      goes_both place _ _ (push_piece_both _ _ _ _ p (λ k. let e = i k in cc)
      (changed h (pairs rest below r) both_pieced (λ k. let e = i k in ((cc), refl))))
  done_both place len a b s t (request_act {rest = rest} {other = below} r) i h =
      request_next (changed h (pairs rest below r) h.last (λ k. let e = i k in ((cc), ap (λ (u : Store). u.last) (h.same k))))
  done_both place len a b s t fault_act i h = fails
