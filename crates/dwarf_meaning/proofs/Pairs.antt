-- Two lists, options and choices that are related.
use Rattle.std.proofs.Common.{ℕ, zero, suc, ◌≡◌, subst, Bool, true, false, List, [], ◌∷◌, ◌++◌, Option, Result, Ok, Err, cond}
use Rattle.std.specs.Prelude.{slice_get}
use Rattle.std.specs.List.{AllZip}
use Rattle.std.specs.Option.{option_map_or}
use Rattle.dwarf_base.specs.declared.errors.Error.{Error}
use Rattle.dwarf_base.specs.Faults.{Fault, fault_of}
use Rattle.dwarf_value.specs.declared.types.Value.{Value}
use Rattle.dwarf_value.specs.Values.{Agree}
use Rattle.dwarf_value.specs.Laws.{AgreeingResults, values, errors}
use Rattle.dwarf_value.proofs.Agreements.{Agree-refl}
use Rattle.dwarf_meaning.specs.Acts.{on_top, on_result}
use Rattle.dwarf_meaning.specs.Agreement.{Both, nothing, something}

-- ---- lists and options

-- two lists of one length, related item by item
pub data Pairwise {A : Type 0} (R : A → A → Type 0) : List A → List A → Type 0 where
  none : Pairwise R [] []
  more : {x y : A} {xs ys : List A} → R x y → Pairwise R xs ys → Pairwise R (x ∷ xs) (y ∷ ys)

-- the same, as the definitions say it
pub zipped : {A : Type 0} {R : A → A → Type 0} {xs ys : List A} → Pairwise R xs ys → AllZip R xs ys
zipped none = tt
zipped (more r rs) = (r, zipped rs)

pub pairs : {A : Type 0} {R : A → A → Type 0} (xs ys : List A) → AllZip R xs ys → Pairwise R xs ys
pairs [] [] h = none
pairs [] (y ∷ ys) h = absurd h
pairs (x ∷ xs) [] h = absurd h
pairs (x ∷ xs) (y ∷ ys) h = more h.0 (pairs xs ys h.1)

pub paired_refl : {A : Type 0} {R : A → A → Type 0} → ((x : A) → R x x) → (xs : List A) → Pairwise R xs xs
paired_refl h [] = none
paired_refl h (x ∷ xs) = more (h x) (paired_refl h xs)

pub snoc_both : {A : Type 0} {R : A → A → Type 0} {xs ys : List A} {x y : A} → Pairwise R xs ys → R x y
    → Pairwise R (xs ++ x ∷ []) (ys ++ y ∷ [])
snoc_both none h = more h none
snoc_both (more r rs) h = more r (snoc_both rs h)

pub get_both : {A : Type 0} (R : A → A → Type 0) (i : ℕ) {xs ys : List A} → Pairwise R xs ys
    → Both R (slice_get xs i) (slice_get ys i)
get_both R i none = nothing
get_both R zero (more r rs) = something r
get_both R (suc i) (more r rs) = get_both R i rs

-- ---- the words of the definitions, on both sides

module _ {A : Type 0} (R : A → A → Type 0) where
  pub if_pair : (b c : Bool) (x x' y y' : A) → b ≡ c → R x x' → R y y' → R (cond b x y) (cond c x' y')
  if_pair b c x x' y y' e h g = subst (λ p. R (cond b x y) (cond p x' y')) e (at b)
    where
      at : (b : Bool) → R (cond b x y) (cond b x' y')
      at true = h
      at false = g

  pub top_pair : (Same : Type 0) (w : ℕ) (vs ws : List Value) (x x' : A) (go go' : Value → List Value → A)
      → Pairwise (Agree w) vs ws → (Same → vs ≡ ws) → R x x'
      → ((v v' : Value) (rest rest' : List Value) → Agree w v v' → Pairwise (Agree w) rest rest'
      → (Same → (v ∷ rest) ≡ (v' ∷ rest')) → R (go v rest) (go' v' rest'))
      → R (on_top vs x go) (on_top ws x' go')
  unfolding on_top
  top_pair Same w vs ws x x' go go' none e h g = h
  top_pair Same w vs ws x x' go go' (more a bs) e h g = g _ _ _ _ a bs e

  pub some_pair : {X : Type 0} (Q : X → X → Type 0) (o o' : Option X) (x x' : A) (go go' : X → A) → Both Q o o' → R x x'
      → ((v v' : X) → Q v v' → R (go v) (go' v')) → R (option_map_or go o x) (option_map_or go' o' x')
  some_pair Q o o' x x' go go' nothing h g = h
  some_pair Q o o' x x' go go' (something q) h g = g _ _ q

  pub answer_pair : (w : ℕ) (r r' : Result Value Error) (bad bad' : Fault → A) (go go' : Value → A) → AgreeingResults w r r'
      → ((fault : Fault) → R (bad fault) (bad' fault)) → ((v v' : Value) → Agree w v v' → R (go v) (go' v'))
      → R (on_result r bad go) (on_result r' bad' go')
  unfolding on_result
  answer_pair w r r' bad bad' go go' (values a) h g = g _ _ a
  answer_pair w r r' bad bad' go go' errors h g = h _

  -- the same answer on both sides
  pub read_pair : {X : Type 0} (r : Result X Error) (bad bad' : Fault → A) (go go' : X → A)
      → ((fault : Fault) → R (bad fault) (bad' fault)) → ((x : X) → R (go x) (go' x))
      → R (on_result r bad go) (on_result r bad' go')
  unfolding on_result
  read_pair (Ok x) bad bad' go go' h g = g x
  read_pair (Err error) bad bad' go go' h g = h (fault_of error)

-- equal answers agree
pub answers_agree : (w : ℕ) (r r' : Result Value Error) → r ≡ r' → AgreeingResults w r r'
answers_agree w r r' e = subst (λ p. AgreeingResults w r p) e (at r)
  where
    at : (r : Result Value Error) → AgreeingResults w r r
    at (Ok x) = values (Agree-refl w x)
    at (Err error) = errors
