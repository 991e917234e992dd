-- The laws of values.
use Rattle.std.proofs.Common.{eq-eqb, ◌≡◌, ◌≢◌, ℕ, ◌-◌, ◌*◌, ◌%◌, ◌^◌, ◌<◌, ◌≤◌, ℤ, pos, negsuc, neg_ℤ, ◌-ℤ◌, ◌≤ℤ◌, ◌<ℤ◌, Bool, true, false, refl, sym, ap, ◌∙◌, subst, arith, nat_lt, nat_le, ◌+ℤ◌, ◌*ℤ◌, Ok, inl, inr}
use Rattle.std.proofs.lemmas.Int.{ints, quot-rem}
use Rattle.std.proofs.lemmas.Bool.Decides.{nat_tests}
use native.Mathlib.Nat.{mod-eq_of_lt}
use Rattle.dwarf_base.specs.Numbers.{residue, signed_of}
use Rattle.dwarf_value.specs.declared.types.Value.{Value}
use Rattle.dwarf_value.specs.declared.types.Value.TheVariants.{Generic, I8, I16, I32, I64}
use Rattle.dwarf_value.specs.declared.types.ValueType.{ValueType}
use Rattle.dwarf_value.specs.declared.types.ValueType.TheVariants as kind
use Rattle.dwarf_value.specs.Values.{shape_of, type_of, bit_size_of, word_integer, integer_of, unsigned_integer, value_of, Agree, is_same, is_signed, signed_integer, to_u64_of, from_u64_of, reinterpret_of}
use Rattle.dwarf_value.specs.Laws.{InRange, IsWidth, Trichotomy, Opposites, QuotientAndRemainder, NegateTwice, NegateTwiceGeneric, ReinterpretTwice, AgreeingResults, values, errors, AgreementIsKept}
use Rattle.dwarf_value.proofs.Congruences.{Congruent, Congruent-bits, Congruent-sym, Congruent-residue, residue-lower, Congruent-trans, Congruent-add, Congruent-neg, Congruent-mul, Congruent-lower, bit_size_of-le, same_value}
use Rattle.dwarf_value.proofs.Agreements.{Agree-refl, Agree-trans, Agree-Generic, Agree-residues, to_u64_of-Agree, convert_of-Agree, add_of_constant-Agree, unary_of-Agree, binary_of-Agree}
use Rattle.std.specs.Prelude.{int_lt, int_le, ◌==◌}
use Rattle.std.specs.Ordering.{int_eq}
use Rattle.std.specs.Int.RustNames.{int_div, int_rem}
use Rattle.std.proofs.lemmas.Bool.{cases_lt, eqb-true}
use lib.IntN.{neg_ℤ-neg_ℤ}
use denote.Enum.Bare.{true_same}
use Rattle.dwarf_value.specs.contracts.types.ValueType.{the_type}
use Rattle.dwarf_value.proofs.Integers.{int_eq-false}

-- ---- an integer's value, and its integer

pub type_of-value_of : (g : ℕ) (t : ValueType) (z : ℤ) → type_of (value_of g t z) ≡ t
unfolding type_of value_of
type_of-value_of g kind.Generic z = refl
type_of-value_of g t z = refl

Congruent-word : (signed : Bool) (k : ℕ) (z : ℤ) → Congruent (2 ^ k) (word_integer signed k (residue k z)) z
Congruent-word signed k z = Congruent-trans _ _ _ _ (Congruent-bits signed k (residue k z)) (Congruent-residue k z)

pub integer_of-value_of : (signed : Bool) (g w : ℕ) (t : ValueType) (z : ℤ) → w ≤ g → Congruent (2 ^ bit_size_of w t) (integer_of signed w (value_of g t z)) z
unfolding word_integer integer_of value_of bit_size_of
integer_of-value_of signed g w kind.Generic z h =
    subst (λ n. Congruent (2 ^ w) (word_integer signed w n) z) (sym (residue-lower w g z h)) (Congruent-word signed w z)
integer_of-value_of signed g w t z h = Congruent-word (shape_of signed w t).0 (shape_of signed w t).1 z

-- a generic value's integer, and its content
pub Congruent-Generic : (signed : Bool) (w n : ℕ) → Congruent (2 ^ w) (integer_of signed w (Generic n)) (pos n)
unfolding integer_of
Congruent-Generic signed w n = Congruent-word signed w (pos n)

-- ---- congruent integers have one value

pub value_of-Congruent : (g g' w : ℕ) (t : ValueType) (a b : ℤ) → t ≢ kind.Generic → Congruent (2 ^ bit_size_of w t) a b → value_of g t a ≡ value_of g' t b
unfolding value_of bit_size_of
value_of-Congruent g g' w kind.Generic a b h c = absurd (h refl)
value_of-Congruent g g' w t a b h c = same_value w t a b c

pub Agree-content : (w n : ℕ) (z : ℤ) → w ≤ 64 → Congruent (2 ^ w) (pos n) z → Agree w (Generic n) (value_of 64 kind.Generic z)
unfolding value_of
Agree-content w n z h c = Agree-trans w _ _ _ (Agree-Generic w n _ (sym (residue-lower w 64 (pos n) h))) (Agree-residues w (pos n) z h c)

-- integers that are congruent modulo two to the type's size
pub Agree-value_of : (w : ℕ) (t : ValueType) (a b : ℤ) → w ≤ 64 → Congruent (2 ^ bit_size_of w t) a b → Agree w (value_of 64 t a) (value_of 64 t b)
unfolding bit_size_of value_of
Agree-value_of w kind.Generic a b h c = Agree-residues w a b h c
Agree-value_of w t a b h c = subst (Agree w (value_of 64 t a)) (same_value w t a b c) (Agree-refl w (value_of 64 t a))

-- ---- a value's integer, and its value

signed_low : (k r : ℕ) → r < 2 ^ (k - 1) → signed_of k r ≡ pos r
signed_low k r h = grind (arith, nat_tests)

signed_high : (k r : ℕ) → 2 ^ (k - 1) ≤ r → signed_of k r ≡ pos r -ℤ pos (2 ^ k)
signed_high k r h = grind (arith, nat_tests)

-- a signed number of k bits, half of which is m
signed_of-residue : (k m : ℕ) (z : ℤ) → 2 ^ k ≡ 2 * m → m ≡ 2 ^ (k - 1) → neg_ℤ (pos m) ≤ℤ z → z <ℤ pos m → signed_of k (residue k z) ≡ z
signed_of-residue k m (pos n) e f l g =
    let a : n < m = omega (arith, ints) in
    let b : n % 2 ^ k ≡ n = mod-eq_of_lt (omega arith) in
    rw b (signed_low k n (omega arith))
signed_of-residue k m (negsuc n) e f l g =
    let a : n < m = omega (arith, ints) in
    let b : n % 2 ^ k ≡ n = mod-eq_of_lt (omega arith) in
    rw b (signed_high k (2 ^ k - 1 - n) (omega arith) ∙ omega (arith, ints))

pub value_of-unsigned_integer : (x : Value) → InRange x → value_of 64 (type_of x) (unsigned_integer 64 x) ≡ x
unfolding type_of integer_of word_integer value_of InRange
value_of-unsigned_integer (Generic n) r = ap Generic (ap (λ k. k % 2 ^ 64) (mod-eq_of_lt r) ∙ mod-eq_of_lt r)
value_of-unsigned_integer (I8 x) r = ap I8 (signed_of-residue 8 (2 ^ 7) x refl refl (omega (arith, ints)) (omega (arith, ints)))
value_of-unsigned_integer (I16 x) r = ap I16 (signed_of-residue 16 (2 ^ 15) x refl refl (omega (arith, ints)) (omega (arith, ints)))
value_of-unsigned_integer (I32 x) r = ap I32 (signed_of-residue 32 (2 ^ 31) x refl refl (omega (arith, ints)) (omega (arith, ints)))
value_of-unsigned_integer (I64 x) r = ap I64 (signed_of-residue 64 (2 ^ 63) x refl refl (omega (arith, ints)) (omega (arith, ints)))
value_of-unsigned_integer x r = rw (mod-eq_of_lt r)

-- a typed value has one integer
pub integer_of-typed : (signed : Bool) (w : ℕ) (x : Value) → type_of x ≢ kind.Generic → integer_of signed w x ≡ unsigned_integer 64 x
unfolding type_of integer_of
integer_of-typed signed w (Generic n) h = absurd (h refl)
integer_of-typed signed w x h = refl

pub Congruent-refl : (m : ℕ) (a : ℤ) → Congruent m a a
Congruent-refl m a = record { left = 0; right = 0; same = refl }

-- all bits of a value are, modulo two to its size, those that count
pub Congruent-all_bits : (w : ℕ) (x : Value) → w ≤ 64 → Congruent (2 ^ bit_size_of w (type_of x)) (unsigned_integer 64 x) (unsigned_integer w x)
unfolding type_of integer_of word_integer bit_size_of
Congruent-all_bits w (Generic n) h =
    subst (λ k. Congruent (2 ^ w) (pos (n % 2 ^ 64)) (pos k)) (residue-lower w 64 (pos n) h)
    (Congruent-sym (2 ^ w) _ _ (Congruent-residue w (pos (n % 2 ^ 64))))
Congruent-all_bits w x h = Congruent-refl _ _

pub bit_size_of-below : (w : ℕ) (t : ValueType) → w ≤ 64 → bit_size_of w t ≤ bit_size_of 64 t
unfolding bit_size_of
bit_size_of-below w kind.Generic h = h
bit_size_of-below w t h = omega arith

-- ---- comparisons

is_same-equal : (s t : ValueType) → s ≡ t → is_same s t ≡ true
unfolding is_same
is_same-equal s t e = true_same the_type s t e

-- how two numbers compare, by four tests
data Compared (lt gt le ge : Bool) : Type 0 where
  below : lt ≡ true → gt ≡ false → le ≡ true → ge ≡ false → Compared lt gt le ge
  equal : lt ≡ false → gt ≡ false → le ≡ true → ge ≡ true → Compared lt gt le ge
  above : lt ≡ false → gt ≡ true → le ≡ false → ge ≡ true → Compared lt gt le ge

compare_numbers : (a b : ℕ) → Compared (nat_lt a b) (nat_lt b a) (nat_le a b) (nat_le b a)
compare_numbers a b =
    elim (cases_lt a b) [
      | inl l ↦ below (grind (arith, nat_tests)) (grind (arith, nat_tests)) (grind (arith, nat_tests)) (grind (arith, nat_tests))
      | inr g ↦ elim (cases_lt b a) [
        | inl l ↦ above (grind (arith, nat_tests)) (grind (arith, nat_tests)) (grind (arith, nat_tests)) (grind (arith, nat_tests))
        | inr h ↦ equal (grind (arith, nat_tests)) (grind (arith, nat_tests)) (grind (arith, nat_tests)) (grind (arith, nat_tests))
      ]
    ]

compare_integers : (a b : ℤ) → Compared (int_lt a b) (int_lt b a) (int_le a b) (int_le b a)
compare_integers (pos a) (pos b) = compare_numbers a b
compare_integers (negsuc a) (negsuc b) = compare_numbers b a
compare_integers (pos a) (negsuc b) = above refl refl refl refl
compare_integers (negsuc a) (pos b) = below refl refl refl refl

pub trichotomy : Trichotomy
trichotomy w x y v e =
    let s : is_same (type_of x) (type_of y) ≡ true = is_same-equal _ _ e in
    elim (compare_integers (signed_integer w x) (signed_integer w y)) [
      | below lt gt le ge ↦ inl (rw (s, lt), rw (s, lt), rw (s, gt))
      | equal lt gt le ge ↦ inr (inl (rw (s, lt), rw (s, lt, gt), rw (s, gt)))
      | above lt gt le ge ↦ inr (inr (rw (s, lt), rw (s, lt, gt), rw (s, gt)))
    ]

pub opposites : Opposites
opposites w x y v e =
    let s : is_same (type_of x) (type_of y) ≡ true = is_same-equal _ _ e in
    elim (compare_integers (signed_integer w x) (signed_integer w y)) [
      | below lt gt le ge ↦ (inl (rw (s, lt), rw (s, lt)), inr (rw (s, ge), rw (s, lt)), inl (rw (s, le), rw (s, gt)))
      | equal lt gt le ge ↦ (inr (rw (s, lt, gt), rw (s, lt, gt)), inl (rw (s, ge), rw (s, lt)), inl (rw (s, le), rw (s, gt)))
      | above lt gt le ge ↦ (inl (rw (s, lt, gt), rw (s, lt, gt)), inl (rw (s, ge), rw (s, lt)), inr (rw (s, le), rw (s, gt)))
    ]

-- ---- quotient and remainder

pub quotient_and_remainder : QuotientAndRemainder
quotient_and_remainder w x y v r h e z =
    let t = type_of x in
    let X = unsigned_integer w x in
    let Y = unsigned_integer w y in
    let q = value_of 64 t (int_div X Y) in
    let m = value_of 64 t (int_rem X Y) in
    let p = value_of w t (unsigned_integer w q *ℤ Y) in
    let M = 2 ^ bit_size_of w t in
    let nonzero : int_eq Y (pos 0) ≡ false = int_eq-false Y (pos 0) z in
    let s : is_same t (type_of y) ≡ true = is_same-equal _ _ e in
    let X-signed : signed_integer w x ≡ X = integer_of-typed true w x h ∙ sym (integer_of-typed false w x h) in
    let ty : type_of y ≢ kind.Generic = λ g. h (e ∙ g) in
    let Y-signed : signed_integer w y ≡ Y = integer_of-typed true w y ty ∙ sym (integer_of-typed false w y ty) in
    let quotient : Congruent M (unsigned_integer w q) (int_div X Y) = integer_of-value_of false 64 w t (int_div X Y) v.within_64 in
    let remainder : Congruent M (unsigned_integer w m) (int_rem X Y) = integer_of-value_of false 64 w t (int_rem X Y) v.within_64 in
    let product : Congruent M (unsigned_integer w p) (int_div X Y *ℤ Y) =
    Congruent-trans M _ _ _ (integer_of-value_of false w w t (unsigned_integer w q *ℤ Y) (omega arith)) (Congruent-mul M _ _ Y quotient) in
    let whole : Congruent M (unsigned_integer w p +ℤ unsigned_integer w m) X =
    subst (λ n. Congruent M (unsigned_integer w p +ℤ unsigned_integer w m) n) (quot-rem X Y) (Congruent-add M _ _ _ _ product remainder) in
    let again : value_of w t (unsigned_integer w p +ℤ unsigned_integer w m) ≡ x =
    value_of-Congruent w 64 w t _ _ h whole ∙ (ap (value_of 64 t) (integer_of-typed false w x h) ∙ value_of-unsigned_integer x r) in (
      q,
      m,
      p,
      rw (nonzero, s, X-signed, Y-signed),
      rw (nonzero, s),
      rw (type_of-value_of 64 t (int_div X Y), s),
      rw (type_of-value_of w t (unsigned_integer w q *ℤ Y), type_of-value_of 64 t (int_rem X Y), is_same-equal t t refl) (ap Ok again),
    )

-- the integers of a signed type have a sign however generic ones are read
signed_at_any : (t : ValueType) → is_signed false t ≡ true → is_signed true t ≡ true
unfolding is_signed
signed_at_any kind.Generic e = refl
signed_at_any t e = e

pub negate_twice : NegateTwice
negate_twice w x v r e =
    let t = type_of x in
    let h : t ≢ kind.Generic = λ g. let u : is_signed false kind.Generic ≡ false = unfold is_signed in refl in cc in
    let s : is_signed true t ≡ true = signed_at_any t e in
    let X = signed_integer w x in
    let y = value_of 64 t (neg_ℤ X) in
    let M = 2 ^ bit_size_of w t in
    let a : Congruent M (signed_integer w y) (neg_ℤ X) = integer_of-value_of true 64 w t (neg_ℤ X) v.within_64 in
    let b : Congruent M (neg_ℤ (signed_integer w y)) X = subst (λ z. Congruent M (neg_ℤ (signed_integer w y)) z) (neg_ℤ-neg_ℤ X) (Congruent-neg M _ _ a) in
    let again : value_of 64 t (neg_ℤ (signed_integer w y)) ≡ x =
    value_of-Congruent 64 64 w t _ _ h b ∙ (ap (value_of 64 t) (integer_of-typed true w x h) ∙ value_of-unsigned_integer x r) in
    (y, rw s, rw (type_of-value_of 64 t (neg_ℤ X), s) (ap Ok again))

pub negate_twice_generic : NegateTwiceGeneric
negate_twice_generic w n v =
    let S = signed_integer w (Generic n) in
    let y = value_of 64 kind.Generic (neg_ℤ S) in
    let Z = neg_ℤ (signed_integer w y) in
    let g : type_of (Generic n) ≡ kind.Generic = unfold type_of in refl in
    let s : is_signed true kind.Generic ≡ true = unfold is_signed in refl in
    let a : Congruent (2 ^ w) (signed_integer w y) (neg_ℤ S) = unfold bit_size_of in integer_of-value_of true 64 w kind.Generic (neg_ℤ S) v.within_64 in
    let b : Congruent (2 ^ w) Z S = subst (λ z. Congruent (2 ^ w) Z z) (neg_ℤ-neg_ℤ S) (Congruent-neg _ _ _ a) in
    let c : Congruent (2 ^ w) (pos n) Z = Congruent-sym _ _ _ (Congruent-trans _ _ _ _ b (Congruent-Generic true w n)) in
    (y, value_of 64 kind.Generic Z, rw (g, s), rw (type_of-value_of 64 kind.Generic (neg_ℤ S), s), Agree-content w n Z v.within_64 c)

-- ---- other types

-- the integer that comes out of a reinterpretation
round_bits : (w : ℕ) (t : ValueType) (x : Value) → w ≤ 64 → Congruent (2 ^ bit_size_of w t) (pos (to_u64_of 64 (from_u64_of t (to_u64_of 64 x)))) (unsigned_integer 64 x)
round_bits w t x h =
    let M = 2 ^ bit_size_of w t in
    let X = unsigned_integer 64 x in
    let y = from_u64_of t (residue 64 X) in
    let low : (z : ℤ) → Congruent M (pos (residue 64 z)) z = λ z. Congruent-lower _ 64 _ _ (bit_size_of-le w t h) (Congruent-residue 64 z) in
    let made : Congruent M (unsigned_integer 64 y) (pos (residue 64 X)) =
    Congruent-lower _ _ _ _ (bit_size_of-below w t h) (integer_of-value_of false 64 64 t (pos (residue 64 X)) (omega arith)) in
    Congruent-trans M _ _ _ (low (unsigned_integer 64 y)) (Congruent-trans M _ _ _ made (low X))

pub reinterpret_twice : ReinterpretTwice
reinterpret_twice w t x v r e =
    let X = unsigned_integer 64 x in
    let y = from_u64_of t (to_u64_of 64 x) in
    let n = to_u64_of 64 y in
    let same : Congruent (2 ^ bit_size_of w (type_of x)) (pos n) X = subst (λ k. Congruent (2 ^ k) (pos n) X) (sym e) (round_bits w t x v.within_64) in
    let agree : Agree w (value_of 64 (type_of x) X) (value_of 64 (type_of x) (pos n)) = Agree-value_of w (type_of x) X (pos n) v.within_64 (Congruent-sym _ _ _ same) in
    let back : (bit_size_of w (type_of y) == bit_size_of w (type_of x)) ≡ true = rw (type_of-value_of 64 t (pos (to_u64_of 64 x))) (eq-eqb _ _ (sym e)) in (
      y,
      from_u64_of (type_of x) n,
      answers w t x (eq-eqb _ _ e),
      answers w (type_of x) y back,
      subst (λ z. Agree w z (from_u64_of (type_of x) n)) (value_of-unsigned_integer x r) agree,
    )
  where
    answers : (w : ℕ) (t : ValueType) (x : Value) → (bit_size_of w (type_of x) == bit_size_of w t) ≡ true → reinterpret_of w t x ≡ Ok (from_u64_of t (to_u64_of 64 x))
    answers w t x e = rw e

pub reinterpret_of-Agree : (w : ℕ) (t : ValueType) (x x' : Value) → IsWidth w → Agree w x x' → AgreeingResults w (reinterpret_of w t x) (reinterpret_of w t x')
reinterpret_of-Agree w t x x' v a = by_test (bit_size_of w (type_of x) == bit_size_of w t) refl
  where
    by_test : (b : Bool) → (bit_size_of w (type_of x) == bit_size_of w t) ≡ b → AgreeingResults w (reinterpret_of w t x) (reinterpret_of w t x')
    by_test true e =
        let X = unsigned_integer 64 x in
        let X' = unsigned_integer 64 x' in
        let s = bit_size_of w (type_of x) in
        let k : s ≡ bit_size_of w t = eqb-true _ _ e in
        let k' : bit_size_of w (type_of x') ≡ s = ap (bit_size_of w) (sym a.types) in
        let e' : (bit_size_of w (type_of x') == bit_size_of w t) ≡ true = eq-eqb _ _ (k' ∙ k) in
        let low : (z : ℤ) → Congruent (2 ^ s) (pos (residue 64 z)) z = λ z. Congruent-lower s 64 _ _ (bit_size_of-le w (type_of x) v.within_64) (Congruent-residue 64 z) in
        let first : Congruent (2 ^ s) X (unsigned_integer w x) = Congruent-all_bits w x v.within_64 in
        let second : Congruent (2 ^ s) X' (unsigned_integer w x') = subst (λ n. Congruent (2 ^ n) X' (unsigned_integer w x')) k' (Congruent-all_bits w x' v.within_64) in
        let middle : Congruent (2 ^ s) X X' = Congruent-trans _ _ _ _ (subst (λ z. Congruent (2 ^ s) X z) a.integers first) (Congruent-sym _ _ _ second) in
        let whole : Congruent (2 ^ s) (pos (residue 64 X)) (pos (residue 64 X')) = Congruent-trans _ _ _ _ (low X) (Congruent-trans _ _ _ _ middle (Congruent-sym _ _ _ (low X'))) in
        let agree : Agree w (from_u64_of t (residue 64 X)) (from_u64_of t (residue 64 X')) =
        Agree-value_of w t _ _ v.within_64 (subst (λ n. Congruent (2 ^ n) (pos (residue 64 X)) (pos (residue 64 X'))) k whole) in
        rw (e, e') (values agree)
    by_test false e =
        let e' : (bit_size_of w (type_of x') == bit_size_of w t) ≡ false = ap (λ n. bit_size_of w n == bit_size_of w t) (sym a.types) ∙ e in
        rw (e, e') errors

pub agreement_is_kept : AgreementIsKept
agreement_is_kept = record {
  to_u64 = to_u64_of-Agree;
  convert = convert_of-Agree;
  reinterpret = reinterpret_of-Agree;
  add_constant = add_of_constant-Agree;
  unary = unary_of-Agree;
  binary = binary_of-Agree;
}
