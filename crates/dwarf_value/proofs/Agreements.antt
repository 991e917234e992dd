-- Agreeing values have the same answers.
use Rattle.std.proofs.Common.{◌≡◌, ℕ, ◌%◌, ◌^◌, ◌≤◌, ℤ, pos, ◌+ℤ◌, true, refl, sym, ap, ◌∙◌, subst, Ok}
use Rattle.std.specs.Prelude.{unsigned_abs}
use Rattle.dwarf_base.specs.Numbers.{residue}
use Rattle.dwarf_value.specs.declared.types.Value.{Value}
use Rattle.dwarf_value.specs.declared.types.Value.TheVariants.{Generic}
use Rattle.dwarf_value.specs.declared.types.ValueType.{ValueType}
use Rattle.dwarf_value.specs.declared.types.ValueType.TheVariants as kind
use Rattle.dwarf_value.specs.Values.{type_of, word_integer, integer_of, unsigned_integer, signed_integer, Agree, to_u64_of, from_u64_of, convert_of, UnaryOperator, BinaryOperator, unary_of, binary_of, Abs, Plus}
use Rattle.dwarf_value.specs.Laws.{SameForOne, SameForTwo}
use Rattle.dwarf_value.proofs.Congruences.{Congruent, Congruent-sym, Congruent-trans, Congruent-add, Congruent-residue, residue-Congruent, residue-lower}

-- ---- agreement itself

pub Agree-refl : (w : ℕ) (x : Value) → Agree w x x
Agree-refl w x = record { types = refl; integers = refl }

pub Agree-trans : (w : ℕ) (x y z : Value) → Agree w x y → Agree w y z → Agree w x z
Agree-trans w x y z a b = record { types = a.types ∙ b.types; integers = a.integers ∙ b.integers }

-- generic values agree if their contents are congruent
pub Agree-Generic : (w m n : ℕ) → m % 2 ^ w ≡ n % 2 ^ w → Agree w (Generic m) (Generic n)
unfolding type_of integer_of word_integer
Agree-Generic w m n e = record { types = refl; integers = ap pos e }

-- integers that are congruent modulo 2 ^ w, as generic values
pub Agree-residues : (w : ℕ) (a b : ℤ) → w ≤ 64 → Congruent (2 ^ w) a b → Agree w (Generic (residue 64 a)) (Generic (residue 64 b))
Agree-residues w a b h c =
    Agree-Generic w _ _ (residue-lower w 64 a h ∙ (residue-Congruent w a b c ∙ sym (residue-lower w 64 b h)))

-- a number is added to numbers that agree
pub Agree-sums : (w m n : ℕ) (z : ℤ) → w ≤ 64 → m % 2 ^ w ≡ n % 2 ^ w → Agree w (Generic (residue 64 (pos m +ℤ z))) (Generic (residue 64 (pos n +ℤ z)))
Agree-sums w m n z h e =
    let same : Congruent (2 ^ w) (pos (m % 2 ^ w)) (pos n) = subst (λ k. Congruent (2 ^ w) (pos k) (pos n)) (sym e) (Congruent-residue w (pos n)) in
    let c = Congruent-trans (2 ^ w) (pos m) (pos (m % 2 ^ w)) (pos n) (Congruent-sym (2 ^ w) _ _ (Congruent-residue w (pos m))) same in
    Agree-residues w _ _ h (Congruent-add (2 ^ w) (pos m) (pos n) z z c (record { left = 0; right = 0; same = refl }))

-- ---- integers with a sign

with_sign : (w : ℕ) → ValueType → ℤ → ℤ
with_sign w kind.Generic z = word_integer true w (unsigned_abs z)
with_sign w _ z = z

signed_from_unsigned : (w : ℕ) (x : Value) → signed_integer w x ≡ with_sign w (type_of x) (unsigned_integer w x)
unfolding integer_of word_integer type_of with_sign
signed_from_unsigned w (Generic n) = refl
signed_from_unsigned w x = refl

pub signed_integer-Agree : (w : ℕ) (x y : Value) → Agree w x y → signed_integer w x ≡ signed_integer w y
signed_integer-Agree w x y a =
    let p = a.types in let q = a.integers in let s = signed_from_unsigned w x in let t = signed_from_unsigned w y in cc

-- ---- each call

pub to_u64_of-Agree : (w : ℕ) (x x' : Value) → Agree w x x' → to_u64_of w x ≡ to_u64_of w x'
to_u64_of-Agree w x x' a = ap (residue 64) a.integers

pub convert_of-Agree : (t : ValueType) → SameForOne (λ w. convert_of w t)
convert_of-Agree t w x x' a = ap (λ n. Ok (from_u64_of t n)) (to_u64_of-Agree w x x' a)

pub add_of_constant-Agree : (w n : ℕ) (x x' : Value) → Agree w x x' → binary_of Plus w x (from_u64_of (type_of x) n) ≡ binary_of Plus w x' (from_u64_of (type_of x') n)
add_of_constant-Agree w n x x' a = let p = a.types in let q = a.integers in cc

-- what holds of values with the same types and integers
alike : {A : Type 0} (w : ℕ) (x x' : Value) → Agree w x x'
    → (type_of x ≡ type_of x' → unsigned_integer w x ≡ unsigned_integer w x' → signed_integer w x ≡ signed_integer w x' → A) → A
alike w x x' a go = go a.types a.integers (signed_integer-Agree w x x' a)

pub unary_of-Agree : (op : UnaryOperator) → SameForOne (unary_of op)
unary_of-Agree Abs w x x' a = alike w x x' a (λ p q s. cc)
unary_of-Agree op w x x' a = alike w x x' a (λ p q s. cc)

pub binary_of-Agree : (op : BinaryOperator) → SameForTwo (binary_of op)
binary_of-Agree Plus w x x' y y' a b = alike w x x' a (λ p i s. alike w y y' b (λ q j t. cc))
binary_of-Agree op w x x' y y' a b = alike w x x' a (λ p i s. alike w y y' b (λ q j t. cc))
