-- The integers of values, read with a sign and without.
use Rattle.std.proofs.Common.{◌≡◌, ◌≢◌, inl, inr, ℕ, ◌+◌, ◌-◌, ◌*◌, ◌/◌, ◌%◌, ◌^◌, ◌<◌, ◌≤◌, min, ℤ, pos, negsuc, neg_ℤ, ◌≤ℤ◌, ◌<ℤ◌, Bool, true, false, sym, ap, ◌∙◌, subst, arith, pow_mono, to_z}
use Rattle.std.specs.Ordering.{int_eq}
use Rattle.std.proofs.lemmas.Int.{ints}
use Rattle.std.proofs.lemmas.Nat.{pow_pos, mod_below, pow-add}
use Rattle.std.proofs.lemmas.Bool.Decides.{nat_tests, Decides-int_eq}
use Rattle.std.proofs.lemmas.Bool.{false_from_ne_true, cases_lt}
use native.Mathlib.Nat.{div-eq_of_lt, mod-eq_of_lt}
use Rattle.std.specs.Int.{w64}
use Rattle.dwarf_base.specs.Numbers.{residue}
use Rattle.dwarf_value.proofs.Congruences.{Congruent, Congruent-sym, Congruent-bits, residue-Congruent}
use Rattle.dwarf_value.specs.declared.types.Value.{Value}
use Rattle.dwarf_value.specs.declared.types.Value.TheVariants.{Generic}
use Rattle.std.specs.Prelude.{bit_and}
use Rattle.dwarf_value.proofs.MaskBits.{width_of-le, and_address_mask}
use Rattle.dwarf_value.specs.Values.{IsAddressMask, width_of, word_integer, integer_of, unsigned_integer, floor_quotient}

-- the bits of a word are those of its integer
pub word_bits : (signed : Bool) (k n : ℕ) (z : ℤ) → n < 2 ^ k → word_integer signed k n ≡ z → n ≡ residue k z
word_bits signed k n z h e =
    let c : Congruent (2 ^ k) (pos n) (word_integer signed k n) = Congruent-sym _ _ _ (Congruent-bits signed k n) in
    sym (mod-eq_of_lt h) ∙ residue-Congruent k (pos n) z (subst (λ i. Congruent (2 ^ k) (pos n) i) e c)

-- ---- zero

word_zero : (signed : Bool) (k n : ℕ) → n < 2 ^ k → word_integer signed k n ≡ pos 0 → n ≡ 0
word_zero signed k n h e = word_bits signed k n (pos 0) h e ∙ mod-eq_of_lt (pow_pos k)

pub zero_word : (signed : Bool) (k n : ℕ) → n ≡ 0 → word_integer signed k n ≡ pos 0
unfolding word_integer
zero_word true k n e = let p = pow_pos (k - 1) in grind (arith, nat_tests)
zero_word false k n e = ap pos e

-- a value is zero with a sign if it is without, and without if it is with one
zero_as : (signed other : Bool) (w : ℕ) (x : Value) → integer_of signed w x ≡ pos 0 → integer_of other w x ≡ pos 0
unfolding integer_of
zero_as signed other w (Generic n) e = zero_word other w (n % 2 ^ w) (word_zero signed w (n % 2 ^ w) (mod_below n (2 ^ w) (pow_pos w)) e)
zero_as signed other w x e = e

pub zero_divisor : (signed : Bool) (w : ℕ) (x : Value) → integer_of signed w x ≡ pos 0 → int_eq (unsigned_integer w x) (pos 0) ≡ true
zero_divisor signed w x e = (Decides-int_eq (unsigned_integer w x) (pos 0)).1 (zero_as signed false w x e)

pub int_eq-false : (a b : ℤ) → a ≢ b → int_eq a b ≡ false
int_eq-false a b h = false_from_ne_true (int_eq a b) (λ e. h ((Decides-int_eq a b).0 e))

pub nonzero_divisor : (signed : Bool) (w : ℕ) (x : Value) → integer_of signed w x ≢ pos 0 → int_eq (unsigned_integer w x) (pos 0) ≡ false
nonzero_divisor signed w x h = int_eq-false _ _ (λ e. h (zero_as false signed w x e))

-- ---- quotients by large powers

quotient_by_large : (k a n : ℕ) → a < 2 ^ k → k ≤ n → a / 2 ^ n ≡ 0
quotient_by_large k a n h past = let most : 2 ^ k ≤ 2 ^ n = pow_mono {i = k} {j = n} past in div-eq_of_lt (omega arith)

-- all bits are shifted out
pub shifted_out : (a n : ℕ) → a < 2 ^ 64 → 64 ≤ n → a / 2 ^ n ≡ 0
shifted_out a n h past = quotient_by_large 64 a n h past

quotient-min : (k a n : ℕ) → a < 2 ^ k → a / 2 ^ min n k ≡ a / 2 ^ n
quotient-min k a n h =
    elim (cases_lt n k) [
      | inl below ↦ ap (λ i. a / 2 ^ i) (omega arith)
      | inr past ↦ quotient_by_large k a (min n k) h (omega arith) ∙ sym (quotient_by_large k a n h past)
    ]

-- to divide by more than 2 ^ 63 is to divide by that
floor_quotient-min : (z : ℤ) (n : ℕ) → neg_ℤ (pos (2 ^ 63)) ≤ℤ z → z <ℤ pos (2 ^ 63) → floor_quotient z (2 ^ min n 63) ≡ floor_quotient z (2 ^ n)
floor_quotient-min (pos a) n l h = ap pos (quotient-min 63 a n (omega (arith, ints)))
floor_quotient-min (negsuc a) n l h = ap negsuc (quotient-min 63 a n (omega (arith, ints)))

-- ---- words of an address, extended to 64 bits

halves : (w : ℕ) → 0 < w → 2 ^ w ≡ 2 ^ (w - 1) + 2 ^ (w - 1)
halves w h = let e : 2 ^ w ≡ 2 ^ (w - 1) * 2 = ap (λ k. 2 ^ k) (omega arith) ∙ pow-add 2 (w - 1) 1 in omega (arith, e)

-- the lowest bits of a number, extended to 64 bits
module _ (content mask : ℕ) (is_mask : IsAddressMask mask) (fits : mask < 2 ^ 64) where
  pub extended_negative : mask / 2 < bit_and content mask → word_integer true 64 (bit_and content mask + (18446744073709551615 - mask)) ≡ word_integer true (width_of mask) (content % 2 ^ width_of mask)
  unfolding word_integer
  extended_negative h =
      let w = width_of mask in let low = and_address_mask content mask is_mask in let n = mod_below content (2 ^ w) (pow_pos w) in
      let e = halves w is_mask.some_bit in let m : 2 ^ w ≤ 2 ^ 64 = pow_mono {i = w} {j = 64} (width_of-le mask fits) in let ones = is_mask.low_ones in
      grind (arith, ints, nat_tests)

  pub extended : bit_and content mask ≤ mask / 2 → word_integer true 64 (bit_and content mask) ≡ word_integer true (width_of mask) (content % 2 ^ width_of mask)
  unfolding word_integer
  extended h =
      let w = width_of mask in let low = and_address_mask content mask is_mask in let n = mod_below content (2 ^ w) (pow_pos w) in
      let e = halves w is_mask.some_bit in let m : 2 ^ w ≤ 2 ^ 64 = pow_mono {i = w} {j = 64} (width_of-le mask fits) in let ones = is_mask.low_ones in
      grind (arith, ints, nat_tests)

  pub without_sign : word_integer false 64 (bit_and content mask) ≡ word_integer false (width_of mask) (content % 2 ^ width_of mask)
  unfolding word_integer
  without_sign = ap pos (and_address_mask content mask is_mask)

pub ruleset generic_integers = (extended_negative, extended, without_sign)

-- ---- shifts to the right

pub floor_quotient-signed : (n length : ℕ) → n < 2 ^ 64 → floor_quotient (word_integer true 64 n) (2 ^ length) ≡ floor_quotient (to_z w64 n) (2 ^ min length 63)
unfolding word_integer
floor_quotient-signed n length h =
    let same : to_z w64 n ≡ word_integer true 64 n = grind (arith, ints, nat_tests) in
    ap (λ z. floor_quotient z (2 ^ length)) (sym same) ∙ sym (floor_quotient-min (to_z w64 n) length (omega (arith, ints)) (omega (arith, ints)))
