-- Address masks and their widths.
use Rattle.std.proofs.Common.{◌≡◌, ℕ, zero, suc, ◌+◌, ◌-◌, ◌*◌, ◌/◌, ◌%◌, ◌^◌, ◌<◌, ◌≤◌, refl, sym, ap, ◌∙◌, arith, add-one, inl, inr}
use Rattle.std.specs.Prelude.{bit_and}
use Rattle.std.specs.Int.RustNames.{count_ones}
use Rattle.std.proofs.lemmas.Nat.{pow_pos, pow_below, pow-add, and_mask, ones_cat, ones-le, zero_from_ones}
use Rattle.std.proofs.Math.Nat.{eq-zero-or-pos}
use Rattle.std.proofs.lemmas.Nat.Bits.{ones_shr}
use Rattle.dwarf_value.specs.Values.{width_of, IsAddressMask}

-- one more low bit
low_ones-suc : (w : ℕ) → 2 ^ suc w - 1 ≡ (2 ^ w - 1) * 2 ^ 1 + 1
low_ones-suc w =
    let p = pow_pos w in
    let e : 2 ^ suc w ≡ 2 ^ w * 2 = ap (λ k. 2 ^ k) (sym (add-one w)) ∙ pow-add 2 w 1 in
    omega (arith, e)

count_ones-low : (w : ℕ) → count_ones (2 ^ w - 1) ≡ w
count_ones-low zero = unfold count_ones in refl
count_ones-low (suc w) =
    let one_bit : count_ones 1 ≡ 1 = unfold count_ones in refl in
    ap count_ones (low_ones-suc w) ∙ (ones_cat 1 (2 ^ w - 1) 1 (omega arith) ∙ omega (arith, count_ones-low w, one_bit))

-- the mask of w bits has the width w
pub width_of-low : (w : ℕ) → width_of (2 ^ w - 1) ≡ w
unfolding width_of
width_of-low w = count_ones-low w

-- the masks of one bit and more
pub address_mask : (w : ℕ) → 0 < w → IsAddressMask (2 ^ w - 1)
address_mask w h = record { some_bit = rw (width_of-low w) h; low_ones = ap (λ k. 2 ^ k - 1) (sym (width_of-low w)) }

-- no mask of 64 bits is wider
pub width_of-le : (mask : ℕ) → mask < 2 ^ 64 → width_of mask ≤ 64
unfolding width_of
width_of-le mask h = ones-le 64 mask h

-- a number other than zero has a one bit
pub ones_pos : (n : ℕ) → 0 < n → 0 < count_ones n
ones_pos n p = elim (eq-zero-or-pos (count_ones n)) [ inl e ↦ let z = zero_from_ones n e in absurd (omega arith) | inr q ↦ q ]

ones_low : (mask : ℕ) → mask < 2 ^ 64 → 18446744073709551615 / 2 ^ (64 - count_ones mask) ≡ 2 ^ count_ones mask - 1
ones_low mask h =
    let l = ones-le 64 mask h in
    let f : (2 ^ 64 - 1) / 2 ^ (64 - count_ones mask) ≡ 2 ^ (64 - (64 - count_ones mask)) - 1 = ones_shr 64 (64 - count_ones mask) (omega arith) in
    f ∙ ap (λ k. 2 ^ k - 1) (omega arith)

-- a mask that is all its one bits, moved to the lowest places
pub IsAddressMask-ones : (mask : ℕ) → 0 < mask → mask < 2 ^ 64 → mask ≡ 18446744073709551615 / 2 ^ (64 - count_ones mask) → IsAddressMask mask
unfolding width_of
IsAddressMask-ones mask p h e = record { some_bit = ones_pos mask p; low_ones = e ∙ ones_low mask h }

pub ones-IsAddressMask : (mask : ℕ) → mask < 2 ^ 64 → IsAddressMask mask → mask ≡ 18446744073709551615 / 2 ^ (64 - count_ones mask)
unfolding width_of
ones-IsAddressMask mask h m = m.low_ones ∙ sym (ones_low mask h)

pub not-IsAddressMask-zero : IsAddressMask 0 → ⊥
not-IsAddressMask-zero m = let p = pow_below 0 (width_of 0) m.some_bit in omega (arith, m.low_ones)

-- the lowest bits, by the mask of this many ones
pub and_address_mask : (n mask : ℕ) → IsAddressMask mask → bit_and n mask ≡ n % 2 ^ width_of mask
and_address_mask n mask is_mask = ap (bit_and n) is_mask.low_ones ∙ and_mask n (width_of mask)

-- all 64 bits
pub all_bits_mask : IsAddressMask 18446744073709551615
all_bits_mask = address_mask 64 (omega arith)

pub all_bits_width : width_of 18446744073709551615 ≡ 64
all_bits_width = width_of-low 64
