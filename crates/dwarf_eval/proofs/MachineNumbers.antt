-- Numbers: where a branch leads, the mask of an address, and whether one operation more may be counted.
use Rattle.std.proofs.Common.{w64, ℕ, ℤ, pos, ◌≡◌, ◌+◌, ◌%◌, ◌^◌, ◌+ℤ◌, refl, ap, ◌∙◌, arith, ◌-◌, ◌*◌, ◌/◌, ◌≤◌, ◌<◌, true, nat_lt, ◌&&◌}
use Rattle.std.proofs.lemmas.Int.{ints, to_z-of_z}
use Rattle.std.specs.Prelude.{FitsSigned, negsuc}
use Rattle.std.specs.Int.{cast_unsigned, cast_signed}
use Rattle.dwarf_base.specs.Numbers.{residue}
use Rattle.dwarf_value.proofs.Congruences.{Congruent, Congruent-add, Congruent-residue, residue-Congruent}
use Rattle.std.proofs.lemmas.Nat.Bits.{ones_shr}
use Rattle.std.proofs.lemmas.Bool.Decides.{nat_tests}
use Rattle.dwarf_meaning.specs.Run.{most_operations}

pub residue-add : (bits place : ℕ) (z : ℤ) → (place + residue bits z) % 2 ^ bits ≡ residue bits (pos place +ℤ z)
residue-add bits place z =
    let same : Congruent (2 ^ bits) (pos place) (pos place) = record { left = 0; right = 0; same = refl } in
    residue-Congruent bits (pos (place + residue bits z)) (pos place +ℤ z)
    (Congruent-add (2 ^ bits) (pos place) (pos place) (pos (residue bits z)) z same (Congruent-residue bits z))

cast-residue : (z : ℤ) → FitsSigned w64 z → cast_unsigned w64 z ≡ residue 64 z
cast-residue (pos n) h = omega (arith, ints, h.sfits)
cast-residue (negsuc n) h = omega (arith, ints, h.sfits)

-- a signed number that was passed on, and then cast
pub passed-residue : (z : ℤ) (n : ℕ) → FitsSigned w64 z → n ≡ cast_unsigned w64 (cast_signed w64 (cast_unsigned w64 z)) → n ≡ residue 64 z
passed-residue z n h e = e ∙ (ap (cast_unsigned w64) (to_z-of_z w64 z h) ∙ cast-residue z h)

pub mask_is : (bytes : ℕ) → bytes ≤ 8 → 18446744073709551615 / 2 ^ (64 - 8 * bytes) ≡ 2 ^ (8 * bytes) - 1
mask_is bytes h =
    let low : 64 - (64 - 8 * bytes) ≡ 8 * bytes = omega (arith, h) in
    ones_shr 64 (64 - 8 * bytes) (omega arith) ∙ ap (λ (k : ℕ). 2 ^ k - 1) low

pub may_count : (count maximum : ℕ) → count < maximum → maximum < 2 ^ 32 → (nat_lt count maximum && nat_lt count most_operations) ≡ true
unfolding most_operations
may_count count maximum h i = grind (arith, nat_tests)
