-- Numbers of 1, 2, 4 and 8 bytes: std's conversions of arrays agree with `number_of`.
use Rattle.std.proofs.Common.{◌≡◌, ℕ, Bool, true, false, List, [], ◌∷◌, length, slice_index_or, arith, refl, if◌then◌else◌}
use Rattle.std.proofs.lemmas.Bool.Decides.{nat_tests}
use Rattle.std.specs.Int.{Width, w16, w32, w64, from_le_bytes, from_be_bytes}
use Rattle.dwarf_base.specs.Numbers.{number_of}
use Rattle.dwarf_base.specs.Reads.{u8_at, fixed_at}

-- a number of one byte is that byte, in either order
pub fixed_one : (big : Bool) (bytes : List ℕ) → fixed_at big 1 bytes ≡ u8_at bytes
unfolding fixed_at
fixed_one big [] = refl
fixed_one true (byte ∷ rest) = grind (arith, nat_tests)
fixed_one false (byte ∷ rest) = grind (arith, nat_tests)

pub one_byte : (big : Bool) (bytes : List ℕ) → length bytes ≡ 1 → number_of big bytes ≡ slice_index_or bytes 0 0
one_byte true (a ∷ []) h = omega arith
one_byte false (a ∷ []) h = omega arith
one_byte big bytes h = absurd (omega arith)

-- std's conversions of an array, the most or the least significant byte first
abbrev pub from_bytes : (big : Bool) → Width → List ℕ → ℕ
from_bytes big w bytes = if big then from_be_bytes w bytes else from_le_bytes w bytes

pub two_bytes : (big : Bool) (bytes : List ℕ) → length bytes ≡ 2 → number_of big bytes ≡ from_bytes big w16 bytes
two_bytes true (a ∷ b ∷ []) h = omega arith
two_bytes false (a ∷ b ∷ []) h = omega arith
two_bytes big bytes h = absurd (omega arith)

pub four_bytes : (big : Bool) (bytes : List ℕ) → length bytes ≡ 4 → number_of big bytes ≡ from_bytes big w32 bytes
four_bytes true (a ∷ b ∷ c ∷ d ∷ []) h = omega arith
four_bytes false (a ∷ b ∷ c ∷ d ∷ []) h = omega arith
four_bytes big bytes h = absurd (omega arith)

pub eight_bytes : (big : Bool) (bytes : List ℕ) → length bytes ≡ 8 → number_of big bytes ≡ from_bytes big w64 bytes
eight_bytes true (a ∷ b ∷ c ∷ d ∷ p ∷ q ∷ r ∷ s ∷ []) h = omega arith
eight_bytes false (a ∷ b ∷ c ∷ d ∷ p ∷ q ∷ r ∷ s ∷ []) h = omega arith
eight_bytes big bytes h = absurd (omega arith)

pub ruleset fixed_numbers = (one_byte, two_bytes, four_bytes, eight_bytes)
