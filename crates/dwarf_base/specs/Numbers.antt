-- Integers modulo a power of two, numbers made of bytes, and numbers that have to fit.
use Rattle.std.specs.Prelude.{ℕ, ◌+◌, ◌-◌, ◌*◌, ◌%◌, ◌^◌, ℤ, pos, negsuc, ◌-ℤ◌, Bool, List, [], ◌∷◌, reverse, Result, Ok, Err, nat_lt, if◌then◌else◌}
use Rattle.dwarf_base.specs.Faults.{Fault}
use Rattle.dwarf_base.specs.declared.errors.Error.TheVariants.{UnsupportedOffset, UnsupportedRegister}

-- an integer modulo 2 ^ bits, from 0 up
abbrev pub residue : (bits : ℕ) → ℤ → ℕ
residue bits (pos n) = n % 2 ^ bits
residue bits (negsuc n) = 2 ^ bits - 1 - n % 2 ^ bits

-- a number as an offset, if it fits this many bits
abbrev pub offset_of : (bits number : ℕ) → Result ℕ Fault
offset_of bits number = if nat_lt number (2 ^ bits) then Ok number else Err UnsupportedOffset

-- a number as the number of a register, if it is at most 65535
abbrev pub register_of : ℕ → Result ℕ Fault
register_of number = if nat_lt number 65536 then Ok number else Err (UnsupportedRegister number)

-- two's complement: the signed integer of this many bits that is congruent to the number modulo 2 ^ bits
abbrev pub signed_of : (bits number : ℕ) → ℤ
signed_of bits number = if nat_lt number (2 ^ (bits - 1)) then pos number else pos number -ℤ pos (2 ^ bits)

-- the number that bytes make, the least significant first
abbrev pub little_of : List ℕ → ℕ
little_of [] = 0
little_of (byte ∷ bytes) = byte + 256 * little_of bytes

-- the number that bytes make in a byte order; `big` says that the most significant comes first (DWARF 5, section 7)
abbrev pub number_of : (big : Bool) → List ℕ → ℕ
number_of big bytes = little_of (if big then reverse bytes else bytes)
