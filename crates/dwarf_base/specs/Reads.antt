-- What is read from the front of a list of bytes: a value and the bytes after it, or a fault.
use Rattle.std.specs.Prelude.{ℕ, ◌-◌, ◌*◌, ◌≤◌, ◌≡◌, ◌==◌, ◌||◌, ℤ, Bool, List, [], ◌∷◌, Result, Ok, Err, length, take, drop, nat_lt, if◌then◌else◌}
use Rattle.dwarf_base.specs.declared.common.Format.{Format}
use Rattle.dwarf_base.specs.declared.common.Format.TheVariants.{Dwarf32, Dwarf64}
use Rattle.dwarf_base.specs.declared.errors.Error.{Error}
use Rattle.dwarf_base.specs.Faults.{Fault, past_the_end, fault_of, ◌>>=◌}
use Rattle.dwarf_base.specs.declared.errors.Error.TheVariants.{UnsupportedAddressSize}
use Rattle.dwarf_base.specs.Numbers.{number_of, signed_of, offset_of}

-- bytes in a byte order
pub record Text : Type 0 where
  pub bytes : List ℕ
  pub is_big : Bool

-- a call returns the value that is read, seen through `view`, and leaves the bytes after it; or it returns the fault
abbrev pub Gives : {X Y : Type 0} → (X → Y) → Result X Error → List ℕ → Result (Y × List ℕ) Fault → Type 0
Gives view (Ok x) left read = read ≡ Ok (view x, left)
Gives view (Err e) left read = read ≡ Err (fault_of e)

-- the rest is a suffix of the bytes
pub record IsSuffix (rest bytes : List ℕ) : Type 0 where
  pub no_longer : length rest ≤ length bytes
  pub same : drop (length bytes - length rest) bytes ≡ rest

-- a call returns what is read, or its fault; the new text is a suffix of the old one, in the same byte order
pub record Reads {X Y : Type 0} (view : X → Y) (old new : Text) (result : Result X Error)
    (read : Result (Y × List ℕ) Fault) : Type 0 where
  pub value : Gives view result new.bytes read
  pub rest : IsSuffix new.bytes old.bytes
  pub order : new.is_big ≡ old.is_big

-- the text that is left is a suffix of the whole, in the same byte order
pub record IsRestOf (left whole : Text) : Type 0 where
  pub rest : IsSuffix left.bytes whole.bytes
  pub order : left.is_big ≡ whole.is_big

-- the first n bytes
abbrev pub split_at : ℕ → List ℕ → Result (List ℕ × List ℕ) Fault
split_at n bytes = if nat_lt (length bytes) n then Err past_the_end else Ok (take n bytes, drop n bytes)

-- what follows the first n bytes
abbrev pub skip_at : ℕ → List ℕ → Result (Unit {0} × List ℕ) Fault
skip_at n bytes = if nat_lt (length bytes) n then Err past_the_end else Ok (tt, drop n bytes)

-- one byte
abbrev pub u8_at : List ℕ → Result (ℕ × List ℕ) Fault
u8_at [] = Err past_the_end
u8_at (byte ∷ rest) = Ok (byte, rest)

-- an unsigned number of n bytes
unfoldable pub fixed_at : (big : Bool) (n : ℕ) → List ℕ → Result (ℕ × List ℕ) Fault
fixed_at big n bytes = split_at n bytes >>= λ front. Ok (number_of big front.0, front.1)

-- a signed number of n bytes
abbrev pub signed_at : (big : Bool) (n : ℕ) → List ℕ → Result (ℤ × List ℕ) Fault
signed_at big n bytes = fixed_at big n bytes >>= λ number. Ok (signed_of (8 * n) number.0, number.1)

-- whether a number of fixed size may have this many bytes
abbrev pub is_fixed_size : ℕ → Bool
is_fixed_size n = n == 1 || n == 2 || n == 4 || n == 8

-- an address of this many bytes (DWARF 5, section 7.5.1)
abbrev pub address_at : (big : Bool) (size : ℕ) → List ℕ → Result (ℕ × List ℕ) Fault
address_at big size bytes = if is_fixed_size size then fixed_at big size bytes else Err (UnsupportedAddressSize size)

-- how many bytes an offset has in a format (DWARF 5, section 7.4)
abbrev pub offset_size : Format → ℕ
offset_size Dwarf32 = 4
offset_size Dwarf64 = 8

-- an offset in a format, which has to fit this many bits
abbrev pub format_at : (big : Bool) → Format → (bits : ℕ) → List ℕ → Result (ℕ × List ℕ) Fault
format_at big format bits bytes =
    fixed_at big (offset_size format) bytes >>= λ number. offset_of bits number.0 >>= λ offset. Ok (offset, number.1)
