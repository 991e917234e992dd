-- LEB128 numbers (DWARF 5, section 7.6): seven bits per byte, the least significant first. The high bit is set in every
-- byte except the last. A number has at most ten bytes and 64 bits, and may be padded.
use Rattle.std.specs.Prelude.{ℕ, ◌+◌, ◌*◌, ◌%◌, ◌^◌, ◌≤◌, ◌<◌, Bool, true, false, List, [], ◌∷◌, ◌++◌, Result, Ok, Err, length, nat_lt, ◌==◌, ◌||◌, if◌then◌else◌, ℤ, pos, ◌-ℤ◌, ◌≡◌, ◌⊎◌}
use Rattle.dwarf_base.specs.Faults.{Fault, past_the_end, ◌>>=◌}
use Rattle.dwarf_base.specs.declared.errors.Error.TheVariants.{BadUnsignedLeb128, BadSignedLeb128}

-- how unsigned and signed numbers differ: which tenth bytes are allowed, the fault for any other tenth byte, and the
-- number, by the sum of the low bits, the number of bytes and the last byte
pub record LebForm (A : Type 0) : Type 0 where
  pub allows_tenth : ℕ → Bool
  pub fault : Fault
  pub number : (sum count last : ℕ) → A

-- a tenth byte may be 0 or 1
abbrev pub unsigned_leb : LebForm ℕ
unsigned_leb = record { allows_tenth = λ byte. nat_lt byte 2; fault = BadUnsignedLeb128; number = λ sum n last. sum }

-- the sign is bit 0x40 of the last byte
abbrev pub sign_extension : (sum count last : ℕ) → ℤ
sign_extension sum count last = if nat_lt last 64 then pos sum else pos sum -ℤ pos (128 ^ count)

-- a tenth byte may be 0 or 127
abbrev pub signed_leb : LebForm ℤ
signed_leb =
    record { allows_tenth = λ byte. byte == 0 || byte == 127; fault = BadSignedLeb128; number = sign_extension }

-- ---- which bytes spell a number

-- the sum of the low seven bits of each byte times 128 ^ its place; `place` bytes come before
abbrev pub low_sum : (place : ℕ) → List ℕ → ℕ
low_sum place [] = 0
low_sum place (byte ∷ bytes) = byte % 128 * 128 ^ place + low_sum (place + 1) bytes

-- the high bit is set in every byte except the last
abbrev pub IsEnded : List ℕ → Type 0
IsEnded [] = ⊥
IsEnded (byte ∷ []) = byte < 128
IsEnded (byte ∷ next ∷ bytes) = (128 ≤ byte) × IsEnded (next ∷ bytes)

-- the last byte, or 0 if there is none
abbrev pub last_byte_of : List ℕ → ℕ
last_byte_of [] = 0
last_byte_of (byte ∷ []) = byte
last_byte_of (byte ∷ next ∷ bytes) = last_byte_of (next ∷ bytes)

-- the bytes, all of them, spell the value
pub record SpellsLeb {A : Type 0} (form : LebForm A) (bytes : List ℕ) (value : A) : Type 0 where
  pub ended : IsEnded bytes
  pub at_most_ten : length bytes ≤ 10
  pub tenth : length bytes ≡ 10 → form.allows_tenth (last_byte_of bytes) ≡ true
  pub value_is : value ≡ form.number (low_sum 0 bytes) (length bytes) (last_byte_of bytes)

-- ---- which bytes are malformed

-- the high bit is set in every byte
abbrev pub GoesOn : List ℕ → Type 0
GoesOn [] = Unit {0}
GoesOn (byte ∷ bytes) = (128 ≤ byte) × GoesOn bytes

-- at most nine bytes, and the number's last byte isn't among them
pub record IsCutOff (bytes : List ℕ) : Type 0 where
  pub goes_on : GoesOn bytes
  pub at_most_nine : length bytes ≤ 9

-- nine bytes that go on, and then a tenth byte that isn't allowed
pub record IsTooLong {A : Type 0} (form : LebForm A) (bytes : List ℕ) : Type 0 where
  pub nine : List ℕ
  pub tenth : ℕ
  pub rest : List ℕ
  pub whole : nine ++ (tenth ∷ rest) ≡ bytes
  pub goes_on : GoesOn nine
  pub are_nine : length nine ≡ 9
  pub refused : form.allows_tenth tenth ≡ false

-- no prefix of the bytes spells a number, and this is the fault
abbrev pub MalformedLeb : {A : Type 0} → LebForm A → List ℕ → Fault → Type 0
MalformedLeb form bytes fault =
    (IsCutOff bytes × (fault ≡ past_the_end)) ⊎ (IsTooLong form bytes × (fault ≡ form.fault))

-- ---- reading one

-- a number at the front, after `place` bytes whose low bits add up to `sum`
abbrev pub leb_from : {A : Type 0} → LebForm A → (place sum : ℕ) → List ℕ → Result (A × List ℕ) Fault
leb_from form place sum [] = Err past_the_end
leb_from form place sum (byte ∷ rest) =
    if place == 9 then (if form.allows_tenth byte then Ok (form.number (sum + byte * 128 ^ 9) 10 byte, rest)
    else Err form.fault)
    else (if nat_lt byte 128 then Ok (form.number (sum + byte * 128 ^ place) (place + 1) byte, rest)
    else leb_from form (place + 1) (sum + byte % 128 * 128 ^ place) rest)

-- an unsigned number at the front
unfoldable pub uleb_at : List ℕ → Result (ℕ × List ℕ) Fault
uleb_at bytes = leb_from unsigned_leb 0 0 bytes

-- a signed number at the front
unfoldable pub sleb_at : List ℕ → Result (ℤ × List ℕ) Fault
sleb_at bytes = leb_from signed_leb 0 0 bytes

-- a number as one of 32 bits
abbrev pub within_u32 : ℕ → Result ℕ Fault
within_u32 number = if nat_lt number (2 ^ 32) then Ok number else Err BadUnsignedLeb128

-- an unsigned number of 32 bits at the front
abbrev pub uleb_u32_at : List ℕ → Result (ℕ × List ℕ) Fault
uleb_u32_at bytes = uleb_at bytes >>= λ number. within_u32 number.0 >>= λ small. Ok (small, number.1)
