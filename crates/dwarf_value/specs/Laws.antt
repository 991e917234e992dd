-- Laws of values, over what the calls on them return.
use Rattle.std.specs.Prelude.{ℕ, ◌^◌, ◌<◌, ◌≤◌, pos, ◌≡◌, ◌≢◌, ◌⊎◌, true, false, FitsSigned, Result, Ok, Err}
use Rattle.std.specs.Int.{w8, w16, w32, w64}
use Rattle.dwarf_base.specs.declared.errors.Error.{Error}
use Rattle.dwarf_value.specs.declared.types.Value.{Value}
use Rattle.dwarf_value.specs.declared.types.Value.TheVariants.{Generic, I8, U8, I16, U16, I32, U32, I64, U64}
use Rattle.dwarf_value.specs.declared.types.ValueType.{ValueType}
use Rattle.dwarf_value.specs.declared.types.ValueType.TheVariants as kind
use Rattle.dwarf_value.specs.Values.{type_of, bit_size_of, is_signed, unsigned_integer, Agree, to_u64_of, from_u64_of, convert_of, reinterpret_of, UnaryOperator, BinaryOperator, unary_of, binary_of, Neg, Plus, Mul, Div, Mod, Eq, Ne, Lt, Le, Gt, Ge}

-- the width of an address mask
pub record IsWidth (w : ℕ) : Type 0 where
  pub some_bit : 0 < w
  pub within_64 : w ≤ 64

-- a value's number is in the range of its type, as that of each value in a program is
unfoldable pub InRange : Value → Type 0
InRange (Generic n) = n < 2 ^ 64
InRange (I8 x) = FitsSigned w8 x
InRange (U8 n) = n < 2 ^ 8
InRange (I16 x) = FitsSigned w16 x
InRange (U16 n) = n < 2 ^ 16
InRange (I32 x) = FitsSigned w32 x
InRange (U32 n) = n < 2 ^ 32
InRange (I64 x) = FitsSigned w64 x
InRange (U64 n) = n < 2 ^ 64

-- ---- comparisons

-- a comparison gives 1
abbrev pub IsTrue : Result Value Error → Type 0
IsTrue result = result ≡ Ok (Generic 1)

-- a comparison gives 0
abbrev pub Fails : Result Value Error → Type 0
Fails result = result ≡ Ok (Generic 0)

-- exactly one of three results is 1
abbrev pub OneHolds : (first second third : Result Value Error) → Type 0
OneHolds a b c = (IsTrue a × Fails b × Fails c) ⊎ (Fails a × IsTrue b × Fails c) ⊎ (Fails a × Fails b × IsTrue c)

-- of two values of one type, the first is below the second, equal to it or above it
abbrev pub Trichotomy : Type 0
Trichotomy =
    (w : ℕ) (x y : Value) → IsWidth w → type_of x ≡ type_of y
    → OneHolds (binary_of Lt w x y) (binary_of Eq w x y) (binary_of Gt w x y)

-- one of two results is 1, and the other 0
abbrev pub AreOpposite : (first second : Result Value Error) → Type 0
AreOpposite a b = (IsTrue a × Fails b) ⊎ (Fails a × IsTrue b)

-- each comparison has an opposite
abbrev pub Opposites : Type 0
Opposites =
    (w : ℕ) (x y : Value) → IsWidth w → type_of x ≡ type_of y
    → AreOpposite (binary_of Ne w x y) (binary_of Eq w x y) × AreOpposite (binary_of Ge w x y) (binary_of Lt w x y)
    × AreOpposite (binary_of Le w x y) (binary_of Gt w x y)

-- ---- arithmetic

-- the quotient times the divisor, plus the remainder, is the dividend, for each type except the generic one
abbrev pub QuotientAndRemainder : Type 0
QuotientAndRemainder =
    (w : ℕ) (x y : Value) → IsWidth w → InRange x → type_of x ≢ kind.Generic → type_of x ≡ type_of y
    → unsigned_integer w y ≢ pos 0
    → (quotient remainder product : Value) × (binary_of Div w x y ≡ Ok quotient) × (binary_of Mod w x y ≡ Ok remainder)
    × (binary_of Mul w quotient y ≡ Ok product) × (binary_of Plus w product remainder ≡ Ok x)

-- applying the operator twice gives the value back
abbrev pub GivesBack : (operator : ℕ → Value → Result Value Error) → (w : ℕ) → Value → Type 0
GivesBack operator w x = (there : Value) × (operator w x ≡ Ok there) × (operator w there ≡ Ok x)

-- applying the operator twice gives back each value of a signed type
abbrev pub GivesBackSigned : (operator : ℕ → Value → Result Value Error) → Type 0
GivesBackSigned operator =
    (w : ℕ) (x : Value) → IsWidth w → InRange x → is_signed false (type_of x) ≡ true → GivesBack operator w x

-- negating twice gives back each value of a signed type
abbrev pub NegateTwice : Type 0
NegateTwice = GivesBackSigned (unary_of Neg)

-- negating a generic value twice gives a value that agrees with it
abbrev pub NegateTwiceGeneric : Type 0
NegateTwiceGeneric =
    (w n : ℕ) → IsWidth w
    → (negated again : Value) × (unary_of Neg w (Generic n) ≡ Ok negated) × (unary_of Neg w negated ≡ Ok again)
    × Agree w (Generic n) again

-- reinterpreting a value as another type of the same size, and then as its own again, gives a value that agrees with it
abbrev pub ReinterpretTwice : Type 0
ReinterpretTwice =
    (w : ℕ) (t : ValueType) (x : Value) → IsWidth w → InRange x → bit_size_of w (type_of x) ≡ bit_size_of w t
    → (there back : Value) × (reinterpret_of w t x ≡ Ok there) × (reinterpret_of w (type_of x) there ≡ Ok back)
    × Agree w x back

-- ---- agreement

-- two results are agreeing values, or the same error
pub data AgreeingResults (w : ℕ) : Result Value Error → Result Value Error → Type 0 where
  values : {x y : Value} → Agree w x y → AgreeingResults w (Ok x) (Ok y)
  errors : {e : Error} → AgreeingResults w (Err e) (Err e)

-- a call on one value has the same result for agreeing ones
abbrev pub SameForOne : (ℕ → Value → Result Value Error) → Type 0
SameForOne result = (w : ℕ) (x x' : Value) → Agree w x x' → result w x ≡ result w x'

-- a call on two values has the same result for agreeing ones
abbrev pub SameForTwo : (ℕ → Value → Value → Result Value Error) → Type 0
SameForTwo result = (w : ℕ) (x x' y y' : Value) → Agree w x x' → Agree w y y' → result w x y ≡ result w x' y'

-- Agreeing arguments give equal results. Those of `reinterpret` only agree, since it reads all bits of a generic value.
pub record AgreementIsKept : Type 0 where
  pub to_u64 : (w : ℕ) (x x' : Value) → Agree w x x' → to_u64_of w x ≡ to_u64_of w x'
  pub convert : (t : ValueType) → SameForOne (λ w. convert_of w t)
  pub reinterpret : (w : ℕ) (t : ValueType) (x x' : Value) → IsWidth w → Agree w x x'
      → AgreeingResults w (reinterpret_of w t x) (reinterpret_of w t x')
  pub add_constant : (w n : ℕ) (x x' : Value) → Agree w x x'
      → binary_of Plus w x (from_u64_of (type_of x) n) ≡ binary_of Plus w x' (from_u64_of (type_of x') n)
  pub unary : (op : UnaryOperator) → SameForOne (unary_of op)
  pub binary : (op : BinaryOperator) → SameForTwo (binary_of op)
