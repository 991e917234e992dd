-- Values as types and integers, and what each call on values returns (DWARF 5, section 2.5).
use Rattle.std.specs.Prelude.{ℕ, ◌-◌, ◌/◌, ◌%◌, ◌^◌, ◌<◌, ◌≡◌, ℤ, pos, negsuc, neg_ℤ, ◌+ℤ◌, ◌-ℤ◌, ◌*ℤ◌, Bool, true, false, not, if◌then◌else◌, nat_le, ◌==◌, unsigned_abs, int_lt, int_le, int_div, int_rem, bit_and, bit_or, bit_xor, List, Option, Some, None, Result, Ok, Err}
use denote.Enum.Bare.{sameb}
use Rattle.std.specs.Int.{is_negative}
use Rattle.std.specs.Int.RustNames.{count_ones}
use Rattle.std.specs.Ordering.{int_eq}
use Rattle.dwarf_base.specs.Faults.{Fault, ◌>>=◌}
use Rattle.dwarf_base.specs.Reads.{fixed_at}
use Rattle.dwarf_base.specs.Numbers.{residue, signed_of}
use Rattle.dwarf_base.specs.declared.errors.Error.{Error}
use Rattle.dwarf_base.specs.declared.errors.Error.TheVariants.{UnsupportedTypeOperation, TypeMismatch, DivisionByZero, InvalidShiftExpression}
use Rattle.dwarf_value.specs.declared.types.Value.{Value}
use Rattle.dwarf_value.specs.declared.types.Value.TheVariants.{Generic, I8, U8, I16, U16, I32, U32, I64, U64}
use Rattle.dwarf_value.specs.declared.types.ValueType.{ValueType}
use Rattle.dwarf_value.specs.contracts.types.ValueType.{the_type}
use Rattle.dwarf_value.specs.declared.types.ValueType.TheVariants as kind

-- how many bits an address has: the number of ones in its mask
unfoldable pub width_of : ℕ → ℕ
width_of mask = count_ones mask

-- the mask of an address: 2 ^ w - 1 for a width w from 1 up
pub record IsAddressMask (mask : ℕ) : Type 0 where
  pub some_bit : 0 < width_of mask
  pub low_ones : mask ≡ 2 ^ width_of mask - 1

-- ---- types and integers

-- whether a type is signed, and how many bits its values have; for the generic type both are the arguments
abbrev pub shape_of : (signed : Bool) (w : ℕ) → ValueType → Bool × ℕ
shape_of signed w kind.Generic = (signed, w)
shape_of signed w kind.I8 = (true, 8)
shape_of signed w kind.U8 = (false, 8)
shape_of signed w kind.I16 = (true, 16)
shape_of signed w kind.U16 = (false, 16)
shape_of signed w kind.I32 = (true, 32)
shape_of signed w kind.U32 = (false, 32)
shape_of signed w kind.I64 = (true, 64)
shape_of signed w kind.U64 = (false, 64)

-- whether a type is signed; for the generic type it is `generic`
unfoldable pub is_signed : (generic : Bool) → ValueType → Bool
is_signed generic t = (shape_of generic 0 t).0

-- how many bits a value of the type has, if an address has w
unfoldable pub bit_size_of : (w : ℕ) → ValueType → ℕ
bit_size_of w t = (shape_of false w t).1

-- whether two types are equal by `==`
unfoldable pub is_same : ValueType → ValueType → Bool
is_same = sameb the_type

-- the integer in k bits: in two's complement if it is signed, else from 0 up
unfoldable pub word_integer : (signed : Bool) (k : ℕ) → ℕ → ℤ
word_integer signed k n = if signed then signed_of k n else pos n

-- the type of a value, and its integer; a generic value's integer is that of its lowest w bits, signed or not
abbrev pub parts_of : (signed : Bool) (w : ℕ) → Value → ValueType × ℤ
parts_of signed w (Generic n) = (kind.Generic, word_integer signed w (n % 2 ^ w))
parts_of signed w (I8 x) = (kind.I8, x)
parts_of signed w (U8 n) = (kind.U8, pos n)
parts_of signed w (I16 x) = (kind.I16, x)
parts_of signed w (U16 n) = (kind.U16, pos n)
parts_of signed w (I32 x) = (kind.I32, x)
parts_of signed w (U32 n) = (kind.U32, pos n)
parts_of signed w (I64 x) = (kind.I64, x)
parts_of signed w (U64 n) = (kind.U64, pos n)

-- the type of a value
unfoldable pub type_of : Value → ValueType
type_of x = (parts_of false 0 x).0

-- the integer of a value; a generic value is signed or not, as the first argument says
unfoldable pub integer_of : (signed : Bool) (w : ℕ) → Value → ℤ
integer_of signed w x = (parts_of signed w x).1

-- the integer of a value; a generic value is unsigned
abbrev pub unsigned_integer : (w : ℕ) → Value → ℤ
unsigned_integer = integer_of false

-- the integer of a value; a generic value is signed
abbrev pub signed_integer : (w : ℕ) → Value → ℤ
signed_integer = integer_of true

-- two values have equal types and integers; generic ones agree if their contents are congruent modulo 2 ^ w
pub record Agree (w : ℕ) (x y : Value) : Type 0 where
  pub types : type_of x ≡ type_of y
  pub integers : unsigned_integer w x ≡ unsigned_integer w y

-- the value of a type that is congruent to the integer modulo 2 ^ k, for a type of k bits; a generic value has g bits
unfoldable pub value_of : (g : ℕ) → ValueType → ℤ → Value
value_of g kind.Generic z = Generic (residue g z)
value_of g kind.I8 z = I8 (signed_of 8 (residue 8 z))
value_of g kind.U8 z = U8 (residue 8 z)
value_of g kind.I16 z = I16 (signed_of 16 (residue 16 z))
value_of g kind.U16 z = U16 (residue 16 z)
value_of g kind.I32 z = I32 (signed_of 32 (residue 32 z))
value_of g kind.U32 z = U32 (residue 32 z)
value_of g kind.I64 z = I64 (signed_of 64 (residue 64 z))
value_of g kind.U64 z = U64 (residue 64 z)

-- ---- numbers of 64 bits, and other types

-- the value's integer modulo 2 ^ 64
abbrev pub to_u64_of : (w : ℕ) → Value → ℕ
to_u64_of w x = residue 64 (unsigned_integer w x)

-- the number as a value of a type, wrapped to its size
abbrev pub from_u64_of : ValueType → ℕ → Value
from_u64_of t n = value_of 64 t (pos n)

-- one of four types, by its size in bytes
abbrev pub type_of_size : (t8 t16 t32 t64 : ValueType) (byte_size : ℕ) → Option ValueType
type_of_size t8 t16 t32 t64 byte_size =
    if byte_size == 1 then Some t8
    else if byte_size == 2 then Some t16
    else if byte_size == 4 then Some t32
    else if byte_size == 8 then Some t64
    else None

-- the type of integers with this encoding, 5 for signed and 7 for unsigned ones, and this size in bytes (DWARF 5,
-- section 7.8)
abbrev pub from_encoding_of : (encoding byte_size : ℕ) → Option ValueType
from_encoding_of encoding byte_size =
    if encoding == 0x05 then type_of_size kind.I8 kind.I16 kind.I32 kind.I64 byte_size
    else if encoding == 0x07 then type_of_size kind.U8 kind.U16 kind.U32 kind.U64 byte_size
    else None

-- the value of a type that the first bytes spell; the generic type is refused, as it has no size of its own
abbrev pub parse_of : ValueType → (big : Bool) (bytes : List ℕ) → Result Value Fault
parse_of t big bytes =
    if is_same t kind.Generic then Err UnsupportedTypeOperation
    else fixed_at big (bit_size_of 64 t / 8) bytes >>= λ number. Ok (from_u64_of t number.0)

-- the value converted to a type, through its number of 64 bits
abbrev pub convert_of : (w : ℕ) → ValueType → Value → Result Value Error
convert_of w t x = Ok (from_u64_of t (to_u64_of w x))

-- the value's bits as a value of another type of the same size; of a generic value all 64 bits
abbrev pub reinterpret_of : (w : ℕ) → ValueType → Value → Result Value Error
reinterpret_of w t x =
    if bit_size_of w (type_of x) == bit_size_of w t then Ok (from_u64_of t (to_u64_of 64 x)) else Err TypeMismatch

-- ---- operators

-- the operators on the value on top of the stack
pub data UnaryOperator : Type 0 where
  Abs Neg Not : UnaryOperator

-- the operators on the two values on top
pub data BinaryOperator : Type 0 where
  Plus Minus Mul Div Mod And Or Xor Shl Shr Shra Eq Ne Lt Le Gt Ge : BinaryOperator

-- the third value if the first two have one type, else `TypeMismatch`
abbrev pub of_one_type : Value → Value → Value → Result Value Error
of_one_type x y result = if is_same (type_of x) (type_of y) then Ok result else Err TypeMismatch

-- the integers of two values of one type, combined and wrapped
abbrev pub combination : (ℤ → ℤ → ℤ) → (w : ℕ) → Value → Value → Result Value Error
combination f w x y = of_one_type x y (value_of w (type_of x) (f (unsigned_integer w x) (unsigned_integer w y)))

-- the third value, of a division; `DivisionByZero` if the divisor is zero, else `TypeMismatch` if the types differ
abbrev pub division : (w : ℕ) → Value → Value → Value → Result Value Error
division w x y result = if int_eq (unsigned_integer w y) (pos 0) then Err DivisionByZero else of_one_type x y result

-- the result for a shift's length, which may have any type; `InvalidShiftExpression` if it is negative
abbrev pub shift : (w : ℕ) (length : Value) → (ℕ → Result Value Error) → Result Value Error
shift w length result =
    if is_negative (unsigned_integer w length) then Err InvalidShiftExpression
    else result (unsigned_abs (unsigned_integer w length))

-- an integer divided by a positive number, rounded down
abbrev pub floor_quotient : ℤ → ℕ → ℤ
floor_quotient (pos n) m = pos (n / m)
floor_quotient (negsuc n) m = negsuc (n / m)

-- the generic 1 if the integers of two values of one type pass the test, else the generic 0
abbrev pub comparison : (ℤ → ℤ → Bool) → (w : ℕ) → Value → Value → Result Value Error
comparison passes w x y = of_one_type x y (Generic (if passes (signed_integer w x) (signed_integer w y) then 1 else 0))

-- The result of each operator on one value: the absolute value; the negated integer, or a fault for an unsigned type;
-- the bitwise complement, which is the negated integer minus one.
abbrev pub unary_of : UnaryOperator → (w : ℕ) → Value → Result Value Error
unary_of Abs w x = Ok (value_of 64 (type_of x) (pos (unsigned_abs (signed_integer w x))))
unary_of Neg w x =
    if is_signed true (type_of x) then Ok (value_of 64 (type_of x) (neg_ℤ (signed_integer w x)))
    else Err UnsupportedTypeOperation
unary_of Not w x = Ok (value_of 64 (type_of x) (neg_ℤ (unsigned_integer w x) -ℤ pos 1))

-- The result of each operator on two values; `y` is the top of the stack. A quotient is rounded towards zero, and a
-- remainder has the dividend's sign. `And`, `Or` and `Xor` combine two numbers of 64 bits bit by bit. A shift
-- multiplies by 2 ^ n, or divides by it and rounds down. If n is at least the type's size, `Shl` gives zero. Signed
-- types have no `Shr`, and unsigned ones no `Shra`.
abbrev pub binary_of : BinaryOperator → (w : ℕ) → Value → Value → Result Value Error
binary_of Plus w x y = combination ◌+ℤ◌ w x y
binary_of Minus w x y = combination ◌-ℤ◌ w x y
binary_of Mul w x y = combination ◌*ℤ◌ w x y
binary_of Div w x y = division w x y (value_of 64 (type_of x) (int_div (signed_integer w x) (signed_integer w y)))
binary_of Mod w x y = division w x y (value_of 64 (type_of x) (int_rem (unsigned_integer w x) (unsigned_integer w y)))
binary_of And w x y = of_one_type x y (from_u64_of (type_of x) (bit_and (to_u64_of w x) (to_u64_of w y)))
binary_of Or w x y = of_one_type x y (from_u64_of (type_of x) (bit_or (to_u64_of w x) (to_u64_of w y)))
binary_of Xor w x y = of_one_type x y (from_u64_of (type_of x) (bit_xor (to_u64_of w x) (to_u64_of w y)))
binary_of Shl w x y = shift w y λ n.
    Ok (value_of 64 (type_of x) (if nat_le (bit_size_of w (type_of x)) n then pos 0
    else unsigned_integer w x *ℤ pos (2 ^ n)))
binary_of Shr w x y = shift w y λ n.
    if is_signed false (type_of x) then Err UnsupportedTypeOperation
    else Ok (value_of 64 (type_of x) (floor_quotient (unsigned_integer w x) (2 ^ n)))
binary_of Shra w x y = shift w y λ n.
    if is_signed true (type_of x) then Ok (value_of 64 (type_of x) (floor_quotient (signed_integer w x) (2 ^ n)))
    else Err UnsupportedTypeOperation
binary_of Eq w x y = comparison int_eq w x y
binary_of Ne w x y = comparison (λ a b. not (int_eq a b)) w x y
binary_of Lt w x y = comparison int_lt w x y
binary_of Le w x y = comparison int_le w x y
binary_of Gt w x y = comparison (λ a b. int_lt b a) w x y
binary_of Ge w x y = comparison (λ a b. int_le b a) w x y
