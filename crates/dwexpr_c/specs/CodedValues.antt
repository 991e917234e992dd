-- Values of expressions as two numbers, a type and a content (DWARF 5, section 2.5.1).
use Rattle.std.specs.Prelude.{ℕ, ◌==◌, Option, Some, None, option_map, if◌then◌else◌, ◌||◌, ◌≡◌, List, [], ◌∷◌, find, Result, Ok, Err}
use Rattle.dwarf_base.specs.Numbers.{residue}
use Rattle.dwarf_value.specs.Values.{from_u64_of, bit_size_of, parse_of, convert_of, reinterpret_of, unary_of, binary_of, Abs, Neg, Not, Plus, Minus, Mul, Div, Mod, Xor, Shl, Shr, Shra, Eq, Ge, Gt, Le, Lt, Ne, And, Or}
use Rattle.dwarf_value.specs.declared.types.Value.{Value}
use Rattle.dwarf_value.specs.declared.types.Value.TheVariants as value
use Rattle.dwarf_value.specs.declared.types.ValueType.{ValueType}
use Rattle.dwarf_value.specs.declared.types.ValueType.TheVariants as value_type
use Rattle.dwexpr_c.specs.declared.values.DwexprValue.{DwexprValue}
use Rattle.dwarf_base.specs.Faults.{Fault}
use Rattle.dwexpr_c.specs.Codes.{code_of_fault}
use Rattle.dwarf_meaning.specs.Operations.{Unary, Binary, Convert, Reinterpret}
use Rattle.dwarf_op.specs.Names.{number_of}
use Rattle.dwexpr_c.specs.declared.faults.TheConstants as codes
use Rattle.dwexpr_c.specs.declared.types.TheConstants as types

-- the type with a code
abbrev pub type_coded : (code : ℕ) → Option ValueType
type_coded code =
    if code == types.GENERIC then Some value_type.Generic
    else if code == types.I8 then Some value_type.I8
    else if code == types.U8 then Some value_type.U8
    else if code == types.I16 then Some value_type.I16
    else if code == types.U16 then Some value_type.U16
    else if code == types.I32 then Some value_type.I32
    else if code == types.U32 then Some value_type.U32
    else if code == types.I64 then Some value_type.I64
    else if code == types.U64 then Some value_type.U64
    else None

-- the code of a type, or 0 if there is none
abbrev pub type_code : Option ValueType → ℕ
type_code None = types.NO_TYPE
type_code (Some value_type.Generic) = types.GENERIC
type_code (Some value_type.I8) = types.I8
type_code (Some value_type.U8) = types.U8
type_code (Some value_type.I16) = types.I16
type_code (Some value_type.U16) = types.U16
type_code (Some value_type.I32) = types.I32
type_code (Some value_type.U32) = types.U32
type_code (Some value_type.I64) = types.I64
type_code (Some value_type.U64) = types.U64

-- the value with this type's code and this content, which wraps to the type
abbrev pub value_coded : (code content : ℕ) → Option Value
value_coded code content = option_map (λ t. from_u64_of t content) (type_coded code)

-- a value as a caller sees it; a signed content is sign-extended to 64 bits
abbrev pub shown_value : Value → DwexprValue
shown_value (value.Generic content) = record { value_type = types.GENERIC; content = content }
shown_value (value.I8 number) = record { value_type = types.I8; content = residue 64 number }
shown_value (value.U8 number) = record { value_type = types.U8; content = number }
shown_value (value.I16 number) = record { value_type = types.I16; content = residue 64 number }
shown_value (value.U16 number) = record { value_type = types.U16; content = number }
shown_value (value.I32 number) = record { value_type = types.I32; content = residue 64 number }
shown_value (value.U32 number) = record { value_type = types.U32; content = number }
shown_value (value.I64 number) = record { value_type = types.I64; content = residue 64 number }
shown_value (value.U64 number) = record { value_type = types.U64; content = number }

-- ---- calls on values

-- the result of a call; `None` if its numbers stand for no call
abbrev pub Computed : Type 0
Computed = Option (Result Value Fault)

-- no value
abbrev pub no_value : DwexprValue
no_value = record { value_type = types.NO_TYPE; content = 0 }

-- a call returns this code and writes this value
abbrev pub Answers : Computed → (code : ℕ) → DwexprValue → Type 0
Answers None code shown = (code ≡ codes.BAD_VALUE) × (shown ≡ no_value)
Answers (Some (Err fault)) code shown = (code ≡ code_of_fault fault) × (shown ≡ no_value)
Answers (Some (Ok value)) code shown = (code ≡ 0) × (shown ≡ shown_value value)

-- the value that numbers stand for
abbrev pub value_in : DwexprValue → Option Value
value_in numbers = value_coded numbers.value_type numbers.content

-- ---- operations, by their kinds, which are their numbers

-- an operation on one value: that of the operator with this kind
abbrev pub unary_coded : (operation w : ℕ) → Value → Computed
unary_coded operation w x =
    option_map (λ operator. unary_of operator w x)
    (find (λ operator. operation == number_of (Unary operator)) (Abs ∷ Neg ∷ Not ∷ []))

-- the same, if there is a value
abbrev pub unary_in : (operation w : ℕ) → Option Value → Computed
unary_in operation w None = None
unary_in operation w (Some x) = unary_coded operation w x

-- an operation on two values: that of the operator with this kind
abbrev pub binary_coded : (operation w : ℕ) → Value → Value → Computed
binary_coded operation w x y =
    option_map (λ operator. binary_of operator w x y)
    (find (λ operator. operation == number_of (Binary operator))
    (And ∷ Div ∷ Minus ∷ Mod ∷ Mul ∷ Or ∷ Plus ∷ Shl ∷ Shr
    ∷ Shra ∷ Xor ∷ Eq ∷ Ge ∷ Gt ∷ Le ∷ Lt ∷ Ne ∷ []))

-- the same, if there are values
abbrev pub binary_in : (operation w : ℕ) → Option Value → Option Value → Computed
binary_in operation w None right = None
binary_in operation w (Some x) None = None
binary_in operation w (Some x) (Some y) = binary_coded operation w x y

-- a value converted to another type, by its number or by its bits
abbrev pub conversion_of : (operation w : ℕ) → ValueType → Value → Computed
conversion_of operation w t x =
    if operation == number_of (Convert 0) then Some (convert_of w t x)
    else if operation == number_of (Reinterpret 0) then Some (reinterpret_of w t x)
    else None

-- the same, if there are a type and a value
abbrev pub conversion_in : (operation w : ℕ) → Option ValueType → Option Value → Computed
conversion_in operation w None value = None
conversion_in operation w (Some t) None = None
conversion_in operation w (Some t) (Some x) = conversion_of operation w t x

-- ---- types and bytes

-- the value in the first bytes, if there are a type and a byte order
abbrev pub parsed_in : Option ValueType → (order : ℕ) → List ℕ → Computed
parsed_in None order bytes = None
parsed_in (Some t) order bytes = if order == 0 || order == 1 then Some (parse_of t (order == 1) bytes) else None

-- the size of a type's values in bits, or 0 if there is no type
abbrev pub bit_size_in : (w : ℕ) → Option ValueType → ℕ
bit_size_in w None = 0
bit_size_in w (Some t) = bit_size_of w t
