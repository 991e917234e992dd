-- The operands of operators on two values, or their fault. Only contracts of private functions cite this file.
use Rattle.std.specs.Prelude.{◌≡◌, ◌≢◌, ◌⊎◌, ℕ, pos, Bool, true, false, unsigned_abs}
use Rattle.std.specs.Int.{is_negative}
use Rattle.std.specs.Ordering.{int_eq}
use Rattle.dwarf_base.specs.Numbers.{residue}
use Rattle.dwarf_base.specs.declared.errors.Error.{Error}
use Rattle.dwarf_base.specs.declared.errors.Error.TheVariants.{TypeMismatch, DivisionByZero, InvalidShiftExpression}
use Rattle.dwarf_value.specs.declared.types.Value.{Value}
use Rattle.dwarf_value.specs.declared.types.ValueType.{ValueType}
use Rattle.dwarf_value.specs.declared.word.Word.{Word}
use Rattle.dwarf_value.specs.Values.{type_of, is_same, word_integer, integer_of, unsigned_integer}

-- t is the type of both values, and a and b are their words
pub record AreOperands (signed : Bool) (w : ℕ) (x y : Value) (t : ValueType) (a b : Word) : Type 0 where
  pub same : is_same (type_of x) (type_of y) ≡ true
  pub value_type : t ≡ type_of x
  pub first_bits : a.bits ≡ residue 64 (integer_of signed w x)
  pub first : word_integer a.signed 64 a.bits ≡ integer_of signed w x
  pub second_bits : b.bits ≡ residue 64 (integer_of signed w y)
  pub second : word_integer b.signed 64 b.bits ≡ integer_of signed w y
  pub signs : a.signed ≡ b.signed

-- the types differ, and the fault says so
pub record UnfitOperands (x y : Value) (e : Error) : Type 0 where
  pub differ : is_same (type_of x) (type_of y) ≡ false
  pub fault : e ≡ TypeMismatch

-- the same for a dividend and a divisor that isn't zero
pub record AreDivided (signed : Bool) (w : ℕ) (x y : Value) (t : ValueType) (a b : Word) : Type 0 where
  pub operands : AreOperands signed w x y t a b
  pub nonzero : int_eq (unsigned_integer w y) (pos 0) ≡ false
  pub divisor : word_integer b.signed 64 b.bits ≢ pos 0

-- the divisor is zero, or the types differ
abbrev pub UnfitDivision : (w : ℕ) → Value → Value → Error → Type 0
UnfitDivision w x y e =
    ((int_eq (unsigned_integer w y) (pos 0) ≡ true) × (e ≡ DivisionByZero))
    ⊎ ((int_eq (unsigned_integer w y) (pos 0) ≡ false) × UnfitOperands x y e)

-- n is the length of a shift by y
pub record IsLength (w : ℕ) (y : Value) (n : ℕ) : Type 0 where
  pub accepted : is_negative (unsigned_integer w y) ≡ false
  pub length : n ≡ unsigned_abs (unsigned_integer w y)

-- the length of a shift by y is negative
pub record UnfitLength (w : ℕ) (y : Value) (e : Error) : Type 0 where
  pub negative : is_negative (unsigned_integer w y) ≡ true
  pub fault : e ≡ InvalidShiftExpression
