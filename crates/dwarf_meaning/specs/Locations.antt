-- Locations and the pieces of a variable (DWARF 5, section 2.6.1).
use Rattle.std.specs.Prelude.{ℕ, ℤ, Option, Some}
use Rattle.dwarf_base.specs.Reads.{Text}
use Rattle.dwarf_value.specs.declared.types.Value.{Value}

-- where a piece is, or what it holds
pub data Location : Type 0 where
  Empty : Location
  InRegister : (register : ℕ) → Location
  AtAddress : (address : ℕ) → Location
  HoldsValue : (value : Value) → Location
  HoldsBytes : (value : Text) → Location
  PointsInto : (value : ℕ) (byte_offset : ℤ) → Location

-- A part of a variable, or all of it if there is no size.
pub record Piece : Type 0 where
  pub size_in_bits : Option ℕ
  pub bit_offset : Option ℕ
  pub location : Location

-- a piece of this size, at this offset
abbrev pub sized_piece : (size_in_bits : ℕ) → (bit_offset : Option ℕ) → Location → Piece
sized_piece size offset location = record { size_in_bits = Some size; bit_offset = offset; location = location }
