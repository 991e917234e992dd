-- Operands of operations: how their bytes are laid out, and which values they may have (DWARF 5, section 7.7.1).
use Rattle.std.specs.Prelude.{ℕ, ◌*◌, ◌^◌, ◌==◌, nat_lt, Bool, List, Result, Ok, Err, if◌then◌else◌}
use Rattle.dwarf_base.specs.declared.common.Encoding.{Encoding}
use Rattle.dwarf_base.specs.Faults.{Fault}
use Rattle.dwarf_base.specs.declared.errors.Error.TheVariants.{InvalidPieceSize}
use Rattle.dwarf_base.specs.Leb.{within_u32}
use Rattle.dwarf_base.specs.Numbers.{offset_of, register_of}
use Rattle.dwarf_base.specs.Reads.{offset_size, Text}

-- what decoding depends on besides the bytes
pub record Context : Type 0 where
  pub encoding : Encoding
  pub offset_bits : ℕ
  pub is_big : Bool

-- the context with these three fields
abbrev pub context_of : Encoding → (offset_bits : ℕ) → (is_big : Bool) → Context
context_of encoding offset_bits is_big = record { encoding = encoding; offset_bits = offset_bits; is_big = is_big }

-- bytes as a text, in that byte order
abbrev pub as_text : Context → List ℕ → Text
as_text context bytes = record { bytes = bytes; is_big = context.is_big }

-- how the bytes of a number are laid out; those of a signed one are in two's complement
pub data Layout : Type 0 where
  Bytes : (size : ℕ) → Layout
  Leb128 : Layout

-- which unsigned numbers an operand may have
pub data Range : Type 0 where
  Any Offset Register PieceSize U32 : Range

-- how many bytes a reference into `.debug_info` has: as many as an address in version 2, else as many as an offset
abbrev pub ref_size : Encoding → ℕ
ref_size encoding = if encoding.version == 2 then encoding.address_size else offset_size encoding.format

-- the number as the operand's value, or the fault of a number that is out of range
abbrev pub operand_value : (offset_bits : ℕ) → Range → (number : ℕ) → Result ℕ Fault
operand_value bits Any number = Ok number
operand_value bits Offset number = offset_of bits number
operand_value bits Register number = register_of number
operand_value bits PieceSize number = if nat_lt (8 * number) (2 ^ 64) then Ok number else Err (InvalidPieceSize number)
operand_value bits U32 number = within_u32 number
