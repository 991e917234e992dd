-- The operation at the front of a text and the bytes after it, or the fault (DWARF 5, sections 7.6 and 7.7.1).
use Rattle.std.specs.Prelude.{ℕ, ℤ, Bool, List, Result, Ok, Err}
use Rattle.dwarf_base.specs.declared.common.Encoding.{Encoding}
use Rattle.dwarf_base.specs.Faults.{Fault, invalid_expression, ◌>>=◌}
use Rattle.dwarf_base.specs.Leb.{uleb_at, sleb_at}
use Rattle.dwarf_base.specs.Reads.{u8_at, signed_at, address_at, split_at, Text}
use Rattle.dwarf_meaning.specs.Operations.{Operation}
use Rattle.dwarf_meaning.specs.Operands.{Context, as_text, Layout, Range, Bytes, Leb128, operand_value}
use Rattle.dwarf_meaning.specs.Opcodes.{Row, Makes, Unsigned, Signed, Block, Invalid, row_of}

-- An unsigned number in its layout. Only an address can have a size other than 1, 2, 4 or 8 bytes, which is a fault.
abbrev pub number_at : (big : Bool) → Layout → List ℕ → Result (ℕ × List ℕ) Fault
number_at big (Bytes size) bytes = address_at big size bytes
number_at big Leb128 bytes = uleb_at bytes

-- a signed number in its layout
abbrev pub integer_at : (big : Bool) → Layout → List ℕ → Result (ℤ × List ℕ) Fault
integer_at big (Bytes size) bytes = signed_at big size bytes
integer_at big Leb128 bytes = sleb_at bytes

module _ (offset_bits : ℕ) (big : Bool) where
  -- an unsigned operand
  abbrev pub unsigned_at : Layout × Range → List ℕ → Result (ℕ × List ℕ) Fault
  unsigned_at (layout, range) bytes =
      number_at big layout bytes >>= λ x. operand_value offset_bits range x.0 >>= λ value. Ok (value, x.1)

  -- the operands of a row, in order, and the operation that they make
  abbrev pub operands_at : Row → List ℕ → Result (Operation × List ℕ) Fault
  operands_at (Makes op) bytes = Ok (op, bytes)
  operands_at (Unsigned form next) bytes = unsigned_at form bytes >>= λ x. operands_at (next x.0) x.1
  operands_at (Signed layout next) bytes = integer_at big layout bytes >>= λ x. operands_at (next x.0) x.1
  operands_at (Block size next) bytes =
      split_at size bytes >>= λ x. operands_at (next (record { bytes = x.0; is_big = big })) x.1
  operands_at (Invalid opcode) bytes = Err (invalid_expression opcode)

-- an opcode and the operands of its row
unfoldable pub operation_at : Encoding → (offset_bits : ℕ) → Text → Result (Operation × List ℕ) Fault
operation_at encoding bits text = u8_at text.bytes >>= λ x. operands_at bits text.is_big (row_of encoding x.0) x.1

-- the same for bytes in a context
abbrev pub operation_in : Context → List ℕ → Result (Operation × List ℕ) Fault
operation_in context bytes = operation_at context.encoding context.offset_bits (as_text context bytes)
