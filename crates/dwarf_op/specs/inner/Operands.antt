-- What the functions that read operands read at the front of a text.
use Rattle.std.specs.Prelude.{ℕ, ◌*◌, List, Result, Ok}
use Rattle.dwarf_base.specs.Faults.{Fault, ◌>>=◌}
use Rattle.dwarf_base.specs.Reads.{split_at, Text}
use Rattle.dwarf_meaning.specs.Decoding.{operands_at, unsigned_at}
use Rattle.dwarf_meaning.specs.Opcodes.{Row}
use Rattle.dwarf_meaning.specs.Operands.{Layout, Range, Leb128, PieceSize}
use Rattle.dwarf_meaning.specs.Operations as meaning

-- the operands of a row, and the operation that they make
abbrev pub operands_in : (offset_bits : ℕ) → Text → Row → Result (meaning.Operation × List ℕ) Fault
operands_in offset_bits text row = operands_at offset_bits text.is_big row text.bytes

-- an unsigned operand
abbrev pub unsigned_in : (offset_bits : ℕ) → Text → Layout × Range → Result (ℕ × List ℕ) Fault
unsigned_in offset_bits text form = unsigned_at offset_bits text.is_big form text.bytes

-- the size of a piece, in bits
abbrev pub bits_in : (offset_bits : ℕ) → Text → Result (ℕ × List ℕ) Fault
bits_in offset_bits text = unsigned_in offset_bits text (Leb128, PieceSize) >>= λ size. Ok (8 * size.0, size.1)

-- a block, its size first
abbrev pub block_in : (offset_bits : ℕ) → Text → (size : Layout × Range) → Result (Text × List ℕ) Fault
block_in offset_bits text size =
    unsigned_in offset_bits text size >>= λ n. split_at n.0 n.1
    >>= λ block. Ok (record { bytes = block.0; is_big = text.is_big }, block.1)
