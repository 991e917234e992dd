-- Which bytes spell which operation, and which texts are malformed: relations on whole lists of bytes (DWARF 5,
-- sections 7.6 and 7.7.1).
use Rattle.std.specs.Prelude.{ℕ, ◌*◌, ◌<◌, ◌≡◌, ℤ, Bool, true, false, List, [], ◌∷◌, ◌++◌, Ok, Err, length}
use Rattle.dwarf_base.specs.Faults.{Fault, past_the_end, invalid_expression}
use Rattle.dwarf_base.specs.declared.errors.Error.TheVariants.{UnsupportedAddressSize}
use Rattle.dwarf_base.specs.Leb.{SpellsLeb, MalformedLeb, unsigned_leb, signed_leb}
use Rattle.dwarf_base.specs.Numbers.{number_of, signed_of}
use Rattle.dwarf_base.specs.Reads.{is_fixed_size, Text}
use Rattle.dwarf_meaning.specs.Operations.{Operation}
use Rattle.dwarf_meaning.specs.Operands.{Context, as_text, Layout, Range, Bytes, Leb128, operand_value}
use Rattle.dwarf_meaning.specs.Opcodes.{Row, Makes, Unsigned, Signed, Block, Invalid, row_of}

-- the bytes spell the unsigned number
pub data SpellsNumber (big : Bool) : Layout → List ℕ → ℕ → Type 0 where
  in_bytes : (bytes : List ℕ) → is_fixed_size (length bytes) ≡ true
      → SpellsNumber big (Bytes (length bytes)) bytes (number_of big bytes)
  in_leb128 : (bytes : List ℕ) (number : ℕ) → SpellsLeb unsigned_leb bytes number
      → SpellsNumber big Leb128 bytes number

-- no prefix of the bytes spells an unsigned number, and this is the fault
pub data MalformedNumber : Layout → List ℕ → Fault → Type 0 where
  few_bytes : (size : ℕ) (bytes : List ℕ) → is_fixed_size size ≡ true → length bytes < size
      → MalformedNumber (Bytes size) bytes past_the_end
  address_size : (size : ℕ) (bytes : List ℕ) → is_fixed_size size ≡ false
      → MalformedNumber (Bytes size) bytes (UnsupportedAddressSize size)
  no_leb128 : (bytes : List ℕ) (fault : Fault) → MalformedLeb unsigned_leb bytes fault
      → MalformedNumber Leb128 bytes fault

-- the bytes spell the signed number
pub data SpellsInteger (big : Bool) : Layout → List ℕ → ℤ → Type 0 where
  in_signed_bytes : (bytes : List ℕ)
      → SpellsInteger big (Bytes (length bytes)) bytes (signed_of (8 * length bytes) (number_of big bytes))
  in_signed_leb128 : (bytes : List ℕ) (number : ℤ) → SpellsLeb signed_leb bytes number
      → SpellsInteger big Leb128 bytes number

-- no prefix of the bytes spells a signed number, and this is the fault
pub data MalformedInteger : Layout → List ℕ → Fault → Type 0 where
  few_signed_bytes : (size : ℕ) (bytes : List ℕ) → length bytes < size
      → MalformedInteger (Bytes size) bytes past_the_end
  no_signed_leb128 : (bytes : List ℕ) (fault : Fault) → MalformedLeb signed_leb bytes fault
      → MalformedInteger Leb128 bytes fault

-- the bytes spell an unsigned operand with this value
pub data SpellsUnsigned (context : Context) (form : Layout × Range) : List ℕ → ℕ → Type 0 where
  in_range : (bytes : List ℕ) (number value : ℕ)
      → SpellsNumber context.is_big form.0 bytes number → operand_value context.offset_bits form.1 number ≡ Ok value
      → SpellsUnsigned context form bytes value

-- no prefix of the bytes spells a number, or the number is out of the operand's range; this is the fault
pub data MalformedUnsigned (context : Context) (form : Layout × Range) : List ℕ → Fault → Type 0 where
  no_number : (bytes : List ℕ) (fault : Fault) → MalformedNumber form.0 bytes fault
      → MalformedUnsigned context form bytes fault
  out_of_range : (front rest : List ℕ) (number : ℕ) (fault : Fault)
      → SpellsNumber context.is_big form.0 front number → operand_value context.offset_bits form.1 number ≡ Err fault
      → MalformedUnsigned context form (front ++ rest) fault

-- the bytes spell the operands of a row, one after another, and those make the operation
pub data SpellsOperands (context : Context) : Row → List ℕ → Operation → Type 0 where
  makes : (op : Operation) → SpellsOperands context (Makes op) [] op
  unsigned : (form : Layout × Range) (next : ℕ → Row) (front rest : List ℕ) (value : ℕ) (op : Operation)
      → SpellsUnsigned context form front value → SpellsOperands context (next value) rest op
      → SpellsOperands context (Unsigned form next) (front ++ rest) op
  signed : (layout : Layout) (next : ℤ → Row) (front rest : List ℕ) (value : ℤ) (op : Operation)
      → SpellsInteger context.is_big layout front value → SpellsOperands context (next value) rest op
      → SpellsOperands context (Signed layout next) (front ++ rest) op
  block : (next : Text → Row) (front rest : List ℕ) (op : Operation)
      → SpellsOperands context (next (as_text context front)) rest op
      → SpellsOperands context (Block (length front) next) (front ++ rest) op

-- The first malformed operand of a row has this fault; those before it are spelled.
pub data MalformedOperands (context : Context) : Row → List ℕ → Fault → Type 0 where
  invalid : (opcode : ℕ) (bytes : List ℕ) → MalformedOperands context (Invalid opcode) bytes (invalid_expression opcode)
  unsigned_here : (form : Layout × Range) (next : ℕ → Row) (bytes : List ℕ) (fault : Fault)
      → MalformedUnsigned context form bytes fault → MalformedOperands context (Unsigned form next) bytes fault
  unsigned_after : (form : Layout × Range) (next : ℕ → Row) (front rest : List ℕ) (value : ℕ) (fault : Fault)
      → SpellsUnsigned context form front value → MalformedOperands context (next value) rest fault
      → MalformedOperands context (Unsigned form next) (front ++ rest) fault
  signed_here : (layout : Layout) (next : ℤ → Row) (bytes : List ℕ) (fault : Fault)
      → MalformedInteger layout bytes fault → MalformedOperands context (Signed layout next) bytes fault
  signed_after : (layout : Layout) (next : ℤ → Row) (front rest : List ℕ) (value : ℤ) (fault : Fault)
      → SpellsInteger context.is_big layout front value → MalformedOperands context (next value) rest fault
      → MalformedOperands context (Signed layout next) (front ++ rest) fault
  block_here : (size : ℕ) (next : Text → Row) (bytes : List ℕ) → length bytes < size
      → MalformedOperands context (Block size next) bytes past_the_end
  block_after : (next : Text → Row) (front rest : List ℕ) (fault : Fault)
      → MalformedOperands context (next (as_text context front)) rest fault
      → MalformedOperands context (Block (length front) next) (front ++ rest) fault

-- the bytes are an opcode and the operands of its row, and these make the operation
pub data Spells (context : Context) : List ℕ → Operation → Type 0 where
  spelled : (opcode : ℕ) (operands : List ℕ) (op : Operation)
      → SpellsOperands context (row_of context.encoding opcode) operands op → Spells context (opcode ∷ operands) op

-- no prefix of the bytes spells an operation, and this is the fault
pub data Malformed (context : Context) : List ℕ → Fault → Type 0 where
  no_opcode : Malformed context [] past_the_end
  bad_operands : (opcode : ℕ) (bytes : List ℕ) (fault : Fault)
      → MalformedOperands context (row_of context.encoding opcode) bytes fault
      → Malformed context (opcode ∷ bytes) fault
