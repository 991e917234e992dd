-- The table of opcodes (DWARF 5, section 7.7.1, and the extensions of GNU and WebAssembly).
use Rattle.std.specs.Prelude.{ℕ, ◌+◌, ◌-◌, ◌*◌, ◌==◌, ◌&&◌, ◌||◌, nat_le, Bool, ℤ, pos, true, false, List, [], ◌∷◌, ◌++◌, Some, None, if◌then◌else◌}
use Rattle.dwarf_base.specs.declared.common.Encoding.{Encoding}
use Rattle.dwarf_base.specs.Reads.{offset_size, Text}
use Rattle.dwarf_meaning.specs.Operations as operation
use Rattle.dwarf_meaning.specs.Operations.{Operation, Address, AddressIndex, Binary, Bra, Call, CallFrameCFA, ConstantIndex, Convert, Deref, Drop, EntryValue, FrameOffset, ImplicitPointer, ImplicitValue, Nop, ParameterRef, Pick, Piece, PlusConstant, PushObjectAddress, RegisterOffset, Reinterpret, Rot, SignedConstant, Skip, StackValue, Swap, TLS, TypedLiteral, Unary, Uninitialized, UnsignedConstant, VariableValue, WasmGlobal, WasmLocal, WasmStack, UnitRef, DebugInfoRef}
use Rattle.dwarf_meaning.specs.Operands.{Layout, Range, Bytes, Leb128, Any, Offset, Register, PieceSize, U32, ref_size}
use Rattle.dwarf_value.specs.Values.{Abs, Neg, Not, Plus, Minus, Mul, Div, Mod, And, Or, Xor, Shl, Shr, Shra, Eq, Ne, Lt, Le, Gt, Ge}

-- What follows an opcode: operands in order, then the operation made from their values; or the opcode is unknown.
pub data Row : Type 0 where
  Makes : Operation → Row
  Unsigned : Layout × Range → (ℕ → Row) → Row
  Signed : Layout → (ℤ → Row) → Row
  Block : (size : ℕ) → (Text → Row) → Row
  Invalid : (opcode : ℕ) → Row

-- one unsigned operand
abbrev pub unsigned : Layout × Range → (ℕ → Operation) → Row
unsigned form make = Unsigned form (λ number. Makes (make number))

-- one signed operand
abbrev pub signed : Layout → (ℤ → Operation) → Row
signed layout make = Signed layout (λ number. Makes (make number))

-- a size and then this many bytes
abbrev pub sized_block : Layout × Range → (Text → Operation) → Row
sized_block form make = Unsigned form (λ size. Block size (λ block. Makes (make block)))

-- some opcodes, and the row of each
pub record Line : Type 0 where
  pub has : (opcode : ℕ) → Bool
  pub row : (opcode : ℕ) → Row

-- a single opcode
abbrev pub one : (opcode : ℕ) → Row → Line
one opcode row = record { has = λ n. n == opcode; row = λ n. row }

-- the standard's opcode, and that of the GNU extension that came before it
abbrev pub both : (standard gnu : ℕ) → Row → Line
both standard gnu row = record { has = λ n. n == standard || n == gnu; row = λ n. row }

-- a range of opcodes; the row of each is made from its distance from the first
abbrev pub range : (from to : ℕ) → (ℕ → Row) → Line
range from to row = record { has = λ n. nat_le from n && nat_le n to; row = λ n. row (n - from) }

-- consecutive opcodes, each without operands
abbrev pub nullary : (from : ℕ) → List Operation → List Line
nullary from [] = []
nullary from (op ∷ ops) = one from (Makes op) ∷ nullary (from + 1) ops

-- the row of the line that has the opcode, or `none` if no line has it
abbrev pub row_among : (none : Row) → (opcode : ℕ) → List Line → Row
row_among none opcode [] = none
row_among none opcode (line ∷ more) = if line.has opcode then line.row opcode else row_among none opcode more

-- the index after `DW_OP_WASM_location`, by its kind
abbrev pub wasm_row : (kind : ℕ) → Row
wasm_row kind =
    row_among (Invalid 0xed) kind
    (one 0 (unsigned (Leb128, U32) WasmLocal) ∷ one 1 (unsigned (Leb128, U32) WasmGlobal)
    ∷ one 2 (unsigned (Leb128, U32) WasmStack) ∷ one 3 (unsigned (Bytes 4, Any) WasmGlobal) ∷ [])

-- the whole table
abbrev pub lines : Encoding → List Line
lines encoding =
    one 0x03 (unsigned (Bytes encoding.address_size, Any) Address)
    ∷ one 0x06 (Makes (Deref 0 encoding.address_size false))
    ∷ one 0x08 (unsigned (Bytes 1, Any) UnsignedConstant) ∷ one 0x09 (signed (Bytes 1) SignedConstant)
    ∷ one 0x0a (unsigned (Bytes 2, Any) UnsignedConstant) ∷ one 0x0b (signed (Bytes 2) SignedConstant)
    ∷ one 0x0c (unsigned (Bytes 4, Any) UnsignedConstant) ∷ one 0x0d (signed (Bytes 4) SignedConstant)
    ∷ one 0x0e (unsigned (Bytes 8, Any) UnsignedConstant) ∷ one 0x0f (signed (Bytes 8) SignedConstant)
    ∷ one 0x10 (unsigned (Leb128, Any) UnsignedConstant) ∷ one 0x11 (signed Leb128 SignedConstant)
    ∷ nullary 0x12 (Pick 0 ∷ Drop ∷ Pick 1 ∷ [])
    ++ one 0x15 (unsigned (Bytes 1, Any) Pick)
    ∷ nullary 0x16 (Swap ∷ Rot ∷ Deref 0 encoding.address_size true ∷ [])
    ++ nullary 0x19 (Unary Abs ∷ Binary And ∷ Binary Div ∷ Binary Minus ∷ Binary Mod ∷ Binary Mul ∷ Unary Neg ∷ [])
    ++ nullary 0x20 (Unary Not ∷ Binary Or ∷ Binary Plus ∷ [])
    ++ one 0x23 (unsigned (Leb128, Any) PlusConstant)
    ∷ nullary 0x24 (Binary Shl ∷ Binary Shr ∷ Binary Shra ∷ Binary Xor ∷ [])
    ++ one 0x28 (signed (Bytes 2) Bra)
    ∷ nullary 0x29 (Binary Eq ∷ Binary Ge ∷ Binary Gt ∷ Binary Le ∷ Binary Lt ∷ Binary Ne ∷ [])
    ++ one 0x2f (signed (Bytes 2) Skip)
    ∷ range 0x30 0x4f (λ number. Makes (UnsignedConstant number))
    ∷ range 0x50 0x6f (λ number. Makes (operation.Register number))
    ∷ range 0x70 0x8f (λ number. signed Leb128 (λ offset. RegisterOffset number offset 0))
    ∷ one 0x90 (unsigned (Leb128, Register) operation.Register)
    ∷ one 0x91 (signed Leb128 FrameOffset)
    ∷ one 0x92 (Unsigned (Leb128, Register) λ n. signed Leb128 λ offset. RegisterOffset n offset 0)
    ∷ one 0x93 (unsigned (Leb128, PieceSize) (λ size. Piece (8 * size) None))
    ∷ one 0x94 (unsigned (Bytes 1, Any) (λ size. Deref 0 size false))
    ∷ one 0x95 (unsigned (Bytes 1, Any) (λ size. Deref 0 size true))
    ∷ nullary 0x96 (Nop ∷ PushObjectAddress ∷ [])
    ++ one 0x98 (unsigned (Bytes 2, Any) (λ offset. Call (UnitRef offset)))
    ∷ one 0x99 (unsigned (Bytes 4, Any) (λ offset. Call (UnitRef offset)))
    ∷ one 0x9a (unsigned (Bytes (offset_size encoding.format), Offset) (λ offset. Call (DebugInfoRef offset)))
    ∷ both 0x9b 0xe0 (Makes TLS)
    ∷ one 0x9c (Makes CallFrameCFA)
    ∷ one 0x9d (Unsigned (Leb128, Any) λ size. unsigned (Leb128, Any) λ offset. Piece size (Some offset))
    ∷ one 0x9e (sized_block (Leb128, Offset) ImplicitValue)
    ∷ one 0x9f (Makes StackValue)
    ∷ both 0xa0 0xf2 (Unsigned (Bytes (ref_size encoding), Offset) λ to. signed Leb128 (ImplicitPointer to))
    ∷ both 0xa1 0xfb (unsigned (Leb128, Offset) AddressIndex) ∷ both 0xa2 0xfc (unsigned (Leb128, Offset) ConstantIndex)
    ∷ both 0xa3 0xf3 (sized_block (Leb128, Offset) EntryValue)
    ∷ both 0xa4 0xf4 (Unsigned (Leb128, Offset) λ type. sized_block (Bytes 1, Any) (TypedLiteral type))
    ∷ both 0xa5 0xf5 (Unsigned (Leb128, Register) λ n. unsigned (Leb128, Offset) (RegisterOffset n (pos 0)))
    ∷ both 0xa6 0xf6 (Unsigned (Bytes 1, Any) λ size. unsigned (Leb128, Offset) λ type. Deref type size false)
    ∷ one 0xa7 (Unsigned (Bytes 1, Any) λ size. unsigned (Leb128, Offset) λ type. Deref type size true)
    ∷ both 0xa8 0xf7 (unsigned (Leb128, Offset) Convert) ∷ both 0xa9 0xf9 (unsigned (Leb128, Offset) Reinterpret)
    ∷ one 0xed (Unsigned (Bytes 1, Any) wasm_row)
    ∷ one 0xf0 (Makes Uninitialized)
    ∷ one 0xfa (unsigned (Bytes 4, Any) ParameterRef)
    ∷ one 0xfd (unsigned (Bytes (offset_size encoding.format), Offset) VariableValue)
    ∷ []

-- the row of an opcode
unfoldable pub row_of : Encoding → (opcode : ℕ) → Row
row_of encoding opcode = row_among (Invalid opcode) opcode (lines encoding)
