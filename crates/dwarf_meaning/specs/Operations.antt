-- Operations of DWARF expressions (DWARF 5, sections 2.5 and 2.6), without readers.
use Rattle.std.specs.Prelude.{ℕ, ℤ, Bool, Option}
use Rattle.dwarf_base.specs.Reads.{Text}
use Rattle.dwarf_value.specs.Values.{UnaryOperator, BinaryOperator}

-- the called entry, by its offset in this unit or in `.debug_info`
pub data DieReference : Type 0 where
  UnitRef DebugInfoRef : (offset : ℕ) → DieReference

-- An operation with its operands. The base type 0 is the generic type.
pub data Operation : Type 0 where
  -- constants (section 2.5.1.1)
  UnsignedConstant : (value : ℕ) → Operation
  SignedConstant : (value : ℤ) → Operation
  Address : (address : ℕ) → Operation
  AddressIndex ConstantIndex : (index : ℕ) → Operation
  TypedLiteral : (base_type : ℕ) (value : Text) → Operation
  -- values of registers (section 2.5.1.2)
  FrameOffset : (offset : ℤ) → Operation
  RegisterOffset : (register : ℕ) (offset : ℤ) (base_type : ℕ) → Operation
  -- the stack, and memory (section 2.5.1.3)
  Drop Swap Rot : Operation
  Pick : (index : ℕ) → Operation
  Deref : (base_type size : ℕ) (space : Bool) → Operation
  PushObjectAddress TLS CallFrameCFA : Operation
  -- arithmetic and logic (section 2.5.1.4)
  Unary : UnaryOperator → Operation
  PlusConstant : (value : ℕ) → Operation
  -- arithmetic and logic, and comparisons (section 2.5.1.5)
  Binary : BinaryOperator → Operation
  -- branches and calls (section 2.5.1.5)
  Skip Bra : (target : ℤ) → Operation
  Call : (offset : DieReference) → Operation
  -- types (section 2.5.1.6)
  Convert Reinterpret : (base_type : ℕ) → Operation
  -- others (section 2.5.1.7)
  Nop : Operation
  EntryValue : (expression : Text) → Operation
  -- locations and pieces (section 2.6.1)
  Register : (register : ℕ) → Operation
  ImplicitValue : (bytes : Text) → Operation
  StackValue : Operation
  ImplicitPointer : (value : ℕ) (byte_offset : ℤ) → Operation
  Piece : (size_in_bits : ℕ) (bit_offset : Option ℕ) → Operation
  -- the extensions of GNU and of WebAssembly
  Uninitialized : Operation
  ParameterRef VariableValue : (offset : ℕ) → Operation
  WasmLocal WasmGlobal WasmStack : (index : ℕ) → Operation
