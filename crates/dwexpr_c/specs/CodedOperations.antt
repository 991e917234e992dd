-- Operations as a caller in C sees them: a kind, and numbers for the operands (DWARF 5, sections 2.5 and 2.6).
use Rattle.std.specs.Prelude.{ℕ, pos, Bool, true, false, List, Option, Some, None, ◌+◌, ◌-◌, ◌≡◌, Result, Ok, Err, IfOk, IfSome, length, slice_range}
use Rattle.dwarf_meaning.specs.Operations as op
use Rattle.dwexpr_c.specs.declared.operations.DwexprOperation.{DwexprOperation}
use Rattle.dwarf_base.specs.Faults.{Fault}
use Rattle.dwarf_meaning.specs.Operations.{Operation}
use Rattle.dwarf_op.specs.Names.{number_of}
use Rattle.dwexpr_c.specs.Codes.{code_of_fault, number_of_fault}

-- all numbers are 0
abbrev pub blank_operation : DwexprOperation
blank_operation = record {
  offset = 0;
  size = 0;
  opcode = 0;
  kind = 0;
  number = 0;
  signed_number = pos 0;
  base_type = 0;
  register_number = 0;
  deref_size = 0;
  flag = 0;
  fault = 0;
  block_offset = 0;
  block_length = 0;
  detail = 0;
}

-- 1 if it is true, else 0
abbrev pub flag_of : Bool → ℕ
flag_of true = 1
flag_of false = 0

-- the operands, except for a block
abbrev pub operands_of : Operation → DwexprOperation
operands_of (op.Deref base_type size space) =
    record blank_operation { base_type = base_type; deref_size = size; flag = flag_of space }
operands_of (op.Pick index) = record blank_operation { number = index }
operands_of (op.PlusConstant value) = record blank_operation { number = value }
operands_of (op.Bra target) = record blank_operation { signed_number = target }
operands_of (op.Skip target) = record blank_operation { signed_number = target }
operands_of (op.UnsignedConstant value) = record blank_operation { number = value }
operands_of (op.SignedConstant value) = record blank_operation { signed_number = value }
operands_of (op.Register register) = record blank_operation { register_number = register }
operands_of (op.RegisterOffset register offset base_type) =
    record blank_operation { register_number = register; signed_number = offset; base_type = base_type }
operands_of (op.FrameOffset offset) = record blank_operation { signed_number = offset }
operands_of (op.Call (op.UnitRef offset)) = record blank_operation { number = offset }
operands_of (op.Call (op.DebugInfoRef offset)) = record blank_operation { number = offset; flag = 1 }
operands_of (op.Piece size_in_bits None) = record blank_operation { number = size_in_bits }
operands_of (op.Piece size_in_bits (Some bit_offset)) =
    record blank_operation { number = size_in_bits; flag = 1; detail = bit_offset }
operands_of (op.ImplicitPointer value byte_offset) =
    record blank_operation { number = value; signed_number = byte_offset }
operands_of (op.ParameterRef offset) = record blank_operation { number = offset }
operands_of (op.Address address) = record blank_operation { number = address }
operands_of (op.AddressIndex index) = record blank_operation { number = index }
operands_of (op.ConstantIndex index) = record blank_operation { number = index }
operands_of (op.TypedLiteral base_type value) = record blank_operation { base_type = base_type }
operands_of (op.Convert base_type) = record blank_operation { base_type = base_type }
operands_of (op.Reinterpret base_type) = record blank_operation { base_type = base_type }
operands_of (op.WasmLocal index) = record blank_operation { number = index }
operands_of (op.WasmGlobal index) = record blank_operation { number = index }
operands_of (op.WasmStack index) = record blank_operation { number = index }
operands_of (op.VariableValue offset) = record blank_operation { number = offset }
operands_of _ = blank_operation

-- the block, if the operation has one
abbrev pub block_in : Operation → Option (List ℕ)
block_in (op.ImplicitValue bytes) = Some bytes.bytes
block_in (op.EntryValue expression) = Some expression.bytes
block_in (op.TypedLiteral base_type value) = Some value.bytes
block_in _ = None

-- ---- decoding

-- nothing was decoded at this offset; the code says why
abbrev pub undecoded_operation : (offset code : ℕ) → DwexprOperation
undecoded_operation offset code = record blank_operation { offset = offset; fault = code }

-- adds the block of an operation that ends here
abbrev pub with_block : (end : ℕ) → Option (List ℕ) → DwexprOperation → DwexprOperation
with_block end None shown = shown
with_block end (Some block) shown = record shown { block_offset = end - length block; block_length = length block }

-- an operation at this offset, with its opcode and this many bytes; its kind is its number
abbrev pub decoded_operation : (offset opcode size : ℕ) → Operation → DwexprOperation
decoded_operation offset opcode size operation =
    record (with_block (offset + size) (block_in operation) (operands_of operation)) {
      offset = offset;
      opcode = opcode;
      size = size;
      kind = number_of operation;
    }

-- the shown operation, by the operation or fault that is read at the offset; `left` bytes are there to read
abbrev pub Decodes : (offset opcode left : ℕ) → Result (Operation × List ℕ) Fault → DwexprOperation → Type 0
Decodes offset opcode left (Ok read) shown = shown ≡ decoded_operation offset opcode (left - length read.1) read.0
Decodes offset opcode left (Err fault) shown =
    shown
    ≡ record (undecoded_operation offset (code_of_fault fault)) { opcode = opcode; detail = number_of_fault fault }

-- the shown place has the block of what was read, if it has one
abbrev pub IsBlockAt : (bytes : List ℕ) → DwexprOperation → Result (Operation × List ℕ) Fault → Type 0
IsBlockAt bytes shown answer =
    let at = slice_range bytes shown.block_offset (shown.block_offset + shown.block_length) in
    IfOk answer (λ read. IfSome (block_in read.0) (λ block. at ≡ block))
