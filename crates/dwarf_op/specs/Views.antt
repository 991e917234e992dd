-- Maps operations, references and locations of the code to the definitions. A reader becomes a text, and an offset a
-- number.
use Rattle.std.specs.Prelude.{ℕ}
use Rattle.dwarf_base.specs.Reads.{Text}
use Rattle.dwarf_meaning.specs.Locations as locations
use Rattle.dwarf_meaning.specs.Operations as meaning
use Rattle.dwarf_op.specs.declared.locations.Location.{Location}
use Rattle.dwarf_op.specs.declared.locations.Location.TheVariants as location
use Rattle.dwarf_op.specs.declared.locations.Piece.{Piece}
use Rattle.dwarf_op.specs.declared.operations.Operation.{Operation}
use Rattle.dwarf_op.specs.declared.operations.Operation.TheVariants as operation
use Rattle.dwarf_op.specs.declared.operations.DieReference.{DieReference}
use Rattle.dwarf_op.specs.declared.operations.DieReference.TheVariants as reference
use Rattle.dwarf_value.specs.Values.{Abs, Neg, Not, Plus, Minus, Mul, Div, Mod, And, Or, Xor, Shl, Shr, Shra, Eq, Ne, Lt, Le, Gt, Ge}

-- maps a reference in the code to the definitions
abbrev pub reference_of : {O : Type 0} → (O → ℕ) → DieReference O → meaning.DieReference
reference_of number (reference.UnitRef offset) = meaning.UnitRef (number offset.0)
reference_of number (reference.DebugInfoRef offset) = meaning.DebugInfoRef (number offset.0)

module _ {R O : Type 0} (text : R → Text) (number : O → ℕ) where
  -- maps an operation in the code to the definitions
  abbrev pub operation_of : Operation R O → meaning.Operation
  operation_of (operation.Deref size base_type space) = meaning.Deref (number base_type.0) size space
  operation_of operation.Drop = meaning.Drop
  operation_of (operation.Pick index) = meaning.Pick index
  operation_of operation.Swap = meaning.Swap
  operation_of operation.Rot = meaning.Rot
  operation_of operation.Abs = meaning.Unary Abs
  operation_of operation.And = meaning.Binary And
  operation_of operation.Div = meaning.Binary Div
  operation_of operation.Minus = meaning.Binary Minus
  operation_of operation.Mod = meaning.Binary Mod
  operation_of operation.Mul = meaning.Binary Mul
  operation_of operation.Neg = meaning.Unary Neg
  operation_of operation.Not = meaning.Unary Not
  operation_of operation.Or = meaning.Binary Or
  operation_of operation.Plus = meaning.Binary Plus
  operation_of (operation.PlusConstant value) = meaning.PlusConstant value
  operation_of operation.Shl = meaning.Binary Shl
  operation_of operation.Shr = meaning.Binary Shr
  operation_of operation.Shra = meaning.Binary Shra
  operation_of operation.Xor = meaning.Binary Xor
  operation_of (operation.Bra target) = meaning.Bra target
  operation_of operation.Eq = meaning.Binary Eq
  operation_of operation.Ge = meaning.Binary Ge
  operation_of operation.Gt = meaning.Binary Gt
  operation_of operation.Le = meaning.Binary Le
  operation_of operation.Lt = meaning.Binary Lt
  operation_of operation.Ne = meaning.Binary Ne
  operation_of (operation.Skip target) = meaning.Skip target
  operation_of (operation.UnsignedConstant value) = meaning.UnsignedConstant value
  operation_of (operation.SignedConstant value) = meaning.SignedConstant value
  operation_of (operation.Register register) = meaning.Register register.0
  operation_of (operation.RegisterOffset register offset base_type) =
      meaning.RegisterOffset register.0 offset (number base_type.0)
  operation_of (operation.FrameOffset offset) = meaning.FrameOffset offset
  operation_of operation.Nop = meaning.Nop
  operation_of operation.PushObjectAddress = meaning.PushObjectAddress
  operation_of (operation.Call offset) = meaning.Call (reference_of number offset)
  operation_of operation.TLS = meaning.TLS
  operation_of operation.CallFrameCFA = meaning.CallFrameCFA
  operation_of (operation.Piece size_in_bits bit_offset) = meaning.Piece size_in_bits bit_offset
  operation_of (operation.ImplicitValue bytes) = meaning.ImplicitValue (text bytes)
  operation_of operation.StackValue = meaning.StackValue
  operation_of (operation.ImplicitPointer value byte_offset) = meaning.ImplicitPointer (number value.0) byte_offset
  operation_of (operation.EntryValue expression) = meaning.EntryValue (text expression)
  operation_of (operation.ParameterRef offset) = meaning.ParameterRef (number offset.0)
  operation_of (operation.Address address) = meaning.Address address
  operation_of (operation.AddressIndex index) = meaning.AddressIndex (number index.0)
  operation_of (operation.ConstantIndex index) = meaning.ConstantIndex (number index.0)
  operation_of (operation.TypedLiteral base_type value) = meaning.TypedLiteral (number base_type.0) (text value)
  operation_of (operation.Convert base_type) = meaning.Convert (number base_type.0)
  operation_of (operation.Reinterpret base_type) = meaning.Reinterpret (number base_type.0)
  operation_of operation.Uninitialized = meaning.Uninitialized
  operation_of (operation.WasmLocal index) = meaning.WasmLocal index
  operation_of (operation.WasmGlobal index) = meaning.WasmGlobal index
  operation_of (operation.WasmStack index) = meaning.WasmStack index
  operation_of (operation.VariableValue offset) = meaning.VariableValue (number offset.0)

  -- maps a location in the code to the definitions
  abbrev pub location_of : Location R O → locations.Location
  location_of location.Empty = locations.Empty
  location_of (location.Register register) = locations.InRegister register.0
  location_of (location.Address address) = locations.AtAddress address
  location_of (location.Value value) = locations.HoldsValue value
  location_of (location.Bytes value) = locations.HoldsBytes (text value)
  location_of (location.ImplicitPointer value byte_offset) = locations.PointsInto (number value.0) byte_offset

  -- maps a piece in the code to the definitions
  abbrev pub piece_of : Piece R O → locations.Piece
  piece_of piece = record {
    size_in_bits = piece.size_in_bits;
    bit_offset = piece.bit_offset;
    location = location_of piece.location;
  }
