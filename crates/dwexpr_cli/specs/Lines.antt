-- The lines that the program prints.
use Rattle.std.specs.Prelude.{ℕ, codes, List, [], ◌∷◌, map, if◌then◌else◌, Option, decimal}
use Rattle.std.specs.Fmt.{signed_decimal}
use Rattle.std.specs.List.{concat}
use Rattle.std.specs.Option.{option_map_or}
use Rattle.dwarf_base.specs.declared.errors.Error.TheVariants as fault
use Rattle.dwarf_base.specs.Faults.{Fault}
use Rattle.dwarf_value.specs.declared.types.Value.{Value}
use Rattle.dwarf_meaning.specs.Locations.{Location, Empty, InRegister, AtAddress, HoldsValue, HoldsBytes, PointsInto, Piece}
use Rattle.dwarf_meaning.specs.Operations.{UnitRef, DebugInfoRef}
use Rattle.dwarf_meaning.specs.Requests.{Request, RequiresMemory, RequiresRegister, RequiresWasmLocal, RequiresWasmGlobal, RequiresWasmStack, RequiresFrameBase, RequiresTls, RequiresCallFrameCfa, RequiresAtLocation, RequiresEntryValue, RequiresParameterRef, RequiresRelocatedAddress, RequiresIndexedAddress, RequiresBaseType}
use Rattle.dwarf_meaning.specs.Steps.{Reply, CompleteReply, RequestReply, FaultReply}
use Rattle.dwexpr_cli.specs.Writing.{bytes_word, hexadecimal, line, value_word}

-- ---- faults

-- the name of a fault, and the number that it carries
abbrev pub fault_words : Fault → List (List ℕ)
fault_words (fault.UnexpectedEof id) = codes "UnexpectedEof" ∷ []
fault_words fault.BadUnsignedLeb128 = codes "BadUnsignedLeb128" ∷ []
fault_words fault.BadSignedLeb128 = codes "BadSignedLeb128" ∷ []
fault_words (fault.UnsupportedAddressSize size) = codes "UnsupportedAddressSize" ∷ decimal size ∷ []
fault_words fault.UnsupportedOffset = codes "UnsupportedOffset" ∷ []
fault_words (fault.UnsupportedRegister register) = codes "UnsupportedRegister" ∷ decimal register ∷ []
fault_words (fault.InvalidExpression opcode) = codes "InvalidExpression" ∷ decimal opcode.0 ∷ []
fault_words (fault.InvalidPieceSize bytes) = codes "InvalidPieceSize" ∷ decimal bytes ∷ []
fault_words fault.UnsupportedTypeOperation = codes "UnsupportedTypeOperation" ∷ []
fault_words fault.TypeMismatch = codes "TypeMismatch" ∷ []
fault_words fault.DivisionByZero = codes "DivisionByZero" ∷ []
fault_words fault.InvalidShiftExpression = codes "InvalidShiftExpression" ∷ []
fault_words fault.NotEnoughStackItems = codes "NotEnoughStackItems" ∷ []
fault_words (fault.InvalidDerefSize size) = codes "InvalidDerefSize" ∷ decimal size ∷ []
fault_words fault.InvalidPushObjectAddress = codes "InvalidPushObjectAddress" ∷ []
fault_words fault.UnsupportedEvaluation = codes "UnsupportedEvaluation" ∷ []
fault_words (fault.BadBranchTarget target) = codes "BadBranchTarget" ∷ decimal target ∷ []
fault_words fault.TooManyIterations = codes "TooManyIterations" ∷ []
fault_words fault.InvalidPiece = codes "InvalidPiece" ∷ []
fault_words (fault.InvalidExpressionTerminator place) = codes "InvalidExpressionTerminator" ∷ decimal place ∷ []
fault_words fault.StackFull = codes "StackFull" ∷ []

-- the line of a fault
abbrev pub fault_line : Fault → List ℕ
fault_line fault = line (codes "fault") (fault_words fault)

-- ---- requests

-- the line of a request
abbrev pub request_line : Request → List ℕ
request_line (RequiresMemory address size space base_type) =
    line (codes "memory") (hexadecimal address ∷ decimal size ∷ option_map_or hexadecimal space (codes "none")
    ∷ decimal base_type ∷ [])
request_line (RequiresRegister register base_type) = line (codes "register") (decimal register ∷ decimal base_type ∷ [])
request_line (RequiresWasmLocal index) = line (codes "wasm-local") (decimal index ∷ [])
request_line (RequiresWasmGlobal index) = line (codes "wasm-global") (decimal index ∷ [])
request_line (RequiresWasmStack index) = line (codes "wasm-stack") (decimal index ∷ [])
request_line RequiresFrameBase = line (codes "frame-base") []
request_line (RequiresTls index) = line (codes "tls") (hexadecimal index ∷ [])
request_line RequiresCallFrameCfa = line (codes "cfa") []
request_line (RequiresAtLocation (UnitRef offset)) = line (codes "location") (codes "unit" ∷ decimal offset ∷ [])
request_line (RequiresAtLocation (DebugInfoRef offset)) =
    line (codes "location") (codes "info" ∷ decimal offset ∷ [])
request_line (RequiresEntryValue expression) = line (codes "entry") (bytes_word expression.bytes ∷ [])
request_line (RequiresParameterRef offset) = line (codes "parameter") (decimal offset ∷ [])
request_line (RequiresRelocatedAddress address) = line (codes "relocated") (hexadecimal address ∷ [])
request_line (RequiresIndexedAddress index relocate) =
    line (codes "indexed") (decimal index ∷ (if relocate then codes "relocate" else codes "keep") ∷ [])
request_line (RequiresBaseType base_type) = line (codes "type") (decimal base_type ∷ [])

-- the line of a reply
abbrev pub reply_line : Reply → List ℕ
reply_line CompleteReply = line (codes "complete") []
reply_line (RequestReply request) = request_line request
reply_line (FaultReply fault) = fault_line fault

-- ---- pieces and values

-- where a piece is, or what it contains
abbrev pub location_words : Location → List (List ℕ)
location_words Empty = codes "empty" ∷ []
location_words (InRegister register) = codes "register" ∷ decimal register ∷ []
location_words (AtAddress address) = codes "address" ∷ hexadecimal address ∷ []
location_words (HoldsValue value) = codes "value" ∷ value_word value ∷ []
location_words (HoldsBytes value) = codes "bytes" ∷ bytes_word value.bytes ∷ []
location_words (PointsInto value byte_offset) = codes "pointer" ∷ decimal value ∷ signed_decimal byte_offset ∷ []

-- the line of a piece
abbrev pub piece_line : Piece → List ℕ
piece_line piece =
    line (codes "piece") (option_map_or decimal piece.size_in_bits (codes "none")
    ∷ option_map_or decimal piece.bit_offset (codes "none") ∷ location_words piece.location)

-- the line after the pieces
abbrev pub value_line : Option Value → List ℕ
value_line value = line (codes "value") (option_map_or value_word value (codes "none") ∷ [])

-- one line after another
abbrev pub reply_lines : List Reply → List ℕ
reply_lines replies = concat (map reply_line replies)

-- one line after another
abbrev pub piece_lines : List Piece → List ℕ
piece_lines pieces = concat (map piece_line pieces)
