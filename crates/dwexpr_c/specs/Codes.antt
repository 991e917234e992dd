-- The codes of faults, and the numbers that they carry. `src/faults.rt` has the numbers.
use Rattle.std.specs.Prelude.{ℕ}
use Rattle.dwexpr_c.specs.declared.faults.TheConstants as codes
use Rattle.dwarf_base.specs.Faults.{Fault}
use Rattle.dwarf_base.specs.declared.errors.Error.TheVariants.{UnexpectedEof, BadUnsignedLeb128, BadSignedLeb128, UnsupportedAddressSize, UnsupportedOffset, UnsupportedRegister, InvalidExpression, InvalidPieceSize, UnsupportedTypeOperation, TypeMismatch, DivisionByZero, InvalidShiftExpression, NotEnoughStackItems, InvalidDerefSize, InvalidPushObjectAddress, UnsupportedEvaluation, BadBranchTarget, TooManyIterations, InvalidPiece, InvalidExpressionTerminator, StackFull}

-- the code of a fault
abbrev pub code_of_fault : Fault → ℕ
code_of_fault (UnexpectedEof id) = codes.UNEXPECTED_EOF
code_of_fault BadUnsignedLeb128 = codes.BAD_UNSIGNED_LEB128
code_of_fault BadSignedLeb128 = codes.BAD_SIGNED_LEB128
code_of_fault (UnsupportedAddressSize size) = codes.UNSUPPORTED_ADDRESS_SIZE
code_of_fault UnsupportedOffset = codes.UNSUPPORTED_OFFSET
code_of_fault (UnsupportedRegister register) = codes.UNSUPPORTED_REGISTER
code_of_fault (InvalidExpression opcode) = codes.INVALID_EXPRESSION
code_of_fault (InvalidPieceSize bytes) = codes.INVALID_PIECE_SIZE
code_of_fault UnsupportedTypeOperation = codes.UNSUPPORTED_TYPE_OPERATION
code_of_fault TypeMismatch = codes.TYPE_MISMATCH
code_of_fault DivisionByZero = codes.DIVISION_BY_ZERO
code_of_fault InvalidShiftExpression = codes.INVALID_SHIFT_EXPRESSION
code_of_fault NotEnoughStackItems = codes.NOT_ENOUGH_STACK_ITEMS
code_of_fault (InvalidDerefSize size) = codes.INVALID_DEREF_SIZE
code_of_fault InvalidPushObjectAddress = codes.INVALID_PUSH_OBJECT_ADDRESS
code_of_fault UnsupportedEvaluation = codes.UNSUPPORTED_EVALUATION
code_of_fault (BadBranchTarget target) = codes.BAD_BRANCH_TARGET
code_of_fault TooManyIterations = codes.TOO_MANY_ITERATIONS
code_of_fault InvalidPiece = codes.INVALID_PIECE
code_of_fault (InvalidExpressionTerminator place) = codes.INVALID_EXPRESSION_TERMINATOR
code_of_fault StackFull = codes.STACK_FULL

-- the number that a fault carries, or 0
abbrev pub number_of_fault : Fault → ℕ
number_of_fault (UnsupportedAddressSize size) = size
number_of_fault (UnsupportedRegister register) = register
number_of_fault (InvalidExpression opcode) = opcode.0
number_of_fault (InvalidPieceSize bytes) = bytes
number_of_fault (InvalidDerefSize size) = size
number_of_fault (BadBranchTarget target) = target
number_of_fault (InvalidExpressionTerminator place) = place
number_of_fault _ = 0
