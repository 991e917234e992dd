-- The operand of each branch has 16 bits.
use Rattle.std.proofs.Common.{rules, ℕ, ◌*◌, ◌≡◌, ◌<◌, ◌≤◌, nat_lt, ℤ, pos, ◌-ℤ◌, Bool, true, false, cond, List, [], ◌∷◌, ◌++◌, length, Ok, arith, refl}
use Rattle.std.proofs.lemmas.Bool.Decides.{nat_tests}
use Rattle.std.proofs.lemmas.Int.{ints}
use Rattle.dwarf_base.specs.declared.common.Encoding.{Encoding}
use Rattle.dwarf_base.specs.Numbers.{number_of, signed_of}
use Rattle.dwarf_base.specs.Reads.{Text}
use Rattle.dwarf_meaning.specs.Operations.{Operation}
use Rattle.dwarf_meaning.specs.Operands.{Context, as_text, context_of, Bytes, Leb128}
use Rattle.dwarf_meaning.specs.Opcodes.{Row, Makes, Unsigned, Signed, Block, Invalid, lines, row_of}
use Rattle.dwarf_meaning.specs.Decoding.{operation_at}
use Rattle.dwarf_meaning.specs.Spelling.{SpellsInteger, SpellsOperands, Spells}
use Rattle.dwarf_meaning.specs.Spelling as spelling
use Rattle.dwarf_meaning.specs.DecodeLaws.{AreBytes, IsNear, BranchesNear}
use Rattle.dwarf_meaning.proofs.OperationReads.{OnLines, row_holds}
use Rattle.dwarf_meaning.proofs.DecodingFacts.{operation_begins}

-- ---- a signed number of two bytes

near_by : (number : ℕ) → number < 65536 → (small : Bool) → nat_lt number 32768 ≡ small → IsNear (cond small (pos number) (pos number -ℤ pos 65536))
near_by number h true e = let l : number < 32768 = grind (arith, nat_tests) in record { low = omega (arith, ints); high = omega (arith, ints) }
near_by number h false e = let l : 32768 ≤ number = grind (arith, nat_tests) in record { low = omega (arith, ints); high = omega (arith, ints) }

two_bytes : (big : Bool) (a b : ℕ) → a < 256 → b < 256 → number_of big (a ∷ b ∷ []) < 65536
two_bytes true a b h k = omega arith
two_bytes false a b h k = omega arith

near_number : (big : Bool) (bytes : List ℕ) → length bytes ≡ 2 → AreBytes bytes → IsNear (signed_of (8 * length bytes) (number_of big bytes))
near_number big (a ∷ b ∷ []) e h = near_by (number_of big (a ∷ b ∷ [])) (two_bytes big a b h.0 h.1.0) (nat_lt (number_of big (a ∷ b ∷ [])) 32768) refl
near_number big bytes e h = absurd (omega arith)

near_spelled : (big : Bool) (size : ℕ) (bytes : List ℕ) (target : ℤ) → SpellsInteger big (Bytes size) bytes target → AreBytes bytes → size ≡ 2 → IsNear target
near_spelled big size bytes target (spelling.in_signed_bytes bytes') h e = near_number big bytes' e h

-- ---- what the rows of the table make

-- each operation that the row makes is no branch or a near one
abbrev NearRow : Row → Type 0
NearRow (Makes op) = BranchesNear op
NearRow (Unsigned form next) = (value : ℕ) → NearRow (next value)
NearRow (Signed (Bytes size) next) = (value : ℤ) → (size ≡ 2 → IsNear value) → NearRow (next value)
NearRow (Signed Leb128 next) = (value : ℤ) → NearRow (next value)
NearRow (Block size next) = (block : Text) → NearRow (next block)
NearRow (Invalid opcode) = Unit {0}

near_lines : (encoding : Encoding) → OnLines NearRow (lines encoding)
near_lines encoding = search rules

near_row : (encoding : Encoding) (opcode : ℕ) → NearRow (row_of encoding opcode)
near_row encoding opcode = row_holds NearRow (λ n. tt) encoding opcode (near_lines encoding)

-- ---- what is read

bytes_before : (front rest : List ℕ) → AreBytes (front ++ rest) → AreBytes front
bytes_before [] rest h = tt
bytes_before (byte ∷ front) rest h = (h.0, bytes_before front rest h.1)

bytes_beyond : (front rest : List ℕ) → AreBytes (front ++ rest) → AreBytes rest
bytes_beyond [] rest h = h
bytes_beyond (byte ∷ front) rest h = bytes_beyond front rest h.1

near_operands : (context : Context) (row : Row) (bytes : List ℕ) (op : Operation) → SpellsOperands context row bytes op → NearRow row → AreBytes bytes → BranchesNear op
near_operands context row bytes op (spelling.makes made) near h = near
near_operands context row bytes op (spelling.unsigned form next first others value made here there) near h =
    near_operands context (next value) others made there (near value) (bytes_beyond first others h)
near_operands context row bytes op (spelling.signed (Bytes size) next first others value made here there) near h =
    near_operands context (next value) others made there (near value (near_spelled context.is_big size first value here (bytes_before first others h))) (bytes_beyond first others h)
near_operands context row bytes op (spelling.signed Leb128 next first others value made here there) near h =
    near_operands context (next value) others made there (near value) (bytes_beyond first others h)
near_operands context row bytes op (spelling.block next first others made there) near h =
    near_operands context (next (as_text context first)) others made there (near (as_text context first)) (bytes_beyond first others h)

near_spelling : (encoding : Encoding) (bits : ℕ) (big : Bool) (front : List ℕ) (op : Operation) → Spells (context_of encoding bits big) front op → AreBytes front → BranchesNear op
near_spelling encoding bits big front op (spelling.spelled opcode operands op' s) h = near_operands (context_of encoding bits big) (row_of encoding opcode) operands op' s (near_row encoding opcode) h.1

-- a branch that is read has an operand of 16 bits
pub branches_near : (encoding : Encoding) (bits : ℕ) (text : Text) (op : Operation) (rest : List ℕ) → AreBytes text.bytes → operation_at encoding bits text ≡ Ok (op, rest) → BranchesNear op
branches_near encoding bits text op rest h e =
    let begins = operation_begins encoding bits text op rest e in
    near_spelling encoding bits text.is_big begins.front op begins.spells (bytes_before begins.front rest (rw (← begins.whole) at h))
