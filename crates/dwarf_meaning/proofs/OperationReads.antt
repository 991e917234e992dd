-- Operations are read exactly if they are spelled, and what holds of each line of the table holds of each row.
use Rattle.std.proofs.Common.{ℕ, ◌≡◌, Bool, List, [], ◌∷◌, length, Err, refl, ap}
use Rattle.dwarf_base.specs.declared.common.Encoding.{Encoding}
use Rattle.dwarf_base.specs.Faults.{Fault, past_the_end, invalid_expression}
use Rattle.dwarf_base.specs.Fronts.{TakesFront, SpellsBlock, MalformedBlock}
use Rattle.dwarf_base.specs.Reads.{u8_at, split_at, Text}
use Rattle.dwarf_base.proofs.Fronts.{Decision, spelled, malformed, takes_then, takes_none, u8_takes}
use Rattle.dwarf_meaning.specs.Operations.{Operation}
use Rattle.dwarf_meaning.specs.Operands.{Context, as_text, context_of}
use Rattle.dwarf_meaning.specs.Opcodes.{Row, Makes, Unsigned, Signed, Block, Invalid, row_of, Line, lines, row_among}
use Rattle.dwarf_meaning.specs.Decoding.{unsigned_at, integer_at, operands_at, operation_at}
use Rattle.dwarf_meaning.specs.Spelling.{SpellsUnsigned, MalformedUnsigned, SpellsInteger, MalformedInteger, SpellsOperands, MalformedOperands, Spells, Malformed}
use Rattle.dwarf_meaning.specs.Spelling as spelling
use Rattle.dwarf_meaning.proofs.ReadsExactly.{Reading, ReadsExactly, reads_covered, decided_then}
use Rattle.dwarf_meaning.proofs.NumberReads.{unsigned_covers, integer_covers, block_covers}
use Rattle.std.proofs.lemmas.Bool.{cond_both}

-- ---- the operands of a row

module _ (context : Context) where
  abbrev operands : Row → List ℕ → Reading Operation
  operands = operands_at context.offset_bits context.is_big

  operands_take : (row : Row) (front : List ℕ) (op : Operation) → SpellsOperands context row front op → TakesFront (operands row) front op
  operands_take row front op (spelling.makes made) = takes_none made
  operands_take row front op (spelling.unsigned form next first others value made here there) =
      takes_then (unsigned_at context.offset_bits context.is_big form) (λ x. operands (next x)) first others value made
      ((unsigned_covers context form).takes first value here) (operands_take (next value) others made there)
  operands_take row front op (spelling.signed layout next first others value made here there) =
      takes_then (integer_at context.is_big layout) (λ x. operands (next x)) first others value made
      ((integer_covers context.is_big layout).takes first value here) (operands_take (next value) others made there)
  operands_take row front op (spelling.block next first others made there) =
      takes_then (split_at (length first)) (λ x. operands (next (as_text context x))) first others first made
      ((block_covers (length first)).takes first first (record { length_is = refl; block_is = refl })) (operands_take (next (as_text context first)) others made there)

  operands_refuse : (row : Row) (bytes : List ℕ) (fault : Fault) → MalformedOperands context row bytes fault → operands row bytes ≡ Err fault
  operands_refuse row bytes fault (spelling.invalid opcode bytes') = refl
  operands_refuse row bytes fault (spelling.unsigned_here form next bytes' fault' r) = rw ((unsigned_covers context form).refuses bytes' fault' r) refl
  operands_refuse row bytes fault (spelling.unsigned_after form next first others value fault' s r) =
      rw (((unsigned_covers context form).takes first value s).whatever_follows others) (operands_refuse (next value) others fault' r)
  operands_refuse row bytes fault (spelling.signed_here layout next bytes' fault' r) = rw ((integer_covers context.is_big layout).refuses bytes' fault' r) refl
  operands_refuse row bytes fault (spelling.signed_after layout next first others value fault' s r) =
      rw (((integer_covers context.is_big layout).takes first value s).whatever_follows others) (operands_refuse (next value) others fault' r)
  operands_refuse row bytes fault (spelling.block_here size next bytes' less) = rw ((block_covers size).refuses bytes' past_the_end (record { shorter = less; fault_is = refl })) refl
  operands_refuse row bytes fault (spelling.block_after next first others fault' r) =
      rw (((block_covers (length first)).takes first first (record { length_is = refl; block_is = refl })).whatever_follows others) (operands_refuse (next (as_text context first)) others fault' r)

  operands_decide : (row : Row) (bytes : List ℕ) → Decision (SpellsOperands context row) (MalformedOperands context row) bytes
  operands_decide (Makes made) bytes = spelled [] made bytes (spelling.makes made) refl
  operands_decide (Invalid opcode) bytes = malformed (invalid_expression opcode) (spelling.invalid opcode bytes)
  operands_decide (Unsigned form next) bytes =
      decided_then (SpellsUnsigned context form) (MalformedUnsigned context form) (λ x. SpellsOperands context (next x)) (λ x. MalformedOperands context (next x))
      (SpellsOperands context (Unsigned form next)) (MalformedOperands context (Unsigned form next)) bytes
      (λ fault r. spelling.unsigned_here form next bytes fault r)
      (λ first others value made s t. spelling.unsigned form next first others value made s t)
      (λ first others value fault s r. spelling.unsigned_after form next first others value fault s r)
      ((unsigned_covers context form).decides bytes) (λ value left. operands_decide (next value) left)
  operands_decide (Signed layout next) bytes =
      decided_then (SpellsInteger context.is_big layout) (MalformedInteger layout) (λ x. SpellsOperands context (next x)) (λ x. MalformedOperands context (next x))
      (SpellsOperands context (Signed layout next)) (MalformedOperands context (Signed layout next)) bytes
      (λ fault r. spelling.signed_here layout next bytes fault r)
      (λ first others value made s t. spelling.signed layout next first others value made s t)
      (λ first others value fault s r. spelling.signed_after layout next first others value fault s r)
      ((integer_covers context.is_big layout).decides bytes) (λ value left. operands_decide (next value) left)
  operands_decide (Block size next) bytes =
      decided_then (SpellsBlock size) (MalformedBlock size) (λ x. SpellsOperands context (next (as_text context x))) (λ x. MalformedOperands context (next (as_text context x)))
      (SpellsOperands context (Block size next)) (MalformedOperands context (Block size next)) bytes
      (λ fault r. rw r.fault_is (spelling.block_here size next bytes r.shorter))
      (λ first others found made s t. rw (← s.length_is) (spelling.block next first others made (rw s.block_is at t)))
      (λ first others found fault s r. rw (← s.length_is) (spelling.block_after next first others fault (rw s.block_is at r)))
      ((block_covers size).decides bytes) (λ found left. operands_decide (next (as_text context found)) left)

-- ---- the opcode and its operands

module _ (encoding : Encoding) (bits : ℕ) (big : Bool) where
  abbrev text : List ℕ → Text
  text bytes = record { bytes = bytes; is_big = big }

  abbrev read : List ℕ → Reading Operation
  read bytes = operation_at encoding bits (text bytes)

  abbrev row : ℕ → Row
  row opcode = row_of encoding opcode

  pub operation_takes : (front : List ℕ) (op : Operation) → Spells (context_of encoding bits big) front op → TakesFront (λ bytes. operation_at encoding bits (text bytes)) front op
  unfolding operation_at
  operation_takes front op (spelling.spelled opcode operands op' s) =
      takes_then u8_at (λ code. operands_at bits big (row code)) (opcode ∷ []) operands opcode op' (u8_takes opcode) (operands_take (context_of encoding bits big) (row opcode) operands op' s)

  operation_refuses : (bytes : List ℕ) (fault : Fault) → Malformed (context_of encoding bits big) bytes fault → read bytes ≡ Err fault
  unfolding operation_at
  operation_refuses bytes fault spelling.no_opcode = refl
  operation_refuses bytes fault (spelling.bad_operands opcode bytes' fault' r) = operands_refuse (context_of encoding bits big) (row opcode) bytes' fault' r

  operation_decides : (bytes : List ℕ) → Decision (Spells (context_of encoding bits big)) (Malformed (context_of encoding bits big)) bytes
  operation_decides [] = malformed past_the_end spelling.no_opcode
  operation_decides (opcode ∷ bytes) = elim (operands_decide (context_of encoding bits big) (row opcode) bytes) [
    | spelled front op rest s whole ↦ spelled (opcode ∷ front) op rest (spelling.spelled opcode front op s) (ap (λ (xs : List ℕ). opcode ∷ xs) whole)
    | malformed fault r ↦ malformed fault (spelling.bad_operands opcode bytes fault r)
  ]

  pub reads_operation : ReadsExactly (λ bytes. operation_at encoding bits (text bytes)) (Spells (context_of encoding bits big)) (Malformed (context_of encoding bits big))
  reads_operation = reads_covered read _ _ (record { takes = operation_takes; refuses = operation_refuses; decides = operation_decides })

-- ---- the lines of the table

-- P holds of the rows of each line
abbrev pub OnLines : (Row → Type 0) → List Line → Type 0
OnLines P [] = Unit {0}
OnLines P (line ∷ more) = ((opcode : ℕ) → P (line.row opcode)) × OnLines P more

module _ (P : Row → Type 0) where
  among_holds : ((opcode : ℕ) → P (Invalid opcode)) → (opcode : ℕ) (table : List Line) → OnLines P table
      → P (row_among (Invalid opcode) opcode table)
  among_holds none opcode [] h = none opcode
  among_holds none opcode (line ∷ more) h =
      cond_both (line.has opcode) _ _ P (λ e. h.0 opcode) (λ e. among_holds none opcode more h.1)

  pub row_holds : ((opcode : ℕ) → P (Invalid opcode)) → (encoding : Encoding) (opcode : ℕ) → OnLines P (lines encoding)
      → P (row_of encoding opcode)
  unfolding row_of
  row_holds none encoding opcode h = among_holds none opcode (lines encoding) h
