-- The block of an operation is the last part of its bytes.
use Rattle.std.proofs.Common.{ℕ, ◌≡◌, ◌∙◌, ◌-◌, ◌+◌, ℤ, Bool, List, [], ◌∷◌, ◌++◌, length, take, drop, Option, Some, None, Result, Ok, Err, ◌<◌, arith, refl, sym, ap, subst, append_assoc, append-nil, length-append, length-drop, ◌≤◌, rules}
use Rattle.std.specs.List.{slice_range}
use Rattle.std.specs.Option.{IfSome}
use Rattle.std.proofs.Math.Seq.{drop-append_seam, drop-append-add, take-append_seam}
use Rattle.std.proofs.lemmas.List.{take-append-drop, length-take-le}
use Rattle.dwarf_base.specs.Faults.{Fault}
use Rattle.dwarf_base.specs.declared.common.Encoding.{Encoding}
use Rattle.dwarf_base.specs.Reads.{Text}
use Rattle.dwarf_meaning.specs.Operations.{Operation}
use Rattle.dwarf_meaning.specs.Operands.{Context, as_text, context_of}
use Rattle.dwarf_meaning.specs.Opcodes.{Row, Makes, Unsigned, Signed, Block, Invalid, lines, row_of}
use Rattle.dwarf_meaning.specs.Decoding.{operation_at}
use Rattle.dwarf_meaning.specs.Spelling.{SpellsOperands, Spells}
use Rattle.dwarf_meaning.specs.Spelling as spelling
use Rattle.dwarf_op.specs.Names.{number_of}
use Rattle.dwarf_meaning.proofs.DecodingFacts.{operation_begins}
use Rattle.dwexpr_c.specs.CallerTexts.{IsAt}
use Rattle.dwexpr_c.specs.CodedOperations.{Decodes, IsBlockAt, with_block, block_in, operands_of}
use Rattle.dwexpr_c.specs.declared.operations.DwexprOperation.{DwexprOperation}
use Rattle.dwarf_meaning.proofs.OperationReads.{OnLines, row_holds}

-- ---- what the rows of the table make

-- the row makes an operation with this block, and nothing follows it
abbrev IsLast : Text → Row → Type 0
IsLast block (Makes op) = block_in op ≡ Some block.bytes
IsLast block (Unsigned form next) = ⊥
IsLast block (Signed form next) = ⊥
IsLast block (Block size next) = ⊥
IsLast block (Invalid opcode) = ⊥

-- each operation that the row makes has no block, or one that comes last
abbrev LastInRow : Row → Type 0
LastInRow (Makes op) = block_in op ≡ None
LastInRow (Unsigned form next) = (value : ℕ) → LastInRow (next value)
LastInRow (Signed form next) = (value : ℤ) → LastInRow (next value)
LastInRow (Block size next) = (block : Text) → IsLast block (next block)
LastInRow (Invalid opcode) = Unit {0}

last_in_lines : (encoding : Encoding) → OnLines LastInRow (lines encoding)
last_in_lines encoding = search rules

last_in_row : (encoding : Encoding) (opcode : ℕ) → LastInRow (row_of encoding opcode)
last_in_row encoding opcode = row_holds LastInRow (λ n. tt) encoding opcode (last_in_lines encoding)

-- ---- what is spelled

-- the bytes end in the block, if there is one
abbrev EndIn : List ℕ → Option (List ℕ) → Type 0
EndIn bytes None = Unit {0}
EndIn bytes (Some block) = (front : List ℕ) × (front ++ block ≡ bytes)

more_before : (front rest : List ℕ) (block : Option (List ℕ)) → EndIn rest block → EndIn (front ++ rest) block
more_before front rest None h = tt
more_before front rest (Some block) h =
    (front ++ h.0, append_assoc front h.0 block ∙ ap (λ (xs : List ℕ). front ++ xs) h.1)

spelled_last : (context : Context) (block : Text) (row : Row) (bytes : List ℕ) (op : Operation) → IsLast block row → SpellsOperands context row bytes op → (bytes ≡ []) × (block_in op ≡ Some block.bytes)
spelled_last context block row bytes op h (spelling.makes op') = (refl, h)
spelled_last context block row bytes op h _ = absurd h

spelled_end : (context : Context) (row : Row) (bytes : List ℕ) (op : Operation) → LastInRow row → SpellsOperands context row bytes op → EndIn bytes (block_in op)
spelled_end context row bytes op h (spelling.makes op') = subst (EndIn []) (sym h) tt
spelled_end context row bytes op h (spelling.unsigned form next front rest value op' s more) =
    more_before front rest (block_in op') (spelled_end context (next value) rest op' (h value) more)
spelled_end context row bytes op h (spelling.signed form next front rest value op' s more) =
    more_before front rest (block_in op') (spelled_end context (next value) rest op' (h value) more)
spelled_end context row bytes op h (spelling.block next front rest op' more) =
    let last = spelled_last context (as_text context front) (next (as_text context front)) rest op' (h (as_text context front)) more in
    let ends : EndIn front (Some front) = ([], refl) in
    let whole : front ≡ front ++ rest = sym (append-nil front) ∙ ap (λ (xs : List ℕ). front ++ xs) (sym last.0) in
    subst (λ (o : Option (List ℕ)). EndIn (front ++ rest) o) (sym last.1) (subst (λ (xs : List ℕ). EndIn xs (Some front)) whole ends)

operation_ends : (encoding : Encoding) (bits : ℕ) (big : Bool) (bytes : List ℕ) (op : Operation) → Spells (context_of encoding bits big) bytes op → EndIn bytes (block_in op)
operation_ends encoding bits big bytes op (spelling.spelled opcode operands op' s) =
    more_before (opcode ∷ []) operands (block_in op') (spelled_end _ (row_of encoding opcode) operands op' (last_in_row encoding opcode) s)

-- ---- where the block is

slice_between : (a front block rest whole : List ℕ) (place : ℕ) → a ++ ((front ++ block) ++ rest) ≡ whole → place ≡ length a + length front → slice_range whole place (place + length block) ≡ block
slice_between a front block rest whole place is_whole at =
    let width : (place + length block) - place ≡ length block = omega arith in
    let joined : drop place whole ≡ block ++ rest =
    ap (λ (n : ℕ). drop n whole) at
    ∙ (ap (λ (xs : List ℕ). drop (length a + length front) xs) (sym is_whole)
    ∙ (drop-append-add a ((front ++ block) ++ rest) (length front)
    ∙ (ap (λ (xs : List ℕ). drop (length front) xs) (append_assoc front block rest) ∙ drop-append_seam front (block ++ rest))))
    in
    ap (λ (n : ℕ). take n (drop place whole)) width ∙ (ap (λ (xs : List ℕ). take (length block) xs) joined ∙ take-append_seam block rest)

module _ (encoding : Encoding) (bits : ℕ) (big : Bool) (bytes : List ℕ) (offset : ℕ) where
  abbrev left : Text
  left = record { bytes = drop offset bytes; is_big = big }

  -- what stands before the block in its operation, and that the block is there
  pub block_at : (op : Operation) (rest block : List ℕ) → operation_at encoding bits left ≡ Ok (op, rest) → block_in op ≡ Some block → (front : List ℕ) × (take offset bytes ++ ((front ++ block) ++ rest) ≡ bytes) × IsAt bytes (length (take offset bytes) + length front) block
  block_at op rest block read e =
      let begins = operation_begins encoding bits left op rest read in
      let ends : EndIn begins.front (Some block) = subst (EndIn begins.front) e (operation_ends encoding bits big begins.front op begins.spells) in
      let whole : take offset bytes ++ ((ends.0 ++ block) ++ rest) ≡ bytes =
      ap (λ (xs : List ℕ). take offset bytes ++ (xs ++ rest)) ends.1
      ∙ (ap (λ (xs : List ℕ). take offset bytes ++ xs) begins.whole ∙ take-append-drop offset bytes)
      in
      let inside : (length (take offset bytes) + length ends.0) + length block ≤ length bytes = omega (arith, simp length-append at (ap length whole)) in
      (ends.0, whole, (inside, slice_between (take offset bytes) ends.0 block rest bytes _ whole refl))

  module _ (opcode : ℕ) where
    -- the place that is shown of an operation's block
    placed_by : (op : Operation) (rest : List ℕ) (block : Option (List ℕ)) → offset < length bytes → operation_at encoding bits left ≡ Ok (op, rest) → block_in op ≡ block → (shown : DwexprOperation) → shown ≡ record (with_block (offset + (length left.bytes - length rest)) block (operands_of op)) { offset = offset; opcode = opcode; size = length left.bytes - length rest; kind = number_of op } → IfSome block (λ block. slice_range bytes shown.block_offset (shown.block_offset + shown.block_length) ≡ block)
    placed_by op rest None inside read e shown is = tt
    placed_by op rest (Some block) inside read e shown is =
        let at = block_at op rest block read e in
        let before : length (take offset bytes) ≡ offset = length-take-le offset bytes (omega arith) in
        let place : (offset + (length left.bytes - length rest)) - length block ≡ length (take offset bytes) + length at.0 = omega (arith, before, length-drop offset bytes, simp length-append at (ap length at.1)) in
        subst (λ (s : DwexprOperation). slice_range bytes s.block_offset (s.block_offset + s.block_length) ≡ block) (sym is)
        (subst (λ (n : ℕ). slice_range bytes n (n + length block) ≡ block) (sym place) at.2.1)

    -- so it is of whatever is read
    pub block_shown : (read : Result (Operation × List ℕ) Fault) (shown : DwexprOperation) → offset < length bytes → operation_at encoding bits left ≡ read → Decodes offset opcode (length left.bytes) read shown → IsBlockAt bytes shown read
    block_shown (Ok read) shown inside e is = placed_by read.0 read.1 (block_in read.0) inside e refl shown is
    block_shown (Err fault) shown inside e is = tt
