-- A range of opcodes whose rows have one form, and the rows of a block.
use Rattle.std.proofs.Common.{◌≡◌, ℕ, Bool, zero, suc, ◌+◌, ◌-◌, ◌<◌, ◌≤◌, List, [], ◌∷◌, Result, Ok, Err, ap, sym, ◌∙◌, refl, subst, arith}
use Rattle.dwarf_base.specs.Faults.{Fault, ◌>>=◌}
use Rattle.dwarf_base.specs.Reads.{Reads, Text, split_at}
use Rattle.dwarf_base.proofs.Suffixes.{suffix_whole}
use Rattle.dwarf_meaning.specs.Opcodes.{Row, sized_block}
use Rattle.dwarf_meaning.specs.Operands.{Layout, Range}
use Rattle.dwarf_meaning.specs.Operations.{Operation}
use Rattle.dwarf_op.specs.inner.Operands.{block_in, operands_in, unsigned_in}

-- the rows that a function gives to this many opcodes
abbrev rows_from : (ℕ → Row) → (from count : ℕ) → List Row
rows_from row from zero = []
rows_from row from (suc count) = row from ∷ rows_from row (suc from) count

-- two functions that give the same rows to a range give the same to each of it
row_at : (one other : ℕ → Row) (from count i : ℕ) → rows_from one from count ≡ rows_from other from count → i < count
    → one (from + i) ≡ other (from + i)
row_at one other from zero i same below = absurd (omega arith)
row_at one other from (suc count) zero same below =
    let first : one from ≡ other from = cc in
    let here : from ≡ from + 0 = omega arith in
    subst (λ (n : ℕ). one n ≡ other n) here first
row_at one other from (suc count) (suc i) same below =
    let others : rows_from one (suc from) count ≡ rows_from other (suc from) count = cc in
    let there : suc from + i ≡ from + suc i = omega arith in
    subst (λ (n : ℕ). one n ≡ other n) there (row_at one other (suc from) count i others (omega arith))

pub row_within : (one other : ℕ → Row) (from count opcode : ℕ) → rows_from one from count ≡ rows_from other from count
    → from ≤ opcode → opcode < from + count → one opcode ≡ other opcode
row_within one other from count opcode same low high =
    let whole : from + (opcode - from) ≡ opcode = omega arith in
    subst (λ (n : ℕ). one n ≡ other n) whole (row_at one other from count (opcode - from) same (omega arith))

-- ---- a block that is read makes its operation

abbrev cut_block : (big : Bool) → Result (List ℕ × List ℕ) Fault → Result (Text × List ℕ) Fault
cut_block big cut = cut >>= λ x. Ok (record { bytes = x.0; is_big = big }, x.1)

abbrev made_from : (Text → Operation) → Result (Text × List ℕ) Fault → Result (Operation × List ℕ) Fault
made_from make block = block >>= λ x. Ok (make x.0, x.1)

abbrev cut_made : (big : Bool) → (Text → Operation) → Result (List ℕ × List ℕ) Fault → Result (Operation × List ℕ) Fault
cut_made big make cut = cut >>= λ x. Ok (make (record { bytes = x.0; is_big = big }), x.1)

made_of_cut : (big : Bool) (make : Text → Operation) (cut : Result (List ℕ × List ℕ) Fault)
    → made_from make (cut_block big cut) ≡ cut_made big make cut
made_of_cut big make (Ok x) = refl
made_of_cut big make (Err e) = refl

made_of_size : (bits : ℕ) (big : Bool) (make : Text → Operation) (size : Result (ℕ × List ℕ) Fault)
    → made_from make (size >>= λ n. cut_block big (split_at n.0 n.1)) ≡ (size >>= λ n. cut_made big make (split_at n.0 n.1))
made_of_size bits big make (Ok n) = made_of_cut big make (split_at n.0 n.1)
made_of_size bits big make (Err e) = refl

pub block_row : (bits : ℕ) (old : Text) (size : Layout × Range) (make : Text → Operation) (block : Text) (left : List ℕ)
    → block_in bits old size ≡ Ok (block, left) → operands_in bits old (sized_block size make) ≡ Ok (make block, left)
block_row bits old size make block left read =
    sym (made_of_size bits old.is_big make (unsigned_in bits old size)) ∙ ap (made_from make) read

-- an operation without operands reads no byte
pub made : {X : Type 0} (view : X → Operation) (text : Text) (operation : X)
    → Reads {X = X} {Y = Operation} view text text (Ok operation) (Ok (view operation, text.bytes))
made view text operation = record { value = refl; rest = suffix_whole _; order = refl }
