-- What `ops` prints: the operations of the bytes, and the fault that ends them.
use Rattle.std.specs.Prelude.{ℕ, ◌≡◌, ◌+◌, codes, decimal, List, [], ◌∷◌, ◌++◌, length, Option}
use Rattle.dwarf_base.specs.Faults.{Fault}
use Rattle.dwarf_meaning.specs.Operands.{Context}
use Rattle.dwarf_meaning.specs.Operations.{Operation}
use Rattle.dwarf_meaning.specs.Splitting.{Splitting, ends, faults, goes_on}
use Rattle.dwarf_op.specs.Names.{name_of}
use Rattle.dwexpr_cli.specs.Endings.{Ending}
use Rattle.dwexpr_cli.specs.Lines.{fault_words}
use Rattle.dwexpr_cli.specs.Writing.{bytes_word, line}

-- The operations of a splitting from this place on, one per line: the place, the bytes and the name of each; and then
-- the fault, if there is one.
abbrev pub listing : {context : Context} {bytes : List ℕ} {operations : List Operation} {fault : Option Fault}
    → (place : ℕ) → Splitting context bytes operations fault → Ending
listing place ends = record { text = []; status = 0 }
listing place (faults byte bytes fault malformed) =
    record { text = line (decimal place) (codes "fault" ∷ fault_words fault); status = 1 }
listing place (goes_on front rest operation operations fault spells more) =
    let after = listing (place + length front) more in
    record after { text = line (decimal place) (bytes_word front ∷ name_of operation ∷ []) ++ after.text }

-- the listed operations are those into which the bytes split
abbrev pub ListsOperations : Context → (place : ℕ) → List ℕ → Ending → Type 0
ListsOperations context place bytes ending =
    (operations : List Operation) × (fault : Option Fault) × (splitting : Splitting context bytes operations fault)
    × (ending ≡ listing place splitting)
