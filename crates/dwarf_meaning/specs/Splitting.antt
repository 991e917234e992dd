-- A text as operations, one after another (DWARF 5, sections 2.5 and 7.7.1).
use Rattle.std.specs.Prelude.{ℕ, zero, suc, List, [], ◌∷◌, ◌++◌, Result, Ok, Err, Option, Some, None, length}
use Rattle.dwarf_base.specs.declared.common.Encoding.{Encoding}
use Rattle.dwarf_base.specs.Faults.{Fault}
use Rattle.dwarf_base.specs.Reads.{Text}
use Rattle.dwarf_meaning.specs.Operations.{Operation}
use Rattle.dwarf_meaning.specs.Operands.{Context, context_of}
use Rattle.dwarf_meaning.specs.Decoding.{operation_in}
use Rattle.dwarf_meaning.specs.Spelling.{Spells, Malformed}

-- The operations that the bytes spell, one after another. If there is a fault, a prefix spells them, and the bytes
-- after it are malformed.
pub data Splitting (context : Context) : List ℕ → List Operation → Option Fault → Type 0 where
  ends : Splitting context [] [] None
  faults : (byte : ℕ) (bytes : List ℕ) (fault : Fault) → Malformed context (byte ∷ bytes) fault
      → Splitting context (byte ∷ bytes) [] (Some fault)
  goes_on : (front rest : List ℕ) (op : Operation) (ops : List Operation) (fault : Option Fault)
      → Spells context front op → Splitting context rest ops fault → Splitting context (front ++ rest) (op ∷ ops) fault

-- the bytes spell the operations, one after another
pub data Joined (context : Context) : List ℕ → List Operation → Type 0 where
  none : Joined context [] []
  one_more : (front rest : List ℕ) (op : Operation) (ops : List Operation)
      → Spells context front op → Joined context rest ops → Joined context (front ++ rest) (op ∷ ops)

-- the operations in order, and then the fault if there is one
abbrev pub items_of : List Operation → Option Fault → List (Result Operation Fault)
items_of [] None = []
items_of [] (Some fault) = Err fault ∷ []
items_of (op ∷ ops) fault = Ok op ∷ items_of ops fault

-- the item at the front, and then the items after it
abbrev pub item_then : Result (Operation × List ℕ) Fault → (List ℕ → List (Result Operation Fault))
    → List (Result Operation Fault)
item_then (Ok x) items = Ok x.0 ∷ items x.1
item_then (Err fault) items = Err fault ∷ []

-- the items, up to this many
abbrev pub items_within : (most : ℕ) → Context → List ℕ → List (Result Operation Fault)
items_within zero context bytes = []
items_within (suc most) context [] = []
items_within (suc most) context (byte ∷ bytes) =
    item_then (operation_in context (byte ∷ bytes)) (items_within most context)

-- all items; there are no more than there are bytes
unfoldable pub items_at : Encoding → (offset_bits : ℕ) → Text → List (Result Operation Fault)
items_at encoding offset_bits text =
    items_within (length text.bytes) (context_of encoding offset_bits text.is_big) text.bytes
