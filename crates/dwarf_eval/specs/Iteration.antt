-- What iterators over operations return.
use Rattle.std.specs.Prelude.{ℕ, ◌≡◌, ◌≢◌, List, [], ◌∷◌, Result, Ok, Err, Option, Some, None}
use Rattle.std.specs.Iterator.{YieldsFirstBy}
use Rattle.std.specs.Option.{option_transpose}
use Rattle.dwarf_base.specs.declared.common.Encoding.{Encoding}
use Rattle.dwarf_base.specs.declared.errors.Error.{Error}
use Rattle.dwarf_base.specs.Faults.{Fault, fault_of}
use Rattle.dwarf_base.specs.Reads.{IsRestOf, Text}
use Rattle.dwarf_meaning.specs.Decoding.{operation_at}
use Rattle.dwarf_meaning.specs.Operations as meaning
use Rattle.dwarf_meaning.specs.Splitting.{items_at}
use Rattle.dwarf_eval.specs.declared.op.expressions.OperationIter.{OperationIter}

-- the bytes that are left
abbrev pub unread_of : {R : Type 0} → OperationIter R → R
unread_of iterator = iterator.input

-- its encoding
abbrev pub encoding_of : {R : Type 0} → OperationIter R → Encoding
encoding_of iterator = iterator.encoding

-- it returns the operation that is read, and leaves the bytes after it; at the end there is no operation, and after a
-- fault no bytes are left
abbrev pub GivesNext : {X : Type 0} → (X → meaning.Operation) → Result (Option X) Error → (left bytes : List ℕ)
    → Result (meaning.Operation × List ℕ) Fault → Type 0
GivesNext view (Ok None) left bytes read = (bytes ≡ []) × (left ≡ [])
GivesNext view (Ok (Some x)) left bytes read = read ≡ Ok (view x, left)
GivesNext view (Err e) left bytes read = (bytes ≢ []) × (read ≡ Err (fault_of e)) × (left ≡ [])

-- it returns the first of the items, and leaves the items after it
abbrev pub GivesItem : {X : Type 0} → (X → meaning.Operation) → Result (Option X) Error
    → (left items : List (Result meaning.Operation Fault)) → Type 0
GivesItem view (Ok None) left items = (items ≡ []) × (left ≡ [])
GivesItem view (Ok (Some x)) left items = items ≡ Ok (view x) ∷ left
GivesItem view (Err e) left items = (items ≡ Err (fault_of e) ∷ []) × (left ≡ [])

-- an item of the iterator
abbrev pub item_of : {X : Type 0} → (X → meaning.Operation) → Result X Error → Result meaning.Operation Fault
item_of view (Ok x) = Ok (view x)
item_of view (Err e) = Err (fault_of e)

-- the items that are left: those into which the bytes that are left split
abbrev pub items_left : {R : Type 0} → (R → Text) → (offset_bits : ℕ) → OperationIter R
    → List (Result meaning.Operation Fault)
items_left text offset_bits iterator = items_at (encoding_of iterator) offset_bits (text (unread_of iterator))

-- A step of an iterator: it returns the first item that is left, and moves past the bytes of that item.
pub record GivesFirst {R X : Type 0} (text : R → Text) (offset_bits : ℕ) (view : X → meaning.Operation)
    (old : OperationIter R) (given : Option (Result X Error)) (new : OperationIter R) : Type 0 where
  pub items : YieldsFirstBy (item_of view) (items_left text offset_bits) old given new
  pub value : GivesNext view (option_transpose given) (text (unread_of new)).bytes (text (unread_of old)).bytes
      (operation_at (encoding_of old) offset_bits (text (unread_of old)))
  pub left : IsRestOf (text (unread_of new)) (text (unread_of old))
  pub encoding : encoding_of new ≡ encoding_of old
