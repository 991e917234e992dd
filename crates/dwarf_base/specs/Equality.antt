-- Equality of what contracts see.
use Rattle.std.specs.Prelude.{◌≡◌, ◌↔◌, Bool, IsTrue}
use Rattle.dwarf_base.specs.declared.slices.EndianSlice.{EndianSlice}
use Rattle.dwarf_base.specs.EndianSlice.{slice_bytes, slice_order}

-- the test is true of two values exactly if `seen` maps both to the same
abbrev pub IsEqualityOf : {X Y : Type 0} → (seen : X → Y) → (X → X → Bool) → Type 0
IsEqualityOf {X} seen test = (x y : X) → IsTrue (test x y) ↔ (seen x ≡ seen y)

-- the test is true of two values exactly if they are the same
abbrev pub IsEquality : {X : Type 0} → (X → X → Bool) → Type 0
IsEquality {X} test = IsEqualityOf (λ x. x) test

-- the test gives for two values what `are_parts_equal` gives for their parts
abbrev pub IsEqualityBy : {X Part : Type 0} → (X → X → Bool) → (part : X → Part) → (Part → Part → Bool) → Type 0
IsEqualityBy {X} test part are_parts_equal = (x y : X) → test x y ≡ are_parts_equal (part x) (part y)

-- the test is true of two slices exactly if their bytes are the same and their byte orders are equal
abbrev pub IsSliceEquality : {E : Type 0} → (E → E → Bool) → (EndianSlice E → EndianSlice E → Bool) → Type 0
IsSliceEquality {E} are_orders_equal test =
    (x y : EndianSlice E)
    → IsTrue (test x y) ↔ ((slice_bytes x ≡ slice_bytes y) × IsTrue (are_orders_equal (slice_order x) (slice_order y)))
