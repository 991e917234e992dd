use Rattle.std.proofs.Common.{ℕ, ◌≡◌, ◌≤◌, Bool, List, [], ◌∷◌, Option, Some, None, length, arith, ap, ◌∙◌, subst, sym}
use Rattle.dwarf_value.specs.declared.types.Value.{Value}
use Rattle.dwarf_value.specs.Values.{to_u64_of}
use Rattle.dwarf_meaning.specs.Operations as operation
use Rattle.dwarf_meaning.specs.Locations.{Location, Empty, AtAddress, sized_piece}
use Rattle.dwarf_meaning.specs.Acts.{EndsPiece, act}
use Rattle.dwarf_meaning.specs.Stores.{Pieced, address_bits, push_piece}
use Rattle.dwarf_meaning.specs.Rest.{State, Running}
use Rattle.dwarf_op.specs.Views.{location_of}
use Rattle.dwarf_eval.specs.inner.StateChanges.{Pops, TriesChange, Performs, act_of, with_last, with_values}
use Rattle.dwarf_meaning.proofs.Choices.{top_none, top_some}
use Rattle.dwarf_eval.proofs.Performances.{performs_as, performs_ends}
use Rattle.dwarf_eval.proofs.Staying.{fewer_one}
use Rattle.dwarf_eval.proofs.run.machine.Machine.add_piece.Goals as goal
use Rattle.dwarf_eval.proofs.run.machine.Machine.add_piece.Goals.{in-Some, in-None}

module _ (size : ℕ) (offset : Option ℕ) where
  ends_nowhere : (old marked mid new : State) (done : Bool) → old.status ≡ Running → marked ≡ with_last Pieced old → Pops None marked mid → TriesChange 0 (push_piece mid.setup (record { size_in_bits = Some size; bit_offset = offset; location = Empty })) mid new done → Performs (act_of old (operation.Piece size offset)) old new
  unfolding act
  ends_nowhere old marked mid new done runs m h t =
      let none : old.store.values ≡ [] = ap (λ (z : State). z.store.values) (sym m) ∙ h.0 in
      let fewer : length {A = Value} [] ≤ length old.store.values = omega arith in
      performs_as _ _ old new (top_none old.store.values (EndsPiece [] (sized_piece size offset Empty)) _ none)
      (performs_ends [] _ old mid new done runs fewer (h.1 ∙ (m ∙ ap (λ (vs : List Value). with_last Pieced (with_values vs old)) none)) t)

  ends_at : (value : Value) (address : ℕ) (old marked mid new : State) (done : Bool) → old.status ≡ Running → marked ≡ with_last Pieced old → Pops (Some value) marked mid → address ≡ to_u64_of (address_bits mid.setup) value → TriesChange 0 (push_piece mid.setup (record { size_in_bits = Some size; bit_offset = offset; location = AtAddress address })) mid new done → Performs (act_of old (operation.Piece size offset)) old new
  unfolding act
  ends_at value address old marked mid new done runs m h e t =
      let values : old.store.values ≡ value ∷ h.0 = ap (λ (z : State). z.store.values) (sym m) ∙ h.1 in
      let number : address ≡ to_u64_of (address_bits old.setup) value = e ∙ ap (λ (z : State). to_u64_of (address_bits z.setup) value) (h.2 ∙ ap (with_values h.0) m) in
      performs_as _ _ old new
      (top_some old.store.values (EndsPiece [] (sized_piece size offset Empty)) (λ x rest. EndsPiece rest (sized_piece size offset (AtAddress (to_u64_of (address_bits old.setup) x)))) value h.0 values
      ∙ ap (λ (n : ℕ). EndsPiece h.0 (record { size_in_bits = Some size; bit_offset = offset; location = AtAddress n })) (sym number))
      (performs_ends h.0 _ old mid new done runs (fewer_one value h.0 old.store.values values) (h.2 ∙ ap (with_values h.0) m) t)

  -- the piece at a location that is this one
  located : (location is : Location) (mid new : State) (done : Bool) → location ≡ is → TriesChange 0 (push_piece mid.setup (record { size_in_bits = Some size; bit_offset = offset; location = location })) mid new done → TriesChange 0 (push_piece mid.setup (record { size_in_bits = Some size; bit_offset = offset; location = is })) mid new done
  located location is mid new done e h = subst (λ (l : Location). TriesChange 0 (push_piece mid.setup (record { size_in_bits = Some size; bit_offset = offset; location = l })) mid new done) e h

pub returns : goal.returns
returns g c =
    let size = c.args.size_in_bits in
    let offset = c.args.bit_offset in
    let location = location_of g.R.Reader.text g.R.Offset.ReaderOffset.number in
    let mid = c.pop_if_any.new.self in
    elim c.match-pop_if_any.branch [
      | in-Some w ↦ ends_at size offset w.in-Some.value w.number_of.result c.args.self.now c.mark.new.self mid c.push_piece.new.self c.push_piece.result c.requires c.mark.ensures w.in-Some.ensures w.number_of.ensures
          (located size offset _ _ mid c.push_piece.new.self c.push_piece.result (ap location w.location-is) c.push_piece.ensures)
      | in-None w ↦ ends_nowhere size offset c.args.self.now c.mark.new.self mid c.push_piece.new.self c.push_piece.result c.requires c.mark.ensures w.in-None.ensures
          (located size offset _ _ mid c.push_piece.new.self c.push_piece.result (ap location w.location-is) c.push_piece.ensures)
    ]
