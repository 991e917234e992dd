use Rattle.std.proofs.Common.{◌%◌, ◌+◌, ◌^◌, ℤ, ap, ◌∙◌, w16}
use Rattle.std.proofs.lemmas.Int.{to_z-of_z}
use Rattle.dwarf_base.specs.Numbers.{residue}
use Rattle.dwarf_eval.proofs.MachineNumbers.{residue-add}
use Rattle.dwarf_eval.proofs.Performances.{performs_branch}
use Rattle.dwarf_eval.proofs.run.machine.Machine.take_branch.Goals as goal

pub returns : goal.returns
returns g c =
    let marked = c.mark.new.self in
    let bits = marked.setup.offset_bits in
    performs_branch c.args.target c.args.self.now marked c.jump.new.self (g.R.Offset.ReaderOffset.number c.wrapping_add.result) c.jump.result c.requires c.mark.ensures
    (rw (c.wrapping_add.ensures, c.place-place.ensures.value, c.from_i16.ensures, ← c.place-place.ensures.bits)
    (ap (λ (z : ℤ). (marked.place + residue bits z) % 2 ^ bits) (to_z-of_z w16 c.args.target c.ranges.target)
    ∙ residue-add bits marked.place c.args.target)) c.jump.ensures
