use Rattle.std.proofs.Common.{◌≡◌, ◌*◌, ◌<◌, ◌≤◌, ap, ◌∙◌, sym, subst, arith}
use Rattle.dwarf_value.specs.Values.{IsAddressMask, width_of}
use Rattle.dwarf_value.proofs.MaskBits.{address_mask, width_of-low}
use Rattle.dwarf_eval.proofs.MachineNumbers.{mask_is}
use Rattle.dwarf_eval.proofs.run.machine.mask_of.Goals as goal

pub returns-clause-mask : goal.returns-clause-mask
returns-clause-mask c =
    let some : 0 < 8 * c.from.result = omega (arith, c.requires.0, c.from.ensures) in
    let fits : c.from.result ≤ 8 = omega (arith, c.requires.1, c.from.ensures) in
    subst IsAddressMask (sym (mask_is c.from.result fits)) (address_mask (8 * c.from.result) some)

pub returns-clause-width : goal.returns-clause-width
returns-clause-width c =
    let fits : c.from.result ≤ 8 = omega (arith, c.requires.1, c.from.ensures) in
    let same : 8 * c.from.result ≡ 8 * c.args.address_size = omega (arith, c.from.ensures) in
    ap width_of (mask_is c.from.result fits) ∙ (width_of-low (8 * c.from.result) ∙ same)
