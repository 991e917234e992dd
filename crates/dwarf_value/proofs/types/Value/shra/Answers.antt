use Rattle.std.proofs.Common.{◌≡◌, ◌^◌, true, sym, arith, rules}
use Rattle.dwarf_base.specs.Numbers.{residue}
use Rattle.dwarf_value.specs.Values.{width_of, signed_integer, floor_quotient}
use Rattle.dwarf_value.proofs.Congruences.{value_of-low}
use Rattle.dwarf_value.proofs.Integers.{floor_quotient-signed}
use Rattle.dwarf_value.proofs.types.Value.shra.Goals as goal

pub returns : goal.returns
returns c =
    let word = c.parts-value_type.result.1 in
    let quotient = floor_quotient (signed_integer (width_of c.args.addr_mask) c.args.self) (2 ^ c.in_ok-length.length) in
    let signed : word.signed ≡ true = search rules in
    let past = floor_quotient-signed word.bits c.in_ok-length.length (omega arith) in
    let shifted : c.cast_unsigned-bits.result ≡ residue 64 quotient = rw (sym c.parts-value_type.ensures.integer, signed, past) (search rules) in
    let low = value_of-low 64 c.parts-value_type.result.0 quotient (omega arith) in
    search (rules, low, shifted)
