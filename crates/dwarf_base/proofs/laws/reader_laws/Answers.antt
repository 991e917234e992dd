use Rattle.dwarf_base.proofs.Fronts.{split_exactly, fixed_exactly, u8_fronts, split_fronts, fixed_fronts, signed_fronts, address_fronts, format_fronts}
use Rattle.dwarf_base.proofs.LebLaws.{uleb_exactly, sleb_exactly, uleb_fronts, uleb_u32_fronts, sleb_fronts}
use Rattle.dwarf_base.proofs.laws.reader_laws.Goals as goal

pub returns : goal.returns
returns c = record {
  block = split_exactly;
  fixed = fixed_exactly;
  unsigned = uleb_exactly;
  signed = sleb_exactly;
  byte_fronts = u8_fronts;
  block_fronts = split_fronts;
  fixed_fronts = fixed_fronts;
  signed_fixed_fronts = signed_fronts;
  address_fronts = address_fronts;
  offset_fronts = format_fronts;
  unsigned_fronts = uleb_fronts;
  small_unsigned_fronts = uleb_u32_fronts;
  signed_fronts = sleb_fronts;
}
