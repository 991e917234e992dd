use Rattle.std.proofs.Common.{◌≡◌, ◌<◌, ◌^◌}
use Rattle.dwarf_base.specs.Leb.{leb_from, unsigned_leb}
use Rattle.dwarf_base.specs.Reads.{IsSuffix}
use Rattle.dwarf_base.proofs.reading.rest_of_uleb128.Given as goal

abbrev pub invariant-loop-place : goal.invariant-loop-place
invariant-loop-place g l = record {
  so_far : leb_from unsigned_leb 1 l.fn.low (g.R.Reader.text l.fn.reader).bytes ≡ leb_from unsigned_leb l.place l.number (g.R.Reader.text l.reader).bytes;
  below : l.number < 128 ^ l.place;
  rest : IsSuffix (g.R.Reader.text l.reader).bytes (g.R.Reader.text l.fn.reader).bytes;
  order : (g.R.Reader.text l.reader).is_big ≡ (g.R.Reader.text l.fn.reader).is_big;
}
