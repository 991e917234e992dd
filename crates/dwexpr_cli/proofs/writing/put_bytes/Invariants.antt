use Rattle.std.proofs.Common.{drop}
use Rattle.dwarf_base.specs.EndianSlice.{slice_bytes}
use Rattle.dwexpr_cli.specs.Writing.{bytes_word, pairs}
use Rattle.dwexpr_cli.proofs.Printing.{Written}
use Rattle.dwexpr_cli.proofs.writing.put_bytes.Given as goal

abbrev pub invariant-loop-byte : goal.invariant-loop-byte
invariant-loop-byte g l =
    Written (g.W.Write.contents l.fn.output) (g.W.Write.contents l.output) (bytes_word (slice_bytes l.fn.bytes)) (pairs (drop l.byte-index l.byte-items))
