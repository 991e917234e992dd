use Rattle.std.proofs.Common.{length}
use Rattle.dwarf_base.specs.ByteOrder.{is_big_of}
use Rattle.dwarf_base.specs.EndianSlice.{slice_bytes, slice_text}
use Rattle.dwexpr_cli.proofs.Listings.{Listed}
use Rattle.dwexpr_cli.proofs.listing.print_operations.Given as goal

abbrev pub invariant-loop-left : goal.invariant-loop-left
invariant-loop-left g l =
    Listed l.fn.context.encoding (record { bytes = l.fn.bytes; is_big = is_big_of l.fn.context.order }) (slice_text l.left)
    (g.W.Write.contents l.fn.output) (g.W.Write.contents l.output)

abbrev pub decreases-loop-left : goal.decreases-loop-left
decreases-loop-left g l = length (slice_bytes l.left)
