use Rattle.std.proofs.Common.{drop, map}
use Rattle.dwarf_base.specs.EndianSlice.{slice_text}
use Rattle.dwarf_op.specs.Views.{piece_of}
use Rattle.dwexpr_cli.specs.Lines.{piece_lines}
use Rattle.dwexpr_cli.proofs.Printing.{Written}
use Rattle.dwexpr_cli.proofs.program.print_pieces.Given as goal

abbrev pub invariant-loop-piece : goal.invariant-loop-piece
invariant-loop-piece g l =
    Written (g.W.Write.contents l.fn.output) (g.W.Write.contents l.output) (piece_lines (map (piece_of slice_text (λ x. x)) l.fn.pieces))
    (piece_lines (map (piece_of slice_text (λ x. x)) (drop l.piece-index l.fn.pieces)))
