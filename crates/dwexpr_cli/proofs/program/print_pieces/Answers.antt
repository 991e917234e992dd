use Rattle.std.proofs.lemmas.List.{at_drop_more}
use Rattle.std.proofs.Common.{map}
use Rattle.dwarf_base.specs.EndianSlice.{slice_text}
use Rattle.dwarf_op.specs.Views.{piece_of}
use Rattle.dwexpr_cli.specs.Lines.{piece_lines}
use Rattle.dwexpr_cli.proofs.Printing.{more_of, refused_in}
use Rattle.dwexpr_cli.proofs.program.print_pieces.Goals as goal

pub returns-in_err-print_piece : goal.returns-in_err-print_piece
returns-in_err-print_piece g c =
    refused_in _ _ _ c.loop-piece.invariant (at_drop_more (λ pieces. piece_lines (map (piece_of slice_text (λ x. x)) pieces)) c.args.pieces.now c.loop-piece.piece-index _ c.loop-piece-test.true)
    c.in_err-print_piece.ensures c.from_residual.ensures

pub loop-piece-preserved : goal.loop-piece-preserved
loop-piece-preserved g c =
    more_of _ _ c.loop-piece.invariant (at_drop_more (λ pieces. piece_lines (map (piece_of slice_text (λ x. x)) pieces)) c.args.pieces.now c.loop-piece.piece-index _ c.loop-piece-test.true)
    c.in_ok-print_piece.ensures
