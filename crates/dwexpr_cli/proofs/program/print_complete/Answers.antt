use Rattle.std.proofs.Common.{[], append-nil, map, refl, sym}
use Rattle.dwarf_base.specs.EndianSlice.{slice_text}
use Rattle.dwarf_op.specs.Views.{piece_of}
use Rattle.dwexpr_cli.specs.Endings.{complete_ending}
use Rattle.dwexpr_cli.specs.Lines.{piece_lines, value_line}
use Rattle.dwexpr_cli.proofs.Printing.{begun, ends_refused, more_of}
use Rattle.dwexpr_cli.proofs.program.print_complete.Goals as goal

pub returns-in_err-print_pieces : goal.returns-in_err-print_pieces
returns-in_err-print_pieces g c =
    let pieces = map (piece_of slice_text (λ x. x)) c.args.pieces.now in
    ends_refused (complete_ending pieces c.args.value) (piece_lines pieces) (value_line c.args.value) _ (begun _ _) refl c.in_err-print_pieces.ensures c.from_residual.ensures

pub returns-in_err-print_value_line : goal.returns-in_err-print_value_line
returns-in_err-print_value_line g c =
    let pieces = map (piece_of slice_text (λ x. x)) c.args.pieces.now in
    ends_refused (complete_ending pieces c.args.value) (value_line c.args.value) [] _
    (more_of (piece_lines pieces) (value_line c.args.value) (begun _ _) refl c.in_ok-print_pieces.ensures) (sym (append-nil (value_line c.args.value)))
    c.in_err-print_value_line.ensures c.from_residual-in_err-print_value_line.ensures
