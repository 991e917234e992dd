use Rattle.dwexpr_cli.proofs.lines.print_piece.Goals as goal

pub returns-in-Address : goal.returns-in-Address
returns-in-Address g c =
    rw (c.in-Address.is, ← c.number_word-size.ensures, ← c.number_word-offset.ensures) c.put_line-in-Address.ensures
