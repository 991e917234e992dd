use Rattle.dwexpr_cli.proofs.program.print_end.Goals as goal

pub returns-in-Misplaced : goal.returns-in-Misplaced
returns-in-Misplaced g c = rw (c.in-Misplaced.is, c.complain.ensures) c.misplaced_step-printed.ensures
