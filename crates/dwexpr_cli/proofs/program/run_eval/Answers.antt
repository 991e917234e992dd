use Rattle.dwexpr_cli.specs.inner.Readings.{unread_input}
use Rattle.dwexpr_cli.proofs.Ending.{ends_unread}
use Rattle.dwexpr_cli.proofs.program.run_eval.Goals as goal

pub returns-in-Err : goal.returns-in-Err
returns-in-Err g c = (unread_input c.in-Err.fault, ends_unread _ _ _ c.in-Err.fault, c.refuse_input.ensures)
