use Rattle.dwexpr_cli.specs.inner.Readings.{bad_steps}
use Rattle.dwexpr_cli.proofs.Ending.{at_most, bad_steps_at_most}
use Rattle.dwexpr_cli.proofs.program.trace_lines.Goals as goal

pub returns-in-Err : goal.returns-in-Err
returns-in-Err g c = at_most _ _ (bad_steps c.in-Err.fault) _ (bad_steps_at_most c.in-Err.fault) c.refuse_lines.ensures
