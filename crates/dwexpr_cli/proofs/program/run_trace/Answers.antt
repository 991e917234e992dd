use Rattle.dwexpr_cli.specs.inner.Readings.{bad_invocation, unread_input}
use Rattle.dwexpr_cli.proofs.Ending.{at_most, bad_invocation_at_most, unread_at_most}
use Rattle.dwexpr_cli.proofs.program.run_trace.Goals as goal

pub returns-in-Err : goal.returns-in-Err
returns-in-Err g c =
    at_most _ _ (bad_invocation c.in-Err.fault) _ (bad_invocation_at_most c.in-Err.fault) c.refuse_invocation.ensures

pub returns : goal.returns
returns g c =
    at_most _ _ (unread_input c.in-Err-read_all.fault) _ (unread_at_most c.in-Err-read_all.fault) c.refuse_input.ensures
