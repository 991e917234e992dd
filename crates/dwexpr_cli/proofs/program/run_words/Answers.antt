use Rattle.std.proofs.Common.{inl}
use Rattle.dwexpr_cli.specs.inner.Readings.{asked_by, bad_invocation}
use Rattle.dwexpr_cli.proofs.Ending.{ends_refused}
use Rattle.dwexpr_cli.proofs.program.run_words.Goals as goal

pub returns-in-Ops : goal.returns-in-Ops
returns-in-Ops g c =
    let read = c.print_operations.ensures in
    (read.0, rw (c.in-Ok.ensures.exact, c.in-Ops.is) (inl (rw c.as_slice.ensures.value at read.1)), read.2)

pub returns-in-Err : goal.returns-in-Err
returns-in-Err g c =
    (bad_invocation c.in-Err.fault, ends_refused (asked_by {A = g.row.A.Denot}) _ _ c.in-Err.fault c.in-Err.ensures.exact, c.refuse_invocation.ensures)
