use Rattle.std.proofs.Common.{inl}
use Rattle.dwarf_base.specs.EndianSlice.{slice_text}
use Rattle.dwarf_replay.specs.Stepping.{step_of}
use Rattle.dwexpr_cli.specs.inner.Readings.{bad_steps}
use Rattle.dwexpr_cli.proofs.Ending.{follows_refused}
use Rattle.dwexpr_cli.proofs.program.run_lines.Goals as goal

pub returns-in-Err : goal.returns-in-Err
returns-in-Err g c =
    (bad_steps c.in-Err.fault, follows_refused (step_of slice_text) _ _ _ g.row.A.Denot c.in-Err.fault c.in-Err.ensures, c.refuse_lines.ensures)

pub returns-in-Ok : goal.returns-in-Ok
returns-in-Ok g c =
    let read = c.evaluate.ensures in
    (read.0, inl (rw c.in-Ok.ensures (rw c.as_slice.ensures.value at read.1)), read.2)
