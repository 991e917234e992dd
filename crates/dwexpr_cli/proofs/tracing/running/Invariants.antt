use Rattle.std.proofs.Common.{vec_len}
use Rattle.dwexpr_cli.proofs.tracing.running.Given as goal

abbrev pub decreases-loop-frame : goal.decreases-loop-frame
decreases-loop-frame g l = vec_len l.frames
