use Rattle.std.proofs.Common.{refl}
use Rattle.std.proofs.KnownBytes.{Appends-nil}
use Rattle.dwexpr_cli.proofs.program.refuse_input.Goals as goal

pub returns-in-Bad : goal.returns-in-Bad
returns-in-Bad g c = rw (c.in-Bad.is, c.complain.ensures) (Appends-nil _, refl)
