use Rattle.std.proofs.Common.{refl}
use Rattle.dwarf_eval.proofs.Performances.{performs_asks}
use Rattle.dwarf_eval.proofs.run.machine.Machine.ask.Goals as goal

pub returns-clause-asks : goal.returns-clause-asks
returns-clause-asks g c = rw (← c.self.view_is) (performs_asks _ _ _ _ refl)
