use Rattle.std.proofs.Common.{refl}
use Rattle.dwarf_eval.proofs.MachineViews.{popped}
use Rattle.dwarf_eval.proofs.run.machine.Machine.pop_if_any.Goals as goal

pub returns : goal.returns
returns g c = rw (← c.self.view_is) (popped c.pop.result _ _ _ _ c.pop.ensures.items c.pop.ensures.empty refl (rw c.pop.ensures.limit refl))
