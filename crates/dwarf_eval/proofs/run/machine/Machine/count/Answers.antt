use Rattle.std.proofs.Common.{refl, ◌<◌, ◌^◌, arith}
use Rattle.dwarf_eval.proofs.MachineNumbers.{may_count}
use Rattle.dwarf_eval.proofs.run.machine.Machine.count.Goals as goal

pub returns : goal.returns
returns g c =
    let small : c.self.inside.max_iterations < 2 ^ 32 = omega arith in
    rw (← c.self.view_is) ((may_count _ _ c.if-self.false small, refl))
