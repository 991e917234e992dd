use Rattle.dwarf_value.specs.Values.{binary_of, width_of}
use Rattle.dwarf_meaning.specs.Acts.{act}
use Rattle.dwarf_eval.proofs.Performances.{performs_popped, pops_two, underflows}
use Rattle.dwarf_eval.proofs.Computes.{binary_computes}
use Rattle.dwarf_eval.proofs.run.machine.Machine.compute_binary.Goals as goal

pub returns-in_default : goal.returns-in_default
unfolding act
returns-in_default g c = λ meant computes. underflows _ c.args.self.now c.pop.new.self c.in_default.ensures

pub returns-in_default-pop : goal.returns-in_default-pop
unfolding act
returns-in_default-pop g c = λ meant computes.
    performs_popped _ c.in-Some.right c.args.self.now c.pop.new.self c.pop-2.new.self c.in-Some.ensures
    (underflows _ c.pop.new.self c.pop-2.new.self c.in_default-pop.ensures)

pub returns : goal.returns
unfolding act
returns g c = λ meant computes.
    binary_computes (binary_of meant) c.args.self.now c.pop-2.new.self c.in-Some.right c.in-Some-pop.left (width_of c.addr_mask.result)
    (pops_two c.in-Some.right c.in-Some-pop.left c.args.self.now c.pop.new.self c.pop-2.new.self c.in-Some.ensures c.in-Some-pop.ensures) c.addr_mask.ensures.width
    c.push_computed.new.self c.operator.result c.requires.runs (computes _ _ _ _ c.operator.ensures) c.push_computed.ensures
