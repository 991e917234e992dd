use Rattle.dwarf_value.specs.Values.{unary_of, width_of}
use Rattle.dwarf_meaning.specs.Acts.{act}
use Rattle.dwarf_eval.proofs.Performances.{underflows}
use Rattle.dwarf_eval.proofs.Computes.{unary_computes}
use Rattle.dwarf_eval.proofs.run.machine.Machine.compute_unary.Goals as goal

pub returns-in_default : goal.returns-in_default
unfolding act
returns-in_default g c = λ meant computes. underflows _ c.args.self.now c.pop.new.self c.in_default.ensures

pub returns : goal.returns
unfolding act
returns g c = λ meant computes.
    unary_computes (unary_of meant) c.args.self.now c.pop.new.self c.in-Some.value (width_of c.addr_mask.result) c.in-Some.ensures c.addr_mask.ensures.width
    c.push_computed.new.self c.operator.result c.requires.runs (computes _ _ _ c.operator.ensures) c.push_computed.ensures
