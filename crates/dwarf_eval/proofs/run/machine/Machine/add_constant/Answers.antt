use Rattle.std.proofs.Common.{ℕ, Result, refl}
use Rattle.dwarf_base.specs.declared.errors.Error.{Error}
use Rattle.dwarf_value.specs.declared.types.Value.{Value}
use Rattle.dwarf_value.specs.Values.{from_u64_of, type_of, binary_of, Plus}
use Rattle.dwarf_meaning.specs.Acts.{act}
use Rattle.dwarf_eval.proofs.Computes.{unary_computes}
use Rattle.dwarf_eval.proofs.Performances.{underflows}
use Rattle.dwarf_eval.proofs.run.machine.Machine.add_constant.Goals as goal

-- the call that is made
abbrev call : ℕ → ℕ → Value → Result Value Error
call constant bits x = binary_of Plus bits x (from_u64_of (type_of x) constant)

pub returns-in_default : goal.returns-in_default
unfolding act
returns-in_default g c = underflows _ c.args.self.now c.pop.new.self c.in_default.ensures

pub returns : goal.returns
unfolding act
returns g c =
    unary_computes (call c.args.constant) c.args.self.now c.pop.new.self c.in-Some.value _ c.in-Some.ensures refl
    c.push_computed.new.self c.sum.result c.requires c.sum.ensures c.push_computed.ensures
