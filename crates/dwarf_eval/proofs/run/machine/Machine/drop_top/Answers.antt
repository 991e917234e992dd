use Rattle.std.proofs.Common.{ap, ◌∙◌}
use Rattle.dwarf_meaning.specs.Acts.{act}
use Rattle.dwarf_meaning.specs.Rest.{State}
use Rattle.dwarf_eval.proofs.Performances.{performs_none, performs_popped, underflows}
use Rattle.dwarf_eval.proofs.run.machine.Machine.drop_top.Goals as goal

pub returns-in_default : goal.returns-in_default
unfolding act
returns-in_default g c = underflows _ c.args.self.now c.pop.new.self c.in_default.ensures

pub returns : goal.returns
unfolding act
returns g c =
    performs_popped _ c.in-Some.field-0 c.args.self.now c.pop.new.self c.mark.new.self c.in-Some.ensures
    (performs_none c.pop.new.self.store.values c.pop.new.self c.mark.new.self (ap (λ (z : State). z.status) c.in-Some.ensures.2 ∙ c.requires) c.mark.ensures)
