use Rattle.std.proofs.Common.{sym, ◌∙◌}
use Rattle.dwarf_base.specs.declared.errors.Error.TheVariants.{InvalidPushObjectAddress}
use Rattle.dwarf_value.specs.declared.types.Value.TheVariants.{Generic}
use Rattle.dwarf_meaning.specs.Acts.{FaultAct, act, push}
use Rattle.dwarf_meaning.proofs.Choices.{some_none, some_some}
use Rattle.dwarf_eval.proofs.Performances.{performs_as, performs_more, performs_refuses}
use Rattle.dwarf_eval.proofs.Staying.{stays_here}
use Rattle.dwarf_eval.proofs.run.machine.Machine.push_object_address.Goals as goal

pub returns-in_default : goal.returns-in_default
unfolding act
returns-in_default g c =
    let x = c.args.self.now in
    performs_refuses _ InvalidPushObjectAddress x x c.fail.new.self
    (some_none x.store.settings.object_address (FaultAct InvalidPushObjectAddress) _ (sym c.object_address.ensures ∙ c.in_default.is)) (stays_here x) c.fail.ensures

pub returns : goal.returns
unfolding act
returns g c =
    let x = c.args.self.now in
    performs_as _ _ x c.push_plain.new.self
    (some_some x.store.settings.object_address (FaultAct InvalidPushObjectAddress) (λ address. push x.store.values (Generic address)) c.in-Some.address (sym c.object_address.ensures ∙ c.in-Some.is))
    (performs_more (Generic c.in-Some.address) x c.push_plain.new.self c.requires c.push_plain.ensures)
