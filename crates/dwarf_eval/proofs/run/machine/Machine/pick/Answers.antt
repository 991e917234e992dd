use Rattle.std.proofs.Common.{sym}
use Rattle.std.specs.Prelude.{slice_get}
use Rattle.dwarf_base.specs.declared.errors.Error.TheVariants.{NotEnoughStackItems}
use Rattle.dwarf_meaning.specs.Acts.{act, push, underflow}
use Rattle.dwarf_meaning.proofs.Choices.{some_none, some_some}
use Rattle.dwarf_eval.proofs.Performances.{performs_as, performs_more, performs_refuses}
use Rattle.dwarf_eval.proofs.Staying.{stays_here}
use Rattle.dwarf_eval.proofs.run.machine.Machine.pick.Goals as goal

pub returns-in_default : goal.returns-in_default
unfolding act
returns-in_default g c =
    let x = c.args.self.now in
    performs_refuses _ NotEnoughStackItems x x c.fail.new.self
    (some_none (slice_get x.store.values c.args.index) underflow (push x.store.values) (sym c.in_default.ensures)) (stays_here x) c.fail.ensures

pub returns : goal.returns
unfolding act
returns g c =
    let x = c.args.self.now in
    performs_as _ _ x c.push_plain.new.self
    (some_some (slice_get x.store.values c.args.index) underflow (push x.store.values) c.in-Some.value (sym c.in-Some.ensures))
    (performs_more c.in-Some.value x c.push_plain.new.self c.requires c.push_plain.ensures)
