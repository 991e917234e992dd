use Rattle.std.proofs.Common.{ap, sym, ◌∙◌}
use Rattle.dwarf_meaning.specs.Rest.{State}
use Rattle.dwarf_meaning.specs.Stores.{Located}
use Rattle.dwarf_op.specs.Views.{location_of}
use Rattle.dwarf_eval.specs.inner.StateChanges.{has_location}
use Rattle.dwarf_eval.proofs.MachineViews.{waits_with}
use Rattle.dwarf_eval.proofs.run.machine.Machine.take_located.Goals as goal

pub returns-clause-located : goal.returns-clause-located
returns-clause-located g c =
    let text = g.R.Reader.text in
    let number = g.R.Offset.ReaderOffset.number in
    let waits = ap (λ (z : State). has_location z.store.last) c.self.view_is ∙ c.requires in
    sym (ap (λ (z : State). z.store.last) c.self.view_is) ∙ (waits_with c.self.inside.last (location_of text number c.self.inside.location) waits ∙ ap (λ l. Located (location_of text number l)) (sym c.replace-location.ensures.value))
