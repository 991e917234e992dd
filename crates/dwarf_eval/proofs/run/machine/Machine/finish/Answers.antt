use Rattle.std.proofs.Common.{Some, ap, refl, sym, ◌∙◌}
use Rattle.dwarf_meaning.specs.Locations.{AtAddress}
use Rattle.dwarf_meaning.specs.Meaning.{whole_piece}
use Rattle.dwarf_eval.proofs.Finishing.{closes_with, finish_plain, value_closes, value_none}
use Rattle.dwarf_eval.proofs.run.machine.Machine.finish.Goals as goal

pub returns-in_default-pop : goal.returns-in_default-pop
returns-in_default-pop g c =
    finish_plain c.args.self.now.store.last c.args.self.now c.pop.new.self refl (sym c.has_location.ensures ∙ c.if-has_location.false) (sym c.has_pieces.ensures ∙ c.if-has_pieces.false)
    (value_none c.args.self.now c.pop.new.self c.in_default-pop.ensures)

pub returns : goal.returns
returns g c =
    finish_plain c.args.self.now.store.last c.args.self.now c.complete_with-2.new.self refl (sym c.has_location.ensures ∙ c.if-has_location.false) (sym c.has_pieces.ensures ∙ c.if-has_pieces.false)
    (value_closes c.in-Some.value c.args.self.now c.pop.new.self c.complete_with-2.new.self c.in-Some.ensures
    (closes_with (Some c.in-Some.value) _ _ c.pop.new.self c.complete_with-2.new.self
    (ap (λ address. whole_piece (AtAddress address)) c.number_of-address.ensures) c.complete_with-2.ensures))
