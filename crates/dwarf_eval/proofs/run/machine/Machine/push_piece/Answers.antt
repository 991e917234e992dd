use Rattle.std.proofs.Common.{refl, length, subst}
use Rattle.std.proofs.lemmas.List.{length-map, map-append}
use Rattle.dwarf_meaning.specs.Rest.{State}
use Rattle.dwarf_eval.specs.Lists.{MayRefuse}
use Rattle.dwarf_eval.proofs.Pushes.{piece_pushed, piece_faults}
use Rattle.dwarf_eval.proofs.run.machine.Machine.push_piece.Goals as goal

pub returns-in_default : goal.returns-in_default
returns-in_default g c =
    let is = rw (c.in_default.ensures.err, c.push.ensures.limit) at c.fail.ensures in
    piece_faults _ c.args.self.now c.fail.new.self
    (subst (λ (s : State). MayRefuse s.setup.limits.pieces (length s.store.pieces)) c.self.view_is (rw length-map c.in_default.ensures.full))
    (rw (← c.self.view_is) is)

pub returns : goal.returns
returns g c =
    rw (← c.self.view_is) (record {
      steps = piece_pushed _ _ _ _ (rw length-map c.in-Ok.ensures.room) (rw (c.in-Ok.ensures.ok, map-append) refl);
      alone = rw c.push.ensures.limit refl;
    })
