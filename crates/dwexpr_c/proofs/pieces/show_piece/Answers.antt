use Rattle.std.proofs.Common.{ℕ, sym, subst}
use Rattle.dwarf_op.specs.Views.{location_of}
use Rattle.dwarf_op.specs.declared.locations.Location.{Location}
use Rattle.dwexpr_c.specs.CallerTexts.{HoldsNowhere, text_of_placed}
use Rattle.dwexpr_c.specs.declared.places.Placed.{Placed}
use Rattle.dwexpr_c.proofs.pieces.show_piece.Goals as goal

pub returns-in-Bytes-clause-none : goal.returns-in-Bytes-clause-none
returns-in-Bytes-clause-none c e =
    subst (λ (location : Location Placed ℕ). HoldsNowhere c.args.texts.now (location_of text_of_placed (λ x. x) location)) (sym c.in-Bytes.is) (c.show_bytes.ensures.none e)
