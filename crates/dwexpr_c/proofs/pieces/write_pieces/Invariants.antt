use Rattle.std.proofs.Common.{◌≡◌, ◌<◌, ◌≤◌, ℕ, length, map, slice_get, List, Option}
use Rattle.dwarf_op.specs.Views.{piece_of}
use Rattle.dwexpr_c.specs.CallerTexts.{text_of_placed}
use Rattle.dwexpr_c.proofs.pieces.write_pieces.Given as goal
use Rattle.std.specs.Option.{IfSome}
use Rattle.dwarf_meaning.specs.Locations.{Piece}
use Rattle.dwexpr_c.specs.Outcomes.{ShowsPiece}
use Rattle.dwexpr_c.specs.declared.pieces.DwexprPiece.{DwexprPiece}
use Rattle.dwexpr_c.specs.declared.texts.DwexprText.{DwexprText}

-- at this index the piece is shown, if there is one
abbrev pub ShownAt : List DwexprText → Option Piece → Option DwexprPiece → Type 0
ShownAt texts piece shown = IfSome piece (λ piece. IfSome shown (ShowsPiece texts piece))

-- those before this one are shown, and those from it on are as they were
abbrev pub invariant-loop-index : goal.invariant-loop-index
invariant-loop-index l =
    (length l.places ≡ length l.initial.places)
    × (l.index ≤ length l.pieces)
    × ((k : ℕ) → k < l.index → ShownAt l.texts (slice_get (map (piece_of text_of_placed (λ x. x)) l.pieces) k) (slice_get l.places k))
    × ((k : ℕ) → l.index ≤ k → slice_get l.places k ≡ slice_get l.initial.places k)
