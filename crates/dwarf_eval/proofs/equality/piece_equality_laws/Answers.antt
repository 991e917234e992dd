use Rattle.std.proofs.Common.{◌≡◌, ◌↔◌, Bool, IsTrue, ap, ◌&&◌, rules}
use Rattle.std.specs.Bool.{Decides}
use Rattle.dwarf_meaning.specs.Locations as meaning
use Rattle.dwarf_op.proofs.EqualOperations.{both_of, options}
use Rattle.dwarf_op.specs.Views.{piece_of}
use Rattle.dwarf_eval.proofs.equality.piece_equality_laws.Goals as goal

equal_parts : {a b c : Bool} (x y : meaning.Piece) → Decides a (x.size_in_bits ≡ y.size_in_bits)
    → Decides b (x.bit_offset ≡ y.bit_offset) → Decides c (x.location ≡ y.location)
    → IsTrue (a && (b && c)) ↔ (x ≡ y)
equal_parts {a} {b} {c} x y sizes offsets places =
    let all = both_of a (b && c) sizes (both_of b c offsets places) in (
      λ passes. let p = all.0 passes in
          λ i. record { size_in_bits = p.0 i; bit_offset = p.1.0 i; location = p.1.1 i },
      λ same. all.1 (
        ap (λ (piece : meaning.Piece). piece.size_in_bits) same,
        (ap (λ (piece : meaning.Piece). piece.bit_offset) same, ap (λ (piece : meaning.Piece). piece.location) same),
      ),
    )

pub returns-clause-piece : goal.returns-clause-piece
returns-clause-piece g c = λ text number texts numbers x y.
    equal_parts (piece_of text number x) (piece_of text number y) (options x.size_in_bits y.size_in_bits)
    (options x.bit_offset y.bit_offset) (search (rules, texts, numbers))
