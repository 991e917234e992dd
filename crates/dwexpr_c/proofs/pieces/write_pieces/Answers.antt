-- The pieces that were written, one by one.
use Rattle.std.proofs.Common.{get_or-set_same, length-set, ℕ, zero, suc, ◌≡◌, ◌≢◌, ◌<◌, ◌≤◌, ◌+◌, List, [], ◌∷◌, length, map, set, slice_get, Option, Some, None, refl, sym, ap, subst, ◌∙◌, arith, below_more, inl, inr}
use Rattle.std.specs.Option.{option_map}
use Rattle.std.proofs.lemmas.Bool.{cases_lt}
use Rattle.std.proofs.lemmas.Option.{slice_get_past, slice_get-map, slice_get_within, get_or_from_slice_get, slice_get-get_or}
use Rattle.dwarf_meaning.specs.Locations.{Piece}
use Rattle.dwexpr_c.specs.Outcomes.{ShowsPiece}
use Rattle.dwexpr_c.specs.declared.pieces.DwexprPiece.{DwexprPiece}
use Rattle.dwexpr_c.specs.declared.texts.DwexprText.{DwexprText}
use Rattle.std.proofs.lemmas.List.{length-map}
use Rattle.dwarf_op.specs.Views.{piece_of}
use Rattle.dwexpr_c.specs.CallerTexts.{text_of_placed}
use Rattle.dwexpr_c.proofs.pieces.write_pieces.Goals as goal
use Rattle.dwexpr_c.proofs.pieces.write_pieces.Invariants.{ShownAt}

-- ---- places of which one is written

same_place : {X : Type 0} (xs : List X) (i : ℕ) (v : X) → i < length xs → slice_get (set xs i v) i ≡ Some v
same_place xs i v h =
    slice_get-get_or (set xs i v) i v (omega (arith, length-set xs i v)) ∙ ap Some (get_or-set_same xs i v v h)

other_place : {X : Type 0} (xs : List X) (i k : ℕ) (v : X) → k ≢ i → slice_get (set xs i v) k ≡ slice_get xs k
other_place [] i k v h = refl
other_place (x ∷ xs) zero zero v h = absurd (h refl)
other_place (x ∷ xs) zero (suc k) v h = refl
other_place (x ∷ xs) (suc i) zero v h = refl
other_place (x ∷ xs) (suc i) (suc k) v h = other_place xs i k v (omega arith)

-- ---- what was written

-- what the code has at an index, as the definitions see it
seen_at : {X Y : Type 0} (view : X → Y) (xs : List X) (index : ℕ) (x : X) → slice_get xs index ≡ Some x → slice_get (map view xs) index ≡ Some (view x)
seen_at view xs index x e = slice_get-map view xs index ∙ ap (option_map view) e

module _ (texts : List DwexprText) (pieces : List Piece) (places : List DwexprPiece) (index : ℕ) (piece : Piece) (shown : DwexprPiece) (is_there : slice_get pieces index ≡ Some piece) (inside : index < length places) (shows : ShowsPiece texts piece shown) where
  shown_next : ((k : ℕ) → k < index → ShownAt texts (slice_get pieces k) (slice_get places k)) → (k : ℕ) → k < index + 1 → ShownAt texts (slice_get pieces k) (slice_get (set places index shown) k)
  shown_next h =
      below_more _ _
      (λ k l.
      let other : k ≢ index = omega arith in
      subst (λ (o : Option DwexprPiece). ShownAt texts (slice_get pieces k) o) (sym (other_place places index k shown other)) (h k l))
      (subst (λ (o : Option Piece). ShownAt texts o (slice_get (set places index shown) index)) (sym is_there)
      (subst (λ (o : Option DwexprPiece). ShownAt texts (Some piece) o) (sym (same_place places index shown inside)) shows))

kept_next : (places old : List DwexprPiece) (index : ℕ) (shown : DwexprPiece) → ((k : ℕ) → index ≤ k → slice_get places k ≡ slice_get old k) → (k : ℕ) → index + 1 ≤ k → slice_get (set places index shown) k ≡ slice_get old k
kept_next places old index shown h k l =
    let other : k ≢ index = omega arith in
    other_place places index k shown other ∙ h k (omega arith)

no_room : (texts : List DwexprText) (piece : Option Piece) → ShownAt texts piece None
no_room texts None = tt
no_room texts (Some piece) = tt

-- all pieces are shown for which there is room
shown_all : (texts : List DwexprText) (pieces : List Piece) (places : List DwexprPiece) (index : ℕ) → length places ≤ index → ((k : ℕ) → k < index → ShownAt texts (slice_get pieces k) (slice_get places k)) → (k : ℕ) → ShownAt texts (slice_get pieces k) (slice_get places k)
shown_all texts pieces places index past h k =
    elim (cases_lt k index) [
      | inl below ↦ h k below
      | inr above ↦
          let beyond : length places ≤ k = omega arith in
          subst (λ (o : Option DwexprPiece). ShownAt texts (slice_get pieces k) o) (sym (slice_get_past places k beyond)) (no_room texts (slice_get pieces k))
    ]

-- ---- the loop

pub loop-index-preserved : goal.loop-index-preserved
loop-index-preserved c =
    let inv = c.loop-index.invariant in
    let pieces = c.args.pieces.now in
    let index = c.loop-index.index in
    let piece = c.in-Some.piece.now in
    let there : slice_get pieces index ≡ Some piece = sym c.piece_at.ensures ∙ ap (option_map (λ piece. piece.now)) c.in-Some.is in
    let seen = seen_at (piece_of text_of_placed (λ x. x)) pieces index piece there in
    let within : index < length pieces = slice_get_within pieces index piece there in
    let inside : index < length c.loop-index.places = omega (arith, c.loop-index-test.true, inv.0) in
    let shown = c.show_piece.new.shown in (
      length-set c.loop-index.places index shown ∙ inv.0,
      omega arith,
      shown_next c.args.texts.now _ c.loop-index.places index _ shown seen inside (c.if-not-show_piece.ensures.some refl) inv.2,
      kept_next c.loop-index.places c.args.places.now index shown inv.3,
    )

pub returns-then-not-show_piece-clause-unplaced : goal.returns-then-not-show_piece-clause-unplaced
returns-then-not-show_piece-clause-unplaced c e =
    let pieces = c.args.pieces.now in
    let index = c.loop-index.index in
    let there : slice_get pieces index ≡ Some c.in-Some.piece.now = sym c.piece_at.ensures ∙ ap (option_map (λ piece. piece.now)) c.in-Some.is in
    let piece = piece_of text_of_placed (λ x. x) c.in-Some.piece.now in
    let seen = seen_at (piece_of text_of_placed (λ x. x)) pieces index c.in-Some.piece.now there in
    (index, piece, slice_get_within _ index piece seen, get_or_from_slice_get _ index piece piece seen, c.if-not-show_piece.ensures.none refl)

pub returns-clause-written : goal.returns-clause-written
returns-clause-written c e =
    let inv = c.loop-index.invariant in
    let past : length c.loop-index.places ≤ c.loop-index.index = omega (arith, c.loop-index-test.false, inv.0) in
    record {
      room = inv.0;
      shown = shown_all c.args.texts.now _ c.loop-index.places c.loop-index.index past inv.2;
      kept = λ k l. inv.3 k (omega (arith, length-map c.args.pieces.now (piece_of text_of_placed (λ x. x)), l));
    }
