use Rattle.std.proofs.Common.{◌≡◌, ◌≤◌, ◌+◌, ◌-◌, ℕ, List, length, length-drop, drop, take, ap, arith, ◌∙◌, sym, subst}
use Rattle.std.proofs.lemmas.List.{take_all}
use Rattle.std.specs.Cmp.Lexicographic.{same_text, other_text}
use Rattle.dwexpr_c.proofs.texts.is_there.Goals as goal

pub returns-then-place-text-clause-yes : goal.returns-then-place-text-clause-yes
returns-then-place-text-clause-yes c h =
    let text = c.args.text.now in
    let place = c.args.place in
    let block = c.args.block.now in
    let inside : place ≤ length text = c.if-place-text.true in
    let left : length (drop place text) ≡ length text - place = length-drop place text in
    let whole : take (length text - place) (drop place text) ≡ drop place text = take_all (length text - place) (drop place text) (omega arith) in
    let bound : length block ≤ length (drop place text) = subst (λ (xs : List ℕ). length block ≤ length xs) whole (c.starts_with.ensures.bound h) in
    let same : block ≡ take (length block) (take (length text - place) (drop place text)) = same_text block _ (sym h ∙ c.starts_with.ensures.value) in
    let width : (place + length block) - place ≡ length block = omega arith in
    (omega arith, ap (λ (n : ℕ). take n (drop place text)) width ∙ (ap (λ (xs : List ℕ). take (length block) xs) (sym whole) ∙ sym same))

pub returns-then-place-text-clause-no : goal.returns-then-place-text-clause-no
returns-then-place-text-clause-no c h at =
    let text = c.args.text.now in
    let place = c.args.place in
    let block = c.args.block.now in
    let left : length (drop place text) ≡ length text - place = length-drop place text in
    let whole : take (length text - place) (drop place text) ≡ drop place text = take_all (length text - place) (drop place text) (omega arith) in
    let width : (place + length block) - place ≡ length block = omega arith in
    let same : take (length block) (take (length text - place) (drop place text)) ≡ block =
    ap (λ (xs : List ℕ). take (length block) xs) whole ∙ (ap (λ (n : ℕ). take n (drop place text)) (sym width) ∙ at.1)
    in
    other_text block _ (sym h ∙ c.starts_with.ensures.value) (sym same)
