use Rattle.std.proofs.Common.{ℕ, ◌<◌}
use Rattle.dwexpr_c.specs.CallerTexts.{IsPlaced}
use Rattle.dwexpr_c.proofs.texts.find.Given as goal

-- it is in none of the texts before this one
abbrev pub invariant-loop-text : goal.invariant-loop-text
invariant-loop-text l = (k : ℕ) → k < l.text → (offset : ℕ) → IsPlaced l.texts k offset l.block → ⊥
