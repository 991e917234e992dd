use Rattle.std.proofs.Common.{ℕ, ◌<◌}
use Rattle.dwexpr_c.specs.CallerTexts.{IsAt}
use Rattle.dwexpr_c.proofs.texts.find_in.Given as goal

-- it is at no place before this one
abbrev pub invariant-loop-place : goal.invariant-loop-place
invariant-loop-place l = (k : ℕ) → k < l.place → IsAt l.text k l.block → ⊥
