use Rattle.std.proofs.Common.{ℕ, ◌<◌, subst, length, arith, below_more}
use Rattle.std.proofs.lemmas.Option.{slice_get_within}
use Rattle.dwexpr_c.proofs.texts.find.Goals as goal

pub loop-text-preserved : goal.loop-text-preserved
loop-text-preserved c = below_more _ _ c.loop-text.invariant c.in_default.ensures.none

pub returns-clause-none : goal.returns-clause-none
returns-clause-none c text offset h =
    let texts = c.args.texts.now in
    let within : text < length texts = slice_get_within texts text h.at h.is_there in
    c.loop-text.invariant text (omega (arith, within, c.loop-text-test.false)) offset h

pub returns-in-Some-clause-first_text : goal.returns-in-Some-clause-first_text
returns-in-Some-clause-first_text c text below offset h =
    c.loop-text.invariant text (subst (λ (n : ℕ). text < n) c.in-Some.ensures.some.0 below) offset h
