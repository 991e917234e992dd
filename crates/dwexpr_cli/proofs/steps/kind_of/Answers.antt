use Rattle.std.proofs.Common.{◌∙◌, sym}
use Rattle.dwexpr_cli.proofs.Reading.{passed}
use Rattle.dwexpr_cli.proofs.steps.kind_of.Goals as goal

pub loop-known-preserved : goal.loop-known-preserved
loop-known-preserved c = c.loop-known.invariant ∙ passed _ _ _ _ _ c.loop-known-test.true (sym c.eq.ensures ∙ c.if-eq.false)
