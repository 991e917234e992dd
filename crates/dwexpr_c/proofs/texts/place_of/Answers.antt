use Rattle.std.proofs.Common.{ℕ, List, IfNone, subst}
use Rattle.dwexpr_c.specs.CallerTexts.{IsNowhere}
use Rattle.dwexpr_c.proofs.texts.place_of.Goals as goal

pub returns-in-None-clause-none : goal.returns-in-None-clause-none
returns-in-None-clause-none c =
    subst (λ (block : List ℕ). IfNone c.find.result (IsNowhere c.args.texts.now block)) c.bytes.ensures c.find.ensures.none
