use Rattle.std.proofs.Common.{sym, ◌∙◌, lit<, lt-ltb, Some}
use Rattle.std.proofs.lemmas.Str.Pattern.{split_once_first}
use Rattle.dwexpr_cli.proofs.steps.text_step.Goals as goal

pub returns-in-Some : goal.returns-in-Some
returns-in-Some g c =
    let cut = split_once_first 32 c.args.text.now (Some (c.in-Some.name, c.in-Some.word)) c.in-Some.ensures.cases (lit< tt) in
    rw (sym c.eq.ensures ∙ c.if-eq.false, lt-ltb _ _ cut.0, ← cut.1, ← cut.2) c.named_step.ensures
