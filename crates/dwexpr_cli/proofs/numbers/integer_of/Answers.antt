use Rattle.std.proofs.Common.{refl, sym, ◌∙◌, lit<}
use Rattle.std.proofs.lemmas.Str.Pattern.{starts_char}
use Rattle.dwexpr_cli.proofs.Reading.{integer_parsed, integer_in-plus}
use Rattle.dwexpr_cli.proofs.numbers.integer_of.Goals as goal

pub returns-then-starts_with : goal.returns-then-starts_with
returns-then-starts_with c =
    let plus =
    (starts_char 43 c.args.word.now _ c.starts_with.ensures.cases (lit< tt) (lit< tt)).0 c.if-starts_with.true in
    sym (integer_in-plus c.args.word.now plus)

pub returns : goal.returns
returns c =
    let decides = starts_char 43 c.args.word.now _ c.starts_with.ensures.cases (lit< tt) (lit< tt) in
    c.ok.ensures.value ∙ integer_parsed _ c.args.word.now refl _ c.parse.ensures.value.0
    (λ plus. cc (sym (decides.1 plus) ∙ c.if-starts_with.false))
