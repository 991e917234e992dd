use Rattle.std.proofs.Common.{refl, sym, ◌∙◌, lit<}
use Rattle.std.proofs.lemmas.Str.Pattern.{starts_char}
use Rattle.dwexpr_cli.proofs.Reading.{unsigned_parsed, numeral_in-plus}
use Rattle.dwexpr_cli.proofs.numbers.numeral_of.Goals as goal

pub returns-then-starts_with : goal.returns-then-starts_with
returns-then-starts_with c =
    let plus =
    (starts_char 43 c.args.digits.now _ c.starts_with.ensures.cases (lit< tt) (lit< tt)).0 c.if-starts_with.true in
    rw (numeral_in-plus c.args.base c.args.digits.now c.requires.most plus) refl

pub returns : goal.returns
returns c =
    let decides = starts_char 43 c.args.digits.now _ c.starts_with.ensures.cases (lit< tt) (lit< tt) in
    c.ok.ensures.value ∙ unsigned_parsed c.args.base c.args.digits.now _ c.from_str_radix.ensures.value
    (λ plus. cc (sym (decides.1 plus) ∙ c.if-starts_with.false))
