use Rattle.std.proofs.Common.{◌∙◌, ap, string_bytes, sym}
use Rattle.dwexpr_cli.specs.Words.{named_extra_in}
use Rattle.dwexpr_cli.proofs.Reading.{first_asks, nothing_asks}
use Rattle.dwexpr_cli.proofs.words.extra_of.Goals as goal

pub returns-in-Some : goal.returns-in-Some
returns-in-Some g c =
    let first = rw c.in-Some.is at c.first.ensures.value in
    c.named_extra.ensures ∙ ap named_extra_in c.as_str.ensures.value
    ∙ sym (first_asks (string_bytes {Z = g.row.A.Denot}) c.args.words.now c.in-Some.word.now (sym first))

pub returns-in-None : goal.returns-in-None
returns-in-None g c =
    let none = rw c.in-None.is at c.first.ensures.value in
    sym (nothing_asks (string_bytes {Z = g.row.A.Denot}) c.args.words.now (sym none))
