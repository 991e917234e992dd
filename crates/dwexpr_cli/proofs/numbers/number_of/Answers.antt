use Rattle.std.proofs.Common.{◌∙◌}
use Rattle.dwexpr_cli.proofs.Reading.{number_in-prefix, number_in-plain}
use Rattle.dwexpr_cli.proofs.numbers.number_of.Goals as goal

pub returns-in-Some : goal.returns-in-Some
returns-in-Some c = let cut =
    c.in-Some.ensures.cases in c.numeral_of.ensures ∙ number_in-prefix c.args.word.now _ cut.0 cut.1 cut.2

pub returns-in-None : goal.returns-in-None
returns-in-None c = c.numeral_of-in-None.ensures ∙ number_in-plain c.args.word.now c.in-None.ensures.cases
