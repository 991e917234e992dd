use Rattle.std.proofs.Common.{map, refl}
use Rattle.dwexpr_cli.specs.Writing.{ending}
use Rattle.dwexpr_cli.specs.inner.Outputs.{word_text}
use Rattle.dwexpr_cli.proofs.Printing.{begun, last_of, more_of, refused_in}
use Rattle.dwexpr_cli.proofs.writing.put_line.Goals as goal

pub returns-in_err-put_text : goal.returns-in_err-put_text
returns-in_err-put_text g c = refused_in c.args.first.now (ending (map word_text c.args.words.now)) _ (begun _ _) refl c.in_err-put_text.ensures c.from_residual.ensures

pub returns : goal.returns
returns g c = last_of _ _ (more_of c.args.first.now (ending (map word_text c.args.words.now)) (begun _ _) refl c.in_ok-put_text.ensures) refl c.put_ending.ensures
