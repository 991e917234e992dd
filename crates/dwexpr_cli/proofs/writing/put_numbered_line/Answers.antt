use Rattle.std.proofs.Common.{decimal, map, refl}
use Rattle.dwexpr_cli.specs.Writing.{ending}
use Rattle.dwexpr_cli.specs.inner.Outputs.{word_text}
use Rattle.dwexpr_cli.proofs.Printing.{begun, last_of, more_of, refused_in}
use Rattle.dwexpr_cli.proofs.writing.put_numbered_line.Goals as goal

pub returns-in_err-put_digits : goal.returns-in_err-put_digits
returns-in_err-put_digits g c = refused_in (decimal c.args.first) (ending (map word_text c.args.words.now)) _ (begun _ _) refl c.in_err-put_digits.ensures c.from_residual.ensures

pub returns : goal.returns
returns g c = last_of _ _ (more_of (decimal c.args.first) (ending (map word_text c.args.words.now)) (begun _ _) refl c.in_ok-put_digits.ensures) refl c.put_ending.ensures
