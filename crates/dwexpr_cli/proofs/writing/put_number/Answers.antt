use Rattle.std.proofs.Common.{false, refl}
use Rattle.std.specs.Fmt.{digits}
use Rattle.dwexpr_cli.proofs.Printing.{begun, last_of, more_of, refused_in}
use Rattle.dwexpr_cli.proofs.writing.put_number.Goals as goal

pub returns-in_err-put_text : goal.returns-in_err-put_text
returns-in_err-put_text g c = refused_in c.args.prefix.now (digits c.args.base false c.args.number) _ (begun _ _) refl c.in_err-put_text.ensures c.from_residual.ensures

pub returns : goal.returns
returns g c = last_of _ _ (more_of c.args.prefix.now (digits c.args.base false c.args.number) (begun _ _) refl c.in_ok-put_text.ensures) refl c.put_digits.ensures
