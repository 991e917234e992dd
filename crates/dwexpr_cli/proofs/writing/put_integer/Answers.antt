use Rattle.std.proofs.Common.{w64, to_z-of_z, refl, sym, ◌∙◌, ap, pos, int_lt, codes, decimal, ◌++◌, unsigned_abs}
use Rattle.std.specs.Fmt.{signed_decimal}
use Rattle.dwexpr_cli.proofs.Printing.{begun, last_of, minus_before, more_of, no_minus, refused_in}
use Rattle.dwexpr_cli.proofs.writing.put_integer.Goals as goal

pub returns-in_err-put_text : goal.returns-in_err-put_text
returns-in_err-put_text g c =
    refused_in c.args.prefix.now (signed_decimal c.args.number) _ (begun _ _) refl c.in_err-put_text.ensures c.from_residual.ensures

pub returns-then-number-lt0 : goal.returns-then-number-lt0
returns-then-number-lt0 g c =
    let same = to_z-of_z {w = w64} {z = c.args.number} c.ranges.number in
    let text = ap (λ n. codes "-" ++ decimal n) (c.unsigned_abs.ensures.value ∙ ap unsigned_abs same)
    ∙ minus_before c.args.number (ap (λ z. int_lt z (pos 0)) (sym same) ∙ c.if-number-lt0.true) in
    last_of _ _ (more_of c.args.prefix.now (signed_decimal c.args.number) (begun _ _) refl c.in_ok-put_text.ensures) (sym text) c.put_number.ensures

pub returns-else-number-lt0 : goal.returns-else-number-lt0
returns-else-number-lt0 g c =
    let same = to_z-of_z {w = w64} {z = c.args.number} c.ranges.number in
    let text = ap decimal (c.unsigned_abs-else-number-lt0.ensures.value ∙ ap unsigned_abs same)
    ∙ no_minus c.args.number (ap (λ z. int_lt z (pos 0)) (sym same) ∙ c.if-number-lt0.false) in
    last_of _ _ (more_of c.args.prefix.now (signed_decimal c.args.number) (begun _ _) refl c.in_ok-put_text.ensures) (sym text) c.put_digits.ensures
