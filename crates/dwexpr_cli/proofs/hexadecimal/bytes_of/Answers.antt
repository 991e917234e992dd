use Rattle.std.proofs.Common.{◌≢◌, [], ◌∷◌, sym, ◌∙◌, rules}
use Rattle.dwexpr_cli.proofs.Reading.{bytes_in-other, IsSome-bytes_in}
use Rattle.dwexpr_cli.proofs.hexadecimal.bytes_of.Goals as goal

pub returns-then-not-is_hexadecimal-clause-bad : goal.returns-then-not-is_hexadecimal-clause-bad
returns-then-not-is_hexadecimal-clause-bad g c = λ _.
    let dash : c.args.word.now ≢ 45 ∷ [] = search rules in
    bytes_in-other c.args.word.now dash
    (λ good. let is_good =
    c.is_hexadecimal.ensures.1 (rw c.as_bytes.ensures.value good) in cc (sym is_good ∙ c.if-not-is_hexadecimal.true))

pub returns-in-Err-OutOfMemory-clause-no_memory : goal.returns-in-Err-OutOfMemory-clause-no_memory
returns-in-Err-OutOfMemory-clause-no_memory g c = λ _.
    let some : c.args.word.now ≢ [] = search rules in
    IsSome-bytes_in c.args.word.now some
    (rw c.as_bytes.ensures.value at (c.is_hexadecimal.ensures.0 c.if-not-is_hexadecimal.false))
