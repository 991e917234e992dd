use Rattle.std.proofs.Common.{refl}
use Rattle.std.proofs.lemmas.Str.{is_utf8-from_IsUtf8}
use Rattle.dwexpr_cli.proofs.Reading.{is_no_text}
use Rattle.dwexpr_cli.proofs.steps.step_in.Goals as goal

pub returns-in-Ok : goal.returns-in-Ok
returns-in-Ok g c =
    let read = c.in-Ok.ensures.cases in
    rw (is_utf8-from_IsUtf8 c.args.line.now read.1, ← read.0) c.text_step.ensures

pub returns-in-Err : goal.returns-in-Err
returns-in-Err g c = rw (is_no_text c.args.line.now _ refl c.in-Err.ensures.cases.0) refl
