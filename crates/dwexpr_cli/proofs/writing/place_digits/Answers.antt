use Rattle.std.proofs.Common.{sym, ap, ◌∙◌, ◌-◌, ◌/◌, drop, length-set, drop_of_length-le, arith, false}
use Rattle.std.specs.Fmt.{digits, digits_onto}
use Rattle.dwexpr_cli.proofs.Printing.{digits_last, digits_step, drop-set_before}
use Rattle.dwexpr_cli.proofs.writing.place_digits.Goals as goal

pub loop-start-init : goal.loop-start-init
unfolding digits
loop-start-init c = record {
  inside = omega arith;
  room = c.told-buffer;
  so_far = ap (digits_onto 64 c.args.base false c.args.number) (drop_of_length-le c.args.buffer.now {i = 64} (omega (arith, c.told-buffer)));
}

pub loop-start-preserved : goal.loop-start-preserved
loop-start-preserved c =
    let l = c.loop-start in
    let a = c.args in
    let kept = length-set l.buffer (l.start - 1) c.digit.result ∙ l.invariant.room in
    let written =
    ap (digits_onto (l.start - 1) a.base false (l.left / a.base))
    (drop-set_before l.buffer l.start _ _ c.loop-start-test.true (omega arith) c.digit.ensures) in
    record {
      inside = omega arith;
      room = kept;
      so_far = written ∙ sym (digits_step a.base l.left l.start (drop l.start l.buffer) c.loop-start-test.true c.if-left-eq0.false)
          ∙ l.invariant.so_far;
    }

pub returns-then-left-eq0 : goal.returns-then-left-eq0
returns-then-left-eq0 c =
    let l = c.loop-start in
    let a = c.args in
    let written = drop-set_before l.buffer l.start _ _ c.loop-start-test.true (omega arith) c.digit.ensures in
    record {
      inside = omega arith;
      digits = written ∙ sym (digits_last a.base l.left l.start (drop l.start l.buffer) c.loop-start-test.true c.if-left-eq0.true)
          ∙ l.invariant.so_far;
    }
