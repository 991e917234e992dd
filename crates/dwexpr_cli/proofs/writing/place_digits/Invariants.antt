use Rattle.std.proofs.Common.{◌≡◌, ◌≤◌, drop, length, false}
use Rattle.std.specs.Fmt.{digits_onto, digits}
use Rattle.dwexpr_cli.proofs.writing.place_digits.Given as goal

abbrev pub invariant-loop-start : goal.invariant-loop-start
invariant-loop-start l = record {
  inside : l.start ≤ 64;
  room : length l.buffer ≡ 64;
  so_far : digits_onto l.start l.fn.base false l.left (drop l.start l.buffer) ≡ digits l.fn.base false l.fn.number;
}

abbrev pub decreases-loop-start : goal.decreases-loop-start
decreases-loop-start l = l.start
