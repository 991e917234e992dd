use Rattle.std.proofs.Common.{◌≡◌, ◌≤◌, ℕ, length}
use Rattle.dwarf_base.specs.EndianSlice.{slice_text}
use Rattle.dwarf_base.specs.ByteOrder.{is_big_of}
use Rattle.dwarf_replay.specs.Replays.{steps_of}
use Rattle.dwexpr_cli.specs.StepLines as spec
use Rattle.dwexpr_cli.specs.StepLines.{lines_in, lines_within}
use Rattle.dwexpr_cli.proofs.Reading.{said_after}
use Rattle.dwexpr_cli.proofs.steps.steps_in.Given as goal

abbrev pub invariant-loop-left : goal.invariant-loop-left
invariant-loop-left g l = record {
  most : ℕ;
  enough : length l.left ≤ most;
  so_far : spec.steps_in (is_big_of l.fn.order) (lines_in l.fn.input)
      ≡ said_after (steps_of slice_text l.steps.items) (spec.steps_in (is_big_of l.fn.order) (lines_within most l.left));
}

abbrev pub decreases-loop-left : goal.decreases-loop-left
decreases-loop-left g l = length l.left
