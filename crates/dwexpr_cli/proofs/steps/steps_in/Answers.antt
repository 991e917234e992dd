use Rattle.std.proofs.Common.{ap, ◌∙◌, Err, arith}
use Rattle.std.proofs.lemmas.List.{length-map, map-append}
use Rattle.dwarf_base.specs.EndianSlice.{slice_text}
use Rattle.dwarf_replay.specs.Replays.{steps_of}
use Rattle.dwarf_replay.specs.Stepping.{step_of}
use Rattle.dwexpr_cli.proofs.Reading.{no_lines, said_last, said_more, said_next}
use Rattle.dwexpr_cli.proofs.steps.steps_in.Goals as goal

pub returns-in-Err-Bad : goal.returns-in-Err-Bad
returns-in-Err-Bad g c =
    let before = c.loop-left.invariant in
    let next = said_next _ _ _ before.most c.loop-left.left.now _ _ before.so_far c.loop-left-test.ensures before.enough c.first_line-line.ensures.line in
    rw (next.2, rw c.in-Err-Bad.field-0-is at c.in-Err-Bad.ensures)
    (ap Err (omega (arith, length-map c.loop-left.steps.items (step_of slice_text), c.saturating_add.ensures, c.len.ensures, c.loop-left.steps.ok.0, c.loop-left.steps.ok.1, c.loop-left.steps.small)))

pub loop-left-preserved : goal.loop-left-preserved
loop-left-preserved g c =
    let before = c.loop-left.invariant in
    let next = said_next _ _ _ before.most c.loop-left.left.now _ _ before.so_far c.loop-left-test.ensures before.enough c.first_line-line.ensures.line in
    record {
      most = next.0;
      enough = next.1 c.first_line-line.ensures.less;
      so_far = next.2 ∙ rw (c.in-Ok.ensures, c.in-Ok-push.ensures.items, map-append)
          (said_more (steps_of slice_text c.loop-left.steps.items) (step_of slice_text c.in-Ok.step) _);
    }

pub returns : goal.returns
returns g c =
    let before = c.loop-left.invariant in
    rw (before.so_far, no_lines before.most c.loop-left.left.now c.loop-left-test.ensures) (said_last (steps_of slice_text c.loop-left.steps.items))
