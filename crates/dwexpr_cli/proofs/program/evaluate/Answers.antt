use Rattle.std.proofs.Common.{refl}
use Rattle.dwarf_base.specs.EndianSlice.{slice_text}
use Rattle.dwarf_replay.specs.Replays.{replies_in}
use Rattle.dwexpr_cli.specs.Evaluates.{after_replies}
use Rattle.dwexpr_cli.specs.Lines.{reply_lines}
use Rattle.dwexpr_cli.specs.inner.Outputs.{ending_of}
use Rattle.dwexpr_cli.proofs.Ending.{evaluates_fresh, has_line}
use Rattle.dwexpr_cli.proofs.Printing.{begun, ends_beyond, ends_refused}
use Rattle.dwexpr_cli.proofs.program.evaluate.Goals as goal

pub print_end-requires : goal.print_end-requires
print_end-requires g c = has_line slice_text (λ x. x) _ _ _ _ _ _ c.requires.few c.replay-replayed.ensures.replays

pub returns-in_err-print_replies : goal.returns-in_err-print_replies
returns-in_err-print_replies g c =
    let replies = replies_in slice_text (λ x. x) c.as_slice.result.now in
    let ending = ending_of c.replay-replayed.new.eval c.replay-replayed.result in (
      after_replies replies ending,
      rw (c.as_slice.ensures.value, ← c.new-text.ensures.bytes, ← c.new-text.ensures.order)
          (evaluates_fresh slice_text (λ x. x) _ _ _ _ _ _ _ _ c.new-evaluation.ensures c.replay-replayed.ensures.replays),
      ends_refused (after_replies replies ending) (reply_lines replies) ending.text _ (begun _ _) refl c.in_err-print_replies.ensures c.from_residual.ensures,
    )

pub returns : goal.returns
returns g c =
    let replies = replies_in slice_text (λ x. x) c.as_slice.result.now in
    let ending = ending_of c.replay-replayed.new.eval c.replay-replayed.result in (
      after_replies replies ending,
      rw (c.as_slice.ensures.value, ← c.new-text.ensures.bytes, ← c.new-text.ensures.order)
          (evaluates_fresh slice_text (λ x. x) _ _ _ _ _ _ _ _ c.new-evaluation.ensures c.replay-replayed.ensures.replays),
      ends_beyond _ _ _ (reply_lines replies) ending _ c.in_ok-print_replies.ensures c.print_end.ensures,
    )
