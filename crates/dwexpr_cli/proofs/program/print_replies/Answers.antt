use Rattle.std.proofs.lemmas.List.{at_drop_more}
use Rattle.dwarf_base.specs.EndianSlice.{slice_text}
use Rattle.dwarf_replay.specs.Replays.{replies_in}
use Rattle.dwexpr_cli.specs.Lines.{reply_lines}
use Rattle.dwexpr_cli.proofs.Printing.{more_of, refused_in}
use Rattle.dwexpr_cli.proofs.program.print_replies.Goals as goal

pub returns-in_err-print_reply : goal.returns-in_err-print_reply
returns-in_err-print_reply g c =
    refused_in _ _ _ c.loop-answer.invariant (at_drop_more (λ answers. reply_lines (replies_in slice_text (λ x. x) answers)) c.args.answers.now c.loop-answer.answer-index _ c.loop-answer-test.true)
    c.in_err-print_reply.ensures c.from_residual.ensures

pub loop-answer-preserved : goal.loop-answer-preserved
loop-answer-preserved g c =
    more_of _ _ c.loop-answer.invariant (at_drop_more (λ answers. reply_lines (replies_in slice_text (λ x. x) answers)) c.args.answers.now c.loop-answer.answer-index _ c.loop-answer-test.true)
    c.in_ok-print_reply.ensures
