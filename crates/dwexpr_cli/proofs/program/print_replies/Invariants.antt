use Rattle.std.proofs.Common.{drop}
use Rattle.dwarf_base.specs.EndianSlice.{slice_text}
use Rattle.dwarf_replay.specs.Replays.{replies_in}
use Rattle.dwexpr_cli.specs.Lines.{reply_lines}
use Rattle.dwexpr_cli.proofs.Printing.{Written}
use Rattle.dwexpr_cli.proofs.program.print_replies.Given as goal

abbrev pub invariant-loop-answer : goal.invariant-loop-answer
invariant-loop-answer g l =
    Written (g.W.Write.contents l.fn.output) (g.W.Write.contents l.output) (reply_lines (replies_in slice_text (λ x. x) l.fn.answers))
    (reply_lines (replies_in slice_text (λ x. x) (drop l.answer-index l.fn.answers)))
