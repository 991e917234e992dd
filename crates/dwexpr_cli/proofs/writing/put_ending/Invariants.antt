use Rattle.std.proofs.Common.{map, drop}
use Rattle.dwexpr_cli.specs.Writing.{ending}
use Rattle.dwexpr_cli.specs.inner.Outputs.{word_text}
use Rattle.dwexpr_cli.proofs.Printing.{Written}
use Rattle.dwexpr_cli.proofs.writing.put_ending.Given as goal

abbrev pub invariant-loop-word : goal.invariant-loop-word
invariant-loop-word g l =
    Written (g.W.Write.contents l.fn.output) (g.W.Write.contents l.output) (ending (map word_text l.fn.words))
    (ending (map word_text (drop l.word-index l.fn.words)))
