use Rattle.dwexpr_cli.proofs.Printing.{Written}
use Rattle.dwexpr_cli.proofs.writing.put.Given as goal

abbrev pub invariant-loop : goal.invariant-loop
invariant-loop g l = Written (g.W.Write.contents l.fn.output) (g.W.Write.contents l.output) l.fn.bytes l.left
