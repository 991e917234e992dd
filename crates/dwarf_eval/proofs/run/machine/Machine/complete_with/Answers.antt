use Rattle.dwarf_eval.proofs.Finishing.{completes_ok}
use Rattle.dwarf_eval.proofs.run.machine.Machine.complete_with.Goals as goal

pub returns-then-push_piece : goal.returns-then-push_piece
returns-then-push_piece g c = completes_ok c.args.value _ c.args.self.now c.push_piece.new.self c.complete.new.self (rw c.if-push_piece.true at c.push_piece.ensures) c.complete.ensures
