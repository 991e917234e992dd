use Rattle.std.proofs.Common.{arith}
use Rattle.dwexpr_cli.specs.Endings.{no_memory}
use Rattle.dwexpr_cli.proofs.Ending.{at_most}
use Rattle.dwexpr_cli.proofs.program.trace.Goals as goal

pub returns-in-Err-NoMemory : goal.returns-in-Err-NoMemory
returns-in-Err-NoMemory g c = at_most _ _ no_memory _ (omega arith) c.no_memory.ensures
