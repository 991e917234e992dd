use Rattle.dwarf_expr.proofs.Inlined.{inlined_replays, may_inline}
use Rattle.dwarf_expr.proofs.laws.inlined_replay.Goals as goal

pub returns : goal.returns
returns c = record { ends = inlined_replays; met = may_inline }
