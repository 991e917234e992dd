use Rattle.dwarf_op.proofs.EqualOperations.{equal_operations}
use Rattle.dwarf_op.proofs.equality.operation_equality_laws.Goals as goal

pub returns : goal.returns
returns g c = equal_operations g.row.R g.row.O g.R.PartialEq g.R.PartialEq-dict g.O.PartialEq g.O.PartialEq-dict
