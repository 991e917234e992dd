use Rattle.std.proofs.Common.{◌≡◌, bytes_eq, drop, map}
use Rattle.std.specs.Map.{lookup}
use Rattle.dwexpr_cli.specs.StepLines.{answer_kind_in}
use Rattle.dwexpr_cli.proofs.steps.kind_of.Given as goal

abbrev pub invariant-loop-known : goal.invariant-loop-known
invariant-loop-known l =
    answer_kind_in l.fn.name
    ≡ lookup (bytes_eq l.fn.name) (map (λ row. (row.0.now, row.2)) (drop l.known-index l.known-items))
