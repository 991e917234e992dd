use Rattle.dwarf_base.specs.EndianSlice.{slice_text}
use Rattle.dwexpr_cli.specs.inner.Outputs.{ending_of}
use Rattle.dwexpr_cli.proofs.Ending.{at_most, ending_at_most, has_line}
use Rattle.dwexpr_cli.proofs.program.print_verdict.Goals as goal

pub print_end-requires : goal.print_end-requires
print_end-requires g c = has_line slice_text (λ x. x) _ _ _ _ _ _ c.requires.few c.replay-replayed.ensures.replays

pub returns : goal.returns
returns g c =
    at_most _ _ (ending_of c.replay-replayed.new.eval c.replay-replayed.result) _
    (ending_at_most c.replay-replayed.new.eval c.replay-replayed.result) c.print_end.ensures
