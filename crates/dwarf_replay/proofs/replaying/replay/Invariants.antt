use Rattle.std.proofs.Common.{◌≡◌, ◌≤◌, ◌-◌, length, take}
use Rattle.dwarf_replay.specs.Replays.{replies_in, steps_of}
use Rattle.dwarf_replay.proofs.Standings.{Went}
use Rattle.dwarf_replay.proofs.replaying.replay.Given as goal

-- the steps before this one came to the evaluation and the answers as they are
abbrev pub invariant-loop-index : goal.invariant-loop-index
invariant-loop-index g l =
    let text = g.R.Reader.text in
    Went l.fn.eval (take l.index (steps_of text l.fn.steps)) (replies_in text g.R.Offset.ReaderOffset.number (g.L.ArrayLike.items l.answers)) l.eval
    × (l.index ≤ length l.fn.steps)
    × (g.L.ArrayLike.limit l.answers ≡ g.L.ArrayLike.limit l.fn.answers)

abbrev pub decreases-loop-index : goal.decreases-loop-index
decreases-loop-index g l = length l.fn.steps - l.index
