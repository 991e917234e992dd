use Rattle.std.proofs.Common.{◌∙◌, ◌++◌, ◌-◌, ap, arith, drop, length, length-drop, sym, take, take-append-drop, take_all}
use Rattle.std.proofs.KnownBytes.{Appends-kept}
use Rattle.dwexpr_cli.proofs.Printing.{begun, more_of}
use Rattle.dwexpr_cli.proofs.writing.put.Goals as goal
use Rattle.dwexpr_cli.proofs.writing.put.Goals.{in-Ok, in-Err+else-ne}

pub loop-init : goal.loop-init
loop-init g c = begun (g.W.Write.contents c.args.output.now) c.args.bytes.now

pub loop-preserved : goal.loop-preserved
loop-preserved g c = elim c.match-write.branch [
  | in-Ok w ↦
      let left = c.loop.left.now in
      let taken = w.in-Ok.taken in
      let rest = ap (λ s. s.now) w.left-is ∙ take_all (length left - taken) (drop taken left) (omega (arith, length-drop taken left)) in
      more_of (take taken left) c.match-write.left.now c.loop.invariant (sym (take-append-drop taken left) ∙ ap (λ z. take taken left ++ z) (sym rest))
      w.in-Ok.ensures.bytes
  | in-Err+else-ne w ↦ let before = c.loop.invariant in record {
    done = before.done;
    whole = rw w.left-is before.whole;
    written = Appends-kept _ _ _ before.done before.written w.in-Err.ensures.bytes;
  }
]
