use Rattle.std.proofs.Common.{sym, ap, ◌∙◌, ℕ, ◌≡◌, ◌==◌, true, false, List, [], ◌∷◌, length, refl, arith}
use Rattle.dwarf_meaning.specs.Requests.{LocationAnswer}
use Rattle.dwarf_meaning.specs.Stores.{Called}
use Rattle.dwarf_eval.specs.inner.StateChanges.{with_last}
use Rattle.dwarf_meaning.specs.Acts.{use_of}
use Rattle.dwarf_eval.proofs.Resuming.{empty_takes, text_takes}
use Rattle.std.proofs.lemmas.Bool.Decides.{nat_tests}
use Rattle.dwarf_eval.proofs.run.machine.Machine.take_location.Goals as goal

no_bytes : (bytes : List ℕ) → (length bytes == 0) ≡ true → bytes ≡ []
no_bytes [] h = refl
no_bytes (byte ∷ bytes) h = absurd (grind (arith, nat_tests))

some_bytes : (bytes : List ℕ) → (length bytes == 0) ≡ false → (byte : ℕ) × (rest : List ℕ) × (bytes ≡ byte ∷ rest)
some_bytes [] h = cc
some_bytes (byte ∷ bytes) h = (byte, bytes, refl)

pub returns-then-is_empty : goal.returns-then-is_empty
unfolding use_of
returns-then-is_empty g c = λ request on_answer open_now.
    let x = c.args.self.now in
    let text = g.R.Reader.text c.args.callee in
    empty_takes x c.requires on_answer (LocationAnswer text) text c.mark.new.self refl
    (no_bytes text.bytes (sym c.is_empty.ensures ∙ c.if-is_empty.true)) (c.mark.ensures ∙ ap (with_last Called) c.set_running.ensures)

pub returns : goal.returns
unfolding use_of
returns g c = λ request on_answer open_now.
    let x = c.args.self.now in
    let text = g.R.Reader.text c.args.callee in
    let some = some_bytes text.bytes (sym c.is_empty.ensures ∙ c.if-is_empty.false) in
    text_takes x c.requires on_answer (LocationAnswer text) text some.0 some.1 refl some.2
    c.set_running.new.self c.push_caller.new.self c.push_caller.result c.set_running.ensures c.push_caller.ensures
