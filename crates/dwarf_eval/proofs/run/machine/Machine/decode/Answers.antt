use Rattle.std.proofs.Common.{◌≡◌, ◌-◌, List, ℕ, Result, Ok, Err, IfOk, length, rules}
use Rattle.dwarf_base.specs.declared.errors.Error.{Error}
use Rattle.dwarf_meaning.specs.Operations.{Operation}
use Rattle.dwarf_meaning.specs.Rest.{State}
use Rattle.dwarf_meaning.specs.Run.{read}
use Rattle.dwarf_op.specs.Views.{operation_of}
use Rattle.dwarf_eval.specs.inner.StateChanges.{ReadsOperation, read_to}
use Rattle.dwarf_eval.proofs.run.machine.Machine.decode.Goals as goal

read_ok : {O : Type 0} (view : O → Operation) (result : Result O Error) (old new : State) (beyond : List ℕ) → IfOk result (λ o. read old.setup old.text old.place ≡ Ok (view o, beyond)) → new ≡ read_to (length old.text.bytes - length beyond) old → IfOk result (λ o. ReadsOperation (view o) old new)
read_ok view (Ok o) old new beyond was moved = record { beyond = beyond; was = was; moved = moved }
read_ok view (Err e) old new beyond was moved = tt

pub returns-clause-ok : goal.returns-clause-ok
returns-clause-ok g c =
    let x = c.args.self.now in
    let beyond = (g.R.Reader.text c.parse.new.bytes).bytes in
    let was : IfOk c.parse.result (λ o. read x.setup x.text x.place ≡ Ok (operation_of g.R.Reader.text g.R.Offset.ReaderOffset.number o, beyond)) = search rules in
    read_ok (operation_of g.R.Reader.text g.R.Offset.ReaderOffset.number) c.parse.result x _ beyond was (search rules)
