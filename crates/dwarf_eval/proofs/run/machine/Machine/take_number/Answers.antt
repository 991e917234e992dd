use Rattle.std.proofs.Common.{ℕ, ℤ, ◌≡◌, ◌+◌, ◌%◌, ◌^◌, Ok, ◌∙◌, ap, refl, rules, subst, sym, w64}
use mir.Val.{SFits}
use Rattle.dwarf_base.specs.Numbers.{residue}
use Rattle.dwarf_value.specs.declared.types.Value.TheVariants.{Generic}
use Rattle.dwarf_meaning.specs.declared.kinds.WaitingKind.{WaitingKind}
use Rattle.dwarf_meaning.specs.Requests.{OnAnswer, Add, NumberAnswer}
use Rattle.dwarf_meaning.specs.Acts.{PushesAnswer, use_of}
use Rattle.dwarf_meaning.specs.Rest.{State}
use Rattle.dwarf_eval.specs.inner.Answers.{IsWaiting}
use Rattle.dwarf_eval.specs.inner.StateChanges.{PushesAsAnswer, TakesAnswer}
use Rattle.dwarf_eval.proofs.AnswerUses.{adds, offset_is, plain}
use Rattle.dwarf_eval.proofs.MachineNumbers.{passed-residue, residue-add}
use Rattle.dwarf_eval.proofs.Resuming.{value_takes}
use Rattle.dwarf_eval.proofs.run.machine.Machine.take_number.Goals as goal
use Rattle.dwarf_eval.proofs.run.machine.Machine.take_number.Goals.{in-Some, in-None}

summed : (x new : State) → IsWaiting x.status → (kind : WaitingKind) (number n : ℕ) (offset : ℤ) → n ≡ residue 64 offset → PushesAsAnswer (Ok (Generic ((number + n) % 2 ^ 64))) x new → TakesAnswer (Add offset) (NumberAnswer kind number) x new
unfolding use_of
summed x new waits kind number n offset same h =
    value_takes x waits (Add offset) (NumberAnswer kind number) x.store.values (Generic ((number + n) % 2 ^ 64))
    (ap (λ (m : ℕ). PushesAnswer x.store.values (Generic m)) (sym (ap (λ (m : ℕ). (number + m) % 2 ^ 64) same ∙ residue-add 64 number offset))) x new refl h

pub returns : goal.returns
returns g c = λ kind request on_answer open_now.
    let x : State = c.args.self.now in
    let new : State = c.push_answer.new.self in
    let offset = offset_is x.status request on_answer c.offset.result c.offset.ensures open_now in
    elim c.match-offset.branch [
      | in-Some w ↦
          let fits : SFits w64 w.in-Some.offset = search rules in
          subst (λ (o : OnAnswer). TakesAnswer o (NumberAnswer kind c.args.number) x new) (sym (adds on_answer w.in-Some.offset (offset ∙ w.in-Some.is)))
          (summed x new c.requires kind c.args.number w.cast_unsigned.result _ (passed-residue _ w.cast_unsigned.result fits w.cast_unsigned.ensures)
          (subst (λ (n : ℕ). PushesAsAnswer (Ok (Generic n)) x new) w.sum-is c.push_answer.ensures))
      | in-None w ↦
          value_takes x c.requires on_answer (NumberAnswer kind c.args.number) x.store.values (Generic c.args.number)
          (plain _ x.store.values kind (Generic 0) c.args.number on_answer (offset ∙ w.in-None.is)).1 x new refl
          (subst (λ (n : ℕ). PushesAsAnswer (Ok (Generic n)) x new) w.sum-is c.push_answer.ensures)
    ]
