use Rattle.std.proofs.Common.{ℕ, ℤ, ◌≡◌, Result, Ok, Err, ◌∙◌, ap, refl, rules, subst, sym, w64}
use mir.Val.{SFits}
use Rattle.dwarf_base.specs.declared.errors.Error.{Error}
use Rattle.dwarf_base.specs.Numbers.{residue}
use Rattle.dwarf_value.specs.declared.types.Value.{Value}
use Rattle.dwarf_value.specs.Values.{from_u64_of, type_of, binary_of, Plus}
use Rattle.dwarf_meaning.specs.declared.kinds.WaitingKind.{WaitingKind}
use Rattle.dwarf_meaning.specs.Requests.{OnAnswer, Add, ValueAnswer}
use Rattle.dwarf_meaning.specs.Stores.{address_bits}
use Rattle.dwarf_meaning.specs.Acts.{FaultUse, PushesAnswer, use_of}
use Rattle.dwarf_meaning.specs.Rest.{State}
use Rattle.dwarf_meaning.proofs.Choices.{answer_ok, answer_err}
use Rattle.dwarf_eval.specs.inner.Answers.{IsWaiting}
use Rattle.dwarf_eval.specs.inner.StateChanges.{PushesAsAnswer, TakesAnswer}
use Rattle.dwarf_eval.proofs.AnswerUses.{adds, offset_is, plain}
use Rattle.dwarf_eval.proofs.MachineNumbers.{passed-residue}
use Rattle.dwarf_eval.proofs.Resuming.{denies, value_takes}
use Rattle.dwarf_eval.proofs.Staying.{stays_here}
use Rattle.dwarf_eval.proofs.run.machine.Machine.take_value.Goals as goal

module _ (x new : State) (waits : IsWaiting x.status) (kind : WaitingKind) (value : Value) (offset : ℤ) where
  -- the sum with the offset, in the value's type
  abbrev sum_with : ℕ → Result Value Error
  sum_with n = binary_of Plus (address_bits x.setup) value (from_u64_of (type_of value) n)

  summed : (r : Result Value Error) (n : ℕ) → n ≡ residue 64 offset → r ≡ sum_with n → PushesAsAnswer r x new → TakesAnswer (Add offset) (ValueAnswer kind value) x new
  unfolding use_of
  summed (Ok sum) n same e h =
      value_takes x waits (Add offset) (ValueAnswer kind value) x.store.values sum
      (answer_ok _ FaultUse (PushesAnswer x.store.values) sum (ap sum_with (sym same) ∙ sym e)) x new refl h
  summed (Err error) n same e h =
      denies x waits (Add offset) (ValueAnswer kind value) error x new
      (answer_err _ FaultUse (PushesAnswer x.store.values) error (ap sum_with (sym same) ∙ sym e)) (stays_here x) h

pub returns-in-Some : goal.returns-in-Some
returns-in-Some g c = λ kind request on_answer open_now.
    let x : State = c.args.self.now in
    let fits : SFits w64 c.in-Some.offset = search rules in
    subst (λ (o : OnAnswer). TakesAnswer o (ValueAnswer kind c.args.value) x c.push_answer.new.self)
    (sym (adds on_answer c.in-Some.offset (offset_is x.status request on_answer c.offset.result c.offset.ensures open_now ∙ c.in-Some.is)))
    (summed x c.push_answer.new.self c.requires kind c.args.value _ c.sum.result c.cast_unsigned.result
    (passed-residue _ c.cast_unsigned.result fits c.cast_unsigned.ensures) c.sum.ensures c.push_answer.ensures)

pub returns-in-None : goal.returns-in-None
returns-in-None g c = λ kind request on_answer open_now.
    let x : State = c.args.self.now in
    value_takes x c.requires on_answer (ValueAnswer kind c.args.value) x.store.values c.args.value
    (plain _ x.store.values kind c.args.value 0 on_answer (offset_is x.status request on_answer c.offset.result c.offset.ensures open_now ∙ c.in-None.is)).0
    x c.push_answer-in-None.new.self refl c.push_answer-in-None.ensures
