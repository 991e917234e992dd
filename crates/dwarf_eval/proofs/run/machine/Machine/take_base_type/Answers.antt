use Rattle.std.proofs.Common.{ap, refl, subst, sym, Result, Ok, Err, ◌∙◌}
use Rattle.dwarf_base.specs.declared.errors.Error.{Error}
use Rattle.dwarf_base.specs.Faults.{Returns}
use Rattle.dwarf_base.specs.Reads.{Text}
use Rattle.dwarf_value.specs.declared.types.Value.{Value}
use Rattle.dwarf_value.specs.declared.types.ValueType.{ValueType}
use Rattle.dwarf_value.specs.Values.{parse_of, convert_of, reinterpret_of, width_of}
use Rattle.dwarf_meaning.specs.Requests.{OnAnswer, Parse, Convert, Reinterpret, BaseTypeAnswer}
use Rattle.dwarf_meaning.specs.Acts.{FaultUse, PushesAnswer, Use, use_of}
use Rattle.dwarf_meaning.specs.Rest.{State}
use Rattle.dwarf_meaning.specs.Stores.{address_bits}
use Rattle.dwarf_meaning.proofs.Choices.{answer_ok, answer_err, fault_of_twice}
use Rattle.dwarf_eval.specs.inner.Answers.{IsWaiting}
use Rattle.dwarf_eval.specs.inner.Machine.{on_answer_of}
use Rattle.dwarf_eval.specs.inner.StateChanges.{ComesToState, PushesAsAnswer, TakesAnswer, total_used}
use Rattle.dwarf_eval.proofs.AnswerUses.{answer_used, reinterpreted}
use Rattle.dwarf_eval.proofs.Staying.{stays_here}
use Rattle.dwarf_eval.proofs.Resuming.{denies, turns, turns_none, value_takes}
use Rattle.dwarf_eval.proofs.run.machine.Machine.take_base_type.Goals as goal

module _ (x new : State) (waits : IsWaiting x.status) (base_type : ValueType) (text : Text) where
  parsed : (r : Result Value Error) → Returns (λ v. v) r (parse_of base_type text.is_big text.bytes) → PushesAsAnswer r x new → TakesAnswer (Parse text) (BaseTypeAnswer base_type) x new
  unfolding use_of
  parsed (Ok v) is h =
      value_takes x waits (Parse text) (BaseTypeAnswer base_type) x.store.values v
      (answer_ok _ FaultUse (PushesAnswer x.store.values) v is) x new refl h
  parsed (Err error) is h =
      denies x waits (Parse text) (BaseTypeAnswer base_type) error x new
      (answer_err _ FaultUse (PushesAnswer x.store.values) _ is ∙ ap FaultUse (fault_of_twice _)) (stays_here x) h

pub returns-in-TypedLiteral : goal.returns-in-TypedLiteral
returns-in-TypedLiteral g c = λ request on_answer open_now.
    let text = g.R.Reader.text in
    let number = g.R.Offset.ReaderOffset.number in
    let x = c.args.self.now in
    let used = answer_used text number x.status c.state.result.now c.in-Waiting.waiting request on_answer c.state.ensures c.in-Waiting.is open_now in
    subst (λ (o : OnAnswer). TakesAnswer o (BaseTypeAnswer c.args.base_type) x c.push_answer.new.self) (sym (ap (on_answer_of text number) c.in-TypedLiteral.is) ∙ used)
    (parsed x c.push_answer.new.self c.requires c.args.base_type (text c.in-TypedLiteral.value) c.parse-parsed.result (rw c.copy_of.ensures at c.parse-parsed.ensures) c.push_answer.ensures)

pub returns-in_default-pop : goal.returns-in_default-pop
unfolding use_of
returns-in_default-pop g c = λ request on_answer open_now.
    let text = g.R.Reader.text in
    let number = g.R.Offset.ReaderOffset.number in
    let x = c.args.self.now in
    let used = answer_used text number x.status c.state.result.now c.in-Waiting.waiting request on_answer c.state.ensures c.in-Waiting.is open_now in
    subst (λ (o : OnAnswer). TakesAnswer o (BaseTypeAnswer c.args.base_type) x c.pop.new.self) (sym (ap (on_answer_of text number) c.in-Convert.is) ∙ used)
    (turns_none x c.requires Convert c.args.base_type convert_of refl x c.pop.new.self c.in_default-pop.ensures)

pub returns-in-Some : goal.returns-in-Some
unfolding use_of
returns-in-Some g c = λ request on_answer open_now.
    let text = g.R.Reader.text in
    let number = g.R.Offset.ReaderOffset.number in
    let x = c.args.self.now in
    let new = c.push_answer-in-Convert.new.self in
    let used = answer_used text number x.status c.state.result.now c.in-Waiting.waiting request on_answer c.state.ensures c.in-Waiting.is open_now in
    subst (λ (o : OnAnswer). TakesAnswer o (BaseTypeAnswer c.args.base_type) x new) (sym (ap (on_answer_of text number) c.in-Convert.is) ∙ used)
    (turns x c.requires Convert c.args.base_type convert_of refl c.pop.new.self new
    c.in-Some.value (width_of c.addr_mask.result) c.in-Some.ensures c.addr_mask.ensures.width c.convert.result c.convert.ensures c.push_answer-in-Convert.ensures)

pub returns-in_default-pop-2 : goal.returns-in_default-pop-2
unfolding use_of
returns-in_default-pop-2 g c = λ request on_answer open_now.
    let text = g.R.Reader.text in
    let number = g.R.Offset.ReaderOffset.number in
    let x = c.args.self.now in
    let new = c.pop-in_default-waiting.new.self in
    let used = answer_used text number x.status c.state.result.now c.in-Waiting.waiting request on_answer c.state.ensures c.in-Waiting.is open_now in
    subst (λ (o : OnAnswer). TakesAnswer o (BaseTypeAnswer c.args.base_type) x new) used
    (subst (λ (u : Use). ComesToState x (total_used x u) new)
    (sym (reinterpreted (address_bits x.setup) x.store.values text number c.args.base_type c.in-Waiting.waiting c.in_default-waiting.not-TypedLiteral c.in_default-waiting.not-Convert))
    (turns_none x c.requires Reinterpret c.args.base_type reinterpret_of refl x new c.in_default-pop-2.ensures))

pub returns-in-Some-pop : goal.returns-in-Some-pop
unfolding use_of
returns-in-Some-pop g c = λ request on_answer open_now.
    let text = g.R.Reader.text in
    let number = g.R.Offset.ReaderOffset.number in
    let x = c.args.self.now in
    let new = c.push_answer-in_default-waiting.new.self in
    let used = answer_used text number x.status c.state.result.now c.in-Waiting.waiting request on_answer c.state.ensures c.in-Waiting.is open_now in
    subst (λ (o : OnAnswer). TakesAnswer o (BaseTypeAnswer c.args.base_type) x new) used
    (subst (λ (u : Use). ComesToState x (total_used x u) new)
    (sym (reinterpreted (address_bits x.setup) x.store.values text number c.args.base_type c.in-Waiting.waiting c.in_default-waiting.not-TypedLiteral c.in_default-waiting.not-Convert))
    (turns x c.requires Reinterpret c.args.base_type reinterpret_of refl c.pop-in_default-waiting.new.self new
    c.in-Some-pop.value (width_of c.addr_mask-in_default-waiting.result) c.in-Some-pop.ensures c.addr_mask-in_default-waiting.ensures.width c.reinterpret.result c.reinterpret.ensures c.push_answer-in_default-waiting.ensures))
