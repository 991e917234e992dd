-- Calls on one value and on two: what they pop and push.
use Rattle.std.proofs.Common.{ℕ, ◌≡◌, List, Result, Ok, Err, Some, ap, ◌∙◌, sym}
use Rattle.dwarf_base.specs.declared.errors.Error.{Error}
use Rattle.dwarf_value.specs.declared.types.Value.{Value}
use Rattle.dwarf_meaning.specs.Acts.{FaultAct, on_result, push, unary, binary}
use Rattle.dwarf_meaning.specs.Stores.{Plain, address_bits, push_value}
use Rattle.dwarf_meaning.specs.Rest.{State, Running, FaultStatus}
use Rattle.dwarf_eval.specs.inner.StateChanges.{Pops, HasTriedChange, PushesComputed, Performs, with_values}
use Rattle.dwarf_meaning.specs.Inputs.{with_status}
use Rattle.dwarf_eval.proofs.Performances.{PopsTwo, performs_error, performs_popped, performs_result, performs_two}

-- the width of the mask that the machine gives, once values were popped
pub width_old : (width : ℕ) (rest : List Value) (old mid : State) → mid ≡ with_values rest old → width ≡ address_bits mid.setup → width ≡ address_bits old.setup
width_old width rest old mid e f = f ∙ ap (λ (z : State). address_bits z.setup) e

module _ (F : ℕ → Value → Result Value Error) (old mid : State) (x : Value) (width : ℕ) (pops : Pops (Some x) old mid) (is : width ≡ address_bits mid.setup) where
  call_is : (r : Result Value Error) → r ≡ F width x → F (address_bits old.setup) x ≡ r
  call_is r e = ap (λ (w : ℕ). F w x) (sym (width_old width pops.0 old mid pops.2 is)) ∙ sym e

  unary_pushes : (new : State) (v : Value) → old.status ≡ Running → Ok v ≡ F width x → HasTriedChange 0 (λ s. push_value mid.setup v (record s { last = Plain })) mid new → Performs (unary (F (address_bits old.setup)) old.store.values) old new
  unary_pushes new v runs e h =
      performs_popped _ x old mid new pops (performs_result _ v mid new (ap (λ (z : State). z.status) pops.2 ∙ runs) (call_is (Ok v) e) h)

  unary_refuses : (error : Error) (new : State) → Err error ≡ F width x → new ≡ with_status (FaultStatus error) mid → Performs (unary (F (address_bits old.setup)) old.store.values) old new
  unary_refuses error new e failed = performs_popped _ x old mid new pops (performs_error _ error mid new (call_is (Err error) e) failed)

  pub unary_computes : (new : State) (r : Result Value Error) → old.status ≡ Running → r ≡ F width x → PushesComputed r mid new → Performs (unary (F (address_bits old.setup)) old.store.values) old new
  unary_computes new (Ok v) runs e h = unary_pushes new v runs e h
  unary_computes new (Err error) runs e h = unary_refuses error new e h

-- the values on top, and a call on both
module _ (F : ℕ → Value → Value → Result Value Error) (old mid : State) (y x : Value) (width : ℕ) (pops : PopsTwo y x old mid) (is : width ≡ address_bits mid.setup) where
  call_two : (r : Result Value Error) → r ≡ F width x y → F (address_bits old.setup) x y ≡ r
  call_two r e = ap (λ (w : ℕ). F w x y) (sym (width_old width pops.rest old mid pops.alone is)) ∙ sym e

  binary_pushes : (new : State) (v : Value) → old.status ≡ Running → Ok v ≡ F width x y → HasTriedChange 0 (λ s. push_value mid.setup v (record s { last = Plain })) mid new → Performs (binary (F (address_bits old.setup)) old.store.values) old new
  binary_pushes new v runs e h =
      performs_two (λ y x rest. on_result (F (address_bits old.setup) x y) FaultAct (push rest)) y x old mid new pops
      (performs_result _ v mid new (ap (λ (z : State). z.status) pops.alone ∙ runs) (call_two (Ok v) e) h)

  binary_refuses : (error : Error) (new : State) → Err error ≡ F width x y → new ≡ with_status (FaultStatus error) mid → Performs (binary (F (address_bits old.setup)) old.store.values) old new
  binary_refuses error new e failed =
      performs_two (λ y x rest. on_result (F (address_bits old.setup) x y) FaultAct (push rest)) y x old mid new pops
      (performs_error _ error mid new (call_two (Err error) e) failed)

  pub binary_computes : (new : State) (r : Result Value Error) → old.status ≡ Running → r ≡ F width x y → PushesComputed r mid new → Performs (binary (F (address_bits old.setup)) old.store.values) old new
  binary_computes new (Ok v) runs e h = binary_pushes new v runs e h
  binary_computes new (Err error) runs e h = binary_refuses error new e h
