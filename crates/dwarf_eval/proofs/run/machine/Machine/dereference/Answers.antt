use Rattle.std.proofs.Common.{ℕ, ◌≡◌, ◌<◌, ◌≤◌, ◌*◌, Bool, true, false, List, Option, Some, None, ap, ◌∙◌, sym, refl, subst, arith, nat_lt, cond}
use Rattle.std.proofs.lemmas.Bool.{cond-true, cond-false}
use Rattle.std.proofs.lemmas.Bool.Decides.{nat_tests}
use Rattle.dwarf_base.specs.declared.errors.Error.TheVariants as error
use Rattle.dwarf_base.specs.declared.errors.Error.TheVariants.{InvalidDerefSize}
use Rattle.dwarf_value.specs.declared.types.Value.{Value}
use Rattle.dwarf_value.specs.Values.{to_u64_of}
use Rattle.dwarf_meaning.specs.Operations as operation
use Rattle.dwarf_meaning.specs.Requests.{RequiresMemory, Push}
use Rattle.dwarf_meaning.specs.Acts.{Act, RequestAct, FaultAct, act, on_top, underflow}
use Rattle.dwarf_meaning.specs.Stores.{address_bits}
use Rattle.dwarf_meaning.specs.Rest.{State, RequestStatus}
use Rattle.dwarf_meaning.specs.Inputs.{with_status}
use Rattle.dwarf_eval.specs.inner.StateChanges.{Performs, act_of}
use Rattle.dwarf_eval.proofs.Performances.{performs_as, performs_asks, performs_number, performs_refuses, underflows}
use Rattle.dwarf_eval.proofs.Staying.{stays_here}
use Rattle.dwarf_eval.proofs.run.machine.Machine.dereference.Goals as goal
use Rattle.dwarf_eval.proofs.run.machine.Machine.dereference.Goals.{then-has_space+in-Some-pop_number, else-has_space}

-- with this address, by whether a space is named
abbrev at_address : (bits base_type size : ℕ) → Bool → ℕ → List Value → Act
at_address bits base_type size false address rest = RequestAct rest (RequiresMemory address size None base_type) Push
at_address bits base_type size true address below = on_top below underflow (λ y rest. RequestAct rest (RequiresMemory address size (Some (to_u64_of bits y)) base_type) Push)

module _ (base_type size : ℕ) (old : State) where
  abbrev bits : ℕ
  bits = address_bits old.setup

  abbrev narrow : Bool → Act
  narrow space = on_top old.store.values underflow (λ x rest. at_address bits base_type size space (to_u64_of bits x) rest)

  deref_is : (space : Bool) → act_of old (operation.Deref base_type size space) ≡ cond (nat_lt bits (8 * size)) (FaultAct (InvalidDerefSize size)) (narrow space)
  unfolding act
  deref_is false = refl
  deref_is true = refl

  wide_is : (space : Bool) → old.setup.encoding.address_size < size → act_of old (operation.Deref base_type size space) ≡ FaultAct (InvalidDerefSize size)
  wide_is space h = deref_is space ∙ cond-true (nat_lt bits (8 * size)) (FaultAct (InvalidDerefSize size)) (narrow space) (grind (arith, nat_tests))

  -- the address is popped first
  narrow_as : (space : Bool) (new : State) → size ≤ old.setup.encoding.address_size → Performs (narrow space) old new → Performs (act_of old (operation.Deref base_type size space)) old new
  narrow_as space new h performs =
      performs_as _ _ old new (deref_is space ∙ cond-false (nat_lt bits (8 * size)) (FaultAct (InvalidDerefSize size)) (narrow space) (grind (arith, nat_tests))) performs

-- the request of a state and a space that stand for these
asked : (base_type size address : ℕ) (space is : Option ℕ) (joined mid new : State) → joined ≡ mid → space ≡ is → new ≡ with_status (RequestStatus (RequiresMemory address size space base_type) Push) joined → Performs (RequestAct mid.store.values (RequiresMemory address size is base_type) Push) mid new
asked base_type size address space is joined mid new e f h =
    performs_asks (RequiresMemory address size is base_type) Push mid new
    (h ∙ (ap (λ (s : Option ℕ). with_status (RequestStatus (RequiresMemory address size s base_type) Push) joined) f ∙ ap (with_status (RequestStatus (RequiresMemory address size is base_type) Push)) e))

pub returns-then-size-address_size : goal.returns-then-size-address_size
returns-then-size-address_size g c =
    performs_refuses _ (error.InvalidDerefSize c.args.size) c.args.self.now c.args.self.now c.fail.new.self
    (wide_is (g.R.Offset.ReaderOffset.number c.args.base_type.0) c.args.size c.args.self.now c.args.has_space (omega (arith, c.address_size.ensures, c.if-size-address_size.true))) (stays_here c.args.self.now) c.fail.ensures

pub returns-in_default : goal.returns-in_default
returns-in_default g c =
    narrow_as _ c.args.size c.args.self.now c.args.has_space c.pop_number.new.self (omega (arith, c.address_size.ensures, c.if-size-address_size.false))
    (underflows _ c.args.self.now c.pop_number.new.self c.in_default.ensures)

pub returns-in_default-pop_number : goal.returns-in_default-pop_number
returns-in_default-pop_number g c =
    let base_type = g.R.Offset.ReaderOffset.number c.args.base_type.0 in
    let old : State = c.args.self.now in
    let mid : State = c.pop_number.new.self in
    let new : State = c.pop_number-then-has_space.new.self in
    narrow_as base_type c.args.size old c.args.has_space new (omega (arith, c.address_size.ensures, c.if-size-address_size.false))
    (performs_number _ (at_address (address_bits old.setup) base_type c.args.size c.args.has_space) c.in-Some.address old mid new refl c.in-Some.ensures
    (subst (λ (space : Bool). Performs (at_address (address_bits old.setup) base_type c.args.size space c.in-Some.address mid.store.values) mid new) (sym c.if-has_space.true)
    (underflows _ mid new c.in_default-pop_number.ensures)))

pub returns : goal.returns
returns g c =
    let base_type = g.R.Offset.ReaderOffset.number c.args.base_type.0 in
    let old : State = c.args.self.now in
    let mid : State = c.pop_number.new.self in
    let new : State = c.ask.new.self in
    narrow_as base_type c.args.size old c.args.has_space new (omega (arith, c.address_size.ensures, c.if-size-address_size.false))
    (performs_number _ (at_address (address_bits old.setup) base_type c.args.size c.args.has_space) c.in-Some.address old mid new refl c.in-Some.ensures
    (elim c.if-has_space.branch [
      | then-has_space+in-Some-pop_number w ↦
          let low : State = w.pop_number-then-has_space.new.self in
          subst (λ (space : Bool). Performs (at_address (address_bits old.setup) base_type c.args.size space c.in-Some.address mid.store.values) mid new) (sym w.if-has_space.true)
          (performs_number (address_bits old.setup) (λ n rest. RequestAct rest (RequiresMemory c.in-Some.address c.args.size (Some n) base_type) Push) w.in-Some-pop_number.named mid low new
          (sym (ap (λ (z : State). address_bits z.setup) c.in-Some.ensures.alone)) w.in-Some-pop_number.ensures
          (asked base_type c.args.size c.in-Some.address c.if-has_space.space (Some w.in-Some-pop_number.named) c.if-has_space.self low new w.self-is w.space-is c.ask.ensures.alone))
      | else-has_space w ↦
          subst (λ (space : Bool). Performs (at_address (address_bits old.setup) base_type c.args.size space c.in-Some.address mid.store.values) mid new) (sym w.if-has_space.false)
          (asked base_type c.args.size c.in-Some.address c.if-has_space.space None c.if-has_space.self mid new w.self-is w.space-is c.ask.ensures.alone)
    ]))
