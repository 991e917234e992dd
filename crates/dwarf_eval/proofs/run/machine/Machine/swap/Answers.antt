use Rattle.std.proofs.Common.{ℕ, ◌≡◌, Bool, false, List, [], ◌∷◌, Option, Some, ap, refl}
use Rattle.dwarf_value.specs.declared.types.Value.{Value}
use Rattle.dwarf_meaning.specs.Acts.{Pushes, act, on_top, underflow}
use Rattle.dwarf_meaning.specs.Operations as operation
use Rattle.dwarf_meaning.specs.Stores.{Plain, address_bits, push_values}
use Rattle.dwarf_meaning.specs.Rest.{State, Running}
use Rattle.dwarf_eval.specs.inner.StateChanges.{Performs, Pops, TriesChange, act_of, with_last}
use Rattle.dwarf_eval.proofs.RefusedPushes.{plain_tried, refused_first, value_then}
use Rattle.dwarf_eval.proofs.Performances.{fewer_two, performs_as, performs_popped, performs_pushes, pops_two, underflows}
use Rattle.dwarf_eval.proofs.run.machine.Machine.swap.Goals as goal

swap_is : (bits : ℕ) (object : Option ℕ) (values : List Value) → act bits object operation.Swap values ≡ on_top values underflow (λ y below. on_top below underflow (λ x rest. Pushes rest (y ∷ x ∷ [])))
unfolding act on_top
swap_is bits object [] = refl
swap_is bits object (y ∷ []) = refl
swap_is bits object (y ∷ x ∷ rest) = refl

pub returns-in_default : goal.returns-in_default
returns-in_default g c =
    performs_as _ _ c.args.self.now c.pop.new.self (swap_is _ _ c.args.self.now.store.values)
    (underflows _ c.args.self.now c.pop.new.self c.in_default.ensures)

pub returns-in_default-pop : goal.returns-in_default-pop
returns-in_default-pop g c =
    let new = c.pop-2.new.self in
    performs_as _ _ c.args.self.now new (swap_is _ _ c.args.self.now.store.values)
    (performs_popped _ c.in-Some.top c.args.self.now c.pop.new.self new c.in-Some.ensures
    (underflows _ c.pop.new.self new c.in_default-pop.ensures))

-- both are pushed, or one of them is refused
module _ (top next : Value) (old mid low marked : State) (new : State) (done : Bool) (runs : old.status ≡ Running) (first : Pops (Some top) old mid) (second : Pops (Some next) mid low) (mark : marked ≡ with_last Plain low) where
  swaps : TriesChange 1 (push_values marked.setup (top ∷ next ∷ [])) marked new done → Performs (act_of old operation.Swap) old new
  unfolding act
  swaps h =
      let two = pops_two top next old mid low first second in
      performs_as _ _ old new (ap (act (address_bits old.setup) old.store.settings.object_address operation.Swap) two.values)
      (performs_pushes 1 two.rest (top ∷ next ∷ []) old low new runs (fewer_two top next two.rest old.store.values two.values) two.alone
      (plain_tried 1 (λ setup. push_values setup (top ∷ next ∷ [])) low marked new done mark h))

pub returns-then-push : goal.returns-then-push
returns-then-push g c =
    swaps c.in-Some.top c.in-Some-pop.next c.args.self.now c.pop.new.self c.pop-2.new.self c.mark.new.self c.push-then-push.new.self c.push-then-push.result c.requires c.in-Some.ensures c.in-Some-pop.ensures c.mark.ensures
    (value_then c.in-Some.top c.in-Some-pop.next c.mark.new.self c.push.new.self c.push-then-push.new.self c.push-then-push.result (rw c.if-push.true at c.push.ensures) c.push-then-push.ensures)

pub returns-else-push : goal.returns-else-push
returns-else-push g c =
    swaps c.in-Some.top c.in-Some-pop.next c.args.self.now c.pop.new.self c.pop-2.new.self c.mark.new.self c.push.new.self false c.requires c.in-Some.ensures c.in-Some-pop.ensures c.mark.ensures
    (refused_first 1 c.in-Some.top (c.in-Some-pop.next ∷ []) c.mark.new.self c.push.new.self (rw c.if-push.false at c.push.ensures))
