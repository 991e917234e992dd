use Rattle.std.proofs.Common.{ℕ, ◌≡◌, Bool, false, List, [], ◌∷◌, Option, Some, ap, refl}
use Rattle.dwarf_value.specs.declared.types.Value.{Value}
use Rattle.dwarf_meaning.specs.Acts.{Pushes, act, on_top, underflow}
use Rattle.dwarf_meaning.specs.Operations as operation
use Rattle.dwarf_meaning.specs.Stores.{Plain, address_bits, push_values}
use Rattle.dwarf_meaning.specs.Rest.{State, Running}
use Rattle.dwarf_eval.specs.inner.StateChanges.{Performs, Pops, TriesChange, act_of, with_last}
use Rattle.dwarf_eval.proofs.RefusedPushes.{plain_tried, refused_first, value_then, values_then}
use Rattle.dwarf_eval.proofs.Performances.{fewer_three, performs_as, performs_popped, performs_pushes, pops_two, pops_three, underflows}
use Rattle.dwarf_eval.proofs.run.machine.Machine.rotate.Goals as goal
use Rattle.dwarf_eval.proofs.run.machine.Machine.rotate.Goals.{else-push-via-else-push, else-push-via-then-push+else-push-2}

rotate_is : (bits : ℕ) (object : Option ℕ) (values : List Value) → act bits object operation.Rot values
    ≡ on_top values underflow (λ z below. on_top below underflow (λ y below. on_top below underflow (λ x rest. Pushes rest (z ∷ x ∷ y ∷ []))))
unfolding act on_top
rotate_is bits object [] = refl
rotate_is bits object (z ∷ []) = refl
rotate_is bits object (z ∷ y ∷ []) = refl
rotate_is bits object (z ∷ y ∷ x ∷ rest) = refl

pub returns-in_default : goal.returns-in_default
returns-in_default g c =
    performs_as _ _ c.args.self.now c.pop.new.self (rotate_is _ _ c.args.self.now.store.values)
    (underflows _ c.args.self.now c.pop.new.self c.in_default.ensures)

pub returns-in_default-pop : goal.returns-in_default-pop
returns-in_default-pop g c =
    let new = c.pop-2.new.self in
    performs_as _ _ c.args.self.now new (rotate_is _ _ c.args.self.now.store.values)
    (performs_popped _ c.in-Some.top c.args.self.now c.pop.new.self new c.in-Some.ensures
    (underflows _ c.pop.new.self new c.in_default-pop.ensures))

pub returns-in_default-pop-2 : goal.returns-in_default-pop-2
returns-in_default-pop-2 g c =
    let new = c.pop-3.new.self in
    performs_as _ _ c.args.self.now new (rotate_is _ _ c.args.self.now.store.values)
    (performs_popped _ c.in-Some.top c.args.self.now c.pop.new.self new c.in-Some.ensures
    (performs_popped _ c.in-Some-pop.second c.pop.new.self c.pop-2.new.self new c.in-Some-pop.ensures
    (underflows _ c.pop-2.new.self new c.in_default-pop-2.ensures)))

-- the three are pushed, or one of them is refused
module _ (z y x : Value) (old mid low least marked new : State) (done : Bool) (runs : old.status ≡ Running) (first : Pops (Some z) old mid) (second : Pops (Some y) mid low) (third : Pops (Some x) low least) (mark : marked ≡ with_last Plain least) where
  rotates : TriesChange 2 (push_values marked.setup (z ∷ x ∷ y ∷ [])) marked new done → Performs (act_of old operation.Rot) old new
  unfolding act
  rotates h =
      let three = pops_three z y x old low least (pops_two z y old mid low first second) third in
      performs_as _ _ old new (ap (act (address_bits old.setup) old.store.settings.object_address operation.Rot) three.values)
      (performs_pushes 2 three.rest (z ∷ x ∷ y ∷ []) old least new runs (fewer_three z y x three.rest old.store.values three.values) three.alone
      (plain_tried 2 (λ setup. push_values setup (z ∷ x ∷ y ∷ [])) least marked new done mark h))

pub returns-then-push-2 : goal.returns-then-push-2
returns-then-push-2 g c =
    let old = c.args.self.now in
    let marked = c.mark.new.self in
    let others = c.in-Some-pop-2.third ∷ c.in-Some-pop.second ∷ [] in
    rotates c.in-Some.top c.in-Some-pop.second c.in-Some-pop-2.third old c.pop.new.self c.pop-2.new.self c.pop-3.new.self marked c.push-then-push-2.new.self c.push-then-push-2.result c.requires
    c.in-Some.ensures c.in-Some-pop.ensures c.in-Some-pop-2.ensures c.mark.ensures
    (values_then 1 c.in-Some.top others marked c.push.new.self c.push-then-push-2.new.self c.push-then-push-2.result (rw c.if-push.true at c.push.ensures)
    (value_then c.in-Some-pop-2.third c.in-Some-pop.second c.push.new.self c.push-then-push.new.self c.push-then-push-2.new.self c.push-then-push-2.result (rw c.if-push-2.true at c.push-then-push.ensures) c.push-then-push-2.ensures))

pub returns-else-push : goal.returns-else-push
returns-else-push g c =
    let old = c.args.self.now in
    let marked = c.mark.new.self in
    let others = c.in-Some-pop-2.third ∷ c.in-Some-pop.second ∷ [] in
    rotates c.in-Some.top c.in-Some-pop.second c.in-Some-pop-2.third old c.pop.new.self c.pop-2.new.self c.pop-3.new.self marked c.else-push.self false c.requires
    c.in-Some.ensures c.in-Some-pop.ensures c.in-Some-pop-2.ensures c.mark.ensures
    (elim c.else-push.branch [
      | else-push-via-else-push w ↦ rw (w.self-is) (refused_first 2 c.in-Some.top others marked c.push.new.self (rw w.if-push.false at c.push.ensures))
      | else-push-via-then-push+else-push-2 w ↦
          rw (w.self-is) (values_then 1 c.in-Some.top others marked c.push.new.self w.push-then-push.new.self false (rw w.if-push.true at c.push.ensures)
          (refused_first 1 c.in-Some-pop-2.third (c.in-Some-pop.second ∷ []) c.push.new.self w.push-then-push.new.self (rw w.if-push-2.false at w.push-then-push.ensures)))
    ])
