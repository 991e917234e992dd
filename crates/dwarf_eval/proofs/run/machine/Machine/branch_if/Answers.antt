use Rattle.std.proofs.Common.{ℕ, ℤ, ◌≡◌, ◌==◌, List, [], ap, true, false, arith, cond, w16, refl, subst, ◌∙◌}
use Rattle.std.proofs.lemmas.Bool.{cond-true, cond-false}
use Rattle.std.proofs.lemmas.Bool.Decides.{nat_tests}
use Rattle.std.proofs.lemmas.Int.{to_z-of_z}
use Rattle.dwarf_value.specs.declared.types.Value.{Value}
use Rattle.dwarf_meaning.specs.Acts.{Act, Pushes, Branches, act}
use Rattle.dwarf_meaning.specs.Rest.{State}
use Rattle.dwarf_eval.specs.inner.StateChanges.{Performs}
use Rattle.dwarf_eval.proofs.Performances.{performs_as, performs_none, performs_number, underflows}
use Rattle.dwarf_eval.proofs.run.machine.Machine.branch_if.Goals as goal

-- by the number on top
abbrev branch_by : ℤ → ℕ → List Value → Act
branch_by target number rest = cond (number == 0) (Pushes rest []) (Branches rest target)

pub returns-in_default : goal.returns-in_default
unfolding act
returns-in_default g c = underflows _ c.args.self.now c.pop_number.new.self c.in_default.ensures

pub returns-then-number-eq0 : goal.returns-then-number-eq0
unfolding act
returns-then-number-eq0 g c =
    let low : State = c.pop_number.new.self in
    let zero : (c.in-Some.number == 0) ≡ true = grind (arith, nat_tests, c.if-number-eq0.true) in
    performs_number _ (branch_by c.args.target) c.in-Some.number c.args.self.now low c.mark.new.self refl c.in-Some.ensures
    (performs_as _ (Pushes low.store.values []) low c.mark.new.self (cond-true (c.in-Some.number == 0) (Pushes low.store.values []) (Branches low.store.values c.args.target) zero)
    (performs_none low.store.values low c.mark.new.self (ap (λ (z : State). z.status) c.in-Some.ensures.alone ∙ c.requires) c.mark.ensures))

pub returns : goal.returns
unfolding act
returns g c =
    let low : State = c.pop_number.new.self in
    let new : State = c.take_branch.new.self in
    let some : (c.in-Some.number == 0) ≡ false = grind (arith, nat_tests, c.if-number-eq0.false) in
    performs_number _ (branch_by c.args.target) c.in-Some.number c.args.self.now low new refl c.in-Some.ensures
    (performs_as _ (Branches low.store.values c.args.target) low new (cond-false (c.in-Some.number == 0) (Pushes low.store.values []) (Branches low.store.values c.args.target) some)
    (subst (λ (t : ℤ). Performs (Branches low.store.values t) low new) (to_z-of_z w16 c.args.target c.ranges.target) c.take_branch.ensures))
