-- Operations are equal exactly if they are seen as the same.
use Rattle.std.proofs.Common.{ℕ, suc, ◌≡◌, ◌≤◌, ◌↔◌, Bool, true, false, List, [], ◌∷◌, inl, inr, arith, Option, Some, None, IsTrue, refl, sym, ◌∙◌, ap, ◌&&◌, nat_eq}
use Rattle.std.specs.Bool.{Decides}
use Rattle.std.proofs.lemmas.Bool.Decides.{Decides-and}
use Rattle.std.specs.Cmp.{booleans_Decides, signed_Decides, unsigned_Decides}
use Rattle.std.specs.declared.cmp.PartialEq as partial_eq
use Rattle.std.specs.Option.{option_eq}
use Rattle.dwarf_base.specs.Equality.{IsEqualityOf}
use Rattle.dwarf_base.specs.Reads.{Text}
use Rattle.dwarf_meaning.specs.Operations as meaning
use Rattle.dwarf_op.specs.contracts.operations.Operation as code
use Rattle.dwarf_op.specs.contracts.operations.DieReferencePartialEq.TheImpl as references
use Rattle.dwarf_op.specs.contracts.operations.OperationPartialEq.TheImpl as operations
use Rattle.dwarf_op.specs.declared.operations.DieReference.{DieReference}
use Rattle.dwarf_op.specs.declared.operations.DieReference.TheVariants as reference
use Rattle.dwarf_op.specs.declared.operations.Operation.{Operation}
use Rattle.dwarf_op.specs.Names.{number_of}
use Rattle.dwarf_op.specs.Views.{operation_of, reference_of}
use denote.Enum.Compared.{Each, by}
use denote.Enum.Declared.{Choice}
use denote.RattleType.{RattleType}
use denote.Struct.Field.{Field}
use denote.Struct.Values.{Values}
use mir.Syntax.{Dict}

infixr 40 ◌⊳◌
-- ---- tests

decided : {P A : Type 0} {b : Bool} → Decides b P → (P → A) → (A → P) → IsTrue b ↔ A
decided decides there back = (λ passes. there (decides.0 passes), λ a. decides.1 (back a))

same : {A : Type 0} {x : A} → IsTrue true ↔ (x ≡ x)
same = (λ _. refl, λ _. refl)

pub both_of : {P Q : Type 0} (b c : Bool) → Decides b P → Decides c Q → Decides (b && c) (P × Q)
both_of = Decides-and

both : {P Q : Type 0} {b c : Bool} → Decides b P → Decides c Q → Decides (b && c) (P × Q)
both {P} {Q} {b} {c} = both_of b c

pub options : (x y : Option ℕ) → Decides (option_eq nat_eq x y) (x ≡ y)
options None None = (λ _. refl, λ _. refl)
options None (Some n) = (λ h. cc, λ h. cc)
options (Some m) None = (λ h. cc, λ h. cc)
options (Some m) (Some n) = decided (unsigned_Decides m n) (λ h. cc) (λ h. cc)

-- ---- variants, by their numbers

never : {A : Type 0} → (A → ⊥) → IsTrue false ↔ A
never refused = (λ passes. absurd (let wrong : false ≡ true = passes in cc), λ a. absurd (refused a))

-- a variant: a test of two values of it, and that the test says which are seen as the same
record Line (Fs : List Field) (view : Values Fs → meaning.Operation) : Type 0 where
  test : Values Fs → Values Fs → Bool
  decides : (x y : Values Fs) → IsTrue (test x y) ↔ (view x ≡ view y)

abbrev line : {Fs : List Field} {view : Values Fs → meaning.Operation} {test : Values Fs → Values Fs → Bool}
    → ((x y : Values Fs) → IsTrue (test x y) ↔ (view x ≡ view y)) → Line Fs view
line {Fs} {view} {test} decides = record { test = test; decides = decides }

abbrev ◌⊳◌ : {A B : Type 0} → A → B → A × B
a ⊳ b = (a, b)

-- the variants that have fields
abbrev Lines : (Fss : List (List Field)) → (Choice Fss → meaning.Operation) → Type 0
Lines [] view = Unit {0}
Lines ([] ∷ Fss) view = Lines Fss (λ c. view (inr c))
Lines ((F ∷ Fs) ∷ Fss) view = Line (F ∷ Fs) (λ x. view (inl x)) × Lines Fss (λ c. view (inr c))

abbrev tests : (Fss : List (List Field)) (view : Choice Fss → meaning.Operation) → Lines Fss view → Each Bool Fss
tests [] view lines = tt
tests ([] ∷ Fss) view lines = ((λ x y. true), tests Fss (λ c. view (inr c)) lines)
tests ((F ∷ Fs) ∷ Fss) view lines = (lines.0.test, tests Fss (λ c. view (inr c)) lines.1)

-- what is seen of each variant has its number, from n on
abbrev Numbered : (Fss : List (List Field)) → (Choice Fss → meaning.Operation) → ℕ → Type 0
Numbered [] view n = Unit {0}
Numbered (Fs ∷ Fss) view n = ((x : Values Fs) → number_of (view (inl x)) ≡ n) × Numbered Fss (λ c. view (inr c)) (suc n)

further : (Fss : List (List Field)) (view : Choice Fss → meaning.Operation) (n : ℕ) → Numbered Fss view n → (c : Choice Fss) → n ≤ number_of (view c)
further [] view n numbered c = absurd c
further (Fs ∷ Fss) view n numbered (inl x) = let here = numbered.0 x in omega (arith, here)
further (Fs ∷ Fss) view n numbered (inr c) =
    let above = further Fss (λ d. view (inr d)) (suc n) numbered.1 c in omega (arith, above)

-- a variant is seen as another than all that are further on
distinct : (Fs : List Field) (Fss : List (List Field)) (view : Choice (Fs ∷ Fss) → meaning.Operation) (n : ℕ)
    → Numbered (Fs ∷ Fss) view n → (x : Values Fs) (c : Choice Fss) → number_of (view (inl x)) ≡ number_of (view (inr c)) → ⊥
distinct Fs Fss view n numbered x c equal =
    let here = numbered.0 x in
    let above = further Fss (λ d. view (inr d)) (suc n) numbered.1 c in omega (arith, here, above, equal)

-- so two values are equal exactly if they are seen as the same
equal_choices : (Fss : List (List Field)) (view : Choice Fss → meaning.Operation) (n : ℕ) (lines : Lines Fss view) → Numbered Fss view n → (c d : Choice Fss)
    → IsTrue (by false false Fss (tests Fss view lines) c d) ↔ (view c ≡ view d)
equal_choices [] view n lines numbered c d = absurd c
equal_choices ([] ∷ Fss) view n lines numbered (inl x) (inl y) = same
equal_choices ([] ∷ Fss) view n lines numbered (inr c) (inr d) = equal_choices Fss (λ e. view (inr e)) (suc n) lines numbered.1 c d
equal_choices ((F ∷ Fs) ∷ Fss) view n lines numbered (inl x) (inl y) = lines.0.decides x y
equal_choices ((F ∷ Fs) ∷ Fss) view n lines numbered (inr c) (inr d) = equal_choices Fss (λ e. view (inr e)) (suc n) lines.1 numbered.1 c d
equal_choices (Fs ∷ Fss) view n lines numbered (inl x) (inr d) = never (λ e. distinct Fs Fss view n numbered x d (ap number_of e))
equal_choices (Fs ∷ Fss) view n lines numbered (inr c) (inl y) = never (λ e. distinct Fs Fss view n numbered y c (ap number_of (sym e)))

module _ (O : RattleType) (o : partial_eq.Ghosts O.Denot) (p : Dict)
    (number : O.Denot → ℕ) (numbers : IsEqualityOf number o.eq) where
  abbrev pub are_references_equal : DieReference O.Denot → DieReference O.Denot → Bool
  are_references_equal = (references.ghosts O o p).eq

  pub equal_references : (x y : DieReference O.Denot)
      → IsTrue (are_references_equal x y) ↔ (reference_of number x ≡ reference_of number y)
  equal_references (reference.UnitRef offset) (reference.UnitRef offset') = decided (numbers _ _) (λ h. cc) (λ h. cc)
  equal_references (reference.UnitRef offset) (reference.DebugInfoRef offset') =
      (λ h. absurd (let no : false ≡ true = h in cc), λ h. cc)
  equal_references (reference.DebugInfoRef offset) (reference.UnitRef offset') =
      (λ h. absurd (let no : false ≡ true = h in cc), λ h. cc)
  equal_references (reference.DebugInfoRef offset) (reference.DebugInfoRef offset') =
      decided (numbers _ _) (λ h. cc) (λ h. cc)

-- what the derived test takes
module _ (R O : RattleType)
    (are_readers_equal : partial_eq.Ghosts R.Denot) (p : Dict) (are_offsets_equal : partial_eq.Ghosts O.Denot) (q : Dict) where
  abbrev are_operations_equal : Operation R.Denot O.Denot → Operation R.Denot O.Denot → Bool
  are_operations_equal = (operations.ghosts R O are_readers_equal p are_offsets_equal q).eq

  module _ (text : R.Denot → Text) (number : O.Denot → ℕ)
      (texts : IsEqualityOf text are_readers_equal.eq) (numbers : IsEqualityOf number are_offsets_equal.eq) where
    abbrev view : Choice (code.the_parts R O) → meaning.Operation
    view c = operation_of text number (code.the_make R O c)

    -- in the order of `Operation`
    unfoldable lines : Lines (code.the_parts R O) view
    lines =
        line (λ x y. decided (both (unsigned_Decides x.0 y.0) (both (numbers x.1.0.0 y.1.0.0) (booleans_Decides x.1.1.0 y.1.1.0))) (λ (h, (t, u)). cc) (λ h. (cc, (cc, cc))))
        ⊳ line (λ x y. decided (unsigned_Decides x.0 y.0) (λ h. cc) (λ h. cc))
        ⊳ line (λ x y. decided (unsigned_Decides x.0 y.0) (λ h. cc) (λ h. cc))
        ⊳ line (λ x y. decided (signed_Decides x.0 y.0) (λ h. cc) (λ h. cc))
        ⊳ line (λ x y. decided (signed_Decides x.0 y.0) (λ h. cc) (λ h. cc))
        ⊳ line (λ x y. decided (unsigned_Decides x.0 y.0) (λ h. cc) (λ h. cc))
        ⊳ line (λ x y. decided (signed_Decides x.0 y.0) (λ h. cc) (λ h. cc))
        ⊳ line (λ x y. decided (unsigned_Decides x.0.0 y.0.0) (λ h. cc) (λ h. cc))
        ⊳ line (λ x y. decided (both (unsigned_Decides x.0.0 y.0.0) (both (signed_Decides x.1.0 y.1.0) (numbers x.1.1.0.0 y.1.1.0.0))) (λ (h, (t, u)). cc) (λ h. (cc, (cc, cc))))
        ⊳ line (λ x y. decided (signed_Decides x.0 y.0) (λ h. cc) (λ h. cc))
        ⊳ line (λ x y. decided (equal_references O are_offsets_equal q number numbers x.0 y.0) (λ h. cc) (λ h. cc))
        ⊳ line (λ x y. decided (both (unsigned_Decides x.0 y.0) (options x.1.0 y.1.0)) (λ (h, t). cc) (λ h. (cc, cc)))
        ⊳ line (λ x y. decided (texts x.0 y.0) (λ h. cc) (λ h. cc))
        ⊳ line (λ x y. decided (both (numbers x.0.0 y.0.0) (signed_Decides x.1.0 y.1.0)) (λ (h, t). cc) (λ h. (cc, cc)))
        ⊳ line (λ x y. decided (texts x.0 y.0) (λ h. cc) (λ h. cc))
        ⊳ line (λ x y. decided (numbers x.0.0 y.0.0) (λ h. cc) (λ h. cc))
        ⊳ line (λ x y. decided (unsigned_Decides x.0 y.0) (λ h. cc) (λ h. cc))
        ⊳ line (λ x y. decided (numbers x.0.0 y.0.0) (λ h. cc) (λ h. cc))
        ⊳ line (λ x y. decided (numbers x.0.0 y.0.0) (λ h. cc) (λ h. cc))
        ⊳ line (λ x y. decided (both (numbers x.0.0 y.0.0) (texts x.1.0 y.1.0)) (λ (h, t). cc) (λ h. (cc, cc)))
        ⊳ line (λ x y. decided (numbers x.0.0 y.0.0) (λ h. cc) (λ h. cc))
        ⊳ line (λ x y. decided (numbers x.0.0 y.0.0) (λ h. cc) (λ h. cc))
        ⊳ line (λ x y. decided (unsigned_Decides x.0 y.0) (λ h. cc) (λ h. cc))
        ⊳ line (λ x y. decided (unsigned_Decides x.0 y.0) (λ h. cc) (λ h. cc))
        ⊳ line (λ x y. decided (unsigned_Decides x.0 y.0) (λ h. cc) (λ h. cc))
        ⊳ line (λ x y. decided (numbers x.0.0 y.0.0) (λ h. cc) (λ h. cc))
        ⊳ tt

    numbered : Numbered (code.the_parts R O) view 1
    numbered = assumption

    seen : (x : Operation R.Denot O.Denot) → view (code.as_values R O x) ≡ operation_of text number x
    seen x = ap (operation_of text number) (code.the_eta R O x)

    pub equal_operations : (x y : Operation R.Denot O.Denot)
        → IsTrue (are_operations_equal x y) ↔ (operation_of text number x ≡ operation_of text number y)
    unfolding lines
    equal_operations x y =
        let equal : IsTrue (are_operations_equal x y) ↔ (view (code.as_values R O x) ≡ view (code.as_values R O y)) =
        equal_choices (code.the_parts R O) view 1 lines numbered (code.as_values R O x) (code.as_values R O y) in
        (λ passes. sym (seen x) ∙ (equal.0 passes ∙ seen y), λ e. equal.1 (seen x ∙ (e ∙ sym (seen y))))
