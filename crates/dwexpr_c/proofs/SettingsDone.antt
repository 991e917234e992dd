-- The settings of a start and the start are the steps that they stand for.
use Rattle.std.proofs.Common.{ℕ, ◌≡◌, List, [], ◌∷◌, ◌++◌, Some, None, Result, refl, sym, subst, append-nil}
use Rattle.std.specs.Prelude.{◌==◌}
use Rattle.std.proofs.lemmas.Bool.{both_ways, cond_both, eq-eqb, eqb-true}
use Rattle.dwarf_base.specs.declared.errors.Error.{Error}
use Rattle.dwarf_eval.specs.declared.op.results.EvaluationResult.{EvaluationResult}
use Rattle.dwarf_meaning.specs.Inputs.{with_maximum, with_object, with_status}
use Rattle.dwarf_meaning.specs.Rest.{State, Start}
use Rattle.dwarf_meaning.specs.Steps.{Evaluate, InitialValue, MaxIterations, ObjectAddress, Step}
use Rattle.dwarf_replay.specs.Stepping.{HasReplied, IsSet}
use Rattle.dwexpr_c.specs.CallerTexts.{text_of_placed}
use Rattle.dwexpr_c.specs.Evaluated.{capacities}
use Rattle.dwexpr_c.specs.Held.{HasDone}
use Rattle.dwexpr_c.specs.Settings.{step_if, steps_in}
use Rattle.dwexpr_c.specs.declared.places.Placed.{Placed}
use Rattle.dwexpr_c.specs.declared.settings.DwexprSettings.{DwexprSettings}
use Rattle.dwexpr_c.proofs.StepsDone.{called_more, none_done, set_more}

-- a setting that is made if there is one
abbrev pub Comes : (has : ℕ) → (x y changed : State) → Type 0
Comes has x y changed = (has ≡ 0 → y ≡ x) × ((has ≡ 0 → ⊥) → y ≡ changed)

module _ (first : State) (limits : first.setup.limits ≡ capacities) where
  set_if : (has : ℕ) (step : Step) (steps : List Step) (x y changed : State) → Comes has x y changed → IsSet step x changed → HasDone first steps x → HasDone first (steps ++ step_if has step) y
  set_if has step steps x y changed comes set done =
      cond_both (has == 0) _ _ (λ (l : List Step). HasDone first (steps ++ l) y)
      (λ none.
      subst (λ (z : State). HasDone first (steps ++ []) z) (sym (comes.0 (eqb-true has 0 none)))
      (subst (λ (l : List Step). HasDone first l x) (sym (append-nil steps)) done))
      (λ one.
      subst (λ (z : State). HasDone first (steps ++ step ∷ []) z) (sym (comes.1 (λ z. both_ways (has == 0) one (eq-eqb has 0 z))))
      (set_more first limits steps x changed done step set))

  pub starts : (settings : DwexprSettings) (limited x y new : State) (result : Result (EvaluationResult Placed ℕ) Error)
      → first.status ≡ Start None → limited ≡ with_maximum settings.max_iterations first
      → Comes settings.has_object_address limited x (with_object (Some settings.object_address) limited)
      → Comes settings.has_initial_value x y (with_status (Start (Some settings.initial_value)) x) → x.status ≡ Start None
      → HasReplied text_of_placed (λ x. x) Evaluate y new result → HasDone first (steps_in settings) new
  starts settings limited x y new result fresh limit object initial waits replied =
      let maximum = MaxIterations settings.max_iterations ∷ [] in
      let one = set_more first limits [] first limited (none_done first limits fresh) (MaxIterations settings.max_iterations) limit in
      let two = set_if settings.has_object_address (ObjectAddress settings.object_address) maximum limited x (with_object (Some settings.object_address) limited) object refl one in
      let three = set_if settings.has_initial_value (InitialValue settings.initial_value) (maximum ++ step_if settings.has_object_address (ObjectAddress settings.object_address)) x y (with_status (Start (Some settings.initial_value)) x) initial (waits, refl) two in
      called_more first limits _ y new three Evaluate result replied
