-- The steps that a caller's settings stand for.
use Rattle.std.specs.Prelude.{ℕ, ◌==◌, List, [], ◌∷◌, ◌++◌, if◌then◌else◌}
use Rattle.dwarf_meaning.specs.Steps.{Evaluate, InitialValue, MaxIterations, ObjectAddress, Step}
use Rattle.dwexpr_c.specs.declared.settings.DwexprSettings.{DwexprSettings}

-- a step, if there is one
abbrev pub step_if : (has : ℕ) → Step → List Step
step_if has step = if has == 0 then [] else step ∷ []

-- the maximum, the object's address and the initial value if there are any, and the start
abbrev pub steps_in : DwexprSettings → List Step
steps_in settings =
    (((MaxIterations settings.max_iterations ∷ []) ++ step_if settings.has_object_address (ObjectAddress settings.object_address))
    ++ step_if settings.has_initial_value (InitialValue settings.initial_value))
    ++ (Evaluate ∷ [])
