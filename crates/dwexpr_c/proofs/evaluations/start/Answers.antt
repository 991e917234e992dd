use Rattle.std.proofs.Common.{◌≡◌, ◌∙◌, None, Some, ap, subst, sym}
use Rattle.dwarf_meaning.specs.Inputs.{with_object, with_status}
use Rattle.dwarf_meaning.specs.Rest.{Start, State, Status}
use Rattle.dwarf_eval.specs.Evaluation.{IsClosed}
use Rattle.dwexpr_c.proofs.SettingsDone.{Comes, starts}
use Rattle.dwexpr_c.proofs.evaluations.start.Goals as goal
use Rattle.dwexpr_c.proofs.evaluations.start.Goals.{then-settings-ne0, else-settings-ne0, then-settings-ne0-2, else-settings-ne0-2}

pub returns-clause-done : goal.returns-clause-done
returns-clause-done g c =
    let first = c.args.evaluation.now in
    let settings = c.args.settings.now in
    let limited = c.set_max_iterations.new.self in
    let x = c.if-settings-ne0.evaluation in
    let y = c.if-settings-ne0-2.evaluation in
    let object_comes : Comes settings.has_object_address limited x (with_object (Some settings.object_address) limited) =
    elim c.if-settings-ne0.branch [
      | then-settings-ne0 w ↦ ((λ z. absurd (w.if-settings-ne0.true z)), (λ n. w.evaluation-is ∙ w.set_object_address.ensures))
      | else-settings-ne0 w ↦ ((λ z. w.evaluation-is), (λ n. absurd (n w.if-settings-ne0.false)))
    ]
    in
    let initial_comes : Comes settings.has_initial_value x y (with_status (Start (Some settings.initial_value)) x) =
    elim c.if-settings-ne0-2.branch [
      | then-settings-ne0-2 w ↦ ((λ z. absurd (w.if-settings-ne0-2.true z)), (λ n. w.evaluation-is ∙ w.set_initial_value.ensures))
      | else-settings-ne0-2 w ↦ ((λ z. w.evaluation-is), (λ n. absurd (n w.if-settings-ne0-2.false)))
    ]
    in
    let fresh : x.status ≡ Start None =
    elim c.if-settings-ne0.branch [
      | then-settings-ne0 w ↦ ap (λ (z : State). z.status) (w.evaluation-is ∙ w.set_object_address.ensures) ∙ (ap (λ (z : State). z.status) c.set_max_iterations.ensures ∙ c.requires.fresh)
      | else-settings-ne0 w ↦ ap (λ (z : State). z.status) (w.evaluation-is ∙ c.set_max_iterations.ensures) ∙ c.requires.fresh
    ]
    in
    let closed : IsClosed y.status =
    elim c.if-settings-ne0-2.branch [
      | then-settings-ne0-2 w ↦ subst (λ (s : Status). IsClosed s) (sym (ap (λ (z : State). z.status) (w.evaluation-is ∙ w.set_initial_value.ensures))) tt
      | else-settings-ne0-2 w ↦ subst (λ (s : Status). IsClosed s) (sym (ap (λ (z : State). z.status) w.evaluation-is ∙ fresh)) tt
    ]
    in
    starts first c.requires.capacities settings limited x y c.evaluate.new.self c.evaluate.result c.requires.fresh c.set_max_iterations.ensures object_comes initial_comes fresh
    (closed, c.evaluate.ensures.follows)
