use Rattle.std.proofs.Common.{ℕ, subst, refl, Result, Ok, Err, IsOkAnd, ◌≡◌, ◌⊎◌, inl, inr}
use Rattle.dwarf_base.specs.ByteOrder.{is_big_of}
use Rattle.dwarf_meaning.specs.Requests.{Answer}
use Rattle.dwarf_meaning.specs.Rest.{State, Status}
use Rattle.dwarf_meaning.specs.Steps.{Resume, Step}
use Rattle.dwarf_replay.specs.Stepping.{HasReplied, IsSet, IsStepped, MayTake, step_of}
use Rattle.dwarf_replay.specs.declared.steps.Stepped.{Stepped}
use Rattle.dwarf_replay.specs.declared.steps.Stepped.TheVariants as stepped
use Rattle.dwexpr_c.specs.Answered.{IsRefused}
use Rattle.dwexpr_c.specs.CallerTexts.{text_of_placed}
use Rattle.dwexpr_c.specs.Outcomes.{answer_coded}
use Rattle.dwexpr_c.specs.declared.faults.TheConstants as codes
use Rattle.dwexpr_c.specs.declared.places.Placed.{Placed}
use Rattle.dwexpr_c.proofs.answers.resume_with.Goals as goal

-- what holds of the step holds of the resume that the numbers stand for
of_resume : (said : Result Answer ℕ) (step : Step) (P : Step → Type 0) → IsOkAnd said (λ answer. step ≡ Resume answer) → P step → IsOkAnd said (λ answer. P (Resume answer))
of_resume (Ok answer) step P e holds = subst P e holds
of_resume (Err code) step P e holds = absurd e

refused : (said : Result Answer ℕ) (step : Step) (status : Status) → IsOkAnd said (λ answer. step ≡ Resume answer) → (MayTake step status → ⊥) → IsRefused said codes.MISPLACED status
refused (Ok answer) step status e h = (refl, subst (λ (s : Step). MayTake s status → ⊥) e h)
refused (Err code) step status e h = absurd e

-- a resume is no setting
not_taken : (said : Result Answer ℕ) (step : Step) (old new : State) (done : Stepped Placed ℕ) → IsOkAnd said (λ answer. step ≡ Resume answer) → IsStepped text_of_placed (λ x. x) step old new done
    → (done ≡ stepped.Misplaced) ⊎ (done ≡ stepped.Set) → IsRefused said codes.MISPLACED old.status × (new ≡ old)
not_taken said step old new stepped.Misplaced e h i = (refused said step old.status e h.1, h.0)
not_taken (Ok answer) step old new stepped.Set e h i = absurd (subst (λ (s : Step). IsSet s old new) e h)
not_taken (Err code) step old new stepped.Set e h i = absurd e
not_taken said step old new (stepped.Answered answer) e h (inl i) = absurd (let v : stepped.Answered answer ≡ stepped.Misplaced = i in cc)
not_taken said step old new (stepped.Answered answer) e h (inr i) = absurd (let v : stepped.Answered answer ≡ stepped.Set = i in cc)

pub returns-in-Answered-clause-ok : goal.returns-in-Answered-clause-ok
returns-in-Answered-clause-ok g c =
    of_resume (answer_coded (is_big_of c.args.order) c.args.texts.now c.args.answer.now) (step_of text_of_placed c.in_ok-step_in.field-0)
    (λ (s : Step). HasReplied text_of_placed (λ x. x) s c.args.evaluation.now c.take_step.new.eval c.in-Answered.reply.0)
    c.in_ok-step_in.ensures.ok c.in-Answered.ensures

pub returns-in-Misplaced : goal.returns-in-Misplaced
returns-in-Misplaced g c = record {
  ok = tt;
  err =
      not_taken (answer_coded (is_big_of c.args.order) c.args.texts.now c.args.answer.now) (step_of text_of_placed c.in_ok-step_in.field-0) c.args.evaluation.now c.take_step.new.eval c.take_step.result
      c.in_ok-step_in.ensures.ok c.take_step.ensures c.in-Misplaced.is;
}
