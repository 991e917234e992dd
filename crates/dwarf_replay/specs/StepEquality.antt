-- What equality compares in steps and their results: whole errors, readers by `text`, and offsets by `number`.
use Rattle.std.specs.Prelude.{ℕ, Result, Ok, Err}
use Rattle.dwarf_base.specs.declared.errors.Error.{Error}
use Rattle.dwarf_base.specs.Reads.{Text}
use Rattle.dwarf_meaning.specs.Steps.{Reply}
use Rattle.dwarf_eval.specs.Evaluation.{ok_reply}
use Rattle.dwarf_replay.specs.declared.steps.Replayed.{Replayed}
use Rattle.dwarf_replay.specs.declared.steps.Replayed.TheVariants as replayed
use Rattle.dwarf_replay.specs.declared.steps.Stepped.{Stepped}
use Rattle.dwarf_replay.specs.declared.steps.Stepped.TheVariants as stepped
use Rattle.dwarf_eval.specs.declared.op.results.EvaluationResult.{EvaluationResult}

module _ {R O : Type 0} (text : R → Text) (number : O → ℕ) where
  -- the result of a call
  abbrev pub reply_or_error : Result (EvaluationResult R O) Error → Result Reply Error
  reply_or_error (Ok result) = Ok (ok_reply text number result)
  reply_or_error (Err error) = Err error

-- the outcome of a step
pub data StepOutcome : Type 0 where
  Misplaced : StepOutcome
  Set : StepOutcome
  Answered : Result Reply Error → StepOutcome

-- maps the outcome of a step in the code to `StepOutcome`
abbrev pub outcome_of_step : {R O : Type 0} → (R → Text) → (O → ℕ) → Stepped R O → StepOutcome
outcome_of_step text number stepped.Misplaced = Misplaced
outcome_of_step text number stepped.Set = Set
outcome_of_step text number (stepped.Answered answer) = Answered (reply_or_error text number answer.0)

-- how a replay ended
pub data ReplayEnd : Type 0 where
  Done : ReplayEnd
  MisplacedAt : (index : ℕ) → ReplayEnd
  NoRoom : (index : ℕ) → Result Reply Error → ReplayEnd

-- maps the end of a replay in the code to `ReplayEnd`
abbrev pub end_of_replay : {R O : Type 0} → (R → Text) → (O → ℕ) → Replayed R O → ReplayEnd
end_of_replay text number replayed.Done = Done
end_of_replay text number (replayed.Misplaced index) = MisplacedAt index
end_of_replay text number (replayed.NoRoom index answer) = NoRoom index (reply_or_error text number answer.0)
