-- What one step does to the state of an evaluation, and what it replies (DWARF 5, section 2.5).
use Rattle.std.specs.Prelude.{ℕ, ◌≡◌, Some, None, Result}
use Rattle.dwarf_base.specs.declared.errors.Error.{Error}
use Rattle.dwarf_base.specs.Reads.{Text}
use Rattle.dwarf_meaning.specs.declared.kinds.WaitingKind.TheVariants as kind
use Rattle.dwarf_meaning.specs.Kinds.{kind_of_answer}
use Rattle.dwarf_meaning.specs.Requests as requests
use Rattle.dwarf_meaning.specs.Rest.{State, Status, Start}
use Rattle.dwarf_meaning.specs.Steps as meaning
use Rattle.dwarf_meaning.specs.Steps.{InitialValue, ObjectAddress, MaxIterations, Evaluate, Resume}
use Rattle.dwarf_eval.specs.Evaluation.{Evaluates, Resumes, IsClosed, with_object, with_maximum, input_of, with_status}
use Rattle.dwarf_eval.specs.Permits.{IsOpenFor}
use Rattle.dwarf_eval.specs.declared.op.results.EvaluationResult.{EvaluationResult}
use Rattle.dwarf_replay.specs.declared.steps.Step.{Step}
use Rattle.dwarf_replay.specs.declared.steps.Step.TheVariants as step
use Rattle.dwarf_replay.specs.declared.steps.Stepped.{Stepped}
use Rattle.dwarf_replay.specs.declared.steps.Stepped.TheVariants as stepped

-- maps a step in the code to the definitions
abbrev pub step_of : {R : Type 0} → (R → Text) → Step R → meaning.Step
step_of text (step.InitialValue number) = meaning.InitialValue number
step_of text (step.ObjectAddress address) = meaning.ObjectAddress address
step_of text (step.MaxIterations maximum) = meaning.MaxIterations maximum
step_of text step.Evaluate = meaning.Evaluate
step_of text (step.Memory value) = meaning.Resume (requests.ValueAnswer kind.Memory value)
step_of text (step.Register value) = meaning.Resume (requests.ValueAnswer kind.Register value)
step_of text (step.WasmValue value) = meaning.Resume (requests.ValueAnswer kind.WasmValue value)
step_of text (step.EntryValue value) = meaning.Resume (requests.ValueAnswer kind.EntryValue value)
step_of text (step.FrameBase number) = meaning.Resume (requests.NumberAnswer kind.FrameBase number)
step_of text (step.Tls number) = meaning.Resume (requests.NumberAnswer kind.Tls number)
step_of text (step.CallFrameCfa number) = meaning.Resume (requests.NumberAnswer kind.CallFrameCfa number)
step_of text (step.ParameterRef number) = meaning.Resume (requests.NumberAnswer kind.ParameterRef number)
step_of text (step.RelocatedAddress number) = meaning.Resume (requests.NumberAnswer kind.RelocatedAddress number)
step_of text (step.IndexedAddress number) = meaning.Resume (requests.NumberAnswer kind.IndexedAddress number)
step_of text (step.AtLocation expression) = meaning.Resume (requests.LocationAnswer (text expression))
step_of text (step.BaseType value_type) = meaning.Resume (requests.BaseTypeAnswer value_type)

-- the status allows the step
abbrev pub MayTake : meaning.Step → Status → Type 0
MayTake (InitialValue number) status = status ≡ Start None
MayTake (ObjectAddress address) status = Unit {0}
MayTake (MaxIterations maximum) status = Unit {0}
MayTake Evaluate status = IsClosed status
MayTake (Resume answer) status = IsOpenFor (kind_of_answer answer) status

-- the step was a setting
abbrev pub IsSet : meaning.Step → State → State → Type 0
IsSet (InitialValue number) old new = (old.status ≡ Start None) × (new ≡ with_status (Start (Some number)) old)
IsSet (ObjectAddress address) old new = new ≡ with_object (Some address) old
IsSet (MaxIterations maximum) old new = new ≡ with_maximum maximum old
IsSet _ old new = ⊥

module _ {R O : Type 0} (text : R → Text) (number : O → ℕ) where
  -- the step was a call, with this result
  abbrev pub HasReplied : meaning.Step → State → State → Result (EvaluationResult R O) Error → Type 0
  HasReplied Evaluate old new replied = IsClosed old.status × Evaluates text number old new replied old.status
  HasReplied (Resume answer) old new replied =
      IsOpenFor (kind_of_answer answer) old.status
      × Resumes text number (input_of old answer) old new replied old.status
  HasReplied _ old new replied = ⊥

  -- the outcome of the step
  abbrev pub IsStepped : meaning.Step → State → State → Stepped R O → Type 0
  IsStepped step old new stepped.Misplaced = (new ≡ old) × (MayTake step old.status → ⊥)
  IsStepped step old new stepped.Set = IsSet step old new
  IsStepped step old new (stepped.Answered answer) = HasReplied step old new answer.0
