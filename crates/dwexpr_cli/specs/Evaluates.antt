-- What `eval` prints for the steps of its input (DWARF 5, section 2.5).
use Rattle.std.specs.Prelude.{ℕ, ◌≡◌, ◌⊎◌, ◌++◌, List, [], take, slice_get, Option, Some, None, Result, Ok, Err}
use Rattle.dwarf_base.specs.declared.common.Encoding.{Encoding}
use Rattle.dwarf_base.specs.Reads.{Text}
use Rattle.dwarf_meaning.specs.Stores.{Setup, setup_of}
use Rattle.dwarf_meaning.specs.Meaning.{Outcome, RequestOutcome, FaultOutcome, CompleteOutcome}
use Rattle.dwarf_meaning.specs.Steps.{Step, Evaluate, Resume, Log, Reply, Allows, AreDone, outcome_of, empty_log}
use Rattle.dwarf_meaning.specs.Refusals.{Refusal}
use Rattle.dwexpr_cli.specs.Lines.{reply_lines}
use Rattle.dwexpr_cli.specs.StepLines.{lines_in, steps_in}
use Rattle.dwexpr_cli.specs.Endings.{Ending, bad_step, complete_ending, misplaced_step, no_memory}

-- what follows the replies, by the outcome: pieces and a value, or the status of a fault, or nothing
abbrev pub outcome_ending : Option Outcome → Ending
outcome_ending None = record { text = []; status = 0 }
outcome_ending (Some (RequestOutcome request positions)) = record { text = []; status = 0 }
outcome_ending (Some (FaultOutcome fault)) = record { text = []; status = 1 }
outcome_ending (Some (CompleteOutcome pieces value)) = complete_ending pieces value

-- the replies, one per line, and the ending after them
abbrev pub after_replies : List Reply → Ending → Ending
after_replies replies ending = record ending { text = reply_lines replies ++ ending.text }

-- the step is a call that has a reply
abbrev pub IsCall : Step → Type 0
IsCall Evaluate = Unit {0}
IsCall (Resume answer) = Unit {0}
IsCall _ = ⊥

-- how the evaluation ends, by the next step: there is none; it isn't allowed; or there was no memory for its reply
pub data EndsAt (index : ℕ) (now : Log) (outcome : Option Outcome) : (next : Option Step) → Ending → Type 0 where
  all_done : EndsAt index now outcome None (outcome_ending outcome)
  not_allowed : {step : Step} → (Allows now outcome step → ⊥) → EndsAt index now outcome (Some step)
      (misplaced_step index)
  without_memory : {step : Step} → Allows now outcome step → IsCall step
      → EndsAt index now outcome (Some step) no_memory

-- the steps before some index were done, and the evaluation ended there; for lack of memory one push may have been
-- refused
pub record EvaluatesSteps (setup : Setup) (text : Text) (log : Log) (steps : List Step) (ending : Ending)
    : Type 0 where
  pub refusal : Refusal
  pub index : ℕ
  pub replies : List Reply
  pub now : Log
  pub done : AreDone setup refusal text log (take index steps) replies now
  pub last : Ending
  pub ends : EndsAt index now (outcome_of setup refusal text now) (slice_get steps index) last
  pub ending_is : ending ≡ after_replies replies last

-- the ending for lines that spell these steps, or for lines of which one is bad
abbrev pub EvaluatesSaid : Setup → Text → Result (List Step) ℕ → Ending → Type 0
EvaluatesSaid setup text (Ok steps) ending = EvaluatesSteps setup text empty_log steps ending
EvaluatesSaid setup text (Err number) ending = ending ≡ bad_step number

-- the ending for an input, with no limit on any list; or there was no memory for its steps
abbrev pub EvaluatesLines : Encoding → Text → (input : List ℕ) → Ending → Type 0
EvaluatesLines encoding text input ending =
    EvaluatesSaid (setup_of encoding 64 None None None) text (steps_in text.is_big (lines_in input)) ending
    ⊎ (ending ≡ no_memory)
