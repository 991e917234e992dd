-- Bits above the address size change no request, fault, branch or address (DWARF 5, section 2.5.1).
use Rattle.std.specs.Prelude.{◌≡◌, ◌≢◌, ◌⊎◌, ◌↔◌, List, ◌++◌, Option, option_map}
use Rattle.std.specs.List.{AllByRecursion, AllZip}
use Rattle.dwarf_base.specs.declared.errors.Error.TheVariants.{StackFull}
use Rattle.dwarf_base.specs.Reads.{Text}
use Rattle.dwarf_value.specs.Laws.{IsWidth}
use Rattle.dwarf_meaning.specs.Stores.{Setup, address_bits}
use Rattle.dwarf_meaning.specs.Run.{Position}
use Rattle.dwarf_meaning.specs.Meaning.{First, course_of}
use Rattle.dwarf_meaning.specs.Steps.{Step, Log, outcome_of, Allows, AllAllowed, after_steps, Reply, FaultReply, replies, replies_of}
use Rattle.dwarf_meaning.specs.Refusals.{Limits, Refusal}
use Rattle.dwarf_meaning.specs.Agreement.{Both, AgreeingSteps, AgreeingLogs, AgreeingOutcomes}

-- no push was refused
abbrev pub NoneIsFull : List Reply → Type 0
NoneIsFull replies = AllByRecursion (λ (reply : Reply). reply ≢ FaultReply StackFull) replies

-- the positions of the operations that were counted so far, if the evaluation was started
abbrev pub path_of : Setup → Refusal → Text → Log → Option (List Position)
path_of setup refusal text log =
    option_map (λ (first : First). (course_of setup refusal text first log.inputs).path) log.first

-- Two evaluations of one text are alike after these logs.
pub record StandAlike (setup other : Setup) (refusal another : Refusal) (text : Text)
    (log second : Log) : Type 0 where
  pub agreeing : AgreeingLogs (address_bits setup) log second
  -- the same request with the same open texts and places, the same fault, or agreeing pieces and values
  pub outcomes : Both (AgreeingOutcomes (address_bits setup)) (outcome_of setup refusal text log)
      (outcome_of other another text second)
  pub paths : path_of setup refusal text log ≡ path_of other another text second
  -- of two agreeing next steps, one is allowed exactly if the other is
  pub next : (step following : Step) → AgreeingSteps (address_bits setup) step following
      → Allows log (outcome_of setup refusal text log) step
      ↔ Allows second (outcome_of other another text second) following

-- Two evaluations of one text are alike after further steps, each by its own.
pub record AreAlike (setup other : Setup) (refusal another : Refusal) (text : Text) (log second : Log)
    (steps others : List Step) : Type 0 where
  pub allowed : AllAllowed setup refusal text log steps ↔ AllAllowed other another text second others
  -- requests and faults are the same, and come at the same steps
  pub replies : replies_of setup refusal text log steps ≡ replies_of other another text second others
  pub stand : StandAlike setup other refusal another text
      (after_steps setup refusal text log steps) (after_steps other another text second others)

-- either the limits and the refusal are the same, or no push was refused until the end of these steps
abbrev pub AreComparable : (setup other : Setup) (refusal another : Refusal) (text : Text) (log second : Log)
    (steps others : List Step) → Type 0
AreComparable setup other refusal another text log second steps others =
    ((setup.limits ≡ other.limits) × (refusal ≡ another))
    ⊎ (NoneIsFull (replies (outcome_of setup refusal text log) ++ replies_of setup refusal text log steps)
    × NoneIsFull (replies (outcome_of other another text second) ++ replies_of other another text second others))

-- After agreeing logs, agreeing steps give comparable evaluations that are alike. The limits and refusals may be any.
-- With `empty_log` on both sides the law covers whole evaluations.
abbrev pub TwoRuns : Type 0
TwoRuns =
    (setup : Setup) (limits : Limits) (refusal another : Refusal) (text : Text) (log second : Log)
    (steps others : List Step)
    → IsWidth (address_bits setup)
    → AgreeingLogs (address_bits setup) log second
    → AllZip (AgreeingSteps (address_bits setup)) steps others
    → AreComparable setup (record setup { limits = limits }) refusal another text log second steps others
    → AreAlike setup (record setup { limits = limits }) refusal another text log second steps others
