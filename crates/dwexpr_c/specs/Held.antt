-- The state of an evaluation that is held between the calls of a caller in C (DWARF 5, section 2.5).
use Rattle.std.specs.Prelude.{◌≡◌, false, List, [], Option, None, Some, IsSomeAnd}
use Rattle.dwarf_base.specs.declared.common.Encoding.{Encoding}
use Rattle.dwarf_base.specs.declared.common.Format.TheVariants.{Dwarf32}
use Rattle.dwarf_base.specs.ByteOrder.{is_big_of}
use Rattle.dwarf_base.specs.Reads.{Text}
use Rattle.dwarf_meaning.specs.Bounds.{Spends, faults_in}
use Rattle.dwarf_meaning.specs.Inputs.{fresh_state}
use Rattle.dwarf_meaning.specs.Refusals.{Never}
use Rattle.dwarf_meaning.specs.Rest.{State, Start}
use Rattle.dwarf_meaning.specs.Run.{most_operations}
use Rattle.dwarf_meaning.specs.Steps.{Log, Reply, Step}
use Rattle.dwarf_replay.specs.Continuing.{Leaves, initial_items}
use Rattle.dwarf_replay.specs.Replays.{AreDoneFrom, StandsAt}
use Rattle.dwexpr_c.specs.Evaluated.{capacities, limited_setup, outcome_by}
use Rattle.dwexpr_c.specs.declared.memory.Held.{Held}

-- the lists have the limits that the header names
abbrev pub HasCapacities : State → Type 0
HasCapacities x = x.setup.limits ≡ capacities

-- there is an evaluation
abbrev pub IsBegun : Option Held → Type 0
IsBegun handle = IsSomeAnd handle (λ held. HasCapacities held.evaluation)

-- the encoding of an evaluation that wasn't started: addresses of 8 bytes, in the 32-bit format of version 5
abbrev pub first_encoding : Encoding
first_encoding = record { address_size = 8; format = Dwarf32; version = 5 }

-- it has no bytes and is little-endian, and nothing was set or done
pub record IsUnstarted (held : Held) : Type 0 where
  pub status : held.evaluation.status ≡ Start None
  pub setup : held.evaluation.setup ≡ limited_setup first_encoding
  pub text : held.evaluation.text ≡ record { bytes = []; is_big = false }
  pub object_address : held.evaluation.store.settings.object_address ≡ None
  pub maximum : held.evaluation.store.settings.maximum ≡ most_operations
  pub order : is_big_of held.order ≡ false

-- ---- the steps so far

-- These steps were done, each allowed in its turn, and led to the new state, as `replay` does them. The state is where
-- they lead, and has the last settings unless it met a fault. For all answers to come, it goes on as the meaning says.
pub record HasDone (first : State) (steps : List Step) (new : State) : Type 0 where
  pub replies : List Reply
  pub log : Log
  pub are_done : AreDoneFrom first steps replies log Never
  pub stands : StandsAt log new (outcome_by first log)
  pub leaves : Leaves first steps replies new new.status
  pub setup : new.setup ≡ first.setup
  pub settings : faults_in new.status ≡ 0 → new.store.settings ≡ log.now.settings
  pub spends : Spends (initial_items steps) first new

-- it is where the steps lead for the first of the texts; without a text it is unchanged
abbrev pub StandsAfterFirst : Encoding → (first : Option Text) → List Step → (before after : Held) → Type 0
StandsAfterFirst encoding None steps before after = after ≡ before
StandsAfterFirst encoding (Some text) steps before after =
    (is_big_of after.order ≡ text.is_big) × HasDone (fresh_state (limited_setup encoding) text) steps after.evaluation
