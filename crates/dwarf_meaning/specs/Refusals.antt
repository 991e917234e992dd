-- The limits of the lists, and which push on a list without a limit is refused.
use Rattle.std.specs.Prelude.{ℕ, zero, suc, ◌≡◌, ◌⊎◌, nat_lt, Option, None, Some, Result, Ok, Err, if◌then◌else◌}
use Rattle.dwarf_base.specs.Faults.{Fault}
use Rattle.dwarf_base.specs.declared.errors.Error.TheVariants.{StackFull}

-- the most items that each list holds, if it has a limit
pub record Limits : Type 0 where
  pub values : Option ℕ
  pub callers : Option ℕ
  pub pieces : Option ℕ

-- Which push on a list without a limit is refused: none, or one. `After`: this many inputs come before the refused
-- push, and after them this many pushes on such lists.
pub data Refusal : Type 0 where
  Never : Refusal
  After : (inputs pushes : ℕ) → Refusal

-- ---- pushes

-- the refusal after a push on a list without a limit
abbrev pub refusal_after_push : Refusal → Result Refusal Fault
refusal_after_push Never = Ok Never
refusal_after_push (After zero zero) = Err StackFull
refusal_after_push (After zero (suc pushes)) = Ok (After zero pushes)
refusal_after_push (After (suc inputs) pushes) = Ok (After (suc inputs) pushes)

-- the refusal after a push on a list of n items with this limit
abbrev pub push_with_room : Option ℕ → (n : ℕ) → Refusal → Result Refusal Fault
push_with_room None n refusal = refusal_after_push refusal
push_with_room (Some limit) n refusal = if nat_lt n limit then Ok refusal else Err StackFull

-- ---- inputs

-- the refusal after an input is taken
abbrev pub refusal_after_input : Refusal → Refusal
refusal_after_input Never = Never
refusal_after_input (After zero pushes) = Never
refusal_after_input (After (suc inputs) pushes) = After inputs pushes

-- one of the lists has no limit
abbrev pub HasFreeList : Limits → Type 0
HasFreeList limits = (limits.values ≡ None) ⊎ (limits.callers ≡ None) ⊎ (limits.pieces ≡ None)

-- a refusal other than `Never` needs a list without a limit
abbrev pub MayPick : Limits → Refusal → Type 0
MayPick limits Never = Unit {0}
MayPick limits (After inputs pushes) = HasFreeList limits

-- the refusal as it was before the last input
abbrev pub before_input : Refusal → Refusal
before_input Never = Never
before_input (After inputs pushes) = After (suc inputs) pushes

-- the refusal as it was before the last n inputs
abbrev pub before_inputs : ℕ → Refusal → Refusal
before_inputs zero refusal = refusal
before_inputs (suc n) refusal = before_inputs n (before_input refusal)

-- no push is refused before the next input is taken
abbrev pub IsLater : Refusal → Type 0
IsLater (After zero pushes) = ⊥
IsLater _ = Unit {0}
