-- What a run keeps besides texts and places, and when its lists take another item (DWARF 5, sections 2.5.1, 2.5.1.5 and
-- 2.6.1.2).
use Rattle.std.specs.Prelude.{ℕ, ◌*◌, ◌≤◌, ℤ, pos, ◌+ℤ◌, List, [], ◌∷◌, ◌++◌, Option, Some, None, Result, Ok, Err, length, nat_lt, if◌then◌else◌}
use Rattle.dwarf_base.specs.declared.common.Encoding.{Encoding}
use Rattle.dwarf_base.specs.Faults.{Fault, ◌>>=◌}
use Rattle.dwarf_base.specs.declared.errors.Error.TheVariants.{BadBranchTarget}
use Rattle.dwarf_base.specs.Numbers.{residue}
use Rattle.dwarf_value.specs.declared.types.Value.{Value}
use Rattle.dwarf_meaning.specs.Locations.{Location, Piece}
use Rattle.dwarf_meaning.specs.Requests.{Request, OnAnswer, Settings}
use Rattle.dwarf_meaning.specs.Acts.{Act, Pushes, Branches, Locates, EndsPiece, RequestAct, FaultAct}
use Rattle.dwarf_meaning.specs.Refusals.{Limits, Refusal, push_with_room}

-- no more than the limit, if there is one
abbrev pub IsWithin : (limit : Option ℕ) → ℕ → Type 0
IsWithin None n = Unit {0}
IsWithin (Some limit) n = n ≤ limit

-- what stays the same through a run: the unit's encoding, the bits of an offset, the limits of the lists
pub record Setup : Type 0 where
  pub encoding : Encoding
  pub offset_bits : ℕ
  pub limits : Limits

-- the setup with this encoding, the bits of an offset, and a limit for each list
abbrev pub setup_of : Encoding → ℕ → Option ℕ → Option ℕ → Option ℕ → Setup
setup_of encoding offset_bits values callers pieces = record {
  encoding = encoding;
  offset_bits = offset_bits;
  limits = record { values = values; callers = callers; pieces = pieces };
}

-- how many bits an address has
abbrev pub address_bits : Setup → ℕ
address_bits setup = 8 * setup.encoding.address_size

-- The kind of the last operation. `Nothing`: there was none yet. `Plain`: it asked nothing, gave no location and ended
-- no piece. `Pieced`: it ended a piece. `Pushed`: its answer was pushed. `Called`: it was a call, and the answer was an
-- empty text. `Located`: its location waits for a piece.
pub data Last : Type 0 where
  Nothing Plain Pieced Pushed Called : Last
  Located : (location : Location) → Last

-- what a run keeps
pub record Store : Type 0 where
  -- the top first
  pub values : List Value
  -- in order
  pub pieces : List Piece
  -- how many operations were counted
  pub count : ℕ
  pub settings : Settings
  pub last : Last
  pub refusal : Refusal

-- ---- pushes

module _ (setup : Setup) where
  -- a value, on top
  unfoldable pub push_value : Value → Store → Result Store Fault
  push_value value s = push_with_room setup.limits.values (length s.values) s.refusal
      >>= λ left. Ok (record s { values = value ∷ s.values; refusal = left })

  -- a piece, after the others
  unfoldable pub push_piece : Piece → Store → Result Store Fault
  push_piece piece s = push_with_room setup.limits.pieces (length s.pieces) s.refusal
      >>= λ left. Ok (record s { pieces = s.pieces ++ piece ∷ []; refusal = left })

  -- a caller, on top of `depth` others
  unfoldable pub push_caller : (depth : ℕ) → Store → Result Store Fault
  push_caller depth s = push_with_room setup.limits.callers depth s.refusal >>= λ left. Ok (record s { refusal = left })

  -- values in order, the last on top
  abbrev pub push_values : List Value → Store → Result Store Fault
  push_values [] s = Ok s
  push_values (value ∷ values) s = push_value value s >>= push_values values

-- ---- operations

-- what an operation leads to: a place of its text, a request, or a fault
pub data Next : Type 0 where
  Goes : (place : ℕ) → Store → Next
  RequestNext : Request → OnAnswer → Store → Next
  FaultNext : Fault → Next

-- the run goes on at this place; a refused push is a fault
abbrev pub next_at : (place : ℕ) → Result Store Fault → Next
next_at place (Ok s) = Goes place s
next_at place (Err fault) = FaultNext fault

-- the target of a branch, relative to the place after the branch; offsets wrap
abbrev pub branch_target : Setup → (place : ℕ) → ℤ → ℕ
branch_target setup place target = residue setup.offset_bits (pos place +ℤ target)

-- a branch to a place of a text of this length, or to its end; any other place is a fault
abbrev pub branch : (len place : ℕ) → Store → Next
branch len place s = if nat_lt len place then FaultNext (BadBranchTarget place) else Goes place s

module _ (setup : Setup) (place len : ℕ) where
  -- What an operation does to the store. `place` is the place after it, in a text of length `len`.
  abbrev pub do_act : Act → Store → Next
  do_act (Pushes rest pushed) s = next_at place (push_values setup pushed (record s { values = rest; last = Plain }))
  do_act (Branches rest target) s =
      branch len (branch_target setup place target) (record s { values = rest; last = Plain })
  do_act (Locates rest location) s = Goes place (record s { values = rest; last = Located location })
  do_act (EndsPiece rest piece) s = next_at place (push_piece setup piece (record s { values = rest; last = Pieced }))
  do_act (RequestAct rest request on_answer) s = RequestNext request on_answer (record s { values = rest })
  do_act (FaultAct fault) s = FaultNext fault
