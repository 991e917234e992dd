-- Bounds on how many items an evaluation keeps and how often it decodes, by the number of operations that it counted
-- (DWARF 5, section 2.5).
use Rattle.std.specs.Prelude.{ℕ, ◌+◌, ◌-◌, ◌*◌, ◌≤◌, ◌≡◌, Bool, true, false, ◌&&◌, IsTrue, List, [], ◌∷◌, Some, is_some, length, count_by}
use Rattle.std.specs.List.{list_all}
use Rattle.dwarf_meaning.specs.Locations.{Location, Empty, AtAddress, Piece}
use Rattle.dwarf_meaning.specs.Run.{most_operations}
use Rattle.dwarf_meaning.specs.Stores.{Last, Located}
use Rattle.dwarf_meaning.specs.Rest.{State, Status, Start, RequestStatus, CompleteStatus, FaultStatus}

-- the location that waits for its piece, if there is one; none once the evaluation is over
abbrev pub waiting : Last → Status → List Location
waiting last (CompleteStatus value) = []
waiting last (FaultStatus error) = []
waiting (Located location) _ = location ∷ []
waiting _ _ = []

-- 1 if an initial value is still to be pushed
abbrev pub initial_due : Status → ℕ
initial_due (Start (Some number)) = 1
initial_due _ = 0

-- 1 if an answer is still to come: a value, or a called text and its caller
abbrev pub answer_due : Status → ℕ
answer_due (RequestStatus request on_answer) = 1
answer_due _ = 0

-- how many callers there are, plus 1 if an answer is still to come
abbrev pub caller_count : State → ℕ
caller_count x = length x.callers + answer_due x.status

-- how many items the three lists have together, plus those that are still to come
abbrev pub item_count : State → ℕ
item_count x = caller_count x + length x.store.values + initial_due x.status
    + length x.store.pieces + length (waiting x.store.last x.status)

-- how often the evaluation decoded, plus 1 if a piece is still to come
abbrev pub decoding_count : State → ℕ
decoding_count x = x.decodings + length (waiting x.store.last x.status)

-- whether an operation gives this location; a piece by itself is empty or at an address (section 2.6.1.2)
abbrev pub is_given : Location → Bool
is_given Empty = false
is_given (AtAddress address) = false
is_given _ = true

-- how many pieces ended a location; the piece without a size, the whole variable, ended none
abbrev pub endings : List Piece → ℕ
endings pieces = count_by (λ (piece : Piece). is_some piece.size_in_bits && is_given piece.location) pieces

-- 1 if a fault was met
abbrev pub faults_in : Status → ℕ
faults_in (FaultStatus error) = 1
faults_in _ = 0

-- Each counted operation was decoded once, and so was each piece that ended a location. Nothing else was decoded,
-- except an operation in place of such a piece, which is a fault. If a location waits, an operation gave it.
pub record DecodesOnce (x : State) : Type 0 where
  pub each : x.store.count + endings x.store.pieces ≤ x.decodings
  pub no_other : x.decodings ≤ x.store.count + endings x.store.pieces + faults_in x.status
  pub given : IsTrue (list_all is_given (waiting x.store.last x.status))

-- From the old state to the new one, each counted operation added at most one item, one caller and two decodings. Up to
-- `more` items may have been added besides. `DecodesOnce` of the old state gives that of the new one.
pub record Spends (more : ℕ) (old new : State) : Type 0 where
  pub items : item_count new + old.store.count ≤ item_count old + new.store.count + more
  pub callers : caller_count new + old.store.count ≤ caller_count old + new.store.count
  pub decodings : decoding_count new + 2 * old.store.count ≤ decoding_count old + 2 * new.store.count
  pub once : DecodesOnce old → DecodesOnce new

-- Nothing is counted, kept or decoded, and nothing is still to come.
pub record IsUnspent (x : State) : Type 0 where
  pub items : item_count x ≡ 0
  pub callers : caller_count x ≡ 0
  pub decodings : decoding_count x ≡ 0
  pub count : x.store.count ≡ 0
  pub once : DecodesOnce x

-- How many more resumes there may be, by the status. It falls at the end, and with each request, since each operation
-- that asks is counted.
abbrev pub calls_left_by : State → Status → ℕ
calls_left_by x (CompleteStatus value) = 0
calls_left_by x (FaultStatus error) = 0
calls_left_by x _ = most_operations - x.store.count + 1

-- how many more resumes there may be
abbrev pub calls_left : State → ℕ
calls_left x = calls_left_by x x.status
