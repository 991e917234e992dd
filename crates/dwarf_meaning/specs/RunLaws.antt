-- Laws of runs: turns, inputs, counts, limits and calls (DWARF 5, section 2.5).
use Rattle.std.specs.Prelude.{ℕ, ◌+◌, ◌-◌, ◌*◌, ◌<◌, ◌≤◌, ◌≡◌, List, [], ◌∷◌, ◌++◌, Option, length, All, Any}
use Rattle.dwarf_meaning.specs.Requests.{Request, Input, LocationAnswer}
use Rattle.dwarf_meaning.specs.Stores.{IsWithin, Store, Last, Located}
use Rattle.dwarf_meaning.specs.Run.{Position, End, CompleteEnd, RequestEnd, FaultEnd, Course, most_operations}
use Rattle.dwarf_meaning.specs.Meaning.{Outcome, RequestOutcome, FaultOutcome, CompleteOutcome}
use Rattle.dwarf_meaning.specs.Refusals.{Limits}
use Rattle.dwarf_base.specs.Reads.{Text}

-- ---- turns

-- 1 if a location waits for its piece
abbrev pub waits_of : Last → ℕ
waits_of (Located location) = 1
waits_of _ = 0

-- how many more turns can read an operation
abbrev pub turns_left : Store → ℕ
turns_left s = 2 * (most_operations - s.count) + waits_of s.last

-- ---- inputs

-- the run doesn't wait for another input
abbrev pub IsSettled : End → Type 0
IsSettled (RequestEnd request positions []) = ⊥
IsSettled _ = Unit {0}

-- the same end, with more inputs left
abbrev pub end_before : List Input → End → End
end_before more (CompleteEnd s left) = CompleteEnd s (left ++ more)
end_before more (RequestEnd request positions left) = RequestEnd request positions (left ++ more)
end_before more (FaultEnd fault) = FaultEnd fault

-- the same path and requests, with more inputs left
abbrev pub course_before : List Input → Course → Course
course_before more course = record course { end = end_before more course.end }

-- the first inputs were taken, one for each request that was answered, and the others are left
pub record Took (inputs left : List Input) (answered : List Request) : Type 0 where
  pub taken : List Input
  pub split : inputs ≡ taken ++ left
  pub one_each : length taken ≡ length answered

-- the request was asked last, and those before it were answered
pub record IsAskedLast (inputs left : List Input) (request : Request) (requests : List Request) : Type 0 where
  pub answered : List Request
  pub last : requests ≡ answered ++ request ∷ []
  pub took : Took inputs left answered

-- each request took one input, except the request that is open
abbrev pub EndTook : List Input → List Request → End → Type 0
EndTook inputs requests (CompleteEnd s left) = Took inputs left requests
EndTook inputs requests (RequestEnd request positions left) = IsAskedLast inputs left request requests
EndTook inputs requests (FaultEnd fault) = length requests ≤ length inputs

-- ---- counts

-- no input sets a maximum beyond the bound
abbrev pub MaximaWithin : (bound : ℕ) → List Input → Type 0
MaximaWithin bound inputs = All (λ (input : Input). input.settings.maximum ≤ bound) inputs

-- if the run ends at the end of its text, P holds of the store
abbrev pub AtEnd : (Store → Type 0) → End → Type 0
AtEnd P (CompleteEnd s left) = P s
AtEnd P _ = Unit {0}

-- If `start` operations were counted before, at most `bound` are counted in all.
pub record CountsWithin (bound start : ℕ) (course : Course) : Type 0 where
  pub few : length course.path ≤ bound - start
  pub count : AtEnd (λ s. s.count ≤ bound) course.end

-- ---- limits

-- the values and the pieces are within their limits
pub record ListsWithin (limits : Limits) (s : Store) : Type 0 where
  pub values : IsWithin limits.values (length s.values)
  pub pieces : IsWithin limits.pieces (length s.pieces)

-- the open texts when a text runs at this depth of calls: its callees, no more than the limit of callers allows, and
-- then the text itself
pub record OpenTexts (limit : Option ℕ) (text : Text) (depth : ℕ) (positions : List Position) : Type 0 where
  pub callees : List Position
  pub place : ℕ
  pub itself : positions ≡ callees ++ record { text = text; place = place } ∷ []
  pub one_more : length positions ≡ length callees + 1
  pub within : IsWithin limit (depth + length callees)

-- the lists at the end of the text, or the open texts in a request, are within the limits
abbrev pub EndWithin : Limits → Text → (depth : ℕ) → End → Type 0
EndWithin limits text depth (CompleteEnd s left) = ListsWithin limits s
EndWithin limits text depth (RequestEnd request positions left) = OpenTexts limits.callers text depth positions
EndWithin limits text depth (FaultEnd fault) = Unit {0}

-- the open texts, or the pieces, are within the limits
abbrev pub OutcomeWithin : Limits → Text → Outcome → Type 0
OutcomeWithin limits text (RequestOutcome request positions) = OpenTexts limits.callers text 0 positions
OutcomeWithin limits text (FaultOutcome fault) = Unit {0}
OutcomeWithin limits text (CompleteOutcome pieces value) = IsWithin limits.pieces (length pieces)

-- the outermost text: that of the last caller, or the text itself if there is none
abbrev pub outermost : Text → (callers : List Position) → Text
outermost text [] = text
outermost text (caller ∷ callers) = outermost caller.text callers

-- ---- calls

-- a text of at least one byte that answers a call
pub record IsCallee (inputs : List Input) (text : Text) : Type 0 where
  pub answered : Any (λ (input : Input). input.answer ≡ LocationAnswer text) inputs
  pub some_bytes : 0 < length text.bytes

-- the open texts when a text runs: the text alone, or the open texts of its callee and then the text
pub data Open (inputs : List Input) : Text → List Position → Type 0 where
  alone : (position : Position) → Open inputs position.text (position ∷ [])
  calling : (position : Position) (callee : Text) (positions : List Position) → IsCallee inputs callee
      → Open inputs callee positions
      → Open inputs position.text (positions ++ position ∷ [])

-- if the outcome is a request, its open texts are the text and callees
abbrev pub OutcomeOpen : List Input → Text → Outcome → Type 0
OutcomeOpen inputs text (RequestOutcome request positions) = Open inputs text positions
OutcomeOpen inputs text _ = Unit {0}
