-- Inputs and outcomes of two evaluations agree if they differ only above the address size (DWARF 5, sections 2.5.1 and
-- 2.6.1).
use Rattle.std.specs.Prelude.{ℕ, ℤ, ◌%◌, ◌^◌, ◌≡◌, List, Option, Some, None}
use Rattle.std.specs.List.{AllZip}
use Rattle.dwarf_base.specs.Faults.{Fault}
use Rattle.dwarf_base.specs.Reads.{Text}
use Rattle.dwarf_value.specs.declared.types.Value.{Value}
use Rattle.dwarf_value.specs.declared.types.ValueType.{ValueType}
use Rattle.dwarf_value.specs.Values.{Agree}
use Rattle.dwarf_meaning.specs.Locations.{Location, HoldsValue, Piece}
use Rattle.dwarf_meaning.specs.declared.kinds.WaitingKind.{WaitingKind}
use Rattle.dwarf_meaning.specs.Requests.{Request, OnAnswer, Answer, ValueAnswer, NumberAnswer, LocationAnswer, BaseTypeAnswer, Settings, Input}
use Rattle.dwarf_meaning.specs.Acts.{Act, Pushes, Branches, Locates, EndsPiece, RequestAct, FaultAct, Use, PushesAnswer, Calls, FaultUse}
use Rattle.dwarf_meaning.specs.Run.{Position}
use Rattle.dwarf_meaning.specs.Meaning.{Outcome, RequestOutcome, FaultOutcome, CompleteOutcome, First}
use Rattle.dwarf_meaning.specs.Steps.{Step, InitialValue, ObjectAddress, MaxIterations, Evaluate, Resume, Log}

-- both are absent, or both are there and related
pub data Both {A : Type 0} (R : A → A → Type 0) : Option A → Option A → Type 0 where
  nothing : Both R None None
  something : {x y : A} → R x y → Both R (Some x) (Some y)

-- ---- inputs; an address has w bits

-- two numbers are congruent modulo 2 ^ w
abbrev pub AgreeingNumbers : (w : ℕ) → (first second : ℕ) → Type 0
AgreeingNumbers w first second = first % 2 ^ w ≡ second % 2 ^ w

-- answers of one kind: numbers and values agree, and texts and types are the same
pub data AgreeingAnswers (w : ℕ) : Answer → Answer → Type 0 where
  value : {kind : WaitingKind} {x y : Value} → Agree w x y → AgreeingAnswers w (ValueAnswer kind x) (ValueAnswer kind y)
  number : {kind : WaitingKind} {m n : ℕ} → AgreeingNumbers w m n
      → AgreeingAnswers w (NumberAnswer kind m) (NumberAnswer kind n)
  location : {text : Text} → AgreeingAnswers w (LocationAnswer text) (LocationAnswer text)
  base_type : {value_type : ValueType} → AgreeingAnswers w (BaseTypeAnswer value_type) (BaseTypeAnswer value_type)

-- steps of one kind; the maximum is the same
pub data AgreeingSteps (w : ℕ) : Step → Step → Type 0 where
  initial_value : {m n : ℕ} → AgreeingNumbers w m n → AgreeingSteps w (InitialValue m) (InitialValue n)
  object_address : {m n : ℕ} → AgreeingNumbers w m n → AgreeingSteps w (ObjectAddress m) (ObjectAddress n)
  max_iterations : {maximum : ℕ} → AgreeingSteps w (MaxIterations maximum) (MaxIterations maximum)
  evaluate : AgreeingSteps w Evaluate Evaluate
  resume : {first second : Answer} → AgreeingAnswers w first second → AgreeingSteps w (Resume first) (Resume second)

-- the same maximum, and agreeing object addresses, set on both sides or on neither
pub record AgreeingSettings (w : ℕ) (first second : Settings) : Type 0 where
  pub object_address : Both (AgreeingNumbers w) first.object_address second.object_address
  pub maximum : first.maximum ≡ second.maximum

-- agreeing settings, and agreeing initial values, set on both sides or on neither
pub record AgreeingFirsts (w : ℕ) (first second : First) : Type 0 where
  pub initial_value : Both (AgreeingNumbers w) first.initial_value second.initial_value
  pub settings : AgreeingSettings w first.settings second.settings

-- agreeing answers, with agreeing settings
pub record AgreeingInputs (w : ℕ) (first second : Input) : Type 0 where
  pub settings : AgreeingSettings w first.settings second.settings
  pub answer : AgreeingAnswers w first.answer second.answer

-- logs with agreeing settings and answers, started on both sides or on neither
pub record AgreeingLogs (w : ℕ) (log other : Log) : Type 0 where
  pub now : AgreeingFirsts w log.now other.now
  pub first : Both (AgreeingFirsts w) log.first other.first
  pub inputs : AllZip (AgreeingInputs w) log.inputs other.inputs

-- ---- outcomes

-- the same location, or two agreeing values
pub data AgreeingLocations (w : ℕ) : Location → Location → Type 0 where
  same : {location : Location} → AgreeingLocations w location location
  values : {x y : Value} → Agree w x y → AgreeingLocations w (HoldsValue x) (HoldsValue y)

-- the same size and offset in bits, and agreeing locations
pub record AgreeingPieces (w : ℕ) (first second : Piece) : Type 0 where
  pub sizes : first.size_in_bits ≡ second.size_in_bits
  pub offsets : first.bit_offset ≡ second.bit_offset
  pub locations : AgreeingLocations w first.location second.location

-- the same request with the same open texts and places, the same fault, or agreeing pieces and values
pub data AgreeingOutcomes (w : ℕ) : Outcome → Outcome → Type 0 where
  requests : {request : Request} {positions : List Position}
      → AgreeingOutcomes w (RequestOutcome request positions) (RequestOutcome request positions)
  faults : {fault : Fault} → AgreeingOutcomes w (FaultOutcome fault) (FaultOutcome fault)
  completions : {pieces others : List Piece} {value other : Option Value}
      → AllZip (AgreeingPieces w) pieces others → Both (Agree w) value other
      → AgreeingOutcomes w (CompleteOutcome pieces value) (CompleteOutcome others other)

-- ---- what operations and answers do

-- values that agree, one by one
abbrev pub AgreeingStacks : (w : ℕ) → (values others : List Value) → Type 0
AgreeingStacks w = AllZip (Agree w)

-- the same, but for the values of the stacks and those that are pushed or in a location, which agree
pub data AgreeingActs (w : ℕ) : Act → Act → Type 0 where
  pushes : {rest other pushed others : List Value} → AgreeingStacks w rest other → AgreeingStacks w pushed others
      → AgreeingActs w (Pushes rest pushed) (Pushes other others)
  branches : {rest other : List Value} {target : ℤ} → AgreeingStacks w rest other
      → AgreeingActs w (Branches rest target) (Branches other target)
  locates : {rest other : List Value} {first second : Location} → AgreeingStacks w rest other
      → AgreeingLocations w first second → AgreeingActs w (Locates rest first) (Locates other second)
  ends_piece : {rest other : List Value} {first second : Piece} → AgreeingStacks w rest other
      → AgreeingPieces w first second → AgreeingActs w (EndsPiece rest first) (EndsPiece other second)
  request_act : {rest other : List Value} {request : Request} {on_answer : OnAnswer} → AgreeingStacks w rest other
      → AgreeingActs w (RequestAct rest request on_answer) (RequestAct other request on_answer)
  fault_act : {fault : Fault} → AgreeingActs w (FaultAct fault) (FaultAct fault)

-- agreeing values on agreeing stacks, the same called text, or the same fault
pub data AgreeingUses (w : ℕ) : Use → Use → Type 0 where
  pushes_answer : {rest other : List Value} {x y : Value} → AgreeingStacks w rest other → Agree w x y
      → AgreeingUses w (PushesAnswer rest x) (PushesAnswer other y)
  calls : {text : Text} → AgreeingUses w (Calls text) (Calls text)
  fault_use : {fault : Fault} → AgreeingUses w (FaultUse fault) (FaultUse fault)
