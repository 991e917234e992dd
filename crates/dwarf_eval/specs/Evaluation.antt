-- What a call of an evaluation replies, by the meaning of the expression, and where the evaluation then stands.
pub use Rattle.dwarf_meaning.specs.Inputs.{fresh_state, input_of, Keeps, with_status, with_object, with_maximum}
use Rattle.std.specs.Prelude.{ℕ, ◌≡◌, ◌<◌, ◌≤◌, List, [], Option, Some, None, Result, Ok, Err}
use Rattle.std.specs.Option.{option_map_or}
use Rattle.dwarf_base.specs.declared.errors.Error.{Error}
use Rattle.dwarf_base.specs.Faults.{fault_of}
use Rattle.dwarf_base.specs.Reads.{Text}
use Rattle.dwarf_value.specs.declared.types.Value.{Value}
use Rattle.dwarf_meaning.specs.Requests.{Request, RequiresMemory, RequiresRegister, RequiresWasmLocal, RequiresWasmGlobal, RequiresWasmStack, RequiresFrameBase, RequiresTls, RequiresCallFrameCfa, RequiresAtLocation, RequiresEntryValue, RequiresParameterRef, RequiresRelocatedAddress, RequiresIndexedAddress, RequiresBaseType, Input}
use Rattle.dwarf_meaning.specs.Refusals.{IsLater, MayPick, Refusal}
use Rattle.dwarf_meaning.specs.Rest.{State, Status, Start, RequestStatus, CompleteStatus, FaultStatus, Total, total, total_after}
use Rattle.dwarf_meaning.specs.Steps.{Reply, CompleteReply, RequestReply, FaultReply, reply}
use Rattle.dwarf_op.specs.Views.{reference_of}
use Rattle.dwarf_meaning.specs.Bounds.{Spends, faults_in}
use Rattle.dwarf_eval.specs.declared.op.results.EvaluationResult.{EvaluationResult}
use Rattle.dwarf_eval.specs.declared.op.results.EvaluationResult.TheVariants as result

-- ---- replies

module _ {R O : Type 0} (text : R → Text) (number : O → ℕ) where
  -- the request of a result, if it isn't completion
  abbrev pub request_in : EvaluationResult R O → Option Request
  request_in result.Complete = None
  request_in (result.RequiresMemory address size space type) = Some (RequiresMemory address size space (number type.0))
  request_in (result.RequiresRegister register base_type) = Some (RequiresRegister register.0 (number base_type.0))
  request_in (result.RequiresWasmLocal index) = Some (RequiresWasmLocal index)
  request_in (result.RequiresWasmGlobal index) = Some (RequiresWasmGlobal index)
  request_in (result.RequiresWasmStack index) = Some (RequiresWasmStack index)
  request_in result.RequiresFrameBase = Some RequiresFrameBase
  request_in (result.RequiresTls index) = Some (RequiresTls index)
  request_in result.RequiresCallFrameCfa = Some RequiresCallFrameCfa
  request_in (result.RequiresAtLocation offset) = Some (RequiresAtLocation (reference_of number offset))
  request_in (result.RequiresEntryValue expression) = Some (RequiresEntryValue (text expression.0))
  request_in (result.RequiresParameterRef offset) = Some (RequiresParameterRef (number offset.0))
  request_in (result.RequiresRelocatedAddress address) = Some (RequiresRelocatedAddress address)
  request_in (result.RequiresIndexedAddress index relocate) = Some (RequiresIndexedAddress (number index.0) relocate)
  request_in (result.RequiresBaseType base_type) = Some (RequiresBaseType (number base_type.0))

  -- the reply of a result: its request, or completion
  abbrev pub ok_reply : EvaluationResult R O → Reply
  ok_reply replied = option_map_or RequestReply (request_in replied) CompleteReply

  -- the reply of a call: that of its result, or its fault
  abbrev pub reply_of : Result (EvaluationResult R O) Error → Reply
  reply_of (Ok replied) = ok_reply replied
  reply_of (Err error) = FaultReply (fault_of error)

-- the status is that of the reply
abbrev pub IsReplied : Reply → Status → Type 0
IsReplied replied (RequestStatus request on_answer) = replied ≡ RequestReply request
IsReplied replied (CompleteStatus value) = replied ≡ CompleteReply
IsReplied replied (FaultStatus error) = replied ≡ FaultReply (fault_of error)
IsReplied replied _ = ⊥

-- For some refusal or none, a call gave the reply of `totals` and its count of operations. The setup and the settings
-- stay. If no fault was met, the new state has the total that `totals` gives, for all further inputs.
pub record Follows (old : State) (totals : Refusal → List Input → Total) (replied : Reply) (new : State) : Type 0 where
  pub refusal : Refusal
  pub may : MayPick old.setup.limits refusal
  pub reply : replied ≡ reply (totals refusal []).outcome
  pub count : new.store.count ≡ (totals refusal []).count
  pub status : IsReplied replied new.status
  pub more : faults_in new.status ≡ 0 → (r : Refusal) (inputs : List Input) → IsLater r
      → totals r inputs ≡ total new r inputs
  pub kept : Keeps old new
  pub spends : Spends 0 old new

module _ {R O : Type 0} (text : R → Text) (number : O → ℕ) where
  -- `evaluate`: at the start its reply is that of the meaning. After the end it replies the same again, and changes
  -- nothing. It isn't called while a request is open, and nothing runs between calls.
  abbrev pub Evaluates : State → State → Result (EvaluationResult R O) Error → Status → Type 0
  Evaluates old new replied (Start initial_value) = Follows old (total old) (reply_of text number replied) new
  Evaluates old new replied (CompleteStatus value) = (replied ≡ Ok result.Complete) × (new ≡ old)
  Evaluates old new replied (FaultStatus error) = (replied ≡ Err error) × (new ≡ old)
  Evaluates old new replied _ = ⊥

  -- a resume: it goes on with the input; after a fault it gives that fault, and changes nothing
  abbrev pub Resumes : Input → State → State → Result (EvaluationResult R O) Error → Status → Type 0
  Resumes input old new replied (RequestStatus request on_answer) =
      Follows old (total_after old input) (reply_of text number replied) new
  Resumes input old new replied (FaultStatus error) = (replied ≡ Err error) × (new ≡ old)
  Resumes input old new replied _ = Unit {0}

-- addresses have 1 to 8 bytes (DWARF 5, section 7.5.1.1)
abbrev pub IsAddressSize : ℕ → Type 0
IsAddressSize size = (0 < size) × (size ≤ 8)

-- no request is open
abbrev pub IsClosed : Status → Type 0
IsClosed (RequestStatus request on_answer) = ⊥
IsClosed _ = Unit {0}

-- the evaluation is complete
abbrev pub IsComplete : Status → Type 0
IsComplete (CompleteStatus value) = Unit {0}
IsComplete _ = ⊥

-- the evaluation is complete with this value
abbrev pub HasResult : Option Value → Status → Type 0
HasResult result (CompleteStatus value) = result ≡ value
HasResult result _ = ⊥
