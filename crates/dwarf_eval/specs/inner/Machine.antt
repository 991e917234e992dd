-- An evaluation as a state of the meaning: its readers are seen as texts and places.
use Rattle.std.specs.Prelude.{ℕ, List, Option, ◌*◌, ◌-◌, ◌≡◌, length, reverse, map}
use Rattle.std.specs.List.{AllByRecursion}
use Rattle.dwarf_base.specs.declared.common.Encoding.{Encoding}
use Rattle.dwarf_base.specs.Reads.{IsRestOf, Text}
use Rattle.dwarf_value.specs.declared.types.Value.{Value}
use Rattle.dwarf_value.specs.Values.{IsAddressMask, width_of}
use Rattle.dwarf_meaning.specs.Locations as meant
use Rattle.dwarf_meaning.specs.Requests as requests
use Rattle.dwarf_meaning.specs.Stores.{Store, Last, Nothing, Plain, Pieced, Pushed, Called, Located}
use Rattle.dwarf_meaning.specs.Inputs.{fresh_state}
use Rattle.dwarf_meaning.specs.Run.{Position}
use Rattle.dwarf_meaning.specs.Rest.{State, Status, Start, Running, RequestStatus, CompleteStatus, FaultStatus}
use Rattle.dwarf_meaning.specs.Refusals.{Limits, Never}
use Rattle.dwarf_op.specs.Views.{location_of, piece_of, reference_of}
use Rattle.dwarf_op.specs.declared.locations.Location.{Location}
use Rattle.dwarf_op.specs.declared.locations.Piece.{Piece}
use Rattle.dwarf_eval.specs.declared.run.states.LastOperation.{LastOperation}
use Rattle.dwarf_eval.specs.declared.run.states.LastOperation.TheVariants as last
use Rattle.dwarf_eval.specs.declared.run.states.EvaluationWaiting.{EvaluationWaiting}
use Rattle.dwarf_eval.specs.declared.run.states.EvaluationWaiting.TheVariants as waiting
use Rattle.dwarf_eval.specs.declared.run.states.EvaluationState.{EvaluationState}
use Rattle.dwarf_eval.specs.declared.run.states.EvaluationState.TheVariants as state

-- maps the kind of the last operation in the code to the definitions; `Located` gets the location that waits
abbrev pub last_of : LastOperation → meant.Location → Last
last_of last.Nothing location = Nothing
last_of last.Plain location = Plain
last_of last.Pieced location = Pieced
last_of last.Pushed location = Pushed
last_of last.Called location = Called
last_of last.Located location = Located location

module _ {R O : Type 0} (text : R → Text) (number : O → ℕ) where
  -- the request for what the code waits for
  abbrev pub request_of : EvaluationWaiting R O → requests.Request
  request_of (waiting.Memory address size space base_type) =
      requests.RequiresMemory address size space (number base_type.0)
  request_of (waiting.Register register base_type offset) = requests.RequiresRegister register.0 (number base_type.0)
  request_of (waiting.WasmLocal index) = requests.RequiresWasmLocal index
  request_of (waiting.WasmGlobal index) = requests.RequiresWasmGlobal index
  request_of (waiting.WasmStack index) = requests.RequiresWasmStack index
  request_of (waiting.FrameBase offset) = requests.RequiresFrameBase
  request_of (waiting.Tls index) = requests.RequiresTls index
  request_of waiting.CallFrameCfa = requests.RequiresCallFrameCfa
  request_of (waiting.AtLocation entry) = requests.RequiresAtLocation (reference_of number entry)
  request_of (waiting.EntryValue expression) = requests.RequiresEntryValue (text expression)
  request_of (waiting.ParameterRef parameter) = requests.RequiresParameterRef (number parameter.0)
  request_of (waiting.RelocatedAddress address) = requests.RequiresRelocatedAddress address
  request_of (waiting.IndexedAddress index relocate) = requests.RequiresIndexedAddress (number index.0) relocate
  request_of (waiting.TypedLiteral base_type value) = requests.RequiresBaseType (number base_type.0)
  request_of (waiting.Convert base_type) = requests.RequiresBaseType (number base_type.0)
  request_of (waiting.Reinterpret base_type) = requests.RequiresBaseType (number base_type.0)

  -- how its answer is used
  abbrev pub on_answer_of : EvaluationWaiting R O → requests.OnAnswer
  on_answer_of (waiting.Register register base_type offset) = requests.Add offset
  on_answer_of (waiting.FrameBase offset) = requests.Add offset
  on_answer_of (waiting.TypedLiteral base_type value) = requests.Parse (text value)
  on_answer_of (waiting.Convert base_type) = requests.Convert
  on_answer_of (waiting.Reinterpret base_type) = requests.Reinterpret
  on_answer_of _ = requests.Push

  -- maps a state of the code to a status of the definitions
  abbrev pub status_of : EvaluationState R O → Status
  status_of (state.Start initial_value) = Start initial_value
  status_of state.Running = Running
  status_of (state.Waiting waiting) = RequestStatus (request_of waiting) (on_answer_of waiting)
  status_of (state.Complete value) = CompleteStatus value
  status_of (state.Failed error) = FaultStatus error

-- the place in a text at which this rest of it begins
abbrev pub place_of : (whole left : Text) → ℕ
place_of whole left = length whole.bytes - length left.bytes

-- a caller, given its rest and all of it
abbrev pub caller_of : {R : Type 0} → (R → Text) → R × R → Position
caller_of text f = record { text = text f.1; place = place_of (text f.1) (text f.0) }

-- the callers, the innermost first
abbrev pub callers_of : {R : Type 0} → (R → Text) → List (R × R) → List Position
callers_of text readers = reverse (map (caller_of text) readers)

-- the store: the code's lists, with the top of the stack first
abbrev pub store_of : {R O : Type 0} → (R → Text) → (O → ℕ) → List Value → List (Piece R O) → ℕ → Option ℕ → ℕ
    → LastOperation → Location R O → Store
store_of text number values pieces count object_address maximum last location = record {
  values = reverse values;
  pieces = map (piece_of text number) pieces;
  count = count;
  settings = record { object_address = object_address; maximum = maximum };
  last = last_of last (location_of text number location);
  refusal = Never;
}

-- the limits of a machine's lists
abbrev pub limits_of : Option ℕ → Option ℕ → Option ℕ → Limits
limits_of values callers pieces = record { values = values; callers = callers; pieces = pieces }

-- a machine at the start of a text, over empty lists with these limits
abbrev pub fresh_machine : Limits → Encoding → (offset_bits : ℕ) → Text → State
fresh_machine limits encoding offset_bits text =
    fresh_state (record { encoding = encoding; offset_bits = offset_bits; limits = limits }) text

-- the mask has the encoding's address size, and each rest is a suffix of its text
pub record IsSound {R : Type 0} (text : R → Text) (encoding : Encoding) (addr_mask : ℕ) (whole left : R)
    (readers : List (R × R)) : Type 0 where
  pub mask : IsAddressMask addr_mask
  pub width : width_of addr_mask ≡ 8 * encoding.address_size
  pub here : IsRestOf (text left) (text whole)
  pub callers : AllByRecursion (λ (f : R × R). IsRestOf (text f.0) (text f.1)) readers
