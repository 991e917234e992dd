-- What an evaluation asks its caller for, and the answers (DWARF 5, sections 2.5 and 2.6).
use Rattle.std.specs.Prelude.{ℕ, ℤ, Bool, Option}
use Rattle.dwarf_base.specs.Reads.{Text}
use Rattle.dwarf_value.specs.declared.types.Value.{Value}
use Rattle.dwarf_value.specs.declared.types.ValueType.{ValueType}
use Rattle.dwarf_meaning.specs.Operations.{DieReference}
use Rattle.dwarf_meaning.specs.declared.kinds.WaitingKind.{WaitingKind}

-- a request, with what it asks for
pub data Request : Type 0 where
  RequiresMemory : (address size : ℕ) (space : Option ℕ) (base_type : ℕ) → Request
  RequiresRegister : (register base_type : ℕ) → Request
  RequiresWasmLocal RequiresWasmGlobal RequiresWasmStack RequiresTls : (index : ℕ) → Request
  RequiresFrameBase RequiresCallFrameCfa : Request
  RequiresAtLocation : (offset : DieReference) → Request
  RequiresEntryValue : (expression : Text) → Request
  RequiresParameterRef : (offset : ℕ) → Request
  RequiresRelocatedAddress : (address : ℕ) → Request
  RequiresIndexedAddress : (index : ℕ) (relocate : Bool) → Request
  RequiresBaseType : (base_type : ℕ) → Request

-- how the answer to a request is used
pub data OnAnswer : Type 0 where
  -- a value or a number is pushed as it is, and a text is run
  Push : OnAnswer
  -- the sum with this offset is pushed
  Add : (offset : ℤ) → OnAnswer
  -- the literal's bytes are pushed, as a value of the type that was answered
  Parse : (literal : Text) → OnAnswer
  -- the top is converted to the type that was answered: by its number, or by its bits
  Convert Reinterpret : OnAnswer

-- an answer: a value or a number of the kind that was asked for, a text, or a type
pub data Answer : Type 0 where
  ValueAnswer : (kind : WaitingKind) (value : Value) → Answer
  NumberAnswer : (kind : WaitingKind) (number : ℕ) → Answer
  LocationAnswer : (text : Text) → Answer
  BaseTypeAnswer : (value_type : ValueType) → Answer

-- the settings in force: the address of the described object, if it is known, and the maximum number of operations
pub record Settings : Type 0 where
  pub object_address : Option ℕ
  pub maximum : ℕ

-- an answer, and the settings that hold from then on
pub record Input : Type 0 where
  pub settings : Settings
  pub answer : Answer
