-- What each operation does with the stack, apart from the lists' limits (DWARF 5, sections 2.5.1 and 2.6.1).
use Rattle.std.specs.Prelude.{ℕ, ◌*◌, ℤ, ◌==◌, pos, ◌+ℤ◌, true, false, List, [], ◌∷◌, Option, Some, None, Result, Ok, Err, nat_lt, slice_get, if◌then◌else◌}
use Rattle.std.specs.Option.{option_map_or}
use Rattle.dwarf_base.specs.declared.errors.Error.{Error}
use Rattle.dwarf_base.specs.Faults.{Fault, fault_of}
use Rattle.dwarf_base.specs.declared.errors.Error.TheVariants.{NotEnoughStackItems, InvalidDerefSize, InvalidPushObjectAddress, UnsupportedEvaluation}
use Rattle.dwarf_base.specs.Numbers.{residue}
use Rattle.dwarf_base.specs.Reads.{Text}
use Rattle.dwarf_value.specs.declared.types.Value.{Value}
use Rattle.dwarf_value.specs.declared.types.Value.TheVariants.{Generic}
use Rattle.dwarf_value.specs.Values.{type_of, to_u64_of, from_u64_of, convert_of, reinterpret_of, parse_of, unary_of, binary_of, Plus}
use Rattle.dwarf_meaning.specs.Operations as operation
use Rattle.dwarf_meaning.specs.Operations.{Operation, UnsignedConstant, SignedConstant, Address, AddressIndex, ConstantIndex, TypedLiteral, FrameOffset, RegisterOffset, Drop, Swap, Rot, Pick, Deref, PushObjectAddress, TLS, CallFrameCFA, Unary, PlusConstant, Binary, Skip, Bra, Call, Convert, Reinterpret, Nop, EntryValue, Register, ImplicitValue, StackValue, ImplicitPointer, Uninitialized, ParameterRef, VariableValue, WasmLocal, WasmGlobal, WasmStack}
use Rattle.dwarf_meaning.specs.Locations.{Location, Empty, InRegister, AtAddress, HoldsValue, HoldsBytes, PointsInto, Piece, sized_piece}
use Rattle.dwarf_meaning.specs.Requests.{Request, RequiresMemory, RequiresRegister, RequiresWasmLocal, RequiresWasmGlobal, RequiresWasmStack, RequiresFrameBase, RequiresTls, RequiresCallFrameCfa, RequiresAtLocation, RequiresEntryValue, RequiresParameterRef, RequiresRelocatedAddress, RequiresIndexedAddress, RequiresBaseType, OnAnswer, Push, Add, Parse, Convert, Reinterpret, Answer, ValueAnswer, NumberAnswer, LocationAnswer, BaseTypeAnswer}

-- What an operation does. `rest` is the stack after the operation's pops, the top first.
pub data Act : Type 0 where
  -- values are pushed, in this order
  Pushes : (rest pushed : List Value) → Act
  -- a branch is taken
  Branches : (rest : List Value) (target : ℤ) → Act
  -- a location is given
  Locates : (rest : List Value) (location : Location) → Act
  -- a piece is ended
  EndsPiece : (rest : List Value) (piece : Piece) → Act
  -- something is asked
  RequestAct : (rest : List Value) (request : Request) (on_answer : OnAnswer) → Act
  FaultAct : (fault : Fault) → Act

-- ---- abbreviations for the tables below

-- `go` of the top of a stack and the values below it; `none` if the stack is empty
unfoldable pub on_top : {A : Type 0} → List Value → A → (Value → List Value → A) → A
on_top [] none go = none
on_top (x ∷ rest) none go = go x rest

-- `go` of the value that a call on values returns; `faulted` of its error, as a fault
unfoldable pub on_result : {X A : Type 0} → Result X Error → (Fault → A) → (X → A) → A
on_result (Ok x) faulted go = go x
on_result (Err error) faulted go = faulted (fault_of error)

-- there is no value to pop
abbrev pub underflow : Act
underflow = FaultAct NotEnoughStackItems

-- one value is pushed
abbrev pub push : List Value → Value → Act
push rest value = Pushes rest (value ∷ [])

-- the result of a call replaces the top
abbrev pub unary : (Value → Result Value Error) → List Value → Act
unary call values = on_top values underflow (λ x rest. on_result (call x) FaultAct (push rest))

-- the result of a call replaces the two values on top
abbrev pub binary : (Value → Value → Result Value Error) → List Value → Act
binary call values =
    on_top values underflow (λ y below. on_top below underflow (λ x rest. on_result (call x y) FaultAct (push rest)))

-- ---- operations that are done at once, and those that ask

-- An address has `bits` bits. `object` is the address of the described object, if it is known.
module _ (bits : ℕ) (object : Option ℕ) where
  -- what an operation does with the values on the stack
  unfoldable pub act : Operation → List Value → Act
  act Drop values = on_top values underflow (λ x rest. Pushes rest [])
  act (Pick index) values = option_map_or (push values) (slice_get values index) underflow
  act Swap (y ∷ x ∷ rest) = Pushes rest (y ∷ x ∷ [])
  act Swap _ = underflow
  act Rot (z ∷ y ∷ x ∷ rest) = Pushes rest (z ∷ x ∷ y ∷ [])
  act Rot _ = underflow
  act (Unary op) values = unary (unary_of op bits) values
  act (Binary op) values = binary (binary_of op bits) values
  act (PlusConstant value) values = unary (λ x. binary_of Plus bits x (from_u64_of (type_of x) value)) values
  act (UnsignedConstant value) values = push values (Generic value)
  act (SignedConstant value) values = push values (Generic (residue 64 value))
  act PushObjectAddress values =
      option_map_or (λ address. push values (Generic address)) object (FaultAct InvalidPushObjectAddress)
  act (Bra target) values =
      on_top values underflow (λ x rest. if to_u64_of bits x == 0 then Pushes rest [] else Branches rest target)
  act (Skip target) values = Branches values target
  act Nop values = Pushes values []
  act (VariableValue offset) values = FaultAct UnsupportedEvaluation
  act Uninitialized values = FaultAct UnsupportedEvaluation
  act (Deref base_type size false) values =
      if nat_lt bits (8 * size) then FaultAct (InvalidDerefSize size)
      else on_top values underflow
      (λ x rest. RequestAct rest (RequiresMemory (to_u64_of bits x) size None base_type) Push)
  act (Deref base_type size true) values =
      if nat_lt bits (8 * size) then FaultAct (InvalidDerefSize size)
      else on_top values underflow (λ x below. on_top below underflow (λ y rest.
      RequestAct rest (RequiresMemory (to_u64_of bits x) size (Some (to_u64_of bits y)) base_type) Push))
  act (RegisterOffset register offset type) values = RequestAct values (RequiresRegister register type) (Add offset)
  act (FrameOffset offset) values = RequestAct values RequiresFrameBase (Add offset)
  act TLS values = on_top values underflow (λ x rest. RequestAct rest (RequiresTls (to_u64_of bits x)) Push)
  act CallFrameCFA values = RequestAct values RequiresCallFrameCfa Push
  act (Call offset) values = RequestAct values (RequiresAtLocation offset) Push
  act (EntryValue expression) values = RequestAct values (RequiresEntryValue expression) Push
  act (ParameterRef offset) values = RequestAct values (RequiresParameterRef offset) Push
  act (Address address) values = RequestAct values (RequiresRelocatedAddress address) Push
  act (AddressIndex index) values = RequestAct values (RequiresIndexedAddress index true) Push
  act (ConstantIndex index) values = RequestAct values (RequiresIndexedAddress index false) Push
  act (TypedLiteral base_type value) values = RequestAct values (RequiresBaseType base_type) (Parse value)
  act (Convert base_type) values = RequestAct values (RequiresBaseType base_type) Convert
  act (Reinterpret base_type) values = RequestAct values (RequiresBaseType base_type) Reinterpret
  act (WasmLocal index) values = RequestAct values (RequiresWasmLocal index) Push
  act (WasmGlobal index) values = RequestAct values (RequiresWasmGlobal index) Push
  act (WasmStack index) values = RequestAct values (RequiresWasmStack index) Push
  act (Register register) values = Locates values (InRegister register)
  act (ImplicitValue bytes) values = Locates values (HoldsBytes bytes)
  act StackValue values = on_top values underflow (λ x rest. Locates rest (HoldsValue x))
  act (ImplicitPointer value byte_offset) values = Locates values (PointsInto value byte_offset)
  act (operation.Piece size offset) values = on_top values (EndsPiece [] (sized_piece size offset Empty))
      (λ x rest. EndsPiece rest (sized_piece size offset (AtAddress (to_u64_of bits x))))

-- ---- answers

-- how an answer is used
pub data Use : Type 0 where
  -- a value is pushed on the rest of the stack
  PushesAnswer : (rest : List Value) (value : Value) → Use
  -- the text is run in place of the call
  Calls : (text : Text) → Use
  FaultUse : (fault : Fault) → Use

-- the result of a call on the top replaces it
abbrev pub turn_top : (Value → Result Value Error) → List Value → Use
turn_top call values = on_top values (FaultUse NotEnoughStackItems)
    (λ x rest. on_result (call x) FaultUse (PushesAnswer rest))

module _ (bits : ℕ) where
  -- how an answer is used, by the request's `OnAnswer` and the values on the stack
  unfoldable pub use_of : OnAnswer → Answer → List Value → Use
  use_of (Add offset) (ValueAnswer kind x) values =
      on_result (binary_of Plus bits x (from_u64_of (type_of x) (residue 64 offset))) FaultUse (PushesAnswer values)
  use_of _ (ValueAnswer kind value) values = PushesAnswer values value
  use_of (Add offset) (NumberAnswer kind n) values = PushesAnswer values (Generic (residue 64 (pos n +ℤ offset)))
  use_of _ (NumberAnswer kind number) values = PushesAnswer values (Generic number)
  use_of _ (LocationAnswer text) values = Calls text
  use_of (Parse literal) (BaseTypeAnswer value_type) values =
      on_result (parse_of value_type literal.is_big literal.bytes) FaultUse (PushesAnswer values)
  use_of Convert (BaseTypeAnswer value_type) values = turn_top (convert_of bits value_type) values
  use_of _ (BaseTypeAnswer value_type) values = turn_top (reinterpret_of bits value_type) values
