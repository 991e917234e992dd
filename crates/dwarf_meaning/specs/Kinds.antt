-- The kind of answer that each request waits for (DWARF 5, sections 2.5.1 and 2.6.1).
use Rattle.std.specs.Prelude.{Bool}
use denote.Enum.Bare.{sameb}
use Rattle.dwarf_meaning.specs.Requests as requests
use Rattle.dwarf_meaning.specs.Requests.{Request, Answer, ValueAnswer, NumberAnswer, LocationAnswer, BaseTypeAnswer}
use Rattle.dwarf_meaning.specs.declared.kinds.WaitingKind.{WaitingKind}
use Rattle.dwarf_meaning.specs.contracts.kinds.WaitingKind.{the_type}
use Rattle.dwarf_meaning.specs.declared.kinds.WaitingKind.TheVariants.{Memory, Register, WasmValue, EntryValue, FrameBase, Tls, CallFrameCfa, ParameterRef, RelocatedAddress, IndexedAddress, AtLocation, BaseType}

-- the kind of answer that a request waits for
abbrev pub kind_of_request : Request → WaitingKind
kind_of_request (requests.RequiresMemory address size space base_type) = Memory
kind_of_request (requests.RequiresRegister register base_type) = Register
kind_of_request (requests.RequiresWasmLocal index) = WasmValue
kind_of_request (requests.RequiresWasmGlobal index) = WasmValue
kind_of_request (requests.RequiresWasmStack index) = WasmValue
kind_of_request requests.RequiresFrameBase = FrameBase
kind_of_request (requests.RequiresTls index) = Tls
kind_of_request requests.RequiresCallFrameCfa = CallFrameCfa
kind_of_request (requests.RequiresAtLocation offset) = AtLocation
kind_of_request (requests.RequiresEntryValue expression) = EntryValue
kind_of_request (requests.RequiresParameterRef offset) = ParameterRef
kind_of_request (requests.RequiresRelocatedAddress address) = RelocatedAddress
kind_of_request (requests.RequiresIndexedAddress index relocate) = IndexedAddress
kind_of_request (requests.RequiresBaseType base_type) = BaseType

-- the kind of an answer
abbrev pub kind_of_answer : Answer → WaitingKind
kind_of_answer (ValueAnswer kind value) = kind
kind_of_answer (NumberAnswer kind number) = kind
kind_of_answer (LocationAnswer text) = AtLocation
kind_of_answer (BaseTypeAnswer value_type) = BaseType

-- whether two kinds are equal by `==`
unfoldable pub is_same_kind : WaitingKind → WaitingKind → Bool
is_same_kind = sameb the_type
