-- Requests, answers and results, in the numbers of a caller in C (DWARF 5, sections 2.5 and 2.6).
use Rattle.std.specs.Prelude.{ℕ, ◌≡◌, List, Option, Some, None, length, ◌≤◌, pos, IfSome, is_some, slice_get, unwrap_or, ◌==◌, Bool, Result, Ok, Err, if◌then◌else◌}
use Rattle.dwarf_value.specs.declared.types.Value.{Value}
use Rattle.dwarf_meaning.specs.Operations as operations
use Rattle.dwarf_meaning.specs.Requests as requests
use Rattle.dwarf_meaning.specs.Requests.{Request}
use Rattle.dwarf_meaning.specs.Steps.{Reply, RequestReply}
use Rattle.dwexpr_c.specs.CodedOperations.{flag_of}
use Rattle.dwexpr_c.specs.CallerTexts.{IsPlaced, text_at}
use Rattle.dwexpr_c.specs.CodedValues.{shown_value, type_coded, value_coded}
use Rattle.dwexpr_c.specs.declared.outcomes.DwexprOutcome.{DwexprOutcome}
use Rattle.dwexpr_c.specs.declared.texts.DwexprText.{DwexprText}
use Rattle.dwarf_meaning.specs.Locations.{Location, Empty, InRegister, AtAddress, HoldsValue, HoldsBytes, PointsInto, Piece}
use Rattle.dwexpr_c.specs.declared.pieces.DwexprPiece.{DwexprPiece}
use Rattle.dwarf_meaning.specs.declared.kinds.WaitingKind.TheVariants as kind
use Rattle.dwexpr_c.specs.declared.answers.DwexprAnswer.{DwexprAnswer}
use Rattle.dwexpr_c.specs.declared.faults.TheConstants as codes
use Rattle.dwexpr_c.specs.declared.piece_kinds.TheConstants as piece_kinds
use Rattle.dwexpr_c.specs.declared.requests.TheConstants as shown
use Rattle.dwexpr_c.specs.declared.answer_kinds.TheConstants as kinds
use Rattle.dwexpr_c.specs.declared.types.TheConstants as types

-- all numbers are 0: nothing was evaluated
abbrev pub blank_outcome : DwexprOutcome
blank_outcome = record {
  code = 0;
  request = shown.NOTHING;
  detail = 0;
  number = 0;
  base_type = 0;
  space = 0;
  register_number = 0;
  size = 0;
  flag = 0;
  value_type = types.NO_TYPE;
  value = 0;
  block_text = 0;
  block_offset = 0;
  block_length = 0;
  pieces = 0;
}

-- a request of this code, and a number
abbrev pub request_outcome : (request number : ℕ) → DwexprOutcome
request_outcome request number = record blank_outcome { request = request; number = number }

-- a fault, or an argument that isn't allowed, by its code and the number that it carries
abbrev pub ended_outcome : (code number : ℕ) → DwexprOutcome
ended_outcome code number = record blank_outcome { code = code; detail = number }

-- a request and its fields, without its block
abbrev pub shown_request : Request → DwexprOutcome
shown_request (requests.RequiresMemory address size None base_type) =
    record (request_outcome shown.WANTS_MEMORY address) { size = size; base_type = base_type }
shown_request (requests.RequiresMemory address size (Some space) base_type) =
    record (request_outcome shown.WANTS_MEMORY address) { size = size; base_type = base_type; flag = 1; space = space }
shown_request (requests.RequiresRegister register base_type) =
    record (request_outcome shown.WANTS_REGISTER 0) { register_number = register; base_type = base_type }
shown_request requests.RequiresFrameBase = request_outcome shown.WANTS_FRAME_BASE 0
shown_request (requests.RequiresTls index) = request_outcome shown.WANTS_TLS index
shown_request requests.RequiresCallFrameCfa = request_outcome shown.WANTS_CFA 0
shown_request (requests.RequiresAtLocation (operations.UnitRef offset)) = request_outcome shown.WANTS_LOCATION offset
shown_request (requests.RequiresAtLocation (operations.DebugInfoRef offset)) =
    record (request_outcome shown.WANTS_LOCATION offset) { flag = 1 }
shown_request (requests.RequiresEntryValue expression) = request_outcome shown.WANTS_ENTRY_VALUE 0
shown_request (requests.RequiresParameterRef offset) = request_outcome shown.WANTS_PARAMETER offset
shown_request (requests.RequiresRelocatedAddress address) = request_outcome shown.WANTS_RELOCATED address
shown_request (requests.RequiresIndexedAddress index relocate) =
    record (request_outcome shown.WANTS_INDEXED index) { flag = flag_of relocate }
shown_request (requests.RequiresBaseType offset) = record (request_outcome shown.WANTS_BASE_TYPE 0) { base_type = offset }
shown_request (requests.RequiresWasmLocal index) = request_outcome shown.WANTS_WASM_LOCAL index
shown_request (requests.RequiresWasmGlobal index) = request_outcome shown.WANTS_WASM_GLOBAL index
shown_request (requests.RequiresWasmStack index) = request_outcome shown.WANTS_WASM_STACK index

-- the outcome names the place of these bytes, and nothing else differs
abbrev pub ShowsBlock : List DwexprText → List ℕ → (shown out : DwexprOutcome) → Type 0
ShowsBlock texts block shown out =
    (out ≡ record shown { block_text = out.block_text; block_offset = out.block_offset; block_length = length block })
    × IsPlaced texts out.block_text out.block_offset block

-- the outcome shows a request, with the place of its block
abbrev pub ShowsRequest : List DwexprText → Request → DwexprOutcome → Type 0
ShowsRequest texts (requests.RequiresEntryValue expression) out =
    ShowsBlock texts expression.bytes (request_outcome shown.WANTS_ENTRY_VALUE 0) out
ShowsRequest texts request out = out ≡ shown_request request

-- a call replied a request
abbrev pub ShowsReply : List DwexprText → Reply → DwexprOutcome → Type 0
ShowsReply texts (RequestReply request) out = ShowsRequest texts request out
ShowsReply texts _ out = ⊥

-- the value of a complete evaluation, and how many pieces it has
abbrev pub complete_outcome : (pieces : ℕ) → Option Value → DwexprOutcome
complete_outcome pieces None = record (request_outcome shown.COMPLETE 0) { pieces = pieces }
complete_outcome pieces (Some value) =
    record (request_outcome shown.COMPLETE 0) {
      value_type = (shown_value value).value_type;
      value = (shown_value value).content;
      pieces = pieces;
    }

-- ---- answers

-- an answer with what the numbers stand for, or the code if they stand for nothing
abbrev pub answer_or : {X : Type 0} → (X → requests.Answer) → Option X → (code : ℕ) → Result requests.Answer ℕ
answer_or answer None code = Err code
answer_or answer (Some x) code = Ok (answer x)

-- the answer that the numbers stand for, or the code if they stand for none
abbrev pub answer_coded : (big : Bool) → List DwexprText → DwexprAnswer → Result requests.Answer ℕ
answer_coded big texts answer =
    let value = value_coded answer.value_type answer.number in
    if answer.kind == kinds.ANSWER_MEMORY then answer_or (requests.ValueAnswer kind.Memory) value codes.BAD_ANSWER
    else if answer.kind == kinds.ANSWER_REGISTER then answer_or (requests.ValueAnswer kind.Register) value codes.BAD_ANSWER
    else if answer.kind == kinds.ANSWER_WASM then answer_or (requests.ValueAnswer kind.WasmValue) value codes.BAD_ANSWER
    else if answer.kind == kinds.ANSWER_ENTRY_VALUE then answer_or (requests.ValueAnswer kind.EntryValue) value codes.BAD_ANSWER
    else if answer.kind == kinds.ANSWER_FRAME_BASE then Ok (requests.NumberAnswer kind.FrameBase answer.number)
    else if answer.kind == kinds.ANSWER_TLS then Ok (requests.NumberAnswer kind.Tls answer.number)
    else if answer.kind == kinds.ANSWER_CFA then Ok (requests.NumberAnswer kind.CallFrameCfa answer.number)
    else if answer.kind == kinds.ANSWER_PARAMETER then Ok (requests.NumberAnswer kind.ParameterRef answer.number)
    else if answer.kind == kinds.ANSWER_RELOCATED then Ok (requests.NumberAnswer kind.RelocatedAddress answer.number)
    else if answer.kind == kinds.ANSWER_INDEXED then Ok (requests.NumberAnswer kind.IndexedAddress answer.number)
    else if answer.kind == kinds.ANSWER_LOCATION then answer_or requests.LocationAnswer (text_at big texts answer.text) codes.BAD_TEXT
    else if answer.kind == kinds.ANSWER_BASE_TYPE then answer_or requests.BaseTypeAnswer (type_coded answer.value_type) codes.BAD_ANSWER
    else Err codes.BAD_ANSWER

-- ---- pieces

-- the kind and the sizes; all else is 0
abbrev pub piece_of_kind : (kind : ℕ) → (size_in_bits bit_offset : Option ℕ) → DwexprPiece
piece_of_kind kind size_in_bits bit_offset = record {
  kind = kind;
  has_size = flag_of (is_some size_in_bits);
  size_in_bits = unwrap_or size_in_bits 0;
  bit_offset = unwrap_or bit_offset 0;
  has_bit_offset = flag_of (is_some bit_offset);
  value_type = types.NO_TYPE;
  number = 0;
  byte_offset = pos 0;
  block_text = 0;
  block_offset = 0;
  block_length = 0;
}

-- the piece names the place of these bytes, and nothing else differs
abbrev pub ShowsBytes : List DwexprText → List ℕ → (shown out : DwexprPiece) → Type 0
ShowsBytes texts block shown out =
    (out ≡ record shown { block_text = out.block_text; block_offset = out.block_offset; block_length = length block })
    × IsPlaced texts out.block_text out.block_offset block

-- the place shows a location, with its size and offset
abbrev pub ShowsLocation : List DwexprText → (size_in_bits bit_offset : Option ℕ) → Location → DwexprPiece → Type 0
ShowsLocation texts size offset Empty out = out ≡ piece_of_kind piece_kinds.EMPTY size offset
ShowsLocation texts size offset (InRegister register) out =
    out ≡ record (piece_of_kind piece_kinds.IN_REGISTER size offset) { number = register }
ShowsLocation texts size offset (AtAddress address) out =
    out ≡ record (piece_of_kind piece_kinds.AT_ADDRESS size offset) { number = address }
ShowsLocation texts size offset (HoldsValue value) out =
    out ≡ record (piece_of_kind piece_kinds.HOLDS_VALUE size offset) {
      value_type = (shown_value value).value_type;
      number = (shown_value value).content;
    }
ShowsLocation texts size offset (HoldsBytes value) out = ShowsBytes texts value.bytes (piece_of_kind piece_kinds.HOLDS_BYTES size offset) out
ShowsLocation texts size offset (PointsInto value byte_offset) out =
    out ≡ record (piece_of_kind piece_kinds.POINTS_INTO size offset) { number = value; byte_offset = byte_offset }

-- the place shows a piece
abbrev pub ShowsPiece : List DwexprText → Piece → DwexprPiece → Type 0
ShowsPiece texts piece out = ShowsLocation texts piece.size_in_bits piece.bit_offset piece.location out

-- as many pieces were written as there is room for, and nothing after them
pub record AreWritten (texts : List DwexprText) (pieces : List Piece) (old new : List DwexprPiece) : Type 0 where
  pub room : length new ≡ length old
  pub shown : (k : ℕ) → IfSome (slice_get pieces k) (λ piece. IfSome (slice_get new k) (ShowsPiece texts piece))
  pub kept : (k : ℕ) → length pieces ≤ k → slice_get new k ≡ slice_get old k
