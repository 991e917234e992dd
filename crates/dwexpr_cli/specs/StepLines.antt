-- The lines that `eval` reads: each is a step.
use Rattle.std.specs.Prelude.{ℕ, ◌-◌, ◌^◌, ◌==◌, nat_eq, nat_lt, codes, bytes_eq, slice_index, List, [], ◌∷◌, length, drop, Option, Some, None, option_and_then, option_map, if◌then◌else◌, ℤ, pos, negsuc, neg_ℤ, zero, suc, Bool, Result, Ok, Err}
use Rattle.std.specs.List.{position_or_len, before_first, after_first, list_all, starts_with}
use Rattle.std.specs.Map.{lookup}
use Rattle.std.specs.Char.{is_digit}
use Rattle.std.specs.Str.Parse.{digits_value}
use Rattle.dwarf_value.specs.declared.types.Value.{Value}
use Rattle.dwarf_value.specs.declared.types.Value.TheVariants as value
use Rattle.dwarf_value.specs.declared.types.ValueType.{ValueType}
use Rattle.dwarf_value.specs.declared.types.ValueType.TheVariants as type
use Rattle.std.specs.Option.{option_map_or}
use Rattle.std.specs.Str.Lines.{strip_carriage_return}
use Rattle.std.specs.Str.{is_utf8}
use Rattle.dwarf_meaning.specs.declared.kinds.WaitingKind.{WaitingKind}
use Rattle.dwarf_meaning.specs.declared.kinds.WaitingKind.TheVariants as kind
use Rattle.dwarf_meaning.specs.Requests.{ValueAnswer, NumberAnswer, LocationAnswer, BaseTypeAnswer}
use Rattle.dwarf_meaning.specs.Steps.{Step, InitialValue, ObjectAddress, MaxIterations, Evaluate, Resume}
use Rattle.dwexpr_cli.specs.Words.{bytes_in}

-- ---- numbers

-- one or more digits of the base, of either case
abbrev pub numeral_in : (base : ℕ) → List ℕ → Option ℕ
numeral_in base [] = None
numeral_in base (digit ∷ digits) =
    if list_all (λ byte. is_digit byte base) (digit ∷ digits) then Some (digits_value base (digit ∷ digits)) else None

-- a number of this many bits
abbrev pub below : (bits : ℕ) → ℕ → Option ℕ
below bits number = if nat_lt number (2 ^ bits) then Some number else None

-- N: decimal digits, or `0x` and hexadecimal digits, that spell a number of at most 64 bits
abbrev pub number_in : List ℕ → Option ℕ
number_in word =
    option_and_then (below 64) (if starts_with nat_eq word (codes "0x") then numeral_in 16 (drop 2 word)
    else numeral_in 10 word)

-- an integer of this many bits, including the sign
abbrev pub within : (bits : ℕ) → ℤ → Option ℤ
within bits (pos n) = if nat_lt n (2 ^ (bits - 1)) then Some (pos n) else None
within bits (negsuc n) = if nat_lt n (2 ^ (bits - 1)) then Some (negsuc n) else None

-- N of a signed type: decimal digits, perhaps after a minus sign (45), that spell an integer of at most 64 bits
abbrev pub integer_in : List ℕ → Option ℤ
integer_in word =
    option_and_then (within 64)
    (if slice_index word 0 == 45 then option_map (λ n. neg_ℤ (pos n)) (numeral_in 10 (drop 1 word))
    else option_map pos (numeral_in 10 word))

-- ---- types and values

-- T: the name of a type
abbrev pub type_in : List ℕ → Option ValueType
type_in word =
    lookup (bytes_eq word) ((codes "generic", type.Generic) ∷ (codes "i8", type.I8) ∷ (codes "u8", type.U8)
    ∷ (codes "i16", type.I16) ∷ (codes "u16", type.U16) ∷ (codes "i32", type.I32) ∷ (codes "u32", type.U32)
    ∷ (codes "i64", type.I64) ∷ (codes "u64", type.U64) ∷ [])

-- a number in the range of the type
abbrev pub value_of_type : List ℕ → ValueType → Option Value
value_of_type number type.Generic = option_map value.Generic (number_in number)
value_of_type number type.I8 = option_map value.I8 (option_and_then (within 8) (integer_in number))
value_of_type number type.U8 = option_map value.U8 (option_and_then (below 8) (number_in number))
value_of_type number type.I16 = option_map value.I16 (option_and_then (within 16) (integer_in number))
value_of_type number type.U16 = option_map value.U16 (option_and_then (below 16) (number_in number))
value_of_type number type.I32 = option_map value.I32 (option_and_then (within 32) (integer_in number))
value_of_type number type.U32 = option_map value.U32 (option_and_then (below 32) (number_in number))
value_of_type number type.I64 = option_map value.I64 (integer_in number)
value_of_type number type.U64 = option_map value.U64 (number_in number)

-- the bytes before the first such byte, and the bytes after it
abbrev pub cut_at : (byte : ℕ) → List ℕ → Option (List ℕ × List ℕ)
cut_at byte word =
    if nat_lt (position_or_len (λ b. b == byte) word) (length word)
    then Some (before_first (λ b. b == byte) word, after_first (λ b. b == byte) word) else None

-- V: a type, a colon (58) and a number
abbrev pub value_in : List ℕ → Option Value
value_in word = option_and_then (λ parts. option_and_then (value_of_type parts.1) (type_in parts.0)) (cut_at 58 word)

-- ---- lines

-- the first line and the rest: a line ends at a line feed (10), perhaps after a carriage return, or at the end of the
-- input
abbrev pub first_line : List ℕ → List ℕ × List ℕ
first_line input = option_map_or (λ parts. (strip_carriage_return parts.0, parts.1)) (cut_at 10 input) (input, [])

-- up to this many lines
abbrev pub lines_within : (most : ℕ) → List ℕ → List (List ℕ)
lines_within zero input = []
lines_within (suc most) [] = []
lines_within (suc most) (byte ∷ input) =
    let first = first_line (byte ∷ input) in first.0 ∷ lines_within most first.1

-- all lines; there are no more than there are bytes
abbrev pub lines_in : List ℕ → List (List ℕ)
lines_in input = lines_within (length input) input

-- ---- steps

-- the kind of request that an answer of this name is for
abbrev pub answer_kind_in : List ℕ → Option WaitingKind
answer_kind_in name =
    lookup (bytes_eq name) ((codes "memory", kind.Memory) ∷ (codes "register", kind.Register)
    ∷ (codes "wasm", kind.WasmValue) ∷ (codes "entry", kind.EntryValue) ∷ (codes "frame", kind.FrameBase)
    ∷ (codes "tls", kind.Tls) ∷ (codes "cfa", kind.CallFrameCfa) ∷ (codes "parameter", kind.ParameterRef)
    ∷ (codes "relocated", kind.RelocatedAddress) ∷ (codes "indexed", kind.IndexedAddress)
    ∷ (codes "location", kind.AtLocation) ∷ (codes "type", kind.BaseType) ∷ [])

-- the answer to a request of this kind: a value, a text in the byte order of the words, a type or a number
abbrev pub answer_step_in : (big : Bool) → WaitingKind → (word : List ℕ) → Option Step
answer_step_in big kind.Memory word = option_map (λ v. Resume (ValueAnswer kind.Memory v)) (value_in word)
answer_step_in big kind.Register word = option_map (λ v. Resume (ValueAnswer kind.Register v)) (value_in word)
answer_step_in big kind.WasmValue word = option_map (λ v. Resume (ValueAnswer kind.WasmValue v)) (value_in word)
answer_step_in big kind.EntryValue word = option_map (λ v. Resume (ValueAnswer kind.EntryValue v)) (value_in word)
answer_step_in big kind.AtLocation word =
    option_map (λ bytes. Resume (LocationAnswer (record { bytes = bytes; is_big = big }))) (bytes_in word)
answer_step_in big kind.BaseType word = option_map (λ t. Resume (BaseTypeAnswer t)) (type_in word)
answer_step_in big other word = option_map (λ n. Resume (NumberAnswer other n)) (number_in word)

-- the step with this name and word
abbrev pub named_step_in : (big : Bool) → (name word : List ℕ) → Option Step
named_step_in big name word =
    if bytes_eq name (codes "initial") then option_map InitialValue (number_in word)
    else if bytes_eq name (codes "object") then option_map ObjectAddress (number_in word)
    else if bytes_eq name (codes "max") then option_map MaxIterations (option_and_then (below 32) (number_in word))
    else option_and_then (λ asked. answer_step_in big asked word) (answer_kind_in name)

-- `evaluate`, or a name, a blank (32) and a word
abbrev pub text_step_in : (big : Bool) → List ℕ → Option Step
text_step_in big line =
    if bytes_eq line (codes "evaluate") then Some Evaluate
    else option_and_then (λ parts. named_step_in big parts.0 parts.1) (cut_at 32 line)

-- the same for a line that is UTF-8
abbrev pub step_in : (big : Bool) → List ℕ → Option Step
step_in big line = if is_utf8 line then text_step_in big line else None

-- the step of a line, and then the steps of the lines after it
abbrev pub said_then : Option Step → Result (List Step) ℕ → Result (List Step) ℕ
said_then None more = Err 1
said_then (Some step) (Ok steps) = Ok (step ∷ steps)
said_then (Some step) (Err number) = Err (suc number)

-- a step for each line, or the number, from 1, of the first line that spells none
abbrev pub steps_in : (big : Bool) → List (List ℕ) → Result (List Step) ℕ
steps_in big [] = Ok []
steps_in big (line ∷ lines) = said_then (step_in big line) (steps_in big lines)
