-- What a writer is given: bytes, words and lines.
use Rattle.std.specs.Prelude.{ℕ, ◌≡◌, codes, false, List, [], ◌∷◌, ◌++◌, ◌/◌, ◌%◌, Option, decimal}
use Rattle.std.specs.Fmt.{digit_glyph, digits, signed_decimal}
use Rattle.std.specs.Io.KnownBytes.{Appends}
use Rattle.dwarf_value.specs.declared.types.Value.{Value}
use Rattle.dwarf_value.specs.declared.types.Value.TheVariants as value

-- the known bytes grew by a prefix of the text
pub record AppendsFront (old new : Option (List ℕ)) (text : List ℕ) : Type 0 where
  pub front : List ℕ
  pub rest : List ℕ
  pub whole : text ≡ front ++ rest
  pub written : Appends old new front

-- ---- words of a line

-- lower case digits after `0x`
abbrev pub hexadecimal : ℕ → List ℕ
hexadecimal number = codes "0x" ++ digits 16 false number

-- V: a type, a colon and a number
abbrev pub value_word : Value → List ℕ
value_word (value.Generic content) = codes "generic:" ++ hexadecimal content
value_word (value.I8 number) = codes "i8:" ++ signed_decimal number
value_word (value.U8 number) = codes "u8:" ++ decimal number
value_word (value.I16 number) = codes "i16:" ++ signed_decimal number
value_word (value.U16 number) = codes "u16:" ++ decimal number
value_word (value.I32 number) = codes "i32:" ++ signed_decimal number
value_word (value.U32 number) = codes "u32:" ++ decimal number
value_word (value.I64 number) = codes "i64:" ++ signed_decimal number
value_word (value.U64 number) = codes "u64:" ++ decimal number

-- two lower case digits per byte
abbrev pub pairs : List ℕ → List ℕ
pairs [] = []
pairs (byte ∷ bytes) = digit_glyph false (byte / 16) ∷ digit_glyph false (byte % 16) ∷ pairs bytes

-- the same, or `-` for no bytes
abbrev pub bytes_word : List ℕ → List ℕ
bytes_word [] = codes "-"
bytes_word (byte ∷ bytes) = pairs (byte ∷ bytes)

-- ---- lines

-- a blank (32) before each further word, and a line feed (10)
abbrev pub ending : List (List ℕ) → List ℕ
ending [] = 10 ∷ []
ending (word ∷ words) = 32 ∷ (word ++ ending words)

-- a word, further words, and the end of the line
abbrev pub line : (first : List ℕ) → List (List ℕ) → List ℕ
line first words = first ++ ending words
