-- Abbreviations for the worked rows, in which the meaning of expressions is computed (DWARF 5, sections 2.5 and 2.6).
use Rattle.std.specs.Prelude.{ℕ, false, List, [], ◌∷◌, Some, None}
use Rattle.dwarf_base.specs.declared.common.Format.TheVariants.{Dwarf32}
use Rattle.dwarf_base.specs.Reads.{Text}
use Rattle.dwarf_value.specs.declared.types.Value.TheVariants.{Generic}
use Rattle.dwarf_meaning.specs.Locations.{Location, AtAddress, Piece, sized_piece}
use Rattle.dwarf_meaning.specs.Requests.{Answer, LocationAnswer, Input}
use Rattle.dwarf_meaning.specs.Stores.{Setup}
use Rattle.dwarf_meaning.specs.Run.{Position}
use Rattle.dwarf_meaning.specs.Meaning.{Outcome, CompleteOutcome, First, whole_piece}
use Rattle.dwarf_meaning.specs.Refusals.{Limits}

-- bytes in little-endian order
abbrev pub text : List ℕ → Text
text bytes = record { bytes = bytes; is_big = false }

-- no list has a limit
abbrev pub no_limits : Limits
no_limits = record { values = None; callers = None; pieces = None }

-- addresses of 4 bytes, the 32-bit format, version 4, offsets of 64 bits
abbrev pub with_limits : Limits → Setup
with_limits limits =
    record { encoding = record { address_size = 4; format = Dwarf32; version = 4 }; offset_bits = 64; limits = limits }

-- the same without limits
abbrev pub dwarf4 : Setup
dwarf4 = with_limits no_limits

-- no initial value, no object address, and this maximum
abbrev pub at_most : (maximum : ℕ) → First
at_most maximum = record { initial_value = None; settings = record { object_address = None; maximum = maximum } }

-- the settings of a caller who sets nothing
abbrev pub unset : First
unset = at_most 4294967295

-- answers, with these settings still in force
abbrev pub inputs_of : First → List Answer → List Input
inputs_of first [] = []
inputs_of first (answer ∷ answers) = record { settings = first.settings; answer = answer } ∷ inputs_of first answers

-- an answer to a call: the text with these bytes
abbrev pub callee : List ℕ → Answer
callee bytes = LocationAnswer (text bytes)

-- a text that is open at a place
abbrev pub open_at : List ℕ → (place : ℕ) → Position
open_at bytes place = record { text = text bytes; place = place }

-- a piece of 32 bits
abbrev pub word_at : Location → Piece
word_at location = sized_piece 32 None location

-- completion with a generic value, and one piece: the whole variable at this address
abbrev pub value_at : (number address : ℕ) → Outcome
value_at number address = CompleteOutcome (whole_piece (AtAddress address) ∷ []) (Some (Generic number))

-- pieces, and no value
abbrev pub pieces_only : List Piece → Outcome
pieces_only pieces = CompleteOutcome pieces None
