-- The texts that a caller gives, and where in them bytes are.
use Rattle.std.specs.Prelude.{ℕ, ◌+◌, ◌%◌, ◌≡◌, ◌==◌, ◌≤◌, Bool, List, Option, Some, length, option_map, slice_get, slice_range, Any}
use Rattle.dwarf_base.specs.Reads.{Text}
use Rattle.dwexpr_c.specs.declared.places.Home.{Home}
use Rattle.dwexpr_c.specs.declared.places.Placed.{Placed}
use Rattle.dwexpr_c.specs.declared.texts.DwexprText.{DwexprText}
use Rattle.dwarf_meaning.specs.Locations.{Location, HoldsBytes, Piece}
use Rattle.dwarf_meaning.specs.Requests as requests
use Rattle.dwarf_meaning.specs.Steps.{Reply, RequestReply}

-- whether the byte order is big
abbrev pub is_big_at : Home → Bool
is_big_at home = home.word % 2 == 1

-- a reader as a text
abbrev pub text_of_placed : Placed → Text
text_of_placed placed = record { bytes = placed.bytes.now; is_big = is_big_at placed.home }

-- a text of the caller's, in a byte order
abbrev pub text_in : (big : Bool) → DwexprText → Text
text_in big text = record { bytes = text.bytes.now; is_big = big }

-- the one at an index, if there is one
abbrev pub text_at : (big : Bool) → List DwexprText → (index : ℕ) → Option Text
text_at big texts index = option_map (text_in big) (slice_get texts index)

-- these are the bytes of one of the texts
pub record IsGiven (texts : List DwexprText) (bytes : List ℕ) : Type 0 where
  pub index : ℕ
  pub at : DwexprText
  pub is_there : slice_get texts index ≡ Some at
  pub same : at.bytes.now ≡ bytes

-- the block is at this place of a text
abbrev pub IsAt : (text : List ℕ) (place : ℕ) (block : List ℕ) → Type 0
IsAt text place block = (place + length block ≤ length text) × (slice_range text place (place + length block) ≡ block)

-- the block is at this place of the text at that index
pub record IsPlaced (texts : List DwexprText) (text offset : ℕ) (block : List ℕ) : Type 0 where
  pub at : DwexprText
  pub is_there : slice_get texts text ≡ Some at
  pub placed : IsAt at.bytes.now offset block

-- the block is at no place of any text
abbrev pub IsNowhere : List DwexprText → (block : List ℕ) → Type 0
IsNowhere texts block = (text offset : ℕ) → IsPlaced texts text offset block → ⊥

-- the request names bytes that are nowhere
abbrev pub AsksNowhere : List DwexprText → Reply → Type 0
AsksNowhere texts (RequestReply (requests.RequiresEntryValue expression)) = IsNowhere texts expression.bytes
AsksNowhere texts _ = ⊥

-- the location has bytes that are nowhere
abbrev pub HoldsNowhere : List DwexprText → Location → Type 0
HoldsNowhere texts (HoldsBytes value) = IsNowhere texts value.bytes
HoldsNowhere texts _ = ⊥

-- one of the pieces has bytes that are nowhere
abbrev pub SomeNowhere : List DwexprText → List Piece → Type 0
SomeNowhere texts pieces = Any (λ piece. HoldsNowhere texts piece.location) pieces
