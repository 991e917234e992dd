-- What callers see of a slice with a byte order.
use Rattle.std.specs.Prelude.{ℕ, Bool, List}
use Rattle.dwarf_base.specs.declared.byte_order.RunTimeEndian.{RunTimeEndian}
use Rattle.dwarf_base.specs.declared.slices.EndianSlice.{EndianSlice}
use Rattle.dwarf_base.specs.ByteOrder.{is_big_of}
use Rattle.dwarf_base.specs.Reads.{Text}

-- its bytes
abbrev pub slice_bytes : {E : Type 0} → EndianSlice E → List ℕ
slice_bytes reader = reader.slice.now

-- its byte order
abbrev pub slice_order : {E : Type 0} → EndianSlice E → E
slice_order reader = reader.endian

-- its text; `is_big` tells whether a byte order is big-endian
abbrev pub text_of : {E : Type 0} → (is_big : E → Bool) → EndianSlice E → Text
text_of is_big reader = record { bytes = slice_bytes reader; is_big = is_big (slice_order reader) }

-- the text of a slice whose byte order is known when the program runs
abbrev pub slice_text : EndianSlice RunTimeEndian → Text
slice_text reader = text_of is_big_of reader
