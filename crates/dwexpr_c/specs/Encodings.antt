-- The encodings that a caller may name (DWARF 5, section 7.5.1).
use Rattle.std.specs.Prelude.{Bool, ◌≤◌, ◌≡◌, ◌⊎◌, ◌==◌, if◌then◌else◌}
use Rattle.dwarf_base.specs.declared.common.Encoding.{Encoding}
use Rattle.dwarf_base.specs.declared.common.Format.TheVariants.{Dwarf32, Dwarf64}
use Rattle.dwarf_eval.specs.Evaluation.{IsAddressSize}
use Rattle.dwexpr_c.specs.declared.encodings.DwexprEncoding.{DwexprEncoding}

-- the numbers stand for an encoding
pub record IsEncoding (e : DwexprEncoding) : Type 0 where
  pub address_size : IsAddressSize e.address_size
  pub offset_size : (e.offset_size ≡ 4) ⊎ (e.offset_size ≡ 8)
  pub big_endian : e.big_endian ≤ 1
  pub first_version : 2 ≤ e.version
  pub last_version : e.version ≤ 5

-- the encoding that the numbers stand for
abbrev pub encoding_in : DwexprEncoding → Encoding
encoding_in e = record {
  address_size = e.address_size;
  format = if e.offset_size == 8 then Dwarf64 else Dwarf32;
  version = e.version;
}

-- whether the most significant byte of a number comes first
abbrev pub is_big_in : DwexprEncoding → Bool
is_big_in e = e.big_endian == 1
