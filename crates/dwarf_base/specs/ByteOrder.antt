-- Byte orders (DWARF 5, section 7).
use Rattle.std.specs.Prelude.{Bool, true, false}
use Rattle.dwarf_base.specs.declared.byte_order.RunTimeEndian.{RunTimeEndian}
use Rattle.dwarf_base.specs.declared.byte_order.RunTimeEndian.TheVariants.{Little, Big}

-- whether the most significant byte of a number comes first
abbrev pub is_big_of : RunTimeEndian → Bool
is_big_of Little = false
is_big_of Big = true
