use Rattle.std.proofs.Common.{refl, arith}
use Rattle.dwarf_value.specs.Values.{type_of, is_signed, word_integer, integer_of, value_of}
use Rattle.dwarf_value.specs.Laws.{InRange, IsWidth}
use Rattle.dwarf_value.proofs.ValueLaws.{trichotomy, opposites, quotient_and_remainder, negate_twice, negate_twice_generic, reinterpret_twice, agreement_is_kept}
use Rattle.dwarf_value.proofs.laws.value_laws.Goals as goal

pub returns : goal.returns
unfolding type_of is_signed word_integer integer_of value_of InRange
returns c = record {
  trichotomy = trichotomy;
  opposites = opposites;
  quotient_and_remainder = quotient_and_remainder;
  negate_twice = negate_twice;
  negate_twice_generic = negate_twice_generic;
  reinterpret_twice = reinterpret_twice;
  agreement_is_kept = agreement_is_kept;
  each_signed_type = λ operator law.
      let width : IsWidth 32 = record { some_bit = omega arith; within_64 = omega arith } in (
        law 32 _ width (record { sfits = omega arith }) refl,
        law 32 _ width (record { sfits = omega arith }) refl,
        law 32 _ width (record { sfits = omega arith }) refl,
        law 32 _ width (record { sfits = omega arith }) refl,
      );
  least_byte = refl;
  next_byte = refl;
  byte_below = λ r. omega (arith, r.sfits);
  unsigned_byte = refl;
}
