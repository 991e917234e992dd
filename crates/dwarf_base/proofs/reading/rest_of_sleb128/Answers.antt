use Rattle.std.proofs.Common.{rules, arith, ◌∙◌}
use Rattle.std.proofs.lemmas.Int.{ints}
use Rattle.dwarf_base.specs.Leb.{signed_leb}
use Rattle.dwarf_base.proofs.LebSteps.{signed_last_low, signed_last_high, more_from, sum_below, sum_fits, below_whole, above_half}
use Rattle.dwarf_base.proofs.Suffixes.{suffix_trans}
use Rattle.dwarf_base.proofs.reading.rest_of_sleb128.Goals as goal

pub overflow_add-number : goal.overflow_add-number
overflow_add-number g c =
    let fits = sum_fits c.loop-place.place c.loop-place.number c.from.result c.loop-place.invariant.below (omega arith) (omega arith) in
    search rules

pub returns-then-byte-lt64 : goal.returns-then-byte-lt64
returns-then-byte-lt64 g c = record {
  value =
      let fits = sum_fits c.loop-place.place c.loop-place.number c.from.result c.loop-place.invariant.below (omega arith) (omega arith) in
      c.loop-place.invariant.so_far
      ∙ signed_last_low c.loop-place.place c.loop-place.number _ _ c.from.result _ _ c.in_ok-byte.ensures.value (omega arith) (omega arith) (omega arith) (omega (arith, ints));
  rest = suffix_trans _ _ _ c.in_ok-byte.ensures.rest c.loop-place.invariant.rest;
  order = search rules;
}

pub overflow_sub-whole : goal.overflow_sub-whole
overflow_sub-whole g c = below_whole c.loop-place.place c.loop-place.number c.from.result c.loop-place.invariant.below (omega arith) (omega arith)

pub overflow_sub-result : goal.overflow_sub-result
overflow_sub-result g c =
    let below = below_whole c.loop-place.place c.loop-place.number c.from.result c.loop-place.invariant.below (omega arith) (omega arith) in
    let above = above_half c.loop-place.place c.loop-place.number c.from.result c.loop-place.invariant.below (omega arith) (omega arith) (omega arith) in
    omega (arith, ints)

pub returns-then-byte-lt128 : goal.returns-then-byte-lt128
returns-then-byte-lt128 g c = record {
  value =
      let below = below_whole c.loop-place.place c.loop-place.number c.from.result c.loop-place.invariant.below (omega arith) (omega arith) in
      let above = above_half c.loop-place.place c.loop-place.number c.from.result c.loop-place.invariant.below (omega arith) (omega arith) (omega arith) in
      c.loop-place.invariant.so_far
      ∙ signed_last_high c.loop-place.place c.loop-place.number _ _ c.from.result _ _ c.in_ok-byte.ensures.value (omega arith) (omega arith) (omega arith) (omega arith) (omega (arith, ints));
  rest = suffix_trans _ _ _ c.in_ok-byte.ensures.rest c.loop-place.invariant.rest;
  order = search rules;
}

pub loop-place-preserved : goal.loop-place-preserved
loop-place-preserved g c = record {
  so_far = c.loop-place.invariant.so_far ∙ more_from signed_leb _ _ _ _ _ _ c.in_ok-byte.ensures.value (omega arith) (omega arith) (omega arith);
  below = sum_below _ _ _ c.loop-place.invariant.below (omega arith) (omega arith);
  rest = suffix_trans _ _ _ c.in_ok-byte.ensures.rest c.loop-place.invariant.rest;
  order = c.in_ok-byte.ensures.order ∙ c.loop-place.invariant.order;
}
