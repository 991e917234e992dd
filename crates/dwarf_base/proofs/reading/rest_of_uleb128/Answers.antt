use Rattle.std.proofs.Common.{rules, arith, ◌∙◌}
use Rattle.dwarf_base.specs.Leb.{unsigned_leb}
use Rattle.dwarf_base.proofs.LebSteps.{more_from, last_from, sum_below, sum_fits}
use Rattle.dwarf_base.proofs.Suffixes.{suffix_trans}
use Rattle.dwarf_base.proofs.reading.rest_of_uleb128.Goals as goal

pub overflow_add-number : goal.overflow_add-number
overflow_add-number g c =
    let fits = sum_fits c.loop-place.place c.loop-place.number c.from.result c.loop-place.invariant.below (omega arith) (omega arith) in
    search rules

pub returns-then-byte-lt128 : goal.returns-then-byte-lt128
returns-then-byte-lt128 g c = record { value = c.loop-place.invariant.so_far ∙ last_from unsigned_leb _ _ _ _ _ _ c.in_ok-byte.ensures.value (omega arith) (omega arith) (omega arith); rest = suffix_trans _ _ _ c.in_ok-byte.ensures.rest c.loop-place.invariant.rest; order = search rules }

pub loop-place-preserved : goal.loop-place-preserved
loop-place-preserved g c = record {
  so_far = c.loop-place.invariant.so_far ∙ more_from unsigned_leb _ _ _ _ _ _ c.in_ok-byte.ensures.value (omega arith) (omega arith) (omega arith);
  below = sum_below _ _ _ c.loop-place.invariant.below (omega arith) (omega arith);
  rest = suffix_trans _ _ _ c.in_ok-byte.ensures.rest c.loop-place.invariant.rest;
  order = c.in_ok-byte.ensures.order ∙ c.loop-place.invariant.order;
}
