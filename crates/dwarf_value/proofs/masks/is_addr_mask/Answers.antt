use Rattle.std.proofs.Common.{arith, eq-eqb, subst}
use Rattle.std.proofs.lemmas.Bool.Decides.{nat_tests}
use Rattle.dwarf_value.specs.Values.{IsAddressMask}
use Rattle.dwarf_value.proofs.MaskBits.{ones_pos, IsAddressMask-ones, ones-IsAddressMask, not-IsAddressMask-zero}
use Rattle.dwarf_value.proofs.masks.is_addr_mask.Goals as goal

pub returns-then-addr_mask-ne0 : goal.returns-then-addr_mask-ne0
returns-then-addr_mask-ne0 c = (
  λ e. IsAddressMask-ones c.args.addr_mask (omega arith) c.ranges.addr_mask.fits (grind (arith, nat_tests)),
  λ m. eq-eqb _ _ (ones-IsAddressMask c.args.addr_mask c.ranges.addr_mask.fits m),
)

pub returns-else-addr_mask-ne0 : goal.returns-else-addr_mask-ne0
returns-else-addr_mask-ne0 c =
    (λ e. absurd (grind (arith, nat_tests)), λ m. absurd (not-IsAddressMask-zero (subst IsAddressMask c.if-addr_mask-ne0.false m)))

pub overflow_shr-result : goal.overflow_shr-result
overflow_shr-result c = let some_bit = ones_pos c.args.addr_mask (omega arith) in omega arith
