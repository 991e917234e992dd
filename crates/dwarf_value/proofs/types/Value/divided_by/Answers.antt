use Rattle.std.proofs.Common.{◌≡◌, ◌≢◌, pos, sym, ap, ◌∙◌, inl, inr, refl, arith}
use Rattle.std.proofs.lemmas.Result.{MatchResult-weaker}
use Rattle.dwarf_base.specs.Numbers.{residue}
use Rattle.dwarf_value.specs.Values.{integer_of, width_of}
use Rattle.dwarf_value.proofs.Integers.{zero_word, zero_divisor, nonzero_divisor}
use Rattle.dwarf_value.proofs.types.Value.divided_by.Goals as goal

pub returns-then-divisor-eq0 : goal.returns-then-divisor-eq0
returns-then-divisor-eq0 c =
    let zero = zero_word c.parts.result.1.signed 64 c.parts.result.1.bits (omega arith) in
    inl (zero_divisor c.args.signed (width_of c.args.addr_mask) c.args.rhs (sym c.parts.ensures.integer ∙ zero), refl)

pub returns : goal.returns
returns c =
    let divisor : integer_of c.args.signed (width_of c.args.addr_mask) c.args.rhs ≢ pos 0 =
    λ e. let zero : c.parts.result.1.bits ≡ 0 = c.parts.ensures.bits ∙ ap (residue 64) e in omega arith in
    let nonzero = nonzero_divisor c.args.signed (width_of c.args.addr_mask) c.args.rhs divisor in
    MatchResult-weaker c.operands.result c.operands.ensures
    (λ r o. record { operands = o; nonzero = nonzero; divisor = λ e. divisor (sym o.second ∙ e) }) (λ e u. inr (nonzero, u))
