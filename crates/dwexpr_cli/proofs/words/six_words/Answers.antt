use Rattle.std.proofs.Common.{arith, string_bytes}
use Rattle.dwexpr_cli.proofs.Reading.{not_six, six_words}
use Rattle.dwexpr_cli.proofs.words.six_words.Goals as goal
use Rattle.dwexpr_cli.proofs.words.six_words.Goals.{in_default-via-then-words-lt6, in_default-via-else-words-lt6+else-words-lt7}

pub returns-in_default-clause-other : goal.returns-in_default-clause-other
returns-in_default-clause-other g c =
    not_six _ c.args.words.now
    (elim c.in_default.branch [
      | in_default-via-then-words-lt6 w ↦ λ six. grind (arith, six)
      | in_default-via-else-words-lt6+else-words-lt7 w ↦ λ six. grind (arith, six)
    ])

pub returns-clause-six : goal.returns-clause-six
returns-clause-six g c =
    rw (
      c.as_str.ensures.value,
      c.as_str-2.ensures.value,
      c.as_str-3.ensures.value,
      c.as_str-4.ensures.value,
      c.as_str-5.ensures.value,
      c.as_str-6.ensures.value,
    )
    (six_words (string_bytes {Z = g.row.A.Denot}) c.args.words.now c.command-item.result c.address_size-item.result c.offset_size-item.result
    c.version-item.result c.order-item.result c.bytes-item.result c.in-len6.len_at_least c.in-len6.len_below c.command-item.is
    c.address_size-item.is c.offset_size-item.is c.version-item.is c.order-item.is c.bytes-item.is)
