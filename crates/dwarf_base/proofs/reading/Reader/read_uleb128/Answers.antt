use Rattle.std.proofs.Common.{rules, arith}
use Rattle.std.proofs.lemmas.Result.{err_from_is_err_and}
use Rattle.dwarf_base.specs.Leb.{uleb_at, unsigned_leb}
use Rattle.dwarf_base.proofs.LebSteps.{none_from, unsigned_first, first_more, gives_from}
use Rattle.dwarf_base.proofs.Suffixes.{suffix_trans}
use Rattle.dwarf_base.proofs.reading.Reader.read_uleb128.Goals as goal

pub returns-in_err-first : goal.returns-in_err-first
unfolding uleb_at
returns-in_err-first g c = record {
  value =
      let p = err_from_is_err_and c.from_residual.result c.from_residual.ensures.1 in
      rw (p.1, p.2) (none_from unsigned_leb 0 0 _ _ c.in_err-first.ensures.value);
  rest = search rules;
  order = search rules;
}

pub returns-then-first-lt128 : goal.returns-then-first-lt128
returns-then-first-lt128 g c = record { value = unsigned_first _ _ _ _ c.in_ok-first.ensures.value (omega arith) (omega arith); rest = search rules; order = search rules }

pub returns : goal.returns
unfolding uleb_at
returns g c = record {
  value =
      gives_from c.rest_of_uleb128-number.result (g.Self.Reader.text c.rest_of_uleb128-number.new.reader).bytes _ _ (rw c.copy_of-copy.ensures at c.rest_of_uleb128-number.ensures.value) (first_more unsigned_leb _ _ _ _ c.in_ok-first.ensures.value (omega arith) (omega arith));
  rest = suffix_trans _ _ _ (rw c.copy_of-copy.ensures at c.rest_of_uleb128-number.ensures.rest) c.in_ok-first.ensures.rest;
  order = search rules;
}
