use Rattle.dwarf_meaning.proofs.Pairs.{pairs}
use Rattle.dwarf_meaning.proofs.Actions.{act_both, use_both}
use Rattle.dwarf_meaning.proofs.laws.agreement_laws.Goals as goal

pub returns : goal.returns
returns c = record {
  operations = λ w object other op values others o h. act_both w object other op values others o (pairs values others h);
  answers = λ w on_answer answer another values others width a h.
      use_both w width on_answer answer another values others a (pairs values others h);
}
