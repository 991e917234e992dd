use Rattle.std.proofs.Common.{subst, sym}
use Rattle.dwarf_eval.specs.inner.Answers.{answer_of}
use Rattle.dwarf_eval.specs.inner.StateChanges.{AnswersOpenRequest}
use Rattle.dwarf_eval.proofs.run.machine.Machine.take.Goals as goal

pub returns-in-Value : goal.returns-in-Value
returns-in-Value g c =
    subst (λ answer. AnswersOpenRequest (answer_of g.R.Reader.text answer) c.args.self.now c.take_value.new.self) (sym c.in-Value.is) (c.take_value.ensures _)

pub returns-in-Number : goal.returns-in-Number
returns-in-Number g c =
    subst (λ answer. AnswersOpenRequest (answer_of g.R.Reader.text answer) c.args.self.now c.take_number.new.self) (sym c.in-Number.is) (c.take_number.ensures _)
