use Rattle.std.proofs.Common.{◌≡◌, ◌∙◌, ap, sym, subst}
use Rattle.dwarf_meaning.specs.Rest.{Start, State, total}
use Rattle.dwarf_eval.specs.Evaluation.{Evaluates, reply_of}
use Rattle.dwarf_eval.specs.inner.Machine.{status_of}
use Rattle.dwarf_eval.proofs.Following.{comes_follow}
use Rattle.dwarf_eval.proofs.eval.evaluation.Evaluation.evaluate.Goals as goal

pub returns-clause-follows : goal.returns-clause-follows
returns-clause-follows g c =
    let text = g.R.Reader.text in
    let number = g.R.Offset.ReaderOffset.number in
    let x : State = c.self.inside.machine in
    let new : State = c.run_on.new.self in
    let starts : x.status ≡ Start c.in-Start.initial_value = sym c.state.ensures ∙ ap (status_of text number) c.in-Start.is in
    let comes = (c.run_on.ensures x (total x) c.begin.ensures).0 in
    let follows = comes_follow x (total x) new (reply_of text number c.reply-2.result) comes c.reply-2.ensures.reply in
    subst (λ (z : State). Evaluates text number z new c.reply-2.result z.status) c.self.view_is (subst (Evaluates text number x new c.reply-2.result) (sym starts) follows)

pub reply-requires-2 : goal.reply-requires-2
reply-requires-2 g c =
    let x : State = c.self.inside.machine in
    (c.run_on.ensures x (total x) c.begin.ensures).1
