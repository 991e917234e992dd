use Rattle.std.proofs.Common.{◌<◌, subst, sym}
use Rattle.dwarf_meaning.specs.Bounds.{calls_left}
use Rattle.dwarf_meaning.specs.Kinds.{kind_of_answer}
use Rattle.dwarf_meaning.specs.Rest.{State, total_after}
use Rattle.dwarf_eval.specs.Permits.{AnswersWith, IsOpenFor}
use Rattle.dwarf_eval.specs.Evaluation.{Resumes, reply_of, input_of}
use Rattle.dwarf_eval.specs.inner.Answers.{IsWaiting, answer_of}
use Rattle.dwarf_eval.proofs.AnswerUses.{open_in}
use Rattle.dwarf_eval.proofs.Following.{comes_follow}
use Rattle.dwarf_eval.proofs.Replying.{waits_unless}
use Rattle.dwarf_eval.proofs.Resuming.{answer_open}
use Rattle.dwarf_eval.proofs.Spending.{comes_fewer, if_ok}
use Rattle.dwarf_eval.proofs.eval.evaluation.Evaluation.resume.Goals as goal

pub returns : goal.returns
returns g c =
    let text = g.R.Reader.text in
    let number = g.R.Offset.ReaderOffset.number in
    let x : State = c.self.inside.machine in
    let new : State = c.run_on.new.self in
    let reply = c.reply.result in
    let answer = answer_of text c.args.answer in
    let is_open = subst (λ (z : State). IsOpenFor (kind_of_answer answer) z.status) (sym c.self.view_is) c.requires in
    let waits = subst IsWaiting c.state.ensures (waits_unless text number (kind_of_answer answer) c.state.result.now
    (subst (IsOpenFor (kind_of_answer answer)) (sym c.state.ensures) is_open) c.in_default.not-Failed) in
    let now = open_in x.status waits in
    let totals = total_after x (input_of x answer) in
    let came = c.run_on.ensures x totals (answer_open x waits answer c.take.new.self is_open c.take.ensures) in
    subst (λ (z : State). AnswersWith text number answer z new reply) c.self.view_is (record {
      follows = subst (Resumes text number (input_of x answer) x new reply) (sym now.is) (comes_follow x totals new (reply_of text number reply) came.0 c.reply.ensures.reply);
      admits = c.reply.ensures.admits;
      fewer = if_ok (calls_left new < calls_left x) reply (comes_fewer x totals new now.request now.on_answer now.is came.1 came.0);
    })

pub reply-requires : goal.reply-requires
reply-requires g c =
    let text = g.R.Reader.text in
    let number = g.R.Offset.ReaderOffset.number in
    let x : State = c.self.inside.machine in
    let answer = answer_of text c.args.answer in
    let is_open = subst (λ (z : State). IsOpenFor (kind_of_answer answer) z.status) (sym c.self.view_is) c.requires in
    let waits = subst IsWaiting c.state.ensures (waits_unless text number (kind_of_answer answer) c.state.result.now
    (subst (IsOpenFor (kind_of_answer answer)) (sym c.state.ensures) is_open) c.in_default.not-Failed) in
    (c.run_on.ensures x (total_after x (input_of x answer)) (answer_open x waits answer c.take.new.self is_open c.take.ensures)).1
