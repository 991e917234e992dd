use Rattle.std.proofs.Common.{ap, subst, sym, ◌∙◌}
use Rattle.dwarf_eval.specs.Evaluation.{IsReplied, ok_reply}
use Rattle.dwarf_eval.specs.Permits.{Admits}
use Rattle.dwarf_eval.specs.inner.Machine.{on_answer_of, request_of, status_of}
use Rattle.dwarf_eval.proofs.Replying.{result_admits, result_replied}
use Rattle.dwarf_eval.proofs.eval.requests.reply.Goals as goal

pub returns-in-Waiting-clause-reply : goal.returns-in-Waiting-clause-reply
returns-in-Waiting-clause-reply g c =
    let text = g.R.Reader.text in
    let number = g.R.Offset.ReaderOffset.number in
    let is = sym c.state.ensures ∙ ap (status_of text number) c.in-Waiting.is in
    subst (IsReplied (ok_reply text number c.request_for.result)) (sym is)
    (result_replied text number (request_of text number c.in-Waiting.waiting) (on_answer_of text number c.in-Waiting.waiting) c.request_for.result c.request_for.ensures)

pub returns-in-Waiting-clause-admits : goal.returns-in-Waiting-clause-admits
returns-in-Waiting-clause-admits g c =
    let text = g.R.Reader.text in
    let number = g.R.Offset.ReaderOffset.number in
    let is = sym c.state.ensures ∙ ap (status_of text number) c.in-Waiting.is in
    subst (Admits c.request_for.result) (sym is)
    (result_admits text number (request_of text number c.in-Waiting.waiting) (on_answer_of text number c.in-Waiting.waiting) c.request_for.result c.request_for.ensures)
