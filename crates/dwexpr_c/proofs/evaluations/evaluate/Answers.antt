use Rattle.dwexpr_c.proofs.Shown.{evaluates}
use Rattle.dwexpr_c.proofs.evaluations.evaluate.Goals as goal

pub returns-clause-evaluates : goal.returns-clause-evaluates
returns-clause-evaluates g c =
    evaluates c.args.texts.now c.args.evaluation.now c.requires.given c.args.settings.now c.show_reply.new.outcome c.args.places.now c.show_reply.new.places c.start-reply.new.evaluation c.start-reply.ensures.done c.show_reply.ensures
