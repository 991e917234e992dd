use Rattle.std.proofs.Common.{ap, inl, refl, ◌∙◌}
use Rattle.dwarf_base.specs.ByteOrder.{is_big_of}
use Rattle.dwarf_meaning.specs.Stores.{Setup}
use Rattle.dwexpr_c.specs.Outcomes.{answer_coded}
use Rattle.dwexpr_c.proofs.KeptSetups.{replied_said}
use Rattle.dwexpr_c.proofs.Shown.{taken}
use Rattle.dwexpr_c.proofs.evaluations.resume.Goals as goal

pub show_reply-requires : goal.show_reply-requires
show_reply-requires c κs =
    ((refl, tt), (replied_said c.args.held.now.evaluation c.resume_with.new.evaluation c.in-Ok.reply (answer_coded (is_big_of c.args.held.now.order) c.args.texts.now c.args.answer.now) c.in-Ok.ensures.ok).status)

pub returns-in-Ok-clause-resumes : goal.returns-in-Ok-clause-resumes
returns-in-Ok-clause-resumes c = record {
  order = refl;
  does =
      inl (taken c.args.texts.now c.args.held.now.evaluation c.resume_with.new.evaluation c.show_reply.new.outcome c.args.places.now c.show_reply.new.places c.in-Ok.reply
      (answer_coded (is_big_of c.args.held.now.order) c.args.texts.now c.args.answer.now) c.in-Ok.ensures.ok c.show_reply.ensures);
}

pub returns-in-Ok-clause-capacities : goal.returns-in-Ok-clause-capacities
returns-in-Ok-clause-capacities c =
    ap (λ (s : Setup). s.limits) (replied_said c.args.held.now.evaluation c.resume_with.new.evaluation c.in-Ok.reply (answer_coded (is_big_of c.args.held.now.order) c.args.texts.now c.args.answer.now) c.in-Ok.ensures.ok).setup ∙ c.requires
