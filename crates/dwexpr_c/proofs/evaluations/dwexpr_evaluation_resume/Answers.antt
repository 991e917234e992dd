use Rattle.std.proofs.Common.{rules, subst}
use Rattle.dwexpr_c.specs.Answered.{GoesOn}
use Rattle.dwexpr_c.specs.Held.{IsBegun}
use Rattle.dwexpr_c.proofs.StepsDone.{goes_on}
use Rattle.dwexpr_c.proofs.evaluations.dwexpr_evaluation_resume.Goals as goal

pub returns-clause-goes_on : goal.returns-clause-goes_on
returns-clause-goes_on c =
    let texts = c.args.texts.now in
    let before = c.get.result.now in
    let all : GoesOn texts c.args.answer before c.resume.new.held c.resume.new.outcome c.args.pieces.now c.resume.new.places =
    goes_on texts c.args.answer before c.resume.new.held c.resume.new.outcome c.args.pieces.now c.resume.new.places c.resume.ensures.resumes (subst IsBegun c.get.ensures.held c.requires)
    in
    search (rules, all)
