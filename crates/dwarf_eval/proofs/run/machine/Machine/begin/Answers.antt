use Rattle.std.proofs.Common.{ℕ, Option, subst}
use Rattle.dwarf_meaning.specs.Rest.{Start}
use Rattle.dwarf_eval.specs.inner.Answers.{IsAtRestBy}
use Rattle.dwarf_eval.proofs.Reaching.{begins_none, begins_some}
use Rattle.dwarf_eval.proofs.run.machine.Machine.begin.Goals as goal

pub returns-in-Some : goal.returns-in-Some
returns-in-Some g c = begins_some c.in-Some.value c.args.self.now c.set_running.new.self c.push.new.self c.push.result (subst (λ (v : Option ℕ). IsAtRestBy c.args.self.now (Start v)) c.in-Some.is c.requires) c.set_running.ensures c.push.ensures

pub returns-in_default : goal.returns-in_default
returns-in_default g c = begins_none c.args.self.now c.set_running.new.self (subst (λ (v : Option ℕ). IsAtRestBy c.args.self.now (Start v)) c.in_default.is c.requires) c.set_running.ensures
