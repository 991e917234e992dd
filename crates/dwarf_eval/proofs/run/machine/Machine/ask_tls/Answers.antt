use Rattle.std.proofs.Common.{refl}
use Rattle.dwarf_meaning.specs.Acts.{RequestAct, act}
use Rattle.dwarf_meaning.specs.Requests.{RequiresTls, Push}
use Rattle.dwarf_eval.proofs.Performances.{performs_asks, performs_number, underflows}
use Rattle.dwarf_eval.proofs.run.machine.Machine.ask_tls.Goals as goal

pub returns-in_default : goal.returns-in_default
unfolding act
returns-in_default g c = underflows _ c.args.self.now c.pop_number.new.self c.in_default.ensures

pub returns : goal.returns
unfolding act
returns g c =
    performs_number _ (λ n rest. RequestAct rest (RequiresTls n) Push) c.in-Some.index c.args.self.now c.pop_number.new.self c.ask.new.self refl c.in-Some.ensures
    (performs_asks (RequiresTls c.in-Some.index) Push c.pop_number.new.self c.ask.new.self c.ask.ensures.alone)
