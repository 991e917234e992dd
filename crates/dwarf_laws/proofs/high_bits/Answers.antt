use Rattle.dwarf_laws.proofs.Evaluations.{two_runs, empty_logs_agree}
use Rattle.dwarf_laws.proofs.high_bits.Goals as goal

pub returns : goal.returns
returns c = record { onwards = two_runs; from_the_beginning = empty_logs_agree }
