use Rattle.dwarf_meaning.proofs.Turns.{run_turn, run_for-enough, all_left}
use Rattle.dwarf_meaning.proofs.MoreInputs.{extends_run, over_meaning, run_takes}
use Rattle.dwarf_meaning.proofs.Counting.{counts_path, count_within, maximum_within, count_at_most}
use Rattle.dwarf_meaning.proofs.Limited.{run_within, callers_within, meaning_within}
use Rattle.dwarf_meaning.proofs.Callees.{run_opens, meaning_open}
use Rattle.dwarf_meaning.proofs.laws.run_laws.Goals as goal

pub returns : goal.returns
returns c = record {
  one_turn = run_turn;
  enough_turns = run_for-enough;
  always_enough = all_left;
  inputs = extends_run;
  inputs_of_meaning = over_meaning;
  taken = run_takes;
  counts = counts_path;
  maximum = count_within;
  maximum_kept = maximum_within;
  most_of_all = count_at_most;
  within = run_within;
  within_callers = callers_within;
  within_meaning = meaning_within;
  callees = run_opens;
  callees_of_meaning = meaning_open;
}
