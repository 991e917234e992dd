-- What is printed after the replies of an evaluation, and the program's exit status.
use Rattle.std.specs.Prelude.{ℕ, ◌+◌, ◌++◌, codes, decimal, List, [], ◌∷◌, Option}
use Rattle.dwarf_value.specs.declared.types.Value.{Value}
use Rattle.dwarf_meaning.specs.Locations.{Piece}
use Rattle.dwexpr_cli.specs.Lines.{piece_lines, value_line}
use Rattle.dwexpr_cli.specs.Writing.{line}

-- lines, and the status: 0 if all was done, 1 if something failed, 2 if the words or the lines are wrong
pub record Ending : Type 0 where
  pub text : List ℕ
  pub status : ℕ

-- the words are wrong
abbrev pub bad_words : Ending
bad_words = record { text = line (codes "bad words") []; status = 2 }

-- memory was refused
abbrev pub no_memory : Ending
no_memory = record { text = line (codes "no memory") []; status = 1 }

-- the input could not be read
abbrev pub no_input : Ending
no_input = record { text = []; status = 1 }

-- the line with this number is no step
abbrev pub bad_step : (number : ℕ) → Ending
bad_step number = record { text = line (codes "bad step") (decimal number ∷ []); status = 2 }

-- the step at this index, from 0, isn't allowed; the printed line number counts from 1
abbrev pub misplaced_step : (index : ℕ) → Ending
misplaced_step index = record { text = line (codes "misplaced") (decimal (index + 1) ∷ []); status = 2 }

-- the pieces and the value of a complete evaluation
abbrev pub complete_ending : List Piece → Option Value → Ending
complete_ending pieces value = record { text = piece_lines pieces ++ value_line value; status = 0 }
