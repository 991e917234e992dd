-- What is read from the program's words, and from the lines of its input.
use Rattle.std.specs.Prelude.{ℕ, ◌≡◌, IsSome, Vec, map, List, [], ◌∷◌, Option, Some, None, Result, Ok, Err}
use Rattle.dwarf_meaning.specs.Steps.{Step}
use Rattle.dwexpr_cli.specs.Endings.{Ending, bad_step, bad_words, no_input, no_memory}
use Rattle.dwexpr_cli.specs.Words as spec
use Rattle.dwexpr_cli.specs.declared.hexadecimal.InputFault.{InputFault}
use Rattle.dwexpr_cli.specs.declared.hexadecimal.InputFault.TheVariants as input
use Rattle.dwexpr_cli.specs.declared.steps.BadLine.{BadLine}
use Rattle.dwexpr_cli.specs.declared.words.BadWords.{BadWords}
use Rattle.dwexpr_cli.specs.declared.words.Invocation.{Invocation}
use Rattle.dwexpr_cli.specs.declared.words.Words.{Words}

-- the result is what the input says, or `Bad` if that is nothing; memory for it may be refused
abbrev pub ReadsInput : {X Y B : Type 0} → (X → Y) → (said : Option Y) → Result X (InputFault B) → Type 0
ReadsInput view said (Ok x) = said ≡ Some (view x)
ReadsInput view said (Err (input.Bad bad)) = said ≡ None
ReadsInput view said (Err input.NoMemory) = IsSome said

-- ---- words

-- the texts of six words
abbrev pub texts_of : Words → List (List ℕ)
texts_of words =
    words.command.now ∷ words.address_size.now ∷ words.offset_size.now ∷ words.version.now ∷ words.order.now
    ∷ words.bytes.now ∷ []

-- maps an invocation in the code to the definitions
abbrev pub asked_by : {A : Type 0} → Invocation A → spec.Invocation
asked_by x = record { command = x.command; context = x.context; bytes = x.bytes.items }

-- the ending that is printed if words ask for nothing
abbrev pub bad_invocation : InputFault BadWords → Ending
bad_invocation (input.Bad words) = bad_words
bad_invocation input.NoMemory = no_memory

-- ---- lines

-- the ending that is printed if the input couldn't be read
abbrev pub unread_input : {E : Type 0} → InputFault E → Ending
unread_input (input.Bad error) = no_input
unread_input input.NoMemory = no_memory

-- the result is the steps that the lines spell, or the first line that spells none; memory for them may be refused
abbrev pub ReadsSteps : {A B : Type 0} → (A → Step) → (said : Result (List Step) ℕ)
    → Result (Vec A B) (InputFault BadLine) → Type 0
ReadsSteps view said (Ok steps) = said ≡ Ok (map view steps.items)
ReadsSteps view said (Err (input.Bad line)) = said ≡ Err line.number
ReadsSteps view said (Err input.NoMemory) = Unit {0}

-- the ending that is printed if lines give no steps
abbrev pub bad_steps : InputFault BadLine → Ending
bad_steps (input.Bad line) = bad_step line.number
bad_steps input.NoMemory = no_memory
