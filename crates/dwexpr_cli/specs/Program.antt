-- How the program ends, by its words and its input.
use Rattle.std.specs.Prelude.{ℕ, ◌≡◌, ◌⊎◌, List, Option, Some, None, IfSome}
use Rattle.std.specs.Io.KnownBytes.{Appends}
use Rattle.dwarf_base.specs.ByteOrder.{is_big_of}
use Rattle.dwarf_base.specs.declared.common.Encoding.{Encoding}
use Rattle.dwarf_base.specs.Reads.{Text}
use Rattle.dwarf_meaning.specs.Operands.{context_of}
use Rattle.dwexpr_cli.specs.Evaluates.{EvaluatesLines}
use Rattle.dwexpr_cli.specs.Endings.{Ending, bad_words, no_memory, no_input}
use Rattle.dwexpr_cli.specs.Listing.{ListsOperations}
use Rattle.dwexpr_cli.specs.Words.{Invocation, invocation_in}
use Rattle.dwexpr_cli.specs.Writing.{AppendsFront}
use Rattle.dwexpr_cli.specs.declared.words.Command.{Command}
use Rattle.dwexpr_cli.specs.declared.words.Command.TheVariants.{Ops, Eval}

-- either the whole input was read, which is all that the reader had left, if that is known; or a read failed, or memory
-- was refused
abbrev pub EvaluatesInput : Encoding → Text → (left : Option (List ℕ)) → Ending → Type 0
EvaluatesInput encoding text left ending =
    ((input : List ℕ) × IfSome left (λ bytes. input ≡ bytes) × EvaluatesLines encoding text input ending)
    ⊎ ((ending ≡ no_input) ⊎ (ending ≡ no_memory))

-- the ending of a command
abbrev pub EndsCommand : Command → Invocation → (left : Option (List ℕ)) → Ending → Type 0
EndsCommand Ops asked left ending =
    ListsOperations (context_of asked.context.encoding 64 (is_big_of asked.context.order)) 0 asked.bytes ending
EndsCommand Eval asked left ending =
    EvaluatesInput asked.context.encoding
    (record { bytes = asked.bytes; is_big = is_big_of asked.context.order }) left ending

-- the ending of an invocation, or of bad words; memory for the bytes of the words may be refused
abbrev pub EndsInvocation : Option Invocation → (left : Option (List ℕ)) → Ending → Type 0
EndsInvocation None left ending = ending ≡ bad_words
EndsInvocation (Some asked) left ending = EndsCommand asked.command asked left ending ⊎ (ending ≡ no_memory)

-- the ending of the program, for these words
abbrev pub EndsFor : (words : List (List ℕ)) → (left : Option (List ℕ)) → Ending → Type 0
EndsFor words left ending = EndsInvocation (invocation_in words) left ending

-- all was written, and the status is the ending's; or a write was refused after a prefix, and the status is 1
abbrev pub Exits : (old new : Option (List ℕ)) → Ending → (status : ℕ) → Type 0
Exits old new ending status =
    (Appends old new ending.text × (status ≡ ending.status)) ⊎ (AppendsFront old new ending.text × (status ≡ 1))
