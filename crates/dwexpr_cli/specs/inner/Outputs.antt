-- What a writer gets; what is printed after a replay; and what is printed if there are no words.
use Rattle.std.specs.Prelude.{ℕ, ◌≡◌, ◌<◌, ◌-◌, ◌^◌, decimal, List, [], Option, Result, Ok, Err, IfOk}
use Rattle.std.specs.Fmt.{signed_decimal}
use Rattle.std.specs.Io.KnownBytes.{Appends}
use Rattle.std.specs.declared.io.ErrorKind.{ErrorKind}
use Rattle.std.specs.declared.io.ErrorKind.TheVariants.{InvalidData}
use Rattle.dwarf_base.specs.EndianSlice.{slice_bytes}
use Rattle.dwarf_meaning.specs.Rest.{State, Status, CompleteStatus, FaultStatus}
use Rattle.dwarf_replay.specs.declared.steps.Replayed.{Replayed}
use Rattle.dwarf_replay.specs.declared.steps.Replayed.TheVariants as replayed
use Rattle.dwexpr_cli.specs.Endings.{Ending, bad_words, complete_ending, misplaced_step, no_memory}
use Rattle.dwexpr_cli.specs.Writing.{AppendsFront, bytes_word, hexadecimal, value_word}
use Rattle.dwexpr_cli.specs.declared.writing.Word.{Word}
use Rattle.dwexpr_cli.specs.declared.writing.Word.TheVariants as word

-- ---- what a writer gets

-- the bytes of a word
abbrev pub word_text : Word → List ℕ
word_text (word.Name name) = name.now
word_text (word.Number number) = decimal number
word_text (word.Integer number) = signed_decimal number
word_text (word.Hexadecimal number) = hexadecimal number
word_text (word.Value value) = value_word value
word_text (word.Bytes text) = bytes_word (slice_bytes text)

-- the known bytes grew by the text, or by a prefix of it if a write was refused
abbrev pub Prints : {T E : Type 0} → Option (List ℕ) → Option (List ℕ) → List ℕ → Result T E → Type 0
Prints old new text (Ok x) = Appends old new text
Prints old new text (Err e) = AppendsFront old new text

-- the whole ending was written, and this is the status; or a write was refused after a prefix
abbrev pub WritesEnding : {E : Type 0} → (old new : Option (List ℕ)) → Ending → Result ℕ E → Type 0
WritesEnding old new ending result = Prints old new ending.text result × IfOk result (λ status. status ≡ ending.status)

-- ---- endings

-- the ending, by the state of an evaluation
abbrev pub state_ending : State → Status → Ending
state_ending x (CompleteStatus value) = complete_ending x.store.pieces value
state_ending x (FaultStatus error) = record { text = []; status = 1 }
state_ending x _ = record { text = []; status = 0 }

-- the ending after the replies
abbrev pub ending_of : {R O : Type 0} → State → Replayed R O → Ending
ending_of x replayed.Done = state_ending x x.status
ending_of x (replayed.Misplaced index) = misplaced_step index
ending_of x (replayed.NoRoom index answer) = no_memory

-- the line number of a step fits in 64 bits
abbrev pub HasLine : {R O : Type 0} → Replayed R O → Type 0
HasLine replayed.Done = Unit {0}
HasLine (replayed.Misplaced index) = index < 2 ^ 64 - 1
HasLine (replayed.NoRoom index answer) = Unit {0}

-- the ending if the words couldn't be read: one isn't UTF-8, or memory for them was refused
abbrev pub without_words : ErrorKind → Ending
without_words InvalidData = bad_words
without_words _ = no_memory
