-- The words of the program: `ops|eval ADDR OFFSET VERSION ORDER HEX`.
use Rattle.std.specs.Result.{result_ok}
use Rattle.std.specs.Map.{lookup}
use Rattle.std.specs.Prelude.{ℕ, ◌==◌, codes, bytes_eq, List, [], ◌∷◌, Option, Some, None, if◌then◌else◌}
use Rattle.hex.specs.Hex.{decode_of}
use Rattle.dwarf_base.specs.declared.common.Format.{Format}
use Rattle.dwarf_base.specs.declared.common.Format.TheVariants.{Dwarf32, Dwarf64}
use Rattle.dwarf_base.specs.declared.byte_order.RunTimeEndian.{RunTimeEndian}
use Rattle.dwarf_base.specs.declared.byte_order.RunTimeEndian.TheVariants.{Little, Big}
use Rattle.dwexpr_cli.specs.declared.words.Command.{Command}
use Rattle.dwexpr_cli.specs.declared.words.Command.TheVariants.{Ops, Eval}
use Rattle.dwexpr_cli.specs.declared.words.DecodingContext.{DecodingContext}
use Rattle.dwexpr_cli.specs.declared.words.Extra.{Extra}
use Rattle.dwexpr_cli.specs.declared.words.Extra.TheVariants.{Help, Version, Trace}

-- ---- HEX

-- the bytes of a word: none for `-`, else one for each pair of hexadecimal digits; an empty word is bad
abbrev pub bytes_in : List ℕ → Option (List ℕ)
bytes_in [] = None
bytes_in (byte ∷ []) = if byte == 45 then Some [] else None
bytes_in (byte ∷ next ∷ rest) = result_ok (decode_of (byte ∷ next ∷ rest))

-- ---- the words before it

-- the first word: `ops` or `eval`
abbrev pub command_in : List ℕ → Option Command
command_in word = lookup (bytes_eq word) ((codes "ops", Ops) ∷ (codes "eval", Eval) ∷ [])

-- ADDR: the size of an address in bytes
abbrev pub address_size_in : List ℕ → Option ℕ
address_size_in word =
    lookup (bytes_eq word) ((codes "1", 1) ∷ (codes "2", 2) ∷ (codes "3", 3) ∷ (codes "4", 4) ∷ (codes "5", 5)
    ∷ (codes "6", 6) ∷ (codes "7", 7) ∷ (codes "8", 8) ∷ [])

-- OFFSET: the size of an offset in bytes, which gives the format
abbrev pub format_in : List ℕ → Option Format
format_in word = lookup (bytes_eq word) ((codes "4", Dwarf32) ∷ (codes "8", Dwarf64) ∷ [])

-- VERSION: the version of DWARF
abbrev pub version_in : List ℕ → Option ℕ
version_in word = lookup (bytes_eq word) ((codes "2", 2) ∷ (codes "3", 3) ∷ (codes "4", 4) ∷ (codes "5", 5) ∷ [])

-- ORDER: the byte order
abbrev pub order_in : List ℕ → Option RunTimeEndian
order_in word = lookup (bytes_eq word) ((codes "le", Little) ∷ (codes "be", Big) ∷ [])

-- how the bytes are read, if all four words are good
abbrev pub decoding_context_of : Option ℕ → Option Format → Option ℕ → Option RunTimeEndian → Option DecodingContext
decoding_context_of (Some size) (Some format) (Some version) (Some order) =
    Some (record { encoding = record { address_size = size; format = format; version = version }; order = order })
decoding_context_of _ _ _ _ = None

-- how the bytes are read, from the four words that say it
abbrev pub decoding_context_in : (size offsets version order : List ℕ) → Option DecodingContext
decoding_context_in size offsets version order =
    decoding_context_of (address_size_in size) (format_in offsets) (version_in version) (order_in order)

-- ---- all words

-- what the words ask for: a command, the bytes, and how they are read
pub record Invocation : Type 0 where
  pub command : Command
  pub context : DecodingContext
  pub bytes : List ℕ

-- what the words ask for, if all three parts are good
abbrev pub invocation_by : Option Command → Option DecodingContext → Option (List ℕ) → Option Invocation
invocation_by (Some command) (Some context) (Some bytes) =
    Some (record { command = command; context = context; bytes = bytes })
invocation_by _ _ _ = None

-- what the words ask for, if there are six and each is good
abbrev pub invocation_in : List (List ℕ) → Option Invocation
invocation_in (command ∷ size ∷ offsets ∷ version ∷ order ∷ hexadecimal ∷ []) =
    invocation_by (command_in command) (decoding_context_in size offsets version order) (bytes_in hexadecimal)
invocation_in _ = None

-- ---- what isn't a command

-- what a first word asks for besides the commands
abbrev pub named_extra_in : List ℕ → Option Extra
named_extra_in word =
    lookup (bytes_eq word) ((codes "-h", Help) ∷ (codes "--help", Help) ∷ (codes "-V", Version)
    ∷ (codes "--version", Version) ∷ (codes "trace", Trace) ∷ [])

-- the same of the first of these words
abbrev pub extra_in : List (List ℕ) → Option Extra
extra_in [] = None
extra_in (word ∷ words) = named_extra_in word
