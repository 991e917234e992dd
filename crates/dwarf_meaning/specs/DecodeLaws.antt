-- Laws of spelling, of malformed bytes, of splitting and of branches (DWARF 5, sections 2.5 and 7.7.1).
use Rattle.std.specs.Prelude.{ℕ, ◌≤◌, ◌≡◌, ◌⊎◌, List, ◌++◌, Option, None, length, ◌<◌, ◌≤ℤ◌, ◌<ℤ◌, ℤ, pos, negsuc, [], ◌∷◌}
use Rattle.dwarf_base.specs.Faults.{Fault, past_the_end}
use Rattle.dwarf_base.specs.declared.errors.Error.TheVariants.{UnexpectedEof, BadUnsignedLeb128, BadSignedLeb128, UnsupportedAddressSize, UnsupportedOffset, UnsupportedRegister, InvalidExpression, InvalidPieceSize}
use Rattle.dwarf_base.specs.Fronts.{Begins}
use Rattle.dwarf_meaning.specs.Operations.{Operation, Bra, Skip}
use Rattle.dwarf_meaning.specs.Operands.{Context, as_text}
use Rattle.dwarf_meaning.specs.Spelling.{Spells, Malformed}
use Rattle.dwarf_meaning.specs.Splitting.{Splitting, Joined, items_of, items_at}

-- the bytes begin with exactly one operation, whose spelling has one length, or are malformed by exactly one fault
pub record IsDecided (context : Context) (bytes : List ℕ) : Type 0 where
  pub either : ((op : Operation) × ((rest : List ℕ) × Begins (Spells context) bytes op rest))
      ⊎ ((fault : Fault) × Malformed context bytes fault)
  pub not_both : (op : Operation) (rest : List ℕ) (fault : Fault)
      → Begins (Spells context) bytes op rest → Malformed context bytes fault → ⊥
  pub one_front : (first second : Operation) (rest others : List ℕ)
      (a : Begins (Spells context) bytes first rest) (b : Begins (Spells context) bytes second others)
      → a.front ≡ b.front
  pub one_operation : (first second : Operation) (rest others : List ℕ)
      → Begins (Spells context) bytes first rest → Begins (Spells context) bytes second others → first ≡ second
  pub one_fault : (first second : Fault)
      → Malformed context bytes first → Malformed context bytes second → first ≡ second

-- a list of bytes has exactly one splitting
pub record SplitsOnce (context : Context) (bytes : List ℕ) : Type 0 where
  pub some : (ops : List Operation) × ((fault : Option Fault) × Splitting context bytes ops fault)
  pub same : (ops others : List Operation) (fault other : Option Fault)
      → Splitting context bytes ops fault → Splitting context bytes others other → (ops ≡ others) × (fault ≡ other)

-- A splitting has no more items than there are bytes. It is read item by item. No prefix of the bytes spells a
-- longer list of operations.
pub record IsSplitting (context : Context) (bytes : List ℕ) (ops : List Operation) (fault : Option Fault) : Type 0 where
  pub items : items_at context.encoding context.offset_bits (as_text context bytes) ≡ items_of ops fault
  pub few : length (items_of ops fault) ≤ length bytes
  pub whole : fault ≡ None → Joined context bytes ops
  pub longest : (front rest : List ℕ) (others : List Operation) → Joined context front others
      → front ++ rest ≡ bytes → length others ≤ length ops
  pub faultless : (others : List Operation) → Joined context bytes others → fault ≡ None

-- the faults that decoding may meet
abbrev pub IsDecodingFault : Fault → Type 0
IsDecodingFault (UnexpectedEof id) = UnexpectedEof id ≡ past_the_end
IsDecodingFault BadUnsignedLeb128 = Unit {0}
IsDecodingFault BadSignedLeb128 = Unit {0}
IsDecodingFault (UnsupportedAddressSize size) = Unit {0}
IsDecodingFault UnsupportedOffset = Unit {0}
IsDecodingFault (UnsupportedRegister register) = Unit {0}
IsDecodingFault (InvalidExpression opcode) = Unit {0}
IsDecodingFault (InvalidPieceSize bytes) = Unit {0}
IsDecodingFault _ = ⊥

-- ---- the operands of branches, which are signed numbers of 16 bits (section 2.5.1.5)

-- every number of the list is a byte
abbrev pub AreBytes : List ℕ → Type 0
AreBytes [] = Unit {0}
AreBytes (byte ∷ bytes) = (byte < 256) × AreBytes bytes

-- from -32768 to 32767
pub record IsNear (target : ℤ) : Type 0 where
  pub low : negsuc 32767 ≤ℤ target
  pub high : target <ℤ pos 32768

-- the operation is no branch, or a near one
abbrev pub BranchesNear : Operation → Type 0
BranchesNear (Bra target) = IsNear target
BranchesNear (Skip target) = IsNear target
BranchesNear _ = Unit {0}
