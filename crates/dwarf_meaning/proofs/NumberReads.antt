-- Operands that are numbers are read exactly if they are spelled.
use Rattle.std.proofs.Common.{ℕ, ◌≡◌, List, ◌++◌, Ok, Err, refl, sym, ◌*◌, ℤ, Bool, true, false, cond, length, Result, subst}
use Rattle.dwarf_base.specs.Faults.{Fault, past_the_end}
use Rattle.dwarf_base.specs.Fronts.{TakesFront, SpellsBlock, SpellsFixed, MalformedBlock}
use Rattle.dwarf_base.specs.Leb.{uleb_at, sleb_at, SpellsLeb, MalformedLeb, unsigned_leb, signed_leb}
use Rattle.dwarf_base.proofs.Fronts.{Decision, spelled, malformed, takes_checked, split_exactly, split_fronts, fixed_exactly, fixed_fronts}
use Rattle.dwarf_base.proofs.LebLaws.{uleb_exactly, sleb_exactly, uleb_fronts, sleb_fronts}
use Rattle.dwarf_meaning.proofs.ReadsExactly.{Covers, covers_exactly}
use Rattle.dwarf_base.specs.declared.errors.Error.TheVariants.{UnsupportedAddressSize}
use Rattle.dwarf_base.specs.Numbers.{number_of, signed_of}
use Rattle.dwarf_base.specs.Reads.{split_at, fixed_at, is_fixed_size}
use Rattle.dwarf_meaning.specs.Operands.{Context, Layout, Range, Bytes, Leb128, operand_value}
use Rattle.dwarf_meaning.specs.Decoding.{number_at, unsigned_at, integer_at}
use Rattle.dwarf_meaning.specs.Spelling.{SpellsNumber, MalformedNumber, SpellsInteger, MalformedInteger, SpellsUnsigned, MalformedUnsigned}
use Rattle.dwarf_meaning.specs.Spelling as spelling

uleb_covers : Covers uleb_at (SpellsLeb unsigned_leb) (MalformedLeb unsigned_leb)
uleb_covers = covers_exactly uleb_at (SpellsLeb unsigned_leb) (MalformedLeb unsigned_leb) uleb_exactly uleb_fronts

sleb_covers : Covers sleb_at (SpellsLeb signed_leb) (MalformedLeb signed_leb)
sleb_covers = covers_exactly sleb_at (SpellsLeb signed_leb) (MalformedLeb signed_leb) sleb_exactly sleb_fronts

pub block_covers : (size : ℕ) → Covers (split_at size) (SpellsBlock size) (MalformedBlock size)
block_covers size = covers_exactly (split_at size) (SpellsBlock size) (MalformedBlock size) (split_exactly size) (split_fronts size)

module _ (big : Bool) where
  fixed_covers : (size : ℕ) → Covers (fixed_at big size) (SpellsFixed big size) (MalformedBlock size)
  fixed_covers size = covers_exactly (fixed_at big size) (SpellsFixed big size) (MalformedBlock size) (fixed_exactly big size) (fixed_fronts big size)

  -- all bytes spell a number
  fixed_takes : (bytes : List ℕ) → TakesFront (fixed_at big (length bytes)) bytes (number_of big bytes)
  fixed_takes bytes = (fixed_covers (length bytes)).takes bytes (number_of big bytes) (record { length_is = refl; value_is = refl })

  -- ---- unsigned numbers, by their layout

  number_takes : (layout : Layout) (front : List ℕ) (number : ℕ) → SpellsNumber big layout front number → TakesFront (number_at big layout) front number
  number_takes layout front number (spelling.in_bytes bytes good) =
      subst (λ (b : Bool). TakesFront (λ xs. cond b (fixed_at big (length bytes) xs) (Err (UnsupportedAddressSize (length bytes)))) bytes (number_of big bytes)) (sym good) (fixed_takes bytes)
  number_takes layout front number (spelling.in_leb128 bytes number' s) = uleb_covers.takes bytes number' s

  number_refuses : (layout : Layout) (bytes : List ℕ) (fault : Fault) → MalformedNumber layout bytes fault → number_at big layout bytes ≡ Err fault
  number_refuses layout bytes fault (spelling.few_bytes size bytes' good less) = rw good ((fixed_covers size).refuses bytes' past_the_end (record { shorter = less; fault_is = refl }))
  number_refuses layout bytes fault (spelling.address_size size bytes' bad) = rw bad refl
  number_refuses layout bytes fault (spelling.no_leb128 bytes' fault' r) = uleb_covers.refuses bytes' fault' r

  address_decides : (size : ℕ) (bytes : List ℕ) (good : Bool) → is_fixed_size size ≡ good → Decision (SpellsNumber big (Bytes size)) (MalformedNumber (Bytes size)) bytes
  address_decides size bytes false bad = malformed (UnsupportedAddressSize size) (spelling.address_size size bytes bad)
  address_decides size bytes true good = elim ((fixed_covers size).decides bytes) [
    | spelled front number rest s whole ↦ spelled front number rest (rw (← s.length_is, s.value_is) (spelling.in_bytes front (rw s.length_is good))) whole
    | malformed fault few ↦ malformed past_the_end (spelling.few_bytes size bytes good few.shorter)
  ]

  number_decides : (layout : Layout) (bytes : List ℕ) → Decision (SpellsNumber big layout) (MalformedNumber layout) bytes
  number_decides (Bytes size) bytes = address_decides size bytes (is_fixed_size size) refl
  number_decides Leb128 bytes = elim (uleb_covers.decides bytes) [
    | spelled front number rest s whole ↦ spelled front number rest (spelling.in_leb128 front number s) whole
    | malformed fault r ↦ malformed fault (spelling.no_leb128 bytes fault r)
  ]

  -- ---- signed operands

  integer_takes : (layout : Layout) (front : List ℕ) (value : ℤ) → SpellsInteger big layout front value → TakesFront (integer_at big layout) front value
  integer_takes layout front value (spelling.in_signed_bytes bytes) =
      takes_checked (fixed_at big (length bytes)) (λ number. Ok (signed_of (8 * length bytes) number)) bytes (number_of big bytes) _ refl (fixed_takes bytes)
  integer_takes layout front value (spelling.in_signed_leb128 bytes value' s) = sleb_covers.takes bytes value' s

  integer_refuses : (layout : Layout) (bytes : List ℕ) (fault : Fault) → MalformedInteger layout bytes fault → integer_at big layout bytes ≡ Err fault
  integer_refuses layout bytes fault (spelling.few_signed_bytes size bytes' less) = rw ((fixed_covers size).refuses bytes' past_the_end (record { shorter = less; fault_is = refl })) refl
  integer_refuses layout bytes fault (spelling.no_signed_leb128 bytes' fault' r) = sleb_covers.refuses bytes' fault' r

  integer_decides : (layout : Layout) (bytes : List ℕ) → Decision (SpellsInteger big layout) (MalformedInteger layout) bytes
  integer_decides (Bytes size) bytes = elim ((fixed_covers size).decides bytes) [
    | spelled front number rest s whole ↦ spelled front (signed_of (8 * size) number) rest (rw (← s.length_is, s.value_is) (spelling.in_signed_bytes front)) whole
    | malformed fault few ↦ malformed past_the_end (spelling.few_signed_bytes size bytes few.shorter)
  ]
  integer_decides Leb128 bytes = elim (sleb_covers.decides bytes) [
    | spelled front value rest s whole ↦ spelled front value rest (spelling.in_signed_leb128 front value s) whole
    | malformed fault r ↦ malformed fault (spelling.no_signed_leb128 bytes fault r)
  ]

  pub integer_covers : (layout : Layout) → Covers (integer_at big layout) (SpellsInteger big layout) (MalformedInteger layout)
  integer_covers layout = record { takes = integer_takes layout; refuses = integer_refuses layout; decides = integer_decides layout }

-- ---- unsigned operands

module _ (context : Context) (form : Layout × Range) where
  abbrev check : ℕ → Result ℕ Fault
  check = operand_value context.offset_bits form.1

  unsigned_takes : (front : List ℕ) (value : ℕ) → SpellsUnsigned context form front value → TakesFront (unsigned_at context.offset_bits context.is_big form) front value
  unsigned_takes front value (spelling.in_range bytes number value' s e) =
      takes_checked (number_at context.is_big form.0) check bytes number value' e (number_takes context.is_big form.0 bytes number s)

  unsigned_refuses : (bytes : List ℕ) (fault : Fault) → MalformedUnsigned context form bytes fault → unsigned_at context.offset_bits context.is_big form bytes ≡ Err fault
  unsigned_refuses bytes fault (spelling.no_number bytes' fault' r) = rw (number_refuses context.is_big form.0 bytes' fault' r) refl
  unsigned_refuses bytes fault (spelling.out_of_range front rest number fault' s e) =
      rw ((number_takes context.is_big form.0 front number s).whatever_follows rest, e) refl

  unsigned_checked : (bytes front rest : List ℕ) (number : ℕ) (r : Result ℕ Fault) → check number ≡ r → SpellsNumber context.is_big form.0 front number → front ++ rest ≡ bytes
      → Decision (SpellsUnsigned context form) (MalformedUnsigned context form) bytes
  unsigned_checked bytes front rest number (Ok value) e s whole = spelled front value rest (spelling.in_range front number value s e) whole
  unsigned_checked bytes front rest number (Err fault) e s whole =
      malformed fault (subst (λ (xs : List ℕ). MalformedUnsigned context form xs fault) whole (spelling.out_of_range front rest number fault s e))

  unsigned_decides : (bytes : List ℕ) → Decision (SpellsUnsigned context form) (MalformedUnsigned context form) bytes
  unsigned_decides bytes = elim (number_decides context.is_big form.0 bytes) [
    | spelled front number rest s whole ↦ unsigned_checked bytes front rest number (check number) refl s whole
    | malformed fault r ↦ malformed fault (spelling.no_number bytes fault r)
  ]

  pub unsigned_covers : Covers (unsigned_at context.offset_bits context.is_big form) (SpellsUnsigned context form) (MalformedUnsigned context form)
  unsigned_covers = record { takes = unsigned_takes; refuses = unsigned_refuses; decides = unsigned_decides }
