-- The operations of a text, listed one after another.
use Rattle.std.proofs.Common.{◌≡◌, ◌==◌, true, false, eqb-true, ℕ, ◌-◌, ◌+◌, Bool, List, [], ◌∷◌, ◌++◌, length, take, drop, codes, decimal, Option, Some, None, Result, Err, Ok, IsErr, refl, sym, ◌∙◌, ap, ap₂, subst, arith, append_assoc, length-append}
use Rattle.std.proofs.KnownBytes.{Appends-nil, Appends-trans}
use Rattle.std.proofs.Math.Seq.{take-append_seam}
use Rattle.std.specs.Io.KnownBytes.{Appends}
use Rattle.dwarf_base.proofs.Suffixes.{suffix_trans, suffix_whole}
use Rattle.dwarf_base.specs.declared.common.Encoding.{Encoding}
use Rattle.dwarf_base.specs.Faults.{Fault}
use Rattle.dwarf_base.specs.Fronts.{Begins}
use Rattle.dwarf_base.specs.Reads.{IsSuffix, Text}
use Rattle.dwarf_meaning.specs.Decoding.{operation_at}
use Rattle.dwarf_meaning.specs.Operands.{context_of}
use Rattle.dwarf_meaning.specs.Operations.{Operation}
use Rattle.dwarf_meaning.specs.Spelling.{Spells}
use Rattle.dwarf_meaning.specs.Splitting.{ends, faults, goes_on}
use Rattle.dwarf_meaning.proofs.DecodingFacts.{operation_begins}
use Rattle.dwarf_meaning.proofs.OperationReads.{reads_operation}
use Rattle.dwarf_meaning.proofs.Splittings.{splits_once}
use Rattle.dwarf_op.specs.Names.{name_of}
use Rattle.dwexpr_cli.specs.Endings.{Ending}
use Rattle.dwexpr_cli.specs.inner.Outputs.{WritesEnding}
use Rattle.dwexpr_cli.specs.Lines.{fault_words}
use Rattle.dwexpr_cli.specs.Listing.{ListsOperations, listing}
use Rattle.dwexpr_cli.specs.Writing.{AppendsFront, bytes_word, line}
use Rattle.dwexpr_cli.proofs.Printing.{begun, ends_beyond, ends_refused}

-- what is listed of a text from a place on
abbrev pub Lists : Encoding → Text → ℕ → Ending → Type 0
Lists encoding text place ending = ListsOperations (context_of encoding 64 text.is_big) place text.bytes ending

pub lists_fault : (encoding : Encoding) (big : Bool) (place : ℕ) (bytes : List ℕ) (fault : Fault) → (length bytes == 0) ≡ false
    → operation_at encoding 64 (record { bytes = bytes; is_big = big }) ≡ Err fault
    → ListsOperations (context_of encoding 64 big) place bytes
    (record { text = line (decimal place) (codes "fault" ∷ fault_words fault); status = 1 })
lists_fault encoding big place [] fault some e = cc some
lists_fault encoding big place (byte ∷ bytes) fault some e =
    ([], Some fault, faults byte bytes fault ((reads_operation encoding 64 big).refused (byte ∷ bytes) fault e), refl)

pub lists_nothing : (encoding : Encoding) (big : Bool) (place : ℕ) (bytes : List ℕ) → (length bytes == 0) ≡ true
    → ListsOperations (context_of encoding 64 big) place bytes (record { text = []; status = 0 })
lists_nothing encoding big place [] none = ([], None, ends, refl)
lists_nothing encoding big place (byte ∷ bytes) none = absurd (omega (arith, eqb-true _ _ none))

-- the operations before what is left were listed
pub record Listed (encoding : Encoding) (whole left : Text) (old new : Option (List ℕ)) : Type 0 where
  pub printed : List ℕ
  pub lists : (more : Ending) → Lists encoding left (length whole.bytes - length left.bytes) more
      → Lists encoding whole 0 (record more { text = printed ++ more.text })
  pub written : Appends old new printed
  pub suffix : IsSuffix left.bytes whole.bytes

pub none_listed : (encoding : Encoding) (text : Text) (known : Option (List ℕ)) → Listed encoding text text known known
none_listed encoding text known =
    let first : length text.bytes - length text.bytes ≡ 0 = omega arith in
    record {
      printed = [];
      lists = λ more h. subst (λ (place : ℕ). Lists encoding text place more) first h;
      written = Appends-nil known;
      suffix = suffix_whole text.bytes;
    }

module _ (encoding : Encoding) (whole left : Text) (a b c : Option (List ℕ)) (before : Listed encoding whole left a b) where
  abbrev pub place : ℕ
  place = length whole.bytes - length left.bytes

  pub all_listed : {E : Type 0} (more : Ending) (r : Result ℕ E) → Lists encoding left place more → WritesEnding b c more r
      → (ending : Ending) × Lists encoding whole 0 ending × WritesEnding a c ending r
  all_listed more r h k =
      (record more { text = before.printed ++ more.text }, before.lists more h, ends_beyond a b c before.printed more r before.written k)

  module _ (op : Operation) (rest : Text) (read : operation_at encoding 64 left ≡ Ok (op, rest.bytes)) (order : rest.is_big ≡ left.is_big)
      (spelled name : List ℕ) (e : spelled ≡ take (length whole.bytes - length rest.bytes - place) (drop place whole.bytes)) (f : name ≡ name_of op) where
    abbrev pub first : List ℕ
    first = line (decimal place) (bytes_word spelled ∷ name ∷ [])

    next : Begins (Spells (context_of encoding 64 left.is_big)) left.bytes op rest.bytes
    next = operation_begins encoding 64 left op rest.bytes read

    after_front : length whole.bytes - length rest.bytes ≡ place + length next.front
    after_front = omega (arith, before.suffix.no_longer, ap length next.whole, length-append next.front rest.bytes)

    is_spelled : spelled ≡ next.front
    is_spelled =
        let size : length whole.bytes - length rest.bytes - place ≡ length next.front = omega (arith, after_front) in
        e ∙ ap (λ (n : ℕ). take n (drop place whole.bytes)) size ∙ ap (take (length next.front)) (before.suffix.same ∙ sym next.whole)
        ∙ take-append_seam next.front rest.bytes

    lists_next : (more : Ending) → Lists encoding rest (length whole.bytes - length rest.bytes) more
        → Lists encoding left place (record more { text = first ++ more.text })
    lists_next more lists =
        let after = subst (λ (n : ℕ). ListsOperations (context_of encoding 64 left.is_big) n rest.bytes more) after_front
        (subst (λ (big : Bool). ListsOperations (context_of encoding 64 big) (length whole.bytes - length rest.bytes) rest.bytes more) order lists) in
        subst (λ (xs : List ℕ). ListsOperations (context_of encoding 64 left.is_big) place xs (record more { text = first ++ more.text })) next.whole (
          op ∷ after.0,
          after.1,
          goes_on next.front rest.bytes op after.0 after.1 next.spells after.2,
          ap₂ (λ (words : List (List ℕ)) (z : Ending). record z { text = line (decimal place) words ++ z.text })
              (ap₂ (λ (xs n : List ℕ). bytes_word xs ∷ n ∷ []) is_spelled f) after.3,
        )

    -- a write of the line was refused
    pub line_refused : {E F : Type 0} (r : Result ℕ E) → AppendsFront b c first → IsErr r × F
        → (ending : Ending) × Lists encoding whole 0 ending × WritesEnding a c ending r
    line_refused r front refused =
        let rests = (splits_once encoding 64 rest.is_big rest.bytes).some in
        let after = listing (length whole.bytes - length rest.bytes) rests.1.1 in
        all_listed (record after { text = first ++ after.text }) r (lists_next after (rests.0, rests.1.0, rests.1.1, refl))
        (ends_refused (record after { text = first ++ after.text }) first after.text r (begun b (first ++ after.text)) refl front refused)

    pub one_listed : IsSuffix rest.bytes left.bytes → Appends b c first → Listed encoding whole rest a c
    one_listed suffix k = record {
      printed = before.printed ++ first;
      lists = λ more h. subst (λ (z : List ℕ). Lists encoding whole 0 (record more { text = z })) (sym (append_assoc before.printed first more.text))
          (before.lists (record more { text = first ++ more.text }) (lists_next more h));
      written = Appends-trans a b c before.printed first before.written k;
      suffix = suffix_trans rest.bytes left.bytes whole.bytes suffix before.suffix;
    }
