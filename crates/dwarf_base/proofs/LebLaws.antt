-- A LEB128 number is read exactly if a prefix of the bytes spells it.
use Rattle.std.proofs.Common.{◌≡◌, ℕ, ◌+◌, ◌*◌, ◌%◌, ◌^◌, ◌<◌, ◌≤◌, true, false, cond, List, [], ◌∷◌, ◌++◌, length, length-append, Ok, Err, arith, refl, ap, sym, ◌∙◌, zero-add, inl, inr}
use Rattle.std.proofs.lemmas.Bool.{cases_lt, cases_eq, cases_Bool}
use Rattle.std.proofs.lemmas.Bool.Decides.{nat_tests}
use Rattle.dwarf_base.specs.Faults.{Fault, past_the_end, ◌>>=◌}
use Rattle.dwarf_base.specs.Fronts.{ReadsExactly, ReadsFronts}
use Rattle.dwarf_base.specs.Leb.{LebForm, unsigned_leb, signed_leb, low_sum, IsEnded, last_byte_of, SpellsLeb, GoesOn, MalformedLeb, leb_from, uleb_at, uleb_u32_at, sleb_at, within_u32}
use Rattle.dwarf_base.proofs.Fronts.{Decision, spelled, malformed, exactly_by, fronts_exactly, fronts_then, fronts_checked}
use Rattle.dwarf_base.proofs.LebSteps.{goes_on, ends}

at_tenth : {A : Type 0} (form : LebForm A) (place sum byte : ℕ) (rest : List ℕ) → place ≡ 9
    → leb_from form place sum (byte ∷ rest) ≡ cond (form.allows_tenth byte) (Ok (form.number (sum + byte * 128 ^ place) (place + 1) byte, rest)) (Err form.fault)
at_tenth form place sum byte rest e = rw e refl

-- ---- how bytes begin

-- from this place on: with a spelling, cut off, or too long
data BeginsFrom {A : Type 0} (form : LebForm A) (place : ℕ) (bytes : List ℕ) : Type 0 where
  begins_ended : (front rest : List ℕ) → IsEnded front → place + length front ≤ 10 → (place + length front ≡ 10 → form.allows_tenth (last_byte_of front) ≡ true)
      → front ++ rest ≡ bytes → BeginsFrom form place bytes
  begins_cut : GoesOn bytes → place + length bytes ≤ 9 → BeginsFrom form place bytes
  begins_long : (before : List ℕ) (tenth : ℕ) (rest : List ℕ) → before ++ (tenth ∷ rest) ≡ bytes → GoesOn before → place + length before ≡ 9
      → form.allows_tenth tenth ≡ false → BeginsFrom form place bytes

ended_more : (byte : ℕ) (bytes : List ℕ) → 128 ≤ byte → IsEnded bytes → IsEnded (byte ∷ bytes)
ended_more byte [] high ended = absurd ended
ended_more byte (next ∷ bytes) high ended = (high, ended)

last_more : (byte : ℕ) (bytes : List ℕ) → IsEnded bytes → last_byte_of (byte ∷ bytes) ≡ last_byte_of bytes
last_more byte [] ended = absurd ended
last_more byte (next ∷ bytes) ended = refl

begins_more : {A : Type 0} (form : LebForm A) (place byte : ℕ) (bytes : List ℕ) → 128 ≤ byte → BeginsFrom form (place + 1) bytes → BeginsFrom form place (byte ∷ bytes)
begins_more form place byte bytes high (begins_ended front rest ended most tenth whole) =
    begins_ended (byte ∷ front) rest (ended_more byte front high ended) (omega arith) (λ ten. rw (last_more byte front ended) (tenth (omega arith))) (ap (λ xs. byte ∷ xs) whole)
begins_more form place byte bytes high (begins_cut goes most) = begins_cut (high, goes) (omega arith)
begins_more form place byte bytes high (begins_long before tenth rest whole goes nine refused) =
    begins_long (byte ∷ before) tenth rest (ap (λ xs. byte ∷ xs) whole) (high, goes) (omega arith) refused

begins : {A : Type 0} (form : LebForm A) (ending : (byte : ℕ) → form.allows_tenth byte ≡ true → byte < 128) (place : ℕ) (bytes : List ℕ) → place ≤ 9 → BeginsFrom form place bytes
begins form ending place [] most = begins_cut tt (omega arith)
begins form ending place (byte ∷ bytes) most =
    elim (cases_eq place 9) [
      | inl e ↦ elim (cases_Bool (form.allows_tenth byte)) [
        | inl allowed ↦ begins_ended (byte ∷ []) bytes (ending byte allowed) (omega arith) (λ ten. allowed) refl
        | inr refused ↦ begins_long [] byte bytes refl tt (omega arith) refused
      ]
      | inr e ↦ elim (cases_lt byte 128) [
        | inl low ↦ begins_ended (byte ∷ []) bytes low (omega arith) (λ ten. absurd (e (omega arith))) refl
        | inr high ↦ begins_more form place byte bytes high (begins form ending (place + 1) bytes (omega arith))
      ]
    ]

from_start : {A : Type 0} (form : LebForm A) (bytes : List ℕ) → BeginsFrom form 0 bytes → Decision (SpellsLeb form) (MalformedLeb form) bytes
from_start form bytes (begins_ended front rest ended most tenth whole) =
    spelled front (form.number (low_sum 0 front) (length front) (last_byte_of front)) rest
    (record { ended = ended; at_most_ten = omega arith; tenth = λ ten. tenth (omega arith); value_is = refl }) whole
from_start form bytes (begins_cut goes most) = malformed past_the_end (inl (record { goes_on = goes; at_most_nine = omega arith }, refl))
from_start form bytes (begins_long before tenth rest whole goes nine refused) =
    malformed form.fault (inr (record { nine = before; tenth = tenth; rest = rest; whole = whole; goes_on = goes; are_nine = omega arith; refused = refused }, refl))

-- ---- what is spelled is read

spelled_read : {A : Type 0} (form : LebForm A) (place sum : ℕ) (front rest : List ℕ) → IsEnded front → place + length front ≤ 10
    → (place + length front ≡ 10 → form.allows_tenth (last_byte_of front) ≡ true)
    → leb_from form place sum (front ++ rest) ≡ Ok (form.number (sum + low_sum place front) (place + length front) (last_byte_of front), rest)
spelled_read form place sum [] rest ended most tenth = absurd ended
spelled_read form place sum (byte ∷ []) rest ended most tenth =
    let whole : byte % 128 ≡ byte = omega arith in
    let sums : sum + byte * 128 ^ place ≡ sum + low_sum place (byte ∷ []) = rw whole (omega arith) in
    elim (cases_eq place 9) [
      | inl e ↦ let allowed : form.allows_tenth byte ≡ true = tenth (omega arith) in rw (← sums) (at_tenth form place sum byte rest e ∙ rw allowed refl)
      | inr e ↦ rw (← sums) (ends form place sum byte rest (omega arith) ended)
    ]
spelled_read form place sum (byte ∷ next ∷ bytes) rest ended most tenth =
    let count : place + 1 + length (next ∷ bytes) ≡ place + length (byte ∷ next ∷ bytes) = omega arith in
    let sums : sum + byte % 128 * 128 ^ place + low_sum (place + 1) (next ∷ bytes) ≡ sum + low_sum place (byte ∷ next ∷ bytes) = omega arith in
    let after = spelled_read form (place + 1) (sum + byte % 128 * 128 ^ place) (next ∷ bytes) rest ended.1 (omega arith) (λ q. tenth (sym count ∙ q)) in
    goes_on form place sum byte (next ∷ (bytes ++ rest)) (omega arith) ended.0 ∙ rw (sums, count) at after

-- ---- what is malformed is refused

cut_off_read : {A : Type 0} (form : LebForm A) (place sum : ℕ) (bytes : List ℕ) → GoesOn bytes → place + length bytes ≤ 9 → leb_from form place sum bytes ≡ Err past_the_end
cut_off_read form place sum [] high most = refl
cut_off_read form place sum (byte ∷ bytes) high most =
    goes_on form place sum byte bytes (omega arith) high.0 ∙ cut_off_read form (place + 1) (sum + byte % 128 * 128 ^ place) bytes high.1 (omega arith)

too_long_read : {A : Type 0} (form : LebForm A) (place sum : ℕ) (before : List ℕ) (tenth : ℕ) (rest : List ℕ) → GoesOn before → place + length before ≡ 9
    → form.allows_tenth tenth ≡ false → leb_from form place sum (before ++ (tenth ∷ rest)) ≡ Err form.fault
too_long_read form place sum [] tenth rest high nine refused = at_tenth form place sum tenth rest (omega arith) ∙ rw refused refl
too_long_read form place sum (byte ∷ before) tenth rest high nine refused =
    goes_on form place sum byte (before ++ (tenth ∷ rest)) (omega arith) high.0
    ∙ too_long_read form (place + 1) (sum + byte % 128 * 128 ^ place) before tenth rest high.1 (omega arith) refused

-- ---- from the start

leb_gives : {A : Type 0} (form : LebForm A) (front : List ℕ) (value : A) (rest : List ℕ) → SpellsLeb form front value → leb_from form 0 0 (front ++ rest) ≡ Ok (value, rest)
leb_gives form front value rest s =
    let read = spelled_read form 0 0 front rest s.ended (omega (arith, s.at_most_ten)) (λ ten. s.tenth (omega arith)) in
    rw s.value_is (simp zero-add at read)

leb_refuses : {A : Type 0} (form : LebForm A) (bytes : List ℕ) (fault : Fault) → MalformedLeb form bytes fault → leb_from form 0 0 bytes ≡ Err fault
leb_refuses form bytes fault (inl p) = rw p.1 (cut_off_read form 0 0 bytes p.0.goes_on (omega (arith, p.0.at_most_nine)))
leb_refuses form bytes fault (inr p) = rw (p.1, ← p.0.whole) (too_long_read form 0 0 p.0.nine p.0.tenth p.0.rest p.0.goes_on (omega (arith, p.0.are_nine)) p.0.refused)

leb_exactly : {A : Type 0} (form : LebForm A) (ending : (byte : ℕ) → form.allows_tenth byte ≡ true → byte < 128) → ReadsExactly (SpellsLeb form) (MalformedLeb form) (leb_from form 0 0)
leb_exactly form ending =
    exactly_by (SpellsLeb form) (MalformedLeb form) (leb_from form 0 0) (leb_gives form) (leb_refuses form) (λ bytes. from_start form bytes (begins form ending 0 bytes (omega arith)))

-- all bytes before the last of a spelling go on
goes_on_before : (shorter : List ℕ) (byte : ℕ) (lost : List ℕ) → IsEnded (shorter ++ (byte ∷ lost)) → GoesOn shorter
goes_on_before [] byte lost ended = tt
goes_on_before (x ∷ []) byte lost ended = (ended.0, tt)
goes_on_before (x ∷ y ∷ shorter) byte lost ended = (ended.0, goes_on_before (y ∷ shorter) byte lost ended.1)

spelling_cut : {A : Type 0} (form : LebForm A) (shorter : List ℕ) (byte : ℕ) (lost : List ℕ) (value : A) → SpellsLeb form (shorter ++ (byte ∷ lost)) value
    → MalformedLeb form shorter past_the_end
spelling_cut form shorter byte lost value spells =
    inl (
      record {
        goes_on = goes_on_before shorter byte lost spells.ended;
        at_most_nine = omega (arith, spells.at_most_ten, length-append shorter (byte ∷ lost));
      },
      refl,
    )

-- ---- the reads

pub uleb_exactly : ReadsExactly (SpellsLeb unsigned_leb) (MalformedLeb unsigned_leb) uleb_at
unfolding uleb_at
uleb_exactly = leb_exactly unsigned_leb (λ byte allowed. grind (arith, nat_tests))

pub sleb_exactly : ReadsExactly (SpellsLeb signed_leb) (MalformedLeb signed_leb) sleb_at
unfolding sleb_at
sleb_exactly = leb_exactly signed_leb (λ byte allowed. grind (arith, nat_tests))

pub uleb_fronts : ReadsFronts uleb_at
uleb_fronts = fronts_exactly (SpellsLeb unsigned_leb) (MalformedLeb unsigned_leb) uleb_at uleb_exactly (spelling_cut unsigned_leb)

pub sleb_fronts : ReadsFronts sleb_at
sleb_fronts = fronts_exactly (SpellsLeb signed_leb) (MalformedLeb signed_leb) sleb_at sleb_exactly (spelling_cut signed_leb)

pub uleb_u32_fronts : ReadsFronts uleb_u32_at
uleb_u32_fronts =
    fronts_then uleb_at (λ number bytes. within_u32 number >>= λ small. Ok (small, bytes)) uleb_fronts (λ number. fronts_checked (within_u32 number))
