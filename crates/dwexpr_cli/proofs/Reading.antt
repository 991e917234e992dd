-- What the program's words and the lines of its input say, next to what std's calls answer for them.
use Rattle.std.proofs.Common.{◌≡◌, ◌≢◌, ℕ, ◌^◌, ◌<◌, ◌≤◌, ◌==◌, Bool, true, false, List, [], ◌∷◌, drop, get_or, Option, Some, None, Result, Ok, Err, OkIff, Decides, option_map, option_and_then, nat_lt, refl, sym, ◌∙◌, ap, arith, ltb-true, lt-ltb, le-ltb, lit≤, codes, ◌-◌, ℤ, pos, negsuc, neg_ℤ, FitsSigned, slice_index, w8, w16, w32, w64, if◌then◌else◌, ◌%◌, length, map, IsSome, zero, suc, ◌+◌, ◌++◌, length-append, append_assoc, append-nil, eqb-true}
use Rattle.std.specs.Result.{result_ok}
use Rattle.std.specs.Map.{lookup}
use native.Mathlib.Numerals.{unary_clauses}
use Rattle.std.specs.Char.{digit_value, is_digit}
use Rattle.std.specs.List.{list_all, AllPass}
use Rattle.std.specs.Str.Parse.{AllDigits, IsNumeral, digits_value, ParsesUnsigned, ParsesSigned}
use Rattle.std.proofs.lemmas.Str.Parse.{without_leading_plus_none}
use Rattle.std.specs.Str.Pattern.{FindsTextPrefix}
use Rattle.std.proofs.lemmas.Bool.Decides.{Decides-and, Decides-ltb}
use Rattle.std.proofs.lemmas.Str.Pattern.{starts_text}
use Rattle.std.specs.Int.{FitsUnsignedBits}
use mir.Syntax.{Width}
use mir.Val.{hbits}
use lib.Signed.{mag}
use Rattle.dwexpr_cli.specs.StepLines.{numeral_in, below, within, number_in, integer_in, first_line, lines_within, said_then, step_in, steps_in}
use Rattle.hex.specs.Hex.{decode_of, is_hex_digit}
use Rattle.hex.specs.declared.error.FromHexError.{FromHexError}
use Rattle.hex.proofs.HexLemmas.{decode_of-digits, decode_of-ok}
use Rattle.std.specs.Prelude.{slice_get}
use Rattle.dwexpr_cli.specs.Words.{bytes_in, extra_in, invocation_in, named_extra_in}
use Rattle.std.specs.Str.{IsUtf8, is_utf8}
use Rattle.std.proofs.lemmas.Str.{IsUtf8-from_is_utf8}
use Rattle.dwarf_meaning.specs.Steps.{Step}

-- ---- numbers

abbrev all_digits : (base : ℕ) → List ℕ → Bool
all_digits base word = list_all (λ byte. is_digit byte base) word

decides_digits : (base : ℕ) (word : List ℕ) → Decides (all_digits base word) (AllDigits base word)
decides_digits base [] = (λ _. tt, λ _. refl)
decides_digits base (digit ∷ digits) = Decides-and _ _ (Decides-ltb (digit_value digit) base) (decides_digits base digits)

-- what is read, by a test that decides whether anything is
by_test : {A E P : Type 0} (r : Result A E) (v : A) (test : Bool) → OkIff r P v → Decides test P
    → result_ok r ≡ (if test then Some v else None)
by_test (Ok x) v true h d = ap Some h.1
by_test (Ok x) v false h d = cc (d.1 h.0)
by_test (Err x) v true h d = absurd (h (d.0 refl))
by_test (Err x) v false h d = refl

-- the same by two tests, of which the second is of the number that is read
by_both : {A E P Q : Type 0} (r : Result A E) (v : A) (f : ℕ → Option A) (n : ℕ) (all small : Bool) → OkIff r (P × Q) v
    → Decides all P → Decides small Q → f n ≡ (if small then Some v else None)
    → result_ok r ≡ option_and_then f (if all then Some n else None)
by_both r v f n true small h d k e = by_test r v small h (Decides-and true small d k) ∙ sym e
by_both r v f n false small h d k e = by_test r v false h (Decides-and false small d k)

numeral_by : {A E Q : Type 0} (base : ℕ) (word : List ℕ) (r : Result A E) (v : A) (f : ℕ → Option A) (small : Bool)
    → OkIff r (IsNumeral base word × Q) v → Decides small Q → f (digits_value base word) ≡ (if small then Some v else None)
    → result_ok r ≡ option_and_then f (numeral_in base word)
numeral_by base [] (Ok x) v f small h k e = absurd (omega (arith, h.0.0.0))
numeral_by base [] (Err x) v f small h k e = refl
numeral_by base (digit ∷ digits) r v f small h k e =
    let word = digit ∷ digits in
    by_both r v f (digits_value base word) (all_digits base word) small h
    (λ all. (omega arith, (decides_digits base word).0 all), λ numeral. (decides_digits base word).1 numeral.1) k e

-- no digits begin with a plus sign
pub numeral_in-plus : (base : ℕ) (word : List ℕ) → base ≤ 36 → get_or word 0 0 ≡ 43 → numeral_in base word ≡ None
numeral_in-plus base [] small plus = refl
numeral_in-plus base (digit ∷ digits) small plus =
    let no_digit : nat_lt 36 base ≡ false = le-ltb _ _ small in
    rw (plus, no_digit) refl

-- `from_str_radix` of digits that begin with no sign
pub unsigned_parsed : {E : Type 0} (base : ℕ) (word : List ℕ) (r : Result ℕ E) → ParsesUnsigned 64 base word r
    → get_or word 0 0 ≢ 43
    → result_ok r ≡ option_and_then (below 64) (numeral_in base word)
unsigned_parsed base word r h unsigned =
    let value = digits_value base word in
    numeral_by base word r value (below 64) (nat_lt value (2 ^ 64)) (rw (without_leading_plus_none word unsigned) at h)
    (Decides-ltb value (2 ^ 64)) refl

-- ---- after `0x`, or not

pub number_in-prefix : (word digits : List ℕ) (n : ℕ) → FindsTextPrefix (codes "0x") word (Some n)
    → digits ≡ drop n word
    → option_and_then (below 64) (numeral_in 16 digits) ≡ number_in word
number_in-prefix word digits n found cut =
    let starts = starts_text true (codes "0x") word (n, found, rw found.0 found.2) in
    rw (← starts, cut, found.0) refl

pub number_in-plain : (word : List ℕ) → FindsTextPrefix (codes "0x") word None
    → option_and_then (below 64) (numeral_in 10 word) ≡ number_in word
number_in-plain word lacks =
    let starts = starts_text false (codes "0x") word lacks in
    rw (← starts) refl

-- ---- integers

within-mag : (bits : ℕ) (z : ℤ) → within bits z ≡ (if nat_lt (mag z) (2 ^ (bits - 1)) then Some z else None)
within-mag bits (pos n) = refl
within-mag bits (negsuc n) = refl

decides_fit : (w : Width) (bits : ℕ) → hbits w ≡ bits - 1 → (z : ℤ) → Decides (nat_lt (mag z) (2 ^ (bits - 1))) (FitsSigned w z)
decides_fit w bits e z = (λ small. record { sfits = rw e (ltb-true _ _ small) }, λ fits. lt-ltb _ _ (rw (← e) fits.sfits))

narrowed_signed : {E : Type 0} (w : Width) (bits : ℕ) → hbits w ≡ bits - 1 → (z : ℤ) (r : Result ℤ E)
    → OkIff r (FitsSigned w z) z
    → result_ok r ≡ within bits z
narrowed_signed w bits e z r h = by_test r z (nat_lt (mag z) (2 ^ (bits - 1))) h (decides_fit w bits e z) ∙ sym (within-mag bits z)

pub narrowed_to_i8 : {E : Type 0} (z : ℤ) (r : Result ℤ E) → OkIff r (FitsSigned w8 z) z → result_ok r ≡ within 8 z
narrowed_to_i8 z r h = narrowed_signed w8 8 refl z r h

pub narrowed_to_i16 : {E : Type 0} (z : ℤ) (r : Result ℤ E) → OkIff r (FitsSigned w16 z) z → result_ok r ≡ within 16 z
narrowed_to_i16 z r h = narrowed_signed w16 16 refl z r h

pub narrowed_to_i32 : {E : Type 0} (z : ℤ) (r : Result ℤ E) → OkIff r (FitsSigned w32 z) z → result_ok r ≡ within 32 z
narrowed_to_i32 z r h = narrowed_signed w32 32 refl z r h

-- a conversion to an unsigned type of this many bits
pub narrowed_unsigned : {E : Type 0} (bits n : ℕ) (r : Result ℕ E) → OkIff r (FitsUnsignedBits bits (pos n)) n
    → result_ok r ≡ below bits n
narrowed_unsigned bits n r h = by_test r n (nat_lt n (2 ^ bits)) h (Decides-ltb n (2 ^ bits))

and_then_map : (sign : ℕ → ℤ) (said : Option ℕ)
    → option_and_then (λ n. within 64 (sign n)) said ≡ option_and_then (within 64) (option_map sign said)
and_then_map sign None = refl
and_then_map sign (Some n) = refl

integer_signed : (sign : ℕ → ℤ) (word : List ℕ) → {E : Type 0} (r : Result ℤ E)
    → OkIff r (IsNumeral 10 word × FitsSigned w64 (sign (digits_value 10 word))) (sign (digits_value 10 word))
    → result_ok r ≡ option_and_then (within 64) (option_map sign (numeral_in 10 word))
integer_signed sign word r h =
    let value = sign (digits_value 10 word) in
    numeral_by 10 word r value (λ n. within 64 (sign n)) (nat_lt (mag value) (2 ^ 63)) h (decides_fit w64 64 refl value) (within-mag 64 value)
    ∙ and_then_map sign (numeral_in 10 word)

-- `parse` of a word that begins with no plus sign, by whether it begins with a minus sign
pub integer_parsed : (minus : Bool) (word : List ℕ) → (slice_index word 0 == 45) ≡ minus → {E : Type 0} (r : Result ℤ E)
    → ParsesSigned w64 10 word r
    → get_or word 0 0 ≢ 43 → result_ok r ≡ integer_in word
integer_parsed true word e r h unsigned = rw e (integer_signed (λ n. neg_ℤ (pos n)) (drop 1 word) r (rw e at h))
integer_parsed false word e r h unsigned =
    rw e (integer_signed pos word r (rw (e, without_leading_plus_none word unsigned) at h))

-- a word that begins with a plus sign is no integer
pub integer_in-plus : (word : List ℕ) → get_or word 0 0 ≡ 43 → integer_in word ≡ None
integer_in-plus word plus = rw (plus, numeral_in-plus 10 word (lit≤ tt) plus) refl

-- ---- the bytes of a word

pub IsHexadecimal : List ℕ → Type 0
IsHexadecimal word = (length word % 2 ≡ 0) × AllPass is_hex_digit word

-- what does not decode says no bytes
undecoded : (word : List ℕ) → (IsHexadecimal word → ⊥) → (d : Result (List ℕ) FromHexError) → decode_of word ≡ d
    → result_ok d ≡ None
unfolding IsHexadecimal
undecoded word bad (Ok bytes) h = let good = decode_of-ok word bytes h in absurd (bad (good.0, good.1))
undecoded word bad (Err e) h = refl

pub bytes_in-other : (word : List ℕ) → word ≢ 45 ∷ [] → ((length word % 2 ≡ 0) × AllPass is_hex_digit word → ⊥)
    → bytes_in word ≡ None
unfolding IsHexadecimal
bytes_in-other [] dash bad = refl
bytes_in-other (byte ∷ []) dash bad = grind (arith)
bytes_in-other (byte ∷ next ∷ rest) dash bad = undecoded (byte ∷ next ∷ rest) bad (decode_of (byte ∷ next ∷ rest)) refl

decoded-some : (d : Result (List ℕ) FromHexError) (bytes : List ℕ) → d ≡ Ok bytes → IsSome (result_ok d)
decoded-some d bytes h = rw h refl

pub IsSome-bytes_in : (word : List ℕ) → word ≢ [] → (length word % 2 ≡ 0) × AllPass is_hex_digit word
    → IsSome (bytes_in word)
IsSome-bytes_in [] some good = absurd (some refl)
IsSome-bytes_in (byte ∷ []) some good = absurd (omega (arith, good.0))
IsSome-bytes_in (byte ∷ next ∷ rest) some good =
    let read = decode_of-digits (byte ∷ next ∷ rest) good.0 good.1 in
    decoded-some (decode_of (byte ∷ next ∷ rest)) read.0 read.1

-- ---- six words

pub six_words : {X : Type 0} (view : X → List ℕ) (words : List X) (a b c d e f : X) → 6 ≤ length words → length words < 7
    → a ≡ get_or words 0 a → b ≡ get_or words 1 b → c ≡ get_or words 2 c
    → d ≡ get_or words 3 d → e ≡ get_or words 4 e → f ≡ get_or words 5 f
    → map view words ≡ view a ∷ view b ∷ view c ∷ view d ∷ view e ∷ view f ∷ []
six_words view (u ∷ v ∷ w ∷ x ∷ y ∷ z ∷ []) a b c d e f least most i j k l m n = rw (i, j, k, l, m, n) refl
six_words view _ a b c d e f least most i j k l m n = absurd (omega (arith, least, most))

pub not_six : {X : Type 0} (view : X → List ℕ) (words : List X) → (length words ≡ 6 → ⊥) → invocation_in (map view words) ≡ None
not_six view (u ∷ v ∷ w ∷ x ∷ y ∷ z ∷ []) other = absurd (other refl)
not_six view _ other = refl

-- ---- steps

-- the row at an index isn't the one that is looked for
pub passed : {X V : Type 0} (test : List ℕ → Bool) (view : X → List ℕ × V) (rows : List X) (d : X) (i : ℕ) → i < length rows
    → test (view (get_or rows i d)).0 ≡ false
    → lookup test (map view (drop i rows)) ≡ lookup test (map view (drop (i + 1) rows))
passed test view [] d i some e = absurd (omega (arith, some))
passed test view (row ∷ rows) d zero some e = rw e refl
passed test view (row ∷ rows) d (suc i) some e =
    let before = passed test view rows d i (omega (arith, some)) e in simp unary_clauses (simp unary_clauses at before)

-- ---- lines

pub is_no_text : (line : List ℕ) (text : Bool) → is_utf8 line ≡ text → (IsUtf8 line → ⊥) → text ≡ false
is_no_text line true e no_text = absurd (no_text (IsUtf8-from_is_utf8 line e))
is_no_text line false e no_text = refl

-- what steps and then lines say
abbrev pub said_after : List Step → Result (List Step) ℕ → Result (List Step) ℕ
said_after steps (Ok more) = Ok (steps ++ more)
said_after steps (Err number) = Err (length steps + number)

pub said_more : (steps : List Step) (step : Step) (more : Result (List Step) ℕ)
    → said_after steps (said_then (Some step) more) ≡ said_after (steps ++ step ∷ []) more
said_more steps step (Ok more) = ap Ok (sym (append_assoc steps (step ∷ []) more))
said_more steps step (Err number) =
    ap Err (omega (arith, length-append steps (step ∷ [])))

pub said_last : (steps : List Step) → said_after steps (Ok []) ≡ Ok steps
said_last steps = ap Ok (append-nil steps)

-- lines of which the first ones say these steps, and the next one
pub said_next : (big : Bool) (said : Result (List Step) ℕ) (steps : List Step) (most : ℕ) (left text rest : List ℕ)
    → said ≡ said_after steps (steps_in big (lines_within most left))
    → false ≡ (length left == 0) → length left ≤ most → (text, rest) ≡ first_line left
    → (fewer : ℕ) × (length rest < length left → length rest ≤ fewer)
    × (said ≡ said_after steps (said_then (step_in big text) (steps_in big (lines_within fewer rest))))
said_next big said steps most [] text rest so_far some enough e = cc some
said_next big said steps zero (byte ∷ left) text rest so_far some enough e = absurd (omega (arith, enough))
said_next big said steps (suc most) (byte ∷ left) text rest so_far some enough e =
    let said_by = λ (z : List ℕ × List ℕ). said_after steps (said_then (step_in big z.0) (steps_in big (lines_within most z.1))) in
    (most, (λ less. omega (arith, less, enough)), so_far ∙ ap said_by (sym e))

pub no_lines : (most : ℕ) (left : List ℕ) → true ≡ (length left == 0) → lines_within most left ≡ []
no_lines zero left e = refl
no_lines (suc most) [] e = refl
no_lines (suc most) (byte ∷ left) e = absurd (omega (arith, eqb-true _ _ (sym e)))

-- ---- the first word

pub first_asks : {X : Type 0} (view : X → List ℕ) (words : List X) (first : X) → slice_get words 0 ≡ Some first
    → extra_in (map view words) ≡ named_extra_in (view first)
first_asks view [] first e = absurd (cc)
first_asks view (word ∷ words) first e = let same : word ≡ first = cc in ap (λ w. named_extra_in (view w)) same

pub nothing_asks : {X : Type 0} (view : X → List ℕ) (words : List X) → slice_get words 0 ≡ None → extra_in (map view words) ≡ None
nothing_asks view [] e = refl
nothing_asks view (word ∷ words) e = absurd (cc)
