-- What was written, one part after another, and the texts of its parts.
use Rattle.std.proofs.Common.{◌≡◌, ℕ, suc, ◌+◌, ◌<◌, List, [], ◌++◌, Option, Result, Ok, Err, refl, sym, ◌∙◌, ap, subst, append_assoc, arith, drop, get_or, length, ◌-◌, IsErr, true≢false, ◌/◌, ◌%◌, ◌==◌, ◌∷◌, ℤ, pos, negsuc, int_lt, unsigned_abs, codes, decimal, false, true, ltb-true, ap₂, ◌≤◌, set, eq-eqb, ne_eqb}
use Rattle.std.proofs.KnownBytes.{Appends-nil, Appends-trans}
use Rattle.std.proofs.lemmas.Grind.{drop-set_at}
use Rattle.std.proofs.lemmas.List.{at_drop_more}
use Rattle.std.proofs.lemmas.Result.{IfOk-from_err}
use Rattle.std.specs.Io.KnownBytes.{Appends}
use Rattle.dwexpr_cli.specs.Endings.{Ending}
use Rattle.dwexpr_cli.specs.Writing.{AppendsFront, bytes_word, pairs}
use Rattle.dwexpr_cli.specs.inner.Outputs.{Prints, WritesEnding}
use Rattle.std.specs.Fmt.{digit_glyph, signed_decimal, digits_onto}

-- ---- a text of which some was written

-- a prefix of the text was written; this is the rest of it
pub record Written (old new : Option (List ℕ)) (text rest : List ℕ) : Type 0 where
  pub done : List ℕ
  pub whole : text ≡ done ++ rest
  pub written : Appends old new done

pub begun : (known : Option (List ℕ)) (text : List ℕ) → Written known known text text
begun known text = record { done = []; whole = refl; written = Appends-nil known }

module _ {a b c : Option (List ℕ)} {text left : List ℕ} where
  -- more of it was written
  pub more_of : (x rest : List ℕ) → Written a b text left → left ≡ x ++ rest → Appends b c x → Written a c text rest
  more_of x rest h e k = record {
    done = h.done ++ x;
    whole = h.whole ∙ ap (λ z. h.done ++ z) e ∙ sym (append_assoc h.done x rest);
    written = Appends-trans a b c h.done x h.written k;
  }

  -- a write of the next part was refused
  pub refused_in : {T E F : Type 0} (x rest : List ℕ) (r : Result T E) → Written a b text left → left ≡ x ++ rest → AppendsFront b c x → IsErr r × F
      → Prints a c text r
  refused_in x rest (Ok u) h e k refused = absurd (true≢false (sym refused.0))
  refused_in x rest (Err u) h e k refused = record {
    front = h.done ++ k.front;
    rest = k.rest ++ rest;
    whole = h.whole ∙ ap (λ z. h.done ++ z) (e ∙ ap (λ z. z ++ rest) k.whole ∙ append_assoc k.front k.rest rest)
        ∙ sym (append_assoc h.done k.front (k.rest ++ rest));
    written = Appends-trans a b c h.done k.front h.written k.written;
  }

-- the last part
pub last_of : {T E : Type 0} {a b : Option (List ℕ)} {text left x : List ℕ} (c : Option (List ℕ)) (r : Result T E) → Written a b text left → left ≡ x
    → Prints b c x r
    → Prints a c text r
last_of {a = a} {b = b} {x = x} c (Ok u) h e k = subst (Appends a c) (sym (h.whole ∙ ap (λ z. h.done ++ z) e)) (Appends-trans a b c h.done x h.written k)
last_of {a = a} {b = b} c (Err u) h e k = record {
  front = h.done ++ k.front;
  rest = k.rest;
  whole = h.whole ∙ ap (λ z. h.done ++ z) (e ∙ k.whole) ∙ sym (append_assoc h.done k.front k.rest);
  written = Appends-trans a b c h.done k.front h.written k.written;
}

-- ---- endings

pub ends_refused : {E F : Type 0} {a b c : Option (List ℕ)} {left : List ℕ} (ending : Ending) (x rest : List ℕ) (r : Result ℕ E)
    → Written a b ending.text left → left ≡ x ++ rest → AppendsFront b c x → IsErr r × F
    → WritesEnding a c ending r
ends_refused ending x rest r h e k refused = (refused_in x rest r h e k refused, IfOk-from_err r _ refused.0)

pub ends_beyond : {E : Type 0} (a b c : Option (List ℕ)) (first : List ℕ) (ending : Ending) (r : Result ℕ E)
    → Appends a b first → WritesEnding b c ending r
    → WritesEnding a c (record ending { text = first ++ ending.text }) r
ends_beyond a b c first ending r h k =
    (last_of c r (more_of {c = b} first ending.text (begun a (first ++ ending.text)) refl h) refl k.0, k.1)

-- ---- the digits of bytes

pub pairs_at : (bytes : List ℕ) (i d x y : ℕ) → i < length bytes → x ≡ digit_glyph false (get_or bytes i d / 16)
    → y ≡ digit_glyph false (get_or bytes i d % 16)
    → pairs (drop i bytes) ≡ (x ∷ y ∷ []) ++ pairs (drop (i + 1) bytes)
pairs_at bytes i d x y inside e f = at_drop_more pairs bytes i d inside ∙ ap₂ (λ u v. u ∷ v ∷ pairs (drop (i + 1) bytes)) (sym e) (sym f)

pub bytes_word-some : (bytes : List ℕ) → (length bytes == 0) ≡ false → bytes_word bytes ≡ pairs bytes
bytes_word-some [] e = cc e
bytes_word-some (byte ∷ bytes) e = refl

-- ---- numbers

pub minus_before : (z : ℤ) → int_lt z (pos 0) ≡ true → codes "-" ++ decimal (unsigned_abs z) ≡ signed_decimal z
minus_before (pos n) e = absurd (omega (arith, ltb-true _ _ e))
minus_before (negsuc n) e = refl

pub no_minus : (z : ℤ) → int_lt z (pos 0) ≡ false → decimal (unsigned_abs z) ≡ signed_decimal z
no_minus (pos n) e = refl
no_minus (negsuc n) e = cc e

-- ---- digits, the last one first

pub digits_last : (base n i : ℕ) (acc : List ℕ) → 0 < i → n / base ≡ 0 → digits_onto i base false n acc ≡ digit_glyph false (n % base) ∷ acc
digits_last base n i acc h e =
    ap (λ (j : ℕ). digits_onto j base false n acc) {x = i} {y = suc (i - 1)} (omega arith) ∙ rw (eq-eqb (n / base) 0 e) refl

pub digits_step : (base n i : ℕ) (acc : List ℕ) → 0 < i → (n / base ≡ 0 → ⊥)
    → digits_onto i base false n acc ≡ digits_onto (i - 1) base false (n / base) (digit_glyph false (n % base) ∷ acc)
digits_step base n i acc h e =
    ap (λ (j : ℕ). digits_onto j base false n acc) {x = i} {y = suc (i - 1)} (omega arith) ∙ rw (ne_eqb (n / base) 0 e) refl

pub drop-set_before : (out : List ℕ) (i x g : ℕ) → 0 < i → i ≤ length out → x ≡ g
    → drop (i - 1) (set out (i - 1) x) ≡ g ∷ drop i out
drop-set_before out i x g h k e =
    let same : i - 1 + 1 ≡ i = omega arith in
    drop-set_at out (i - 1) (i - 1) x refl (omega arith) ∙ ap₂ (λ (y n : ℕ). y ∷ drop n out) e same
