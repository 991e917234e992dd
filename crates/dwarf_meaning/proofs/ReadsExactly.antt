-- What a function on lists of bytes reads is exactly what a relation spells, and what it refuses is exactly what another refuses.
use Rattle.std.proofs.Common.{ℕ, ◌≡◌, List, [], ◌∷◌, ◌++◌, Result, Ok, Err, append-nil, append_assoc, ap, ◌∙◌, sym, refl, subst}
use Rattle.dwarf_base.specs.Faults.{Fault, past_the_end}
use Rattle.dwarf_base.specs.Fronts.{Begins, TakesFront, ReadsFronts}
use Rattle.dwarf_base.specs.Fronts as fronts
use Rattle.dwarf_base.proofs.Fronts.{Decision, spelled, malformed, exactly_by}

abbrev pub Reading : Type 0 → Type 0
Reading A = Result (A × List ℕ) Fault

pub record ReadsExactly {A : Type 0} (read : List ℕ → Reading A) (Spelling : List ℕ → A → Type 0) (Refusal : List ℕ → Fault → Type 0) : Type 0 where
  pub gives : (front : List ℕ) (value : A) (rest : List ℕ) → Spelling front value → read (front ++ rest) ≡ Ok (value, rest)
  pub found : (bytes : List ℕ) (value : A) (rest : List ℕ) → read bytes ≡ Ok (value, rest) → Begins Spelling bytes value rest
  pub refuses : (bytes : List ℕ) (fault : Fault) → Refusal bytes fault → read bytes ≡ Err fault
  pub refused : (bytes : List ℕ) (fault : Fault) → read bytes ≡ Err fault → Refusal bytes fault
  pub cut_off : (before : List ℕ) (byte : ℕ) (after : List ℕ) (value : A) → Spelling (before ++ (byte ∷ after)) value → read before ≡ Err past_the_end

-- A read that takes each spelling as a prefix, and refuses malformed bytes; all bytes begin with a spelling or are
-- malformed.
pub record Covers {A : Type 0} (read : List ℕ → Reading A) (S : List ℕ → A → Type 0) (Q : List ℕ → Fault → Type 0) : Type 0 where
  pub takes : (front : List ℕ) (value : A) → S front value → TakesFront read front value
  pub refuses : (bytes : List ℕ) (fault : Fault) → Q bytes fault → read bytes ≡ Err fault
  pub decides : (bytes : List ℕ) → Decision S Q bytes

pub reads_covered : {A : Type 0} (read : List ℕ → Reading A) (S : List ℕ → A → Type 0) (Q : List ℕ → Fault → Type 0) → Covers read S Q → ReadsExactly read S Q
reads_covered read S Q h =
    let exactly = exactly_by S Q read (λ front value rest s. (h.takes front value s).whatever_follows rest) h.refuses h.decides in
    record {
      gives = λ front value rest s. (h.takes front value s).whatever_follows rest;
      found = λ bytes value rest. (exactly.ok bytes value rest).0;
      refuses = h.refuses;
      refused = λ bytes fault. (exactly.err bytes fault).0;
      cut_off = λ before byte after value s. (h.takes (before ++ (byte ∷ after)) value s).cut_off before byte after refl;
    }

module _ {A : Type 0} (read : List ℕ → Reading A) (S : List ℕ → A → Type 0) (Q : List ℕ → Fault → Type 0) (exactly : fronts.ReadsExactly S Q read) (reads : ReadsFronts read) where
  exact_takes : (front : List ℕ) (value : A) → S front value → TakesFront read front value
  exact_takes front value s =
      let given = (exactly.ok (front ++ []) value []).1 (record { front = front; whole = refl; spells = s }) in
      let taken = reads.taken (front ++ []) value [] given in
      let same : taken.front ≡ front = sym (append-nil taken.front) ∙ (taken.whole ∙ append-nil front) in
      subst (λ (xs : List ℕ). TakesFront read xs value) same taken.spells

  exact_decides : (bytes : List ℕ) (r : Reading A) → read bytes ≡ r → Decision S Q bytes
  exact_decides bytes (Ok x) e = let begins = (exactly.ok bytes x.0 x.1).0 e in spelled begins.front x.0 x.1 begins.spells begins.whole
  exact_decides bytes (Err fault) e = malformed fault ((exactly.err bytes fault).0 e)

  pub covers_exactly : Covers read S Q
  covers_exactly = record { takes = exact_takes; refuses = λ bytes fault. (exactly.err bytes fault).1; decides = λ bytes. exact_decides bytes (read bytes) refl }

-- one spelling and then another
pub decided_then : {A B : Type 0} (S : List ℕ → A → Type 0) (Q : List ℕ → Fault → Type 0) (T : A → List ℕ → B → Type 0) (R : A → List ℕ → Fault → Type 0)
    (U : List ℕ → B → Type 0) (V : List ℕ → Fault → Type 0) (bytes : List ℕ)
    → ((fault : Fault) → Q bytes fault → V bytes fault)
    → ((first others : List ℕ) (value : A) (made : B) → S first value → T value others made → U (first ++ others) made)
    → ((first others : List ℕ) (value : A) (fault : Fault) → S first value → R value others fault → V (first ++ others) fault)
    → Decision S Q bytes → ((value : A) (left : List ℕ) → Decision (T value) (R value) left) → Decision U V bytes
decided_then S Q T R U V bytes here both after (malformed fault q) next = malformed fault (here fault q)
decided_then S Q T R U V bytes here both after (spelled first value left s whole) next = elim (next value left) [
  | spelled others made rest t there ↦ spelled (first ++ others) made rest (both first others value made s t) (append_assoc first others rest ∙ (ap (λ (xs : List ℕ). first ++ xs) there ∙ whole))
  | malformed fault r ↦ malformed fault (subst (λ (xs : List ℕ). V xs fault) whole (after first left value fault s r))
]
