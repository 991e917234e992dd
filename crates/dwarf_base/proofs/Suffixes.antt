-- Suffixes of bytes, and the prefixes that are taken before them.
use Rattle.std.proofs.Common.{ℕ, ◌≡◌, ◌+◌, ◌-◌, List, [], length, drop, arith, ap, ◌∙◌, sym, ◌≤◌, ◌<◌, take, Result, Ok, Err}
use Rattle.std.proofs.lemmas.List.{drop_all}
use Rattle.std.proofs.Math.Seq.{drop-drop}
use Rattle.dwarf_base.specs.Reads.{IsSuffix, split_at}
use Rattle.std.proofs.lemmas.Bool.Decides.{nat_tests}
use Rattle.dwarf_base.specs.Faults.{Fault, past_the_end}

pub suffix_trans : (low mid high : List ℕ) → IsSuffix low mid → IsSuffix mid high → IsSuffix low high
suffix_trans low mid high lower higher =
    let cut : length high - length low ≡ (length high - length mid) + (length mid - length low) = omega (arith, lower.no_longer, higher.no_longer) in
    record {
      no_longer = omega (arith, lower.no_longer, higher.no_longer);
      same =
          ap (λ (k : ℕ). drop k high) cut
          ∙ (sym (drop-drop (length mid - length low) (length high - length mid) high)
          ∙ (ap (drop (length mid - length low)) higher.same ∙ lower.same));
    }

pub suffix_whole : (bytes : List ℕ) → IsSuffix bytes bytes
suffix_whole bytes =
    let none : length bytes - length bytes ≡ 0 = omega arith in
    record { no_longer = omega arith; same = ap (λ (k : ℕ). drop k bytes) none }

pub suffix_none : (bytes : List ℕ) → IsSuffix [] bytes
suffix_none bytes = record { no_longer = omega arith; same = drop_all _ bytes (omega arith) }

-- ---- what is taken from the front

-- an answer is one value and one rest
pub ok_pair : {A B : Type 0} (a n : A) (xs rest : B) → ◌≡◌ {A = Result (A × B) Fault} (Ok (a, xs)) (Ok (n, rest)) → (a ≡ n) × (xs ≡ rest)
ok_pair {A} {B} a n xs rest h = let p : ◌≡◌ {A = A × B} (a, xs) (n, rest) = cc in (ap (λ y. y.0) p, ap (λ y. y.1) p)

pub split_short : (n : ℕ) (bytes : List ℕ) → length bytes < n → split_at n bytes ≡ Err past_the_end
split_short n bytes h = grind (arith, nat_tests)

pub split_long : (n : ℕ) (bytes : List ℕ) → n ≤ length bytes → split_at n bytes ≡ Ok (take n bytes, drop n bytes)
split_long n bytes h = grind (arith, nat_tests)
