-- Reads that depend only on the prefix that they take: each read does, and so do two reads one after another.
use Rattle.std.proofs.Common.{◌≡◌, ℕ, ◌*◌, ◌≤◌, ◌<◌, Bool, true, false, cond, List, [], ◌∷◌, ◌++◌, length, length-append, append_assoc, take, drop, Result, Ok, Err, inl, inr, arith, refl, ap, sym, ◌∙◌, subst}
use Rattle.std.proofs.lemmas.Bool.{cases_lt}
use Rattle.std.proofs.lemmas.List.{length-take-le, take-append-drop}
use Rattle.std.proofs.Math.Seq.{take-append_seam, drop-append_seam}
use Rattle.dwarf_base.specs.declared.common.Format.{Format}
use Rattle.dwarf_base.specs.Faults.{Fault, past_the_end, ◌>>=◌}
use Rattle.dwarf_base.specs.declared.errors.Error.TheVariants.{UnsupportedAddressSize}
use Rattle.dwarf_base.specs.Fronts.{Begins, ReadsExactly, TakesFront, ReadsFronts, SpellsBlock, SpellsFixed, MalformedBlock}
use Rattle.dwarf_base.specs.Numbers.{number_of, signed_of, offset_of}
use Rattle.dwarf_base.specs.Reads.{u8_at, split_at, fixed_at, signed_at, address_at, format_at, offset_size, is_fixed_size}
use Rattle.dwarf_base.proofs.Suffixes.{ok_pair, split_short, split_long}

-- if two steps give a value, so does the first
through : {A B : Type 0} (r : Result A Fault) (next : A → Result B Fault) (b : B) → r >>= next ≡ Ok b → (a : A) × (r ≡ Ok a) × (next a ≡ Ok b)
through (Ok a) next b h = (a, refl, h)
through (Err fault) next b h = absurd cc

-- two joined lists that are cut short end in the first list or in the second
data Cut (shorter first second : List ℕ) (byte : ℕ) (lost : List ℕ) : Type 0 where
  in_first : (next : ℕ) (more : List ℕ) → shorter ++ (next ∷ more) ≡ first → Cut shorter first second byte lost
  in_second : (beyond : List ℕ) → shorter ≡ first ++ beyond → beyond ++ (byte ∷ lost) ≡ second → Cut shorter first second byte lost

where_cut : (shorter first second : List ℕ) (byte : ℕ) (lost : List ℕ) → shorter ++ (byte ∷ lost) ≡ first ++ second → Cut shorter first second byte lost
where_cut shorter [] second byte lost h = in_second shorter refl h
where_cut [] (x ∷ first) second byte lost h = in_first x first refl
where_cut (y ∷ shorter) (x ∷ first) second byte lost h =
    let head : y ≡ x = cc in
    let tail : shorter ++ (byte ∷ lost) ≡ first ++ second = cc in
    elim (where_cut shorter first second byte lost tail) [
      | in_first next more whole ↦ in_first next more (rw (head, whole) refl)
      | in_second beyond front whole ↦ in_second beyond (rw (head, front) refl) whole
    ]

-- one prefix and then another, which is read by the value of the first
pub takes_then : {A B : Type 0} (read : List ℕ → Result (A × List ℕ) Fault) (next : A → List ℕ → Result (B × List ℕ) Fault) (first second : List ℕ) (a : A) (b : B)
    → TakesFront read first a → TakesFront (next a) second b → TakesFront (λ bytes. read bytes >>= λ x. next x.0 x.1) (first ++ second) b
takes_then read next first second a b one two = record {
  whatever_follows = λ more. rw (append_assoc first second more, one.whatever_follows (second ++ more)) (two.whatever_follows more);
  cut_off = λ shorter byte lost e. elim (where_cut shorter first second byte lost e) [
    | in_first next_byte others whole ↦ rw (one.cut_off shorter next_byte others whole) refl
    | in_second beyond front whole ↦ rw (front, one.whatever_follows beyond) (two.cut_off beyond byte lost whole)
  ];
}

-- one read and then another, which depends on the value of the first
pub fronts_then : {A B : Type 0} (read : List ℕ → Result (A × List ℕ) Fault) (next : A → List ℕ → Result (B × List ℕ) Fault)
    → ReadsFronts read → ((a : A) → ReadsFronts (next a)) → ReadsFronts (λ bytes. read bytes >>= λ x. next x.0 x.1)
fronts_then {A} {B} read next reads nexts = record {
  taken = λ bytes value rest h.
      let p = through (read bytes) (λ x. next x.0 x.1) (value, rest) h in
      let one = reads.taken bytes p.0.0 p.0.1 p.1 in
      let two = (nexts p.0.0).taken p.0.1 value rest p.2 in
      record {
        front = one.front ++ two.front;
        whole = append_assoc one.front two.front rest ∙ (ap (λ xs. one.front ++ xs) two.whole ∙ one.whole);
        spells = takes_then read next one.front two.front p.0.0 value one.spells two.spells;
      };
}

not_empty : (shorter : List ℕ) (byte : ℕ) (lost : List ℕ) → shorter ++ (byte ∷ lost) ≡ [] → ⊥
not_empty [] byte lost e = cc
not_empty (x ∷ shorter) byte lost e = cc

-- a read of no bytes
pub takes_none : {A : Type 0} (value : A) → TakesFront (λ bytes. Ok (value, bytes)) [] value
takes_none value = record { whatever_follows = λ more. refl; cut_off = λ shorter byte lost e. absurd (not_empty shorter byte lost e) }

pub fronts_done : {A : Type 0} (value : A) → ReadsFronts (λ bytes. Ok (value, bytes))
fronts_done value = record {
  taken = λ bytes given rest h.
      let pair = ok_pair value given bytes rest h in
      record { front = []; whole = sym pair.1; spells = subst (TakesFront (λ bytes. Ok (value, bytes)) []) pair.0 (takes_none value) };
}

pub fronts_checked : {A : Type 0} (checked : Result A Fault) → ReadsFronts (λ bytes. checked >>= λ value. Ok (value, bytes))
fronts_checked (Ok value) = fronts_done value
fronts_checked (Err fault) = record { taken = λ bytes value rest h. absurd (cc h) }

-- a value that is checked
pub takes_checked : {A B : Type 0} (read : List ℕ → Result (A × List ℕ) Fault) (check : A → Result B Fault) (front : List ℕ) (a : A) (b : B) → check a ≡ Ok b
    → TakesFront read front a → TakesFront (λ bytes. read bytes >>= λ x. check x.0 >>= λ c. Ok (c, x.1)) front b
takes_checked read check front a b e one = record {
  whatever_follows = λ more. rw (one.whatever_follows more, e) refl;
  cut_off = λ shorter byte lost whole. rw (one.cut_off shorter byte lost whole) refl;
}

-- ---- reads that are exactly a spelling

-- how bytes begin: with a spelling, or malformed
pub data Decision {A : Type 0} (Spells : List ℕ → A → Type 0) (Malformed : List ℕ → Fault → Type 0) (bytes : List ℕ) : Type 0 where
  spelled : (front : List ℕ) (value : A) (rest : List ℕ) → Spells front value → front ++ rest ≡ bytes → Decision Spells Malformed bytes
  malformed : (fault : Fault) → Malformed bytes fault → Decision Spells Malformed bytes

module _ {A : Type 0} (Spells : List ℕ → A → Type 0) (Malformed : List ℕ → Fault → Type 0) (read : List ℕ → Result (A × List ℕ) Fault)
    (gives : (front : List ℕ) (value : A) (rest : List ℕ) → Spells front value → read (front ++ rest) ≡ Ok (value, rest))
    (refuses : (bytes : List ℕ) (fault : Fault) → Malformed bytes fault → read bytes ≡ Err fault) where
  begins_by : (bytes : List ℕ) → Decision Spells Malformed bytes → (value : A) (rest : List ℕ) → read bytes ≡ Ok (value, rest) → Begins Spells bytes value rest
  begins_by bytes (spelled front found left spells whole) value rest h =
      let pair = ok_pair found value left rest (sym (gives front found left spells) ∙ (ap read whole ∙ h)) in
      record { front = front; whole = ap (λ xs. front ++ xs) (sym pair.1) ∙ whole; spells = subst (Spells front) pair.0 spells }
  begins_by bytes (malformed fault bad) value rest h = absurd (cc (refuses bytes fault bad, h))

  malformed_by : (bytes : List ℕ) → Decision Spells Malformed bytes → (fault : Fault) → read bytes ≡ Err fault → Malformed bytes fault
  malformed_by bytes (spelled front found left spells whole) fault h = absurd (cc (gives front found left spells, ap read whole, h))
  malformed_by bytes (malformed other bad) fault h = let same : other ≡ fault = cc (refuses bytes other bad, h) in subst (Malformed bytes) same bad

  -- a read that gives what is spelled and refuses what is malformed, if all bytes begin in one of the ways
  pub exactly_by : ((bytes : List ℕ) → Decision Spells Malformed bytes) → ReadsExactly Spells Malformed read
  exactly_by decide = record {
    ok = λ bytes value rest. (begins_by bytes (decide bytes) value rest, λ b. ap read (sym b.whole) ∙ gives b.front value rest b.spells);
    err = λ bytes fault. (malformed_by bytes (decide bytes) fault, refuses bytes fault);
  }

pub fronts_exactly : {A : Type 0} (Spells : List ℕ → A → Type 0) (Refused : List ℕ → Fault → Type 0) (read : List ℕ → Result (A × List ℕ) Fault)
    → ReadsExactly Spells Refused read
    → ((shorter : List ℕ) (byte : ℕ) (lost : List ℕ) (value : A) → Spells (shorter ++ (byte ∷ lost)) value → Refused shorter past_the_end)
    → ReadsFronts read
fronts_exactly {A} Spells Refused read exact refused = record {
  taken = λ bytes value rest h.
      let begins = (exact.ok bytes value rest).0 h in
      record {
        front = begins.front;
        whole = begins.whole;
        spells = record {
          whatever_follows = λ more. (exact.ok (begins.front ++ more) value more).1 (record { front = begins.front; whole = refl; spells = begins.spells });
          cut_off = λ shorter byte lost e.
              (exact.err shorter past_the_end).1 (refused shorter byte lost value (let P : List ℕ → Type 0 = λ xs. Spells xs value in subst P (sym e) begins.spells));
        };
      };
}

split_joined : (n : ℕ) (front rest : List ℕ) → length front ≡ n → split_at n (front ++ rest) ≡ Ok (front, rest)
split_joined n front rest length_is =
    let long : n ≤ length (front ++ rest) = simp length-append (omega arith) in
    split_long n (front ++ rest) long ∙ rw (← length_is, take-append_seam front rest, drop-append_seam front rest) refl

pub split_exactly : (n : ℕ) → ReadsExactly (SpellsBlock n) (MalformedBlock n) (split_at n)
split_exactly n =
    exactly_by (SpellsBlock n) (MalformedBlock n) (split_at n)
    (λ front block rest s. rw s.block_is (split_joined n front rest s.length_is))
    (λ bytes fault m. rw m.fault_is (split_short n bytes m.shorter))
    (λ bytes. elim (cases_lt (length bytes) n) [
      | inl short ↦ malformed past_the_end (record { shorter = short; fault_is = refl })
      | inr long ↦ spelled (take n bytes) (take n bytes) (drop n bytes) (record { length_is = length-take-le n bytes long; block_is = refl }) (take-append-drop n bytes)
    ])

shorter_front : (shorter : List ℕ) (byte : ℕ) (lost : List ℕ) (n : ℕ) → length (shorter ++ (byte ∷ lost)) ≡ n → length shorter < n
shorter_front shorter byte lost n h = omega (arith, length-append shorter (byte ∷ lost), h)

pub split_fronts : (n : ℕ) → ReadsFronts (split_at n)
split_fronts n =
    fronts_exactly (SpellsBlock n) (MalformedBlock n) (split_at n) (split_exactly n)
    (λ shorter byte lost block spells. record { shorter = shorter_front shorter byte lost n spells.length_is; fault_is = refl })

-- ---- numbers of fixed size

pub fixed_exactly : (big : Bool) (n : ℕ) → ReadsExactly (SpellsFixed big n) (MalformedBlock n) (fixed_at big n)
unfolding fixed_at
fixed_exactly big n =
    exactly_by (SpellsFixed big n) (MalformedBlock n) (fixed_at big n)
    (λ front value rest s. rw (split_joined n front rest s.length_is, s.value_is) refl)
    (λ bytes fault m. rw (m.fault_is, split_short n bytes m.shorter) refl)
    (λ bytes. elim (cases_lt (length bytes) n) [
      | inl short ↦ malformed past_the_end (record { shorter = short; fault_is = refl })
      | inr long ↦ spelled (take n bytes) (number_of big (take n bytes)) (drop n bytes) (record { length_is = length-take-le n bytes long; value_is = refl }) (take-append-drop n bytes)
    ])

pub fixed_fronts : (big : Bool) (n : ℕ) → ReadsFronts (fixed_at big n)
fixed_fronts big n =
    fronts_exactly (SpellsFixed big n) (MalformedBlock n) (fixed_at big n) (fixed_exactly big n)
    (λ shorter byte lost value spells. record { shorter = shorter_front shorter byte lost n spells.length_is; fault_is = refl })

pub signed_fronts : (big : Bool) (n : ℕ) → ReadsFronts (signed_at big n)
signed_fronts big n =
    fronts_then (fixed_at big n) (λ number bytes. Ok (signed_of (8 * n) number, bytes)) (fixed_fronts big n) (λ number. fronts_done (signed_of (8 * n) number))

-- by whether the size is one of an address
address_by : (big : Bool) (size : ℕ) (good : Bool) → ReadsFronts (λ bytes. cond good (fixed_at big size bytes) (Err (UnsupportedAddressSize size)))
address_by big size true = fixed_fronts big size
address_by big size false = record { taken = λ bytes value rest h. absurd (cc h) }

pub address_fronts : (big : Bool) (size : ℕ) → ReadsFronts (address_at big size)
address_fronts big size = address_by big size (is_fixed_size size)

pub format_fronts : (big : Bool) (format : Format) (bits : ℕ) → ReadsFronts (format_at big format bits)
format_fronts big format bits =
    fronts_then (fixed_at big (offset_size format)) (λ number bytes. offset_of bits number >>= λ offset. Ok (offset, bytes))
    (fixed_fronts big (offset_size format)) (λ number. fronts_checked (offset_of bits number))

-- ---- one byte

u8_cut : (shorter : List ℕ) (next : ℕ) (lost : List ℕ) (byte : ℕ) → shorter ++ (next ∷ lost) ≡ byte ∷ [] → u8_at shorter ≡ Err past_the_end
u8_cut [] next lost byte e = refl
u8_cut (x ∷ shorter) next lost byte e = absurd (not_empty shorter next lost cc)

pub u8_takes : (byte : ℕ) → TakesFront u8_at (byte ∷ []) byte
u8_takes byte = record { whatever_follows = λ more. refl; cut_off = λ shorter next lost e. u8_cut shorter next lost byte e }

u8_taken : (bytes : List ℕ) (value : ℕ) (rest : List ℕ) → u8_at bytes ≡ Ok (value, rest) → Begins (TakesFront u8_at) bytes value rest
u8_taken [] value rest h = absurd cc
u8_taken (byte ∷ bytes) value rest h =
    let pair = ok_pair byte value bytes rest h in
    record { front = byte ∷ []; whole = ap (λ xs. byte ∷ xs) (sym pair.1); spells = subst (TakesFront u8_at (byte ∷ [])) pair.0 (u8_takes byte) }

pub u8_fronts : ReadsFronts u8_at
u8_fronts = record { taken = u8_taken }
