-- Places of texts: after an operation, in a callee, and after a call.
use Rattle.std.proofs.Common.{ℕ, zero, suc, ◌+◌, ◌-◌, ◌%◌, ◌^◌, ◌≡◌, ◌≤◌, ◌<◌, ℤ, pos, negsuc, ◌+ℤ◌, ◌≤ℤ◌, ◌<ℤ◌, Bool, List, [], ◌∷◌, ◌++◌, length, drop, Option, Some, None, Result, Ok, Err, sym, ap, subst, ◌∙◌, arith, length-append, inl}
use Rattle.std.proofs.lemmas.Bool.Decides.{nat_tests}
use Rattle.std.proofs.lemmas.Int.{ints}
use Rattle.std.proofs.lemmas.List.{drop-append-le, drop-drop, length-drop}
use Rattle.std.proofs.Math.Seq.{drop-append-add, drop-append_seam}
use native.Mathlib.Nat.{mod-eq_of_lt}
use Rattle.std.specs.List.{AllByRecursion}
use Rattle.dwarf_base.specs.declared.common.Encoding.{Encoding}
use Rattle.dwarf_base.specs.Faults.{Fault}
use Rattle.dwarf_base.specs.Numbers.{residue}
use Rattle.dwarf_base.specs.Reads.{Text}
use Rattle.dwarf_meaning.specs.Operations.{Operation}
use Rattle.dwarf_meaning.specs.DecodeLaws.{AreBytes}
use Rattle.dwarf_meaning.specs.Splitting.{items_of, items_at}
use Rattle.dwarf_meaning.specs.Stores.{Setup, branch_target}
use Rattle.dwarf_meaning.specs.Run.{Position, read}
use Rattle.dwarf_meaning.specs.Requests.{Input}
use Rattle.dwarf_laws.specs.Inlining.{IsStraight}
use Rattle.dwarf_meaning.proofs.DecodingFacts.{operation_begins, operation_shortens, operation_before}
use Rattle.dwarf_meaning.proofs.Splittings.{items_ok}
use Rattle.dwarf_meaning.proofs.Branches.{branches_near}
use Rattle.dwarf_laws.proofs.Jumps.{near_jumps, straight_jumps}
use Rattle.dwarf_laws.proofs.Calm.{free}
use Rattle.dwarf_laws.proofs.Mirror.{MayAsk, Alignment}

-- none of the operations is a branch
abbrev pub AllStraight : List (Result Operation Fault) → Type 0
AllStraight [] = Unit {0}
AllStraight (Ok op ∷ items) = IsStraight op × AllStraight items
AllStraight (Err fault ∷ items) = Unit {0}

pub straight_items : (ops : List Operation) (fault : Option Fault) → AllByRecursion IsStraight ops → AllStraight (items_of ops fault)
straight_items [] None h = tt
straight_items [] (Some fault) h = tt
straight_items (op ∷ ops) fault h = (h.0, straight_items ops fault h.1)

drop_bytes : (n : ℕ) (bytes : List ℕ) → AreBytes bytes → AreBytes (drop n bytes)
drop_bytes zero bytes h = h
drop_bytes (suc n) [] h = tt
drop_bytes (suc n) (byte ∷ bytes) h = drop_bytes n bytes h.1

-- a branch that stays in its text, whose places are moved
jump_by : (bits len by : ℕ) (y y' : ℤ) → y' ≡ y +ℤ pos by → negsuc 32767 ≤ℤ y → y <ℤ pos (len + 32768)
    → by + len + 32768 < 2 ^ bits → residue bits y ≤ len → residue bits y' ≡ by + residue bits y
jump_by bits len by (pos k) (pos k') e lo hi fit h =
    let x : k' ≡ by + k = omega (arith, ints) in
    let y : k % 2 ^ bits ≡ k = mod-eq_of_lt (omega (arith, ints)) in
    let z : k' % 2 ^ bits ≡ k' = mod-eq_of_lt (omega (arith, ints)) in
    omega arith
jump_by bits len by (pos k) (negsuc k') e lo hi fit h = absurd (omega (arith, ints))
jump_by bits len by (negsuc k) y' e lo hi fit h =
    let y : k % 2 ^ bits ≡ k = mod-eq_of_lt (omega (arith, ints)) in
    absurd (omega (arith, ints))

-- nothing is said of the texts that are open
abbrev pub Anyhow : List Position → List Input → Type 0
Anyhow positions left = Unit {0}

module _ (encoding : Encoding) (bits : ℕ) where
  abbrev S : Setup
  S = free encoding bits

  -- an operation stands at a place, and the rest after it
  pub record Stands (T : Text) (p : ℕ) (rest : List ℕ) : Type 0 where
    pub size : ℕ
    pub some : 0 < size
    pub place : length T.bytes - length rest ≡ p + size
    pub within : p + size ≤ length T.bytes
    pub left : length rest ≤ length (drop p T.bytes)
    pub beyond : drop (length T.bytes - length rest) T.bytes ≡ rest

  pub stands : (T : Text) (p : ℕ) (op : Operation) (rest : List ℕ) → read S T p ≡ Ok (op, rest) → Stands T p rest
  stands T p op rest e =
      let here : Text = record { bytes = drop p T.bytes; is_big = T.is_big } in
      let b = operation_begins encoding bits here op rest e in
      let shorter : length rest < length (drop p T.bytes) = operation_shortens encoding bits here op rest e in
      let whole : length b.front + length rest ≡ length (drop p T.bytes) = sym (length-append b.front rest) ∙ ap length b.whole in
      let left : length (drop p T.bytes) ≡ length T.bytes - p = length-drop p T.bytes in
      let place : length T.bytes - length rest ≡ p + length b.front = omega (arith, shorter, whole, left) in
      record {
        size = length b.front;
        some = omega (arith, shorter, whole);
        place = place;
        within = omega (arith, shorter, whole, left);
        left = omega (arith, shorter);
        beyond =
            ap (λ (k : ℕ). drop k T.bytes) place
            ∙ (sym (drop-drop (length b.front) p T.bytes)
            ∙ (ap (λ (xs : List ℕ). drop (length b.front) xs) (sym b.whole) ∙ drop-append_seam b.front rest));
      }

  abbrev pub StraightFrom : Text → ℕ → Type 0
  StraightFrom T p = AllStraight (items_at encoding bits (record { bytes = drop p T.bytes; is_big = T.is_big }))

  pub straight_step : (T : Text) (p : ℕ) (op : Operation) (rest : List ℕ) → read S T p ≡ Ok (op, rest)
      → StraightFrom T p → IsStraight op × StraightFrom T (length T.bytes - length rest)
  straight_step T p op rest e h =
      let both = subst AllStraight (items_ok encoding bits T.is_big (drop p T.bytes) op rest e) h in
      let st = stands T p op rest e in (
        both.0,
        subst (λ (xs : List ℕ). AllStraight
            (items_at encoding bits (record { bytes = xs; is_big = T.is_big }))) (sym st.beyond) both.1,
      )

  module _ (A K C B : List ℕ) (big : Bool) where
    abbrev outer : Text
    outer = record { bytes = A ++ (K ++ B); is_big = big }

    abbrev callee : Text
    callee = record { bytes = C; is_big = big }

    abbrev inlined : Text
    inlined = record { bytes = A ++ (C ++ B); is_big = big }

    -- with either of both between A and B
    whole_length : (X : List ℕ) → length (A ++ (X ++ B)) ≡ length A + (length X + length B)
    whole_length X = omega (arith, length-append A (X ++ B), length-append X B)

    -- the callee's places in the inlined text
    abbrev pub InCallee : ℕ → ℕ → Type 0
    InCallee p p' = (p ≤ length C) × (p' ≡ length A + p)

    pub callee_aligned : (target : _) (n : ℕ) → 0 < length C → AreBytes C → length (A ++ (C ++ B)) + 32768 < 2 ^ bits
        → Alignment encoding bits target n callee inlined ⊥ Anyhow InCallee (length A + length C)
    callee_aligned target n some are short = record {
      ends = λ p p' h e. h.1 ∙ ap (λ (k : ℕ). length A + k) e;
      inside = λ p p' h e. inl (record {
        not_over = let x = h.0 in let y = h.1 in let l = whole_length C in grind (arith, nat_tests);
        reads = λ op rest e.
            let st = stands callee p op rest e in
            let l = whole_length C in
            let m : length (rest ++ B) ≡ length rest + length B = length-append rest B in
            let here : Text = record { bytes = drop p C; is_big = big } in
            let few : length rest ≤ length C = let a = st.left in let b = length-drop p C in omega (arith, a, b) in
            let place : length (A ++ (C ++ B)) - length (rest ++ B) ≡ length A + (length C - length rest) = omega
            (arith, l, m, few) in
            let moved : drop p' (A ++ (C ++ B)) ≡ drop p C ++ B = ap (λ (k : ℕ). drop k (A ++ (C ++ B))) h.1
            ∙ (drop-append-add A (C ++ B) p ∙ drop-append-le p C B h.0) in
            record {
              rest' = rest ++ B;
              same =
                  ap (λ (xs : List ℕ). read S (record { bytes = xs; is_big = big }) 0) moved ∙ operation_before encoding
                  bits here op rest B e;
              next = (omega arith, place);
              asks = λ inner left enough. tt;
              jumps = near_jumps _ (λ z near inside.
                  let q = length C - length rest in
                  let lo = near.low in let hi = near.high in
                  let shift : branch_target S (length A + q) z ≡ length A + branch_target S q z = jump_by bits
                  (length C) (length A) (pos q +ℤ z) (pos (length A + q) +ℤ z) (omega (arith, ints))
                  (omega (arith, ints)) (omega (arith, ints)) (omega (arith, l, short)) inside in
                  let is : branch_target S (length (A ++ (C ++ B)) - length (rest ++ B)) z ≡ length A + branch_target S q z = ap (λ (k : ℕ). branch_target S k z) place ∙ shift in
                  (omega (arith, l, is, inside), (inside, is))) op
                  (branches_near encoding bits here op rest (drop_bytes p C are) e);
            };
      });
    }

    -- the same place after the call and after the callee
    pub record Beside (p p' : ℕ) : Type 0 where
      pub beyond : ℕ
      pub first : p ≡ length A + (length K + beyond)
      pub second : p' ≡ length A + (length C + beyond)
      pub straight : StraightFrom outer p

    drop_whole : (X : List ℕ) (m : ℕ) → drop (length A + (length X + m)) (A ++ (X ++ B)) ≡ drop m B
    drop_whole X m = drop-append-add A (X ++ B) (length X + m) ∙ drop-append-add X B m

    pub beyond_aligned : (target : _) (n : ℕ) (Asks : List Position → List Input → Type 0)
        → ((place : ℕ) → length A + length K < place → MayAsk Asks outer 0 place)
        → Alignment encoding bits target n outer inlined ⊥ Asks Beside (length (A ++ (C ++ B)))
    beyond_aligned target n Asks asks = record {
      ends = λ p p' h e. let x = h.first in let y = h.second in omega (arith, whole_length C, whole_length K, x, y, e);
      inside = λ p p' h e. inl (record {
        not_over = let x = h.first in let y = h.second in let k = whole_length K in let l = whole_length C in grind (arith, nat_tests);
        reads = λ op rest e.
            let st = stands outer p op rest e in
            let step = straight_step outer p op rest e h.straight in
            let m = h.beyond in
            let one : drop p (A ++ (K ++ B)) ≡ drop m B = ap (λ (k : ℕ). drop k (A ++ (K ++ B))) h.first ∙ drop_whole K m in
            let two : drop p' (A ++ (C ++ B)) ≡ drop m B = ap (λ (k : ℕ). drop k (A ++ (C ++ B))) h.second ∙ drop_whole C m in
            let few : length rest ≤ length B = let a = st.left in
            let b : length (drop p (A ++ (K ++ B))) ≡ length (drop m B) = ap length one in
            let c = length-drop m B in omega (arith, a, b, c) in
            record {
              rest' = rest;
              same = ap (λ (xs : List ℕ). read S (record { bytes = xs; is_big = big }) 0) (two ∙ sym one) ∙ e;
              next =
                  record {
                    beyond = length B - length rest;
                    first = omega (arith, whole_length K, few);
                    second = omega
                        (arith, whole_length C, few);
                    straight = step.1;
                  };
              asks = asks _ (let x = h.first in let a = st.place in let b = st.some in omega (arith, x, a, b));
              jumps = straight_jumps _ op step.0;
            };
      });
    }
