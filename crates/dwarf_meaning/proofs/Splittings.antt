-- A text has one splitting, which is what is read item by item.
use Rattle.std.proofs.Common.{ℕ, zero, suc, ◌≡◌, ◌<◌, ◌≤◌, Bool, List, [], ◌∷◌, ◌++◌, length, Result, Ok, Err, Option, Some, None, arith, length-append, append_assoc, refl, sym, ap, subst, ◌∙◌}
use Rattle.dwarf_base.specs.declared.common.Encoding.{Encoding}
use Rattle.dwarf_base.specs.Faults.{Fault}
use Rattle.dwarf_base.specs.Reads.{Text}
use Rattle.dwarf_meaning.specs.Operands.{context_of}
use Rattle.dwarf_meaning.specs.Operations.{Operation}
use Rattle.dwarf_meaning.specs.Decoding.{operation_at}
use Rattle.dwarf_meaning.specs.Splitting.{Splitting, Joined, items_of, items_at, items_within, item_then}
use Rattle.dwarf_meaning.specs.Splitting as splitting
use Rattle.dwarf_meaning.specs.DecodeLaws.{SplitsOnce, IsSplitting}
use Rattle.dwarf_meaning.proofs.ReadsExactly.{Reading}
use Rattle.dwarf_meaning.proofs.OperationReads.{reads_operation}
use Rattle.dwarf_meaning.proofs.DecodingFacts.{operation_begins, operation_shortens, spelled_operation, some_bytes}

abbrev Items : Type 0
Items = List (Result Operation Fault)

-- operations, and then items
abbrev items_before : List Operation → Items → Items
items_before [] items = items
items_before (op ∷ ops) items = Ok op ∷ items_before ops items

module _ (encoding : Encoding) (bits : ℕ) (big : Bool) where
  abbrev text : List ℕ → Text
  text bytes = record { bytes = bytes; is_big = big }

  abbrev within : ℕ → List ℕ → Items
  within most = items_within most (context_of encoding bits big)

  same_after : (n m : ℕ) (bytes : List ℕ) → ((rest : List ℕ) → length rest < length bytes → within n rest ≡ within m rest) → (r : Reading Operation) → operation_at encoding bits (text bytes) ≡ r → item_then r (within n) ≡ item_then r (within m)
  same_after n m bytes beyond (Ok x) e = ap (λ (items : Items). Ok x.0 ∷ items) (beyond x.1 (operation_shortens encoding bits (text bytes) x.0 x.1 e))
  same_after n m bytes beyond (Err fault) e = refl

  -- what is read doesn't depend on how many items are allowed, if they are enough
  enough : (n m : ℕ) (bytes : List ℕ) → length bytes ≤ n → length bytes ≤ m → within n bytes ≡ within m bytes
  enough zero zero bytes h k = refl
  enough zero (suc m) [] h k = refl
  enough zero (suc m) (byte ∷ bytes) h k = absurd (omega arith)
  enough (suc n) zero [] h k = refl
  enough (suc n) zero (byte ∷ bytes) h k = absurd (omega arith)
  enough (suc n) (suc m) [] h k = refl
  enough (suc n) (suc m) (byte ∷ bytes) h k =
      same_after n m (byte ∷ bytes) (λ rest less. enough n m rest (omega arith) (omega arith)) (operation_at encoding bits (text (byte ∷ bytes))) refl

  pub items_end : items_at encoding bits (text []) ≡ []
  unfolding items_at
  items_end = refl

  pub items_ok : (bytes : List ℕ) (op : Operation) (rest : List ℕ) → operation_at encoding bits (text bytes) ≡ Ok (op, rest) → items_at encoding bits (text bytes) ≡ Ok op ∷ items_at encoding bits (text rest)
  unfolding items_at operation_at
  items_ok [] op rest e = absurd cc
  items_ok (byte ∷ bytes) op rest e =
      let less : length rest < length (byte ∷ bytes) = operation_shortens encoding bits (text (byte ∷ bytes)) op rest e in
      ap (λ (r : Reading Operation). item_then r (within (length bytes))) e
      ∙ ap (λ (items : Items). Ok op ∷ items) (enough (length bytes) (length rest) rest (omega arith) (omega arith))

  pub items_err : (byte : ℕ) (bytes : List ℕ) (fault : Fault) → operation_at encoding bits (text (byte ∷ bytes)) ≡ Err fault → items_at encoding bits (text (byte ∷ bytes)) ≡ Err fault ∷ []
  unfolding items_at
  items_err byte bytes fault e = ap (λ (r : Reading Operation). item_then r (within (length bytes))) e

  -- the items of a splitting
  pub splitting_items : (bytes : List ℕ) (ops : List Operation) (fault : Option Fault) → Splitting (context_of encoding bits big) bytes ops fault → items_at encoding bits (text bytes) ≡ items_of ops fault
  splitting_items bytes ops fault splitting.ends = items_end
  splitting_items bytes ops fault (splitting.faults byte bytes' fault' r) = items_err byte bytes' fault' ((reads_operation encoding bits big).refuses (byte ∷ bytes') fault' r)
  splitting_items bytes ops fault (splitting.goes_on front rest op ops' fault' s more) =
      items_ok (front ++ rest) op rest (spelled_operation encoding bits big front op rest s) ∙ ap (λ (items : Items). Ok op ∷ items) (splitting_items rest ops' fault' more)

  record SomeSplitting (bytes : List ℕ) : Type 0 where
    ops : List Operation
    fault : Option Fault
    splits : Splitting (context_of encoding bits big) bytes ops fault

  split_after : (byte : ℕ) (bytes : List ℕ) → ((rest : List ℕ) → length rest < length (byte ∷ bytes) → SomeSplitting rest) → (r : Reading Operation) → operation_at encoding bits (text (byte ∷ bytes)) ≡ r → SomeSplitting (byte ∷ bytes)
  split_after byte bytes beyond (Err fault) e = record { ops = []; fault = Some fault; splits = splitting.faults byte bytes fault ((reads_operation encoding bits big).refused (byte ∷ bytes) fault e) }
  split_after byte bytes beyond (Ok x) e =
      let b = operation_begins encoding bits (text (byte ∷ bytes)) x.0 x.1 e in
      let more = beyond x.1 (operation_shortens encoding bits (text (byte ∷ bytes)) x.0 x.1 e) in
      record {
        ops = x.0 ∷ more.ops;
        fault = more.fault;
        splits = subst (λ (xs : List ℕ). Splitting (context_of encoding bits big) xs (x.0 ∷ more.ops) more.fault) b.whole (splitting.goes_on b.front x.1 x.0 more.ops more.fault b.spells more.splits);
      }

  some_splitting : (most : ℕ) (bytes : List ℕ) → length bytes ≤ most → SomeSplitting bytes
  some_splitting most [] h = record { ops = []; fault = None; splits = splitting.ends }
  some_splitting zero (byte ∷ bytes) h = absurd (omega arith)
  some_splitting (suc most) (byte ∷ bytes) h =
      split_after byte bytes (λ rest less. some_splitting most rest (omega arith)) (operation_at encoding bits (text (byte ∷ bytes))) refl

  few_items : (bytes : List ℕ) (ops : List Operation) (fault : Option Fault) → Splitting (context_of encoding bits big) bytes ops fault → length (items_of ops fault) ≤ length bytes
  few_items bytes ops fault splitting.ends = omega arith
  few_items bytes ops fault (splitting.faults byte bytes' fault' r) = omega arith
  few_items bytes ops fault (splitting.goes_on front rest op ops' fault' s more) =
      let some : 0 < length front = some_bytes encoding bits big front op s in
      let less : length (items_of ops' fault') ≤ length rest = few_items rest ops' fault' more in
      omega (arith, length-append front rest)

  whole_splitting : (bytes : List ℕ) (ops : List Operation) (fault : Option Fault) → Splitting (context_of encoding bits big) bytes ops fault → fault ≡ None → Joined (context_of encoding bits big) bytes ops
  whole_splitting bytes ops fault splitting.ends e = splitting.none
  whole_splitting bytes ops fault (splitting.faults byte bytes' fault' r) e = absurd cc
  whole_splitting bytes ops fault (splitting.goes_on front rest op ops' fault' s more) e = splitting.one_more front rest op ops' s (whole_splitting rest ops' fault' more e)

  joined_splits : (bytes : List ℕ) (ops : List Operation) → Joined (context_of encoding bits big) bytes ops → Splitting (context_of encoding bits big) bytes ops None
  joined_splits bytes ops splitting.none = splitting.ends
  joined_splits bytes ops (splitting.one_more front rest op ops' s more) = splitting.goes_on front rest op ops' None s (joined_splits rest ops' more)

  joined_items : (bytes : List ℕ) (ops : List Operation) → Joined (context_of encoding bits big) bytes ops → (rest : List ℕ) → items_at encoding bits (text (bytes ++ rest)) ≡ items_before ops (items_at encoding bits (text rest))
  joined_items bytes ops splitting.none rest = refl
  joined_items bytes ops (splitting.one_more front others op ops' s more) rest =
      ap (λ (xs : List ℕ). items_at encoding bits (text xs)) (append_assoc front others rest)
      ∙ (items_ok (front ++ (others ++ rest)) op (others ++ rest) (spelled_operation encoding bits big front op (others ++ rest) s)
      ∙ ap (λ (items : Items). Ok op ∷ items) (joined_items others ops' more rest))

no_longer : (others ops : List Operation) (fault : Option Fault) (items : Items) → items_of ops fault ≡ items_before others items → length others ≤ length ops
no_longer [] ops fault items e = omega arith
no_longer (other ∷ others) [] None items e = absurd cc
no_longer (other ∷ others) [] (Some fault) items e = absurd cc
no_longer (other ∷ others) (op ∷ ops) fault items e =
    let more : items_of ops fault ≡ items_before others items = cc in
    let less : length others ≤ length ops = no_longer others ops fault items more in
    omega arith

same_items : (ops others : List Operation) (fault other : Option Fault) → items_of ops fault ≡ items_of others other → (ops ≡ others) × (fault ≡ other)
same_items [] [] None None e = (refl, refl)
same_items [] [] (Some a) (Some b) e = let same : a ≡ b = cc in (refl, ap (λ (f : Fault). Some f) same)
same_items [] (y ∷ others) None other e = absurd cc
same_items (x ∷ ops) [] fault None e = absurd cc
same_items (x ∷ ops) (y ∷ others) fault other e =
    let first : x ≡ y = cc in
    let more : items_of ops fault ≡ items_of others other = cc in
    let same = same_items ops others fault other more in
    (ap (λ (op : Operation). op ∷ ops) first ∙ ap (λ (xs : List Operation). y ∷ xs) same.0, same.1)
same_items ops others fault other e = absurd cc

module _ (encoding : Encoding) (bits : ℕ) (big : Bool) (bytes : List ℕ) where
  same_splitting : (ops others : List Operation) (fault other : Option Fault) → Splitting (context_of encoding bits big) bytes ops fault → Splitting (context_of encoding bits big) bytes others other → (ops ≡ others) × (fault ≡ other)
  same_splitting ops others fault other a b = same_items ops others fault other (sym (splitting_items encoding bits big bytes ops fault a) ∙ splitting_items encoding bits big bytes others other b)

  pub splits_once : SplitsOnce (context_of encoding bits big) bytes
  splits_once =
      let s = some_splitting encoding bits big (length bytes) bytes (omega arith) in
      record {
        some = (s.ops, (s.fault, s.splits));
        same = same_splitting;
      }

  pub is_splitting : (ops : List Operation) (fault : Option Fault) → Splitting (context_of encoding bits big) bytes ops fault → IsSplitting (context_of encoding bits big) bytes ops fault
  is_splitting ops fault s = record {
    items = splitting_items encoding bits big bytes ops fault s;
    few = few_items encoding bits big bytes ops fault s;
    whole = whole_splitting encoding bits big bytes ops fault s;
    longest = λ front rest others j e. no_longer others ops fault (items_at encoding bits (record { bytes = rest; is_big = big })) (sym (splitting_items encoding bits big bytes ops fault s) ∙ (ap (λ (xs : List ℕ). items_at encoding bits (record { bytes = xs; is_big = big })) (sym e) ∙ joined_items encoding bits big front others j rest));
    faultless = λ others j. (same_splitting ops others fault None s (joined_splits encoding bits big bytes others j)).1;
  }
