use Rattle.std.proofs.Common.{ℕ, ◌≡◌, ◌≢◌, Bool, true, false, List, [], ◌∷◌, length, Ok, Err, ◌==◌, arith, refl, sym, ap, subst}
use Rattle.std.proofs.lemmas.Bool.Decides.{nat_tests}
use Rattle.dwarf_base.specs.declared.common.Encoding.{Encoding}
use Rattle.dwarf_base.specs.Faults.{Fault}
use Rattle.dwarf_meaning.specs.Operations.{Operation}
use Rattle.dwarf_meaning.specs.Decoding.{operation_at}
use Rattle.dwarf_meaning.specs.Splitting.{items_at}
use Rattle.dwarf_meaning.proofs.Splittings.{items_end, items_ok, items_err}
use Rattle.dwarf_eval.proofs.op.expressions.OperationIter.next.Goals as goal

no_bytes : (bytes : List ℕ) → true ≡ (length bytes == 0) → bytes ≡ []
no_bytes [] e = refl
no_bytes (byte ∷ bytes) e = absurd (grind (arith, nat_tests))

some_bytes : (bytes : List ℕ) → false ≡ (length bytes == 0) → bytes ≢ []
some_bytes bytes e h = let none : length bytes ≡ 0 = ap length h in grind (arith, nat_tests)

no_items : (encoding : Encoding) (bits : ℕ) (big : Bool) (bytes : List ℕ) → bytes ≡ [] → items_at encoding bits (record { bytes = bytes; is_big = big }) ≡ []
no_items encoding bits big bytes e = subst (λ (xs : List ℕ). items_at encoding bits (record { bytes = xs; is_big = big }) ≡ []) (sym e) (items_end encoding bits big)

one_item : (encoding : Encoding) (bits : ℕ) (big left_big : Bool) (bytes : List ℕ) (op : Operation) (rest : List ℕ) → operation_at encoding bits (record { bytes = bytes; is_big = big }) ≡ Ok (op, rest) → left_big ≡ big
    → items_at encoding bits (record { bytes = bytes; is_big = big }) ≡ Ok op ∷ items_at encoding bits (record { bytes = rest; is_big = left_big })
one_item encoding bits big left_big bytes op rest e same =
    subst (λ (b : Bool). items_at encoding bits (record { bytes = bytes; is_big = big }) ≡ Ok op ∷ items_at encoding bits (record { bytes = rest; is_big = b })) (sym same) (items_ok encoding bits big bytes op rest e)

last_item : (encoding : Encoding) (bits : ℕ) (big : Bool) (bytes : List ℕ) (fault : Fault) → bytes ≢ [] → operation_at encoding bits (record { bytes = bytes; is_big = big }) ≡ Err fault → items_at encoding bits (record { bytes = bytes; is_big = big }) ≡ Err fault ∷ []
last_item encoding bits big [] fault some e = absurd (some refl)
last_item encoding bits big (byte ∷ bytes) fault some e = items_err encoding bits big byte bytes fault e

pub returns-then-is_empty-clause-items : goal.returns-then-is_empty-clause-items
returns-then-is_empty-clause-items g c =
    let none = no_bytes (g.R.Reader.text c.args.self.now.input).bytes c.if-is_empty.ensures in
    let items = no_items c.args.self.now.encoding g.R.Offset.ReaderOffset.BITS (g.R.Reader.text c.args.self.now.input).is_big (g.R.Reader.text c.args.self.now.input).bytes none in
    (items, items)

pub returns-in-Ok-clause-items : goal.returns-in-Ok-clause-items
returns-in-Ok-clause-items g c = one_item _ _ _ _ _ _ _ c.in-Ok.ensures.reads.value c.in-Ok.ensures.reads.order

pub returns-in-Err-clause-items : goal.returns-in-Err-clause-items
returns-in-Err-clause-items g c =
    let some = some_bytes (g.R.Reader.text c.args.self.now.input).bytes c.if-is_empty.ensures in
    (last_item _ _ _ _ _ some c.in-Err.ensures.reads.value, no_items _ _ _ _ c.empty.ensures.bytes)
