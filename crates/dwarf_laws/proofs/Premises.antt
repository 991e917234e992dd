-- What the worked rows need beside computing: where a call stands in its text, and which outcomes disagree.
use Rattle.std.proofs.Common.{◌≡◌, List, [], ◌∷◌, Result, Ok, Err, Option, Some, None, refl, sym, subst, ◌∙◌, ℕ}
use Rattle.std.proofs.lemmas.List.{append-nil}
use Rattle.std.specs.List.{AllByRecursion}
use Rattle.dwarf_base.specs.Faults.{Fault}
use Rattle.dwarf_meaning.specs.Operands.{context_of}
use Rattle.dwarf_meaning.specs.Operations.{Operation, Call, DieReference}
use Rattle.dwarf_meaning.specs.Decoding.{operation_at}
use Rattle.dwarf_meaning.specs.Spelling.{Spells}
use Rattle.dwarf_meaning.specs.Splitting.{items_of, items_at}
use Rattle.dwarf_meaning.specs.Stores.{Setup}
use Rattle.dwarf_meaning.proofs.DecodingFacts.{operation_begins}
use Rattle.dwarf_meaning.proofs.Splittings.{splits_once, is_splitting}
use Rattle.dwarf_laws.specs.Inlining.{CallSite, outer_text, IsStraight, StandsIn, EndAlike}
use Rattle.dwarf_laws.proofs.TextPlaces.{AllStraight}
use Rattle.dwarf_value.specs.declared.types.Value.{Value}
use Rattle.dwarf_value.specs.Values.{Agree}
use Rattle.dwarf_meaning.specs.Meaning.{Outcome, RequestOutcome, FaultOutcome, CompleteOutcome}
use Rattle.dwarf_value.proofs.Agreements.{Agree-Generic}
use Rattle.dwarf_meaning.specs.Agreement.{Both, nothing, something, AgreeingOutcomes}
use Rattle.dwarf_meaning.specs.Agreement as agreeing
use Rattle.dwarf_laws.specs.Inlining as alike

-- ---- the premises on a call's place, from what is read of the bytes

-- none of them is a fault
abbrev pub AllRead : List (Result Operation Fault) → Type 0
AllRead [] = Unit {0}
AllRead (Ok op ∷ items) = AllRead items
AllRead (Err fault ∷ items) = ⊥

no_fault : (ops : List Operation) (fault : Option Fault) → AllRead (items_of ops fault) → fault ≡ None
no_fault [] None h = refl
no_fault [] (Some fault) h = absurd h
no_fault (op ∷ ops) fault h = no_fault ops fault h

all_straight : (ops : List Operation) (fault : Option Fault) → AllStraight (items_of ops fault) → AllByRecursion IsStraight ops
all_straight [] fault h = tt
all_straight (op ∷ ops) fault h = (h.0, all_straight ops fault h.1)

pub stands_in : (setup : Setup) (site : CallSite) (offset : DieReference)
    → AllRead (items_at setup.encoding setup.offset_bits (record { bytes = site.before; is_big = site.is_big }))
    → operation_at setup.encoding setup.offset_bits (record { bytes = site.call; is_big = site.is_big }) ≡ Ok (Call offset, [])
    → AllStraight (items_at setup.encoding setup.offset_bits (outer_text site))
    → StandsIn setup site offset
stands_in setup site offset h e k =
    let before = (splits_once setup.encoding setup.offset_bits site.is_big site.before).some in
    let before_is = is_splitting setup.encoding setup.offset_bits site.is_big site.before before.0 before.1.0 before.1.1 in
    let all = (splits_once setup.encoding setup.offset_bits site.is_big (outer_text site).bytes).some in
    let all_is = is_splitting setup.encoding setup.offset_bits site.is_big (outer_text site).bytes all.0 all.1.0 all.1.1 in
    let begins = operation_begins setup.encoding setup.offset_bits
    (record { bytes = site.call; is_big = site.is_big }) (Call offset) [] e in
    record {
      ahead = before.0;
      joined = before_is.whole (no_fault before.0 before.1.0 (subst AllRead before_is.items h));
      spelled =
          subst (λ bytes. Spells (context_of setup.encoding setup.offset_bits site.is_big) bytes (Call offset))
          (sym (append-nil begins.front) ∙ begins.whole) begins.spells;
      operations = all.0;
      fault = all.1.0;
      splits = all.1.1;
      straight = all_straight all.0 all.1.0 (subst AllStraight all_is.items k);
    }

-- ---- what two outcomes would have in common, if they agreed or ended alike

abbrev pub ValuesAgree : (w : ℕ) → Option Value → Option Value → Type 0
ValuesAgree w (Some x) (Some y) = Agree w x y
ValuesAgree w (Some x) None = ⊥
ValuesAgree w None (Some y) = ⊥
ValuesAgree w None None = Unit {0}

values_agree : (w : ℕ) (o o' : Option Value) → Both (Agree w) o o' → ValuesAgree w o o'
values_agree w o o' nothing = tt
values_agree w o o' (something a) = a

-- outcomes of the same kind; values of completions agree
abbrev pub Alike : (w : ℕ) → Outcome → Outcome → Type 0
Alike w (RequestOutcome request positions) (RequestOutcome other others) = Unit {0}
Alike w (FaultOutcome fault) (FaultOutcome other) = fault ≡ other
Alike w (CompleteOutcome pieces value) (CompleteOutcome others other) = ValuesAgree w value other
Alike w _ _ = ⊥

pub agree_alike : (w : ℕ) (x y : Outcome) → AgreeingOutcomes w x y → Alike w x y
agree_alike w x y agreeing.requests = tt
agree_alike w x y agreeing.faults = refl
agree_alike w x y (agreeing.completions p v) = values_agree w _ _ v

-- no faults; of completions, the same value
abbrev pub Ended : Outcome → Outcome → Type 0
Ended (RequestOutcome request positions) (RequestOutcome other others) = Unit {0}
Ended (CompleteOutcome pieces value) (CompleteOutcome others other) = value ≡ other
Ended _ _ = ⊥

pub end_ended : (x y : Outcome) → EndAlike x y → Ended x y
end_ended x y alike.completions = refl
end_ended x y alike.requests = tt

-- ---- steps that agree

pub ruleset agreeing_steps = (agreeing.value, agreeing.number, agreeing.location, agreeing.base_type, agreeing.initial_value, agreeing.object_address, agreeing.evaluate, agreeing.resume, Agree-Generic)
