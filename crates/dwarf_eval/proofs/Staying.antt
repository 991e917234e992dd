-- What stays if a part of the machine meets a fault.
use Rattle.std.proofs.Common.{ℕ, ◌≡◌, ◌+◌, ◌≤◌, List, ◌∷◌, length, Option, Some, None, arith, ap, ◌∙◌, sym, refl, subst}
use Rattle.dwarf_value.specs.declared.types.Value.{Value}
use Rattle.dwarf_meaning.specs.RunLaws.{waits_of}
use Rattle.dwarf_meaning.specs.Stores.{Setup, Store, Last, push_value}
use Rattle.dwarf_meaning.specs.Rest.{State, Status}
use Rattle.dwarf_meaning.specs.Inputs.{Keeps, with_status}
use Rattle.dwarf_eval.specs.inner.StateChanges.{ChangesStoreBy, Pops, Stays, with_last, with_values}
use Rattle.dwarf_eval.proofs.Loads.{kept_in, value_stored}

pub keeps_here : (x : State) → Keeps x x
keeps_here x = record { setup = refl; settings = refl }

pub keeps_more : (a b c : State) → Keeps a b → Keeps b c → Keeps a c
keeps_more a b c h i = record { setup = i.setup ∙ h.setup; settings = i.settings ∙ h.settings }

pub stays_here : (x : State) → Stays 0 x x
stays_here x = record { kept = keeps_here x; text = refl; callers = refl; count = refl; decodings = refl; pieces = refl; items = omega arith }

pub stays_more : (n m : ℕ) (a b c : State) → Stays n a b → Stays m b c → Stays (n + m) a c
stays_more n m a b c h i =
    record {
      kept = keeps_more a b c h.kept i.kept;
      text = i.text ∙ h.text;
      callers = i.callers ∙ h.callers;
      count = i.count ∙ h.count;
      decodings = i.decodings ∙ h.decodings;
      pieces = i.pieces ∙ h.pieces;
      items = omega (arith, h.items, i.items);
    }

-- Before this step values were popped, the kind of the last operation was set, and so was a status.
pub stays_from : (n m : ℕ) (rest : List Value) (last : Last) (status : Status) (old new : State) → length rest + n ≤ length old.store.values + m → Stays n (with_status status (with_last last (with_values rest old))) new → Stays m old new
stays_from n m rest last status old new fits h =
    record {
      kept = record { setup = h.kept.setup; settings = h.kept.settings };
      text = h.text;
      callers = h.callers;
      count = h.count;
      decodings = h.decodings;
      pieces = h.pieces;
      items = omega (arith, fits, h.items);
    }

-- a status was entered
pub stays_status : (status : Status) (old new : State) → new ≡ with_status status old → Stays 0 old new
stays_status status old new e = stays_from 0 0 old.store.values old.store.last status old new (omega arith) (subst (Stays 0 (with_status status old)) (sym e) (stays_here (with_status status old)))

-- a fault of a state that stays
pub stays_then : (status : Status) (old mid new : State) → Stays 0 old mid → new ≡ with_status status mid → Stays 0 old new
stays_then status old mid new h e =
    let both = stays_more 0 0 old mid new h (stays_status status mid new e) in
    both

pub stays_same : (old new : State) → new ≡ old → Stays 0 old new
stays_same old new e = subst (Stays 0 old) (sym e) (stays_here old)

pub fewer_one : (x : Value) (rest values : List Value) → values ≡ x ∷ rest → length rest ≤ length values
fewer_one x rest values e = let n = ap length e in omega (arith, n)

pub stays_low : (rest : List Value) (last : Last) (old new : State) → length rest ≤ length old.store.values → new ≡ with_last last (with_values rest old) → Stays 0 old new
stays_low rest last old new fewer e = stays_from 0 0 rest last old.status old new (omega (arith, fewer)) (subst (Stays 0 (with_last last (with_values rest old))) (sym e) (stays_here (with_last last (with_values rest old))))

pub stays_popped : (o : Option Value) (old new : State) → Pops o old new → Stays 0 old new
stays_popped None old new h = stays_same old new h.1
stays_popped (Some x) old new h = stays_low h.0 old.store.last old new (fewer_one x h.0 old.store.values h.1) h.2

-- a value was pushed
pub stays_pushed : (setup : Setup) (value : Value) (old new : State) → ChangesStoreBy (push_value setup value) old new → Stays 1 old new
stays_pushed setup value old new d =
    let stored = value_stored setup value old.store new.store d.steps in
    let kept = ap kept_in stored in
    let last = ap (λ (s : Store). waits_of s.last) stored in
    record {
      kept = record { setup = ap (λ (z : State). z.setup) d.alone; settings = ap (λ (s : Store). s.settings) stored };
      text = ap (λ (z : State). z.text) d.alone;
      callers = ap (λ (z : State). length z.callers) d.alone;
      count = ap (λ (s : Store). s.count) stored;
      decodings = ap (λ (z : State). z.decodings) d.alone;
      pieces = ap (λ (s : Store). s.pieces) stored;
      items = omega (arith, kept, last);
    }
