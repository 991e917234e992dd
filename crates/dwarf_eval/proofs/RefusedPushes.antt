-- Pushes that may be refused, one after another.
use Rattle.std.proofs.Common.{ℕ, zero, suc, ◌≡◌, ◌+◌, Bool, true, false, [], ◌∷◌, Result, Ok, Err, arith, ap, ◌∙◌, sym, refl, subst, List}
use Rattle.dwarf_base.specs.Faults.{Fault, ◌>>=◌}
use Rattle.dwarf_value.specs.declared.types.Value.{Value}
use Rattle.dwarf_meaning.specs.Stores.{Setup, Store, push_value, push_values, Plain}
use Rattle.dwarf_meaning.specs.Rest.{State, with_refusal}
use Rattle.dwarf_meaning.specs.Refusals.{Limits, Refusal, Never, After, MayPick}
use Rattle.dwarf_eval.specs.inner.StateChanges.{Refused, ChangesStoreBy, Stays, TriesChange, with_store, HasTriedChange, with_last, before_push, before_pushes}
use Rattle.dwarf_eval.proofs.Staying.{stays_from, stays_more, stays_pushed}

pub before_more : (p q : ℕ) (r : Refusal) → before_pushes (p + q) r ≡ before_pushes p (before_pushes q r)
before_more zero q r =
    let e : zero + q ≡ q = omega arith in
    ap (λ (n : ℕ). before_pushes n r) e
before_more (suc p) q r =
    let e : suc p + q ≡ suc (p + q) = omega arith in
    ap (λ (n : ℕ). before_pushes n r) e ∙ ap before_push (before_more p q r)

pub before_never : (p : ℕ) → before_pushes p Never ≡ Never
before_never zero = refl
before_never (suc p) = ap before_push (before_never p)

pub before_later : (p inputs pushes : ℕ) → before_pushes p (After (suc inputs) pushes) ≡ After (suc inputs) pushes
before_later zero inputs pushes = refl
before_later (suc p) inputs pushes = ap before_push (before_later p inputs pushes)

may_before_push : (limits : Limits) (r : Refusal) → MayPick limits r → MayPick limits (before_push r)
may_before_push limits Never h = tt
may_before_push limits (After zero pushes) h = h
may_before_push limits (After (suc inputs) pushes) h = h

pub may_before : (limits : Limits) (p : ℕ) (r : Refusal) → MayPick limits r → MayPick limits (before_pushes p r)
may_before limits zero r h = h
may_before limits (suc p) r h = may_before_push limits _ (may_before limits p r h)

-- if both are alike, one is tried as the other
pub tries_as : (n m : ℕ) (f g : Store → Result Store Fault) (old mid new : State) (done : Bool) → ((r : Refusal) → g (with_refusal r old.store) ≡ f (with_refusal r mid.store)) → ((s : Store) → with_store s mid ≡ with_store s old) → mid.setup ≡ old.setup → (Stays n mid new → Stays m old new) → TriesChange n f mid new done → TriesChange m g old new done
tries_as n m f g old mid new true is alone setup stays d = record {
  steps = record { pushes = d.steps.pushes; same = λ r. is (before_pushes d.steps.pushes r) ∙ d.steps.same r };
  alone = d.alone ∙ alone new.store;
}
tries_as n m f g old mid new false is alone setup stays d = record {
  error = d.error;
  failed = d.failed;
  gets = record {
    refusal = d.gets.refusal;
    may = subst (λ (z : Setup). MayPick z.limits d.gets.refusal) setup d.gets.may;
    same = is d.gets.refusal ∙ d.gets.same;
  };
  stays = stays d.stays;
}

-- first f, and then g
pub does_then : (n m : ℕ) (f : Store → Result Store Fault) (g : Setup → Store → Result Store Fault) (old mid new : State) (done : Bool) → ChangesStoreBy f old mid → (Stays n mid new → Stays m old new) → TriesChange n (g mid.setup) mid new done → TriesChange m (λ s. f s >>= g old.setup) old new done
does_then n m f g old mid new true h stays i =
    let setup : mid.setup ≡ old.setup = ap (λ (z : State). z.setup) h.alone in
    let p = h.steps.pushes in
    let q = i.steps.pushes in
    record {
      steps = record {
        pushes = p + q;
        same = λ r.
            ap (λ (z : Refusal). f (with_refusal z old.store) >>= g old.setup) (before_more p q r)
            ∙ (ap (λ (z : Result Store Fault). z >>= g old.setup) (h.steps.same (before_pushes q r))
            ∙ (ap (λ (z : Setup). g z (with_refusal (before_pushes q r) mid.store)) (sym setup) ∙ i.steps.same r));
      };
      alone = i.alone ∙ ap (with_store new.store) h.alone;
    }
does_then n m f g old mid new false h stays i =
    let setup : mid.setup ≡ old.setup = ap (λ (z : State). z.setup) h.alone in
    let p = h.steps.pushes in
    let gets = i.gets in
    record {
      error = i.error;
      failed = i.failed;
      gets = record {
        refusal = before_pushes p gets.refusal;
        may = may_before old.setup.limits p gets.refusal (subst (λ (z : Setup). MayPick z.limits gets.refusal) setup gets.may);
        same =
            ap (λ (z : Result Store Fault). z >>= g old.setup) (h.steps.same gets.refusal)
            ∙ (ap (λ (z : Setup). g z (with_refusal gets.refusal mid.store)) (sym setup) ∙ gets.same);
      };
      stays = stays i.stays;
    }

pub bind_ok : (r : Result Store Fault) → (r >>= λ s. Ok s) ≡ r
bind_ok (Ok s) = refl
bind_ok (Err fault) = refl

-- one push, as one of several
one_tried : (n : ℕ) (value : Value) (old new : State) (done : Bool) → TriesChange n (push_value old.setup value) old new done → TriesChange n (push_values old.setup (value ∷ [])) old new done
one_tried n value old new done h = tries_as n n _ _ old old new done (λ r. bind_ok (push_value old.setup value (with_refusal r old.store))) (λ s. refl) refl (λ stays. stays) h

-- the first is pushed, and then the others
pub values_then : (n : ℕ) (first : Value) (others : List Value) (old mid new : State) (done : Bool)
    → ChangesStoreBy (push_value old.setup first) old mid → TriesChange n (push_values mid.setup others) mid new done
    → TriesChange (1 + n) (push_values old.setup (first ∷ others)) old new done
values_then n first others old mid new done pushed h =
    does_then n (1 + n) (push_value old.setup first) (λ setup. push_values setup others) old mid new done pushed
    (stays_more 1 n old mid new (stays_pushed old.setup first old mid pushed)) h

-- the first is refused
pub refused_first : (n : ℕ) (first : Value) (others : List Value) (old new : State) → Refused 0 (push_value old.setup first) old new → Refused n (push_values old.setup (first ∷ others)) old new
refused_first n first others old new h = record {
  error = h.error;
  failed = h.failed;
  gets = record { refusal = h.gets.refusal; may = h.gets.may; same = ap (λ (z : Result Store Fault). z >>= push_values old.setup others) h.gets.same };
  stays = record {
    kept = h.stays.kept;
    text = h.stays.text;
    callers = h.stays.callers;
    count = h.stays.count;
    decodings = h.stays.decodings;
    pieces = h.stays.pieces;
    items = omega (arith, h.stays.items);
  };
}

pub value_then : (first second : Value) (old mid new : State) (done : Bool)
    → ChangesStoreBy (push_value old.setup first) old mid → TriesChange 0 (push_value mid.setup second) mid new done
    → TriesChange 1 (push_values old.setup (first ∷ second ∷ [])) old new done
value_then first second old mid new done pushed h = values_then 0 first (second ∷ []) old mid new done pushed (one_tried 0 second mid new done h)

-- what a plain operation tries, once it is noted that it is one
pub plain_tried : (n : ℕ) (f : Setup → Store → Result Store Fault) (old marked new : State) (done : Bool)
    → marked ≡ with_last Plain old → TriesChange n (f marked.setup) marked new done
    → HasTriedChange n (λ s. f old.setup (record s { last = Plain })) old new
plain_tried n f old marked new done e h =
    let there = subst (λ (z : State). TriesChange n (f z.setup) z new done) e h in (
      done,
      tries_as n n _ _ old (with_last Plain old) new done (λ r. refl) (λ s. refl) refl
          (stays_from n n old.store.values Plain old.status old new (omega arith)) there,
    )
