-- Pushes that a list took, and pushes that it refused.
use Rattle.std.proofs.Common.{ℕ, zero, suc, ◌≡◌, inl, inr, [], ◌∷◌, ◌++◌, length, Result, Ok, Err, Option, Some, None, arith, ap, ◌∙◌, sym, refl, nat_lt}
use Rattle.std.proofs.lemmas.Bool.{cond-true, cond-false}
use Rattle.std.proofs.lemmas.Bool.Decides.{nat_tests}
use Rattle.dwarf_base.specs.declared.errors.Error.TheVariants as error
use Rattle.dwarf_base.specs.Faults.{Fault, ◌>>=◌}
use Rattle.dwarf_base.specs.declared.errors.Error.TheVariants.{StackFull}
use Rattle.dwarf_value.specs.declared.types.Value.{Value}
use Rattle.dwarf_meaning.specs.Locations.{Piece}
use Rattle.dwarf_meaning.specs.Stores.{Setup, Store, push_value, push_piece, push_caller}
use Rattle.dwarf_meaning.specs.Rest.{State, FaultStatus, with_refusal}
use Rattle.dwarf_meaning.specs.Refusals.{Limits, Refusal, Never, After, push_with_room, refusal_after_push, MayPick}
use Rattle.dwarf_eval.specs.Lists.{HasRoom, MayRefuse}
use Rattle.dwarf_meaning.specs.Inputs.{with_status}
use Rattle.dwarf_eval.specs.inner.StateChanges.{StoreSteps, MayGive, Refused, before_push, before_pushes}
use Rattle.dwarf_eval.proofs.Staying.{stays_status}

-- 1 if a push is on a list without a limit
abbrev cost : Option ℕ → ℕ
cost None = 1
cost (Some limit) = 0

after_before_push : (r : Refusal) → refusal_after_push (before_push r) ≡ Ok r
after_before_push Never = refl
after_before_push (After zero pushes) = refl
after_before_push (After (suc inputs) pushes) = refl

room_before : (limit : Option ℕ) (n : ℕ) (r : Refusal) → HasRoom limit n → push_with_room limit n (before_pushes (cost limit) r) ≡ Ok r
room_before None n r h = after_before_push r
room_before (Some limit) n r h = cond-true (nat_lt n limit) (Ok r) (Err StackFull) (grind (arith, nat_tests))

-- the refusal with which a list refuses now: it is at its limit, or has none
abbrev refuser : Option ℕ → Refusal
refuser None = After 0 0
refuser (Some limit) = Never

room_refused : (limit : Option ℕ) (n : ℕ) → MayRefuse limit n → push_with_room limit n (refuser limit) ≡ Err StackFull
room_refused None n h = refl
room_refused (Some limit) n h = cond-false (nat_lt n limit) (Ok Never) (Err StackFull) (grind (arith, nat_tests))

may_refuse : (limits : Limits) (limit : Option ℕ) → (limit ≡ None → MayPick limits (After 0 0)) → MayPick limits (refuser limit)
may_refuse limits None h = h refl
may_refuse limits (Some limit) h = tt

-- a push on a list with this limit and this many items
module _ (limit : Option ℕ) (n : ℕ) (push : Store → Result Store Fault) (old : Store) (made : Refusal → Store) (is : (r : Refusal) → push (with_refusal r old) ≡ push_with_room limit n r >>= λ left. Ok (made left)) where
  pushed : (new : Store) → HasRoom limit n → ((r : Refusal) → made r ≡ with_refusal r new) → StoreSteps push old Ok new
  pushed new fits e = record {
    pushes = cost limit;
    same = λ r. is (before_pushes (cost limit) r) ∙ (ap (λ (x : Result Refusal Fault). x >>= λ left. Ok (made left)) (room_before limit n r fits) ∙ ap (λ (s : Store). Ok s) (e r));
  }

  refused : (limits : Limits) → MayRefuse limit n → (limit ≡ None → MayPick limits (After 0 0)) → MayGive limits push old (Err StackFull)
  refused limits full may = record {
    refusal = refuser limit;
    may = may_refuse limits limit may;
    same = is (refuser limit) ∙ ap (λ (x : Result Refusal Fault). x >>= λ left. Ok (made left)) (room_refused limit n full);
  }

pub value_pushed : (setup : Setup) (value : Value) (old new : Store) → HasRoom setup.limits.values (length old.values) → new ≡ record old { values = value ∷ old.values } → StoreSteps (push_value setup value) old Ok new
unfolding push_value
value_pushed setup value old new fits e = pushed setup.limits.values (length old.values) (push_value setup value) old (λ left. record old { values = value ∷ old.values; refusal = left }) (λ r. refl) new fits (λ r. ap (with_refusal r) (sym e))

pub piece_pushed : (setup : Setup) (piece : Piece) (old new : Store) → HasRoom setup.limits.pieces (length old.pieces) → new ≡ record old { pieces = old.pieces ++ piece ∷ [] } → StoreSteps (push_piece setup piece) old Ok new
unfolding push_piece
piece_pushed setup piece old new fits e = pushed setup.limits.pieces (length old.pieces) (push_piece setup piece) old (λ left. record old { pieces = old.pieces ++ piece ∷ []; refusal = left }) (λ r. refl) new fits (λ r. ap (with_refusal r) (sym e))

pub caller_pushed : (setup : Setup) (depth : ℕ) (old new : Store) → HasRoom setup.limits.callers depth → new ≡ old → StoreSteps (push_caller setup depth) old Ok new
unfolding push_caller
caller_pushed setup depth old new fits e = pushed setup.limits.callers depth (push_caller setup depth) old (λ left. record old { refusal = left }) (λ r. refl) new fits (λ r. ap (with_refusal r) (sym e))

-- the state keeps the fault of a push that is refused
faults : (push : Store → Result Store Fault) (old new : State) → new ≡ with_status (FaultStatus error.StackFull) old → MayGive old.setup.limits push old.store (Err StackFull) → Refused 0 push old new
faults push old new e gets = record {
  error = error.StackFull;
  failed = ap (λ (z : State). z.status) e;
  gets = gets;
  stays = stays_status (FaultStatus error.StackFull) old new e;
}

pub value_faults : (value : Value) (old new : State) → MayRefuse old.setup.limits.values (length old.store.values) → new ≡ with_status (FaultStatus error.StackFull) old → Refused 0 (push_value old.setup value) old new
unfolding push_value
value_faults value old new full e =
    faults (push_value old.setup value) old new e
    (refused old.setup.limits.values (length old.store.values) (push_value old.setup value) old.store (λ left. record old.store { values = value ∷ old.store.values; refusal = left }) (λ r. refl) old.setup.limits full (λ none. inl none))

pub piece_faults : (piece : Piece) (old new : State) → MayRefuse old.setup.limits.pieces (length old.store.pieces) → new ≡ with_status (FaultStatus error.StackFull) old → Refused 0 (push_piece old.setup piece) old new
unfolding push_piece
piece_faults piece old new full e =
    faults (push_piece old.setup piece) old new e
    (refused old.setup.limits.pieces (length old.store.pieces) (push_piece old.setup piece) old.store (λ left. record old.store { pieces = old.store.pieces ++ piece ∷ []; refusal = left }) (λ r. refl) old.setup.limits full (λ none. inr (inr none)))

pub caller_faults : (old new : State) → MayRefuse old.setup.limits.callers (length old.callers) → new ≡ with_status (FaultStatus error.StackFull) old → Refused 0 (push_caller old.setup (length old.callers)) old new
unfolding push_caller
caller_faults old new full e =
    faults (push_caller old.setup (length old.callers)) old new e
    (refused old.setup.limits.callers (length old.callers) (push_caller old.setup (length old.callers)) old.store (λ left. record old.store { refusal = left }) (λ r. refl) old.setup.limits full (λ none. inr (inl none)))
