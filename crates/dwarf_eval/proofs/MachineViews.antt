-- How contracts see the machine's lists and enums: a list's last item is the top of the stack, or the innermost caller.
use Rattle.std.proofs.Common.{◌≡◌, Option, Some, None, List, [], ◌∷◌, ◌++◌, reverse, sym, ap, ◌∙◌, length, map, true, refl}
use Rattle.std.specs.Prelude.{option_to_list, IfNone}
use Rattle.std.proofs.lemmas.List.{reverse-append, append-nil, map-append, length-reverse, length-map}
use Rattle.dwarf_value.specs.declared.types.Value.{Value}
use Rattle.dwarf_meaning.specs.Rest.{State}
use Rattle.dwarf_eval.specs.inner.StateChanges.{Pops, with_values, has_location}
use Rattle.std.specs.List.{AllByRecursion}
use Rattle.dwarf_base.specs.Reads.{Text}
use Rattle.dwarf_eval.specs.inner.Machine.{caller_of, callers_of, last_of}
use Rattle.dwarf_meaning.specs.Locations.{Location}
use Rattle.dwarf_meaning.specs.Stores.{Located}
use Rattle.dwarf_eval.specs.declared.run.states.LastOperation.{LastOperation}
use Rattle.dwarf_eval.specs.declared.run.states.LastOperation.TheVariants as last

pub popped : (o : Option Value) (old_items new_items : List Value) (old new : State) → old_items ≡ new_items ++ option_to_list o → IfNone o (old_items ≡ []) → old.store.values ≡ reverse old_items → new ≡ with_values (reverse new_items) old → Pops o old new
popped None old_items new_items old new h n e f =
    (e ∙ ap reverse n, f ∙ (ap (λ (ys : List Value). with_values (reverse ys) old) (sym (append-nil new_items) ∙ sym h) ∙ ap (λ (ys : List Value). with_values ys old) (sym e)))
popped (Some v) old_items new_items old new h n e f = (reverse new_items, e ∙ (ap reverse h ∙ reverse-append new_items (v ∷ [])), f)

pub callers-push : {R : Type 0} (text : R → Text) (f : R × R) (low all : List (R × R)) → all ≡ low ++ f ∷ [] → callers_of text all ≡ caller_of text f ∷ callers_of text low
callers-push text f low all e =
    ap (callers_of text) e
    ∙ (ap reverse (map-append (caller_of text) low (f ∷ []))
    ∙ reverse-append (map (caller_of text) low) (caller_of text f ∷ []))

pub length-callers : {R : Type 0} (text : R → Text) (items : List (R × R)) → length (callers_of text items) ≡ length items
length-callers text items = length-reverse (map (caller_of text) items) ∙ length-map items (caller_of text)

-- what holds of all items but the last, and of the last
pub all_but_last : {X : Type 0} (P : X → Type 0) (xs : List X) (x : X) → AllByRecursion P (xs ++ x ∷ []) → AllByRecursion P xs × P x
all_but_last P [] x h = (tt, h.0)
all_but_last P (y ∷ ys) x h = let r = all_but_last P ys x h.1 in ((h.0, r.0), r.1)

pub all_and_last : {X : Type 0} (P : X → Type 0) (xs : List X) (x : X) → AllByRecursion P xs → P x → AllByRecursion P (xs ++ x ∷ [])
all_and_last P [] x h p = (p, tt)
all_and_last P (y ∷ ys) x h p = (h.0, all_and_last P ys x h.1 p)

pub waits_with : (sort : LastOperation) (location : Location) → has_location (last_of sort location) ≡ true → last_of sort location ≡ Located location
waits_with last.Located location h = refl
waits_with _ location h = cc
