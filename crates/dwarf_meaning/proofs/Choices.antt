-- The words of the definitions, case by case.
use Rattle.std.proofs.Common.{suc, length, ◌≡◌, refl, ap, List, [], ◌∷◌, Option, Some, None, Result, Ok, Err, Bool, true, false, cond}
use Rattle.std.specs.Option.{option_map_or}
use Rattle.dwarf_base.specs.declared.errors.Error.{Error}
use Rattle.dwarf_base.specs.declared.errors.Error.TheVariants.{UnexpectedEof}
use Rattle.dwarf_base.specs.Faults.{Fault, fault_of}
use Rattle.dwarf_value.specs.declared.types.Value.{Value}
use Rattle.dwarf_meaning.specs.Acts.{on_top, on_result}

-- ---- what holds of both holds of the choice

pub top_both : {A : Type 0} (P : A → Type 0) (values : List Value) (none : A) (go : Value → List Value → A) → P none → ((x : Value) (rest : List Value) → length values ≡ suc (length rest) → P (go x rest)) → P (on_top values none go)
unfolding on_top
top_both P [] none go p q = p
top_both P (x ∷ rest) none go p q = q x rest refl

pub some_both : {X A : Type 0} (P : A → Type 0) (o : Option X) (none : A) (go : X → A) → P none → ((x : X) → P (go x)) → P (option_map_or go o none)
some_both P None none go p q = p
some_both P (Some x) none go p q = q x

pub answer_both : {X A : Type 0} (P : A → Type 0) (r : Result X Error) (refused : Fault → A) (go : X → A) → ((fault : Fault) → P (refused fault)) → ((x : X) → P (go x)) → P (on_result r refused go)
unfolding on_result
answer_both P (Ok x) refused go p q = q x
answer_both P (Err error) refused go p q = p (fault_of error)

pub cond_pair : {A : Type 0} (P : A → A → Type 0) (b : Bool) (x y u v : A) → (b ≡ true → P x u) → (b ≡ false → P y v) → P (cond b x y) (cond b u v)
cond_pair P true x y u v h i = h refl
cond_pair P false x y u v h i = i refl

-- ---- which of both it is

pub top_none : {A : Type 0} (values : List Value) (none : A) (go : Value → List Value → A) → values ≡ [] → on_top values none go ≡ none
unfolding on_top
top_none [] none go e = refl
top_none (x ∷ rest) none go e = cc

pub top_some : {A : Type 0} (values : List Value) (none : A) (go : Value → List Value → A) (x : Value) (rest : List Value) → values ≡ x ∷ rest → on_top values none go ≡ go x rest
unfolding on_top
top_some values none go x rest e = ap (λ (vs : List Value). on_top vs none go) e

pub some_none : {X A : Type 0} (o : Option X) (none : A) (go : X → A) → o ≡ None → option_map_or go o none ≡ none
some_none o none go e = ap (λ (p : Option _). option_map_or go p none) e

pub some_some : {X A : Type 0} (o : Option X) (none : A) (go : X → A) (x : X) → o ≡ Some x → option_map_or go o none ≡ go x
some_some o none go x e = ap (λ (p : Option _). option_map_or go p none) e

-- a call's answer that is a value, and one that is an error
pub answer_ok : {X A : Type 0} (r : Result X Error) (refused : Fault → A) (go : X → A) (x : X) → r ≡ Ok x → on_result r refused go ≡ go x
unfolding on_result
answer_ok r refused go x e = ap (λ (s : Result _ Error). on_result s refused go) e

pub answer_err : {X A : Type 0} (r : Result X Error) (refused : Fault → A) (go : X → A) (error : Error) → r ≡ Err error → on_result r refused go ≡ refused (fault_of error)
unfolding on_result
answer_err r refused go error e = ap (λ (s : Result _ Error). on_result s refused go) e

-- an error that is a fault already
pub fault_of_twice : (error : Error) → fault_of (fault_of error) ≡ fault_of error
fault_of_twice (UnexpectedEof id) = refl
fault_of_twice error = refl
