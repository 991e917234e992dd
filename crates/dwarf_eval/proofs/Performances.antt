-- What an operation does to a state is what its act says.
use Rattle.std.proofs.Common.{ℕ, ℤ, ◌≡◌, ◌+◌, ◌<◌, ◌≤◌, Bool, true, false, List, [], ◌∷◌, length, Result, Ok, Err, Some, None, arith, ap, ◌∙◌, sym, refl, subst, nat_lt}
use Rattle.std.proofs.lemmas.Bool.{cond-true, cond-false}
use Rattle.std.proofs.lemmas.Bool.Decides.{nat_tests}
use Rattle.dwarf_base.specs.declared.errors.Error.{Error}
use Rattle.dwarf_base.specs.declared.errors.Error.TheVariants as error
use Rattle.dwarf_base.specs.Faults.{Fault, fault_of}
use Rattle.dwarf_base.specs.declared.errors.Error.TheVariants.{BadBranchTarget}
use Rattle.dwarf_value.specs.declared.types.Value.{Value}
use Rattle.dwarf_meaning.specs.Locations.{Location, Piece}
use Rattle.dwarf_meaning.specs.Requests.{Request, OnAnswer}
use Rattle.dwarf_meaning.specs.Acts.{Act, Pushes, Branches, Locates, EndsPiece, RequestAct, FaultAct, on_top, on_result, underflow, push}
use Rattle.dwarf_meaning.proofs.Choices.{top_none, top_some, answer_ok, answer_err}
use Rattle.dwarf_value.specs.Values.{to_u64_of}
use Rattle.dwarf_meaning.specs.Stores.{address_bits, Setup, Store, Last, Plain, Pieced, Located, push_value, push_piece, push_values, Next, Goes, FaultNext, next_at, branch_target, branch}
use Rattle.dwarf_meaning.specs.Rest.{State, Status, Start, Running, RequestStatus, CompleteStatus, FaultStatus, with_refusal}
use Rattle.dwarf_meaning.specs.Refusals.{Refusal, Never}
use Rattle.dwarf_meaning.specs.Inputs.{with_status}
use Rattle.dwarf_eval.specs.inner.StateChanges.{Stays, TriesChange, HasTriedChange, Pops, TriesToPop, Jumps, do_act_at, LeadsToFault, LeadsBy, Performs, with_store, with_values, with_last, with_place, PopsTo, before_pushes}
use Rattle.dwarf_eval.proofs.RefusedPushes.{tries_as, bind_ok}
use Rattle.dwarf_eval.proofs.Staying.{fewer_one, stays_from, stays_here, stays_low, stays_then}

pub performs_as : (a b : Act) (old new : State) → a ≡ b → Performs b old new → Performs a old new
performs_as a b old new e h = subst (λ (z : Act). Performs z old new) (sym e) h

-- the operation is refused, by a fault that the state keeps
pub performs_refuses : (a : Act) (error : Error) (old mid new : State) → a ≡ FaultAct (fault_of error) → Stays 0 old mid → new ≡ with_status (FaultStatus error) mid → Performs a old new
performs_refuses a error old mid new e stays is =
    subst (LeadsBy (do_act_at a old) old new) (sym (ap (λ (z : State). z.status) is)) (record {
      gets = record { refusal = Never; may = tt; same = ap (λ (z : Act). do_act_at z old (with_refusal Never old.store)) e };
      stays = stays_then (FaultStatus error) old mid new stays is;
    })

-- an act that goes on after the operation, once f is done
module _ (a : Act) (f : Store → Result Store Fault) (old : State) (is : (s : Store) → do_act_at a old s ≡ next_at old.place (f s)) where
  pub performs_goes : (new : State) (done : Bool) → old.status ≡ Running → TriesChange 0 f old new done → Performs a old new
  performs_goes new true runs d =
      let place : new.place ≡ old.place = ap (λ (x : State). x.place) d.alone in
      let still : new.status ≡ Running = ap (λ (x : State). x.status) d.alone ∙ runs in
      subst (LeadsBy (do_act_at a old) old new) (sym still) (record {
        steps = record {
          pushes = d.steps.pushes;
          same = λ r.
              is (with_refusal (before_pushes d.steps.pushes r) old.store)
              ∙ (ap (next_at old.place) (d.steps.same r) ∙ ap (λ (p : ℕ). Goes p (with_refusal r new.store)) (sym place));
        };
        alone = d.alone ∙ ap (λ (p : ℕ). with_store new.store (with_place p old)) (sym place);
      })
  performs_goes new false runs h =
      subst (LeadsBy (do_act_at a old) old new) (sym h.failed) (record {
        gets = record {
          refusal = h.gets.refusal;
          may = h.gets.may;
          same = is (with_refusal h.gets.refusal old.store) ∙ ap (next_at old.place) h.gets.same;
        };
        stays = h.stays;
      })

-- f of the store with these values and this kind of last operation
abbrev pub from : (values : List Value) → Last → (Store → Result Store Fault) → Store → Result Store Fault
from values last f s = f (record s { values = values; last = last })

tries_from : (rest : List Value) (last : Last) (f : Setup → Store → Result Store Fault) (old mid new : State) (done : Bool) → length rest ≤ length old.store.values → mid ≡ with_last last (with_values rest old) → TriesChange 0 (f mid.setup) mid new done → TriesChange 0 (from rest last (f old.setup)) old new done
tries_from rest last f old mid new done fewer e h =
    let h' = subst (λ (z : State). TriesChange 0 (f z.setup) z new done) e h in
    tries_as 0 0 (f old.setup) (from rest last (f old.setup)) old (with_last last (with_values rest old)) new done (λ r. refl) (λ s. refl) refl
    (stays_from 0 0 rest last old.status old new (omega (arith, fewer))) h'

-- Values are pushed; if one is refused, no more are there than were popped.
pub performs_pushes : (more : ℕ) (rest pushed : List Value) (old mid new : State) → old.status ≡ Running → length rest + more ≤ length old.store.values → mid ≡ with_values rest old → HasTriedChange more (λ s. push_values mid.setup pushed (record s { last = Plain })) mid new → Performs (Pushes rest pushed) old new
performs_pushes more rest pushed old mid new runs fits e h =
    let h' = subst (λ (z : State). TriesChange more (λ s. push_values z.setup pushed (record s { last = Plain })) z new h.0) e h.1 in
    performs_goes (Pushes rest pushed) (from rest Plain (push_values old.setup pushed)) old (λ s. refl) new h.0 runs
    (tries_as more 0 (λ s. push_values old.setup pushed (record s { last = Plain })) (from rest Plain (push_values old.setup pushed)) old (with_values rest old) new h.0 (λ r. refl) (λ s. refl) refl
    (stays_from more 0 rest old.store.last old.status old new (omega (arith, fits))) h')

-- one value is pushed
pub performs_push : (rest : List Value) (value : Value) (old mid new : State) → old.status ≡ Running → length rest ≤ length old.store.values → mid ≡ with_values rest old → HasTriedChange 0 (λ s. push_value mid.setup value (record s { last = Plain })) mid new → Performs (Pushes rest (value ∷ [])) old new
performs_push rest value old mid new runs fewer e h =
    performs_pushes 0 rest (value ∷ []) old mid new runs (omega (arith, fewer)) e (
      h.0,
      tries_as 0 0 (λ s. push_value mid.setup value (record s { last = Plain })) (λ s. push_values mid.setup (value ∷ []) (record s { last = Plain })) mid mid new h.0
          (λ r. bind_ok (push_value mid.setup value (record (with_refusal r mid.store) { last = Plain }))) (λ s. refl) refl (λ stays. stays) h.1,
    )

-- a value is pushed on those that are there
pub performs_more : (value : Value) (old new : State) → old.status ≡ Running → HasTriedChange 0 (λ s. push_value old.setup value (record s { last = Plain })) old new → Performs (push old.store.values value) old new
performs_more value old new runs h = performs_push old.store.values value old old new runs (omega arith) refl h

-- nothing is pushed
performs_quietly : (a : Act) (rest : List Value) (last : Last) (old new : State) → ((s : Store) → do_act_at a old s ≡ next_at old.place (from rest last (λ t. Ok t) s)) → old.status ≡ Running → new ≡ with_last last (with_values rest old) → Performs a old new
performs_quietly a rest last old new is runs e =
    subst (Performs a old) (sym e)
    (performs_goes a (from rest last (λ t. Ok t)) old is (with_last last (with_values rest old)) true runs (record { steps = record { pushes = 0; same = λ r. refl }; alone = refl }))

pub performs_none : (rest : List Value) (old new : State) → old.status ≡ Running → new ≡ with_last Plain (with_values rest old) → Performs (Pushes rest []) old new
performs_none rest old new runs e = performs_quietly (Pushes rest []) rest Plain old new (λ s. refl) runs e

-- a location waits
pub performs_located : (rest : List Value) (location : Location) (old new : State) → old.status ≡ Running → new ≡ with_last (Located location) (with_values rest old) → Performs (Locates rest location) old new
performs_located rest location old new runs e = performs_quietly (Locates rest location) rest (Located location) old new (λ s. refl) runs e

-- a piece is ended
pub performs_ends : (rest : List Value) (piece : Piece) (old mid new : State) (done : Bool) → old.status ≡ Running → length rest ≤ length old.store.values → mid ≡ with_last Pieced (with_values rest old) → TriesChange 0 (push_piece mid.setup piece) mid new done → Performs (EndsPiece rest piece) old new
performs_ends rest piece old mid new done runs fewer e h =
    performs_goes (EndsPiece rest piece) (from rest Pieced (push_piece old.setup piece)) old (λ s. refl) new done runs
    (tries_from rest Pieced (λ setup. push_piece setup piece) old mid new done fewer e h)

-- something is asked
pub performs_asks : (request : Request) (on_answer : OnAnswer) (old new : State) → new ≡ with_status (RequestStatus request on_answer) old → Performs (RequestAct old.store.values request on_answer) old new
performs_asks request on_answer old new e =
    subst (Performs (RequestAct old.store.values request on_answer) old) (sym e) (record { steps = record { pushes = 0; same = λ r. refl }; alone = refl })

-- a branch is taken
pub performs_branch : (t : ℤ) (old mid new : State) (target : ℕ) (done : Bool) → old.status ≡ Running → mid ≡ with_last Plain old → target ≡ branch_target mid.setup mid.place t → Jumps target mid new done → Performs (Branches old.store.values t) old new
performs_branch t old mid new target true runs e f h =
    let gone : State = with_place target (with_last Plain old) in
    let is : target ≡ branch_target old.setup old.place t = f ∙ ap (λ (z : State). branch_target z.setup z.place t) e in
    let fits : target ≤ length old.text.bytes = subst (λ (z : State). target ≤ length z.text.bytes) e h.0 in
    let inside : nat_lt (length old.text.bytes) target ≡ false = grind (arith, nat_tests) in
    subst (Performs (Branches old.store.values t) old) (sym (h.1 ∙ ap (with_place target) e)) (subst (LeadsBy (do_act_at (Branches old.store.values t) old) old gone) (sym runs) (record {
      steps = record {
        pushes = 0;
        same = λ r.
            let s : Store = record (with_refusal r old.store) { last = Plain } in
            ap (λ (n : ℕ). branch (length old.text.bytes) n s) (sym is)
            ∙ cond-false (nat_lt (length old.text.bytes) target) (FaultNext (BadBranchTarget target)) (Goes target s) inside;
      };
      alone = refl;
    }))
performs_branch t old mid new target false runs e f h =
    let rest = old.store.values in
    let is : target ≡ branch_target old.setup old.place t = f ∙ ap (λ (z : State). branch_target z.setup z.place t) e in
    let far : length old.text.bytes < target = subst (λ (z : State). length z.text.bytes < target) e h.0 in
    let outside : nat_lt (length old.text.bytes) target ≡ true = grind (arith, nat_tests) in
    let s : Store = record (with_refusal Never old.store) { values = rest; last = Plain } in
    subst (LeadsBy (do_act_at (Branches rest t) old) old new) (sym (ap (λ (z : State). z.status) h.1)) (record {
      gets = record {
        refusal = Never;
        may = tt;
        same =
            ap (λ (n : ℕ). branch (length old.text.bytes) n s) (sym is)
            ∙ cond-true (nat_lt (length old.text.bytes) target) (FaultNext (BadBranchTarget target)) (Goes target s) outside;
      };
      stays = stays_then (FaultStatus (error.BadBranchTarget target)) old mid new (stays_low rest Plain old mid (omega arith) e) h.1;
    })

-- ---- several values are popped

pub record PopsTwo (y x : Value) (old new : State) : Type 0 where
  pub rest : List Value
  pub values : old.store.values ≡ y ∷ x ∷ rest
  pub alone : new ≡ with_values rest old

pub pops_two : (y x : Value) (old mid new : State) → Pops (Some y) old mid → Pops (Some x) mid new → PopsTwo y x old new
pops_two y x old mid new h i =
    let low : mid.store.values ≡ h.0 = ap (λ (z : State). z.store.values) h.2 in
    record { rest = i.0; values = h.1 ∙ ap (λ (vs : List Value). y ∷ vs) (sym low ∙ i.1); alone = i.2 ∙ ap (with_values i.0) h.2 }

pub fewer_two : (y x : Value) (rest values : List Value) → values ≡ y ∷ x ∷ rest → length rest + 1 ≤ length values
fewer_two y x rest values e = let n = ap length e in omega (arith, n)

pub record PopsThree (z y x : Value) (old new : State) : Type 0 where
  pub rest : List Value
  pub values : old.store.values ≡ z ∷ y ∷ x ∷ rest
  pub alone : new ≡ with_values rest old

pub pops_three : (z y x : Value) (old mid new : State) → PopsTwo z y old mid → Pops (Some x) mid new → PopsThree z y x old new
pops_three z y x old mid new h i =
    let low : mid.store.values ≡ h.rest = ap (λ (s : State). s.store.values) h.alone in
    record { rest = i.0; values = h.values ∙ ap (λ (vs : List Value). z ∷ y ∷ vs) (sym low ∙ i.1); alone = i.2 ∙ ap (with_values i.0) h.alone }

pub fewer_three : (z y x : Value) (rest values : List Value) → values ≡ z ∷ y ∷ x ∷ rest → length rest + 2 ≤ length values
fewer_three z y x rest values e = let n = ap length e in omega (arith, n)

-- ---- an operation on what is left of the stack

module _ (rest : List Value) (old new : State) (fewer : length rest ≤ length old.store.values) where
  low_fails : (error : Error) (f g : Store → Next) → ((r : Refusal) → g (with_refusal r old.store) ≡ f (with_refusal r (with_values rest old).store)) → LeadsToFault f error (with_values rest old) new → LeadsToFault g error old new
  low_fails error f g is h = record {
    gets = record { refusal = h.gets.refusal; may = h.gets.may; same = is h.gets.refusal ∙ h.gets.same };
    stays = stays_from 0 0 rest old.store.last old.status old new (omega (arith, fewer)) h.stays;
  }

  low_by : (f g : Store → Next) → ((r : Refusal) → g (with_refusal r old.store) ≡ f (with_refusal r (with_values rest old).store)) → (status : Status) → LeadsBy f (with_values rest old) new status → LeadsBy g old new status
  low_by f g is (FaultStatus error) h = low_fails error f g is h
  low_by f g is (Start initial_value) h = absurd h
  low_by f g is (CompleteStatus value) h = absurd h
  low_by f g is _ h = record { steps = record { pushes = h.steps.pushes; same = λ r. is (before_pushes h.steps.pushes r) ∙ h.steps.same r }; alone = h.alone }

-- an act leaves no trace of the values that were popped before it
act_low : (a : Act) (rest : List Value) (old : State) (r : Refusal) → do_act_at a old (with_refusal r old.store) ≡ do_act_at a (with_values rest old) (with_refusal r (with_values rest old).store)
act_low (Pushes left pushed) rest old r = refl
act_low _ rest old r = refl

-- first a pop, and then the act on what is left
pub performs_low : (f : List Value → Act) (rest : List Value) (old mid new : State) → length rest ≤ length old.store.values → mid ≡ with_values rest old → Performs (f mid.store.values) mid new → Performs (f rest) old new
performs_low f rest old mid new fewer e h =
    low_by rest old new fewer (do_act_at (f rest) (with_values rest old)) (do_act_at (f rest) old) (act_low (f rest) rest old) new.status (subst (λ (z : State). Performs (f z.store.values) z new) e h)

-- ---- the top is popped first

-- no value is there
pub underflows : (go : Value → List Value → Act) (old new : State) → TriesToPop None old new → Performs (on_top old.store.values underflow go) old new
underflows go old new h =
    performs_refuses _ error.NotEnoughStackItems old old new (top_none old.store.values underflow go h.0) (stays_here old) h.1

pub performs_popped : (go : Value → List Value → Act) (x : Value) (old mid new : State) → Pops (Some x) old mid → Performs (go x mid.store.values) mid new → Performs (on_top old.store.values underflow go) old new
performs_popped go x old mid new pops h =
    performs_as _ (go x pops.0) old new (top_some old.store.values underflow go x pops.0 pops.1)
    (performs_low (go x) pops.0 old mid new (fewer_one x pops.0 old.store.values pops.1) pops.2 h)

-- as a number
pub performs_number : (bits : ℕ) (go : ℕ → List Value → Act) (number : ℕ) (old mid new : State) → bits ≡ address_bits old.setup → PopsTo number old mid → Performs (go number mid.store.values) mid new → Performs (on_top old.store.values underflow (λ x rest. go (to_u64_of bits x) rest)) old new
performs_number bits go number old mid new same pops h =
    let is : to_u64_of bits pops.value ≡ number = ap (λ (b : ℕ). to_u64_of b pops.value) same ∙ sym pops.is in
    performs_as _ (go number pops.rest) old new
    (top_some old.store.values underflow (λ x rest. go (to_u64_of bits x) rest) pops.value pops.rest pops.values ∙ ap (λ (n : ℕ). go n pops.rest) is)
    (performs_low (go number) pops.rest old mid new (fewer_one pops.value pops.rest old.store.values pops.values) pops.alone h)

-- both on top
pub performs_two : (go : Value → Value → List Value → Act) (y x : Value) (old mid new : State) → PopsTwo y x old mid → Performs (go y x mid.store.values) mid new → Performs (on_top old.store.values underflow (λ y below. on_top below underflow (go y))) old new
performs_two go y x old mid new pops h =
    let n = fewer_two y x pops.rest old.store.values pops.values in
    performs_as _ (go y x pops.rest) old new
    (top_some old.store.values underflow (λ y below. on_top below underflow (go y)) y (x ∷ pops.rest) pops.values ∙ top_some (x ∷ pops.rest) underflow (go y) x pops.rest refl)
    (performs_low (go y x) pops.rest old mid new (omega (arith, n)) pops.alone h)

-- a call's value is pushed
pub performs_result : (call : Result Value Error) (value : Value) (old new : State) → old.status ≡ Running → call ≡ Ok value → HasTriedChange 0 (λ s. push_value old.setup value (record s { last = Plain })) old new → Performs (on_result call FaultAct (push old.store.values)) old new
performs_result call value old new runs e h = performs_as _ _ old new (answer_ok call FaultAct (push old.store.values) value e) (performs_more value old new runs h)

-- a call's error is a fault
pub performs_error : (call : Result Value Error) (error : Error) (old new : State) → call ≡ Err error → new ≡ with_status (FaultStatus error) old → Performs (on_result call FaultAct (push old.store.values)) old new
performs_error call error old new e is = performs_refuses _ error old old new (answer_err call FaultAct (push old.store.values) error e) (stays_here old) is
