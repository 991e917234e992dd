-- One step after the other, and the beginning of a run.
use Rattle.std.proofs.Common.{ℕ, ◌≡◌, ◌+◌, arith, length, List, Some, None, Bool, true, false, ap, ◌∙◌, sym, refl, subst}
use Rattle.dwarf_base.specs.declared.errors.Error.{Error}
use Rattle.dwarf_base.specs.Faults.{Fault, fault_of}
use Rattle.dwarf_value.specs.declared.types.Value.TheVariants.{Generic}
use Rattle.dwarf_meaning.specs.Requests.{Input}
use Rattle.dwarf_meaning.specs.Stores.{Setup, Store, push_value}
use Rattle.dwarf_meaning.specs.Meaning.{FaultOutcome}
use Rattle.dwarf_meaning.specs.Rest.{State, Status, Start, Running, FaultStatus, with_refusal}
use Rattle.dwarf_meaning.specs.Refusals.{Refusal, MayPick}
use Rattle.dwarf_meaning.specs.Bounds.{faults_in}
use Rattle.dwarf_meaning.specs.Inputs.{Keeps, with_status}
use Rattle.dwarf_eval.specs.inner.Answers.{IsAtRestBy}
use Rattle.dwarf_eval.specs.inner.StateChanges.{Stays, Total, total, TriesChange, Reaches, Falls, ComesToStateBy, ComesToState, HasReply, is_running, before_pushes}
use Rattle.dwarf_eval.proofs.RefusedPushes.{before_more, may_before}
use Rattle.dwarf_eval.proofs.Loads.{kept_in, value_stored}
use Rattle.dwarf_eval.proofs.Spending.{nears_by, nears_more, spent_here, spent_more, begun_spends, fallen_spends}
use Rattle.dwarf_eval.proofs.Staying.{keeps_here, keeps_more, stays_from}
use Rattle.dwarf_eval.proofs.Totals.{closed, going, started_total, started_fails, total_running, total_start}

pub reaches_here : (x : State) → x.status ≡ Running → Reaches x (total x) x
reaches_here x runs = record { pushes = 0; same = λ r inputs. refl; kept = keeps_here x; spends = spent_here x; nears = nears_by x x Running Running runs runs (omega arith) }

pub may_along : (a b : State) (r : Refusal) → Keeps a b → MayPick b.setup.limits r → MayPick a.setup.limits r
may_along a b r h m = subst (λ (z : Setup). MayPick z.limits r) h.setup m

-- a fault, and nothing else was done
pub falls_here : (x : State) (totals : Refusal → List Input → Total) (new : State) (error : Error) (refusal : Refusal) → faults_in x.status ≡ 0 → new.status ≡ FaultStatus error → MayPick x.setup.limits refusal → ((inputs : List Input) → totals refusal inputs ≡ closed (FaultOutcome (fault_of error)) x.store.count) → Stays 0 x new → ComesToState x totals new
falls_here x totals new error refusal sound failed may same stays =
    subst (ComesToStateBy x totals new) (sym failed) (record {
      refusal = refusal;
      may = may;
      same = λ inputs. same inputs ∙ ap (closed (FaultOutcome (fault_of error))) (sym stays.count);
      kept = stays.kept;
      spends = fallen_spends x new error sound failed (omega (arith, stays.callers)) (omega (arith, stays.count)) (omega (arith, stays.items)) (omega (arith, stays.decodings, stays.count)) stays.pieces (omega (arith, stays.decodings, stays.count)) (omega (arith, stays.decodings, stays.count));
    })

module _ (old : State) (totals : Refusal → List Input → Total) where
  pub reaches_more : (a b : State) → Reaches old totals a → Reaches a (total a) b → Reaches old totals b
  reaches_more a b h i = record {
    pushes = h.pushes + i.pushes;
    same = λ r inputs.
        ap (λ (q : Refusal). totals q inputs) (before_more h.pushes i.pushes r) ∙ (h.same (before_pushes i.pushes r) inputs ∙ i.same r inputs);
    kept = keeps_more old a b h.kept i.kept;
    spends = spent_more 0 old a b h.spends i.spends;
    nears = nears_more old a b h.nears i.nears;
  }

  pub falls_more : (a b : State) (fault : Fault) → Reaches old totals a → Falls a (total a) fault b → Falls old totals fault b
  falls_more a b fault h i = record {
    refusal = before_pushes h.pushes i.refusal;
    may = may_before old.setup.limits h.pushes i.refusal (may_along old a i.refusal h.kept i.may);
    same = λ inputs. h.same i.refusal inputs ∙ i.same inputs;
    kept = keeps_more old a b h.kept i.kept;
    spends = spent_more 0 old a b h.spends i.spends;
  }

  comes_by : (a b : State) (status : Status) → Reaches old totals a → ComesToStateBy a (total a) b status → ComesToStateBy old totals b status
  comes_by a b (FaultStatus error) h i = falls_more a b (fault_of error) h i
  comes_by a b (Start initial_value) h i = absurd i
  comes_by a b _ h i = reaches_more a b h i

  -- a state that runs was reached
  came_running : (a : State) (status : Status) → is_running status ≡ true → ComesToStateBy old totals a status → Reaches old totals a
  came_running a (Start initial_value) is h = absurd h
  came_running a (FaultStatus error) is h = cc
  came_running a _ is h = h

  -- one turn more
  pub comes_more : (a b : State) → is_running a.status ≡ true → ComesToState old totals a → ComesToState a (total a) b → ComesToState old totals b
  comes_more a b is h i = comes_by a b b.status (came_running a a.status is h) i

  over_by : (a : State) (status : Status) → is_running status ≡ false → ComesToStateBy old totals a status → HasReply status
  over_by a Running is h = cc
  over_by a (Start initial_value) is h = absurd h
  over_by a _ is h = tt

  -- what came and doesn't run has a reply
  pub comes_over : (a : State) → is_running a.status ≡ false → ComesToState old totals a → HasReply a.status
  comes_over a is h = over_by a a.status is h

pub comes_here : (x : State) → x.status ≡ Running → ComesToState x (total x) x
comes_here x runs = subst (ComesToStateBy x (total x) x) (sym runs) (reaches_here x runs)

-- ---- the beginning

pub begins_none : (x new : State) → IsAtRestBy x (Start None) → new ≡ with_status Running x → ComesToState x (total x) new
begins_none x new is e =
    let starts : x.status ≡ Start None = ap (λ (z : State). z.status) is in
    subst (ComesToState x (total x)) (sym e) (record {
      pushes = 0;
      same = λ r inputs. total_start r x inputs None is ∙ sym (total_running r (with_status Running x) inputs refl);
      kept = record { setup = refl; settings = refl };
      spends = begun_spends x (with_status Running x) None starts refl refl refl refl refl (omega arith) refl;
      nears = nears_by x (with_status Running x) (Start None) Running starts refl (omega arith);
    })

begins_pushed : (v : ℕ) (x new : State) (done : Bool) → IsAtRestBy x (Start (Some v)) → TriesChange 0 (push_value x.setup (Generic v)) (with_status Running x) new done → ComesToState x (total x) new
begins_pushed v x new true is d =
    let starts : x.status ≡ Start (Some v) = ap (λ (z : State). z.status) is in
    let still : new.status ≡ Running = ap (λ (z : State). z.status) d.alone in
    let stored = value_stored x.setup (Generic v) x.store new.store d.steps in
    let count : new.store.count ≡ x.store.count = ap (λ (s : Store). s.count) stored in
    let kept = ap kept_in stored in
    subst (ComesToStateBy x (total x) new) (sym still) (record {
      pushes = d.steps.pushes;
      same = λ r inputs.
          total_start (before_pushes d.steps.pushes r) x inputs (Some v) is
          ∙ (ap (started_total x inputs) (d.steps.same r)
          ∙ sym (total_running r new inputs still ∙ ap (λ (z : State). going z (with_refusal r new.store) inputs) d.alone
          ∙ ap (λ (n : ℕ). going (record x { store = record x.store { count = n } }) (with_refusal r new.store) inputs) count));
      kept = record { setup = ap (λ (z : State). z.setup) d.alone; settings = ap (λ (s : Store). s.settings) stored };
      spends = begun_spends x new (Some v) starts still (ap (λ (z : State). length z.callers) d.alone) count (ap (λ (z : State). z.decodings) d.alone) (ap (λ (s : Store). s.last) stored) (omega (arith, kept)) (ap (λ (s : Store). s.pieces) stored);
      nears = nears_by x new (Start (Some v)) Running starts still (omega (arith, count));
    })
begins_pushed v x new false is d =
    falls_here x (total x) new d.error d.gets.refusal (ap (λ (z : State). faults_in z.status) is) d.failed d.gets.may
    (λ inputs. total_start d.gets.refusal x inputs (Some v) is ∙ (ap (started_total x inputs) d.gets.same ∙ started_fails x inputs (fault_of d.error)))
    (stays_from 0 0 x.store.values x.store.last Running x new (omega arith) d.stays)

pub begins_some : (v : ℕ) (x mid new : State) (done : Bool) → IsAtRestBy x (Start (Some v)) → mid ≡ with_status Running x → TriesChange 0 (push_value mid.setup (Generic v)) mid new done → ComesToState x (total x) new
begins_some v x mid new done is e h =
    begins_pushed v x new done is (subst (λ (z : State). TriesChange 0 (push_value z.setup (Generic v)) z new done) e h)
