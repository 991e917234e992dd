-- A call answers what the meaning gives, and what is left is what the meaning gives for the inputs to come.
use Rattle.std.proofs.Common.{ℕ, zero, suc, ◌≡◌, List, [], ◌∷◌, ap, ◌∙◌, sym, refl, subst, arith}
use Rattle.dwarf_base.specs.declared.errors.Error.{Error}
use Rattle.dwarf_base.specs.Faults.{fault_of}
use Rattle.dwarf_meaning.specs.Requests.{Input}
use Rattle.dwarf_meaning.specs.Bounds.{faults_in}
use Rattle.dwarf_meaning.specs.Rest.{State, Status, Start, Running, RequestStatus, CompleteStatus, FaultStatus, with_refusal, Total, total_by, total}
use Rattle.dwarf_meaning.specs.Steps.{Reply, reply}
use Rattle.dwarf_meaning.specs.Refusals.{Refusal, Never, After, IsLater}
use Rattle.dwarf_eval.specs.Evaluation.{Follows, IsReplied}
use Rattle.dwarf_eval.specs.inner.StateChanges.{Reaches, Falls, ComesToStateBy, ComesToState, before_pushes}
use Rattle.dwarf_eval.proofs.RefusedPushes.{before_never, before_later}
use Rattle.dwarf_eval.proofs.Totals.{course_open}
pub use Rattle.dwarf_eval.proofs.Totals.{total_open, total_complete, total_meaning}

replied_by : (r : Refusal) (x : State) (replied : Reply) (status : Status) → IsReplied replied status → replied ≡ reply (total_by x (with_refusal r x.store) [] status).outcome
replied_by r x replied (RequestStatus request on_answer) h =
    h ∙ sym (ap (λ (z : Total). reply z.outcome) (course_open x.store.count x.setup x.callers request (record { text = x.text; place = x.place } ∷ []) []))
replied_by r x replied (Start initial_value) h = absurd h
replied_by r x replied Running h = absurd h
replied_by r x replied _ h = h

pub replied_total : (r : Refusal) (x : State) (replied : Reply) → IsReplied replied x.status → replied ≡ reply (total x r []).outcome
unfolding total
replied_total r x replied h = replied_by r x replied x.status h

-- a refusal for later is the same before any pushes
later_before : (p : ℕ) (r : Refusal) → IsLater r → before_pushes p r ≡ r
later_before p Never h = before_never p
later_before p (After zero pushes) h = absurd h
later_before p (After (suc inputs) pushes) h = before_later p inputs pushes

-- ---- from where an evaluation came, or fell, to what its call answers

module _ (old : State) (totals : Refusal → List Input → Total) (new : State) (replied : Reply) where
  -- what is left after a refusal for later
  later_total : (h : Reaches old totals new) (r : Refusal) (inputs : List Input) → IsLater r → totals r inputs ≡ total new r inputs
  later_total h r inputs l = ap (λ (q : Refusal). totals q inputs) (sym (later_before h.pushes r l)) ∙ h.same r inputs

  -- nothing more is counted in a request that waits for an input, or at the end
  open_count : (status : Status) → new.status ≡ status → faults_in status ≡ 0 → IsReplied replied status → (total new Never []).count ≡ new.store.count
  open_count (RequestStatus request on_answer) e o t = ap (λ (z : Total). z.count) (total_open Never new request on_answer e)
  open_count (CompleteStatus value) e o t = ap (λ (z : Total). z.count) (total_complete Never new [] value e)
  open_count (FaultStatus error) e o t = omega (arith, o)
  open_count _ e o t = absurd t

  came_follows : faults_in new.status ≡ 0 → Reaches old totals new → IsReplied replied new.status → Follows old totals replied new
  came_follows o h t =
      let here : total new Never [] ≡ totals Never [] = sym (later_total h Never [] tt) in
      record {
        refusal = Never;
        may = tt;
        reply = replied_total Never new replied t ∙ ap (λ (z : Total). reply z.outcome) here;
        count = sym (open_count new.status refl o t) ∙ ap (λ (z : Total). z.count) here;
        status = t;
        more = λ open_now r inputs l. later_total h r inputs l;
        kept = h.kept;
        spends = h.spends;
      }

  fell_follows : (error : Error) → new.status ≡ FaultStatus error → Falls old totals (fault_of error) new → IsReplied replied new.status → Follows old totals replied new
  fell_follows error failed h t = let one : faults_in new.status ≡ 1 = ap faults_in failed in record {
    refusal = h.refusal;
    may = h.may;
    reply = subst (IsReplied replied) failed t ∙ sym (ap (λ (z : Total). reply z.outcome) (h.same []));
    count = sym (ap (λ (z : Total). z.count) (h.same []));
    status = t;
    more = λ open_now r inputs l. absurd (let none = open_now in omega (arith, one, none));
    kept = h.kept;
    spends = h.spends;
  }

  follows_by : (status : Status) → new.status ≡ status → ComesToStateBy old totals new status → IsReplied replied new.status → Follows old totals replied new
  follows_by (FaultStatus error) e h t = fell_follows error e h t
  follows_by Running e h t = absurd (subst (IsReplied replied) e t)
  follows_by (Start initial_value) e h t = absurd h
  follows_by _ e h t = came_follows (ap faults_in e) h t

  -- a call that replies answers its outcome
  pub comes_follow : ComesToState old totals new → IsReplied replied new.status → Follows old totals replied new
  comes_follow h t = follows_by new.status refl h t
