-- The outcome of an answer.
use Rattle.std.proofs.Common.{ℕ, suc, ◌≡◌, ◌≤◌, arith, Bool, true, false, List, [], ◌∷◌, length, Some, None, Result, Ok, Err, ap, ◌∙◌, sym, refl, subst}
use Rattle.dwarf_base.specs.declared.errors.Error.{Error}
use Rattle.dwarf_base.specs.Faults.{Fault, fault_of}
use Rattle.dwarf_base.specs.Reads.{Text}
use Rattle.dwarf_value.specs.declared.types.Value.{Value}
use Rattle.dwarf_value.specs.declared.types.ValueType.{ValueType}
use Rattle.dwarf_base.specs.declared.errors.Error.TheVariants.{NotEnoughStackItems}
use denote.Enum.Bare.{true_same}
use Rattle.std.proofs.lemmas.Bool.{cond-true}
use Rattle.dwarf_meaning.specs.contracts.kinds.WaitingKind.{the_type}
use Rattle.dwarf_meaning.specs.declared.kinds.WaitingKind.{WaitingKind}
use Rattle.dwarf_meaning.specs.Kinds.{kind_of_request, kind_of_answer, is_same_kind}
use Rattle.dwarf_meaning.specs.Requests.{Request, OnAnswer, Answer, BaseTypeAnswer, Input}
use Rattle.dwarf_meaning.specs.Acts.{Use, PushesAnswer, Calls, FaultUse, on_result, turn_top, use_of}
use Rattle.dwarf_meaning.specs.RunLaws.{waits_of}
use Rattle.dwarf_meaning.specs.Stores.{address_bits, Store, Last, Pushed, Called, push_value, push_caller}
use Rattle.dwarf_meaning.specs.Run.{Position, Course, run_callee, enter_callee, after_push, run}
use Rattle.dwarf_meaning.specs.Meaning.{FaultOutcome}
use Rattle.dwarf_meaning.specs.Rest.{State, Status, Start, Running, RequestStatus, FaultStatus, with_refusal, total_of_course}
use Rattle.dwarf_meaning.specs.Refusals.{Refusal, Never, After, refusal_after_input, MayPick, before_input}
use Rattle.dwarf_meaning.proofs.Effects.{IsUseOf, use_is}
use Rattle.dwarf_meaning.specs.Bounds.{waiting, faults_in}
use Rattle.dwarf_meaning.specs.Inputs.{input_of, with_status}
use Rattle.dwarf_eval.specs.inner.StateChanges.{Total, total_after, total_used, ChangesStoreBy, Refused, Stays, Pops, TriesToPop, TriesChange, HasTriedChange, Enters, TriesToEnter, ComesToState, ComesToStateBy, TakesAnswer, AnswersOpenRequest, PushesAsAnswer, with_last, with_values, before_pushes}
use Rattle.dwarf_eval.specs.Permits.{IsOpenFor}
use Rattle.dwarf_eval.specs.inner.Answers.{IsWaiting}
use Rattle.dwarf_eval.proofs.AnswerUses.{IsOpen, IsOpenTo, open_in}
use Rattle.dwarf_meaning.proofs.Choices.{answer_ok, answer_err, top_none, top_some}
use Rattle.dwarf_eval.proofs.Computes.{width_old}
use Rattle.dwarf_eval.proofs.Loads.{AllGiven, kept_in, caller_stored, value_stored}
use Rattle.dwarf_eval.proofs.Spending.{nears_by, answered_spends}
use Rattle.dwarf_eval.proofs.Reaching.{falls_here}
use Rattle.dwarf_eval.proofs.Staying.{stays_from, stays_here, stays_popped, stays_then}
use Rattle.dwarf_eval.proofs.Totals.{closed, going, total_running, total_waits, course_failed}

same_kinds : {one other : WaitingKind} → one ≡ other → is_same_kind one other ≡ true
unfolding is_same_kind
same_kinds e = true_same the_type _ _ e

taken_before : (r : Refusal) → refusal_after_input (before_input r) ≡ r
taken_before Never = refl
taken_before (After inputs pushes) = refl

-- an answer to the open request, if it is of its kind
module _ (x : State) (on_answer : OnAnswer) (answer : Answer) where
  module _ (new : State) (request : Request) (open_now : x.status ≡ RequestStatus request on_answer) (fits : kind_of_request request ≡ kind_of_answer answer) where
    totals_used : (r : Refusal) (inputs : List Input) → total_after x (input_of x answer) r inputs ≡ total_used x (use_of (address_bits x.setup) on_answer answer x.store.values) r inputs
    totals_used r inputs =
        let used : Use = use_of (address_bits x.setup) on_answer answer x.store.values in
        total_waits (before_input r) x (input_of x answer ∷ inputs) request on_answer open_now
        ∙ (ap (total_of_course x.store.count x.setup x.callers) (cond-true (is_same_kind (kind_of_request request) (kind_of_answer answer)) _ _ (same_kinds fits))
        ∙ ap (λ (q : Refusal). total_used x used q inputs) (taken_before r))

    answered_by : (status : Status) → ComesToStateBy x (total_used x (use_of (address_bits x.setup) on_answer answer x.store.values)) new status → ComesToStateBy x (total_after x (input_of x answer)) new status
    answered_by (FaultStatus error) h = record { refusal = h.refusal; may = h.may; same = λ inputs. totals_used h.refusal inputs ∙ h.same inputs; kept = h.kept; spends = h.spends }
    answered_by (Start initial_value) h = h
    answered_by _ h = record { pushes = h.pushes; same = λ r inputs. totals_used (before_pushes h.pushes r) inputs ∙ h.same r inputs; kept = h.kept; spends = h.spends; nears = h.nears }

  pub answer_comes : (new : State) → IsOpenTo (kind_of_answer answer) on_answer x.status → TakesAnswer on_answer answer x new → ComesToState x (total_after x (input_of x answer)) new
  answer_comes new now h = answered_by new now.request now.is now.fits new.status h

module _ (x : State) (waits : IsWaiting x.status) (on_answer : OnAnswer) (answer : Answer) where
  abbrev position : Position
  position = record { text = x.text; place = x.place }

  abbrev used : Use
  used = use_of (address_bits x.setup) on_answer answer x.store.values

  abbrev totals : Refusal → List Input → Total
  totals = total_used x used

  now : IsOpen x.status
  now = open_in x.status waits

  answer_rest : (r : Refusal) (inputs : List Input) (u : Use) → used ≡ u → totals r inputs ≡ total_used x u r inputs
  answer_rest r inputs u e = ap (λ (z : Use). total_used x z r inputs) e

  -- an answer that ends in a fault
  takes_fault : (new : State) (error : Error) (refusal : Refusal) → new.status ≡ FaultStatus error → Stays 0 x new → MayPick x.setup.limits refusal → ((inputs : List Input) → totals refusal inputs ≡ closed (FaultOutcome (fault_of error)) x.store.count) → TakesAnswer on_answer answer x new
  takes_fault new error refusal failed stays may same = falls_here x totals new error refusal (ap faults_in now.is) failed may same stays

  pub denies : (error : Error) (mid new : State) → used ≡ FaultUse (fault_of error) → Stays 0 x mid → new ≡ with_status (FaultStatus error) mid → TakesAnswer on_answer answer x new
  denies error mid new e stays is =
      takes_fault new error Never (ap (λ (z : State). z.status) is) (stays_then (FaultStatus error) x mid new stays is) tt
      (λ inputs. answer_rest Never inputs (FaultUse (fault_of error)) e ∙ course_failed x.store.count x.setup x.callers (fault_of error))

  -- a value is pushed on what the answer leaves of the stack
  module _ (values : List Value) (value : Value) (gives : used ≡ PushesAnswer values value) where
    abbrev answered : State
    answered = with_status Running (with_last Pushed (with_values values x))

    fewer : length values ≤ length x.store.values
    fewer = subst (IsUseOf answer (length x.store.values)) gives (use_is (address_bits x.setup) on_answer answer x.store.values)

    value_taken : (new : State) → ChangesStoreBy (push_value x.setup value) answered new → TakesAnswer on_answer answer x new
    value_taken new d =
        let stored = value_stored x.setup value answered.store new.store d.steps in
        let runs : new.status ≡ Running = ap (λ (z : State). z.status) d.alone in
        let kept = ap kept_in stored in
        let pushed : new.store.last ≡ Pushed = ap (λ (s : Store). s.last) stored in
        let last : waits_of new.store.last ≡ 0 = ap waits_of pushed in
        let callers = ap (λ (z : State). length z.callers) d.alone in
        let count : new.store.count ≡ x.store.count = ap (λ (s : Store). s.count) stored in
        let low = fewer in
        subst (ComesToStateBy x totals new) (sym runs) (record {
          pushes = d.steps.pushes;
          same = λ r inputs.
              answer_rest (before_pushes d.steps.pushes r) inputs (PushesAnswer values value) gives
              ∙ (ap (λ (z : Result Store Fault). total_of_course x.store.count x.setup x.callers (after_push (run x.setup) position (length x.callers) inputs z)) (d.steps.same r)
              ∙ (ap (λ (n : ℕ). total_of_course n x.setup x.callers (run x.setup x.text x.place (length x.callers) (with_refusal r new.store) inputs)) (sym count)
              ∙ sym (total_running r new inputs runs ∙ ap (λ (z : State). going z (with_refusal r new.store) inputs) d.alone)));
          kept = record { setup = ap (λ (z : State). z.setup) d.alone; settings = ap (λ (s : Store). s.settings) stored };
          spends = answered_spends x new now.request now.on_answer now.is runs (omega (arith, callers)) (omega (arith, callers, kept, low)) count (ap (λ (z : State). z.decodings) d.alone) (omega (arith, last))
              (ap (λ (s : Store). s.pieces) stored) (λ given. subst (λ (l : Last). AllGiven (waiting l Running)) (sym pushed) refl);
          nears = nears_by x new (RequestStatus now.request now.on_answer) Running now.is runs (omega (arith, count));
        })

    value_refused : (new : State) → Refused 0 (push_value x.setup value) answered new → TakesAnswer on_answer answer x new
    value_refused new h =
        let low = fewer in
        takes_fault new h.error h.gets.refusal h.failed (stays_from 0 0 values Pushed Running x new (omega (arith, low)) h.stays) h.gets.may
        (λ inputs.
        answer_rest h.gets.refusal inputs (PushesAnswer values value) gives
        ∙ (ap (λ (z : Result Store Fault). total_of_course x.store.count x.setup x.callers (after_push (run x.setup) position (length x.callers) inputs z)) h.gets.same
        ∙ course_failed x.store.count x.setup x.callers (fault_of h.error)))

    takes_by : (new : State) (done : Bool) → TriesChange 0 (push_value x.setup value) answered new done → TakesAnswer on_answer answer x new
    takes_by new true d = value_taken new d
    takes_by new false h = value_refused new h

    -- if the machine popped what the answer takes
    pub value_takes : (mid new : State) → mid ≡ with_values values x → HasTriedChange 0 (push_value mid.setup value) (with_status Running (with_last Pushed mid)) new → TakesAnswer on_answer answer x new
    value_takes mid new e h =
        takes_by new h.0 (subst (λ (z : State). TriesChange 0 (push_value z.setup value) (with_status Running (with_last Pushed z)) new h.0) e h.1)

  -- ---- a called text

  pub empty_takes : (callee : Text) (new : State) → used ≡ Calls callee → callee.bytes ≡ [] → new ≡ with_last Called (with_status Running x) → TakesAnswer on_answer answer x new
  empty_takes callee new calls none e =
      let entered : State = with_last Called (with_status Running x) in
      subst (TakesAnswer on_answer answer x) (sym e) (record {
        pushes = 0;
        same = λ r inputs.
            answer_rest r inputs (Calls callee) calls
            ∙ (ap (λ (bytes : List ℕ). total_of_course x.store.count x.setup x.callers (run_callee (run x.setup) x.setup position (length x.callers) callee bytes (with_refusal r x.store) inputs)) none
            ∙ sym (total_running r entered inputs refl));
        kept = record { setup = refl; settings = refl };
        spends = answered_spends x entered now.request now.on_answer now.is refl (omega arith) (omega arith) refl refl (omega arith) refl (λ given. refl);
        nears = nears_by x entered (RequestStatus now.request now.on_answer) Running now.is refl (omega arith);
      })

  module _ (callee : Text) (byte : ℕ) (bytes : List ℕ) (calls : used ≡ Calls callee) (some : callee.bytes ≡ byte ∷ bytes) where
    call_rest : (r : Refusal) (inputs : List Input) (z : Result Store Fault) → push_caller x.setup (length x.callers) (with_refusal r x.store) ≡ z → totals r inputs ≡ total_of_course x.store.count x.setup x.callers (enter_callee (run x.setup) position (length x.callers) callee inputs z)
    call_rest r inputs z e =
        answer_rest r inputs (Calls callee) calls
        ∙ (ap (λ (bs : List ℕ). total_of_course x.store.count x.setup x.callers (run_callee (run x.setup) x.setup position (length x.callers) callee bs (with_refusal r x.store) inputs)) some
        ∙ ap (λ (y : Result Store Fault). total_of_course x.store.count x.setup x.callers (enter_callee (run x.setup) position (length x.callers) callee inputs y)) e)

    text_taken : (new : State) → Enters callee (with_status Running x) new → TakesAnswer on_answer answer x new
    text_taken new d =
        let stored = caller_stored x.setup (length x.callers) x.store new.store d.steps in
        let runs : new.status ≡ Running = ap (λ (z : State). z.status) d.alone in
        let kept : kept_in new.store ≡ kept_in x.store = ap kept_in stored in
        let last : waits_of new.store.last ≡ waits_of x.store.last = ap (λ (s : Store). waits_of s.last) stored in
        let callers : length new.callers ≡ suc (length x.callers) = ap (λ (z : State). length z.callers) d.alone in
        let count : new.store.count ≡ x.store.count = ap (λ (s : Store). s.count) stored in
        subst (ComesToStateBy x totals new) (sym runs) (record {
          pushes = d.steps.pushes;
          same = λ r inputs.
              let t : Store = with_refusal r new.store in
              let course : Course = run x.setup callee 0 (suc (length x.callers)) t inputs in
              call_rest (before_pushes d.steps.pushes r) inputs (Ok t) (d.steps.same r)
              ∙ (ap (λ (n : ℕ). total_of_course n x.setup (position ∷ x.callers) course) (sym count)
              ∙ sym (total_running r new inputs runs ∙ ap (λ (z : State). going z t inputs) d.alone));
          kept = record { setup = ap (λ (z : State). z.setup) d.alone; settings = ap (λ (s : Store). s.settings) stored };
          spends = answered_spends x new now.request now.on_answer now.is runs (omega (arith, callers)) (omega (arith, callers, kept)) count (ap (λ (z : State). z.decodings) d.alone) (omega (arith, last))
              (ap (λ (s : Store). s.pieces) stored) (λ given. subst (λ (l : Last). AllGiven (waiting l Running)) (sym (ap (λ (s : Store). s.last) stored)) given);
          nears = nears_by x new (RequestStatus now.request now.on_answer) Running now.is runs (omega (arith, count));
        })

    text_refused : (new : State) → Refused 0 (push_caller x.setup (length x.callers)) (with_status Running x) new → TakesAnswer on_answer answer x new
    text_refused new h =
        takes_fault new h.error h.gets.refusal h.failed (stays_from 0 0 x.store.values x.store.last Running x new (omega arith) h.stays) h.gets.may
        (λ inputs. call_rest h.gets.refusal inputs (Err (fault_of h.error)) h.gets.same ∙ course_failed x.store.count x.setup x.callers (fault_of h.error))

    text_takes_by : (new : State) (done : Bool) → TriesToEnter callee (with_status Running x) new done → TakesAnswer on_answer answer x new
    text_takes_by new true d = text_taken new d
    text_takes_by new false h = text_refused new h

    pub text_takes : (mid new : State) (done : Bool) → mid ≡ with_status Running x → TriesToEnter callee mid new done → TakesAnswer on_answer answer x new
    text_takes mid new done e h = text_takes_by new done (subst (λ (z : State). TriesToEnter callee z new done) e h)

-- an answer of the kind of the open request
pub answer_open : (x : State) (waits : IsWaiting x.status) (answer : Answer) (new : State) → IsOpenFor (kind_of_answer answer) x.status → AnswersOpenRequest answer x new → ComesToState x (total_after x (input_of x answer)) new
answer_open x waits answer new is_open h =
    let now = open_in x.status waits in
    answer_comes x now.on_answer answer new
    (record { request = now.request; is = now.is; fits = subst (IsOpenFor (kind_of_answer answer)) now.is is_open })
    (h now.request now.on_answer now.is)

-- ---- the top becomes a value of a type

module _ (x : State) (waits : IsWaiting x.status) (on_answer : OnAnswer) (t : ValueType) (call : ℕ → ValueType → Value → Result Value Error) (is : use_of (address_bits x.setup) on_answer (BaseTypeAnswer t) x.store.values ≡ turn_top (call (address_bits x.setup) t) x.store.values) (mid new : State) where
  abbrev made : Value → List Value → Use
  made y rest = on_result (call (address_bits x.setup) t y) FaultUse (PushesAnswer rest)

  pub turns_none : TriesToPop None x new → TakesAnswer on_answer (BaseTypeAnswer t) x new
  turns_none h = denies x waits on_answer (BaseTypeAnswer t) NotEnoughStackItems x new (is ∙ top_none x.store.values (FaultUse NotEnoughStackItems) made h.0) (stays_here x) h.1

  module _ (top : Value) (width : ℕ) (pops : Pops (Some top) x mid) (same : width ≡ address_bits mid.setup) where
    call_is : (r : Result Value Error) → r ≡ call width t top → call (address_bits x.setup) t top ≡ r
    call_is r e = ap (λ (w : ℕ). call w t top) (sym (width_old width pops.0 x mid pops.2 same)) ∙ sym e

    turns_ok : (v : Value) → Ok v ≡ call width t top → HasTriedChange 0 (push_value mid.setup v) (with_status Running (with_last Pushed mid)) new → TakesAnswer on_answer (BaseTypeAnswer t) x new
    turns_ok v e h = value_takes x waits on_answer (BaseTypeAnswer t) pops.0 v (is ∙ (top_some x.store.values (FaultUse NotEnoughStackItems) made top pops.0 pops.1 ∙ answer_ok (call (address_bits x.setup) t top) FaultUse (PushesAnswer pops.0) v (call_is (Ok v) e))) mid new pops.2 h

    turns_err : (error : Error) → Err error ≡ call width t top → new ≡ with_status (FaultStatus error) mid → TakesAnswer on_answer (BaseTypeAnswer t) x new
    turns_err error e f = denies x waits on_answer (BaseTypeAnswer t) error mid new (is ∙ (top_some x.store.values (FaultUse NotEnoughStackItems) made top pops.0 pops.1 ∙ answer_err (call (address_bits x.setup) t top) FaultUse (PushesAnswer pops.0) error (call_is (Err error) e))) (stays_popped (Some top) x mid pops) f

    pub turns : (r : Result Value Error) → r ≡ call width t top → PushesAsAnswer r mid new → TakesAnswer on_answer (BaseTypeAnswer t) x new
    turns (Ok v) e h = turns_ok v e h
    turns (Err error) e h = turns_err error e h
