-- Calls that answer, one more step each.
use Rattle.std.proofs.Common.{ℕ, suc, ◌≡◌, ◌⊎◌, inl, inr, List, [], ◌∷◌, ◌++◌, length, Result, Err, Option, Some, None, arith, ap, ◌∙◌, sym, refl, subst, append_assoc}
use Rattle.std.proofs.lemmas.List.{append-nil, length-append}
use Rattle.dwarf_base.specs.declared.errors.Error.{Error}
use Rattle.dwarf_base.specs.Faults.{Fault, fault_of}
use Rattle.dwarf_base.specs.Reads.{Text}
use Rattle.dwarf_value.specs.declared.types.Value.{Value}
use Rattle.dwarf_meaning.specs.Requests.{Request, OnAnswer, Answer, Input, Settings}
use Rattle.dwarf_meaning.specs.Kinds.{kind_of_request, kind_of_answer}
use Rattle.dwarf_meaning.specs.Stores.{Setup}
use Rattle.dwarf_meaning.specs.Run.{Position}
use Rattle.dwarf_meaning.specs.Meaning.{IsOver, Outcome, RequestOutcome, FaultOutcome, CompleteOutcome, First, meaning}
use Rattle.dwarf_meaning.specs.Rest.{State, Status, Start, Running, RequestStatus, CompleteStatus, FaultStatus, Total, first_of, total, total_after}
use Rattle.std.specs.Option.{unwrap_or, IfSome}
use Rattle.dwarf_meaning.proofs.OutcomeByInputs.{outcome_from}
use Rattle.dwarf_meaning.specs.Steps.{Step, Evaluate, Resume, Log, Reply, CompleteReply, FaultReply, reply, replies, Awaits, Allows, after, outcome_of, step_replies}
use Rattle.dwarf_meaning.specs.Refusals.{Refusal, IsLater, before_inputs, MayPick, before_input}
use Rattle.dwarf_eval.specs.Evaluation.{IsReplied, Follows, IsClosed, Evaluates, Resumes, reply_of, input_of}
use Rattle.dwarf_eval.specs.Permits.{IsOpenFor}
use Rattle.dwarf_replay.specs.Stepping.{HasReplied}
use Rattle.dwarf_replay.specs.Replays.{AreDoneFrom}
use Rattle.dwarf_eval.specs.declared.op.results.EvaluationResult.{EvaluationResult}
use Rattle.dwarf_meaning.specs.Bounds.{Spends, faults_in}
use Rattle.dwarf_eval.proofs.Following.{replied_total, total_open, total_complete, total_meaning}
use Rattle.dwarf_eval.proofs.Spending.{spent_more}
use Rattle.dwarf_replay.proofs.Standings.{done_more, Holds, Unstarted, Going, Over, WentBy, Went, later_before, may_inputs, initial_count}

-- ---- calls that answer

pub some_not_none : (settings : First) → Some settings ≡ None → ⊥
some_not_none settings e = cc

reply_fault : (o : Outcome) (fault : Fault) → reply o ≡ FaultReply fault → o ≡ FaultOutcome fault
reply_fault (RequestOutcome request positions) fault e = cc
reply_fault _ fault e = cc

module _ (first : State) where
  -- what the steps come to, in a state that goes on
  pub going_outcome : (steps : List Step) (given : List Reply) (x : State) (w : Going first steps given x) (r : Refusal) → IsLater r → outcome_of first.setup (before_inputs w.taken r) first.text w.log ≡ Some (total x r []).outcome
  going_outcome steps given x w r l =
      ap (outcome_from first.setup (before_inputs w.taken r) first.text w.log.inputs) w.started
      ∙ ap Some
      (ap (meaning first.setup (before_inputs w.taken r) first.text w.settings) (sym (append-nil w.log.inputs))
      ∙ w.rest_is r [] l)

  -- a call that answered what `totals` gives leads on
  module _ (steps : List Step) (given : List Reply) (step : Step) (x new : State) (replied : Reply) (totals : Refusal → List Input → Total) (h : Follows x totals replied new) (now : Log) (n : ℕ) (settings : First) (started : now.first ≡ Some settings) (counted : length now.inputs ≡ n) (means_is : (r : Refusal) (inputs : List Input) → (totals r inputs).outcome ≡ meaning first.setup (before_inputs n r) first.text settings (now.inputs ++ inputs)) (answers_one : (o : Outcome) → step_replies step (Some o) ≡ reply o ∷ []) where
    called_outcome : (r : Refusal) → outcome_of first.setup (before_inputs n r) first.text now ≡ Some (totals r []).outcome
    called_outcome r =
        ap (outcome_from first.setup (before_inputs n r) first.text now.inputs) started
        ∙ ap Some
        (ap (meaning first.setup (before_inputs n r) first.text settings) (sym (append-nil now.inputs))
        ∙ sym (means_is r []))

    called_replies : (r : Refusal) → replied ≡ reply (totals r []).outcome → given ++ replied ∷ [] ≡ given ++ step_replies step (outcome_of first.setup (before_inputs n r) first.text now)
    called_replies r e =
        ap (λ (t : Reply). given ++ t ∷ []) e
        ∙ ap (λ (l : List Reply). given ++ l) (sym (answers_one (totals r []).outcome) ∙ ap (step_replies step) (sym (called_outcome r)))

    called_going : faults_in new.status ≡ 0 → Holds first now new → Spends (initial_count now.now.initial_value) first new → ((r : Refusal) → IsLater r → replied ≡ reply (totals r []).outcome → AreDoneFrom first (steps ++ step ∷ []) (given ++ replied ∷ []) now (before_inputs n r)) → Going first (steps ++ step ∷ []) (given ++ replied ∷ []) new
    called_going o holds spent are_done = record {
      log = now;
      taken = n;
      counted = counted;
      are_done = λ r l. are_done r l (replied_total r new replied h.status ∙ ap (λ (t : Total). reply t.outcome) (sym (h.more o r [] l)));
      settings = settings;
      started = started;
      rest_is = λ r inputs l. sym (means_is r inputs) ∙ ap (λ (t : Total). t.outcome) (h.more o r inputs l);
      holds = holds;
      spent = spent;
    }

    called_over : (error : Error) → new.status ≡ FaultStatus error → MayPick first.setup.limits (before_inputs n h.refusal) → Spends (initial_count now.now.initial_value) first new → AreDoneFrom first (steps ++ step ∷ []) (given ++ replied ∷ []) now (before_inputs n h.refusal) → Over first (steps ++ step ∷ []) (given ++ replied ∷ []) new error
    called_over error e may spent are_done = record {
      log = now;
      refusal = before_inputs n h.refusal;
      may = may;
      are_done = are_done;
      settings = settings;
      started = started;
      fails =
          ap (meaning first.setup (before_inputs n h.refusal) first.text settings) (sym (append-nil now.inputs))
          ∙ (sym (means_is h.refusal [])
          ∙ reply_fault (totals h.refusal []).outcome (fault_of error) (sym h.reply ∙ subst (IsReplied replied) e h.status));
      spent = spent;
    }

    called_by : (status : Status) → new.status ≡ status → MayPick first.setup.limits (before_inputs n h.refusal) → Holds first now new → Spends (initial_count now.now.initial_value) first new → ((r : Refusal) → (IsLater r ⊎ (r ≡ h.refusal)) → replied ≡ reply (totals r []).outcome → AreDoneFrom first (steps ++ step ∷ []) (given ++ replied ∷ []) now (before_inputs n r)) → WentBy first (steps ++ step ∷ []) (given ++ replied ∷ []) new status
    called_by (FaultStatus error) e may holds spent are_done = called_over error e may spent (are_done h.refusal (inr refl) h.reply)
    called_by (Start initial_value) e may holds spent are_done = absurd (subst (IsReplied replied) e h.status)
    called_by Running e may holds spent are_done = absurd (subst (IsReplied replied) e h.status)
    called_by _ e may holds spent are_done =
        called_going (ap faults_in e) holds spent (λ r l. are_done r (inl l))

-- ---- each call

module _ (first : State) (steps : List Step) (given : List Reply) (x new : State) where
  -- `evaluate` at the start
  starts : (replied : Reply) (initial_value : Option ℕ) → x.status ≡ Start initial_value → Unstarted first steps given x initial_value → Follows x (total x) replied new → Went first (steps ++ Evaluate ∷ []) (given ++ replied ∷ []) new
  starts replied initial_value e w h =
      let settings = w.log.now in
      let now : Log = record { now = settings; first = Some settings; inputs = w.log.inputs } in
      let settings_are : first_of x initial_value ≡ settings =
      ap (λ (v : Option ℕ). record { initial_value = v; settings = x.store.settings }) (sym w.initial)
      ∙ ap (λ (k : Settings). record { initial_value = settings.initial_value; settings = k }) w.holds.settings in
      let means_is : (r : Refusal) (inputs : List Input) → (total x r inputs).outcome ≡ meaning first.setup (before_inputs 0 r) first.text settings (now.inputs ++ inputs) = λ r inputs.
      total_meaning r x inputs initial_value e
      ∙ ap (λ (s : Setup). meaning s r x.text (first_of x initial_value) inputs) w.holds.setup
      ∙ (ap (λ (t : Text). meaning first.setup r t (first_of x initial_value) inputs) w.text
      ∙ (ap (λ (f : First). meaning first.setup r first.text f inputs) settings_are
      ∙ ap (λ (is : List Input). meaning first.setup r first.text settings (is ++ inputs)) (sym w.inputs))) in
      let unstarted : (r : Refusal) → outcome_of first.setup r first.text w.log ≡ None = λ r. ap (outcome_from first.setup r first.text w.log.inputs) w.started in
      called_by first steps given Evaluate x new replied (total x) h now 0 settings refl (ap length w.inputs) means_is (λ o. refl) new.status refl
      (subst (λ (s : Setup). MayPick s.limits h.refusal) w.holds.setup h.may)
      (record { setup = h.kept.setup ∙ w.holds.setup; settings = h.kept.settings ∙ w.holds.settings })
      (spent_more (initial_count settings.initial_value) first x new w.spent h.spends)
      (λ r l e. done_more first steps given (given ++ replied ∷ []) Evaluate r w.log now (w.are_done r)
      (subst (λ (o : Option Outcome). IfSome o IsOver) (sym (unstarted r)) tt)
      (ap (λ (f : Option First). record { now = settings; first = Some (unwrap_or f settings); inputs = w.log.inputs }) w.started)
      (called_replies first steps given Evaluate x new replied (total x) h now 0 settings refl (ap length w.inputs) means_is (λ o. refl) r e))

  begun_already : (log : Log) (settings : First) (o : Option Outcome) → log.first ≡ Some settings → after log o Evaluate ≡ log
  begun_already log settings o e =
      ap (λ (f : Option First). record { now = log.now; first = Some (unwrap_or f log.now); inputs = log.inputs }) e
      ∙ ap (λ (f : Option First). record { now = log.now; first = f; inputs = log.inputs }) (sym e)

  -- `evaluate` once it is complete
  completes_again : (value : Option Value) → x.status ≡ CompleteStatus value → Going first steps given x → Going first (steps ++ Evaluate ∷ []) (given ++ CompleteReply ∷ []) x
  completes_again value e w =
      let is : (r : Refusal) → IsLater r → outcome_of first.setup (before_inputs w.taken r) first.text w.log ≡ Some (CompleteOutcome x.store.pieces value) = λ r l.
      going_outcome first steps given x w r l ∙ ap (λ (t : Total). Some t.outcome) (total_complete r x [] value e) in
      record {
        log = w.log;
        taken = w.taken;
        counted = w.counted;
        are_done = λ r l. done_more first steps given (given ++ CompleteReply ∷ []) Evaluate (before_inputs w.taken r) w.log w.log (w.are_done r l)
            (subst (λ (o : Option Outcome). IfSome o IsOver) (sym (is r l)) tt)
            (begun_already w.log w.settings (outcome_of first.setup (before_inputs w.taken r) first.text w.log) w.started)
            (ap (λ (o : Option Outcome). given ++ replies o) (sym (is r l)));
        settings = w.settings;
        started = w.started;
        rest_is = w.rest_is;
        holds = w.holds;
        spent = w.spent;
      }

  -- a call after a fault
  fails_again : (error : Error) (step : Step) (w : Over first steps given x error) → Allows w.log (Some (FaultOutcome (fault_of error))) step → after w.log (Some (FaultOutcome (fault_of error))) step ≡ w.log → step_replies step (Some (FaultOutcome (fault_of error))) ≡ FaultReply (fault_of error) ∷ [] → Over first (steps ++ step ∷ []) (given ++ FaultReply (fault_of error) ∷ []) x error
  fails_again error step w allowed after_is replies_are =
      let is : outcome_of first.setup w.refusal first.text w.log ≡ Some (FaultOutcome (fault_of error)) =
      ap (outcome_from first.setup w.refusal first.text w.log.inputs) w.started ∙ ap Some w.fails in
      record {
        log = w.log;
        refusal = w.refusal;
        may = w.may;
        are_done = done_more first steps given (given ++ FaultReply (fault_of error) ∷ []) step w.refusal w.log w.log w.are_done
            (subst (λ (o : Option Outcome). Allows w.log o step) (sym is) allowed)
            (ap (λ (o : Option Outcome). after w.log o step) is ∙ after_is)
            (ap (λ (l : List Reply). given ++ l) (sym replies_are ∙ ap (step_replies step) (sym is)));
        settings = w.settings;
        started = w.started;
        fails = w.fails;
        spent = w.spent;
      }

  -- an answer to an open request
  goes_on : (replied : Reply) (answer : Answer) (request : Request) (on_answer : OnAnswer) → x.status ≡ RequestStatus request on_answer → kind_of_request request ≡ kind_of_answer answer → Going first steps given x → Follows x (total_after x (input_of x answer)) replied new → Went first (steps ++ Resume answer ∷ []) (given ++ replied ∷ []) new
  goes_on replied answer request on_answer e kind w h =
      let input = input_of x answer in
      let settings = w.log.now in
      let now : Log = record { now = settings; first = w.log.first; inputs = w.log.inputs ++ input ∷ [] } in
      let position : Position = record { text = x.text; place = x.place } in
      let is : (r : Refusal) → outcome_of first.setup (before_inputs w.taken (before_input r)) first.text w.log ≡ Some (RequestOutcome request (position ∷ x.callers)) = λ r.
      going_outcome first steps given x w (before_input r) (later_before r)
      ∙ ap (λ (t : Total). Some t.outcome) (total_open (before_input r) x request on_answer e) in
      let input_is : record { settings = settings.settings; answer = answer } ≡ input =
      ap (λ (k : Settings). record { settings = k; answer = answer }) (sym w.holds.settings) in
      let means_is : (r : Refusal) (inputs : List Input) → (total_after x input r inputs).outcome ≡ meaning first.setup (before_inputs (suc w.taken) r) first.text w.settings (now.inputs ++ inputs) = λ r inputs.
      sym (w.rest_is (before_input r) (input ∷ inputs) (later_before r))
      ∙ ap (meaning first.setup (before_inputs (suc w.taken) r) first.text w.settings) (sym (append_assoc w.log.inputs (input ∷ []) inputs)) in
      let lengths = length-append w.log.inputs (input ∷ []) in
      let was = w.counted in
      let counted : length now.inputs ≡ suc w.taken = omega (arith, lengths, was) in
      called_by first steps given (Resume answer) x new replied (total_after x input) h now (suc w.taken) w.settings w.started counted means_is (λ o. refl) new.status refl
      (may_inputs first.setup.limits (suc w.taken) h.refusal (subst (λ (s : Setup). MayPick s.limits h.refusal) w.holds.setup h.may))
      (record { setup = h.kept.setup ∙ w.holds.setup; settings = h.kept.settings ∙ w.holds.settings })
      (spent_more (initial_count settings.initial_value) first x new w.spent h.spends)
      (λ r l s. done_more first steps given (given ++ replied ∷ []) (Resume answer) (before_inputs (suc w.taken) r) w.log now (w.are_done (before_input r) (later_before r))
      (subst (Awaits answer) (sym (is r)) kind)
      (ap (λ (o : Option Outcome). after w.log o (Resume answer)) (is r)
      ∙ ap (λ (i : Input). record { now = settings; first = w.log.first; inputs = w.log.inputs ++ i ∷ [] }) input_is)
      (called_replies first steps given (Resume answer) x new replied (total_after x input) h now (suc w.taken) w.settings w.started counted means_is (λ o. refl) r s))

module _ {R O : Type 0} (text : R → Text) (number : O → ℕ) (first : State) (steps : List Step) (given : List Reply) (x new : State) where
  -- it replied what it had replied, and changed nothing
  stays_so : (all : List Step) (status : Status) → x.status ≡ status → (was result : Result (EvaluationResult R O) Error) → (result ≡ was) × (new ≡ x) → WentBy first all (given ++ reply_of text number was ∷ []) x status → Went first all (given ++ reply_of text number result ∷ []) new
  stays_so all status e was result h w =
      subst (Went first all (given ++ reply_of text number result ∷ [])) (sym h.1)
      (subst (λ (t : Result (EvaluationResult R O) Error). Went first all (given ++ reply_of text number t ∷ []) x) (sym h.0)
      (subst (WentBy first all (given ++ reply_of text number was ∷ []) x) (sym e) w))

  evaluates : (status : Status) → x.status ≡ status → (result : Result (EvaluationResult R O) Error) → WentBy first steps given x status → Evaluates text number x new result status → IsClosed status → Went first (steps ++ Evaluate ∷ []) (given ++ reply_of text number result ∷ []) new
  evaluates (Start initial_value) e result w h c = starts first steps given x new (reply_of text number result) initial_value e w h
  evaluates (CompleteStatus value) e result w h c = stays_so (steps ++ Evaluate ∷ []) (CompleteStatus value) e _ result h (completes_again first steps given x new value e w)
  evaluates (FaultStatus error) e result w h c =
      stays_so (steps ++ Evaluate ∷ []) (FaultStatus error) e (Err error) result h
      (fails_again first steps given x new error Evaluate w tt (begun_already first steps given x new w.log w.settings (Some (FaultOutcome (fault_of error))) w.started) refl)
  evaluates (RequestStatus request on_answer) e result w h c = absurd c
  evaluates Running e result w h c = absurd w

  resumes : (status : Status) → x.status ≡ status → (answer : Answer) (result : Result (EvaluationResult R O) Error) → WentBy first steps given x status → Resumes text number (input_of x answer) x new result status → IsOpenFor (kind_of_answer answer) status → Went first (steps ++ Resume answer ∷ []) (given ++ reply_of text number result ∷ []) new
  resumes (RequestStatus request on_answer) e answer result w h k = goes_on first steps given x new (reply_of text number result) answer request on_answer e k w h
  resumes (FaultStatus error) e answer result w h k = stays_so (steps ++ Resume answer ∷ []) (FaultStatus error) e (Err error) result h (fails_again first steps given x new error (Resume answer) w tt refl refl)
  resumes _ e answer result w h k = absurd k

  pub called_went_on : (step : Step) (result : Result (EvaluationResult R O) Error) → HasReplied text number step x new result → Went first steps given x → Went first (steps ++ step ∷ []) (given ++ reply_of text number result ∷ []) new
  called_went_on Evaluate result h w = evaluates x.status refl result w h.1 h.0
  called_went_on (Resume answer) result h w = resumes x.status refl answer result w h.1 h.0
  called_went_on _ result h w = absurd h
