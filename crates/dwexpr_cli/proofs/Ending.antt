-- What the program ends with, by what its parts end with, and of an evaluation that was replayed.
use Rattle.std.proofs.Common.{◌≡◌, inl, inr, ℕ, List, [], ◌++◌, append-nil, Option, Some, None, Result, Err, refl, sym, ◌∙◌, ap, subst, ◌⊎◌, zero, suc, ◌∷◌, take, length, ◌<◌, ◌≤◌, ◌^◌, arith}
use Rattle.std.specs.Prelude.{IfOk, IsSome, Ok, slice_get}
use Rattle.dwexpr_cli.specs.Program.{EndsInvocation, EvaluatesInput}
use Rattle.dwarf_base.specs.declared.common.Encoding.{Encoding}
use Rattle.dwexpr_cli.specs.declared.words.BadWords.{BadWords}
use Rattle.dwexpr_cli.specs.Endings.{Ending, no_memory, misplaced_step}
use Rattle.dwexpr_cli.specs.Words.{Invocation}
use Rattle.std.proofs.lemmas.List.{append_assoc, append_cancel_left, length-map, take_all}
use Rattle.std.proofs.lemmas.Option.{slice_get_within, slice_get_past}
use Rattle.dwarf_replay.specs.Stepping.{step_of}
use Rattle.dwarf_base.specs.Faults.{Fault}
use Rattle.dwarf_base.specs.Reads.{Text}
use Rattle.dwarf_meaning.specs.Requests.{Request}
use Rattle.dwarf_meaning.specs.Run.{Position}
use Rattle.dwarf_meaning.specs.Meaning.{Outcome, RequestOutcome, FaultOutcome, CompleteOutcome}
use Rattle.dwarf_meaning.specs.Rest.{State, Status, RequestStatus, CompleteStatus, FaultStatus}
use Rattle.dwarf_meaning.specs.Inputs.{fresh_state}
use Rattle.dwarf_meaning.specs.Stores.{Setup}
use Rattle.dwarf_meaning.specs.Refusals.{Refusal}
use Rattle.dwarf_meaning.specs.Steps as meaning
use Rattle.dwarf_meaning.specs.Steps.{Allows, AllAllowed, AreDone, Reply, Log, after_step, after_steps, outcome_of, replies_of, step_replies, empty_log}
use Rattle.dwarf_replay.specs.Replays.{IsInRequest, IsInFault, Replays, StandsAt, replies_in, reply_in, steps_of, log_at}
use Rattle.dwarf_replay.specs.declared.steps.Answer.{Answer}
use Rattle.dwarf_replay.specs.declared.steps.Replayed.{Replayed}
use Rattle.dwarf_replay.specs.declared.steps.Replayed.TheVariants as replayed
use Rattle.dwarf_replay.specs.declared.steps.Step.{Step}
use Rattle.dwexpr_cli.specs.Evaluates.{EndsAt, IsCall, all_done, not_allowed, without_memory, EvaluatesSteps, EvaluatesSaid, after_replies, outcome_ending}
use Rattle.dwexpr_cli.specs.inner.Readings.{bad_invocation, bad_steps, unread_input, ReadsInput, ReadsSteps}
use Rattle.dwexpr_cli.specs.declared.hexadecimal.InputFault.{InputFault}
use Rattle.dwexpr_cli.specs.declared.hexadecimal.InputFault.TheVariants as fault
use Rattle.dwexpr_cli.specs.declared.steps.BadLine.{BadLine}
use Rattle.dwexpr_cli.specs.inner.Outputs.{HasLine, WritesEnding, ending_of, state_ending}

-- ---- words

ends_without_memory : (left : Option (List ℕ)) (asked : Option Invocation) → IsSome asked → EndsInvocation asked left no_memory
ends_without_memory left (Some asked) some = inr refl
ends_without_memory left None some = cc some

pub ends_refused : {X : Type 0} (view : X → Invocation) (left : Option (List ℕ)) (asked : Option Invocation) (refused : InputFault BadWords)
    → ReadsInput view asked (Err refused) → EndsInvocation asked left (bad_invocation refused)
ends_refused view left asked (fault.Bad words) e = rw e refl
ends_refused view left asked fault.NoMemory some = ends_without_memory left asked some

-- ---- the input

pub ends_unread : {E : Type 0} (encoding : Encoding) (text : Text) (left : Option (List ℕ)) (refused : InputFault E)
    → EvaluatesInput encoding text left (unread_input refused)
ends_unread encoding text left (fault.Bad error) = inr (inl refl)
ends_unread encoding text left fault.NoMemory = inr (inr refl)

-- ---- an evaluation

asking_ending : (request : Request) (positions : List Position) (x : State) (status : Status) → IsInRequest request positions x status
    → state_ending x status ≡ record { text = []; status = 0 }
asking_ending request positions x (RequestStatus open_request on_answer) h = refl
asking_ending request positions x _ h = absurd h

stopped_ending : (fault : Fault) (x : State) (status : Status) → IsInFault fault status
    → state_ending x status ≡ record { text = []; status = 1 }
stopped_ending fault x (FaultStatus error) h = refl
stopped_ending fault x _ h = absurd h

stands_ending : (log : Log) (x : State) (outcome : Option Outcome) → StandsAt log x outcome
    → state_ending x x.status ≡ outcome_ending outcome
stands_ending log x None h = ap (state_ending x) h.0
stands_ending log x (Some (RequestOutcome request positions)) h = asking_ending request positions x x.status h.0
stands_ending log x (Some (FaultOutcome fault)) h = stopped_ending fault x x.status h
stands_ending log x (Some (CompleteOutcome pieces value)) h = ap (state_ending x) h.0 ∙ ap (λ z. state_ending (record x { store = record x.store { pieces = z } }) (CompleteStatus value)) h.1

-- of steps that are all allowed up to one, those before it are, and then that one, whose replies are the last
next_at : (setup : Setup) (refusal : Refusal) (text : Text) (log : Log) (steps : List meaning.Step) (index : ℕ) (step : meaning.Step)
    → slice_get steps index ≡ Some step → AllAllowed setup refusal text log (take (suc index) steps)
    → AllAllowed setup refusal text log (take index steps)
    × Allows (after_steps setup refusal text log (take index steps)) (outcome_of setup refusal text (after_steps setup refusal text log (take index steps))) step
    × ((outcome : Option Outcome)
    × (replies_of setup refusal text log (take (suc index) steps) ≡ replies_of setup refusal text log (take index steps) ++ step_replies step outcome))
next_at setup refusal text log [] index step e h = absurd (cc)
next_at setup refusal text log (first ∷ steps) zero step e h =
    let same : first ≡ step = cc in
    let outcome = outcome_of setup refusal text (after_step setup refusal text log first) in
    (tt, subst (λ z. Allows log (outcome_of setup refusal text log) z) same h.0, (outcome, append-nil _ ∙ ap (λ z. step_replies z outcome) same))
next_at setup refusal text log (first ∷ steps) (suc index) step e h =
    let later = next_at setup refusal text (after_step setup refusal text log first) steps index step e h.1 in
    let replied = step_replies first (outcome_of setup refusal text (after_step setup refusal text log first)) in
    ((h.0, later.0), later.1, (later.2.0, ap (λ z. replied ++ z) later.2.1 ∙ sym (append_assoc replied _ _)))

-- a step that replies is a call
is_call : (step : meaning.Step) (outcome : Option Outcome) (answer : Reply) → answer ∷ [] ≡ step_replies step outcome → IsCall step
is_call meaning.Evaluate outcome answer e = tt
is_call (meaning.Resume a) outcome answer e = tt
is_call _ outcome answer e = absurd (cc)

evaluates_to : {R O : Type 0} (text : R → Text) (number : O → ℕ) (limit : Option ℕ) (old new : State) (steps : List (Step R))
    (given : List (Answer R O)) (ended : Replayed R O) → Replays text number limit old steps given new ended
    → EvaluatesSteps old.setup old.text (log_at old) (steps_of text steps) (after_replies (replies_in text number given) (ending_of new ended))
evaluates_to text number limit old new steps given replayed.Done w =
    let all = steps_of text steps in
    record {
      refusal = w.refusal;
      index = length all;
      replies = replies_in text number given;
      now = w.log;
      done =
          subst (λ z. AreDone old.setup w.refusal old.text (log_at old) z (replies_in text number given) w.log)
          (sym (take_all (length all) all (omega arith))) w.are_done;
      last = outcome_ending (outcome_of old.setup w.refusal old.text w.log);
      ends =
          subst (λ z. EndsAt (length all) w.log (outcome_of old.setup w.refusal old.text w.log) z (outcome_ending (outcome_of old.setup w.refusal old.text w.log)))
          (sym (slice_get_past all (length all) (omega arith))) all_done;
      ending_is = ap (after_replies _) (stands_ending w.log new _ w.stands);
    }
evaluates_to text number limit old new steps given (replayed.Misplaced index) w =
    record {
      refusal = w.does_all.refusal;
      index = index;
      replies = replies_in text number given;
      now = w.does_all.log;
      done = w.does_all.are_done;
      last = misplaced_step index;
      ends =
          subst (λ z. EndsAt index w.does_all.log (outcome_of old.setup w.does_all.refusal old.text w.does_all.log) z (misplaced_step index))
          (sym w.is_next) (not_allowed w.misplaced);
      ending_is = refl;
    }
evaluates_to text number limit old new steps given (replayed.NoRoom index answer) w =
    let refusal = w.does_all.refusal in
    let now = after_steps old.setup refusal old.text (log_at old) (take index (steps_of text steps)) in
    let next = next_at old.setup refusal old.text (log_at old) (steps_of text steps) index w.inside.0 w.inside.1 w.does_all.are_done.allowed in
    let answers = append_cancel_left (replies_in text number given) _ _
    (w.does_all.are_done.replies_are ∙ next.2.1 ∙ ap (λ z. z ++ step_replies w.inside.0 next.2.0) (sym w.before)) in
    record {
      refusal = refusal;
      index = index;
      replies = replies_in text number given;
      now = now;
      done = record { allowed = next.0; replies_are = w.before; log_is = refl };
      last = no_memory;
      ends =
          subst (λ z. EndsAt index now (outcome_of old.setup refusal old.text now) z no_memory) (sym w.inside.1)
          (without_memory next.1 (is_call w.inside.0 next.2.0 (reply_in text number answer) answers));
      ending_is = refl;
    }

-- the same of an evaluation that is fresh
pub evaluates_fresh : {R O : Type 0} (text : R → Text) (number : O → ℕ) (limit : Option ℕ) (setup : Setup) (whole : Text) (old new : State)
    (steps : List (Step R)) (given : List (Answer R O)) (ended : Replayed R O) → old ≡ fresh_state setup whole
    → Replays text number limit old steps given new ended
    → EvaluatesSteps setup whole empty_log (steps_of text steps) (after_replies (replies_in text number given) (ending_of new ended))
evaluates_fresh text number limit setup whole old new steps given ended e w =
    subst (λ x. EvaluatesSteps x.setup x.text (log_at x) (steps_of text steps) (after_replies (replies_in text number given) (ending_of new ended))) e
    (evaluates_to text number limit old new steps given ended w)

pub has_line : {R O : Type 0} (text : R → Text) (number : O → ℕ) (limit : Option ℕ) (old new : State) (steps : List (Step R))
    (given : List (Answer R O)) (ended : Replayed R O) → length steps < 2 ^ 63 → Replays text number limit old steps given new ended
    → HasLine ended
has_line text number limit old new steps given (replayed.Misplaced index) few w =
    let inside = slice_get_within (steps_of text steps) index w.step w.is_next in
    omega (arith, length-map steps (step_of text), inside, few)
has_line text number limit old new steps given _ few w = tt

-- ---- statuses

status_at_most : (x : State) (status : Status) → (state_ending x status).status ≤ 2
status_at_most x (CompleteStatus value) = omega arith
status_at_most x (FaultStatus error) = omega arith
status_at_most x _ = omega arith

pub ending_at_most : {R O : Type 0} (x : State) (ended : Replayed R O) → (ending_of x ended).status ≤ 2
ending_at_most x replayed.Done = status_at_most x x.status
ending_at_most x (replayed.Misplaced index) = omega arith
ending_at_most x (replayed.NoRoom index answer) = omega arith

pub unread_at_most : {E : Type 0} (refused : InputFault E) → (unread_input refused).status ≤ 2
unread_at_most (fault.Bad error) = omega arith
unread_at_most fault.NoMemory = omega arith

pub bad_invocation_at_most : (refused : InputFault BadWords) → (bad_invocation refused).status ≤ 2
bad_invocation_at_most (fault.Bad words) = omega arith
bad_invocation_at_most fault.NoMemory = omega arith

pub bad_steps_at_most : (refused : InputFault BadLine) → (bad_steps refused).status ≤ 2
bad_steps_at_most (fault.Bad line) = omega arith
bad_steps_at_most fault.NoMemory = omega arith

-- so is one that is returned after an ending
pub at_most : {E : Type 0} (old new : Option (List ℕ)) (ending : Ending) (result : Result ℕ E) → ending.status ≤ 2
    → WritesEnding old new ending result → IfOk result (λ status. status ≤ 2)
at_most old new ending (Ok status) fits w = rw w.1 fits
at_most old new ending (Err error) fits w = tt

-- ---- what lines say

pub follows_refused : {A : Type 0} (view : A → meaning.Step) (setup : Setup) (text : Text) (said : Result (List meaning.Step) ℕ) (B : Type 0) (refused : InputFault BadLine)
    → ReadsSteps {B = B} view said (Err refused)
    → EvaluatesSaid setup text said (bad_steps refused) ⊎ (bad_steps refused ≡ no_memory)
follows_refused view setup text said B (fault.Bad number) e = inl (rw e refl)
follows_refused view setup text said B fault.NoMemory e = inr refl
