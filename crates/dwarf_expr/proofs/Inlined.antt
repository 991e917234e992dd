-- Two replays, of a text with a call and of the inlined text, over the law of called texts.
use Rattle.std.proofs.Common.{◌≡◌, ◌≢◌, ap, refl, sym, subst, ◌∙◌, List, [], ◌∷◌, ◌++◌, Option, Some, append_assoc}
use Rattle.dwarf_base.specs.declared.errors.Error.{Error}
use Rattle.dwarf_base.specs.Faults.{Fault}
use Rattle.dwarf_base.specs.Reads.{Text}
use Rattle.dwarf_meaning.specs.Operations.{DieReference, UnitRef}
use Rattle.dwarf_meaning.specs.Requests.{Request, LocationAnswer, Settings, Input}
use Rattle.dwarf_meaning.specs.Stores.{Setup}
use Rattle.dwarf_meaning.specs.Meaning.{Outcome, FaultOutcome, First, meaning}
use Rattle.dwarf_meaning.specs.Rest.{State, FaultStatus}
use Rattle.dwarf_meaning.proofs.OutcomeByInputs.{outcome_from}
use Rattle.dwarf_meaning.specs.Steps.{Step, Evaluate, Resume, Log, Reply, outcome_of, after_steps}
use Rattle.dwarf_meaning.specs.Inputs.{fresh_state}
use Rattle.dwarf_meaning.specs.Run.{most_operations}
use Rattle.dwarf_meaning.specs.RowWords.{no_limits, dwarf4, unset}
use Rattle.dwarf_meaning.specs.Refusals.{Never}
use Rattle.dwarf_laws.specs.LawRows.{IsWorked}
use Rattle.dwarf_laws.specs.TwoRuns.{NoneIsFull}
use Rattle.dwarf_laws.specs.Inlining as inlining
use Rattle.dwarf_laws.specs.Inlining.{CallSite, outer_text, callee_text, inlined_text, in_force, with_answer, LeadsToCall, completions, requests}
use Rattle.dwarf_laws.proofs.InliningLaw.{answered, inlines}
use Rattle.dwarf_replay.specs.Replays.{log_at, StandsAt, DoesAll}
use Rattle.dwarf_expr.specs.Inlined.{MayInline, StatesEndAlike, in_request, in_completion, InlinedReplay}
use Rattle.dwarf_expr.proofs.StepLogs.{log_steps, log_steps_more, log_steps_inputs, log_steps_first, log_is, log_before, log_comes, Done, unrefused}
use Rattle.dwarf_expr.proofs.Twins.{asking_of, stopped_of, did}

-- ---- where they stand

sound_outcome : (x : State) (log : Log) (o : Option Outcome) → StandsAt log x o → ((error : Error) → x.status ≢ FaultStatus error)
    → (fault : Fault) → o ≢ Some (FaultOutcome fault)
sound_outcome x log o h k fault e =
    let s = stopped_of fault x.status (subst (λ (p : Option Outcome). StandsAt log x p) e h) in k s.0 s.1

end_alike : (x y : State) (log log' : Log) (o o' : Outcome) → inlining.EndAlike o o' → StandsAt log x (Some o)
    → StandsAt log' y (Some o') → StatesEndAlike x y
end_alike x y log log' o o' completions h k = in_completion _ h.0 k.0 (h.1 ∙ sym k.1)
end_alike x y log log' o o' (requests {request = request} {positions = positions} {others = others}) h k =
    let first = asking_of x request positions x.status h.0 in
    let second = asking_of y request others y.status k.0 in
    in_request request first.0 second.0 first.1 second.1

no_fault : (o o' : Outcome) → inlining.EndAlike o o' → (fault : Fault) → o' ≢ FaultOutcome fault
no_fault o o' completions fault e = cc
no_fault o o' requests fault e = cc

-- ---- a replay without limits in which no push was refused

done : (x : State) (steps : List Step) (replies : List Reply) (new : State) → x.setup.limits ≡ no_limits
    → DoesAll x steps replies new → NoneIsFull replies
    → Done x.setup x.text (log_at x) steps new
done x steps replies new h k n =
    let d = did x steps k.refusal replies new (k, refl) in
    unrefused x.setup h k.refusal x.text (log_at x) steps new (λ e. cc) d.allowed (subst NoneIsFull d.replies_are n) d.stands

-- ---- the law, over plain texts

module _ (setup : Setup) (site : CallSite) (offset : DieReference) (log : Log) (start beyond : List Step) (first : First) where
  abbrev at_call : Log
  at_call = log_steps log start

  abbrev later : List Input
  later = (log_steps (record at_call { inputs = [] }) beyond).inputs

  abbrev all_steps : List Step
  all_steps = start ++ (Resume (LocationAnswer (callee_text site)) ∷ beyond)

  abbrev means_outer : Outcome
  means_outer = meaning setup Never (outer_text site) first (with_answer site first at_call.inputs later)

  abbrev means_inlined : Outcome
  means_inlined = meaning setup Never (inlined_text site) first (at_call.inputs ++ later)

  module _ (started : at_call.first ≡ Some first)
      (still : at_call.now.settings ≡ in_force first.settings at_call.inputs) where
    comes_by : (text : Text) (rest : List Step) (inputs : List Input) → (log_steps at_call rest).inputs ≡ inputs
        → outcome_of setup Never text (log_steps log (start ++ rest)) ≡ Some (meaning setup Never text first inputs)
    comes_by text rest inputs e =
        ap (λ (t : Log). outcome_of setup Never text t) (log_steps_more log start rest)
        ∙ (ap (λ (o : Option First). outcome_from setup Never text (log_steps at_call rest).inputs o)
        (log_steps_first at_call rest first started)
        ∙ ap (λ (l : List Input). Some (meaning setup Never text first l)) e)

    outer_comes : outcome_of setup Never (outer_text site) (log_steps log all_steps) ≡ Some means_outer
    outer_comes =
        comes_by (outer_text site) (Resume (LocationAnswer (callee_text site)) ∷ beyond) _
        (log_steps_inputs at_call (at_call.inputs ++ answered site at_call.now.settings ∷ []) beyond
        ∙ (append_assoc at_call.inputs (answered site at_call.now.settings ∷ []) later
        ∙ ap (λ (k : Settings). at_call.inputs ++ (answered site k ∷ later)) still))

    inlined_comes : outcome_of setup Never (inlined_text site) (log_steps log (start ++ beyond)) ≡ Some means_inlined
    inlined_comes = comes_by (inlined_text site) beyond _ (log_steps_inputs at_call at_call.inputs beyond)

    ends : (new other : State)
        → (((fault : Fault) → means_outer ≢ FaultOutcome fault) → inlining.EndAlike means_outer means_inlined)
        → Done setup (outer_text site) log all_steps new → ((error : Error) → new.status ≢ FaultStatus error)
        → Done setup (inlined_text site) log (start ++ beyond) other → StatesEndAlike new other
    ends new other law d sound d' =
        let clear = sound_outcome new (after_steps setup Never (outer_text site) log all_steps) _ d.stands sound in
        let outer_log = log_is setup Never (outer_text site) log all_steps d.allowed clear in
        let outer_is = ap (λ (t : Log). outcome_of setup Never (outer_text site) t) outer_log ∙ outer_comes in
        let alike = law (λ fault e. clear fault (outer_is ∙ ap Some e)) in
        let inlined_log =
        log_comes setup Never (inlined_text site) log (start ++ beyond) d'.allowed
        (λ fault e. no_fault means_outer means_inlined alike fault (let same = sym inlined_comes ∙ e in cc))
        in
        let inlined_is = ap (λ (t : Log). outcome_of setup Never (inlined_text site) t) inlined_log ∙ inlined_comes in
        end_alike new other (after_steps setup Never (outer_text site) log all_steps)
        (after_steps setup Never (inlined_text site) log (start ++ beyond)) means_outer means_inlined alike
        (subst (λ (o : Option Outcome). StandsAt (after_steps setup Never (outer_text site) log all_steps) new o) outer_is d.stands)
        (subst (λ (o : Option Outcome). StandsAt (after_steps setup Never (inlined_text site) log (start ++ beyond)) other
        o) inlined_is d'.stands)

pub inlined_replays : InlinedReplay
inlined_replays x y new other site offset start beyond replies given h k n sound l m =
    let first_done =
    subst (λ (t : Text). Done x.setup t (log_at x) (start ++ (Resume (LocationAnswer (callee_text site)) ∷ beyond)) new) h.x_is_outer
    (done x (start ++ (Resume (LocationAnswer (callee_text site)) ∷ beyond)) replies new h.unlimited k n)
    in
    let twin : State = record y { setup = x.setup; text = inlined_text site; store = record y.store { settings = x.store.settings } } in
    let is_twin : y ≡ twin =
    ap (λ (s : Setup). record y { setup = s }) (sym h.setups)
    ∙ (ap (λ (t : Text). record y { setup = x.setup; text = t }) h.y_is_inlined
    ∙ ap (λ (k : Settings). record twin { store = record y.store { settings = k } }) (sym h.settings))
    in
    let second_done =
    done twin (start ++ beyond) given other h.unlimited (subst (λ (s : State). DoesAll s (start ++ beyond) given other) is_twin l) m
    in
    let at_call : h.log ≡ log_steps (log_at x) start =
    sym h.log_is
    ∙ (ap (λ (t : Text). after_steps x.setup Never t (log_at x) start) h.x_is_outer
    ∙ log_before x.setup Never (outer_text site) (log_at x) start (Resume (LocationAnswer (callee_text site)) ∷ beyond)
    first_done.allowed (sound_outcome new (after_steps x.setup Never (outer_text site) (log_at x) (start ++ (Resume (LocationAnswer (callee_text site)) ∷ beyond))) _ first_done.stands sound))
    in
    ends x.setup site offset (log_at x) start beyond h.first
    (subst (λ (t : Log). t.first ≡ Some h.first) at_call h.is_started)
    (subst (λ (t : Log). t.now.settings ≡ in_force h.first.settings t.inputs) at_call h.still_in_force) new other
    (λ faultless. (inlines x.setup site offset h.first (log_steps (log_at x) start).inputs
    (log_steps (record (log_steps (log_at x) start) { inputs = [] }) beyond).inputs h.requests h.unlimited h.stands h.inlinable
    (subst (λ (t : Log). LeadsToCall x.setup site offset h.first t.inputs h.requests) at_call h.leads) faultless).ends)
    first_done sound second_done

-- ---- the premises, of fresh evaluations

pub may_inline : (site : CallSite) (inputs : List Input) (beyond : List Request) (outcome : Outcome) → IsWorked site [] inputs [] beyond outcome
    → MayInline (fresh_state dwarf4 (outer_text site)) (fresh_state dwarf4 (inlined_text site)) site (UnitRef 5) (Evaluate ∷ [])
unfolding most_operations
may_inline site inputs beyond outcome h =
    record {
      unlimited = h.unlimited;
      setups = refl;
      x_is_outer = refl;
      y_is_inlined = refl;
      settings = refl;
      stands = h.stands;
      inlinable = h.inlinable;
      log = record { now = unset; first = Some unset; inputs = [] };
      log_is = refl;
      first = unset;
      is_started = refl;
      requests = [];
      leads = h.leads;
      still_in_force = refl;
    }
