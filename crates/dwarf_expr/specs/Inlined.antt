-- Evaluations of two texts: one with a call, and one with the called bytes in place of the call (DWARF 5, section
-- 2.5.1.5).
use Rattle.std.specs.Prelude.{◌≡◌, ◌≢◌, List, ◌∷◌, ◌++◌, Option, Some}
use Rattle.dwarf_base.specs.declared.errors.Error.{Error}
use Rattle.dwarf_value.specs.declared.types.Value.{Value}
use Rattle.dwarf_meaning.specs.Operations.{DieReference}
use Rattle.dwarf_meaning.specs.Requests.{Request, OnAnswer, LocationAnswer}
use Rattle.dwarf_meaning.specs.Meaning.{First}
use Rattle.dwarf_meaning.specs.Rest.{State, RequestStatus, CompleteStatus, FaultStatus}
use Rattle.dwarf_meaning.specs.Steps.{Step, Resume, Log, Reply, after_steps}
use Rattle.dwarf_meaning.specs.Refusals.{Never}
use Rattle.dwarf_meaning.specs.RowWords.{no_limits}
use Rattle.dwarf_laws.specs.TwoRuns.{NoneIsFull}
use Rattle.dwarf_laws.specs.Inlining.{CallSite, outer_text, callee_text, inlined_text, in_force, StandsIn, IsInlinable, LeadsToCall}
use Rattle.dwarf_replay.specs.Replays.{log_at, DoesAll}

-- Two evaluations without limits, of the outer text and of the inlined text, with the same settings. The steps in
-- `start` lead the first one to the call. No setting was changed since its last answer, or since its start.
pub record MayInline (x y : State) (site : CallSite) (offset : DieReference) (start : List Step) : Type 0 where
  pub unlimited : x.setup.limits ≡ no_limits
  pub setups : x.setup ≡ y.setup
  pub x_is_outer : x.text ≡ outer_text site
  pub y_is_inlined : y.text ≡ inlined_text site
  pub settings : x.store.settings ≡ y.store.settings
  pub stands : StandsIn x.setup site offset
  pub inlinable : IsInlinable x.setup site
  pub log : Log
  pub log_is : after_steps x.setup Never x.text (log_at x) start ≡ log
  pub first : First
  pub is_started : log.first ≡ Some first
  pub requests : List Request
  pub leads : LeadsToCall x.setup site offset first log.inputs requests
  pub still_in_force : log.now.settings ≡ in_force first.settings log.inputs

-- both wait in the same request, or are complete with the same pieces and value
pub data StatesEndAlike (x y : State) : Type 0 where
  in_request : (request : Request) (on_answer another : OnAnswer) → x.status ≡ RequestStatus request on_answer
      → y.status ≡ RequestStatus request another → StatesEndAlike x y
  in_completion : (value : Option Value) → x.status ≡ CompleteStatus value → y.status ≡ CompleteStatus value
      → x.store.pieces ≡ y.store.pieces → StatesEndAlike x y

-- If the replay of the outer text does all steps without a fault, the replay of the inlined text does all except the
-- call's answer, and no push was refused, both evaluations end alike.
abbrev pub InlinedReplay : Type 0
InlinedReplay =
    (x y new other : State) (site : CallSite) (offset : DieReference) (start rest : List Step)
    (replies given : List Reply)
    → MayInline x y site offset start
    → DoesAll x (start ++ (Resume (LocationAnswer (callee_text site)) ∷ rest)) replies new
    → NoneIsFull replies → ((error : Error) → new.status ≢ FaultStatus error)
    → DoesAll y (start ++ rest) given other → NoneIsFull given
    → StatesEndAlike new other
