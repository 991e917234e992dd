-- A fresh evaluation that meets a refusal after its first request is answered.
use Rattle.std.proofs.Common.{◌≡◌, ap, refl, sym, subst, ◌∙◌, List, [], ◌∷◌, Some}
use Rattle.dwarf_base.specs.declared.errors.Error.TheVariants.{StackFull}
use Rattle.dwarf_base.specs.Reads.{Text}
use Rattle.dwarf_meaning.specs.Requests.{Request, Answer}
use Rattle.dwarf_meaning.specs.Run.{Position, most_operations}
use Rattle.dwarf_meaning.specs.Meaning.{Outcome, RequestOutcome, FaultOutcome, meaning}
use Rattle.dwarf_meaning.specs.Rest.{State, FaultStatus}
use Rattle.dwarf_meaning.specs.Steps.{Log, RequestReply, FaultReply, reply, inputs_after, Awaits}
use Rattle.dwarf_meaning.specs.Refusals.{Refusal, MayPick}
use Rattle.dwarf_meaning.specs.Inputs.{fresh_state}
use Rattle.dwarf_meaning.specs.RowWords.{no_limits, dwarf4, unset, inputs_of}
use Rattle.dwarf_laws.specs.LawRows.{started_steps}
use Rattle.dwarf_replay.specs.Replays.{StandsAt}
use Rattle.dwarf_expr.specs.Twins.{DoesAllWith}

module _ (refusal : Refusal) (may : MayPick no_limits refusal) (text : Text) (answer : Answer) where
  log_once : Log
  log_once = record { now = unset; first = Some unset; inputs = inputs_of unset (answer ∷ []) }

  abbrev full : State
  full = record (fresh_state dwarf4 text) { status = FaultStatus StackFull }

  pub refused_once : (request : Request) (positions : List Position) → Awaits answer (Some (RequestOutcome request positions))
      → meaning dwarf4 refusal text unset [] ≡ RequestOutcome request positions
      → meaning dwarf4 refusal text unset (inputs_of unset (answer ∷ [])) ≡ FaultOutcome StackFull
      → (new : State) × DoesAllWith refusal (fresh_state dwarf4 text) (started_steps (answer ∷ []))
      (RequestReply request ∷ FaultReply StackFull ∷ []) new
  unfolding log_once most_operations
  refused_once request positions a e f = (
    full,
    (
      record {
        refusal = refusal;
        may = may;
        log = log_once;
        are_done = record {
          allowed = (tt, (subst (λ (o : Outcome). Awaits answer (Some o)) (sym e) a, tt));
          replies_are =
              sym (ap (λ (o : Outcome). reply o ∷ reply (meaning dwarf4 refusal text unset (inputs_after unset [] answer (Some o))) ∷ []) e
              ∙ ap (λ (o : Outcome). RequestReply request ∷ reply o ∷ []) f);
          log_is = ap (λ (o : Outcome). record log_once { inputs = inputs_after unset [] answer (Some o) }) e;
        };
        stands = subst (λ (o : Outcome). StandsAt log_once full (Some o)) (sym f) refl;
      },
      refl,
    ),
  )
