-- Each block that an evaluation gives is at some place of the texts that the caller gave.
use Rattle.std.proofs.Common.{ℕ, zero, suc, ◌≡◌, ◌+◌, ◌==◌, List, [], ◌∷◌, ◌++◌, take, length, slice_get, Option, Some, None, Result, Ok, Err, refl, sym, subst}
use Rattle.std.proofs.lemmas.Bool.{cond_both}
use Rattle.std.proofs.lemmas.Option.{slice_get_read}
use Rattle.dwarf_base.specs.Faults.{Fault}
use Rattle.dwarf_base.specs.Reads.{Text}
use Rattle.dwarf_value.specs.declared.types.Value.{Value}
use Rattle.dwarf_meaning.specs.Operations.{Operation}
use Rattle.dwarf_meaning.specs.Locations.{Location, HoldsBytes, Piece}
use Rattle.dwarf_meaning.specs.Requests as requests
use Rattle.dwarf_meaning.specs.Requests.{Request, Answer, Input}
use Rattle.dwarf_meaning.specs.Meaning.{Outcome, RequestOutcome, CompleteOutcome, First}
use Rattle.dwarf_meaning.specs.Rest.{State}
use Rattle.dwarf_meaning.specs.Run.{read}
use Rattle.dwarf_meaning.proofs.OutcomeByInputs.{outcome_from}
use Rattle.dwarf_meaning.specs.Steps.{Evaluate, InitialValue, MaxIterations, ObjectAddress, Step, Resume, Log, RequestReply, inputs_after, after, after_step, after_steps, outcome_of}
use Rattle.dwarf_meaning.specs.Stores.{Setup}
use Rattle.dwarf_meaning.specs.Refusals.{Refusal, Never}
use Rattle.dwarf_replay.specs.Replays.{log_at}
use Rattle.dwexpr_c.specs.Evaluated.{comes_of}
use Rattle.dwexpr_c.specs.CodedOperations.{block_in}
use Rattle.dwexpr_c.specs.Settings.{step_if, steps_in}
use Rattle.dwexpr_c.specs.CallerTexts.{IsAt, IsGiven, IsPlaced, AsksNowhere, HoldsNowhere, SomeNowhere}
use Rattle.dwexpr_c.specs.declared.settings.DwexprSettings.{DwexprSettings}
use Rattle.dwexpr_c.specs.declared.texts.DwexprText.{DwexprText}
use Rattle.dwexpr_c.proofs.DecodedBlocks.{block_at}
use Rattle.dwexpr_c.proofs.Carried.{OnBlock, OnRead, OnLocation, OnPieces, OnRequest, OnGiven, OnInputs, OnOutcome, Reads, meaning_holds}

record IsSomewhere (texts : List DwexprText) (block : List ℕ) : Type 0 where
  text : ℕ
  offset : ℕ
  placed : IsPlaced texts text offset block

module _ (texts : List DwexprText) where
  abbrev P : Text → Type 0
  P text = IsGiven texts text.bytes

  abbrev Q : List ℕ → Type 0
  Q block = IsSomewhere texts block

  -- ---- the block of an operation is a part of the text

  module _ (setup : Setup) (text : Text) (place : ℕ) (op : Operation) (rest : List ℕ) (is : read setup text place ≡ Ok (op, rest)) where
    somewhere : (block : List ℕ) → block_in op ≡ Some block → IsGiven texts text.bytes → IsSomewhere texts block
    somewhere block e given =
        let at = block_at setup.encoding setup.offset_bits text.is_big text.bytes place op rest block is e in
        record {
          text = given.index;
          offset = length (take place text.bytes) + length at.0;
          placed = record {
            at = given.at;
            is_there = given.is_there;
            placed = subst (λ (xs : List ℕ). IsAt xs (length (take place text.bytes) + length at.0) block) (sym given.same) at.2;
          };
        }

    on_block : (o : Option (List ℕ)) → block_in op ≡ o → IsGiven texts text.bytes → OnBlock Q o
    on_block None e given = tt
    on_block (Some block) e given = somewhere block e given

  on_read : (setup : Setup) (text : Text) (place : ℕ) (r : Result (Operation × List ℕ) Fault) → read setup text place ≡ r → IsGiven texts text.bytes → OnRead Q r
  on_read setup text place (Ok x) e given = on_block setup text place x.0 x.1 e (block_in x.0) refl given
  on_read setup text place (Err fault) e given = tt

  reads : (setup : Setup) → Reads P Q setup
  reads setup text place given = on_read setup text place (read setup text place) refl given

  -- ---- the log after the steps

  abbrev OnStep : Step → Type 0
  OnStep (Resume answer) = OnGiven P answer
  OnStep _ = Unit {0}

  abbrev OnSteps : List Step → Type 0
  OnSteps [] = Unit {0}
  OnSteps (step ∷ steps) = OnStep step × OnSteps steps

  on_append : (a b : List Step) → OnSteps a → OnSteps b → OnSteps (a ++ b)
  on_append [] b h i = i
  on_append (step ∷ a) b h i = (h.0, on_append a b h.1 i)

  on_step_if : (has : ℕ) (step : Step) → OnStep step → OnSteps (step_if has step)
  on_step_if has step h = cond_both (has == 0) _ _ OnSteps (λ e. tt) (λ e. (h, tt))

  on_settings : (settings : DwexprSettings) → OnSteps (steps_in settings)
  on_settings settings =
      let maximum = MaxIterations settings.max_iterations ∷ [] in
      let object = step_if settings.has_object_address (ObjectAddress settings.object_address) in
      let initial = step_if settings.has_initial_value (InitialValue settings.initial_value) in
      let on_object = on_step_if settings.has_object_address (ObjectAddress settings.object_address) tt in
      let on_initial = on_step_if settings.has_initial_value (InitialValue settings.initial_value) tt in
      on_append ((maximum ++ object) ++ initial) (Evaluate ∷ [])
      (on_append (maximum ++ object) initial (on_append maximum object (tt, tt) on_object) on_initial) (tt, tt)

  snoc_inputs : (inputs : List Input) (input : Input) → OnInputs P inputs → OnGiven P input.answer → OnInputs P (inputs ++ input ∷ [])
  snoc_inputs [] input h i = (i, tt)
  snoc_inputs (first ∷ inputs) input h i = (h.0, snoc_inputs inputs input h.1 i)

  on_inputs_after : (settings : First) (inputs : List Input) (answer : Answer) (o : Option Outcome) → OnInputs P inputs → OnGiven P answer → OnInputs P (inputs_after settings inputs answer o)
  on_inputs_after settings inputs answer (Some (RequestOutcome request positions)) h a = snoc_inputs inputs _ h a
  on_inputs_after settings inputs answer _ h a = h

  on_after : (log : Log) (o : Option Outcome) (step : Step) → OnInputs P log.inputs → OnStep step → OnInputs P (after log o step).inputs
  on_after log o (Resume answer) h a = on_inputs_after log.now log.inputs answer o h a
  on_after log o _ h a = h

  on_log : (setup : Setup) (refusal : Refusal) (text : Text) (log : Log) (steps : List Step) → OnInputs P log.inputs → OnSteps steps → OnInputs P (after_steps setup refusal text log steps).inputs
  on_log setup refusal text log [] h a = h
  on_log setup refusal text log (step ∷ steps) h a =
      on_log setup refusal text (after_step setup refusal text log step) steps (on_after log (outcome_of setup refusal text log) step h a.0) a.1

  -- ---- their outcome

  abbrev OnComes : Option Outcome → Type 0
  OnComes None = Unit {0}
  OnComes (Some outcome) = OnOutcome Q outcome

  on_outcome : (setup : Setup) (refusal : Refusal) (text : Text) (inputs : List Input) (first : Option First) → IsGiven texts text.bytes → OnInputs P inputs → OnComes (outcome_from setup refusal text inputs first)
  on_outcome setup refusal text inputs None given h = tt
  on_outcome setup refusal text inputs (Some first) given h = meaning_holds P Q setup refusal text first inputs (reads setup) given h

  module _ (first : State) (given : IsGiven texts first.text.bytes) (settings : DwexprSettings) where
    comes : OnComes (comes_of first (steps_in settings))
    comes =
        let log = after_steps first.setup Never first.text (log_at first) (steps_in settings) in
        on_outcome first.setup Never first.text log.inputs log.first given
        (on_log first.setup Never first.text (log_at first) (steps_in settings) tt (on_settings settings))

    request_somewhere : (request : Request) → OnRequest Q request → AsksNowhere texts (RequestReply request) → ⊥
    request_somewhere (requests.RequiresEntryValue text) h n = n h.text h.offset h.placed
    request_somewhere _ h n = n

    -- a block that is asked about is somewhere
    pub asks_somewhere : (request : Request) (positions : List _) → comes_of first (steps_in settings) ≡ Some (RequestOutcome request positions) → AsksNowhere texts (RequestReply request) → ⊥
    asks_somewhere request positions e n = request_somewhere request (subst OnComes e comes) n

    location_somewhere : (location : Location) → OnLocation Q location → HoldsNowhere texts location → ⊥
    location_somewhere (HoldsBytes text) h n = n h.text h.offset h.placed
    location_somewhere _ h n = n

    at_piece : (pieces : List Piece) (index : ℕ) (piece : Piece) → slice_get pieces index ≡ Some piece → OnPieces Q pieces → OnLocation Q piece.location
    at_piece [] index piece e h = absurd cc
    at_piece (other ∷ pieces) zero piece e h = let same : other ≡ piece = cc in subst (λ (p : Piece). OnLocation Q p.location) same h.0
    at_piece (other ∷ pieces) (suc index) piece e h = at_piece pieces index piece e h.1

    -- the bytes of a piece are
    pub pieces_somewhere : (pieces : List Piece) (value : Option Value) → comes_of first (steps_in settings) ≡ Some (CompleteOutcome pieces value) → SomeNowhere texts pieces → ⊥
    pieces_somewhere pieces value e some =
        let there : slice_get pieces some.0 ≡ Some some.1 = slice_get_read pieces (length pieces) some.0 some.1 refl some.2 (sym some.3) in
        location_somewhere some.1.location (at_piece pieces some.0 some.1 there (subst OnComes e comes)) some.4
