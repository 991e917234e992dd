-- The texts that are open in a request are the text that is run and callees, which were answered.
use Rattle.std.proofs.Common.{ℕ, zero, suc, ◌≡◌, ◌<◌, List, [], ◌∷◌, length, Option, Some, None, Result, Ok, Err, arith, refl, sym, subst, ◌==◌}
use Rattle.std.specs.Prelude.{Any}
use Rattle.std.proofs.lemmas.Bool.{cond_both}
use Rattle.dwarf_base.specs.Faults.{Fault}
use Rattle.dwarf_base.specs.Reads.{Text}
use Rattle.dwarf_value.specs.declared.types.Value.{Value}
use Rattle.dwarf_meaning.specs.Operations.{Operation}
use Rattle.dwarf_meaning.specs.Requests.{Request, OnAnswer, LocationAnswer, Input}
use Rattle.dwarf_meaning.specs.Kinds.{kind_of_request, kind_of_answer, is_same_kind}
use Rattle.dwarf_meaning.specs.Acts.{Act, Use, PushesAnswer, Calls, FaultUse, use_of}
use Rattle.dwarf_meaning.specs.Stores.{Setup, address_bits, Store, Last, Pushed, Called, Located, push_value, push_caller, Next, Goes, RequestNext, FaultNext}
use Rattle.dwarf_meaning.specs.Run.{Position, End, CompleteEnd, RequestEnd, FaultEnd, Course, Continues, return_to_caller, after_push, enter_callee, run_callee, after_answer, with_input, await_answer, after_operation, read, can_count, count_one, do_operation, turn_counted, counted_act, located_act, turn_by, turn, out_of_turns, run_for, enough_turns, run}
use Rattle.dwarf_meaning.specs.Meaning.{completion_of, has_pieces, finish_value, finish_by, First, fresh_store, with_initial, outcome_of_end, course_of, meaning}
use Rattle.dwarf_meaning.specs.RunLaws.{IsCallee, Open, alone, calling, OutcomeOpen}
use Rattle.dwarf_meaning.specs.Refusals.{Refusal}
use Rattle.dwarf_meaning.proofs.Choices.{top_both}
use Rattle.dwarf_meaning.proofs.Effects.{IsUseOf, use_is}

-- one of the answers is this text
abbrev IsAnswered : Text → List Input → Type 0
IsAnswered text inputs = Any (λ (input : Input). input.answer ≡ LocationAnswer text) inputs

answered_here : (text : Text) (input : Input) (inputs : List Input) → input.answer ≡ LocationAnswer text → IsAnswered text (input ∷ inputs)
answered_here text input inputs e = (0, input, omega arith, refl, e)

answered_later : (text : Text) (input : Input) (inputs : List Input) → IsAnswered text inputs → IsAnswered text (input ∷ inputs)
answered_later text input inputs a = (suc a.0, a.1, omega (arith, a.2), a.3, a.4)

-- the answers of these inputs are among all of them
abbrev Known : (all : List Input) → List Input → Type 0
Known all [] = Unit {0}
Known all (input ∷ inputs) = ((text : Text) → input.answer ≡ LocationAnswer text → IsAnswered text all) × Known all inputs

known_within : (all inputs : List Input) → ((text : Text) → IsAnswered text inputs → IsAnswered text all) → Known all inputs
known_within all [] h = tt
known_within all (input ∷ inputs) h = ((λ text e. h text (answered_here text input inputs e)), known_within all inputs (λ text i. h text (answered_later text input inputs i)))

known_all : (all : List Input) → Known all all
known_all all = known_within all all (λ text h. h)

module _ (all : List Input) where
  abbrev Ends : Text → End → Type 0
  Ends text (CompleteEnd s left) = Known all left
  Ends text (RequestEnd request positions left) = Open all text positions
  Ends text (FaultEnd fault) = Unit {0}

  abbrev Opens : Continues → Type 0
  Opens go = (text : Text) (place depth : ℕ) (s : Store) (inputs : List Input) → Known all inputs → Ends text (go text place depth s inputs).end

  module _ (go : Continues) (opens : Opens go) where
    opens_back : (position : Position) (callee : Text) (depth : ℕ) (course : Course) (end : End) → IsCallee all callee → Ends callee end → Ends position.text (return_to_caller go position depth course end).end
    opens_back position callee depth course (CompleteEnd s left) c h = opens position.text position.place depth s left h
    opens_back position callee depth course (RequestEnd request positions left) c h = calling position callee positions c h
    opens_back position callee depth course (FaultEnd fault) c h = tt

    opens_resumed : (position : Position) (depth : ℕ) (inputs : List Input) (r : Result Store Fault) → Known all inputs → Ends position.text (after_push go position depth inputs r).end
    opens_resumed position depth inputs (Ok s) k = opens position.text position.place depth s inputs k
    opens_resumed position depth inputs (Err fault) k = tt

    opens_entered : (position : Position) (depth : ℕ) (callee : Text) (inputs : List Input) (r : Result Store Fault) → IsCallee all callee → Known all inputs → Ends position.text (enter_callee go position depth callee inputs r).end
    opens_entered position depth callee inputs (Ok s) c k =
        let course = go callee 0 (suc depth) s inputs in opens_back position callee depth course course.end c (opens callee 0 (suc depth) s inputs k)
    opens_entered position depth callee inputs (Err fault) c k = tt

    opens_called : (setup : Setup) (position : Position) (depth : ℕ) (callee : Text) (bytes : List ℕ) (s : Store) (inputs : List Input) → callee.bytes ≡ bytes → IsAnswered callee all → Known all inputs → Ends position.text (run_callee go setup position depth callee bytes s inputs).end
    opens_called setup position depth callee [] s inputs e a k = opens position.text position.place depth (record s { last = Called }) inputs k
    opens_called setup position depth callee (byte ∷ bytes) s inputs e a k =
        opens_entered position depth callee inputs (push_caller setup depth s)
        (record { answered = a; some_bytes = subst (λ (bs : List ℕ). 0 < length bs) (sym e) (omega arith) }) k

    opens_used : (setup : Setup) (position : Position) (depth : ℕ) (input : Input) (u : Use) (s : Store) (inputs : List Input) → IsUseOf input.answer (length s.values) u → Known all (input ∷ inputs) → Ends position.text (after_answer go setup position depth u s inputs).end
    opens_used setup position depth input (PushesAnswer rest value) s inputs c k = opens_resumed position depth inputs (push_value setup value (record s { values = rest; last = Pushed })) k.1
    opens_used setup position depth input (Calls callee) s inputs e k = opens_called setup position depth callee callee.bytes s inputs refl (k.0 callee e) k.1
    opens_used setup position depth input (FaultUse fault) s inputs c k = tt

    opens_asked : (setup : Setup) (position : Position) (depth : ℕ) (request : Request) (on_answer : OnAnswer) (s : Store) (inputs : List Input) → Known all inputs → Ends position.text (await_answer go setup position depth request on_answer s inputs).end
    opens_asked setup position depth request on_answer s [] k = alone position
    opens_asked setup position depth request on_answer s (input ∷ inputs) k =
        cond_both (is_same_kind (kind_of_request request) (kind_of_answer input.answer)) _ _ (λ (c : Course). Ends position.text c.end)
        (λ fits. opens_used setup position depth input (use_of (address_bits setup) on_answer input.answer s.values) (with_input input s) inputs
        (use_is (address_bits setup) on_answer input.answer s.values) k)
        (λ other. alone position)

    opens_led : (setup : Setup) (text : Text) (depth place : ℕ) (inputs : List Input) (next : Next) → Known all inputs → Ends text (after_operation go setup text depth place inputs next).end
    opens_led setup text depth place inputs (Goes to s) k = opens text to depth s inputs k
    opens_led setup text depth place inputs (RequestNext request on_answer s) k = opens_asked setup (record { text = text; place = place }) depth request on_answer s inputs k
    opens_led setup text depth place inputs (FaultNext fault) k = tt

    opens_does : (setup : Setup) (text : Text) (depth : ℕ) (s : Store) (inputs : List Input) (act_at : ℕ → Operation → Act) (r : Result (Operation × List ℕ) Fault) → Known all inputs → Ends text (do_operation go setup text depth s inputs act_at r).end
    opens_does setup text depth s inputs act_at (Ok x) k = opens_led setup text depth _ inputs _ k
    opens_does setup text depth s inputs act_at (Err fault) k = tt

    opens_counts : (setup : Setup) (text : Text) (place depth : ℕ) (s : Store) (inputs : List Input) → Known all inputs → Ends text (turn_counted go setup text place depth s inputs).end
    opens_counts setup text place depth s inputs k =
        cond_both (can_count s) _ _ (λ (c : Course). Ends text c.end) (λ can. opens_does setup text depth (count_one s) inputs (counted_act setup s) (read setup text place) k) (λ e. tt)

    opens_by : (setup : Setup) (text : Text) (place depth : ℕ) (s : Store) (inputs : List Input) (last : Last) → Known all inputs → Ends text (turn_by go setup text place depth s inputs last).end
    opens_by setup text place depth s inputs (Located location) k = opens_does setup text depth s inputs (located_act location s) (read setup text place) k
    opens_by setup text place depth s inputs last k = opens_counts setup text place depth s inputs k

    opens_turn : (setup : Setup) → Opens (turn go setup)
    opens_turn setup text place depth s inputs k =
        cond_both (place == length text.bytes) _ _ (λ (c : Course). Ends text c.end) (λ e. k) (λ e. opens_by setup text place depth s inputs s.last k)

  opens_run_for : (turns : ℕ) (setup : Setup) → Opens (run_for turns setup)
  unfolding run_for
  opens_run_for zero setup = opens_turn out_of_turns (λ text place depth s inputs k. tt) setup
  opens_run_for (suc turns) setup = opens_turn (run_for turns setup) (opens_run_for turns setup) setup

  -- at a request the open texts are the text and callees
  abbrev pub EndOpen : Text → End → Type 0
  EndOpen text (RequestEnd request positions left) = Open all text positions
  EndOpen text _ = Unit {0}

  end_open : (text : Text) (end : End) → Ends text end → EndOpen text end
  end_open text (RequestEnd request positions left) h = h
  end_open text end h = tt

-- ---- the whole

-- the end of the outermost text asks nothing
module _ (inputs : List Input) (text : Text) where
  completed_open : (value : Option Value) (r : Result Store Fault) → OutcomeOpen inputs text (completion_of value r)
  completed_open value (Ok s) = tt
  completed_open value (Err fault) = tt

  value_open : (setup : Setup) (s : Store) → OutcomeOpen inputs text (finish_value setup s)
  value_open setup s = top_both (OutcomeOpen inputs text) s.values _ _ tt (λ x rest e. completed_open (Some x) _)

  finish_open : (setup : Setup) (s : Store) (last : Last) → OutcomeOpen inputs text (finish_by setup s last)
  finish_open setup s (Located location) = cond_both (has_pieces s.pieces) _ _ (OutcomeOpen inputs text) (λ e. tt) (λ e. completed_open None _)
  finish_open setup s last = cond_both (has_pieces s.pieces) _ _ (OutcomeOpen inputs text) (λ e. tt) (λ e. value_open setup s)

  ended_open : (setup : Setup) (end : End) → Ends inputs text end → OutcomeOpen inputs text (outcome_of_end setup end)
  ended_open setup (CompleteEnd s left) h = finish_open setup s s.last
  ended_open setup (RequestEnd request positions left) h = h
  ended_open setup (FaultEnd fault) h = tt

pub run_open : (setup : Setup) (text : Text) (place depth : ℕ) (s : Store) (inputs : List Input) → EndOpen inputs text (run setup text place depth s inputs).end
run_open setup text place depth s inputs = end_open inputs text _ (opens_run_for inputs enough_turns setup text place depth s inputs (known_all inputs))

pub run_opens : (setup : Setup) (text : Text) (place depth : ℕ) (s : Store) (inputs : List Input) → OutcomeOpen inputs text (outcome_of_end setup (run setup text place depth s inputs).end)
run_opens setup text place depth s inputs = ended_open inputs text setup _ (opens_run_for inputs enough_turns setup text place depth s inputs (known_all inputs))

pub meaning_open : (setup : Setup) (refusal : Refusal) (text : Text) (first : First) (inputs : List Input) → OutcomeOpen inputs text (meaning setup refusal text first inputs)
unfolding meaning
meaning_open setup refusal text first inputs =
    ended_open inputs text setup (course_of setup refusal text first inputs).end
    (opens_resumed inputs (run setup) (opens_run_for inputs enough_turns setup) (record { text = text; place = 0 }) 0 inputs (with_initial setup first.initial_value (fresh_store first refusal)) (known_all inputs))
