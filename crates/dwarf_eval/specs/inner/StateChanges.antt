-- What the functions inside an evaluation do to its state. Only contracts of private functions cite this file.
use Rattle.std.specs.Prelude.{ℕ, zero, suc, ◌+◌, ◌-◌, ◌*◌, ◌<◌, ◌≤◌, ◌≡◌, Bool, true, false, List, [], ◌∷◌, Option, Some, None, Result, Ok, Err, length}
use Rattle.dwarf_base.specs.declared.errors.Error.{Error}
use Rattle.dwarf_base.specs.declared.errors.Error.TheVariants.{BadBranchTarget, InvalidExpressionTerminator, NotEnoughStackItems, TooManyIterations}
use Rattle.dwarf_base.specs.Faults.{Fault, fault_of}
use Rattle.dwarf_base.specs.Reads.{Text}
use Rattle.dwarf_value.specs.declared.types.Value.{Value}
use Rattle.dwarf_value.specs.Values.{UnaryOperator, BinaryOperator, to_u64_of, unary_of, binary_of, width_of}
use Rattle.dwarf_meaning.specs.Operations.{Operation}
use Rattle.dwarf_meaning.specs.Operations as operation
use Rattle.dwarf_meaning.specs.Locations.{Location, Piece, sized_piece}
use Rattle.dwarf_meaning.specs.Requests.{Request, OnAnswer, Answer, Input}
use Rattle.dwarf_meaning.specs.Acts.{Act, act, Use, use_of}
use Rattle.dwarf_meaning.specs.RunLaws.{waits_of}
use Rattle.dwarf_meaning.specs.Stores.{address_bits, Store, Last, Plain, Pieced, Pushed, Located, push_value, push_piece, push_caller, Next, Goes, RequestNext, FaultNext, do_act}
use Rattle.dwarf_meaning.specs.Run.{Position, after_answer, can_count, count_one, read, most_operations, run}
use Rattle.dwarf_meaning.specs.Meaning.{Outcome, FaultOutcome, CompleteOutcome, completion_of}
use Rattle.dwarf_meaning.specs.Rest.{State, Status, Start, Running, RequestStatus, CompleteStatus, FaultStatus, total_of_course, with_refusal}
pub use Rattle.dwarf_meaning.specs.Rest.{Total, total, total_after}
use Rattle.dwarf_meaning.specs.Refusals.{Limits, Refusal, Never, After, MayPick}
use Rattle.dwarf_meaning.specs.Bounds.{Spends, calls_left}
use Rattle.dwarf_meaning.specs.Inputs.{Keeps, with_status}

-- ---- steps

-- the refusal before a push on a list without a limit
abbrev pub before_push : Refusal → Refusal
before_push Never = Never
before_push (After zero pushes) = After zero (suc pushes)
before_push (After (suc inputs) pushes) = After (suc inputs) pushes

-- the refusal before this many such pushes
abbrev pub before_pushes : ℕ → Refusal → Refusal
before_pushes zero refusal = refusal
before_pushes (suc pushes) refusal = before_push (before_pushes pushes refusal)

-- f of the old store is g of the new one, which some pushes led to
pub record StoreSteps {A : Type 0} (f : Store → A) (old : Store) (g : Store → A) (new : Store) : Type 0 where
  pub pushes : ℕ
  pub same : (r : Refusal) → f (with_refusal (before_pushes pushes r) old) ≡ g (with_refusal r new)

-- f gives this for some refusal
pub record MayGive {A : Type 0} (limits : Limits) (f : Store → A) (old : Store) (a : A) : Type 0 where
  pub refusal : Refusal
  pub may : MayPick limits refusal
  pub same : f (with_refusal refusal old) ≡ a

abbrev pub with_store : Store → State → State
with_store s x = record x { store = s }

abbrev pub with_values : List Value → State → State
with_values values x = record x { store = record x.store { values = values } }

abbrev pub with_last : Last → State → State
with_last last x = record x { store = record x.store { last = last } }

abbrev pub with_place : ℕ → State → State
with_place place x = record x { place = place }

-- The setup, the settings, the text, the number of callers and the pieces stay. Nothing is counted or decoded, and at
-- most this many values are added.
pub record Stays (more : ℕ) (old new : State) : Type 0 where
  pub kept : Keeps old new
  pub text : new.text ≡ old.text
  pub callers : length new.callers ≡ length old.callers
  pub count : new.store.count ≡ old.store.count
  pub decodings : new.decodings ≡ old.decodings
  pub pieces : new.store.pieces ≡ old.store.pieces
  pub items : length new.store.values + length new.store.pieces
      ≤ length old.store.values + length old.store.pieces + more

-- f was done to the store, and nothing else changed
pub record ChangesStoreBy (f : Store → Result Store Fault) (old new : State) : Type 0 where
  pub steps : StoreSteps f old.store Ok new.store
  pub alone : new ≡ with_store new.store old

-- f gives a fault for some refusal, and the state keeps it
pub record Refused (more : ℕ) (f : Store → Result Store Fault) (old new : State) : Type 0 where
  pub error : Error
  pub failed : new.status ≡ FaultStatus error
  pub gets : MayGive old.setup.limits f old.store (Err (fault_of error))
  pub stays : Stays more old new

-- f was done, or the state keeps its fault
abbrev pub TriesChange : (more : ℕ) → (Store → Result Store Fault) → State → State → Bool → Type 0
TriesChange more f old new true = ChangesStoreBy f old new
TriesChange more f old new false = Refused more f old new

abbrev pub HasTriedChange : (more : ℕ) → (Store → Result Store Fault) → State → State → Type 0
HasTriedChange more f old new = (done : Bool) × TriesChange more f old new done

-- the value of a plain operation was pushed, or the state keeps the fault
abbrev pub PushesPlain : Value → State → State → Type 0
PushesPlain value old new = HasTriedChange 0 (λ s. push_value old.setup value (record s { last = Plain })) old new

-- the value that a plain operation computed was pushed, or the state keeps the fault
abbrev pub PushesComputed : Result Value Error → State → State → Type 0
PushesComputed (Ok value) old new = PushesPlain value old new
PushesComputed (Err error) old new = new ≡ with_status (FaultStatus error) old

-- the top was popped, or there is none
abbrev pub Pops : Option Value → State → State → Type 0
Pops None old new = (old.store.values ≡ []) × (new ≡ old)
Pops (Some v) old new = (rest : List Value) × (old.store.values ≡ v ∷ rest) × (new ≡ with_values rest old)

-- the top was popped, or the state keeps the fault that there is none
abbrev pub TriesToPop : Option Value → State → State → Type 0
TriesToPop None old new = (old.store.values ≡ []) × (new ≡ with_status (FaultStatus NotEnoughStackItems) old)
TriesToPop (Some v) old new = Pops (Some v) old new

-- the top was popped; this is its number, as an address
pub record PopsTo (number : ℕ) (old new : State) : Type 0 where
  pub value : Value
  pub rest : List Value
  pub values : old.store.values ≡ value ∷ rest
  pub alone : new ≡ with_values rest old
  pub is : number ≡ to_u64_of (address_bits old.setup) value

abbrev pub TriesToPopNumber : Option ℕ → State → State → Type 0
TriesToPopNumber (Some number) old new = PopsTo number old new
TriesToPopNumber None old new = TriesToPop None old new

-- one more operation was counted, or the state keeps the fault that the maximum is reached
abbrev pub CountsOne : State → State → Bool → Type 0
CountsOne old new true = (can_count old.store ≡ true) × (new ≡ with_store (count_one old.store) old)
CountsOne old new false = (can_count old.store ≡ false) × (new ≡ with_status (FaultStatus TooManyIterations) old)

-- the run went to this place of the text, or the state keeps the fault that there is no such place
abbrev pub Jumps : ℕ → State → State → Bool → Type 0
Jumps place old new true = (place ≤ length old.text.bytes) × (new ≡ with_place place old)
Jumps place old new false =
    (length old.text.bytes < place) × (new ≡ with_status (FaultStatus (BadBranchTarget place)) old)

-- the state at this place, after one more operation was decoded
abbrev pub read_to : ℕ → State → State
read_to place x = record x { place = place; decodings = x.decodings + 1 }

-- the operation at the place was read
pub record ReadsOperation (op : Operation) (old new : State) : Type 0 where
  pub beyond : List ℕ
  pub was : read old.setup old.text old.place ≡ Ok (op, beyond)
  pub moved : new ≡ read_to (length old.text.bytes - length beyond) old

-- ---- operations

-- what an operation does with the stack of this state
abbrev pub act_of : State → Operation → Act
act_of x op = act (address_bits x.setup) x.store.settings.object_address op x.store.values

-- what a function on one value gives is what the operator gives
abbrev pub ComputesUnary : (Value → ℕ → Result Value Error → Type 0) → UnaryOperator → Type 0
ComputesUnary gives operator =
    (x : Value) (mask : ℕ) (r : Result Value Error) → gives x mask r → r ≡ unary_of operator (width_of mask) x

-- what a function on two values gives is what the operator gives
abbrev pub ComputesBinary : (Value → Value → ℕ → Result Value Error → Type 0) → BinaryOperator → Type 0
ComputesBinary gives operator =
    (x y : Value) (mask : ℕ) (r : Result Value Error) → gives x y mask r → r ≡ binary_of operator (width_of mask) x y

-- what an operation of this state does to a store
abbrev pub do_act_at : Act → State → Store → Next
do_act_at a x s = do_act x.setup x.place (length x.text.bytes) a s

-- f of the store leads to a place
pub record LeadsToPlace (f : Store → Next) (old new : State) : Type 0 where
  pub steps : StoreSteps f old.store (Goes new.place) new.store
  pub alone : new ≡ with_store new.store (with_place new.place old)

-- f leads to a request
pub record LeadsToRequest (f : Store → Next) (request : Request) (on_answer : OnAnswer) (old new : State) : Type 0 where
  pub steps : StoreSteps f old.store (RequestNext request on_answer) new.store
  pub alone : new ≡ with_store new.store (with_status (RequestStatus request on_answer) old)

-- f leads to the fault for some refusal
pub record LeadsToFault (f : Store → Next) (error : Error) (old new : State) : Type 0 where
  pub gets : MayGive old.setup.limits f old.store (FaultNext (fault_of error))
  pub stays : Stays 0 old new

abbrev pub LeadsBy : (Store → Next) → State → State → Status → Type 0
LeadsBy f old new Running = LeadsToPlace f old new
LeadsBy f old new (RequestStatus request on_answer) = LeadsToRequest f request on_answer old new
LeadsBy f old new (FaultStatus error) = LeadsToFault f error old new
LeadsBy f old new _ = ⊥

-- the operation was done: it leads on, or to a request, or for some refusal to a fault, which the state keeps
abbrev pub Performs : Act → State → State → Type 0
Performs a old new = LeadsBy (do_act_at a old) old new new.status

-- the operation after a location: a piece ends it, or the state keeps the fault
abbrev pub EndsLocated : Location → Operation → State → State → Type 0
EndsLocated location (operation.Piece size_in_bits bit_offset) old new =
    HasTriedChange 0 (push_piece old.setup (sized_piece size_in_bits bit_offset location)) (with_last Pieced old) new
EndsLocated location _ old new = new ≡ with_status (FaultStatus (InvalidExpressionTerminator (old.place - 1))) old

-- ---- turns

-- 1 if a call ends in a request or in completion
abbrev pub replies_by : Status → ℕ
replies_by (RequestStatus request on_answer) = 1
replies_by (CompleteStatus value) = 1
replies_by _ = 0

-- fewer calls are left, if this call ends in a request or in completion
abbrev pub NearsItsEnd : State → State → Type 0
NearsItsEnd old new = calls_left new + replies_by new.status ≤ calls_left old

-- the old state reached the new one by this many pushes, and both have the same outcome
pub record Reaches (old : State) (totals : Refusal → List Input → Total) (new : State) : Type 0 where
  pub pushes : ℕ
  pub same : (r : Refusal) (inputs : List Input) → totals (before_pushes pushes r) inputs ≡ total new r inputs
  pub kept : Keeps old new
  pub spends : Spends 0 old new
  pub nears : NearsItsEnd old new

-- for some refusal the old state ends in the fault, with the new state's count
pub record Falls (old : State) (totals : Refusal → List Input → Total) (fault : Fault) (new : State) : Type 0 where
  pub refusal : Refusal
  pub may : MayPick old.setup.limits refusal
  pub same : (inputs : List Input) → totals refusal inputs
      ≡ record { outcome = FaultOutcome fault; count = new.store.count }
  pub kept : Keeps old new
  pub spends : Spends 0 old new

abbrev pub ComesToStateBy : State → (Refusal → List Input → Total) → State → Status → Type 0
ComesToStateBy old totals new (FaultStatus error) = Falls old totals (fault_of error) new
ComesToStateBy old totals new (Start initial_value) = ⊥
ComesToStateBy old totals new _ = Reaches old totals new

-- the new state was reached, or it keeps a fault that was met
abbrev pub ComesToState : State → (Refusal → List Input → Total) → State → Type 0
ComesToState old totals new = ComesToStateBy old totals new new.status

-- the evaluation waits, is complete, or met a fault
abbrev pub HasReply : Status → Type 0
HasReply Running = ⊥
HasReply (Start initial_value) = ⊥
HasReply _ = Unit {0}

-- what comes to the old state comes to the new one, which has a reply
abbrev pub RunsOn : State → State → Type 0
RunsOn old new =
    (from : State) → (totals : Refusal → List Input → Total) → ComesToState from totals old
    → ComesToState from totals new × HasReply new.status

-- whether the last operation gave a location
abbrev pub has_location : Last → Bool
has_location (Located location) = true
has_location _ = false

-- the run is back in the innermost caller, if there is one
abbrev pub GoesBack : Bool → State → State → Type 0
GoesBack true old new =
    (f : Position) × (fs : List Position) × (old.callers ≡ f ∷ fs)
    × (new ≡ record old { text = f.text; place = f.place; callers = fs })
GoesBack false old new = (old.callers ≡ []) × (new ≡ old)

-- the run is complete with this value, which f gives, and has at most this many more items
pub record ClosesComplete (more : ℕ) (f : Store → Outcome) (value : Option Value) (old new : State) : Type 0 where
  pub steps : StoreSteps f old.store (λ s. CompleteOutcome s.pieces value) new.store
  pub alone : new ≡ with_store new.store (with_status (CompleteStatus value) old)
  pub kept : Keeps old new
  pub count : new.store.count ≡ old.store.count
  pub items : length new.store.values + length new.store.pieces
      ≤ length old.store.values + length old.store.pieces + more

-- f gives the fault for some refusal
pub record ClosesInFault (f : Store → Outcome) (error : Error) (old new : State) : Type 0 where
  pub gets : MayGive old.setup.limits f old.store (FaultOutcome (fault_of error))
  pub stays : Stays 0 old new

abbrev pub ClosesBy : ℕ → (Store → Outcome) → State → State → Status → Type 0
ClosesBy more f old new (CompleteStatus value) = ClosesComplete more f value old new
ClosesBy more f old new (FaultStatus error) = ClosesInFault f error old new
ClosesBy more f old new _ = ⊥

-- The run ends with the outcome that f gives. Either it is complete, with at most this many more items; or f gives a
-- fault for some refusal, and the state keeps it.
abbrev pub Closes : ℕ → (Store → Outcome) → State → State → Type 0
Closes more f old new = ClosesBy more f old new new.status

-- the run is complete with one more piece and this value, or the state keeps the fault
abbrev pub CompletesWith : Piece → Option Value → State → State → Type 0
CompletesWith piece value old new = Closes 1 (λ s. completion_of value (push_piece old.setup piece s)) old new

abbrev pub effort_by : State → Status → ℕ
effort_by x Running = 3 * (most_operations - x.store.count) + length x.callers + waits_of x.store.last + 1
effort_by x _ = 0

-- a number that falls with each turn
abbrev pub effort : State → ℕ
effort x = effort_by x x.status

-- one turn of the run
pub record Turns (old new : State) : Type 0 where
  pub comes : ComesToState old (total old) new
  pub less : effort new < effort old

abbrev pub is_running : Status → Bool
is_running Running = true
is_running _ = false

-- ---- answers

-- a called text runs, with one more caller
pub record Enters (callee : Text) (old new : State) : Type 0 where
  pub steps : StoreSteps (push_caller old.setup (length old.callers)) old.store Ok new.store
  pub alone : new ≡ record old {
    text = callee;
    place = 0;
    callers = record { text = old.text; place = old.place } ∷ old.callers;
    store = new.store;
  }

abbrev pub TriesToEnter : Text → State → State → Bool → Type 0
TriesToEnter callee old new true = Enters callee old new
TriesToEnter callee old new false = Refused 0 (push_caller old.setup (length old.callers)) old new

-- the value that an answer gives was pushed, or the state keeps the fault
abbrev pub PushesAsAnswer : Result Value Error → State → State → Type 0
PushesAsAnswer (Ok value) old new =
    HasTriedChange 0 (push_value old.setup value) (with_status Running (with_last Pushed old)) new
PushesAsAnswer (Err error) old new = new ≡ with_status (FaultStatus error) old

-- the total of a state in a request, given the use of the answer
abbrev pub total_used : State → Use → Refusal → List Input → Total
total_used x used refusal inputs =
    total_of_course x.store.count x.setup x.callers
    (after_answer (run x.setup) x.setup (record { text = x.text; place = x.place }) (length x.callers) used
    (with_refusal refusal x.store) inputs)

-- the answer was used in this way
abbrev pub TakesAnswer : OnAnswer → Answer → State → State → Type 0
TakesAnswer on_answer answer old new =
    ComesToState old (total_used old (use_of (address_bits old.setup) on_answer answer old.store.values)) new

-- the answer was used as the open request says
abbrev pub AnswersOpenRequest : Answer → State → State → Type 0
AnswersOpenRequest answer old new =
    (request : Request) → (on_answer : OnAnswer) → old.status ≡ RequestStatus request on_answer
    → TakesAnswer on_answer answer old new
