-- The outcome of a state, and how many operations are counted by then, by where the evaluation stands.
use Rattle.std.proofs.Common.{ℕ, suc, ◌≡◌, ◌+◌, arith, length, List, [], ◌∷◌, ◌++◌, Result, Err, Option, ap, ◌∙◌, sym, refl, append_assoc}
use Rattle.std.proofs.lemmas.List.{append-nil}
use Rattle.dwarf_base.specs.Faults.{Fault}
use Rattle.dwarf_value.specs.declared.types.Value.{Value}
use Rattle.dwarf_meaning.specs.Requests.{Request, OnAnswer, Input}
use Rattle.dwarf_meaning.specs.Stores.{Setup, Store}
use Rattle.dwarf_meaning.specs.Run.{Position, Course, End, CompleteEnd, RequestEnd, FaultEnd, only_end, prepend, return_to_caller, after_push, run, await_answer, return_to_callers}
use Rattle.dwarf_meaning.specs.Meaning.{Outcome, RequestOutcome, FaultOutcome, CompleteOutcome, outcome_of_end, finish, with_initial, meaning}
use Rattle.dwarf_meaning.specs.Rest.{State, Status, Start, Running, RequestStatus, CompleteStatus, with_refusal, Total, total_of_course, first_of, total_by, total}
use Rattle.dwarf_meaning.specs.Refusals.{Refusal}
use Rattle.dwarf_eval.specs.inner.Answers.{IsAtRestBy}

abbrev pub closed : Outcome → ℕ → Total
closed outcome n = record { outcome = outcome; count = n }

abbrev pub going : State → Store → List Input → Total
going x s inputs = total_of_course x.store.count x.setup x.callers (run x.setup x.text x.place (length x.callers) s inputs)

abbrev pub waiting_total : State → Request → OnAnswer → Store → List Input → Total
waiting_total x request on_answer s inputs =
    total_of_course x.store.count x.setup x.callers (await_answer (run x.setup) x.setup (record { text = x.text; place = x.place }) (length x.callers) request on_answer s inputs)

abbrev pub started_total : State → List Input → Result Store Fault → Total
started_total x inputs z =
    total_of_course x.store.count x.setup x.callers (after_push (run x.setup) (record { text = x.text; place = x.place }) (length x.callers) inputs z)

pub total_by_status : (r : Refusal) (x : State) (inputs : List Input) (status : Status) → x.status ≡ status → total x r inputs ≡ total_by x (with_refusal r x.store) inputs status
unfolding total
total_by_status r x inputs status e = ap (total_by x (with_refusal r x.store) inputs) e

pub total_running : (r : Refusal) (x : State) (inputs : List Input) → x.status ≡ Running → total x r inputs ≡ going x (with_refusal r x.store) inputs
total_running r x inputs = total_by_status r x inputs Running

pub total_waits : (r : Refusal) (x : State) (inputs : List Input) (request : Request) (on_answer : OnAnswer) → x.status ≡ RequestStatus request on_answer → total x r inputs ≡ waiting_total x request on_answer (with_refusal r x.store) inputs
total_waits r x inputs request on_answer = total_by_status r x inputs (RequestStatus request on_answer)

pub total_complete : (r : Refusal) (x : State) (inputs : List Input) (value : Option Value) → x.status ≡ CompleteStatus value → total x r inputs ≡ closed (CompleteOutcome x.store.pieces value) x.store.count
total_complete r x inputs value = total_by_status r x inputs (CompleteStatus value)

-- the total of a text from its beginning
abbrev begun : State → List Input → Result Store Fault → Total
begun x inputs z = total_of_course x.store.count x.setup [] (after_push (run x.setup) (record { text = x.text; place = 0 }) 0 inputs z)

begun_started : (x : State) (inputs : List Input) (z : Result Store Fault) → x.place ≡ 0 → x.callers ≡ [] → begun x inputs z ≡ started_total x inputs z
begun_started x inputs z place callers =
    ap (λ (p : ℕ). total_of_course x.store.count x.setup [] (after_push (run x.setup) (record { text = x.text; place = p }) 0 inputs z)) (sym place)
    ∙ ap (λ (fs : List Position). total_of_course x.store.count x.setup fs (after_push (run x.setup) (record { text = x.text; place = x.place }) (length fs) inputs z)) (sym callers)

-- a fresh evaluation begins where it stands
pub total_start : (r : Refusal) (x : State) (inputs : List Input) (initial_value : Option ℕ) → IsAtRestBy x (Start initial_value) → total x r inputs ≡ started_total x inputs (with_initial x.setup initial_value (with_refusal r x.store))
total_start r x inputs initial_value is =
    total_by_status r x inputs (Start initial_value) (ap (λ (z : State). z.status) is)
    ∙ (ap (λ (s : Store). begun x inputs (with_initial x.setup initial_value (with_refusal r s))) (sym (ap (λ (z : State). z.store) is))
    ∙ begun_started x inputs (with_initial x.setup initial_value (with_refusal r x.store)) (ap (λ (z : State). z.place) is) (ap (λ (z : State). z.callers) is))

-- at the start the outcome is the meaning
pub total_meaning : (r : Refusal) (x : State) (inputs : List Input) (initial_value : Option ℕ) → x.status ≡ Start initial_value → (total x r inputs).outcome ≡ meaning x.setup r x.text (first_of x initial_value) inputs
unfolding meaning
total_meaning r x inputs initial_value starts = ap (λ (z : Total). z.outcome) (total_by_status r x inputs (Start initial_value) starts)

-- ---- a course and its callers

-- nothing more is counted
no_more : (outcome : Outcome) (n : ℕ) → closed outcome (n + 0) ≡ closed outcome n
no_more outcome n =
    let e : n + 0 ≡ n = omega arith in
    ap (closed outcome) e

-- the total of a course without callers
abbrev alone : ℕ → Setup → Course → Total
alone n setup course = total_of_course n setup [] course

fault_returned : (setup : Setup) (callers : List Position) (fault : Fault) → return_to_callers setup callers (only_end (FaultEnd fault)) ≡ only_end (FaultEnd fault)
fault_returned setup [] fault = refl
fault_returned setup (caller ∷ callers) fault = fault_returned setup callers fault

pub course_failed : (n : ℕ) (setup : Setup) (callers : List Position) (fault : Fault) → total_of_course n setup callers (only_end (FaultEnd fault)) ≡ closed (FaultOutcome fault) n
course_failed n setup callers fault = ap (alone n setup) (fault_returned setup callers fault) ∙ no_more (FaultOutcome fault) n

pub started_fails : (x : State) (inputs : List Input) (fault : Fault) → started_total x inputs (Err fault) ≡ closed (FaultOutcome fault) x.store.count
started_fails x inputs fault = course_failed x.store.count x.setup x.callers fault

pub course_ended : (n : ℕ) (setup : Setup) (s : Store) (inputs : List Input) (outcome : Outcome) → finish setup s ≡ outcome → total_of_course n setup [] (only_end (CompleteEnd s inputs)) ≡ closed outcome n
course_ended n setup s inputs outcome e = no_more (finish setup s) n ∙ ap (λ (o : Outcome). closed o n) e

request_returned : (setup : Setup) (callers : List Position) (request : Request) (positions : List Position) (inputs : List Input) → return_to_callers setup callers (only_end (RequestEnd request positions inputs)) ≡ only_end (RequestEnd request (positions ++ callers) inputs)
request_returned setup [] request positions inputs = ap (λ (fs : List Position). only_end (RequestEnd request fs inputs)) (sym (append-nil positions))
request_returned setup (caller ∷ callers) request positions inputs =
    request_returned setup callers request (positions ++ caller ∷ []) inputs
    ∙ ap (λ (fs : List Position). only_end (RequestEnd request fs inputs)) (append_assoc positions (caller ∷ []) callers)

pub course_open : (n : ℕ) (setup : Setup) (callers : List Position) (request : Request) (positions : List Position) (inputs : List Input) → total_of_course n setup callers (only_end (RequestEnd request positions inputs)) ≡ closed (RequestOutcome request (positions ++ callers)) n
course_open n setup callers request positions inputs =
    ap (alone n setup) (request_returned setup callers request positions inputs) ∙ no_more (RequestOutcome request (positions ++ callers)) n

-- a request that waits for an input
pub total_open : (r : Refusal) (x : State) (request : Request) (on_answer : OnAnswer) → x.status ≡ RequestStatus request on_answer → total x r [] ≡ closed (RequestOutcome request (record { text = x.text; place = x.place } ∷ x.callers)) x.store.count
total_open r x request on_answer e =
    total_waits r x [] request on_answer e ∙ course_open x.store.count x.setup x.callers request (record { text = x.text; place = x.place } ∷ []) []

-- what is put in front of a course stays there once its callers' rest follows
returned_beyond : (setup : Setup) (f : Course → Course)
    → ((caller : Position) (depth : ℕ) (course : Course) → return_to_caller (run setup) caller depth (f course) (f course).end ≡ f (return_to_caller (run setup) caller depth course course.end))
    → (callers : List Position) (course : Course) → return_to_callers setup callers (f course) ≡ f (return_to_callers setup callers course)
returned_beyond setup f back [] course = refl
returned_beyond setup f back (caller ∷ callers) course =
    ap (return_to_callers setup callers) (back caller (length callers) course)
    ∙ returned_beyond setup f back callers (return_to_caller (run setup) caller (length callers) course course.end)

-- an operation is counted
counted_back : (setup : Setup) (caller position : Position) (depth : ℕ) (course : Course) (end : End) → return_to_caller (run setup) caller depth (prepend (position ∷ []) [] course) end ≡ prepend (position ∷ []) [] (return_to_caller (run setup) caller depth course end)
counted_back setup caller position depth course (CompleteEnd s inputs) = refl
counted_back setup caller position depth course _ = refl

pub course_counted : (n : ℕ) (setup : Setup) (callers : List Position) (position : Position) (course : Course) → total_of_course n setup callers (prepend (position ∷ []) [] course) ≡ total_of_course (n + 1) setup callers course
course_counted n setup callers position course =
    let whole : Course = return_to_callers setup callers course in
    let k : ℕ = length whole.path in
    let e : n + suc k ≡ n + 1 + k = omega arith in
    ap (alone n setup) (returned_beyond setup (prepend (position ∷ []) []) (λ caller depth between. counted_back setup caller position depth between between.end) callers course) ∙ ap (closed (outcome_of_end setup whole.end)) e

-- a request is no part of a total
asked_back : (setup : Setup) (caller : Position) (request : Request) (depth : ℕ) (course : Course) (end : End) → return_to_caller (run setup) caller depth (prepend [] (request ∷ []) course) end ≡ prepend [] (request ∷ []) (return_to_caller (run setup) caller depth course end)
asked_back setup caller request depth course (CompleteEnd s inputs) = refl
asked_back setup caller request depth course _ = refl

pub course_asked : (n : ℕ) (setup : Setup) (callers : List Position) (request : Request) (course : Course) → total_of_course n setup callers (prepend [] (request ∷ []) course) ≡ total_of_course n setup callers course
course_asked n setup callers request course =
    ap (alone n setup) (returned_beyond setup (prepend [] (request ∷ [])) (λ caller depth between. asked_back setup caller request depth between between.end) callers course)
