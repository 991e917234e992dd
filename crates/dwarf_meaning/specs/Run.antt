-- A run of an expression. A called expression is run in place of its call (DWARF 5, section 2.5).
use Rattle.std.specs.Prelude.{Bool, ℕ, zero, suc, ◌+◌, ◌-◌, ◌*◌, List, [], ◌∷◌, ◌++◌, Result, Ok, Err, length, drop, nat_lt, ◌&&◌, ◌==◌, if◌then◌else◌}
use Rattle.dwarf_base.specs.Faults.{Fault}
use Rattle.dwarf_base.specs.declared.errors.Error.TheVariants.{InvalidExpressionTerminator, TooManyIterations}
use Rattle.dwarf_base.specs.Reads.{Text}
use Rattle.dwarf_meaning.specs.Operations as operation
use Rattle.dwarf_meaning.specs.Operations.{Operation}
use Rattle.dwarf_meaning.specs.Locations.{Location, sized_piece}
use Rattle.dwarf_meaning.specs.Decoding.{operation_at}
use Rattle.dwarf_meaning.specs.Requests.{Request, OnAnswer, Input}
use Rattle.dwarf_meaning.specs.Kinds.{kind_of_request, kind_of_answer, is_same_kind}
use Rattle.dwarf_meaning.specs.Acts.{Act, EndsPiece, FaultAct, act, Use, PushesAnswer, Calls, FaultUse, use_of}
use Rattle.dwarf_meaning.specs.Stores.{Setup, address_bits, Store, Last, Pushed, Called, Located, push_value, push_caller, Next, Goes, RequestNext, FaultNext, do_act}
use Rattle.dwarf_meaning.specs.Refusals.{refusal_after_input}

-- a text and a place in it
pub record Position : Type 0 where
  pub text : Text
  pub place : ℕ

-- How a run ends: at the end of its text, with the store and the remaining inputs; in a request, with the open texts,
-- the innermost first, and the remaining inputs; or in a fault.
pub data End : Type 0 where
  CompleteEnd : Store → List Input → End
  RequestEnd : Request → List Position → List Input → End
  FaultEnd : Fault → End

-- A run: the positions of the counted operations, the requests, and the end.
pub record Course : Type 0 where
  pub path : List Position
  pub requests : List Request
  pub end : End

-- a course with nothing but an end
abbrev pub only_end : End → Course
only_end end = record { path = []; requests = []; end = end }

-- the course, with these positions and requests before its own
abbrev pub prepend : List Position → List Request → Course → Course
prepend path requests course = record course { path = path ++ course.path; requests = requests ++ course.requests }

-- the rest of a run, from a place of a text and a depth of calls, given the store and the inputs to come
abbrev pub Continues : Type 0
Continues = (text : Text) (place depth : ℕ) → Store → List Input → Course

-- the store after an input is taken
abbrev pub with_input : Input → Store → Store
with_input input s = record s { settings = input.settings; refusal = refusal_after_input s.refusal }

-- the operation at a place, and the bytes after it
abbrev pub read : Setup → Text → (place : ℕ) → Result (Operation × List ℕ) Fault
read setup text place =
    operation_at setup.encoding setup.offset_bits (record { bytes = drop place text.bytes; is_big = text.is_big })

-- the maximum if none is set, which no run exceeds
unfoldable pub most_operations : ℕ
most_operations = 4294967295

-- the maximum allows one more operation
abbrev pub can_count : Store → Bool
can_count s = nat_lt s.count s.settings.maximum && nat_lt s.count most_operations

-- one more operation is counted
abbrev pub count_one : Store → Store
count_one s = record s { count = s.count + 1 }

-- what a counted operation does; `place` is the place after it
abbrev pub counted_act : Setup → Store → (place : ℕ) → Operation → Act
counted_act setup s place op = act (address_bits setup) s.settings.object_address op s.values

-- what the operation after a location does: a piece is at the location and ends it; any other operation is a fault
abbrev pub located_act : Location → Store → (place : ℕ) → Operation → Act
located_act location s place (operation.Piece size offset) = EndsPiece s.values (sized_piece size offset location)
located_act location s place _ = FaultAct (InvalidExpressionTerminator (place - 1))

module _ (go : Continues) where
  module _ (position : Position) (depth : ℕ) where
    -- the callee's course, and then the rest of the caller
    abbrev pub return_to_caller : Course → End → Course
    return_to_caller course (CompleteEnd s inputs) = prepend course.path course.requests
        (go position.text position.place depth s inputs)
    return_to_caller course (RequestEnd request positions inputs) =
        record course { end = RequestEnd request (positions ++ position ∷ []) inputs }
    return_to_caller course (FaultEnd fault) = record course { end = FaultEnd fault }

    -- the run goes on at the position; a refused push is a fault
    abbrev pub after_push : List Input → Result Store Fault → Course
    after_push inputs (Ok s) = go position.text position.place depth s inputs
    after_push inputs (Err fault) = only_end (FaultEnd fault)

    -- the callee is run from its beginning, and then the rest of the caller; a refused push of the caller is a fault
    abbrev pub enter_callee : Text → List Input → Result Store Fault → Course
    enter_callee callee inputs (Ok s) =
        let course = go callee 0 (suc depth) s inputs in return_to_caller course course.end
    enter_callee callee inputs (Err fault) = only_end (FaultEnd fault)

  module _ (setup : Setup) where
    module _ (position : Position) (depth : ℕ) where
      -- the answer to a call is run; if it has no bytes, the run goes on directly after the call
      abbrev pub run_callee : Text → List ℕ → Store → List Input → Course
      run_callee callee [] s inputs = go position.text position.place depth (record s { last = Called }) inputs
      run_callee callee (byte ∷ bytes) s inputs = enter_callee position depth callee inputs (push_caller setup depth s)

      -- the run goes on, and uses an answer
      abbrev pub after_answer : Use → Store → List Input → Course
      after_answer (PushesAnswer rest value) s inputs =
          after_push position depth inputs (push_value setup value (record s { values = rest; last = Pushed }))
      after_answer (Calls callee) s inputs = run_callee callee callee.bytes s inputs
      after_answer (FaultUse fault) s inputs = only_end (FaultEnd fault)

      -- a request takes the next input; it stays open if there is none, or if the next one has another kind
      abbrev pub await_answer : Request → OnAnswer → Store → List Input → Course
      await_answer request on_answer s [] = only_end (RequestEnd request (position ∷ []) [])
      await_answer request on_answer s (input ∷ inputs) =
          if is_same_kind (kind_of_request request) (kind_of_answer input.answer)
          then after_answer (use_of (address_bits setup) on_answer input.answer s.values) (with_input input s) inputs
          else only_end (RequestEnd request (position ∷ []) (input ∷ inputs))

    module _ (text : Text) where
      -- the run goes on at the place to which an operation led, or with the answer to its request
      abbrev pub after_operation : (depth place : ℕ) → List Input → Next → Course
      after_operation depth place inputs (Goes to s) = go text to depth s inputs
      after_operation depth place inputs (RequestNext request on_answer s) =
          prepend [] (request ∷ [])
          (await_answer (record { text = text; place = place }) depth request on_answer s inputs)
      after_operation depth place inputs (FaultNext fault) = only_end (FaultEnd fault)

      -- does the operation that was read
      abbrev pub do_operation : (depth : ℕ) → Store → List Input → (ℕ → Operation → Act)
          → Result (Operation × List ℕ) Fault → Course
      do_operation depth s inputs act_at (Ok x) =
          let place = length text.bytes - length x.1 in
          after_operation depth place inputs (do_act setup place (length text.bytes) (act_at place x.0) s)
      do_operation depth s inputs act_at (Err fault) = only_end (FaultEnd fault)

      -- counts one more operation, and does it
      abbrev pub turn_counted : (place depth : ℕ) → Store → List Input → Course
      turn_counted place depth s inputs =
          if can_count s
          then prepend (record { text = text; place = place } ∷ []) []
          (do_operation depth (count_one s) inputs (counted_act setup s) (read setup text place))
          else only_end (FaultEnd TooManyIterations)

      -- a turn, by the last operation: after a location nothing is counted
      abbrev pub turn_by : (place depth : ℕ) → Store → List Input → Last → Course
      turn_by place depth s inputs (Located location) =
          do_operation depth s inputs (located_act location s) (read setup text place)
      turn_by place depth s inputs _ = turn_counted place depth s inputs

      -- the next operation, or the end of the text
      abbrev pub turn : (place depth : ℕ) → Store → List Input → Course
      turn place depth s inputs =
          if place == length text.bytes then only_end (CompleteEnd s inputs) else turn_by place depth s inputs s.last

-- no turn is left
abbrev pub out_of_turns : Continues
out_of_turns text place depth s inputs = only_end (FaultEnd TooManyIterations)

-- a run of at most this many turns
unfoldable pub run_for : (turns : ℕ) → Setup → Continues
run_for zero setup = turn out_of_turns setup
run_for (suc turns) setup = turn (run_for turns setup) setup

-- Enough turns for every run: each turn counts an operation, or reads the one piece after a counted location.
unfoldable pub enough_turns : ℕ
enough_turns = 2 * most_operations + 1

-- a run from a place of a text
abbrev pub run : Setup → Continues
run setup = run_for enough_turns setup

-- a course, and then what is left of its callers, the innermost first
abbrev pub return_to_callers : Setup → (callers : List Position) → Course → Course
return_to_callers setup [] course = course
return_to_callers setup (caller ∷ callers) course =
    return_to_callers setup callers (return_to_caller (run setup) caller (length callers) course course.end)
