use Rattle.std.proofs.Common.{◌≡◌, ◌∙◌, Bool, Err, true, ap, refl, subst, sym}
use Rattle.dwarf_base.specs.Faults.{fault_of}
use Rattle.dwarf_meaning.specs.Locations.{Location}
use Rattle.dwarf_meaning.specs.Rest.{State}
use Rattle.dwarf_meaning.specs.Run.{read}
use Rattle.dwarf_meaning.specs.Stores.{Last, Located}
use Rattle.dwarf_op.specs.Views.{operation_of}
use Rattle.dwarf_eval.specs.inner.StateChanges.{CountsOne, ReadsOperation, has_location, read_to}
use Rattle.dwarf_eval.proofs.Holding.{hold_turns, hold_unread}
use Rattle.dwarf_eval.proofs.Turning.{IsReady, counted_turns, ready_none, unread_turns}
use Rattle.dwarf_eval.proofs.run.machine.Machine.turn.Goals as goal
use Rattle.dwarf_eval.proofs.run.machine.Machine.turn.Goals.{else-not-has_location-via-then-not-has_location+else-not-count, else-not-has_location-via-else-not-has_location}

-- the location that waits
located_on : (last : Last) → has_location last ≡ true → (location : Location) × (last ≡ Located location)
located_on (Located location) h = (location, refl)
located_on _ h = cc

pub returns-then-not-count : goal.returns-then-not-count
returns-then-not-count g c =
    let x : State = c.args.self.now in
    ready_none x (record { runs = c.requires.runs; inside = c.requires.inside; free = sym c.has_location-has_location.ensures ∙ c.if-not-has_location.true }) c.count.new.self
    (subst (λ (b : Bool). CountsOne x c.count.new.self b) c.if-not-count.true c.count.ensures)

pub returns-in-Ok : goal.returns-in-Ok
returns-in-Ok g c =
    let x : State = c.args.self.now in
    let op = operation_of g.R.Reader.text g.R.Offset.ReaderOffset.number c.in-Ok.operation in
    elim c.else-not-has_location.branch [
      | else-not-has_location-via-then-not-has_location+else-not-count w ↦ cc
      | else-not-has_location-via-else-not-has_location w ↦
          let waits = located_on x.store.last (sym c.has_location-has_location.ensures ∙ w.if-not-has_location.false) in
          hold_turns x waits.0 c.requires.runs c.requires.inside waits.1 c.decode.new.self c.add_piece_of_location.new.self op
          (subst (λ (z : State). ReadsOperation op z c.decode.new.self) w.self-is c.in-Ok.ensures.ok)
          (c.add_piece_of_location.ensures waits.0 (ap (λ (z : State). z.store.last) (c.decode.ensures.alone ∙ ap (read_to c.decode.new.self.place) w.self-is) ∙ waits.1))
    ]

pub returns-in-Ok-2 : goal.returns-in-Ok-2
returns-in-Ok-2 g c =
    let x : State = c.args.self.now in
    let op = operation_of g.R.Reader.text g.R.Offset.ReaderOffset.number c.in-Ok.operation in
    let ready : IsReady x = record { runs = c.requires.runs; inside = c.requires.inside; free = sym c.has_location-has_location.ensures ∙ c.if-has_location.false } in
    elim c.else-not-has_location.branch [
      | else-not-has_location-via-then-not-has_location+else-not-count w ↦
          counted_turns x c.else-not-has_location.self c.decode.new.self c.operate.new.self op ready
          (rw w.self-is (subst (λ (b : Bool). CountsOne x w.count.new.self b) w.if-not-count.false w.count.ensures))
          c.in-Ok.ensures.ok c.operate.ensures
      | else-not-has_location-via-else-not-has_location w ↦ cc
    ]

pub returns-in-Err : goal.returns-in-Err
returns-in-Err g c =
    let x : State = c.args.self.now in
    elim c.else-not-has_location.branch [
      | else-not-has_location-via-then-not-has_location+else-not-count w ↦
          unread_turns x c.else-not-has_location.self c.decode.new.self c.fail.new.self c.in-Err.error
          (record { runs = c.requires.runs; inside = c.requires.inside; free = sym c.has_location-has_location.ensures ∙ w.if-not-has_location.true })
          (rw w.self-is (subst (λ (b : Bool). CountsOne x w.count.new.self b) w.if-not-count.false w.count.ensures))
          c.in-Err.ensures.err c.in-Err.ensures.alone c.fail.ensures
      | else-not-has_location-via-else-not-has_location w ↦
          let waits = located_on x.store.last (sym c.has_location-has_location.ensures ∙ w.if-not-has_location.false) in
          hold_unread x waits.0 c.requires.runs c.requires.inside waits.1 c.decode.new.self c.fail.new.self c.in-Err.error
          (subst (λ (z : State). read z.setup z.text z.place ≡ Err (fault_of c.in-Err.error)) w.self-is c.in-Err.ensures.err)
          (c.in-Err.ensures.alone ∙ ap (read_to c.decode.new.self.place) w.self-is) c.fail.ensures
    ]
