use Rattle.std.proofs.Common.{ℕ, suc, ◌≡◌, ◌+◌, List, [], ◌∷◌, ◌++◌, length, take, arith, ap, ◌∙◌, sym, refl, subst}
use Rattle.std.proofs.lemmas.Option.{slice_get_read}
use Rattle.dwarf_replay.specs.Replays.{replies_in, reply_in, steps_of}
use Rattle.dwarf_replay.specs.Stepping.{HasReplied, step_of}
use Rattle.dwarf_replay.specs.declared.steps.Answer.{Answer}
use Rattle.dwarf_eval.specs.Lists.{MayRefuse}
use Rattle.dwarf_replay.proofs.Leading.{leaves, spends, does_all_by, stops_at}
use Rattle.dwarf_replay.proofs.Standings.{Went, went_at_first}
use Rattle.dwarf_replay.proofs.ReplayTurns.{called_on, kept_on, next_is, overflowed, set_on, went_all}
use Rattle.dwarf_replay.proofs.replaying.replay.Goals as goal
use Rattle.dwarf_replay.proofs.replaying.replay.Goals.{in-Set, in-Answered+in_default}

pub loop-index-init : goal.loop-index-init
loop-index-init g c =
    let view = g.R.Reader.text in
    let number = g.R.Offset.ReaderOffset.number in
    let x = c.args.eval.now in
    (subst (λ (l : List _). Went x [] (replies_in view number l) x) (sym c.requires.empty) (went_at_first x c.requires.fresh), omega arith, refl)

pub loop-index-preserved : goal.loop-index-preserved
loop-index-preserved g c =
    let view = g.R.Reader.text in
    let number = g.R.Offset.ReaderOffset.number in
    let first = c.args.eval.now in
    let steps = c.args.steps.now in
    let index = c.loop-index.index in
    let step = c.index-steps-index.result in
    let next = slice_get_read steps (length steps) index step refl c.loop-index-test.true c.index-steps-index.is in
    let given = g.L.ArrayLike.items c.loop-index.answers in
    let new = c.take_step.new.eval in
    let one : suc index ≡ index + 1 = omega arith in
    let goes_on : Went first (take (suc index) (steps_of view steps)) (replies_in view number (g.L.ArrayLike.items c.match-take_step.answers)) new =
    elim c.match-take_step.branch [
      | in-Set w ↦ set_on view number first steps index step next given c.loop-index.eval new c.loop-index.invariant.0 _ (ap g.L.ArrayLike.items w.answers-is) w.in-Set.ensures
      | in-Answered+in_default w ↦ kept_on view number first steps index step next given c.loop-index.eval new c.loop-index.invariant.0 w.in-Answered.answer w.in-Answered.ensures _ (ap g.L.ArrayLike.items w.answers-is ∙ w.in_default.ensures.ok)
    ] in
    let limit : g.L.ArrayLike.limit c.match-take_step.answers ≡ g.L.ArrayLike.limit c.loop-index.answers =
    elim c.match-take_step.branch [
      | in-Set w ↦ ap g.L.ArrayLike.limit w.answers-is
      | in-Answered+in_default w ↦ ap g.L.ArrayLike.limit w.answers-is ∙ w.push.ensures.limit
    ] in
    (subst (λ (n : ℕ). Went first (take n (steps_of view steps)) (replies_in view number (g.L.ArrayLike.items c.match-take_step.answers)) new) one goes_on, omega (arith, c.loop-index-test.true), limit ∙ c.loop-index.invariant.2)

pub returns-in-Misplaced : goal.returns-in-Misplaced
returns-in-Misplaced g c =
    let view = g.R.Reader.text in
    let first = c.args.eval.now in
    let steps = c.args.steps.now in
    let index = c.loop-index.index in
    let step = c.index-steps-index.result in
    let next = slice_get_read steps (length steps) index step refl c.loop-index-test.true c.index-steps-index.is in
    let done = take index (steps_of view steps) in
    let replies = replies_in view g.R.Offset.ReaderOffset.number (g.L.ArrayLike.items c.loop-index.answers) in
    let new = c.take_step.new.eval in
    let same : new ≡ c.loop-index.eval = c.in-Misplaced.ensures.0 in
    let went = subst (Went first done replies) (sym same) c.loop-index.invariant.0 in
    record {
      replays = stops_at first (steps_of view steps) index replies new (step_of view step) (next_is view steps index step next) went (rw same c.in-Misplaced.ensures.1);
      spends = spends first done replies new went;
      leaves = leaves first done replies new went;
      limit = c.loop-index.invariant.2;
    }

pub returns-in-Err : goal.returns-in-Err
returns-in-Err g c =
    let view = g.R.Reader.text in
    let number = g.R.Offset.ReaderOffset.number in
    let first = c.args.eval.now in
    let steps = c.args.steps.now in
    let index = c.loop-index.index in
    let step = c.index-steps-index.result in
    let next = slice_get_read steps (length steps) index step refl c.loop-index-test.true c.index-steps-index.is in
    let x = c.loop-index.eval in
    let new = c.take_step.new.eval in
    let limit = g.L.ArrayLike.limit c.loop-index.answers in
    let kept = g.L.ArrayLike.items c.push.new.self in
    let answer = c.in-Err.answer in
    let was = subst (λ (l : List (Answer _ _)). Went first (take index (steps_of view steps)) (replies_in view number l) x) (sym c.in-Err.ensures.err) c.loop-index.invariant.0 in
    let replied = subst (λ (a : Answer _ _). HasReplied view number (step_of view step) x new a.0) (sym c.in-Err.ensures.returned) c.in-Answered.ensures in
    let full = subst (λ (l : List (Answer _ _)). MayRefuse limit (length l)) (sym c.in-Err.ensures.err) c.in-Err.ensures.full in
    let went = called_on view number first steps index step next kept x new was answer replied in
    let done = take (suc index) (steps_of view steps) in
    let replies = replies_in view number kept ++ reply_in view number answer ∷ [] in
    record {
      replays = rw (← c.loop-index.invariant.2) (overflowed view number first steps index step next kept x new was answer replied limit full);
      spends = spends first done replies new went;
      leaves = leaves first done replies new went;
      limit = c.push.ensures.limit ∙ c.loop-index.invariant.2;
    }

pub returns : goal.returns
returns g c =
    let view = g.R.Reader.text in
    let number = g.R.Offset.ReaderOffset.number in
    let first = c.args.eval.now in
    let steps = c.args.steps.now in
    let answers = g.L.ArrayLike.items c.loop-index.answers in
    let new = c.loop-index.eval in
    let went = went_all view number first steps c.loop-index.index answers new (omega (arith, c.loop-index-test.false)) c.loop-index.invariant.0 in
    record {
      replays = does_all_by first (steps_of view steps) (replies_in view number answers) new went;
      spends = spends first (steps_of view steps) (replies_in view number answers) new went;
      leaves = leaves first (steps_of view steps) (replies_in view number answers) new went;
      limit = c.loop-index.invariant.2;
    }
