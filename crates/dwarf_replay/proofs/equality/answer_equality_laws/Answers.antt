use Rattle.std.proofs.Common.{ℕ, ◌≡◌, Bool, refl, nat_eq, rules}
use Rattle.std.specs.Cmp.{unsigned_Decides}
use Rattle.std.specs.declared.cmp.PartialEq as partial_eq
use Rattle.dwarf_base.specs.Equality.{IsEqualityOf}
use Rattle.dwarf_base.specs.Reads.{Text}
use Rattle.dwarf_op.proofs.EqualOperations.{both_of}
use Rattle.dwarf_replay.specs.contracts.steps.AnswerPartialEq.TheImpl as answers
use Rattle.dwarf_replay.specs.contracts.steps.ReplayedPartialEq.TheImpl as ends
use Rattle.dwarf_replay.specs.declared.steps.Answer.{Answer}
use Rattle.dwarf_replay.specs.declared.steps.Replayed.{Replayed}
use Rattle.dwarf_replay.specs.declared.steps.Replayed.TheVariants as replayed
use Rattle.dwarf_replay.specs.StepEquality.{reply_or_error, end_of_replay}
use denote.RattleType.{RattleType}
use mir.Syntax.{Dict}
use Rattle.dwarf_replay.proofs.equality.answer_equality_laws.Goals as goal

module _ (R O : RattleType)
    (are_readers_equal : partial_eq.Ghosts R.Denot) (p : Dict) (are_offsets_equal : partial_eq.Ghosts O.Denot) (q : Dict)
    (text : R.Denot → Text) (number : O.Denot → ℕ)
    (texts : IsEqualityOf text are_readers_equal.eq) (numbers : IsEqualityOf number are_offsets_equal.eq) where
  abbrev are_answers_equal : Answer R.Denot O.Denot → Answer R.Denot O.Denot → Bool
  are_answers_equal = (answers.ghosts R O are_readers_equal p are_offsets_equal q).eq

  abbrev are_ends_equal : Replayed R.Denot O.Denot → Replayed R.Denot O.Denot → Bool
  are_ends_equal = (ends.ghosts R O are_readers_equal p are_offsets_equal q).eq

  equal_answers : IsEqualityOf (λ (x : Answer R.Denot O.Denot). reply_or_error text number x.0) are_answers_equal
  equal_answers = search (rules, texts, numbers)

  equal_ends : IsEqualityOf (end_of_replay text number) are_ends_equal
  equal_ends replayed.Done replayed.Done = (λ _. refl, λ _. refl)
  equal_ends replayed.Done (replayed.Misplaced index) = (λ h. cc, λ h. cc)
  equal_ends replayed.Done (replayed.NoRoom index answer) = (λ h. cc, λ h. cc)
  equal_ends (replayed.Misplaced index) replayed.Done = (λ h. cc, λ h. cc)
  equal_ends (replayed.Misplaced x) (replayed.Misplaced y) =
      (λ h. let same : x ≡ y = (unsigned_Decides x y).0 h in cc, λ h. let same : x ≡ y = cc in (unsigned_Decides x y).1 same)
  equal_ends (replayed.Misplaced x) (replayed.NoRoom y answer) = (λ h. cc, λ h. cc)
  equal_ends (replayed.NoRoom index answer) replayed.Done = (λ h. cc, λ h. cc)
  equal_ends (replayed.NoRoom x answer) (replayed.Misplaced y) = (λ h. cc, λ h. cc)
  equal_ends (replayed.NoRoom x answer) (replayed.NoRoom y other) =
      let all = both_of (nat_eq x y) (are_answers_equal answer other) (unsigned_Decides x y) (equal_answers answer other) in (
        λ passes. let p = all.0 passes in
            let index : x ≡ y = p.0 in
            let given : reply_or_error text number answer.0 ≡ reply_or_error text number other.0 = p.1 in
            cc,
        λ same.
            let index : x ≡ y = cc in
            let given : reply_or_error text number answer.0 ≡ reply_or_error text number other.0 = cc in
            all.1 (index, given),
      )

pub returns-clause-replayed : goal.returns-clause-replayed
returns-clause-replayed g c =
    equal_ends g.row.R g.row.O
    g.R.PartialEq g.R.PartialEq-dict g.O.PartialEq g.O.PartialEq-dict
