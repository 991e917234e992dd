-- What the prover needs besides computing, to find the outcome of given bytes.
use Rattle.std.proofs.Common.{ℕ, ◌≡◌, ◌+◌, ◌<◌, arith, ap, refl, ◌∙◌, subst, sym, [], ◌∷◌, Result, Ok}
use Rattle.std.proofs.lemmas.Bool.Decides.{nat_tests}
use Rattle.dwarf_base.specs.declared.common.Encoding.{Encoding}
use Rattle.dwarf_base.specs.declared.errors.Error.{Error}
use Rattle.dwarf_base.specs.Reads.{Text}
use Rattle.dwarf_meaning.specs.Operations.{UnsignedConstant}
use Rattle.dwarf_meaning.specs.Opcodes.{Makes, row_of}
use Rattle.dwarf_meaning.specs.Requests.{Answer}
use Rattle.dwarf_meaning.specs.declared.kinds.WaitingKind.{WaitingKind}
use Rattle.dwarf_meaning.specs.Stores.{Setup}
use Rattle.dwarf_meaning.specs.Run.{most_operations}
use Rattle.dwarf_meaning.specs.Meaning.{RequestOutcome}
use Rattle.dwarf_meaning.specs.Rest.{State}
use Rattle.dwarf_meaning.specs.RowWords.{inputs_of, unset}
use Rattle.dwarf_meaning.specs.Steps.{Step, InitialValue, ObjectAddress, MaxIterations, Evaluate, Resume}
use Rattle.dwarf_eval.specs.Permits.{IsOpenFor}
use Rattle.dwarf_eval.specs.declared.op.results.EvaluationResult.{EvaluationResult}
use Rattle.dwarf_expr.specs.Outcomes.{unlimited, GivesOutcome, inputs_in, outcome_of, IsEvaluated, IsAnswered, IsResultOf}
use Rattle.dwarf_expr.proofs.CallOutcomes.{evaluate_gives, resume_gives}
pub use Rattle.dwarf_meaning.proofs.Turns.{few_turns}

-- the row of a literal's opcode
pub literal_row : (encoding : Encoding) (n : ℕ) → n < 32 → row_of encoding (0x30 + n) ≡ Makes (UnsignedConstant n)
unfolding row_of
literal_row encoding n h = grind (arith, nat_tests, h)

module _ {R O : Type 0} (view : R → Text) (number : O → ℕ) (setup : Setup) (text : Text)
    (replied : Result (EvaluationResult R O) Error) (new : State) where
  outcome_at_start : IsEvaluated view number setup text replied new
      → GivesOutcome view number setup text unset [] (outcome_of setup text []) replied new
  unfolding most_operations
  outcome_at_start r =
      evaluate_gives view number r.old setup text unset (outcome_of setup text []) replied new
      (record {
        setup_is = ap (λ (x : State). unlimited x.setup) r.is_fresh ∙ r.setup_is;
        text_is = ap (λ (x : State). x.text) r.is_fresh;
        status_is = ap (λ (x : State). x.status) r.is_fresh;
        settings_are = ap (λ (x : State). x.store.settings) r.is_fresh;
      }) r.evaluates refl

  outcome_of_answer : (answer : Answer) → IsAnswered view number setup text answer replied new
      → GivesOutcome view number setup text unset (inputs_of unset (answer ∷ []))
      (outcome_of setup text (inputs_of unset (answer ∷ []))) replied new
  outcome_of_answer answer r =
      let first : GivesOutcome view number setup text unset [] (RequestOutcome r.request r.positions) (Ok r.asked) r.old =
      subst (λ (first : Result (EvaluationResult R O) Error).
      GivesOutcome view number setup text unset [] (RequestOutcome r.request r.positions) first r.old) r.first_is
      (subst (λ (given : Text). GivesOutcome view number setup given unset [] (RequestOutcome r.request r.positions) r.first r.old)
      (sym r.text_is) r.gives) in
      resume_gives view number r.old setup text unset [] answer (outcome_of setup text (inputs_of unset (answer ∷ [])))
      replied new first.by_outcome.3
      (subst (λ (kind : WaitingKind). IsOpenFor kind r.old.status) r.kind_is first.by_outcome.1) r.answers refl

  -- the outcome of a step
  pub outcome_of_step : (step : Step) → IsResultOf view number setup text step replied new
      → GivesOutcome view number setup text unset (inputs_in step) (outcome_of setup text (inputs_in step)) replied new
  outcome_of_step Evaluate r = outcome_at_start r
  outcome_of_step (Resume answer) r = outcome_of_answer answer r
  outcome_of_step (InitialValue value) r = absurd r
  outcome_of_step (ObjectAddress value) r = absurd r
  outcome_of_step (MaxIterations value) r = absurd r
