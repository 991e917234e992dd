-- Limits and refused pushes change no outcome, except to a refused push.
use Rattle.std.proofs.Common.{ℕ, ◌≡◌, refl, sym, subst, ◌⊎◌, inl, inr, List, Option, Some, None}
use Rattle.dwarf_base.specs.declared.errors.Error.TheVariants.{StackFull}
use Rattle.dwarf_base.specs.Reads.{Text}
use Rattle.dwarf_value.proofs.Agreements.{Agree-refl}
use Rattle.dwarf_meaning.specs.Requests.{Answer, ValueAnswer, NumberAnswer, LocationAnswer, BaseTypeAnswer, Settings, Input}
use Rattle.dwarf_meaning.specs.Stores.{Setup, address_bits}
use Rattle.dwarf_meaning.specs.Meaning.{Outcome, FaultOutcome, First, meaning}
use Rattle.dwarf_meaning.specs.Refusals.{Limits, Refusal, Never}
use Rattle.dwarf_meaning.specs.RowWords.{no_limits}
use Rattle.dwarf_meaning.specs.Agreement.{Both, nothing, something, AgreeingAnswers, value, number, location, base_type, AgreeingSettings, AgreeingInputs}
use Rattle.dwarf_meaning.proofs.Pairs.{paired_refl}
use Rattle.dwarf_laws.proofs.Holdings.{calmed, pushing_calmed}
use Rattle.dwarf_laws.proofs.Meanings.{AgreeUnlessFull, agree, full_first, full_second, courses_both, course_both}

-- ---- the same agrees

both_refl : {A : Type 0} {R : A → A → Type 0} → ((x : A) → R x x) → (o : Option A) → Both R o o
both_refl h None = nothing
both_refl h (Some x) = something (h x)

answers_refl : (w : ℕ) (answer : Answer) → AgreeingAnswers w answer answer
answers_refl w (ValueAnswer kind x) = value (Agree-refl w x)
answers_refl w (NumberAnswer kind n) = number refl
answers_refl w (LocationAnswer text) = location
answers_refl w (BaseTypeAnswer value_type) = base_type

settings_refl : (w : ℕ) (settings : Settings) → AgreeingSettings w settings settings
settings_refl w settings = record { object_address = both_refl (λ n. refl) settings.object_address; maximum = refl }

inputs_refl : (w : ℕ) (input : Input) → AgreeingInputs w input input
inputs_refl w input = record { settings = settings_refl w input.settings; answer = answers_refl w input.answer }

-- ---- without a refusal

full_or_same : (w : ℕ) (x y : Outcome) → AgreeUnlessFull calmed w x y → (x ≡ FaultOutcome StackFull) ⊎ (x ≡ y)
full_or_same w x y (agree a same) = inr (same tt)
full_or_same w x y (full_first free e) = inl e
full_or_same w x y (full_second impossible e) = absurd impossible

-- a push was refused, or it is the outcome without limits and refusals
pub full_or_unlimited : (setup : Setup) (refusal : Refusal) (text : Text) (first : First) (inputs : List Input)
    → (meaning setup refusal text first inputs ≡ FaultOutcome StackFull)
    ⊎ (meaning setup refusal text first inputs ≡ meaning (record setup { limits = no_limits }) Never text first inputs)
unfolding meaning
full_or_unlimited setup refusal text first inputs =
    let w = address_bits setup in
    full_or_same w _ _ (courses_both calmed setup no_limits (pushing_calmed setup.limits) (inr tt) _ _
    (course_both calmed setup no_limits (pushing_calmed setup.limits) (inr tt) refusal Never refl text first first inputs inputs
    (record { initial_value = both_refl (λ n. refl) first.initial_value; settings = settings_refl w first.settings }) (λ k. refl)
    (record { each = paired_refl (inputs_refl w) inputs; same = λ k. refl })))

-- if there are no limits, a push was refused, or it is the outcome without a refusal
pub meaning_calm : (setup : Setup) → setup.limits ≡ no_limits → (refusal : Refusal) (text : Text) (first : First) (inputs : List Input)
    → (meaning setup refusal text first inputs ≡ FaultOutcome StackFull)
    ⊎ (meaning setup refusal text first inputs ≡ meaning setup Never text first inputs)
meaning_calm setup h refusal text first inputs =
    subst
    (λ (l : Limits). (meaning setup refusal text first inputs ≡ FaultOutcome StackFull)
    ⊎ (meaning setup refusal text first inputs ≡ meaning (record setup { limits = l }) Never text first inputs))
    (sym h) (full_or_unlimited setup refusal text first inputs)
