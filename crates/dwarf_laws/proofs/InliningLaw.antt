-- A called text may be written in its call's place.
use Rattle.std.proofs.Common.{ℕ, ◌+◌, ◌≡◌, ◌≢◌, ◌<◌, Bool, List, [], ◌∷◌, ◌++◌, length, Option, Some, None, refl, sym, ap, subst, ◌∙◌, arith, append_assoc}
use Rattle.std.proofs.lemmas.List.{append-nil, append_cancel_right}
use Rattle.std.specs.List.{AllByRecursion}
use Rattle.dwarf_base.specs.declared.common.Encoding.{Encoding}
use Rattle.dwarf_base.specs.Faults.{Fault}
use Rattle.dwarf_base.specs.Reads.{Text}
use Rattle.dwarf_value.specs.declared.types.Value.{Value}
use Rattle.dwarf_value.specs.declared.types.Value.TheVariants.{Generic}
use Rattle.dwarf_meaning.specs.Operands.{context_of}
use Rattle.dwarf_meaning.specs.Operations.{Operation, DieReference}
use Rattle.dwarf_meaning.specs.Splitting.{Joined, items_at}
use Rattle.dwarf_meaning.specs.Splitting as splitting
use Rattle.dwarf_meaning.specs.Requests.{Request, RequiresAtLocation, LocationAnswer, Push, Input, Settings}
use Rattle.dwarf_meaning.specs.Kinds.{is_same_kind}
use Rattle.dwarf_meaning.specs.Acts.{use_of}
use Rattle.dwarf_meaning.specs.Stores.{Setup, Store, Last, Located, push_caller, push_value, push_piece}
use Rattle.dwarf_meaning.specs.Run.{Position, End, CompleteEnd, RequestEnd, FaultEnd, Course, prepend, return_to_caller, after_push, run_callee, await_answer, count_one, run}
use Rattle.dwarf_meaning.specs.Meaning.{Outcome, RequestOutcome, FaultOutcome, CompleteOutcome, First, finish, finish_by, fresh_store, with_initial, outcome_of_end, course_of, meaning}
use Rattle.dwarf_meaning.specs.Refusals.{Limits, Never}
use Rattle.dwarf_meaning.specs.RowWords.{no_limits}
use Rattle.dwarf_laws.specs.Inlining as inlining
use Rattle.dwarf_laws.specs.Inlining.{CallSite, IsStraight, in_force, with_answer, StandsIn, IsInlinable, LeadsToCall, EndAlike, IsInlined, Inlining}
use Rattle.dwarf_meaning.proofs.Splittings.{splitting_items, items_ok}
use Rattle.dwarf_meaning.proofs.DecodingFacts.{spelled_operation}
use Rattle.std.proofs.Math.Seq.{drop-append_seam}
use Rattle.dwarf_laws.proofs.Calm.{free, calm, ahead}
use Rattle.dwarf_laws.proofs.Mirror.{Fits, GoesOn, MirrorsAt, beyond_at, in_full, at_end, mirror}
use Rattle.dwarf_laws.proofs.TextPlaces.{Anyhow, AllStraight, straight_items, StraightFrom, callee_aligned, InCallee, beyond_aligned, Beside}
use Rattle.dwarf_laws.proofs.UpToCall.{call_course, call_turn, straight_beyond, Reached, reached}

-- ---- settings

-- the called text as an answer that changes no setting
abbrev pub answered : CallSite → Settings → Input
answered site settings = record { settings = settings; answer = LocationAnswer (inlining.callee_text site) }

-- the operations that the bytes begin with, and what follows them
straight_both : (encoding : Encoding) (bits : ℕ) (big : Bool) (bytes : List ℕ) (ops : List Operation)
    → Joined (context_of encoding bits big) bytes ops → (rest : List ℕ)
    → AllStraight (items_at encoding bits (record { bytes = bytes ++ rest; is_big = big }))
    → AllByRecursion IsStraight ops × AllStraight (items_at encoding bits (record { bytes = rest; is_big = big }))
straight_both encoding bits big bytes ops splitting.none rest h = (tt, h)
straight_both encoding bits big bytes ops (splitting.one_more front others op ops' s more) rest h =
    let e = ap (λ (xs : List ℕ). items_at encoding bits (record { bytes = xs; is_big = big }))
    (append_assoc front others rest) ∙ items_ok encoding bits big (front ++ (others ++ rest)) op (others ++ rest)
    (spelled_operation encoding bits big front op (others ++ rest) s) in
    let both = subst AllStraight e h in
    let beyond = straight_both encoding bits big others ops' more rest both.1 in
    ((both.0, beyond.0), beyond.1)

-- ---- how both runs end

module _ (encoding : Encoding) (bits : ℕ) where
  abbrev S : Setup
  S = free encoding bits

  same_finish : (t : Store) (last : Last) → finish_by S (ahead 1 t) last ≡ finish_by S (calm t) last
  unfolding push_piece
  same_finish t (Located location) = refl
  same_finish t _ = refl

  alike : (o : Outcome) → ((fault : Fault) → o ≢ FaultOutcome fault) → EndAlike o o
  alike (RequestOutcome request positions) h = inlining.requests
  alike (FaultOutcome fault) h = absurd (h fault refl)
  alike (CompleteOutcome pieces value) h = inlining.completions

  module _ (target : Settings) (T : Text) where
    -- both end in the same way; the second at the end of this text
    abbrev EndsAt : List Request → End → List Request → End → Type 0
    EndsAt front end requests end' = MirrorsAt encoding bits target 1 Anyhow T (length T.bytes) 0 front end requests end'

    outcomes : (front : List Request) (end : End) (requests : List Request) (end' : End)
        → EndsAt front end requests end' → ((fault : Fault) → outcome_of_end S end ≢ FaultOutcome fault)
        → EndAlike (outcome_of_end S end) (outcome_of_end S end')
    outcomes front (CompleteEnd s inputs) requests end' h clean =
        let last : end' ≡ CompleteEnd (calm h.store) inputs = h.goes_on.end
        ∙ ap (λ (c : Course). c.end) (at_end encoding bits target 1 T 0 (calm h.store) inputs) in
        let e : outcome_of_end S (CompleteEnd s inputs) ≡ outcome_of_end S end' = ap (finish S) h.is
        ∙ (same_finish h.store h.store.last ∙ sym (ap (outcome_of_end S) last)) in
        subst (λ (o : Outcome). EndAlike (outcome_of_end S (CompleteEnd s inputs)) o) e (alike _ clean)
    outcomes front (RequestEnd request positions inputs) requests end' h clean =
        subst (λ (x : End). EndAlike (outcome_of_end S (RequestEnd request positions inputs)) (outcome_of_end S x)) (sym h.1.is) inlining.requests
    outcomes front (FaultEnd fault) requests end' h clean = absurd (clean fault refl)

    same_requests : (front : List Request) (end : End) (requests : List Request) (end' : End)
        → EndsAt front end requests end' → ((fault : Fault) → outcome_of_end S end ≢ FaultOutcome fault) → requests ≡ front
    same_requests front (CompleteEnd s inputs) requests end' h clean =
        h.goes_on.requests ∙ (ap (λ (c : Course). front ++ c.requests)
        (at_end encoding bits target 1 T 0 (calm h.store) inputs) ∙ append-nil front)
    same_requests front (RequestEnd request positions inputs) requests end' h clean = h.1.same
    same_requests front (FaultEnd fault) requests end' h clean = absurd (clean fault refl)

  -- ---- from the call on

  enters : (position : Position) (callee : Text) (bytes : List ℕ) (t : Store) (inputs : List Input) → 0 < length bytes
      → run_callee (run S) S position 0 callee bytes (ahead 1 t) inputs ≡ return_to_caller (run S) position 0
      (run S callee 0 1 (ahead 1 t) inputs) (run S callee 0 1 (ahead 1 t) inputs).end
  unfolding push_caller
  enters position callee [] t inputs h = absurd (omega (arith, h))
  enters position callee (byte ∷ bytes) t inputs h = refl

  module _ (site : CallSite) (offset : DieReference) (stands : StandsIn S site offset) (fit : IsInlinable S site) where
    abbrev A : List ℕ
    A = site.before

    abbrev K : List ℕ
    K = site.call

    abbrev C : List ℕ
    C = site.callee

    abbrev B : List ℕ
    B = site.beyond

    abbrev outer : Text
    outer = inlining.outer_text site

    abbrev inlined : Text
    inlined = inlining.inlined_text site

    abbrev callee : Text
    callee = inlining.callee_text site

    abbrev after_call : Position
    after_call = record { text = outer; place = length A + length K }

    straight_all : StraightFrom encoding bits outer 0
    straight_all =
        subst AllStraight (sym (splitting_items encoding bits site.is_big outer.bytes stands.operations stands.fault
        stands.splits)) (straight_items stands.operations stands.fault stands.straight)

    module _ (straight : StraightFrom encoding bits outer (length A + length K)) (target : Settings) where
      after_callee : (t : Store) (inputs : List Input) → Fits target inputs t.settings
          → let x = run S outer (length A + length K) 0 (ahead 1 t) inputs in
          let y = run S inlined (length A + length C) 0 (calm t) inputs in EndsAt target inlined x.requests x.end y.requests y.end
      after_callee t inputs f =
          let x = run S outer (length A + length K) 0 (ahead 1 t) inputs in
          let y = run S inlined (length A + length C) 0 (calm t) inputs in
          let b : Beside encoding bits A K C B site.is_big (length A + length K) (length A + length C) = record
          { beyond = 0; first = omega arith; second = omega arith; straight = straight } in
          in_full encoding bits target 1 Anyhow inlined (length inlined.bytes) 0 x y
          (mirror encoding bits target 1 outer inlined ⊥ Anyhow (Beside encoding bits A K C B site.is_big) (length inlined.bytes)
          (beyond_aligned encoding bits A K C B site.is_big target 1 Anyhow (λ place later inner left enough. tt))
          (length A + length K) (length A + length C) 0 0 t inputs b f)

      back_ends : (c : Course) (end : End) (y : Course)
          → MirrorsAt encoding bits target 1 Anyhow inlined (length A + length C) 0 c.requests end y.requests y.end
          → let x = return_to_caller (run S) after_call 0 c end in EndsAt target inlined x.requests x.end y.requests y.end
      back_ends c (FaultEnd fault) y h = tt
      back_ends c (RequestEnd request positions inputs) y h = h
      back_ends c (CompleteEnd s inputs) y h =
          let first = run S outer (length A + length K) 0 (ahead 1 h.store) inputs in
          let second = run S inlined (length A + length C) 0 (calm h.store) inputs in
          let both : EndsAt target inlined (c.requests ++ first.requests) first.end (c.requests ++ second.requests) second.end =
          beyond_at encoding bits target 1 ⊥ Anyhow inlined (length inlined.bytes) 0 c.requests first.requests first.end
          second.requests second.end (after_callee h.store inputs h.fits) in
          subst (λ (u : Store). let x = run S outer (length A + length K) 0 u inputs in
          EndsAt target inlined (c.requests ++ x.requests) x.end y.requests y.end) (sym h.is)
          (subst (λ (l : List Request). EndsAt target inlined (c.requests ++ first.requests) first.end l y.end) (sym h.goes_on.requests)
          (subst (λ (e : End). EndsAt target inlined (c.requests ++ first.requests) first.end (c.requests ++ second.requests) e)
          (sym h.goes_on.end) both))

      -- the callee in its call's place, and what follows
      callee_ends : (t : Store) (inputs : List Input) → Fits target inputs t.settings
          → let c = run S callee 0 1 (ahead 1 t) inputs in let x = return_to_caller (run S) after_call 0 c c.end in
          let y = run S inlined (length A) 0 (calm t) inputs in EndsAt target inlined x.requests x.end y.requests y.end
      callee_ends t inputs f =
          let c = run S callee 0 1 (ahead 1 t) inputs in
          let y = run S inlined (length A) 0 (calm t) inputs in
          back_ends c c.end y
          (in_full encoding bits target 1 Anyhow inlined (length A + length C) 0 c y
          (mirror encoding bits target 1 callee inlined ⊥ Anyhow (InCallee encoding bits A K C B site.is_big)
          (length A + length C) (callee_aligned encoding bits A K C B site.is_big target 1 fit.some fit.bytes
          fit.short) 0 (length A) 1 0 t inputs (omega arith, omega arith) f))

    -- the outer run from the call on, with the answer
    answered_call : (t : Store) (settings : Settings) (inputs : List Input)
        → await_answer (run S) S after_call 0 (RequiresAtLocation offset) Push (count_one (calm t))
        (answered site settings ∷ inputs)
        ≡ (let u : Store = record t { settings = settings } in
        let c = run S callee 0 1 (ahead 1 u) inputs in return_to_caller (run S) after_call 0 c c.end)
    unfolding use_of is_same_kind
    answered_call t settings inputs =
        enters after_call callee C (record t { settings = settings }) inputs fit.some

    -- ---- the whole

    abbrev initial : Option ℕ → List Value
    initial None = []
    initial (Some number) = Generic number ∷ []

    abbrev started : Option ℕ → First → Store
    started o first = record (fresh_store first Never) { values = initial o }

    starts : (o : Option ℕ) (first : First) (text : Text) (inputs : List Input)
        → after_push (run S) (record { text = text; place = 0 }) 0 inputs (with_initial S o (fresh_store first Never))
        ≡ run S text 0 0 (calm (started o first)) inputs
    unfolding push_value
    starts None first text inputs = refl
    starts (Some number) first text inputs = refl

    module _ (first : First) (earlier : List Input) (requests : List Request)
        (leads : LeadsToCall S site offset first earlier requests) where
      abbrev t : Store
      t = started first.initial_value first

      abbrev settings : Settings
      settings = in_force first.settings earlier

      abbrev course : Text → List Input → Course
      course text inputs = course_of S Never text first inputs

      begins : (text : Text) (inputs : List Input) → course text inputs ≡ run S text 0 0 (calm t) inputs
      begins text inputs = starts first.initial_value first text inputs

      front_straight : AllByRecursion IsStraight stands.ahead × AllStraight (items_at encoding bits (record { bytes = K ++ B; is_big = site.is_big }))
      front_straight = straight_both encoding bits site.is_big A stands.ahead stands.joined (K ++ B) straight_all

      straight : StraightFrom encoding bits outer (length A + length K)
      straight =
          straight_beyond encoding bits A K B site.is_big offset stands.spelled
          (subst (λ (xs : List ℕ). AllStraight (items_at encoding bits (record { bytes = xs; is_big = site.is_big })))
          (sym (drop-append_seam A (K ++ B))) front_straight.1)

      abbrev AtCall : Type 0
      AtCall = Reached encoding bits A K B site.is_big offset stands.spelled t earlier

      at_call : AtCall
      at_call =
          reached encoding bits A K B site.is_big offset stands.spelled stands.ahead stands.joined front_straight.0 straight
          t earlier (sym (ap (λ (c : Course). c.end) (begins outer earlier)) ∙ leads.end)

      abbrev call : Request
      call = RequiresAtLocation offset

      module _ (r : AtCall) where
        goes_on : (X : List ℕ) (more : List Input) → let c = course (record { bytes = A ++ X; is_big = site.is_big }) (earlier ++ more) in
            GoesOn r.front c.requests c.end (run S (record { bytes = A ++ X; is_big = site.is_big }) (length A) 0 (calm r.store) more)
        goes_on X more =
            subst (λ (c : Course). GoesOn r.front c.requests c.end
            (run S (record { bytes = A ++ X; is_big = site.is_big }) (length A) 0 (calm r.store) more))
            (sym (begins (record { bytes = A ++ X; is_big = site.is_big }) (earlier ++ more))) (r.goes_on X more)

        calls : (inputs : List Input) → run S outer (length A) 0 (calm r.store) inputs ≡ call_course encoding bits A K
            B site.is_big offset stands.spelled r.store inputs
        calls = call_turn encoding bits A K B site.is_big offset stands.spelled r.store [] r.at_call

        front_is : r.front ≡ requests
        front_is =
            append_cancel_right r.front requests (call ∷ [])
            (sym ((goes_on (K ++ B) []).requests ∙ ap (λ (c : Course). r.front ++ c.requests) (calls []))
            ∙ (ap (λ (inputs : List Input). (course outer inputs).requests) (append-nil earlier) ∙ leads.asked))

        same_store : record r.store { settings = settings } ≡ r.store
        same_store = ap (λ (k : Settings). record r.store { settings = k }) (sym r.fits)

        module _ (later : List Input) where
          abbrev callee_course : Store → Course
          callee_course u = let c = run S callee 0 1 (ahead 1 u) later in return_to_caller (run S) after_call 0 c c.end

          abbrev first_rest : Course
          first_rest = callee_course r.store

          abbrev second_rest : Course
          second_rest = run S inlined (length A) 0 (calm r.store) later

          rests : EndsAt (in_force r.store.settings later) inlined first_rest.requests first_rest.end second_rest.requests second_rest.end
          rests = callee_ends straight (in_force r.store.settings later) r.store later refl

          calls_so : run S outer (length A) 0 (calm r.store) (answered site settings ∷ later) ≡ prepend (record { text = outer; place = length A } ∷ []) [] (prepend [] (call ∷ []) first_rest)
          calls_so =
              calls (answered site settings ∷ later)
              ∙ ap (λ (c : Course). prepend (record { text = outer; place = length A } ∷ []) [] (prepend [] (call ∷ []) c))
              (answered_call r.store settings later ∙ ap callee_course same_store)

          abbrev whole : Course
          whole = course outer (with_answer site first earlier later)

          abbrev short : Course
          short = course inlined (earlier ++ later)

          whole_requests : whole.requests ≡ requests ++ (call ∷ first_rest.requests)
          whole_requests =
              (goes_on (K ++ B) (answered site settings ∷ later)).requests
              ∙ (ap (λ (c : Course). r.front ++ c.requests) calls_so ∙ ap
              (λ (l : List Request). l ++ (call ∷ first_rest.requests)) front_is)

          whole_end : whole.end ≡ first_rest.end
          whole_end = (goes_on (K ++ B) (answered site settings ∷ later)).end ∙ ap (λ (c : Course). c.end) calls_so

          short_requests : short.requests ≡ requests ++ second_rest.requests
          short_requests = (goes_on (C ++ B) later).requests ∙ ap (λ (l : List Request). l ++ second_rest.requests) front_is

          short_end : short.end ≡ second_rest.end
          short_end = (goes_on (C ++ B) later).end

          is_inlined : ((fault : Fault) → meaning S Never outer first (with_answer site first earlier later) ≢ FaultOutcome
              fault) → IsInlined S site offset first earlier later requests
          unfolding meaning
          is_inlined faultless =
              let clean : (fault : Fault) → outcome_of_end S first_rest.end ≢ FaultOutcome fault = subst
              (λ (e : End). (fault : Fault) → outcome_of_end S e ≢ FaultOutcome fault) whole_end faultless in
              let alike_ends = outcomes (in_force r.store.settings later) inlined first_rest.requests first_rest.end second_rest.requests second_rest.end rests clean in
              record {
                ends =
                    subst (λ (e : End). EndAlike (outcome_of_end S e) (outcome_of_end S short.end)) (sym whole_end)
                    (subst (λ (e : End). EndAlike (outcome_of_end S first_rest.end) (outcome_of_end S e)) (sym short_end) alike_ends);
                after = first_rest.requests;
                outer_asks = whole_requests;
                inlined_asks =
                    short_requests ∙ ap (λ (l : List Request). requests ++ l)
                    (same_requests (in_force r.store.settings later) inlined first_rest.requests first_rest.end second_rest.requests second_rest.end rests clean);
              }

unlimited : (setup : Setup) → setup.limits ≡ no_limits → free setup.encoding setup.offset_bits ≡ setup
unlimited setup h = ap (λ (limits : Limits). record setup { limits = limits }) (sym h)

pub inlines : Inlining
inlines setup site offset first earlier later requests h =
    subst (λ (k : Setup). StandsIn k site offset → IsInlinable k site → LeadsToCall k site offset first earlier requests
    → ((fault : Fault) → meaning k Never (inlining.outer_text site) first (with_answer site first earlier later) ≢ FaultOutcome fault)
    → IsInlined k site offset first earlier later requests)
    (unlimited setup h)
    (λ stands fit leads faultless. is_inlined setup.encoding setup.offset_bits site offset stands fit first earlier
    requests leads (at_call setup.encoding setup.offset_bits site offset stands fit first earlier requests leads)
    later faultless)
