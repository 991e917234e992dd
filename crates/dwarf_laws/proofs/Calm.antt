-- Without limits and refusals nothing that is kept depends on the count.
use Rattle.std.proofs.Common.{ℕ, ◌+◌, ◌≡◌, ◌≤◌, ℤ, false, List, [], ◌∷◌, ◌++◌, None, Result, Ok, refl, sym, subst, arith, nat_lt}
use Rattle.std.proofs.lemmas.Bool.{cond-false, cond_both}
use Rattle.std.proofs.lemmas.Bool.Decides.{nat_tests}
use Rattle.dwarf_base.specs.declared.common.Encoding.{Encoding}
use Rattle.dwarf_base.specs.Faults.{Fault}
use Rattle.dwarf_base.specs.declared.errors.Error.TheVariants.{BadBranchTarget}
use Rattle.dwarf_value.specs.declared.types.Value.{Value}
use Rattle.dwarf_meaning.specs.Operations as operation
use Rattle.dwarf_meaning.specs.Operations.{Operation}
use Rattle.dwarf_meaning.specs.Locations.{Location, sized_piece}
use Rattle.dwarf_meaning.specs.Requests.{Request, OnAnswer, Settings}
use Rattle.dwarf_meaning.specs.Acts.{Act, Pushes, Branches, Locates, EndsPiece, RequestAct, FaultAct}
use Rattle.dwarf_meaning.specs.Stores.{Setup, Store, Plain, Pieced, Located, push_value, push_piece, push_values, Next, Goes, RequestNext, FaultNext, next_at, do_act, branch_target, branch}
use Rattle.dwarf_meaning.specs.Run.{located_act}
use Rattle.dwarf_meaning.specs.Refusals.{Never}
use Rattle.dwarf_laws.proofs.Jumps.{Jumping, pushes, branches, locates, ends, asks, refuses}

abbrev pub free : Encoding → (bits : ℕ) → Setup
free encoding bits =
    record { encoding = encoding; offset_bits = bits; limits = record { values = None; callers = None; pieces = None } }

-- no push is refused
abbrev pub calm : Store → Store
calm t = record t { refusal = Never }

-- the same, but for n more that were counted
abbrev pub ahead : ℕ → Store → Store
ahead n t = record t { count = t.count + n; refusal = Never }

-- values pushed in order
abbrev pub piled : List Value → List Value → List Value
piled [] values = values
piled (value ∷ more) values = piled more (value ∷ values)

module _ (encoding : Encoding) (bits : ℕ) where
  abbrev S : Setup
  S = free encoding bits

  -- with any count
  piles : (count : ℕ) (pushed : List Value) (t : Store)
      → push_values S pushed (record t { count = count; refusal = Never })
      ≡ Ok (record t { values = piled pushed t.values; count = count; refusal = Never })
  unfolding push_value
  piles count [] t = refl
  piles count (value ∷ more) t = piles count more (record t { values = value ∷ t.values })

  -- what two operations lead to, at places that are related; the settings stay
  pub data NextBoth (n : ℕ) (Al : ℕ → ℕ → Type 0) (settings : Settings) : Next → Next → Type 0 where
    goes_both : {q q' : ℕ} (t : Store) → Al q q' → t.settings ≡ settings
        → NextBoth n Al settings (Goes q (ahead n t)) (Goes q' (calm t))
    request_both : {request : Request} {on_answer : OnAnswer} (t : Store) → t.settings ≡ settings
        → NextBoth n Al settings (RequestNext request on_answer (ahead n t)) (RequestNext request on_answer (calm t))
    fails_both : {fault : Fault} {next : Next} → NextBoth n Al settings (FaultNext fault) next

  module _ (n : ℕ) (Al : ℕ → ℕ → Type 0) (len len' place place' : ℕ) where
    -- a branch to a place of the text leads to a place beside it
    abbrev pub Lands : ℤ → Type 0
    Lands target =
        branch_target S place target ≤ len → (branch_target S place' target ≤ len') × Al
        (branch_target S place target) (branch_target S place' target)

    branch_both : (target : ℤ) (t : Store) → Lands target
        → NextBoth n Al t.settings (branch len (branch_target S place target) (ahead n t))
        (branch len' (branch_target S place' target) (calm t))
    branch_both target t h =
        cond_both (nat_lt len (branch_target S place target)) _ _ (λ (x : Next). NextBoth n Al t.settings x
        (branch len' (branch_target S place' target) (calm t)))
        (λ e. fails_both)
        (λ e.
        let lands = h (grind (arith, nat_tests)) in
        let no : nat_lt len' (branch_target S place' target) ≡ false = let l = lands.0 in grind (arith, nat_tests) in
        subst (λ (x : Next). NextBoth n Al t.settings
        (Goes (branch_target S place target) (ahead n t)) x)
        (sym (cond-false (nat_lt len' (branch_target S place' target))
        (FaultNext (BadBranchTarget (branch_target S place' target))) (Goes (branch_target S place' target) (calm t))
        no)) (goes_both t lands.1 refl))

    pub done_both : (a : Act) (t : Store) → Al place place' → Jumping Lands a
        → NextBoth n Al t.settings (do_act S place len a (ahead n t)) (do_act S place' len' a (calm t))
    unfolding push_piece
    done_both (Pushes rest pushed) t al pushes =
        let u : Store = record t { values = rest; last = Plain } in
        let v : Store = record u { values = piled pushed rest } in
        subst (λ (r : Result Store Fault). NextBoth n Al t.settings (next_at place r)
        (next_at place' (push_values S pushed (calm u)))) (sym (piles (t.count + n) pushed u))
        (subst (λ (r : Result Store Fault). NextBoth n Al t.settings (Goes place (ahead n v))
        (next_at place' r)) (sym (piles t.count pushed u)) (goes_both v al refl))
    done_both (Branches rest target) t al (branches h) = branch_both target (record t { values = rest; last = Plain }) h
    done_both (Locates rest location) t al locates = goes_both (record t { values = rest; last = Located location }) al refl
    done_both (EndsPiece rest piece) t al ends =
        goes_both (record t { values = rest; last = Pieced; pieces = t.pieces ++ piece ∷ [] }) al refl
    done_both (RequestAct rest request on_answer) t al asks = request_both (record t { values = rest }) refl
    done_both (FaultAct fault) t al refuses = fails_both

    pub located_both : (location : Location) (t : Store) (op : Operation) → Al place place'
        → NextBoth n Al t.settings (do_act S place len (located_act location t place op) (ahead n t))
        (do_act S place' len' (located_act location t place' op) (calm t))
    unfolding push_piece
    located_both location t (operation.Piece size_in_bits bit_offset) al =
        goes_both (record t { last = Pieced; pieces = t.pieces ++ sized_piece size_in_bits bit_offset location ∷ [] }) al refl
    located_both location t op al = fails_both
