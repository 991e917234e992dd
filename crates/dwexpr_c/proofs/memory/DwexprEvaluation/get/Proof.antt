-- `get` lends the value after the pointer, and the handle follows it.
use Rattle.std.proofs.Common.{◌≡◌, ℕ, List, [], ◌∷◌, refl, sym, ap, ◌∙◌, Option, None, Some}
use Rattle.std.proofs.raw_atomic.Walks.{proved}
use seplogic.Ra.Ura.{Ura}
use mir.Syntax.{named}
use mir.Val.{Val, vptr}
use base.Fraction.{full_share}
use base.Logic.{SProp, ent, sep, id⊢}
use base.Fml.{Fml, Lft, GName, Share, ftrue, fsep, fex, flft}
use types.Logic.{Logic, sem}
use types.Kit.{‵, raw, ◌⊛◌, some, later, at_ret, ◌$◌, ◌∵◌, !, qed, by, done, move, keep, drop, use1, split, join, pick, await, fsplit, fsplit3, fjoin, fpack, rewrite, suffices, frame, group}
use types.Run.{enter, of_opd, addr, load, stop, fld, first, blocks, exec, returns}
use types.Part.{whole, sub, look_in}
use types.ByLocal.{alloc_all, pass_all, free_all, look_at, get, through, sets, sets_last, env}
use contract.Monad.{Fun}
use contract.Running.{tables}
use prog.Memory.{Memory}
use prog.Routine.{Routine}
use denote.Triple.Clauses.{Clauses}
use denote.Exit.{no}
use denote.Follow.{follows, Part, lends_Part}
use denote.Laws.{shows}
use denote.Memory.{mem, cell_at, part_of}
use denote.RattleType.{RattleType, Valss}
use denote.RawPtr.{Ptr, RawPtr, block_ptr, lies_at, in_a_block}
use denote.Ref.{MutRef, mut_vals, mut_Tells}
use denote.Signature.{plain, mut_ref_to}
use denote.Steps.{nothing, opens, peeks}
use denote.Struct.Owning.{shape}
use denote.Struct.Struct.{within}
use denote.Triple.Walked.{Stays, walk_of, says, stay_dropped, Goes-spent_ref, ends_at}
use Rattle.std.proofs.VecSteps.Shapes.{after}
use Rattle.dwexpr_c.specs.declared.memory.DwexprEvaluation.{DwexprEvaluation}
use Rattle.dwexpr_c.specs.contracts.memory.DwexprEvaluation as handle
use contract.Monad.{fact}
use denote.Steps.{heard}
use Rattle.dwexpr_c.specs.Held.{IsBegun}
use Rattle.dwexpr_c.specs.Owned.{held_row, owned_at}
use Rattle.dwexpr_c.specs.contracts.memory.DwexprEvaluation.get as f
use Rattle.dwexpr_c.proofs.memory.DwexprEvaluation.TheLaws.{lowers}
use Rattle.dwexpr_c.proofs.memory.DwexprEvaluation.get.Statement.{statement}
use Rattle.dwexpr_c.proofs.memory.DwexprEvaluation.get.Code as code

abbrev R : RattleType
R = handle.the_row

abbrev T : RattleType
T = held_row

opened : (m : Option T.Denot) → IsBegun m → (x : T.Denot) × (m ≡ Some x)
opened (Some x) s = (x, refl)
opened None s = absurd s

abbrev stayed : Stays f.ended.signature.params f.ended.kept
stayed = (stay_dropped (mut_ref_to (0 ∷ []) tt (plain (λ _. R))) no, tt)

module _ {M : Type 1} {𝓤 : Ura M} (𝓛 : Logic 𝓤) (h : DwexprEvaluation) (us : List Val) (b o b' o' : ℕ) (e : h.memory ≡ block_ptr b' o') where
  abbrev Fields : Fml
  Fields = fex (Valss (RawPtr ∷ [])) (within (shape handle.the_type) (h.memory, tt) us)

  abbrev Rest : Fml
  Rest = fsep Fields (cell_at full_share R.mir us b o)

  back : (w : T.Denot) → ent 𝓤 (sep 𝓤 (sem 𝓛 ((mem T).own_at w b' o')) (sem 𝓛 Rest)) (sem 𝓛 ((mem R).own_at (record h { held = Some w }) b o))
  unfolding part_of
  back w =
      qed 𝓛 (‵ (lies_at T full_share (block_ptr b' o') w) ∷ ‵ Rest ∷ []) ∵
      rewrite ! 0 (λ (p : Ptr). ‵ (lies_at T full_share p w)) (sym e) refl $ move ! (1 ∷ []) $ fsplit ! $
      move ! (0 ∷ 2 ∷ []) $ fjoin ! $ move ! (1 ∷ 0 ∷ []) $ fjoin ! $
      fpack ! (List Val) (λ vs. fsep (cell_at full_share R.mir vs b o) (R.own_val (record h { held = Some w }) vs)) us $ done !

module _ {M : Type 1} {𝓤 : Ura M} (𝓛 : Logic 𝓤) (at_mem : Memory → SProp 𝓤) (run : Routine → Fun 𝓤) where
  abbrev c : Clauses 𝓤 f.ended
  c = f.clauses 𝓛 at_mem run

  abbrev bound : Lft → Share → ℕ → ℕ → GName → DwexprEvaluation → (walk_of 𝓛 f.ended stayed c).Ghost
  bound κ q rb ro γ h = (((κ, tt), (q, tt), tt, (record { ref_ptr = (rb, ro); ghost_name = γ; now = h }, tt), (vptr rb ro ∷ [], tt)), tt)

  exits : (κ : Lft) (q : Share) (rb ro : ℕ) (γ : GName) (h : DwexprEvaluation) (x : T.Denot) (is : h.held ≡ Some x) (b o : ℕ) (γ' : GName)
      → ent 𝓤 (sep 𝓤 (sem 𝓛 ((MutRef (named 0) κ T).own_val (record { ref_ptr = (b, o); ghost_name = γ'; now = x }) (vptr b o ∷ []))) (sep 𝓤 (𝓛.A.lft κ q) (sem 𝓛 (follows R T γ γ' (λ w. record h { held = Some w })))))
      ((walk_of 𝓛 f.ended stayed c).post (bound κ q rb ro γ h) (vptr b o))
  exits κ q rb ro γ h x is b o γ' =
      qed 𝓛 (‵ ((MutRef (named 0) κ T).own_val (record { ref_ptr = (b, o); ghost_name = γ'; now = x }) (vptr b o ∷ [])) ∷ ‵ (flft κ q) ∷ ‵ (follows R T γ γ' (λ w. record h { held = Some w })) ∷ []) ∵
      suffices ! _ (ends_at 𝓛 f.ended stayed c (bound κ q rb ro γ h) (vptr b o) (record { ref_ptr = (b, o); ghost_name = γ'; now = x }) (tt, tt) (tt, tt)) $
      nothing ! $ nothing ! $ fjoin ! $ join ! $ nothing ! $ move ! (2 ∷ 0 ∷ []) $ join ! $ join ! $ frame ! $ says ! is $ done !

pub get_spec : {M : Type 1} → statement M
get_spec 𝓤 𝓛 𝓜 𝓡 wired =
    let c = f.clauses 𝓛 𝓜.mem 𝓡.returns in let W = walk_of 𝓛 f.ended stayed c in let 𝓣 = tables 𝓤 𝓛.H 𝓜 𝓡 𝓡.env in
    proved 𝓛 f.ended stayed c 𝓜 𝓡 (Goes-spent_ref 𝓛 1 (0 ∷ []) tt (plain (λ _. R)), tt)
    f.Key.name code.function (code.unfolded 𝓤 𝓛.H 𝓜 𝓡 wired)
    (λ κs. (mut_vals, tt)) (λ κs. (mut_Tells (named 0) κs.0 R, tt)) (λ κs qs bounds a _ are.
    let κ = κs.0 in let q = qs.0 in let b = a.0.ref_ptr.0 in let o = a.0.ref_ptr.1 in let h = a.0.now in let γ = a.0.ghost_name in let vs = mut_vals a.0 in
    let y : W.Ghost = ((κs, qs, bounds, a, (vs, tt)), tt) in
    qed 𝓛 (((‵ (flft κ q) ⊛ ‵ ftrue) ⊛ ‵ ((MutRef (named 0) κ R).own_val a.0 vs) ⊛ ‵ ftrue) ∷ raw (fact 𝓤 (IsBegun h.held)) ∷ []) ∵
    move ! (1 ∷ []) $ heard ! _ (λ begun. let ox = opened h.held begun in let x = ox.0 in let isx = ox.1 in
    split ! $ split ! $ move ! (2 ∷ []) $ split ! $ keep ! (0 ∷ 2 ∷ []) $
    enter ! _ _ _ _ _ $ alloc_all ! (λ l. pass_all ! refl ((tt, tt), tt) $
    fsplit3 ! $ drop ! $ opens ! tt R b o (λ us.
    move ! (1 ∷ []) $ peeks ! R _ (shows 𝓛 R) h us (λ is. fsplit ! $ move ! (1 ∷ []) $
    rewrite ! 0 (λ (m : Option T.Denot). ‵ (owned_at h.memory m)) isx refl $
    in_a_block ! h.memory (λ p. lies_at T full_share p x) (id⊢ 𝓤 _) (λ b' o' e.
    let word = lowers.val_is h us is ∙ ap (λ (p : Ptr). lowers.lowered (record h { memory = p }) ∷ []) e in
    let Cell = λ (ws : List Val). ‵ (cell_at full_share R.mir ws b o) in
    rewrite ! 2 Cell word refl $
    -- [the value; the fields; the handle's cell; the open borrow, in three entries]
    first ! $ blocks ! $
    sets ! (of_opd ! (load ! (through ! refl (fld ! refl (stop !))) (look_in ! 2 (sub ! 0 refl (whole !))))) refl (tt, tt) $
    sets ! (of_opd ! (get ! refl)) refl (tt, tt) $
    sets_last ! (addr ! (through ! refl (stop !))) refl (tt, tt) $
    exec ! 𝓣.C 𝓣.Λ (env code.Mir.locals l) (after 1 (code.function).body) (at_ret _ (W.post y)) $
    sets ! (of_opd ! (get ! refl)) refl (tt, tt) $
    rewrite ! 2 Cell (sym word) refl $
    move ! (1 ∷ 2 ∷ []) $ fjoin ! $ move ! (2 ∷ 3 ∷ 4 ∷ 1 ∷ 0 ∷ []) $ group ! 5 $
    use1 𝓛 (later (some (λ (γ' : GName). raw (Part 𝓛 R T (λ w. record h { held = Some w }) (named 0) κ q b o b' o' γ (sem 𝓛 (Rest 𝓛 h us b o b' o' e)) (back 𝓛 h us b o b' o' e) x γ'))))
    (lends_Part 𝓛 R T (λ w. record h { held = Some w }) (named 0) κ q b o b' o' γ (sem 𝓛 (Rest 𝓛 h us b o b' o' e)) (back 𝓛 h us b o b' o' e) (R.coded.code h) (R.coded.code h) x) $ await ! tt $ pick ! (λ γ'.
    returns ! (look_at ! 0 refl) $ free_all ! refl $ keep ! (0 ∷ []) $
    by ! (exits 𝓛 𝓜.mem 𝓡.returns κ q b o γ h x isx b' o' γ'))))))))
