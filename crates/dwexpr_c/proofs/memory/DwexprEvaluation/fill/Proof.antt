-- `fill` writes a value into the room after the pointer.
use Rattle.std.proofs.Common.{◌≡◌, List, [], ◌∷◌, ◌++◌, refl, sym, ap, ◌∙◌, subst, Option, None, Some}
use Rattle.std.proofs.raw_atomic.Walks.{proved_at}
use Rattle.std.proofs.alloc.Calls.{Al, handle_tells, Goes-blank}
use borrow.Table.OneValue.{part_in_at}
use mir.Raw.{raw as bare}
use mir.Syntax.{Ty, erased, impl, tnil, dnil}
use mir.Val.{Val, vptr, vunit}
use base.Fraction.{full_share}
use base.Logic.{SProp, ent, id⊢}
use base.Fml.{ftrue, flft, froom}
use prog.Wp.{WpFn}
use types.Kit.{‵, raw, ◌⊛◌, at_ret, ◌$◌, ◌∵◌, !, qed, done, move, keep, use1, use2, split, join, fsplit, fsplit3, fjoin, feq_i, rewrite, suffices, frame, group}
use types.Run.{enter, of_opd, unit_lit, load, init, stop, fld, assigns_last, first, blocks, exec, returns}
use types.Part.{whole, sub, look_in}
use types.ByLocal.{alloc_all, pass_all, free_all, look_at, get, through, sets, env}
use contract.Monad.{fact}
use contract.Running.{tables}
use denote.Exit.{no}
use denote.Laws.{shows}
use denote.Memory.{cell_at, lone}
use denote.RattleType.{RattleType, owns}
use denote.RawPtr.{Ptr, block_ptr, lies_at, room_at, in_a_block}
use denote.Ref.{mut_vals}
use denote.Signature.{plain, types_at, static_lft}
use denote.Steps.{nothing, opens, closes, peeks, heard}
use denote.Triple.Walked.{Stays, walk_of, says, stay_dropped, stay_ref, Goes-ref, ends_at}
use Rattle.std.proofs.VecSteps.Shapes.{after}
use Rattle.dwexpr_c.specs.Owned.{held_row, owned_at}
use Rattle.dwexpr_c.specs.contracts.memory.DwexprEvaluation as handle
use Rattle.dwexpr_c.specs.contracts.memory.Held.{the_row}
use Rattle.dwexpr_c.specs.contracts.memory.DwexprEvaluation.fill as f
use Rattle.dwexpr_c.proofs.memory.DwexprEvaluation.TheLaws.{lowers}
use Rattle.dwexpr_c.proofs.memory.Held.TheLaws.{the_row_laws}
use Rattle.dwexpr_c.proofs.memory.DwexprEvaluation.fill.Statement.{statement}
use Rattle.dwexpr_c.proofs.memory.DwexprEvaluation.fill.Code as code

abbrev R : RattleType
R = handle.the_row

abbrev T : RattleType
T = held_row

-- the type as the code writes it
abbrev δ : Ty
δ = lone (the_row (record { mir = erased; lft = [] })).mir

abbrev al : Al
al = record { row = T; laws = the_row_laws static_lft; g = record { dealloc_token = λ a σ p. ftrue }; d = impl [] tnil dnil; drops = impl [] tnil dnil }

abbrev stayed : Stays f.ended.signature.params f.ended.kept
stayed = (stay_ref (0 ∷ []) tt (plain (λ _. R)), (stay_dropped (plain (λ _. T)) no, tt))

pub fill_spec : {M : Type 1} → statement M
fill_spec 𝓤 𝓛 𝓜 𝓡 wired =
    let c = f.clauses 𝓛 𝓜.mem 𝓡.returns in let W = walk_of 𝓛 f.ended stayed c in let 𝓣 = tables 𝓤 𝓛.H 𝓜 𝓡 𝓡.env in
    proved_at 𝓛 f.ended stayed c 𝓜 𝓡 (Goes-ref 𝓛 1 0 tt (plain (λ _. R)), (Goes-blank 𝓛 1 (plain (λ _. T)) no (λ κs x g. tt), tt))
    f.Key.name code.function (code.unfolded 𝓤 𝓛.H 𝓜 𝓡 wired) (λ z are.
    let κs = z.0.0 in let κ = κs.0 in let q = z.0.1.0 in let r = z.0.3.0 in let x = z.0.3.1.0 in
    let b = r.ref_ptr.0 in let o = r.ref_ptr.1 in let h = r.now in
    let Post : Val → SProp 𝓤 = W.post z in let Runs : List Val → SProp 𝓤 = λ ws. WpFn 𝓤 𝓛.H 𝓣.C 𝓣.Λ code.function ws Post in
    let ev : z.0.4.0 ≡ mut_vals r = are.0.0 in
    qed 𝓛 (((‵ (flft κ q) ⊛ ‵ ftrue) ⊛ ‵ (owns (types_at f.signature.params κs) z.0.3 z.0.4)) ∷ raw (fact 𝓤 (h.held ≡ None)) ∷ []) ∵
    move ! (1 ∷ []) $ heard ! _ (λ none. split ! $ move ! (1 ∷ []) $ fsplit ! $ move ! (1 ∷ []) $ fsplit ! $
    -- [the value; nothing; the reference; the token]
    handle_tells al ! x z.0.4.1.0 (λ v ex good.
    suffices ! (Runs (vptr b o ∷ v ∷ [])) (subst (λ (us : List Val). ent 𝓤 (Runs (vptr b o ∷ v ∷ [])) (Runs us)) (sym (λ i. ev i ++ (ex i ++ []))) (id⊢ 𝓤 (Runs (vptr b o ∷ v ∷ [])))) $
    move ! (3 ∷ []) $ split ! $ keep ! (4 ∷ 0 ∷ 2 ∷ []) $
    enter ! 𝓣.C 𝓣.Λ code.function (vptr b o ∷ v ∷ []) Post $ alloc_all ! (λ l. pass_all ! refl ((tt, tt), (good, tt)) $
    fsplit3 ! $ move ! (1 ∷ 2 ∷ 3 ∷ []) $ opens ! tt R b o (λ us.
    move ! (1 ∷ []) $ peeks ! R _ (shows 𝓛 R) h us (λ is. fsplit ! $ move ! (1 ∷ []) $
    rewrite ! 0 (λ (m : Option T.Denot). ‵ (owned_at h.memory m)) none refl $
    in_a_block ! h.memory (λ p. room_at T p) (id⊢ 𝓤 _) (λ b' o' e.
    use1 𝓛 (‵ (froom (bare (lone T.mir)) b' o')) (𝓛.laws.room-raw (lone T.mir) b' o') $ use1 𝓛 (‵ (froom δ b' o')) (𝓛.laws.raw-room δ b' o') $
    let word = lowers.val_is h us is ∙ ap (λ (p : Ptr). lowers.lowered (record h { memory = p }) ∷ []) e in
    let Cell = λ (ws : List Val). ‵ (cell_at full_share R.mir ws b o) in
    rewrite ! 2 Cell word refl $
    -- [the room; the fields; the handle's cell; the open borrow, in three entries; the reference's word; the value]
    first ! $ blocks ! $
    sets ! (of_opd ! (load ! (through ! refl (fld ! refl (stop !))) (look_in ! 2 (sub ! 0 refl (whole !))))) refl (tt, tt) $
    sets ! (of_opd ! (get ! refl)) refl (tt, tt) $
    sets ! (of_opd ! (get ! refl)) refl good $
    assigns_last ! (of_opd ! (get ! refl)) (through ! refl (stop !)) (init ! 0 refl good) $
    exec ! 𝓣.C 𝓣.Λ (env code.Mir.locals l) (after 1 (code.function).body) (at_ret _ Post) $
    sets ! (of_opd ! (unit_lit !)) refl (tt, tt) $
    rewrite ! 2 Cell (sym word) refl $
    move ! (0 ∷ 7 ∷ []) $ use2 𝓛 (‵ (lies_at T full_share (block_ptr b' o') x)) (part_in_at 𝓛 T refl full_share x b' o' δ refl v) $
    rewrite ! 0 (λ (p : Ptr). ‵ (lies_at T full_share p x)) (sym e) refl $
    move ! (1 ∷ []) $ fjoin ! $ move ! (1 ∷ []) $ closes ! tt R (record h { held = Some x }) us b o $
    -- [two parts of self; the token; self's first part]
    returns ! (look_at ! 0 refl) $ free_all ! refl $ move ! (3 ∷ []) $
    suffices ! _ (ends_at 𝓛 f.ended stayed c z vunit tt (record h { held = Some x }, ((tt, tt), tt)) (tt, (tt, tt))) $ says ! refl $
    group ! 3 $ nothing ! $ nothing ! $ join ! $ move ! (1 ∷ 0 ∷ []) $ join ! $ nothing ! $ move ! (2 ∷ 0 ∷ []) $ join ! $ frame ! $ frame ! $
    feq_i ! _ (vunit ∷ []) _ refl $ done !)))))))
