use Rattle.dwarf_eval.proofs.Ticks.{[], ◌∷◌, refl, proved, ftrue, tables, ‵, raw, ◌$◌, ◌∵◌, !, qed, move, keep, join, fjoin, suffices, frame, enter, no_more, and_then, returns, alloc_all, pass_all, free_all, look_at, get, sets, nothing, on_entry, Stays, walk_of, ends_at, token, Mark, made, tells_last}
use types.Kit.{use0}
use types.Part.{agg}
use denote.Builtin.{unit}
use Rattle.dwarf_eval.specs.contracts.run.ticks.Ticks as ticks
use Rattle.dwarf_eval.specs.contracts.run.ticks.Ticks.new as f
use Rattle.dwarf_eval.proofs.run.ticks.Ticks.new.Statement.{statement}
use Rattle.dwarf_eval.proofs.run.ticks.Ticks.new.Code as code

abbrev stayed : Stays f.ended.signature.params f.ended.kept
stayed = tt

pub new_spec : {M : Type 1} → statement M
new_spec 𝓤 𝓛 𝓜 𝓡 wired =
    let c = f.clauses 𝓛 𝓜.mem 𝓡.returns in let W = walk_of 𝓛 f.ended stayed c in let 𝓣 = tables 𝓤 𝓛.H 𝓜 𝓡 𝓡.env in
    proved 𝓛 f.ended stayed c 𝓜 𝓡 tt
    f.Key.name code.function (code.unfolded 𝓤 𝓛.H 𝓜 𝓡 wired)
    (λ κs. tt) (λ κs. tt) (λ κs qs bounds a g are.
    let y : W.Ghost = ((κs, qs, bounds, a, tt), g) in
    qed 𝓛 (raw (on_entry 𝓛 f.signature κs qs a tt) ∷ ‵ ftrue ∷ []) ∵ keep ! [] $
    enter ! _ _ _ _ _ $ alloc_all ! (λ l. pass_all ! refl tt $
    sets ! (agg ! (no_more !)) refl (tt, tt) $ sets ! (agg ! (and_then ! (get ! refl) (no_more !))) refl (tt, (tt, tt)) $
    returns ! (look_at ! 0 refl) $ free_all ! refl $
    suffices ! _ (ends_at 𝓛 f.ended stayed c y token (record { marker = record {}; count = 0 }) tt tt) $
    use0 𝓛 (‵ ((Mark (ticks.the_type).name [] unit).own_val (tt, tt) (token ∷ []))) (made (ticks.the_type).name [] unit 𝓛) $ nothing ! $ move ! (1 ∷ 0 ∷ []) $ fjoin ! $ nothing ! $ join ! $ nothing ! $ join ! $ frame ! $ tells_last ! refl))
