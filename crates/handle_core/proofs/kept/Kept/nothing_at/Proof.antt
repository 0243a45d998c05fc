-- `nothing_at` makes the struct, which owns nothing beside its fields.
use mathlib.Core.Path.{refl, sym, subst}
use Rattle.std.specs.Prelude.{None}
use mathlib.Core.List.{List, [], ◌∷◌, ◌++◌}
use seplogic.Ra.Ura.{Ura}
use lib.Dec.{T, lit<}
use mir.Syntax.{ty_ptr}
use mir.Val.{Val, vstruct, vcons, vnil, has_ty, WT}
use base.Logic.{SProp, ent, emp, id⊢}
use base.Fml.{ftrue}
use prog.Memory.{Memory}
use prog.Routine.{Routine}
use prog.Wp.{WpFn, Tables}
use types.Logic.{Logic}
use contract.Monad.{Fun}
use contract.Running.{tables, tables_of}
use sound.WpLaws.{WpFn-mono}
use types.Kit.{Item, ‵, raw, ◌⊛◌, ◌$◌, ◌∵◌, !, qed, by, move, drop, use1, join, split, fsplit, fjoin, fpack, feq_l, feq_i, suffices, done}
use types.Part.{agg}
use types.Run.{no_more, and_then, returns, enter}
use types.ByLocal.{alloc_all, pass_all, free_all, look_at, get, sets}
use denote.Exit.{yes}
use denote.RattleType.{RattleType, Valss, owns}
use denote.RawPtr.{Ptr, RawPtr, block_ptr, null_ptr, ptr_val}
use denote.Signature.{type_at, plain}
use denote.Steps.{nothing}
use denote.Struct.Struct.{within}
use denote.Struct.Owning.{shape, to}
use denote.Triple.Spec.{triple_of}
use denote.Triple.Table.{entered}
use denote.Triple.Walked.{says, Stays, stay_dropped, walk_of, ends_at, Goes-dropped, walk_Meets}
use Rattle.std.proofs.alloc.Calls.{handle_tells, Fits}
use Rattle.std_alloc.proofs.BoxSteps.Form.{box_ty, box_typed}
use Rattle.handle_core.proofs.AsBox.{E}
use Rattle.handle_core.specs.contracts.kept.Kept as Kept
use Rattle.handle_core.specs.contracts.kept.Kept.nothing_at as F
use Rattle.handle_core.specs.contracts.kept.Kept.nothing_at.Key.{name as #self}
use Rattle.handle_core.proofs.kept.Kept.nothing_at.Statement as stated
use Rattle.handle_core.proofs.kept.Kept.nothing_at.Code as code

abbrev Alloc : RattleType
Alloc = (E.al).row

abbrev stayed : Stays (F.ended).signature.params (F.ended).kept
stayed = (stay_dropped (plain (λ _. RawPtr)) yes, (stay_dropped (plain (λ _. Alloc)) yes, tt))

abbrev word : Ptr → Val → Val
word p hv = vstruct (vcons (ptr_val p) (vcons hv vnil))

typed : (p : Ptr) (hv : Val) → Fits E.al hv → T (has_ty (box_ty E) (word p hv)) × WT (word p hv)
typed (block_ptr b o) hv fa = box_typed E hv b o fa
typed null_ptr hv fa = ((box_typed E hv 0 0 fa).0, (record { fits = lit< tt }, (fa.1, tt)))

placed : (p : Ptr) → T (has_ty ty_ptr (ptr_val p)) × WT (ptr_val p)
placed (block_ptr b o) = (tt, tt)
placed null_ptr = (tt, record { fits = lit< tt })

module _ {M : Type 1} {𝓤 : Ura M} (𝓛 : Logic 𝓤) (at_mem : Memory → SProp 𝓤) (run : Routine → Fun 𝓤) (𝓣 : Tables 𝓤 𝓛.H) where
  open 𝓛 use {H}

  walk : (z : (walk_of 𝓛 F.ended stayed (F.clauses 𝓛 at_mem run)).Ghost)
      → ent 𝓤 ((walk_of 𝓛 F.ended stayed (F.clauses 𝓛 at_mem run)).pre z) (WpFn 𝓤 H 𝓣.C 𝓣.Λ code.function (z.0.4.0 ++ (z.0.4.1.0 ++ [])) ((walk_of 𝓛 F.ended stayed (F.clauses 𝓛 at_mem run)).post z))
  walk z =
      let Post = (walk_of 𝓛 F.ended stayed (F.clauses 𝓛 at_mem run)).post z in
      let p = z.0.3.0 in let a = z.0.3.1.0 in let us = z.0.4.0 in let vs = z.0.4.1.0 in
      let To = type_at (F.signature).result tt in
      let made : To.Denot = record { at = p; alloc = a; end = None } in
      qed 𝓛 ((‵ ftrue ⊛ ‵ (owns (RawPtr ∷ Alloc ∷ []) (p, (a, tt)) (us, (vs, tt)))) ∷ raw (emp 𝓤) ∷ []) ∵ split ! $ drop ! $ fsplit ! $
      feq_l ! (λ eu. fsplit ! $ handle_tells E.al ! a vs (λ hv ev fa.
      let w = word p hv in
      nothing ! $ move ! (1 ∷ 0 ∷ []) $ fjoin ! $ feq_i ! (List Val) (ptr_val p ∷ []) (ptr_val p ∷ []) refl $ fjoin ! $ feq_i ! (List Val) (w ∷ []) (w ∷ []) refl $ fjoin ! $
      fpack ! (Valss (RawPtr ∷ Alloc ∷ [])) (within (shape Kept.the_type) (to Kept.the_type made) (w ∷ [])) (ptr_val p ∷ [], (hv ∷ [], tt)) $
      nothing ! $ move ! (1 ∷ 0 ∷ []) $ fjoin ! $ use1 𝓛 (‵ (To.own_val made (w ∷ []))) (id⊢ 𝓤 _) $ move ! (1 ∷ 2 ∷ []) $ drop ! $ drop ! $
      let Γ : List (Item 𝓤) = ‵ (To.own_val made (w ∷ [])) ∷ [] in
      by ! (subst (λ (xs : List Val). ent 𝓤 (types.Kit.⋆ 𝓛 Γ) (WpFn 𝓤 H 𝓣.C 𝓣.Λ code.function (xs ++ (vs ++ [])) Post)) (sym eu)
      (subst (λ (xs : List Val). ent 𝓤 (types.Kit.⋆ 𝓛 Γ) (WpFn 𝓤 H 𝓣.C 𝓣.Λ code.function (ptr_val p ∷ (xs ++ [])) Post)) (sym ev)
      (qed 𝓛 Γ ∵ enter ! 𝓣.C 𝓣.Λ code.function (ptr_val p ∷ hv ∷ []) _ $ alloc_all ! (λ ls. pass_all ! refl (placed p, (fa, tt)) $
      sets ! (agg ! (and_then ! (get ! refl) (and_then ! (get ! refl) (no_more !)))) refl (typed p hv fa) $ returns ! (look_at ! 0 refl) $ free_all ! refl $
      suffices ! _ (ends_at 𝓛 F.ended stayed (F.clauses 𝓛 at_mem run) z w made (tt, (tt, tt)) (tt, (tt, tt))) $ says ! refl $
      nothing ! $ nothing ! $ fjoin ! $ nothing ! $ fjoin ! $ join ! $ nothing ! $ join ! $ done !))))))

pub nothing_at_spec : {M : Type 1} → stated.statement M
unfolding tables_of
nothing_at_spec 𝓤 𝓛 𝓜 𝓡 wired =
    let 𝓣 : Tables 𝓤 𝓛.H = tables_of 𝓤 𝓛.H 𝓜 (tables 𝓤 𝓛.H 𝓜 𝓡 𝓡.env) in
    entered 𝓤 𝓛.H (triple_of 𝓛 F.signature (F.spec 𝓛 𝓜.mem 𝓡.returns)) 𝓣.C 𝓣.Λ #self code.function (code.unfolded 𝓤 𝓛.H 𝓜 𝓡 wired)
    (walk_Meets 𝓛 F.ended stayed (Goes-dropped 𝓛 0 (plain (λ _. RawPtr)) yes (λ κs x f. refl), (Goes-dropped 𝓛 0 (plain (λ _. Alloc)) yes (λ κs x f. refl), tt)) (F.clauses 𝓛 𝓜.mem 𝓡.returns) (WpFn 𝓤 𝓛.H 𝓣.C 𝓣.Λ code.function) (WpFn-mono 𝓤 𝓛.H 𝓛.laws 𝓣 code.function)
    (walk 𝓛 𝓜.mem 𝓡.returns 𝓣))
