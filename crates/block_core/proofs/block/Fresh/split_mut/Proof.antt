-- `split_mut` meets its contract: the block follows the slice that `records_mut` lends, and that slice its two halves.
use Rattle.std.proofs.Common.{◌≡◌, ℕ, ◌+◌, ◌≤◌, List, [], ◌∷◌, ◌++◌, length, take, drop, refl, sym, ap, ◌∙◌, subst}
use Rattle.std.proofs.raw_atomic.Walks.{proved, leaves}
use mir.Syntax.{a_type, dcons, dnil, named, w64}
use mir.Val.{Val, vint, vstruct, vcons, vnil, of_list}
use mir.MapTy.{inst_fn}
use seplogic.Ra.Ura.{Ura}
use base.Logic.{SProp, ent, sep, emp, id⊢, wand}
use base.Fml.{GName, Lft, Share, Fml, ftrue, fsep, flft, fres}
use types.Follow.{followed₂}
use types.Logic.{Logic, sem}
use types.Kit.{each, assume, fpack, ‵, raw, ◌⊛◌, some, later, ◌$◌, ◌∵◌, !, qed, by, move, keep, drop as let_go, split, join, fsplit, fjoin, pick, fpick, await, rewrite, use0, use1, use2, feq_i, feq_l}
use types.Run.{enter, stop, addr, no_more, and_then, returns}
use types.ByLocal.{alloc_all, pass_all, free_all, look_at, get, through, sets, lands_as}
use contract.Running.{tables, within as within_run}
use contract.Forks.{onward₂}
use contract.Monad.{fact, fact_i}
use contract.Lifetimes.{lft_at}
use contract.BorrowLft.{◌⊑◌}
use denote.Exit.{yes, no}
use denote.RattleType.{RattleType, Valss, flat, owns}
use denote.Builtin.{usize, RefMutOf}
use denote.Plain.{uint_Makes, uint_vals, uint_Tells}
use denote.Ref.{MutBor, mut_vals, mut_Tells}
use denote.Slice.{MutSlice, slice_val, mut_slice_vals, mut_slice_Tells}
use denote.Signature.{types_at, plain}
use denote.Steps.{nothing, owned, heard, peeks, only}
use denote.Laws.{Is, shows}
use denote.Param.{arg, layout, copied, bounded}
use denote.Param.Laws.{Laws, IsCopy, arg_laws, arg_copy, copied_laws, copied_copy}
use denote.Param.Send.{IsSend, IsSync}
use denote.Array.{Array}
use denote.Follow.{both_by, follows, follows_both, followed}
use denote.Memory.{mem}
use denote.Struct.Struct.{within as within_struct}
use denote.Struct.Declared.{shape}
use denote.Triple.Call.{calls_at}
use denote.Triple.Clauses.{Lasts, lasts}
use denote.Triple.Spec.{triple_of}
use denote.Triple.Table.{framed}
use denote.Triple.Walked.{Stays, walk_of, stay_dropped, Goes-dropped, Goes-spent_ref}
use Rattle.std.specs.List.{SameBelow, TailFrom}
use denote.Struct.Tuple.{Tuple, tuple_type}
use Rattle.block_core.specs.Left.{left_in}
use Rattle.block_core.specs.contracts.block.Fresh.{the_row}
use Rattle.block_core.specs.contracts.block.Fresh.split_mut.{ended, clauses}
use Rattle.block_core.specs.contracts.block.Fresh.split_mut.Key.{name as #self}
use Rattle.block_core.proofs.block.Fresh.split_mut.Statement.{statement}
use Rattle.block_core.proofs.block.Fresh.split_mut.Code as code
use Rattle.block_core.specs.contracts.block.Fresh.records_mut as lent
use Rattle.block_core.proofs.block.Fresh.records_mut.Met as lent_met
use Rattle.std.below.core.specs.contracts.slice.slice+T.split_at_mut as cut
use Rattle.std.below.core.proofs.slice.slice+T.split_at_mut.Met as cut_met

-- what follows a part follows what that part follows
module _ {M : Type 1} {𝓤 : Ura M} (𝓛 : Logic 𝓤) (R T U V : RattleType) (F : T.Denot → R.Denot) (J : U.Denot → V.Denot → T.Denot) where
  open 𝓛 use {A}

  follows_then_both : (γ γ' γ₁ γ₂ : GName) → ent 𝓤 (sep 𝓤 (sem 𝓛 (follows R T γ γ' F)) (sem 𝓛 (follows_both T U V γ' γ₁ γ₂ J))) (sem 𝓛 (follows_both R U V γ γ₁ γ₂ (λ x y. F (J x y))))
  unfolding both_by
  follows_then_both γ γ' γ₁ γ₂ = qed 𝓛 (‵ (follows R T γ γ' F) ∷ ‵ (follows_both T U V γ' γ₁ γ₂ J) ∷ []) ∵
      each ! (λ (w : U.Denot × V.Denot). wand 𝓤 (sep 𝓤 (A.res γ₁ (U.coded.code w.0)) (A.res γ₂ (V.coded.code w.1))) (A.res γ (R.coded.code (F (J w.0 w.1))))) (λ w.
      assume ! (‵ (fsep (fres γ₁ (U.coded.code w.0)) (fres γ₂ (V.coded.code w.1)))) $ move ! (0 ∷ 2 ∷ []) $
      use2 𝓛 (‵ (fres γ' (T.coded.code (J w.0 w.1)))) (followed₂ 𝓛 (mem T) (mem U) (mem V) J γ' γ₁ γ₂ w.0 w.1) $ move ! (1 ∷ 0 ∷ []) $
      by ! (followed 𝓛 R T F γ γ' (J w.0 w.1)))

pub split_mut_spec : {M : Type 1} → statement M
split_mut_spec 𝓤 𝓛 𝓜 𝓡 wired X L C gR dR gC dC gE dE gP dP mR mC mE mP =
    let H = 𝓛.H in let 𝓣 = tables 𝓤 H 𝓜 𝓡 𝓡.env in
    let R : RattleType = copied 0 X in let Y : RattleType = arg (layout X) yes R in
    let LY : Laws Y = arg_laws (layout X) yes R (copied_laws 0 X L) refl in let CY : IsCopy Y = arg_copy (layout X) yes R (copied_copy 0 X C) refl in
    let En = ended X gR dR gC dC gE dE gP dP in let c = clauses X gR dR gC dC gE dE gP dP 𝓛 𝓜.mem 𝓡.returns in
    let inst = bounded (a_type ∷ []) (X, tt) (dcons dR (dcons dC (dcons dE (dcons dP dnil)))) in let fn = inst_fn inst code.function in
    let Row : RattleType = the_row R gR gP in let self = RefMutOf (0 ∷ []) tt (plain (λ _. Row)) (λ _. tt) in
    let hs : Stays En.signature.params En.kept = (stay_dropped self no, (stay_dropped (plain (λ _. usize)) yes, tt)) in
    proved 𝓛 En hs c 𝓜 𝓡 (Goes-spent_ref 𝓛 2 (0 ∷ []) tt (plain (λ _. Row)), (Goes-dropped 𝓛 2 (plain (λ _. usize)) yes (λ κs x w. refl), tt))
    (#self inst) fn (code.unfolded 𝓤 H 𝓜 𝓡 wired (X, tt) dR dC dE dP)
    (λ κs. (mut_vals, (uint_vals w64, tt))) (λ κs. (mut_Tells (named 0) κs.0 Row, (uint_Tells w64, tt))) (λ κs qs bounds a gh are.
    let b : ℕ = a.0.ref_ptr.0 in let o : ℕ = a.0.ref_ptr.1 in let κ : Lft = κs.0 in let q : Share = qs.0 in let at : ℕ = a.1.0 in let others : Fml = fsep (flft κs.1.0 qs.1.0) ftrue in
    let Lives : Type 0 = lft_at 2 1 tt κs ⊑ X.lives in let Within : Type 0 = at ≤ length a.0.now in
    let y : (walk_of 𝓛 En hs c).Ghost = ((κs, qs, bounds, a, (mut_vals a.0, (vint w64 at ∷ [], tt))), gh) in let Post : Val → SProp 𝓤 = (walk_of 𝓛 En hs c).post y in
    qed 𝓛 (((‵ (flft κ q) ⊛ ‵ others) ⊛ ‵ (owns (types_at En.signature.params κs) a y.0.4))
    ∷ (raw (fact 𝓤 Lives) ⊛ raw (fact 𝓤 (IsSend R)) ⊛ raw (fact 𝓤 (IsSync R)) ⊛ raw (fact 𝓤 Within)) ∷ []) ∵
    move ! (1 ∷ []) $ split ! $ heard ! Lives (λ lives. split ! $ heard ! (IsSend R) (λ sends. split ! $ heard ! (IsSync R) (λ syncs. heard ! Within (λ within.
    split ! $ split ! $ move ! (2 ∷ []) $ fsplit ! $ move ! (1 ∷ []) $ let_go ! $
    -- [self; the token; the other tokens]
    enter ! _ _ _ _ _ $ alloc_all ! (λ l. pass_all ! refl ((tt, tt), ((tt, record { fits = are.1.0.1 }), tt)) $
    sets ! (addr ! (through ! refl (stop !))) refl (tt, tt) $
    let G = triple_of 𝓛 (lent.signature Y gR dR gC dC gE dE gP dP) (lent.spec Y gR dR gC dC gE dE gP dP 𝓛 𝓜.mem 𝓡.returns) in
    let z : G.Ghost = ((κs, qs, bounds, (a.0, tt), (mut_vals a.0, tt)), tt) in
    nothing ! $ use0 𝓛 (raw (fact 𝓤 (IsSync R))) (fact_i 𝓤 (IsSync R) (emp 𝓤) syncs) $ join ! $
    use0 𝓛 (raw (fact 𝓤 (IsSend R))) (fact_i 𝓤 (IsSend R) (emp 𝓤) sends) $ join ! $
    use0 𝓛 (raw (fact 𝓤 Lives)) (fact_i 𝓤 Lives (emp 𝓤) lives) $ join ! $
    nothing ! $ move ! (2 ∷ 0 ∷ []) $ fjoin ! $ move ! (2 ∷ 3 ∷ []) $ join ! $ join ! $ join ! $ use1 𝓛 (raw (G.pre z)) (id⊢ 𝓤 _) $
    calls_at ! (framed 𝓤 𝓛.H 𝓜 𝓣) G (lent_met.met 𝓤 𝓛 𝓜 𝓡 (code.calls-block_core::block::Fresh::records_mut 𝓡.env wired) Y LY CY gR dR gC dC gE dE gP dP
    (λ 𝓛' 𝓜' 𝓡' like. let at_fork = (onward₂ 𝓛 𝓜 𝓡 𝓛' 𝓜' 𝓡' like mR 𝓛' 𝓜' (within_run 𝓤 𝓛'.H 𝓜' 𝓡' 𝓡.env) ((λ s x. x), (λ x. x), (λ x. x), λ x. x)) in
    record {
      width_is = at_fork.width_is;
      width_in_range = at_fork.width_in_range;
      width_of_bytes = at_fork.width_of_bytes;
      writes_back = at_fork.writes_back;
      exact = at_fork.exact;
      WIDTH = at_fork.WIDTH;
      put = at_fork.put;
      take = at_fork.take;
      blank = at_fork.blank;
    })
    (λ 𝓛' 𝓜' 𝓡' like. let at_fork = (onward₂ 𝓛 𝓜 𝓡 𝓛' 𝓜' 𝓡' like mC 𝓛' 𝓜' (within_run 𝓤 𝓛'.H 𝓜' 𝓡' 𝓡.env) ((λ s x. x), (λ x. x), (λ x. x), λ x. x)) in
    record { clone = at_fork.clone })
    (λ 𝓛' 𝓜' 𝓡' like. let at_fork = (onward₂ 𝓛 𝓜 𝓡 𝓛' 𝓜' 𝓡' like mE 𝓛' 𝓜' (within_run 𝓤 𝓛'.H 𝓜' 𝓡' 𝓡.env) ((λ s x. x), (λ x. x), (λ x. x), λ x. x)) in
    record { laws = at_fork.laws })
    (λ 𝓛' 𝓜' 𝓡' like. let at_fork = (onward₂ 𝓛 𝓜 𝓡 𝓛' 𝓜' 𝓡' like mP 𝓛' 𝓜' (within_run 𝓤 𝓛'.H 𝓜' 𝓡' 𝓡.env) ((λ s x. x), (λ x. x), (λ x. x), λ x. x)) in
    record { laws = at_fork.laws; eq = at_fork.eq })) z (and_then ! (get ! refl) (no_more !)) (λ v.
    let S : RattleType = MutSlice (named 0) κ R in let Slice : Type 0 = MutBor (List X.Denot) in
    use1 𝓛 (later (some (λ (r : Slice). ((‵ (flft κ q) ⊛ ‵ others) ⊛ ‵ (S.own_val r (v ∷ [])))
    ⊛ some (λ (ws : Lasts (lent.ended Y gR dR gC dC gE dE gP dP) κs (a.0, tt)). ‵ (lasts (lent.ended Y gR dR gC dC gE dE gP dP) κs (a.0, tt) ws)
    ⊛ (raw (fact 𝓤 (r.now ≡ a.0.now)) ⊛ ‵ (follows Row (Array R 0) a.0.ghost_name r.ghost_name (left_in a.0.now))))))) (id⊢ 𝓤 _) $
    await ! tt $ pick ! (λ r. split ! $ split ! $ move ! (2 ∷ []) $ pick ! (λ ws. split ! $ let_go ! $ split ! $ heard ! (r.now ≡ a.0.now) (λ same.
    -- [the block follows the slice; the tokens; the slice; the locals]
    move ! (2 ∷ []) $ peeks ! S (Is S) (shows 𝓛 S) r (v ∷ []) (λ is. let e : v ∷ [] ≡ mut_slice_vals r = mut_slice_Tells (named 0) κ R r (v ∷ []) is in
    rewrite ! 0 (λ (us : List Val). ‵ (S.own_val r us)) e refl $
    lands_as ! (ap only e) refl (tt, (tt, (record { fits = is.0.1.0 }, tt))) $
    -- [the slice; the block follows it; the tokens; the locals]
    let G' = triple_of 𝓛 (cut.signature Y) (cut.spec Y 𝓛 𝓜.mem 𝓡.returns) in let Inside : Type 0 = at ≤ length r.now in
    let z' : G'.Ghost = ((κs, qs, bounds, (r, (at, tt)), (mut_slice_vals r, (vint w64 at ∷ [], tt))), tt) in
    owned ! usize _ (uint_Makes 𝓛 w64) at (vint w64 at ∷ []) (refl, are.1.0.1) $ nothing ! $
    move ! (1 ∷ 0 ∷ []) $ fjoin ! $ move ! (1 ∷ 0 ∷ []) $ fjoin ! $ move ! (2 ∷ 0 ∷ []) $ join ! $
    use0 𝓛 (raw (fact 𝓤 Inside)) (fact_i 𝓤 Inside (emp 𝓤) (subst (λ (ns : List X.Denot). at ≤ length ns) (sym same) within)) $
    use0 𝓛 (raw (fact 𝓤 Lives)) (fact_i 𝓤 Lives (emp 𝓤) lives) $ join ! $
    move ! (1 ∷ 0 ∷ []) $ join ! $ use1 𝓛 (raw (G'.pre z')) (id⊢ 𝓤 _) $
    calls_at ! (framed 𝓤 𝓛.H 𝓜 𝓣) G' (cut_met.met 𝓤 𝓛 𝓜 𝓡 (code.calls-core::slice::slice+T::split_at_mut 𝓡.env wired) Y LY) z'
    (and_then ! (get ! refl) (and_then ! (get ! refl) (no_more !))) (λ u.
    let Halves : List RattleType = S ∷ S ∷ [] in let Left : List X.Denot → List X.Denot → List X.Denot = λ front back. left_in a.0.now (front ++ back) in
    use1 𝓛 (later (some (λ (h : Slice × Slice). ((‵ (flft κ q) ⊛ ‵ others) ⊛ ‵ ((Tuple Halves).own_val h (u ∷ [])))
    ⊛ some (λ (ws : Lasts (cut.ended Y) κs (r, (at, tt))). ‵ (lasts (cut.ended Y) κs (r, (at, tt)) ws)
    ⊛ (raw (fact 𝓤 (r.now ≡ h.0.now ++ h.1.now)) ⊛ raw (fact 𝓤 (length h.0.now ≡ at)) ⊛ raw (fact 𝓤 (length h.1.now + at ≡ length r.now))
    ⊛ raw (fact 𝓤 (h.0.now ≡ take at r.now)) ⊛ raw (fact 𝓤 (h.1.now ≡ drop at r.now))
    ⊛ raw (fact 𝓤 (SameBelow r.now h.0.now at × TailFrom r.now h.1.now at))
    ⊛ ‵ (follows_both (Array R 0) (Array R 0) (Array R 0) r.ghost_name h.0.ghost_name h.1.ghost_name ◌++◌)))))) (id⊢ 𝓤 _) $
    await ! tt $ pick ! (λ h. split ! $ split ! $ move ! (2 ∷ []) $ pick ! (λ ws'. split ! $ let_go ! $
    split ! $ heard ! (r.now ≡ h.0.now ++ h.1.now) (λ joined.
    split ! $ heard ! (length h.0.now ≡ at) (λ front. split ! $ let_go ! $ split ! $ let_go ! $ split ! $ let_go ! $ split ! $ let_go ! $
    -- [the slice follows its halves; the tokens; the halves; the block follows the slice; the locals]
    move ! (3 ∷ 0 ∷ []) $ use2 𝓛 (‵ (follows_both Row (Array R 0) (Array R 0) a.0.ghost_name h.0.ghost_name h.1.ghost_name Left))
    (follows_then_both 𝓛 Row (Array R 0) (Array R 0) (Array R 0) (left_in a.0.now) ◌++◌ a.0.ghost_name r.ghost_name h.0.ghost_name h.1.ghost_name) $
    move ! (2 ∷ []) $ fpick ! (λ vss. fsplit ! $ feq_l ! (λ made. fsplit ! $
    peeks ! S (Is S) (shows 𝓛 S) h.0 vss.0 (λ is₀. let e₀ : vss.0 ≡ mut_slice_vals h.0 = mut_slice_Tells (named 0) κ R h.0 vss.0 is₀ in
    rewrite ! 0 (λ (us : List Val). ‵ (S.own_val h.0 us)) e₀ refl $ move ! (1 ∷ []) $ fsplit ! $
    peeks ! S (Is S) (shows 𝓛 S) h.1 vss.1.0 (λ is₁. let e₁ : vss.1.0 ≡ mut_slice_vals h.1 = mut_slice_Tells (named 0) κ R h.1 vss.1.0 is₁ in
    rewrite ! 0 (λ (us : List Val). ‵ (S.own_val h.1 us)) e₁ refl $
    -- [the second half; nothing; the first half; the block follows its halves; the tokens; the locals]
    let w : Val = vstruct (vcons (slice_val h.0.ref_ptr (length h.0.now)) (vcons (slice_val h.1.ref_ptr (length h.1.now)) vnil)) in
    let whole : u ∷ [] ≡ w ∷ [] = made ∙ (λ k. vstruct (of_list (flat Halves (e₀ k, (e₁ k, tt)))) ∷ []) in
    lands_as ! (ap only whole) refl (tt, ((tt, (record { fits = is₀.0.1.0 }, tt)), ((tt, (record { fits = is₁.0.1.0 }, tt)), tt))) $
    returns ! (look_at ! 0 refl) $ free_all ! refl $ fjoin ! $ move ! (1 ∷ 0 ∷ []) $ fjoin ! $
    feq_i ! (List Val) (w ∷ []) (w ∷ []) refl $ fjoin ! $
    fpack ! (Valss Halves) (within_struct (shape (tuple_type Halves)) (h.0, (h.1, tt)) (w ∷ [])) (mut_slice_vals h.0, (mut_slice_vals h.1, tt)) $
    -- [the halves; the block follows them; the tokens]
    move ! (1 ∷ []) $ use0 𝓛 (raw (fact 𝓤 (length h.0.now ≡ at))) (fact_i 𝓤 (length h.0.now ≡ at) (emp 𝓤) front) $ join ! $
    use0 𝓛 (raw (fact 𝓤 (a.0.now ≡ h.0.now ++ h.1.now))) (fact_i 𝓤 (a.0.now ≡ h.0.now ++ h.1.now) (emp 𝓤) (sym same ∙ joined)) $ join ! $
    nothing ! $ nothing ! $ fjoin ! $ nothing ! $ fjoin ! $ keep ! (3 ∷ 0 ∷ 2 ∷ 1 ∷ []) $ by ! (leaves 𝓛 En hs c y w h (tt, (tt, tt)) (tt, (tt, tt)))))))))))))))))))))))
