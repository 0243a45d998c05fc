-- `of` makes the empty struct, with the bytes that it is lent. Assumes `Logic`.
use Rattle.std.proofs.Common.{ℕ, ◌<◌, ◌^◌, length, List, [], ◌∷◌, refl}
use seplogic.Ra.Ura.{Ura}
use mir.Syntax.{named}
use mir.Val.{Val}
use base.Logic.{SProp, ent, emp, via, fst∗}
use base.Fml.{Lft, Share, ftrue, flft}
use prog.Memory.{Memory}
use prog.Routine.{Routine}
use prog.Wp.{Calls, Loops, WpFn, Tables}
use contract.Monad.{Fun}
use contract.Running.{tables, tables_of}
use sound.WpLaws.{WpFn-mono}
use types.Logic.{Logic}
use types.Kit.{‵, ◌⊛◌, ◌$◌, ◌∵◌, !, qed, move, fjoin, suffices, done}
use types.Part.{agg}
use types.Run.{enter, returns, and_then, no_more}
use types.ByLocal.{alloc_all, pass_all, free_all, look_at, get, sets}
use denote.RattleType.{owns}
use denote.Builtin.{u8}
use denote.Exit.{yes}
use denote.Laws.{Is}
use denote.Ref.{Bor}
use denote.Signature.{plain}
use denote.Slice.{ShrSlice, slice_val, shr_slice_vals, shr_slice_Tells}
use denote.Steps.{nothing, owned}
use denote.Struct.Laws.{makes}
use denote.Triple.Clauses.{Clauses}
use denote.Triple.Entry.{on_entry}
use denote.Triple.Spec.{Meets, triple_of}
use denote.Triple.Table.{entered}
use denote.Triple.Walked.{says, Stays, stay_none_slice, Goes-none_slice, walk_of, Walks, ends_at, walked, walk_Meets}
use Rattle.std.specs.contracts.marker.PhantomData as Mark
use Rattle.disk_core.proofs.Walks.{none, one, one_made}
use Rattle.disk_core.specs.contracts.ghost_bytes.GhostBytes as GhostBytes
use Rattle.disk_core.specs.contracts.ghost_bytes.GhostBytes.of as F
use Rattle.disk_core.specs.contracts.ghost_bytes.GhostBytes.of.Key.{name as #self}
use Rattle.disk_core.proofs.ghost_bytes.GhostBytes.of.Statement as stated
use Rattle.disk_core.proofs.ghost_bytes.GhostBytes.of.Code as code

abbrev stayed : Stays F.ended.signature.params F.ended.kept
stayed = (stay_none_slice (0 ∷ []) tt (plain (λ _. u8)) yes, tt)

module _ {M : Type 1} {𝓤 : Ura M} (𝓛 : Logic 𝓤) (at_mem : Memory → SProp 𝓤) (run : Routine → Fun 𝓤) where
  open 𝓛 use {H}

  abbrev held : Clauses 𝓤 F.ended
  held = F.clauses 𝓛 at_mem run

  module _ (κ : Lft) (q : Share) (s : Bor (List ℕ)) where
    abbrev at : List Val × Unit {0}
    at = (slice_val s.ref_ptr (length s.now) ∷ [], tt)

    abbrev made : GhostBytes.the_row.Denot
    made = record { of = record {}; bytes = s.now }

    abbrev Post : Val → SProp 𝓤
    Post = (walk_of 𝓛 F.ended stayed held).post (((κ, tt), (q, tt), tt, (s, tt), at), tt)

    module _ (C : Calls 𝓤 H) (Λ : Loops 𝓤 H) where
      walk : length s.now < 2 ^ 64 → ent 𝓤 (on_entry 𝓛 F.signature (κ, tt) (q, tt) (s, tt) at) (WpFn 𝓤 H C Λ code.function (slice_val s.ref_ptr (length s.now) ∷ []) Post)
      walk fits =
          qed 𝓛 ((‵ (flft κ q) ⊛ ‵ ftrue) ∷ ‵ (owns (ShrSlice (named 0) κ u8 ∷ []) (s, tt) at) ∷ []) ∵
          enter ! C Λ code.function (slice_val s.ref_ptr (length s.now) ∷ []) Post $ alloc_all ! (λ l. pass_all ! refl ((tt, (tt, (record { fits = fits }, tt))), tt) $
          sets ! (agg ! (no_more !)) refl (tt, tt) $
          sets ! (agg ! (and_then ! (get ! refl) (no_more !))) refl (tt, (tt, tt)) $
          nothing ! $ owned ! (Mark.the_row u8) (Is (Mark.the_row u8)) (makes (Mark.the_type u8) tt 𝓛) (record {}) (none ∷ []) (tt, (refl, tt)) $
          one_made ! (Mark.the_row u8) (record {}) none $ fjoin ! $
          returns ! (look_at ! 0 refl) $ free_all ! refl $
          suffices ! _ (ends_at 𝓛 F.ended stayed held (((κ, tt), (q, tt), tt, (s, tt), at), tt) (one none) made (tt, tt) (tt, tt)) $ says ! refl $
          move ! (1 ∷ 2 ∷ 0 ∷ []) $ done !)

  walks : (C : Calls 𝓤 H) (Λ : Loops 𝓤 H) → Walks 𝓛 F.ended stayed (WpFn 𝓤 H C Λ code.function) held
  walks C Λ = walked 𝓛 F.ended stayed held (WpFn 𝓤 H C Λ code.function) (λ κs. (shr_slice_vals, tt)) (λ κs. (shr_slice_Tells (named 0) κs.0 u8, tt))
      (λ κs qs bounds a _ are. via 𝓤 _ (fst∗ 𝓤 _ (emp 𝓤)) (walk κs.0 qs.0 a.0 C Λ are.0.0.1.0))

  meets : (𝓣 : Tables 𝓤 H) → Meets 𝓛 F.signature (WpFn 𝓤 H 𝓣.C 𝓣.Λ code.function) (F.spec 𝓛 at_mem run)
  meets 𝓣 = walk_Meets 𝓛 F.ended stayed (Goes-none_slice 𝓛 1 (0 ∷ []) tt (plain (λ _. u8)) yes, tt) held (WpFn 𝓤 H 𝓣.C 𝓣.Λ code.function)
      (WpFn-mono 𝓤 H 𝓛.laws 𝓣 code.function) (walks 𝓣.C 𝓣.Λ)

pub of_spec : {M : Type 1} → stated.statement M
unfolding tables_of
of_spec 𝓤 𝓛 𝓜 𝓡 wired =
    entered 𝓤 𝓛.H (triple_of 𝓛 F.signature (F.spec 𝓛 𝓜.mem 𝓡.returns))
    (tables 𝓤 𝓛.H 𝓜 𝓡 𝓡.env).C (tables 𝓤 𝓛.H 𝓜 𝓡 𝓡.env).Λ #self code.function (code.unfolded 𝓤 𝓛.H 𝓜 𝓡 wired)
    (meets 𝓛 𝓜.mem 𝓡.returns (tables_of 𝓤 𝓛.H 𝓜 (tables 𝓤 𝓛.H 𝓜 𝓡 𝓡.env)))
