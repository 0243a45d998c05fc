-- Who knows all growths learns nothing from a seat.
use Rattle.std.proofs.Common.{◌≡◌, ◌≤◌, List, length, inl, inr, ap, sym, subst, ◌∙◌, arith}
use Rattle.std.proofs.lemmas.List.{take_all}
use Rattle.block_core.specs.Growth.{Growth}
use Rattle.directory_core.specs.Chain.{IsPrefix, IsLongerOf}
use Rattle.directory_core.specs.Identity.{Identity}
use Rattle.directory_core.specs.Known.{Known, KnowsAll}

no_longer : {X : Type 0} (mine theirs both : List X) → IsLongerOf mine theirs both → length theirs ≤ length mine → both ≡ mine
no_longer mine theirs both meets few = elim meets.is_one [
  | inl same ↦ same
  | inr other ↦ let whole = take_all (length mine) both (omega (arith, ap length other)) in sym whole ∙ meets.begins_mine
]

pub knows_all_still : {R : Type 0} (old new : Known R) (theirs : List (Growth R)) → IsLongerOf old.entries theirs new.entries → new.of ≡ old.of
    → new.ended ≡ old.ended → length theirs ≤ length old.entries → KnowsAll old
    → IsPrefix theirs old.entries × (new.entries ≡ old.entries) × KnowsAll new
knows_all_still old new theirs meets of ended few all =
    let same = no_longer old.entries theirs new.entries meets few in (
      subst (λ (es : List (Growth _)). IsPrefix theirs es) same meets.begins_theirs,
      same,
      elim all [ inl end ↦ inl (ended ∙ end) | inr full ↦ inr (omega (arith, ap length same, ap (λ (d : Identity). d.room) of)) ],
    )
