-- What a mark's raises promise, on worked values: a raise to one growth at the time 4.
use Rattle.std.proofs.Common.{◌≡◌, ℕ, List, [], ◌∷◌, length, inl, inr, refl, sym, ap, subst, arith}
use Rattle.record_core.specs.Bytes.{Encoding}
use Rattle.disk_core.specs.State.{State}
use Rattle.disk_core.specs.Moments.{LeftSince, clock}
use Rattle.disk_core.proofs.JoinedMoments.{LeftSince-later}
use Rattle.pen_core.specs.Typed.{OpensTo}
use Rattle.block_core.specs.Growth.{Growth}
use Rattle.book_core.specs.declared.mark.Raise.{Raise}
use Rattle.book_core.specs.Marks.{IsRaiseOf}
use Rattle.flush_core.specs.Flusher.{FlusherOf, HasTold, IsPastRaise, ToldIsLeft, list_to}

abbrev to_one : Raise
to_one = record { count = 1; at = 4 }

module _ {R D : Type 0} (form : Encoding R) (f : FlusherOf R D) (states : List State) where
  -- without a raise nothing is promised
  none_told : ToldIsLeft form states f []
  none_told raise is = absurd is

  -- where no growth is known, no image may have been left since
  no_growth_known : f.pass.entries ≡ [] → ToldIsLeft form states f (to_one ∷ []) → (image : List ℕ) → LeftSince states 4 image → ⊥
  no_growth_known none told image left =
      let opens = told to_one (inl refl) image left in
      let least = opens.at_least in
      let known = opens.known in
      absurd (omega (arith, ap length none))

  -- where one is, an image that was left since opens to it
  one_growth_known : (growth : Growth R) → f.pass.entries ≡ growth ∷ [] → ToldIsLeft form states f (to_one ∷ []) → (image : List ℕ) → LeftSince states 4 image → OpensTo form image (list_to f 1)
  one_growth_known growth one told image left =
      let opens = told to_one (inl refl) image left in
      let least = opens.at_least in
      let known = opens.known in
      let just : opens.count ≡ 1 = omega (arith, ap length one) in
      subst (λ n. OpensTo form image (list_to f n)) just opens.opens

  -- an image that was left before may lack it: at the time 3 none was left since 4
  left_before : clock states ≡ 3 → ToldIsLeft form states f (to_one ∷ [])
  left_before early raise is image since =
      let there : to_one ≡ raise = elim is [ inl same ↦ same | inr none ↦ absurd none ] in
      let at = ap (λ (r : Raise). r.at) there in
      let past = LeftSince-later states raise.at image since in
      absurd (omega (arith, early, at, past))

  -- a raise to what isn't settled, or at a time that is still to come, was none
  told_unsettled : f.settled ≡ 0 → IsPastRaise states f to_one → ⊥
  told_unsettled none past = let count = past.settled in omega (arith, none)

  told_too_soon : clock states ≡ 3 → IsPastRaise states f to_one → ⊥
  told_too_soon early past = let at = past.past in omega (arith, early)

  -- so of no flusher that has settled none
  told_by_none : (keeps : Type 0) → f.settled ≡ 0 → f.mark.raises ≡ to_one ∷ [] → HasTold keeps states form f → ⊥
  told_by_none keeps none raises told = told_unsettled none (told.past to_one (subst (λ (rs : List Raise). IsRaiseOf rs to_one) (sym raises) (inl refl)))
