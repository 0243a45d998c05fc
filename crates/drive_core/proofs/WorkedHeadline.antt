-- Worked prefixes: what a crash may leave of a history of which all, a part or nothing is settled.
use Rattle.std.proofs.Common.{◌≡◌, ◌⊎◌, inl, inr, ℕ, zero, suc, ◌+◌, ◌≤◌, List, [], ◌∷◌, length, sum, take, refl, ap, subst, ◌∙◌, arith}
use Rattle.std.proofs.lemmas.List.{take_all}
use Rattle.record_core.specs.Bytes.{Encoding}
use Rattle.segment_core.specs.Command.{Command, content}
use Rattle.pen_core.specs.Typed.{OpensTo}
use Rattle.disk_core.specs.Moments.{LeftSince, clock}
use Rattle.book_core.specs.declared.mark.MarkState.TheVariants.{Running}
use Rattle.drive_core.specs.Step as step
use Rattle.drive_core.specs.World.{World, GrowthPhase, Growing}
use Rattle.drive_core.specs.Run.{Event}
use Rattle.drive_core.specs.Headline.{OpensToPrefix, LeavesTold}

module _ {R : Type 0} (form : Encoding R) (base : List R) (image : List ℕ) where
  -- where every command is settled, the image opens to the whole vector
  pub all_settled : (history : List (Command R)) → OpensToPrefix form base history (length history) image → OpensTo form image (content base history)
  all_settled history prefix = subst (λ kept. OpensTo form image (content base kept)) (take_all prefix.kept history prefix.at_least) prefix.opens

  -- of two commands the first of which is settled, it opens to the vector after the first, or after both
  pub first_settled : (one two : Command R) → OpensToPrefix form base (one ∷ two ∷ []) 1 image
      → OpensTo form image (content base (one ∷ [])) ⊎ OpensTo form image (content base (one ∷ two ∷ []))
  first_settled one two prefix = of prefix.kept prefix.at_least prefix.at_most prefix.opens
    where
      of : (kept : ℕ) → 1 ≤ kept → kept ≤ 2 → OpensTo form image (content base (take kept (one ∷ two ∷ [])))
          → OpensTo form image (content base (one ∷ [])) ⊎ OpensTo form image (content base (one ∷ two ∷ []))
      of zero least most opens = absurd (omega (arith, least))
      of (suc zero) least most opens = inl opens
      of (suc (suc zero)) least most opens = inr opens
      of (suc (suc (suc n))) least most opens = absurd (omega (arith, most))

-- ---- what a seat was told, in a run of one step: a seat asks, and is told of one growth

module _ {R : Type 0} (form : Encoding R) (w : World R) (e : Event R) (phase : GrowthPhase) (asked : e.asked ≡ step.Settled 0) (answer : e.answer ≡ step.Told 1 Running)
    (growing : e.after.phase ≡ Growing phase) (told : LeavesTold form w (e ∷ [])) (image : List ℕ)
    (left : LeftSince e.after.disk.states (clock w.disk.states + sum (take 1 (e.calls ∷ []))) image) where
  told_one : OpensToPrefix form e.after.base e.after.history (phase.before + 0 + 1) image
  told_one = told 0 e 0 phase 1 Running refl asked growing answer 0 (omega arith) image left

  -- where no command was made, no image may have been left since
  told_of_none : e.after.history ≡ [] → ⊥
  told_of_none none =
      let prefix = told_one in
      let least = prefix.at_least in
      let most = prefix.at_most in
      absurd (omega (arith, ap length none))

  -- of one command before the phase and the growth in it, each such image has both
  told_behind_one : (one growth : Command R) → e.after.history ≡ one ∷ growth ∷ [] → phase.before ≡ 1 → OpensTo form image (content e.after.base (one ∷ growth ∷ []))
  told_behind_one one growth two before =
      let prefix = told_one in
      let least = prefix.at_least in
      let most = prefix.at_most in
      let both : prefix.kept ≡ 2 = omega (arith, ap length two, before) in
      subst (λ (commands : List (Command R)). OpensTo form image (content e.after.base commands)) (ap (λ n. take n e.after.history) both ∙ ap (take 2) two) prefix.opens
