-- What the definitions of what a flusher learns, takes and refuses say: on worked values, and what they rule out.
use Rattle.std.proofs.Common.{◌≡◌, ℕ, List, [], ◌∷◌, length, map, drop, Some, None, inl, inr, refl, sym, ap, ◌∙◌, arith, codes}
use Rattle.std.specs.Fmt.{digits}
use Rattle.std.proofs.lemmas.List.{length-take}
use Rattle.std.proofs.lemmas.Option.{same_Some}
use Rattle.block_core.specs.Growth.{Growth}
use Rattle.book_core.specs.Lists.{Phase, opening_of}
use Rattle.pen_core.specs.declared.fault.PenFault.{PenFault}
use Rattle.pen_core.specs.PenOf.{PenOf}
use Rattle.pen_core.specs.declared.stage.HomeTicked.TheVariants as home_ticks
use Rattle.pen_core.specs.declared.stage.Ticked.TheVariants as log_ticks
use Rattle.pen_core.specs.Pen.{IsTicked, IsHomeTicked, IsTickFault, IsHomeFault, IsFoldRefusal, failed_calls}
use Rattle.pen_core.specs.Refusals.{first_refusal, ready_lines}
use Rattle.flush_core.specs.declared.lane.Lane.{Lane}
use Rattle.flush_core.specs.declared.lane.Lane.TheVariants.{Log, Home}
use Rattle.flush_core.specs.declared.lane.Tick.TheVariants.{Idle, Step, Done, Filed, Waiting}
use Rattle.flush_core.specs.declared.fault.FlushFault.TheVariants.{Pen, Strayed}
use Rattle.flush_core.specs.Flusher.{FlusherOf, FlusherLearns, IsFlusherOf, SameGrowths, untaken}
use Rattle.flush_core.specs.Names.{flush_name}
use Rattle.flush_core.specs.Refusals.{IsLaneTicked, IsLaneFault, IsNotBegun, IsTakeFault, IsFoldFault, failed}

-- ---- what it learns

module _ {R D : Type 0} (old new : FlusherOf R D) where
  no_forgetting : (e : Growth R) → old.pass.entries ≡ e ∷ [] → new.pass.entries ≡ [] → FlusherLearns old new → ⊥
  no_forgetting e knew none learns =
      absurd (omega (arith, ap length learns.begins, length-take (length old.pass.entries) new.pass.entries, ap length knew, ap length none))

  -- to learn settles, takes and tells nothing
  nothing_else : FlusherLearns old new → (new.settled ≡ old.settled) × (new.taken ≡ old.taken) × (new.mark ≡ old.mark) × (new.pen ≡ old.pen)
  nothing_else learns = (learns.settled_same, learns.taken_same, learns.mark_same, learns.pen_same)

  one_phase : FlusherLearns old new → (new.pass.of ≡ old.pass.of) × (new.before ≡ old.before) × (new.opening ≡ old.opening)
  one_phase learns = (learns.of_same, learns.before_same, learns.opening_same)

  -- a tick learns, takes and tells nothing
  just_the_pen : SameGrowths old new → (new.pass ≡ old.pass) × (new.taken ≡ old.taken) × (new.mark ≡ old.mark) × (new.before ≡ old.before)
  just_the_pen same = (same.pass_same, same.taken_same, same.mark_same, same.before_same)

-- it is of one phase: of its directory, its mark, and the records from before it
module _ {R D : Type 0} (keeps : Type 0) (live : Phase R) (f : FlusherOf R D) where
  of_phase : IsFlusherOf keeps live f → (f.pass.of ≡ live.directory) × (f.mark.of ≡ live.mark) × (f.before ≡ length (opening_of live)) × (keeps → f.opening ≡ opening_of live)
  of_phase of = (of.directory, of.mark, of.before, of.opening)

-- ---- what a tick of a lane does and why it is refused

module _ {D : Type 0} (old new : PenOf D) where
  -- each is one of the pen's
  log_ticked : (IsLaneTicked Log old new Idle → IsTicked old new log_ticks.Idle) × (IsLaneTicked Log old new Step → IsTicked old new log_ticks.Step)
      × (IsLaneTicked Log old new Done → IsTicked old new log_ticks.Done) × (IsLaneTicked Log old new Waiting → ⊥)
  log_ticked = (λ t. t, λ t. t, λ t. t, λ t. t)

  homes_ticked : (IsLaneTicked Home old new Idle → IsHomeTicked old new home_ticks.Idle) × (IsLaneTicked Home old new Step → IsHomeTicked old new home_ticks.Step)
      × (IsLaneTicked Home old new Filed → IsHomeTicked old new home_ticks.Filed) × (IsLaneTicked Home old new Waiting → IsHomeTicked old new home_ticks.Waiting)
  homes_ticked = (λ t. t, λ t. t, λ t. t, λ t. t)

  never_filed_by_the_log : IsLaneTicked Log old new Filed → ⊥
  never_filed_by_the_log ticked = ticked

  never_done_by_the_homes : IsLaneTicked Home old new Done → ⊥
  never_done_by_the_homes ticked = ticked

  no_tick_strays : (lane : Lane) (n : ℕ) → IsLaneFault lane old new (Strayed n) → ⊥
  no_tick_strays Log n why = why
  no_tick_strays Home n why = why

  log_as_the_pen : (fault : PenFault) → IsLaneFault Log old new (Pen fault) → IsTickFault old new fault
  log_as_the_pen fault why = why

  homes_as_the_pen : (fault : PenFault) → IsLaneFault Home old new (Pen fault) → IsHomeFault old new fault
  homes_as_the_pen fault why = why

  counts : (fault : PenFault) (n : ℕ) → (failed (Pen fault) ≡ failed_calls fault) × (failed (Strayed n) ≡ 0)
  counts fault n = (refl, refl)

strayed : flush_name (Strayed 3) ≡ codes "strayed 3"
unfolding digits
strayed = refl

-- ---- what isn't taken: behind two growths that are, the third, whichever are settled

module _ {D : Type 0} (f : FlusherOf ℕ D) (first second third : Growth ℕ) where
  third_alone : f.pass.entries ≡ first ∷ second ∷ third ∷ [] → f.taken ≡ 2 → untaken f ≡ third.records ∷ []
  third_alone knows two =
      ap (λ (es : List (Growth ℕ)). map (λ e. e.records) (drop f.taken es)) knows
      ∙ ap (λ n. map (λ (e : Growth ℕ). e.records) (drop n (first ∷ second ∷ third ∷ []))) two

-- ---- why no group and no fold is begun

module _ {R D : Type 0} (width : ℕ) (f : FlusherOf R D) where
  -- a pen that isn't ready says why, and nothing else is answered
  not_ready : (fault first : PenFault) → first_refusal (ready_lines f.pen) ≡ Some first → IsTakeFault width f (Pen fault) → fault ≡ first
  not_ready fault first is why = elim why [
    | inl same ↦ same_Some fault first (sym same ∙ is)
    | inr begun ↦ absurd (let none = sym begun.ready ∙ is in cc)
  ]

  -- one that is refuses the next group alone: there is one
  some_next : (fault : PenFault) → first_refusal (ready_lines f.pen) ≡ None → IsTakeFault width f (Pen fault) → IsNotBegun width f fault
  some_next fault is why = elim why [ inl same ↦ absurd (let both = sym same ∙ is in cc) | inr begun ↦ begun ]

  no_group_strays : (n : ℕ) → IsTakeFault width f (Strayed n) → ⊥
  no_group_strays n why = why

  no_fold_strays : (n : ℕ) → IsFoldFault f (Strayed n) → ⊥
  no_fold_strays n why = why

  fold_as_the_pen : (fault : PenFault) → IsFoldFault f (Pen fault) → IsFoldRefusal f.pen fault
  fold_as_the_pen fault why = why
