-- What the definitions that stand only in conclusions say of a flusher: on worked values, and what they rule out.
use Rattle.std.proofs.Common.{◌≡◌, ◌⊎◌, ℕ, ◌≤◌, ◌<◌, zero, suc, List, [], ◌∷◌, length, take, Option, Some, None, Bool, true, false, inl, inr, refl, sym, ap, subst, ◌∙◌, arith}
use Rattle.std.specs.Prelude.{MatchOption}
use Rattle.std.specs.Int.{w64}
use Rattle.std.proofs.Math.Seq.{take-length}
use Rattle.std.proofs.lemmas.List.{length-take}
use Rattle.record_core.specs.Bytes.{Encoding, unsigned, boolean}
use Rattle.disk_core.specs.State.{State, now, IsImage}
use Rattle.disk_core.specs.declared.fault.DiskFault.{DiskFault}
use Rattle.segment_core.specs.declared.tally.Tally.{Tally}
use Rattle.segment_core.specs.Shape.{limit_of}
use Rattle.segment_core.specs.Frame.{Group, Fold}
use Rattle.segment_core.specs.Written.{payload_len}
use Rattle.pen_core.specs.declared.step.PenStep.{PenStep}
use Rattle.pen_core.specs.declared.stage.FoldStage.TheVariants as stages
use Rattle.pen_core.specs.declared.fault.PenFault.TheVariants as faults
use Rattle.pen_core.specs.PenOf.{PenOf, JobOf, FoldOf, HomeWrite}
use Rattle.pen_core.specs.Pen.{MayOpen, calls_due, home_calls_due}
use Rattle.pen_core.specs.Refusals.{first_refusal, is_full}
use Rattle.pen_core.specs.Typed.{OpensTo}
use Rattle.block_core.specs.Growth.{Growth}
use Rattle.directory_core.specs.Known.{Known, Held}
use Rattle.directory_core.specs.Identity.{Identity}
use Rattle.book_core.specs.Marks.{MarkEnd}
use Rattle.book_core.specs.declared.mark.MarkState.TheVariants.{Ended, Broken}
use Rattle.flush_core.specs.declared.lane.Lane.TheVariants.{Log, Home}
use Rattle.flush_core.specs.declared.lane.Tick.TheVariants as ticks
use Rattle.flush_core.specs.declared.fault.FlushFault.TheVariants.{Pen, Strayed}
use Rattle.flush_core.specs.Flusher.{FlusherOf, FlusherGoesOn, OpensToFirst, OpensToSettled, OpensToJob, list_to, read_as, tally_with, untaken}
use Rattle.flush_core.specs.Group.{IsGreatest}
use Rattle.flush_core.specs.Refusals.{settled_behind, lane_calls}
use Rattle.flush_core.specs.Serving.{Serves, HasSettledAll, TellsBroken, IsServeFault, fold_with}

-- ---- cells and frames

-- two cells are two numbers, and a cell that is no value is left out
two_numbers : read_as (unsigned w64) ((5 ∷ 0 ∷ 0 ∷ 0 ∷ 0 ∷ 0 ∷ 0 ∷ 0 ∷ []) ∷ (0 ∷ 1 ∷ 0 ∷ 0 ∷ 0 ∷ 0 ∷ 0 ∷ 0 ∷ []) ∷ []) ≡ 5 ∷ 256 ∷ []
two_numbers = refl

one_left_out : read_as boolean ((1 ∷ []) ∷ (2 ∷ []) ∷ (0 ∷ []) ∷ []) ≡ true ∷ false ∷ []
one_left_out = refl

-- a group of two records and of three in hand, and none
tally_behind_none : (tally : Tally) → tally_with tally None ≡ tally
tally_behind_none tally = refl

tally_behind_group : (step : PenStep)
    → tally_with (record { size = 4; changes = 2; folded = 1 }) (Some (record { frame = Group (2 ∷ 3 ∷ []) []; step = step }))
    ≡ record { size = 9; changes = 2; folded = 1 }
tally_behind_group step = refl

tally_behind_fold : (step : PenStep) → (tally_with (record { size = 4; changes = 2; folded = 1 }) (Some (record { frame = Fold 2; step = step }))) ≡ record { size = 4; changes = 2; folded = 2 }
tally_behind_fold step = refl

-- a fold ends with its own frame, and with no other
fold_stays : (fold : Option FoldOf) → fold_with None fold ≡ fold
fold_stays fold = refl

fold_stays_behind_group : (fold : Option FoldOf) (step : PenStep) → fold_with (Some (record { frame = Group (2 ∷ []) []; step = step })) fold ≡ fold
fold_stays_behind_group fold step = refl

fold_ends : (fold : Option FoldOf) (step : PenStep) → fold_with (Some (record { frame = Fold 2; step = step })) fold ≡ None
fold_ends fold step = refl

-- ---- the calls of a tick

module _ {D : Type 0} (pen : PenOf D) (job : JobOf) (left : List HomeWrite) where
  log_calls_one : pen.broken ≡ false → pen.job ≡ Some job → lane_calls Log pen ≡ 1
  log_calls_one whole busy = ap (λ b. calls_due b pen.job) whole ∙ ap (calls_due false) busy

  log_calls_none : pen.broken ≡ false → pen.job ≡ None → lane_calls Log pen ≡ 0
  log_calls_none whole idle = ap (λ b. calls_due b pen.job) whole ∙ ap (calls_due false) idle

  broken_calls_none : pen.broken ≡ true → (lane_calls Log pen ≡ 0) × (lane_calls Home pen ≡ 0)
  broken_calls_none broken = (ap (λ b. calls_due b pen.job) broken, ap (λ b. home_calls_due b pen.fold) broken)

  home_calls_one : pen.broken ≡ false → pen.fold ≡ Some (record { count = 2; left = left; stage = stages.Home 3 }) → lane_calls Home pen ≡ 1
  home_calls_one whole fold = ap (λ b. home_calls_due b pen.fold) whole ∙ ap (home_calls_due false) fold

  home_syncs : pen.broken ≡ false → pen.fold ≡ Some (record { count = 2; left = left; stage = stages.Sync }) → lane_calls Home pen ≡ 1
  home_syncs whole fold = ap (λ b. home_calls_due b pen.fold) whole ∙ ap (home_calls_due false) fold

  home_files : pen.broken ≡ false → pen.fold ≡ Some (record { count = 2; left = left; stage = stages.Ready }) → lane_calls Home pen ≡ 0
  home_files whole fold = ap (λ b. home_calls_due b pen.fold) whole ∙ ap (home_calls_due false) fold

  home_waits : pen.broken ≡ false → pen.fold ≡ Some (record { count = 2; left = left; stage = stages.Filed }) → lane_calls Home pen ≡ 0
  home_waits whole fold = ap (λ b. home_calls_due b pen.fold) whole ∙ ap (home_calls_due false) fold

  home_calls_none : pen.broken ≡ false → pen.fold ≡ None → lane_calls Home pen ≡ 0
  home_calls_none whole idle = ap (λ b. home_calls_due b pen.fold) whole ∙ ap (home_calls_due false) idle

-- ---- a flusher of three growths behind one record, of which one is settled and all are taken

abbrev grown : ℕ → ℕ → ℕ → Growth ℕ
grown number start record_of = record { number = number; start = start; seat = 0; serial = number; records = record_of ∷ [] }

module _ {D : Type 0} (pen : PenOf D) (of : Identity) (held : Held) (mark : MarkEnd) where
  abbrev one_of_three : FlusherOf ℕ D
  one_of_three = record {
    pen = pen;
    pass = record { of = of; entries = grown 0 0 5 ∷ grown 1 1 6 ∷ grown 2 2 7 ∷ []; ended = false; strayed = false; held = held };
    mark = mark;
    opening = 4 ∷ [];
    before = 1;
    taken = 3;
    settled = 1;
  }

  -- what is settled behind a tick
  behind_done : settled_behind one_of_three ticks.Done ≡ 3
  behind_done = refl

  behind_others : (settled_behind one_of_three ticks.Idle ≡ 1) × (settled_behind one_of_three ticks.Step ≡ 1)
      × (settled_behind one_of_three ticks.Filed ≡ 1) × (settled_behind one_of_three ticks.Waiting ≡ 1)
  behind_others = (refl, refl, refl, refl)

  -- ---- what an image opens to

  module _ (form : Encoding ℕ) (image : List ℕ) where
    two_or_three : (n : ℕ) → 2 ≤ n → n ≤ 3 → (n ≡ 2) ⊎ (n ≡ 3)
    two_or_three zero least most = absurd (omega arith)
    two_or_three (suc zero) least most = absurd (omega arith)
    two_or_three (suc (suc zero)) least most = inl refl
    two_or_three (suc (suc (suc zero))) least most = inr refl
    two_or_three (suc (suc (suc (suc n)))) least most = absurd (omega arith)

    one_to_three : (n : ℕ) → 1 ≤ n → n ≤ 3 → (n ≡ 1) ⊎ ((n ≡ 2) ⊎ (n ≡ 3))
    one_to_three zero least most = absurd (omega arith)
    one_to_three (suc zero) least most = inl refl
    one_to_three (suc (suc zero)) least most = inr (inl refl)
    one_to_three (suc (suc (suc zero))) least most = inr (inr refl)
    one_to_three (suc (suc (suc (suc n)))) least most = absurd (omega arith)

    opens_to : (n : ℕ) (records : List ℕ) → (count : ℕ) → OpensTo form image (list_to one_of_three count) → count ≡ n
        → list_to one_of_three n ≡ records → OpensTo form image records
    opens_to n records count opens is same = subst (λ rs. OpensTo form image rs) (ap (list_to one_of_three) is ∙ same) opens

    -- from two settled ones on: to two growths or to all three
    keeps_two : OpensToFirst form 2 one_of_three image → OpensTo form image (4 ∷ 5 ∷ 6 ∷ []) ⊎ OpensTo form image (4 ∷ 5 ∷ 6 ∷ 7 ∷ [])
    keeps_two kept = elim (two_or_three kept.count kept.at_least kept.known) [
      | inl two ↦ inl (opens_to 2 (4 ∷ 5 ∷ 6 ∷ []) kept.count kept.opens two refl)
      | inr three ↦ inr (opens_to 3 (4 ∷ 5 ∷ 6 ∷ 7 ∷ []) kept.count kept.opens three refl)
    ]

    two_are_kept : OpensTo form image (4 ∷ 5 ∷ 6 ∷ []) → OpensToFirst form 2 one_of_three image
    two_are_kept opens = record { count = 2; at_least = omega arith; known = omega arith; opens = opens }

    -- one is settled
    settled_is_kept : OpensToSettled form one_of_three image → OpensTo form image (4 ∷ 5 ∷ []) ⊎ (OpensTo form image (4 ∷ 5 ∷ 6 ∷ []) ⊎ OpensTo form image (4 ∷ 5 ∷ 6 ∷ 7 ∷ []))
    settled_is_kept kept = elim (one_to_three kept.count kept.at_least kept.known) [
      | inl one ↦ inl (opens_to 1 (4 ∷ 5 ∷ []) kept.count kept.opens one refl)
      | inr (inl two) ↦ inr (inl (opens_to 2 (4 ∷ 5 ∷ 6 ∷ []) kept.count kept.opens two refl))
      | inr (inr three) ↦ inr (inr (opens_to 3 (4 ∷ 5 ∷ 6 ∷ 7 ∷ []) kept.count kept.opens three refl))
    ]

    -- with the three in hand: to the one or to all, and not to two
    just_one_or_all : OpensToJob form one_of_three image → MayOpen pen image × (OpensTo form image (4 ∷ 5 ∷ []) ⊎ OpensTo form image (4 ∷ 5 ∷ 6 ∷ 7 ∷ []))
    just_one_or_all is = (
      is.pen_opens,
      elim is.just [
        | inl one ↦ inl (opens_to 1 (4 ∷ 5 ∷ []) is.kept.count is.kept.opens one refl)
        | inr three ↦ inr (opens_to 3 (4 ∷ 5 ∷ 6 ∷ 7 ∷ []) is.kept.count is.kept.opens three refl)
      ],
    )

    all_in_hand : MayOpen pen image → OpensTo form image (4 ∷ 5 ∷ 6 ∷ 7 ∷ []) → OpensToJob form one_of_three image
    all_in_hand pen_opens opens = record { pen_opens = pen_opens; kept = record { count = 3; at_least = omega arith; known = omega arith; opens = opens }; just = inr refl }

  -- ---- how serving ends

  -- one of three isn't all
  not_ended : HasSettledAll one_of_three → ⊥
  not_ended ended = let all = ended.all in absurd (omega arith)

module _ {R D : Type 0} (f : FlusherOf R D) where
  ended_idle : (job : JobOf) → f.pen.job ≡ Some job → HasSettledAll f → ⊥
  ended_idle job busy ended = let none = sym busy ∙ ended.idle in absurd cc

  ended_tells : HasSettledAll f → (f.mark.told.count ≡ length f.pass.entries) × (f.mark.told.state ≡ Ended)
  ended_tells ended = (ap (λ r. r.count) ended.told ∙ ended.all, ap (λ r. r.state) ended.told)

  ended_when : f.settled ≡ length f.pass.entries → f.pen.job ≡ None → f.mark.told ≡ record { count = f.settled; state = Ended } → HasSettledAll f
  ended_when all idle told = record { all = all; idle = idle; told = told }

  broken_tells : TellsBroken f → (f.mark.told.count ≡ f.settled) × (f.mark.told.state ≡ Broken)
  broken_tells broken = (ap (λ r. r.count) broken, ap (λ r. r.state) broken)

  broken_when : f.mark.told ≡ record { count = f.settled; state = Broken } → TellsBroken f
  broken_when told = told

-- ---- why it ends too early

module _ {R D : Type 0} (width : ℕ) (old new : FlusherOf R D) where
  -- a pen that was whole never answers Broken
  was_broken : old.pen.broken ≡ false → IsServeFault width old new (Pen faults.Broken) → ⊥
  was_broken whole is = let both = sym whole ∙ is in absurd cc

  broke : (cause : DiskFault) → IsServeFault width old new (Pen (faults.Disk cause)) → new.pen.broken ≡ true
  broke cause is = is

  strayed_behind : (number : ℕ) → IsServeFault width old new (Strayed number) → (number ≡ length new.pass.entries) × (new.pen.job ≡ None)
  strayed_behind number is = is

  -- the next group is too much for the file, and no job is in hand
  abbrev NextIs : Bool → Type 0
  NextIs full = (new.pen.job ≡ None) × (n : ℕ) × (0 < n) × IsGreatest width (limit_of new.pen.shape.format) (untaken new) n
      × (is_full new.pen (payload_len width (take n (untaken new))) ≡ full)

  full_alone : (full : Bool) → MatchOption (first_refusal ((full, faults.FileFull) ∷ [])) (faults.FileFull ≡ faults.Memory) (λ first. faults.FileFull ≡ first) → full ≡ true
  full_alone true is = refl
  full_alone false is = absurd cc

  room_alone : (full : Bool) → MatchOption (first_refusal ((full, faults.FileFull) ∷ [])) (faults.Memory ≡ faults.Memory) (λ first. faults.Memory ≡ first) → full ≡ false
  room_alone true is = absurd cc
  room_alone false is = refl

  file_full : IsServeFault width old new (Pen faults.FileFull) → NextIs true
  file_full is = (is.0, is.1.count, is.1.some, is.1.greatest, full_alone _ is.1.why)

  no_memory : IsServeFault width old new (Pen faults.Memory) → NextIs false
  no_memory is = (is.0, is.1.count, is.1.some, is.1.greatest, room_alone _ is.1.why)

  -- the other refusals of a pen never come
  never : (IsServeFault width old new (Pen faults.Busy) → ⊥) × (IsServeFault width old new (Pen faults.OldFormat) → ⊥)
      × (IsServeFault width old new (Pen faults.Runs) → ⊥) × (IsServeFault width old new (Pen faults.OutOfRange) → ⊥)
      × (IsServeFault width old new (Pen faults.TooLarge) → ⊥) × (IsServeFault width old new (Pen faults.Unfolded) → ⊥) × (IsServeFault width old new (Pen faults.Exists) → ⊥)
  never = (λ is. is, λ is. is, λ is. is, λ is. is, λ is. is, λ is. is, λ is. is)

-- ---- from one to the other

module _ {R D : Type 0} (keeps : Type 0) (old new : FlusherOf R D) where
  -- it forgets no growth, and takes no settled one back
  no_forgetting : (e : Growth R) → old.pass.entries ≡ e ∷ [] → new.pass.entries ≡ [] → FlusherGoesOn keeps old new → ⊥
  no_forgetting e knew none goes =
      absurd (omega (arith, ap length goes.begins, length-take (length old.pass.entries) new.pass.entries, ap length knew, ap length none))

  no_unsettling : old.settled ≡ 1 → new.settled ≡ 0 → FlusherGoesOn keeps old new → ⊥
  no_unsettling was is goes = let up = goes.no_less_settled in absurd (omega arith)

  no_giving_back : old.taken ≡ 1 → new.taken ≡ 0 → FlusherGoesOn keeps old new → ⊥
  no_giving_back was is goes = let up = goes.no_less_taken in absurd (omega arith)

  -- it stays of its phase
  one_phase : FlusherGoesOn keeps old new → (new.pass.of ≡ old.pass.of) × (new.mark.of ≡ old.mark.of) × (new.before ≡ old.before) × (keeps → new.opening ≡ old.opening)
  one_phase goes = (goes.of_same, goes.mark_of_same, goes.before_same, goes.opening_same)

-- it may have settled what it had taken, and told so
goes_on : {R D : Type 0} (keeps : Type 0) (pen pen' : PenOf D) (pass : Known R) (mark mark' : MarkEnd) (opening : List R) → mark'.of ≡ mark.of
    → FlusherGoesOn keeps (record { pen = pen; pass = pass; mark = mark; opening = opening; before = 1; taken = 3; settled = 1 })
    (record { pen = pen'; pass = pass; mark = mark'; opening = opening; before = 1; taken = 3; settled = 3 })
goes_on keeps pen pen' pass mark mark' opening of = record {
  begins = take-length pass.entries;
  of_same = refl;
  mark_of_same = of;
  before_same = refl;
  no_less_taken = omega arith;
  no_less_settled = omega arith;
  opening_same = λ _. refl;
}

module _ {R D : Type 0} (form : Encoding R) (keeps : D → Type 0) (states : D → List State) (old new : FlusherOf R D) (served : Serves form keeps states old new) where
  -- a crash at its end keeps what was settled before it, of what is known behind it
  kept_at_end : keeps new.pen.disk → (image : List ℕ) → IsImage (now (states new.pen.disk)) image → OpensToFirst form old.settled new image
  kept_at_end model image is = (served.images model).newest image is

  -- with no job in hand before and behind it a fold stays, and one whose own frame was in hand ends
  fold_left : old.pen.job ≡ None → new.pen.job ≡ None → new.pen.fold ≡ old.pen.fold
  fold_left was is = sym (ap (λ j. fold_with j new.pen.fold) is) ∙ served.fold ∙ ap (λ j. fold_with j old.pen.fold) was

  fold_ended : (count : ℕ) (step : PenStep) → old.pen.job ≡ Some (record { frame = Fold count; step = step }) → new.pen.job ≡ None → new.pen.fold ≡ None
  fold_ended count step was is = sym (ap (λ j. fold_with j new.pen.fold) is) ∙ served.fold ∙ ap (λ j. fold_with j old.pen.fold) was

  same_model : keeps new.pen.disk → keeps old.pen.disk
  same_model now = served.model now

  later : FlusherGoesOn (keeps new.pen.disk) old new
  later = served.goes_on
