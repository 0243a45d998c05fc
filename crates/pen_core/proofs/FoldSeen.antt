-- What is seen of a fold in hand, and what a call of the homes makes of that.
use Rattle.std.proofs.Common.{◌≡◌, ℕ, ◌+◌, ◌-◌, ◌<◌, ◌⊎◌, inl, inr, true, false, cond, List, ◌∷◌, length, map, drop, get_or, Option, Some, None, refl, sym, ap, subst, ◌∙◌, arith}
use Rattle.std.specs.Prelude.{nat_lt, IfSome}
use Rattle.std.specs.Option.{is_some}
use Rattle.std.proofs.lemmas.Bool.{cases_Bool}
use Rattle.std.proofs.lemmas.List.{drop_more, length-map, length-drop}
use Rattle.disk_core.specs.State.{State}
use Rattle.segment_core.specs.declared.format.Shape.{Shape}
use Rattle.segment_core.specs.declared.tally.Tally.{Tally}
use Rattle.segment_core.specs.Frame.{Frame}
use Rattle.segment_core.specs.Frame as kinds
use Rattle.pen_core.specs.declared.fold.Fold.{Fold}
use Rattle.pen_core.specs.declared.pen.Pen.TheInside.{Inside}
use Rattle.pen_core.specs.Fields.{IsSoundPen}
use Rattle.pen_core.specs.declared.fold.Write.{Write}
use Rattle.pen_core.specs.declared.step.PenStep.{PenStep}
use Rattle.pen_core.specs.declared.stage.FoldStage.{FoldStage}
use Rattle.pen_core.specs.declared.stage.FoldStage.TheVariants.{Home, Sync, Ready, Filed}
use Rattle.pen_core.specs.declared.stage.FoldStage.TheVariants as stages
use Rattle.segment_core.specs.declared.found.Homes.{Homes}
use Rattle.pen_core.specs.PenOf.{FoldOf, HomeWrite}
use Rattle.pen_core.specs.Listed.{HasLists}
use Rattle.pen_core.specs.PenLog.{PenLog}
use Rattle.pen_core.proofs.InHand.{no_fold_seen, filed_at}
use Rattle.pen_core.specs.InHand.{write_of, left_of, first_write, in_stage, fold_of, has_call, is_without_fold, stage_after, left_after, done_after, called, writes_left, IsInHand, advanced}
use Rattle.pen_core.specs.InHand.{frame_in_hand, IsAtStage}
use Rattle.pen_core.specs.Inside.{job_of}

-- ---- the writes that are left

firsts : (f : Write → HomeWrite) (ws : List Write) (done : ℕ) → done < length ws
    → map f (drop done ws) ≡ first_write (map f (drop done ws)) ∷ map f (drop (done + 1) ws)
firsts f ws done lt =
    let none : Write = record { place = 0; from = 0; to = 0 } in
    let split : map f (drop done ws) ≡ f (get_or ws done none) ∷ map f (drop (done + 1) ws) = ap (map f) (drop_more ws done none lt) in
    split ∙ ap (λ w. w ∷ map f (drop (done + 1) ws)) (sym (ap first_write split))

abbrev pub rest_of : Fold → List HomeWrite
rest_of fold = map (write_of fold.bytes.items) (drop (fold.done + 1) fold.writes.items)

pub left_next : (fold : Fold) → fold.done < length fold.writes.items → left_of fold ≡ first_write (left_of fold) ∷ rest_of fold
left_next fold lt = firsts (write_of fold.bytes.items) fold.writes.items fold.done lt

-- ---- what is seen of the fold

abbrev pub seen : Fold → FoldOf
seen fold = record { count = fold.count; left = left_of fold; stage = fold.stage }

seen_in : (stage : FoldStage) (f : FoldOf) → is_without_fold stage ≡ false → in_stage stage f ≡ Some f
seen_in stages.None f held = absurd cc
seen_in (Home n) f held = refl
seen_in Sync f held = refl
seen_in Ready f held = refl
seen_in Filed f held = refl

pub fold_is_seen : (fold : Fold) → is_without_fold fold.stage ≡ false → fold_of fold ≡ Some (seen fold)
fold_is_seen fold held = seen_in fold.stage (seen fold) held

pub calls_held : (stage : FoldStage) → has_call stage ≡ true → is_without_fold stage ≡ false
calls_held stages.None calls = absurd cc
calls_held (Home n) calls = refl
calls_held Sync calls = refl
calls_held Ready calls = refl
calls_held Filed calls = refl

pub unfolded_at : (stage : FoldStage) → is_without_fold stage ≡ true → stage ≡ stages.None
unfolded_at stages.None none = refl
unfolded_at (Home n) none = absurd cc
unfolded_at Sync none = absurd cc
unfolded_at Ready none = absurd cc
unfolded_at Filed none = absurd cc

pub none_seen : (fold : Fold) → is_without_fold fold.stage ≡ true → fold_of fold ≡ None
none_seen fold none = no_fold_seen fold (unfolded_at fold.stage none)

pub ready_or_filed : (stage : FoldStage) → has_call stage ≡ false → is_without_fold stage ≡ false → (stage ≡ Ready) ⊎ (stage ≡ Filed)
ready_or_filed stages.None quiet held = absurd cc
ready_or_filed (Home n) quiet held = absurd cc
ready_or_filed Sync quiet held = absurd cc
ready_or_filed Ready quiet held = inl refl
ready_or_filed Filed quiet held = inr refl

pub ready_at : {D : Type 0} {keeps : D → Type 0} {states : D → List State} {pen : Inside D} → IsSoundPen keeps states pen
    → has_call pen.fold.stage ≡ false → is_without_fold pen.fold.stage ≡ false → pen.step ≡ None → pen.fold.stage ≡ Ready
ready_at {pen = pen} sound quiet held idle = elim (ready_or_filed pen.fold.stage quiet held) [
  | inl ready ↦ ready
  | inr filed ↦ (
      let in_hand = filed_at pen.shape pen.gate pen.tally pen.bytes.items pen.step pen.fold sound.fold.counts filed in
      let clash : None ≡ Some (kinds.Fold pen.fold.count) = sym (ap (frame_in_hand pen.shape pen.bytes.items) idle) ∙ in_hand in
      absurd cc)
]

pub none_at : (o : Option PenStep) → is_some o ≡ false → o ≡ None
none_at None none = refl
none_at (Some step) none = absurd cc

pub job_some : (shape : Shape) (bytes : List ℕ) (o : Option PenStep) → is_some o ≡ true → is_some (job_of shape bytes o) ≡ true
job_some shape bytes None some = absurd cc
job_some shape bytes (Some step) some = refl

-- behind a call
still_held : (stage : FoldStage) → has_call stage ≡ true → is_without_fold (stage_after stage) ≡ false
still_held stages.None calls = absurd cc
still_held (Home n) calls =
    elim (cases_Bool (nat_lt 1 n)) [
      | inl more ↦ ap (λ b. is_without_fold (cond b (Home (n - 1)) Sync)) more
      | inr last ↦ ap (λ b. is_without_fold (cond b (Home (n - 1)) Sync)) last
    ]
still_held Sync calls = refl
still_held Ready calls = absurd cc
still_held Filed calls = absurd cc

left_called : (shape : Shape) (gate : ℕ) (tally : Tally) (bytes : List ℕ) (o : Option PenStep) (fold : Fold) (stage : FoldStage)
    → has_call stage ≡ true → IsAtStage shape gate tally bytes o fold stage
    → map (write_of fold.bytes.items) (drop (done_after stage fold.done) fold.writes.items) ≡ left_after stage (left_of fold)
left_called shape gate tally bytes o fold stages.None calls at = absurd cc
left_called shape gate tally bytes o fold (Home n) calls at = sym (ap (drop 1) (left_next fold (omega (arith, at.1, at.2))))
left_called shape gate tally bytes o fold Sync calls at = refl
left_called shape gate tally bytes o fold Ready calls at = absurd cc
left_called shape gate tally bytes o fold Filed calls at = absurd cc

pub called_seen : {D : Type 0} {keeps : D → Type 0} {states : D → List State} {pen : Inside D} → IsSoundPen keeps states pen
    → has_call pen.fold.stage ≡ true → fold_of (advanced pen.fold) ≡ Some (called (seen pen.fold))
called_seen {pen = pen} sound calls =
    let fold = pen.fold in
    fold_is_seen (advanced fold) (still_held fold.stage calls)
    ∙ ap (λ left. Some (record { count = fold.count; left = left; stage = stage_after fold.stage }))
    (left_called pen.shape pen.gate pen.tally pen.bytes.items pen.step fold fold.stage calls sound.fold.counts)

pub listed_called : {keeps : Type 0} {states : List State} {log : PenLog} {homes : Homes} {live : ℕ} {fold : Fold}
    → has_call fold.stage ≡ true → HasLists keeps states log homes live fold → HasLists keeps states log homes live (advanced fold)
listed_called {fold = fold} calls listed = record {
  frames = listed.frames;
  legal = listed.legal;
  gate_is = listed.gate_is;
  tally_is = listed.tally_is;
  lists = listed.lists;
  filed = λ count is. (let clash : has_call Filed ≡ true = subst (λ st. has_call st ≡ true) (listed.filed count is).0 calls in absurd cc);
  runs_are = λ held. listed.runs_are (held_at fold.stage calls);
  same = listed.same;
}
  where
    held_at : (stage : FoldStage) → has_call stage ≡ true → IsInHand stage
    held_at stages.None calls = absurd cc
    held_at (Home n) calls = tt
    held_at Sync calls = tt
    held_at Ready calls = tt
    held_at Filed calls = tt

pub left_long : (fold : Fold) → length (left_of fold) ≡ length fold.writes.items - fold.done
left_long fold = length-map (drop fold.done fold.writes.items) (write_of fold.bytes.items) ∙ length-drop fold.done fold.writes.items

left_at : (shape : Shape) (gate : ℕ) (tally : Tally) (bytes : List ℕ) (o : Option PenStep) (fold : Fold) (stage : FoldStage)
    → IsAtStage shape gate tally bytes o fold stage
    → IfSome (in_stage stage (record { count = fold.count; left = left_of fold; stage = stage }))
    (λ f. length f.left ≡ writes_left f.stage)
left_at shape gate tally bytes o fold stages.None at = tt
left_at shape gate tally bytes o fold (Home n) at = left_long fold ∙ omega (arith, at.1)
left_at shape gate tally bytes o fold Sync at = left_long fold ∙ omega (arith, at.1)
left_at shape gate tally bytes o fold Ready at = left_long fold ∙ omega (arith, at.1)
left_at shape gate tally bytes o fold Filed at = left_long fold ∙ omega (arith, at.1)

-- as many writes are left as the stage tells
pub left_told : {D : Type 0} {keeps : D → Type 0} {states : D → List State} {pen : Inside D} → IsSoundPen keeps states pen
    → IfSome (fold_of pen.fold) (λ f. length f.left ≡ writes_left f.stage)
left_told {pen = pen} sound = left_at pen.shape pen.gate pen.tally pen.bytes.items pen.step pen.fold pen.fold.stage sound.fold.counts
