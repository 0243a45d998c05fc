-- What a walk without records tells, on the smallest examples, and what its definitions rule out.
use Rattle.std.proofs.Common.{◌≡◌, ℕ, ◌<◌, List, [], ◌∷◌, ◌++◌, length, refl, arith}
use Rattle.segment_core.specs.declared.format.Format.TheVariants.{One, Two}
use Rattle.segment_core.specs.declared.format.FrameKind.TheVariants as kinds
use Rattle.segment_core.specs.declared.format.Shape.{Shape}
use Rattle.segment_core.specs.declared.frame_walk.Advance.TheVariants.{Closed, Needs}
use Rattle.segment_core.specs.declared.frame_walk.FrameWalk.{FrameWalk}
use Rattle.segment_core.specs.Frame.{Run, Frame, Group, Change, Shrink, Fold}
use Rattle.segment_core.specs.Layout.{u32_at}
use Rattle.segment_core.specs.FrameWalk.{heads_in, heads_len, with_records, homes_of_runs, live_homes, extent_of, IsFrameFront, HasPrefix, IsTaken, HasAdvanced}

abbrev two : Shape
two = record { format = Two; width = 8 }

-- ---- places

-- runs of one record and of two: the second stands 8 bytes behind the first
abbrev runs : List Run
runs = record { start = 0; count = 1 } ∷ record { start = 2; count = 2 } ∷ []

runs_behind_one_another : homes_of_runs 8 87 runs ≡ record { position = 0; place = 87; count = 1 } ∷ record { position = 2; place = 95; count = 2 } ∷ []
runs_behind_one_another = refl

no_runs : homes_of_runs 8 87 [] ≡ []
no_runs = refl

-- a group of four records and a change of three, at 57
abbrev eight : ℕ → List ℕ
eight n = n ∷ 0 ∷ 0 ∷ 0 ∷ 0 ∷ 0 ∷ 0 ∷ 0 ∷ []

abbrev group : Frame
group = Group (4 ∷ []) (eight 5 ++ eight 5 ++ eight 5 ++ eight 5)

abbrev change : Frame
change = Change runs (eight 7 ++ eight 8 ++ eight 9)

live : live_homes two (group ∷ change ∷ []) ≡ record { position = 0; place = 91; count = 1 } ∷ record { position = 2; place = 99; count = 2 } ∷ []
live = refl

-- none where no change is, and none where it is folded
live_of_group : live_homes two (group ∷ []) ≡ []
live_of_group = refl

live_behind_fold : live_homes two (group ∷ change ∷ Fold 1 ∷ []) ≡ []
live_behind_fold = refl

extent : extent_of (record { position = 2; place = 99; count = 2 }) ≡ (2, 2)
extent = refl

-- ---- records

other_records : with_records change (eight 1) ≡ Change runs (eight 1)
other_records = refl

no_records : with_records (Shrink 3) (eight 1) ≡ Shrink 3
no_records = refl

-- ---- fronts

-- the front of a group of one growth of one record: 14 of its 22 bytes
abbrev front : List ℕ
front = 1 ∷ 1 ∷ 16 ∷ 0 ∷ 0 ∷ 0 ∷ 1 ∷ 0 ∷ 0 ∷ 0 ∷ 1 ∷ 0 ∷ 0 ∷ 0 ∷ []

one_growth : heads_in Two kinds.Group front ≡ 1
unfolding u32_at
one_growth = refl

group_heads : heads_len Two kinds.Group 1 ≡ 8
group_heads = refl

change_heads : (heads_len One kinds.Change 1 ≡ 8) × (heads_len Two kinds.Change 2 ≡ 28)
change_heads = (refl, refl)

fold_heads : heads_len Two kinds.Fold 0 ≡ 8
fold_heads = refl

front_of_group : IsFrameFront Two kinds.Group 22 front
unfolding u32_at
front_of_group = record { opened = refl; kind_is = refl; len_is = refl; size = refl }

-- it is no other frame's, and no other length's
no_change_front : IsFrameFront Two kinds.Change 22 front → ⊥
no_change_front is = let kind = is.kind_is in absurd (omega arith)

-- ---- prefixes

some_prefix : HasPrefix (1 ∷ []) 2 (1 ∷ 7 ∷ [])
some_prefix = record { size = refl; rest = 7 ∷ []; is = refl }

no_prefix : HasPrefix (2 ∷ []) 2 (1 ∷ 7 ∷ []) → ⊥
no_prefix is = let same = is.is in absurd cc

not_so_many : HasPrefix (1 ∷ []) 3 (1 ∷ 7 ∷ []) → ⊥
not_so_many is = let size = is.size in absurd (omega arith)

-- ---- the answers

-- an open gate is no end
not_ended : (walk new : FrameWalk) → HasAdvanced walk (1 ∷ []) 1 new Closed → ⊥
not_ended walk new gone = let closed = gone.1 (1 ∷ []) (record { size = refl; rest = []; is = refl }) in absurd cc

-- no more are asked for than are left, and no fewer than are there
needs_some : (walk new : FrameWalk) (front : List ℕ) (left n : ℕ) → HasAdvanced walk front left new (Needs n) → length front < left
needs_some walk new front left n gone = let more = gone.1 in let inside = gone.2 in omega arith

-- a frame that was taken is behind the walk
not_here : (walk : FrameWalk) (front : List ℕ) (left : ℕ) → IsTaken walk front left walk → ⊥
not_here walk front left taken = let further = taken.further in absurd (omega arith)
