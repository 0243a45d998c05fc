-- Worked examples: what edits make of records, which edits there can't be, and why news may be refused.
use Rattle.std.proofs.Common.{◌≡◌, ℕ, List, [], ◌∷◌, refl, arith}
use Rattle.record_core.specs.Bytes.{boolean}
use Rattle.segment_core.specs.Frame.{Group, Change, Shrink}
use Rattle.segment_core.specs.Raw.{raw}
use Rattle.beside_core.specs.declared.news.Edit.TheVariants.{Set, Cut}
use Rattle.beside_core.specs.Edit.{IsEdited}
use Rattle.beside_core.specs.Replay.{vector_left}
use Rattle.beside_core.specs.Tail.{PutsNoRecord}

-- 5 6 7 with 9 at position 1, then cut to two
both : IsEdited (raw 1) (Set 1 (9 ∷ []) ∷ Cut 2 ∷ []) ((5 ∷ []) ∷ (6 ∷ []) ∷ (7 ∷ []) ∷ []) ((5 ∷ []) ∷ (9 ∷ []) ∷ [])
both = (omega arith, 9 ∷ [], refl, (omega arith, refl))

-- the same by frames
by_frames : vector_left 1 (Group (3 ∷ []) (5 ∷ 6 ∷ 7 ∷ []) ∷ Change (record { start = 1; count = 1 } ∷ []) (9 ∷ []) ∷ Shrink 2 ∷ []) ≡ (5 ∷ []) ∷ (9 ∷ []) ∷ []
by_frames = refl

-- no edit sets a record behind the last one, and none cuts nothing
no_set_behind : (new : List (List ℕ)) → IsEdited (raw 1) (Set 1 (9 ∷ []) ∷ []) ((5 ∷ []) ∷ []) new → ⊥
no_set_behind new is = absurd (omega (arith, is.0))

no_empty_cut : (new : List (List ℕ)) → IsEdited (raw 1) (Cut 1 ∷ []) ((5 ∷ []) ∷ []) new → ⊥
no_empty_cut new is = absurd (omega (arith, is.0))

-- a change that puts 2 where a flag stands
puts_no_flag : PutsNoRecord boolean (Change (record { start = 4; count = 1 } ∷ []) (2 ∷ []) ∷ []) 4
puts_no_flag = record {
  before = [];
  run = record { start = 4; count = 1 };
  behind = [];
  bytes = 2 ∷ [];
  among = ([], [], refl);
  place = 0;
  inside = omega arith;
  at = refl;
  bad = refl;
}
