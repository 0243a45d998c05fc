-- Worked values of what an appender does, of growths by their results, and of a grower's naps.
use Rattle.std.proofs.Common.{◌≡◌, ◌≤◌, ℕ, ◌+◌, List, [], ◌∷◌, Some, None, Ok, Err, length, refl, arith}
use Rattle.book_core.specs.declared.fault.GrowFault.{GrowFault}
use Rattle.book_core.specs.declared.fault.GrowFault.TheVariants.{Closed, Full, TooLong, Strayed, Memory, Empty, TooLarge}
use Rattle.book_core.specs.declared.seat.Receipt.{Receipt}
use Rattle.book_core.specs.Lists.{Phase, Seated}
use Rattle.book_core.specs.Growing.{GrowsBy, FillsOrReaches, size_of}
use Rattle.book_core.specs.Appending.{Appending, IsFlushed, IsAppended, KeepsAll, IsFlushRefusal, IsAppendRefusal}
use Rattle.book_core.specs.Naps.{IsNextNap}

module _ (live : Phase ℕ) (seat new : Seated ℕ) where
  -- an appender whose full block has two records
  abbrev appending : Seated ℕ → List ℕ → Appending ℕ
  appending s kept = record { seat = s; kept = kept; room = 2 }

  -- ---- what was kept is grown by

  nothing_to_flush : IsFlushed live (appending seat []) (appending seat []) None
  nothing_to_flush = (refl, refl, (refl, refl))

  not_dropped : IsFlushed live (appending seat (7 ∷ [])) (appending new []) None → ⊥
  not_dropped flushed = absurd (let none = flushed.2.0 in cc)

  not_kept_back : (receipt : Receipt) → IsFlushed live (appending seat (7 ∷ [])) (appending new (7 ∷ [])) (Some receipt) → ⊥
  not_kept_back receipt flushed = absurd (let none = flushed.1 in cc)

  all_flushed : (receipt : Receipt) → IsFlushed live (appending seat (7 ∷ 8 ∷ [])) (appending new []) (Some receipt) → receipt.len ≡ 2
  all_flushed receipt flushed = flushed.2.len

  -- ---- a record is kept

  kept_behind : IsAppended live (appending seat (7 ∷ [])) (appending seat (7 ∷ 8 ∷ [])) 8 None
  kept_behind = (refl, (omega arith, refl, refl))

  not_before : IsAppended live (appending seat (7 ∷ [])) (appending seat (8 ∷ 7 ∷ [])) 8 None → ⊥
  not_before appended = absurd (let kept = appended.1.2 in cc)

  not_past_a_full_block : IsAppended live (appending seat (7 ∷ 8 ∷ [])) (appending seat (7 ∷ 8 ∷ 9 ∷ [])) 9 None → ⊥
  not_past_a_full_block appended = let room = appended.1.0 in absurd (omega arith)

  not_too_soon : (receipt : Receipt) → IsAppended live (appending seat (7 ∷ [])) (appending new (8 ∷ [])) 8 (Some receipt) → ⊥
  not_too_soon receipt appended = let full = appended.1.0 in absurd (omega arith)

  alone_behind_a_full_block : (receipt : Receipt) (kept : List ℕ) → IsAppended live (appending seat (7 ∷ 8 ∷ [])) (appending new kept) 9 (Some receipt)
      → (receipt.len ≡ 2) × (kept ≡ 9 ∷ [])
  alone_behind_a_full_block receipt kept appended = (appended.1.1.len, appended.1.2)

  not_lost : KeepsAll (appending seat (7 ∷ 8 ∷ [])) (appending new (8 ∷ [])) → ⊥
  not_lost keeps = absurd (let kept = keeps.1 in cc)

  no_growth : KeepsAll (appending seat (7 ∷ [])) (appending new (7 ∷ [])) → new.made ≡ seat.made
  no_growth keeps = keeps.2.made

  -- ---- which fault may come

  full_of_growths : (kept : List ℕ) → IsFlushRefusal live (appending seat kept) Full → live.directory.room ≤ length seat.pass.entries
  full_of_growths kept why = why.1

  never_empty : (kept : List ℕ) → IsFlushRefusal live (appending seat kept) Empty → ⊥
  never_empty kept why = why

  never_too_large : (kept : List ℕ) → IsFlushRefusal live (appending seat kept) TooLarge → ⊥
  never_too_large kept why = why

  -- a record that makes no block full is refused for want of memory alone
  refused_for_memory : (fault : GrowFault) → IsAppendRefusal live (appending seat (7 ∷ [])) fault → fault ≡ Memory
  refused_for_memory Closed why = let full = why.0 in absurd (omega arith)
  refused_for_memory Full why = let full = why.0 in absurd (omega arith)
  refused_for_memory TooLong why = let full = why.0 in absurd (omega arith)
  refused_for_memory (Strayed n) why = let full = why.0 in absurd (omega arith)
  refused_for_memory Memory why = refl
  refused_for_memory Empty why = let full = why.0 in absurd (omega arith)
  refused_for_memory TooLarge why = let full = why.0 in absurd (omega arith)

  refused_for_room : IsAppendRefusal live (appending seat (7 ∷ 8 ∷ [])) Full → live.directory.room ≤ length seat.pass.entries
  refused_for_room why = why.1.1

  -- ---- growths by their results

  grown_by_all : (receipt : Receipt) → GrowsBy live seat new (7 ∷ 8 ∷ []) (Ok receipt) → receipt.len ≡ 2
  grown_by_all receipt grown = grown.len

  refused_makes_none : (fault : GrowFault) → GrowsBy live seat new (7 ∷ 8 ∷ []) (Err fault) → new.made ≡ seat.made
  refused_makes_none fault learns = learns.made

  there_already : FillsOrReaches live seat new 9 7 (Ok None) → (9 ≤ size_of live new) × (new.made ≡ seat.made)
  there_already filled = (filled.1, filled.0.made)

  filled_to : (receipt : Receipt) → FillsOrReaches live seat new 9 7 (Ok (Some receipt)) → receipt.start + receipt.len ≡ 9
  filled_to receipt filled = filled.ends

  refused_fills_none : (fault : GrowFault) → FillsOrReaches live seat new 9 7 (Err fault) → new.made ≡ seat.made
  refused_fills_none fault learns = learns.made

-- ---- naps

naps : IsNextNap 0 20 × IsNextNap 20 40 × IsNextNap 80 160 × IsNextNap 160 160
naps = (
  record { some = omega arith; bounded = omega arith; doubled = λ some. absurd (omega arith) },
  record { some = omega arith; bounded = omega arith; doubled = λ _. refl },
  record { some = omega arith; bounded = omega arith; doubled = λ _. refl },
  record { some = omega arith; bounded = omega arith; doubled = λ _. refl },
)

no_longer : IsNextNap 160 320 → ⊥
no_longer is = let bounded = is.bounded in omega arith

no_long_first : IsNextNap 0 161 → ⊥
no_long_first is = let bounded = is.bounded in omega arith

none_at_first : IsNextNap 0 0 → ⊥
none_at_first is = let some = is.some in omega arith

no_shorter : IsNextNap 80 80 → ⊥
no_shorter is = let doubled = is.doubled (omega arith) in omega arith
