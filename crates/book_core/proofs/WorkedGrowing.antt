-- Worked values of what a growth does to a seat, and of which fault may come where.
use Rattle.std.proofs.Common.{◌≤◌, ◌≡◌, ℕ, zero, suc, ◌+◌, ◌-◌, ◌⊎◌, inl, inr, List, [], ◌∷◌, ◌++◌, false, length, take, replicate, refl, ap, sym, ◌∙◌, arith}
use Rattle.std.specs.Prelude.{◌^◌}
use Rattle.std.proofs.lemmas.List.{take_at, length-append, length-replicate}
use Rattle.block_core.specs.Growth.{Growth}
use Rattle.directory_core.specs.Chain.{total}
use Rattle.directory_core.specs.Identity.{Name}
use Rattle.book_core.specs.declared.fault.GrowFault.{GrowFault}
use Rattle.book_core.specs.declared.fault.GrowFault.TheVariants.{Closed, Full, TooLong, Strayed, Memory, Empty, TooLarge}
use Rattle.book_core.specs.declared.seat.Receipt.{Receipt}
use Rattle.book_core.specs.Marks.{MarkName, nothing_told}
use Rattle.book_core.specs.Lists.{Phase, Seated}
use Rattle.book_core.specs.Growing.{Grown, FillsUp, growth_of, PhaseHasRoom, PhaseKeepsLimit, IsForeign, IsStray, IsBookRefusal, StraysInLimit, IsLookFault, IsCopiesRefusal, IsFillRefusal}

-- a list that grew by one at its end
front_is : {X : Type 0} (xs before : List X) (x y : X) → xs ++ x ∷ [] ≡ before ++ y ∷ [] → before ≡ xs
front_is xs before x y is =
    let long : length before ≡ length xs = omega (arith, ap length is, length-append xs (x ∷ []), length-append before (y ∷ [])) in
    sym (take_at before (y ∷ []) (length before) refl) ∙ (ap (take (length before)) (sym is) ∙ take_at xs (x ∷ []) (length before) (sym long))

module _ (name : Name) (mark : MarkName) where
  -- a phase with room for two growths, over the blocks [1, 2], none and [3]
  abbrev live : Phase ℕ
  live = record { directory = record { name = name; room = 2; limit = 2 ^ 32 - 3 }; mark = mark; seat_count = 2; blocks = (1 ∷ 2 ∷ []) ∷ [] ∷ (3 ∷ []) ∷ [] }

  -- its seat 0, which made and knows these
  abbrev seat : List (Growth ℕ) → List (Growth ℕ) → Seated ℕ
  seat made known = record {
    id = 0;
    made = made;
    pass = record { of = live.directory; entries = known; ended = false; strayed = false; held = record { buckets = []; cells = [] } };
    mark = record { of = mark; told = nothing_told; raises = [] };
  }

  -- a growth of the seat 1, and two of the seat 0 behind it
  abbrev other : Growth ℕ
  other = record { number = 0; start = 0; seat = 1; serial = 0; records = 4 ∷ 4 ∷ [] }

  abbrev mine : Growth ℕ
  mine = record { number = 1; start = 2; seat = 0; serial = 0; records = 5 ∷ 5 ∷ [] }

  -- ---- what a growth does

  -- the growth, made by the seat that knew the other one
  grows : Grown live (seat [] (other ∷ [])) (seat (mine ∷ []) (other ∷ mine ∷ [])) (5 ∷ 5 ∷ []) (record { number = 1; start = 5; len = 2; seat = 0; serial = 0 })
  grows = record {
    before = other ∷ [];
    begins = refl;
    ends = refl;
    number = refl;
    start = refl;
    len = refl;
    seat = refl;
    serial = refl;
    made = refl;
    just_own = refl;
    same = (refl, refl, refl);
  }

  -- its receipt: three records from before the phase and two of the other growth stand before it
  the_receipt : (records : List ℕ) (receipt : Receipt) → Grown live (seat [] (other ∷ [])) (seat (mine ∷ []) (other ∷ mine ∷ [])) records receipt
      → length records ≡ 2 → receipt ≡ record { number = 1; start = 5; len = 2; seat = 0; serial = 0 }
  the_receipt records receipt grown two =
      let before : grown.before ≡ other ∷ [] = front_is (other ∷ []) grown.before mine (growth_of (seat [] (other ∷ [])) grown.before records) grown.ends in
      let number = grown.number ∙ ap length before in
      let start = grown.start ∙ ap (λ (es : List (Growth ℕ)). 3 + total es) before in
      let len = grown.len ∙ two in
      λ i. record { number = number i; start = start i; len = len i; seat = grown.seat i; serial = grown.serial i }

  -- it is one of those that the seat made
  not_unmade : (receipt : Receipt) → Grown live (seat [] (other ∷ [])) (seat [] (other ∷ mine ∷ [])) (5 ∷ 5 ∷ []) receipt → ⊥
  not_unmade receipt grown = let made = ap length grown.made in omega arith

  -- and the seat made each growth that it knows and that bears its id
  not_foreign : (receipt : Receipt) → Grown live (seat [] (mine ∷ [])) (seat (mine ∷ []) (mine ∷ mine ∷ [])) (5 ∷ 5 ∷ []) receipt → ⊥
  not_foreign receipt grown = let own = ap length grown.just_own in omega arith

  -- what it knew stands yet
  not_forgotten : (receipt : Receipt) → Grown live (seat [] (other ∷ [])) (seat (mine ∷ []) (mine ∷ [])) (5 ∷ 5 ∷ []) receipt → ⊥
  not_forgotten receipt grown =
      let before : grown.before ≡ [] = front_is [] grown.before mine (growth_of (seat [] (other ∷ [])) grown.before (5 ∷ 5 ∷ [])) grown.ends in
      absurd (omega (arith, ap length (sym grown.begins ∙ ap (take 1) before)))

  not_other_records : (receipt : Receipt) → Grown live (seat [] (other ∷ [])) (seat (mine ∷ []) (other ∷ mine ∷ [])) (5 ∷ []) receipt → ⊥
  not_other_records receipt grown = let made : mine ∷ [] ≡ growth_of (seat [] (other ∷ [])) grown.before (5 ∷ []) ∷ [] = grown.made in omega (arith, ap total made)

  -- a growth to 7 is of two records, where five stood
  fills : (receipt : Receipt) → FillsUp live (seat [] (other ∷ [])) (seat (mine ∷ []) (other ∷ mine ∷ [])) 7 5 receipt → (receipt.start ≡ 5) × (receipt.len ≡ 2)
  fills receipt filled =
      let grown = filled.grown in
      let before : grown.before ≡ other ∷ [] = front_is (other ∷ []) grown.before mine (growth_of (seat [] (other ∷ [])) grown.before (replicate filled.count 5)) grown.ends in
      let start = grown.start ∙ ap (λ (es : List (Growth ℕ)). 3 + total es) before in
      let ends = filled.ends in
      (start, omega arith)

  fills_up_by_some : (receipt : Receipt) (new : Seated ℕ) → FillsUp live (seat [] []) new 3 5 receipt → ⊥
  fills_up_by_some receipt new filled =
      let start = filled.grown.start in
      let len = filled.grown.len in
      let ends = filled.ends in
      let some = filled.some in
      absurd (omega (arith, length-replicate {A = ℕ} filled.count 5))

  -- ---- what there is room for

  room_for_one : PhaseHasRoom live (seat [] (other ∷ []))
  room_for_one = omega arith

  no_room : PhaseHasRoom live (seat (mine ∷ []) (other ∷ mine ∷ [])) → ⊥
  no_room room = omega arith

  just_in_limit : PhaseKeepsLimit live (seat [] (other ∷ [])) (2 ^ 32 - 5)
  just_in_limit = omega arith

  past_the_limit : PhaseKeepsLimit live (seat [] (other ∷ [])) (2 ^ 32 - 4) → ⊥
  past_the_limit keeps = omega arith

  -- ---- what strays

  next_strays : IsStray (seat [] (other ∷ [])) 1
  next_strays = inl (refl, refl, omega arith)

  another_is_no_stray : IsStray (seat [] (other ∷ [])) 0 → ⊥
  another_is_no_stray stray = elim stray [
    | inl next ↦ let here = next.1 in absurd (omega arith)
    | inr foreign ↦ let at = foreign.at in let same : other ≡ foreign.growth = cc in let bears = foreign.bears in let seat_is = ap (λ (e : Growth ℕ). e.seat) same in absurd (omega arith)
  ]

  not_made_strays : IsStray (seat [] (other ∷ mine ∷ [])) 1
  not_made_strays = inr (record { growth = mine; at = refl; bears = refl; not_made = refl })

  made_is_no_stray : IsStray (seat (mine ∷ []) (other ∷ mine ∷ [])) 1 → ⊥
  made_is_no_stray stray = elim stray [
    | inl next ↦ let here = next.1 in absurd (omega arith)
    | inr foreign ↦ let few = ap length foreign.not_made in absurd (omega arith)
  ]

  -- none strays behind a full list, nor behind a stray one that is known
  none_behind_the_room : IsStray (seat (mine ∷ []) (other ∷ mine ∷ [])) 2 → ⊥
  none_behind_the_room stray = elim stray [ inl next ↦ let room = next.2 in absurd (omega arith) | inr foreign ↦ absurd (let at = foreign.at in cc) ]

  none_behind_a_stray : IsStray (seat [] (mine ∷ [])) 1 → ⊥
  none_behind_a_stray stray = elim stray [ inl next ↦ let own = ap length next.0 in absurd (omega arith) | inr foreign ↦ absurd (let at = foreign.at in cc) ]

  no_foreign : (n : ℕ) → IsForeign (seat [] (other ∷ [])) n → ⊥
  no_foreign zero foreign = let at = foreign.at in let bears = foreign.bears in let same : other ≡ foreign.growth = cc in absurd (omega (arith, ap (λ (e : Growth ℕ). e.seat) same))
  no_foreign (suc n) foreign = let at = foreign.at in absurd cc

  no_stray_of_full : (n : ℕ) → IsStray (seat (mine ∷ []) (other ∷ mine ∷ [])) n → ⊥
  no_stray_of_full n (inl next) = let here = next.1 in let room = next.2 in absurd (omega arith)
  no_stray_of_full zero (inr foreign) = let few = ap length foreign.not_made in absurd (omega arith)
  no_stray_of_full (suc zero) (inr foreign) = let few = ap length foreign.not_made in absurd (omega arith)
  no_stray_of_full (suc (suc n)) (inr foreign) = let at = foreign.at in absurd cc

  stray_is_next : (n : ℕ) → IsStray (seat [] (other ∷ [])) n → n ≡ 1
  stray_is_next n (inl next) = next.1
  stray_is_next n (inr foreign) = absurd (no_foreign n foreign)

  -- ---- which fault may come

  -- behind one growth, where there is room for one more: of one record
  may_refuse : (fault : GrowFault) → IsBookRefusal live (seat [] (other ∷ [])) 1 fault → (fault ≡ Closed) ⊎ ((fault ≡ Strayed 1) ⊎ (fault ≡ Memory))
  may_refuse Closed why = inl refl
  may_refuse Full why = let full = why.1 in absurd (omega arith)
  may_refuse TooLong why = let past = why.2 in absurd (omega arith)
  may_refuse (Strayed n) why = inr (inl (ap Strayed (stray_is_next n why)))
  may_refuse Memory why = inr (inr refl)
  may_refuse Empty why = absurd why
  may_refuse TooLarge why = absurd why

  -- of one record more than the limit lets in
  refuses_long : (fault : GrowFault) → IsBookRefusal live (seat [] (other ∷ [])) (2 ^ 32 - 4) fault → (fault ≡ Closed) ⊎ ((fault ≡ Strayed 1) ⊎ (fault ≡ TooLong))
  refuses_long Closed why = inl refl
  refuses_long Full why = let full = why.1 in absurd (omega arith)
  refuses_long TooLong why = inr (inr refl)
  refuses_long (Strayed n) why = inr (inl (ap Strayed (stray_is_next n why)))
  refuses_long Memory why = let keeps = why.2 in absurd (omega arith)
  refuses_long Empty why = absurd why
  refuses_long TooLarge why = absurd why

  no_late_stray : (n : ℕ) → StraysInLimit live (seat [] (other ∷ [])) (2 ^ 32 - 4) (Strayed n) → ⊥
  no_late_stray n keeps = omega arith

  -- behind two, where the room is full
  refuses_full : (fault : GrowFault) → IsBookRefusal live (seat (mine ∷ []) (other ∷ mine ∷ [])) 1 fault → (fault ≡ Closed) ⊎ (fault ≡ Full)
  refuses_full Closed why = inl refl
  refuses_full Full why = inr refl
  refuses_full TooLong why = let room = why.1 in absurd (omega arith)
  refuses_full (Strayed n) why = absurd (no_stray_of_full n why)
  refuses_full Memory why = let room = why.1 in absurd (omega arith)
  refuses_full Empty why = absurd why
  refuses_full TooLarge why = absurd why

  -- behind one that bears the seat's id and that it didn't make
  refuses_behind_a_stray : (fault : GrowFault) → IsBookRefusal live (seat [] (mine ∷ [])) 1 fault → (fault ≡ Closed) ⊎ (fault ≡ Strayed 0)
  refuses_behind_a_stray Closed why = inl refl
  refuses_behind_a_stray Full why = let own = ap length why.0 in absurd (omega arith)
  refuses_behind_a_stray TooLong why = let own = ap length why.0 in absurd (omega arith)
  refuses_behind_a_stray (Strayed zero) why = inr refl
  refuses_behind_a_stray (Strayed (suc zero)) why = absurd (none_behind_a_stray why)
  refuses_behind_a_stray (Strayed (suc (suc n))) (inl next) = let own = ap length next.0 in absurd (omega arith)
  refuses_behind_a_stray (Strayed (suc (suc n))) (inr foreign) = let at = foreign.at in absurd cc
  refuses_behind_a_stray Memory why = let own = ap length why.0 in absurd (omega arith)
  refuses_behind_a_stray Empty why = absurd why
  refuses_behind_a_stray TooLarge why = absurd why

  -- of a look
  look_strays : (fault : GrowFault) → IsLookFault (seat [] (other ∷ [])) fault → fault ≡ Strayed 1
  look_strays Closed why = absurd why
  look_strays Full why = absurd why
  look_strays TooLong why = absurd why
  look_strays (Strayed n) why = ap Strayed (stray_is_next n why)
  look_strays Memory why = absurd why
  look_strays Empty why = absurd why
  look_strays TooLarge why = absurd why

  -- of no record, and of one that fills the room
  refuses_none : (fault : GrowFault) → IsCopiesRefusal 8 live (seat [] (other ∷ [])) 0 fault → fault ≡ Empty
  refuses_none Closed why = let some = why.0.some in absurd (omega arith)
  refuses_none Full why = let some = why.0.some in absurd (omega arith)
  refuses_none TooLong why = let some = why.0.some in absurd (omega arith)
  refuses_none (Strayed n) why = let some = why.0.some in absurd (omega arith)
  refuses_none Memory why = let some = why.some in absurd (omega arith)
  refuses_none Empty why = refl
  refuses_none TooLarge why = absurd (omega arith)

  refuses_many : (fault : GrowFault) → IsCopiesRefusal 8 live (seat [] (other ∷ [])) 131072 fault → fault ≡ TooLarge
  refuses_many Closed why = let fits = why.0.fits in absurd (omega arith)
  refuses_many Full why = let fits = why.0.fits in absurd (omega arith)
  refuses_many TooLong why = let fits = why.0.fits in absurd (omega arith)
  refuses_many (Strayed n) why = let fits = why.0.fits in absurd (omega arith)
  refuses_many Memory why = let fits = why.fits in absurd (omega arith)
  refuses_many Empty why = absurd (omega arith)
  refuses_many TooLarge why = refl

  refuses_one_of_full : (fault : GrowFault) → IsCopiesRefusal 8 live (seat (mine ∷ []) (other ∷ mine ∷ [])) 1 fault → (fault ≡ Memory) ⊎ ((fault ≡ Closed) ⊎ (fault ≡ Full))
  refuses_one_of_full Closed why = inr (inl refl)
  refuses_one_of_full Full why = inr (inr refl)
  refuses_one_of_full TooLong why = let room = why.1.1 in absurd (omega arith)
  refuses_one_of_full (Strayed n) why = absurd (no_stray_of_full n why.1)
  refuses_one_of_full Memory why = inl refl
  refuses_one_of_full Empty why = absurd (omega arith)
  refuses_one_of_full TooLarge why = absurd (omega arith)

  -- to a length that is there
  refuses_no_more : (fault : GrowFault) → IsFillRefusal 8 live (seat [] (other ∷ [])) 5 fault → (fault ≡ Closed) ⊎ (fault ≡ Strayed 1)
  refuses_no_more Closed why = inl refl
  refuses_no_more Full why = let short = why.1 in absurd (omega arith)
  refuses_no_more TooLong why = let short = why.2 in absurd (omega arith)
  refuses_no_more (Strayed n) why = inr (ap Strayed (stray_is_next n why))
  refuses_no_more Memory why = let short = why.2 in absurd (omega arith)
  refuses_no_more Empty why = absurd why
  refuses_no_more TooLarge why = let short = why.2 in absurd (omega arith)

  -- to one record more
  refuses_to_fill : (fault : GrowFault) → IsFillRefusal 8 live (seat [] (other ∷ [])) 6 fault → (fault ≡ Closed) ⊎ ((fault ≡ Strayed 1) ⊎ (fault ≡ Memory))
  refuses_to_fill Closed why = inl refl
  refuses_to_fill Full why = let full = why.2 in absurd (omega arith)
  refuses_to_fill TooLong why = let past = why.4 in absurd (omega arith)
  refuses_to_fill (Strayed n) why = inr (inl (ap Strayed (stray_is_next n why)))
  refuses_to_fill Memory why = inr (inr refl)
  refuses_to_fill Empty why = absurd why
  refuses_to_fill TooLarge why = let large = why.3 in absurd (omega arith)

  -- to more than a frame holds
  refuses_to_fill_many : (fault : GrowFault) → IsFillRefusal 8 live (seat [] (other ∷ [])) 131077 fault → (fault ≡ Closed) ⊎ ((fault ≡ Strayed 1) ⊎ (fault ≡ TooLarge))
  refuses_to_fill_many Closed why = inl refl
  refuses_to_fill_many Full why = let full = why.2 in absurd (omega arith)
  refuses_to_fill_many TooLong why = let fits = why.3.fits in absurd (omega arith)
  refuses_to_fill_many (Strayed n) why = inr (inl (ap Strayed (stray_is_next n why)))
  refuses_to_fill_many Memory why = let fits = why.3.fits in absurd (omega arith)
  refuses_to_fill_many Empty why = absurd why
  refuses_to_fill_many TooLarge why = inr (inr refl)

  refuses_to_fill_full : (fault : GrowFault) → IsFillRefusal 8 live (seat (mine ∷ []) (other ∷ mine ∷ [])) 8 fault → (fault ≡ Closed) ⊎ (fault ≡ Full)
  refuses_to_fill_full Closed why = inl refl
  refuses_to_fill_full Full why = inr refl
  refuses_to_fill_full TooLong why = let room = why.1 in absurd (omega arith)
  refuses_to_fill_full (Strayed n) why = absurd (no_stray_of_full n why)
  refuses_to_fill_full Memory why = let room = why.1 in absurd (omega arith)
  refuses_to_fill_full Empty why = absurd why
  refuses_to_fill_full TooLarge why = let room = why.1 in absurd (omega arith)

  -- what is past the limit isn't refused for memory
  fill_for_memory : (seat : Seated ℕ) (n : ℕ) → IsFillRefusal 8 live seat n Memory → n ≤ 4294967296
  fill_for_memory seat n why = why.4
