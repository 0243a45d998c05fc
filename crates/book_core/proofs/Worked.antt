-- Worked values of definitions that stand in conclusions alone.
use Rattle.std.proofs.Common.{◌≡◌, ℕ, zero, suc, ◌+◌, ◌<◌, List, [], ◌∷◌, false, Some, Ok, Err, ap}
use Rattle.std.proofs.Common.{sym, subst, ◌∙◌, ◌*◌, ◌⊎◌, refl, length, take, drop, slice_get, get_or, sum_by, inl, inr, arith, Bor, None, codes}
use Rattle.std.specs.Fmt.{digits}
use Rattle.std.specs.Prelude.{◌^◌, ◌≤◌}
use Rattle.std.proofs.lemmas.List.{length-drop}
use Rattle.block_core.specs.Growth.{Growth}
use Rattle.block_core.specs.declared.fault.FreshFault.TheVariants as block
use Rattle.directory_core.specs.Identity.{Name, Identity}
use Rattle.directory_core.specs.Known.{Held, Known}
use Rattle.book_core.specs.declared.fault.GrowFault.{GrowFault}
use Rattle.book_core.specs.declared.fault.GrowFault.TheVariants as grow
use Rattle.book_core.specs.declared.fault.SettleFault.{SettleFault}
use Rattle.book_core.specs.declared.fault.SettleFault.TheVariants as settle
use Rattle.book_core.specs.declared.mark.Raise.{Raise}
use Rattle.book_core.specs.declared.mark.Reading.{Reading}
use Rattle.book_core.specs.declared.mark.MarkState.{MarkState}
use Rattle.book_core.specs.declared.mark.MarkState.TheVariants.{Running, Ended, Broken}
use Rattle.book_core.specs.Marks.{MarkName, MarkEnd, HasAllRaises, IsRaiseOf, nothing_told, raised_to, word_of, Rises}
use Rattle.book_core.specs.Lists.{Phase, Seated, IsFirstOf, IsPlaceIn, IsRestOfPiece, IsSeatOf, joined_pieces, own_of, seat_list, seat_pieces, StandInList}
use Rattle.book_core.specs.Pieces.{from_place, IsLeftOf}
use Rattle.book_core.specs.Snapshots.{AreEven, AreFoundAt, HasRoomFor, HaveStarts, IsFoundAt, IsStepWith, Shown, ShowsSeat, full_of, list_in, pieces_in}
use Rattle.book_core.specs.Beginning.{AreNewSeats, IsNewSeat, MayBegin, IsBeginRefusal, MayBeginWide, IsWideBeginRefusal}
use Rattle.book_core.specs.Faults.{fault_of_block, state_of}
use Rattle.book_core.specs.Names.{grow_name}
use Rattle.book_core.specs.Growing.{SeatLearns, IsPast, SeatIsTold, IsToldOf}
use Rattle.book_core.proofs.PieceLists.{length-from_place}

-- a growth isn't past while as many are settled as stand before it, and the mark runs
not_past : (n : ℕ) → IsPast n n Running → ⊥
not_past n past = elim past [ inl less ↦ absurd (omega arith) | inr over ↦ over ]

past_when_broken : (n : ℕ) → IsPast n 0 Broken
past_when_broken n = inr tt

-- no count falls, and what is over doesn't run again
no_fall : (s t : MarkState) → Rises (record { count = 1; state = s }) (record { count = 0; state = t }) → ⊥
no_fall s t rises = let up = rises.count in absurd (omega arith)

no_restart : (m n : ℕ) → Rises (record { count = m; state = Ended }) (record { count = n; state = Running }) → ⊥
no_restart m n rises = rises.state tt

-- a seat that knew a growth doesn't learn that there is none
no_forgetting : {R : Type 0} (old new : Seated R) (e : Growth R) → old.pass.entries ≡ e ∷ [] → new.pass.entries ≡ [] → SeatLearns old new → ⊥
no_forgetting old new e knew none learns = let begins = learns.begins in grind (arith, ap length knew, ap length none, begins)

-- position 2 of [1, 2], none and [3] is the third piece's first place
third : IsRestOfPiece {R = ℕ} ((1 ∷ 2 ∷ []) ∷ [] ∷ (3 ∷ []) ∷ []) 2 (3 ∷ [])
third = record { number = 2; place = 0; piece = 3 ∷ []; at = refl; inside = omega arith; before = refl; is = refl }

joined_three : joined_pieces {R = ℕ} ((1 ∷ 2 ∷ []) ∷ [] ∷ (3 ∷ []) ∷ []) ≡ 1 ∷ 2 ∷ 3 ∷ []
joined_three = refl

-- ---- the word of a mark

words : (word_of (record { count = 5; state = Running }) ≡ 20) × (word_of (record { count = 5; state = Ended }) ≡ 21) × (word_of (record { count = 5; state = Broken }) ≡ 22)
words = (refl, refl, refl)

-- ---- its raises: to one growth at the time 4, then to three at 9

abbrev raises_to_three : List Raise
raises_to_three = record { count = 3; at = 9 } ∷ record { count = 1; at = 4 } ∷ []

raised_to_three : raised_to raises_to_three ≡ 3
raised_to_three = refl

earlier_raise : IsRaiseOf raises_to_three (record { count = 1; at = 4 })
earlier_raise = inr (inl refl)

-- each of the two is one, and no other count or time is
other_raise : (raise : Raise) → IsRaiseOf raises_to_three raise → 4 * raise.count + raise.at ≡ 21 ⊎ (4 * raise.count + raise.at ≡ 8)
other_raise raise is = elim is [
  | inl newest ↦ inl (sym (ap (λ (r : Raise). 4 * r.count + r.at) newest))
  | inr earlier ↦ elim earlier [ inl first ↦ inr (sym (ap (λ (r : Raise). 4 * r.count + r.at) first)) | inr none ↦ absurd none ]
]

-- who has the newest alone lacks the earlier one
lacks_earlier : HasAllRaises (record { count = 3; at = 9 } ∷ []) raises_to_three → ⊥
lacks_earlier has = elim (has (record { count = 1; at = 4 }) earlier_raise) [ inl same ↦ omega (arith, ap (λ (r : Raise). r.count) same) | inr none ↦ none ]

-- ---- what a seat is told

-- the second growth isn't settled where one is, and the first is even where the mark is broken
not_yet : (state : MarkState) → IsToldOf 1 (record { count = 1; state = state }) (Ok 1) → ⊥
not_yet state told = let settled = told.1 in omega arith

settled_yet : (fault : SettleFault) → IsToldOf 0 (record { count = 1; state = Broken }) (Err fault) → ⊥
settled_yet fault told = let unsettled = told.1 in omega arith

told_broken : (fault : SettleFault) → IsToldOf 1 (record { count = 1; state = Broken }) (Err fault) → fault ≡ settle.Broken
told_broken settle.Ended told = let state = told.0 in absurd cc
told_broken settle.Broken told = refl

-- ---- new seats, and those that made growths

module _ (name : Name) (mark : MarkName) (held : Held) where
  abbrev of : Identity
  of = record { name = name; room = 2; limit = 2 ^ 32 }

  abbrev seat : List (Growth ℕ) → List (Growth ℕ) → Seated ℕ
  seat made known = record { id = 0; made = made; pass = record { of = of; entries = known; ended = false; strayed = false; held = held }; mark = record { of = mark; told = nothing_told; raises = [] } }

  abbrev mine : ℕ → Growth ℕ
  mine serial = record { number = serial; start = serial; seat = 0; serial = serial; records = 7 ∷ [] }

  no_other_id : IsNewSeat of mark 1 (seat [] []) → ⊥
  no_other_id new = let id = new.id_is in omega arith

  none_made : IsNewSeat of mark 0 (seat (mine 0 ∷ []) []) → ⊥
  none_made new = absurd (let made = new.made in cc)

  none_known : IsNewSeat of mark 0 (seat [] (mine 0 ∷ [])) → ⊥
  none_known new = absurd (let knows = new.knows in cc)

  -- what it made stands in its list, before what bears its id and it didn't make
  stand_in_list : StandInList (seat (mine 0 ∷ []) (mine 0 ∷ mine 1 ∷ []))
  stand_in_list = record { first = 1; inside = omega arith; are = refl }

  own_in : (first : ℕ) → mine 1 ∷ [] ≡ own_of 0 (take first (mine 0 ∷ mine 1 ∷ [])) → ⊥
  own_in zero is = absurd cc
  own_in (suc zero) is = omega (arith, ap (sum_by (λ (e : Growth ℕ). e.serial)) is)
  own_in (suc (suc n)) is = absurd cc

  not_behind : StandInList (seat (mine 1 ∷ []) (mine 0 ∷ mine 1 ∷ [])) → ⊥
  not_behind stand = own_in stand.first stand.are

  -- of the mark alone: neither what a seat knows nor what the mark was doesn't tell
  told_no_growth : (count : ℕ) (state : MarkState) → SeatIsTold (seat [] []) (seat [] (mine 0 ∷ [])) count state → ⊥
  told_no_growth count state told = absurd (let same = ap (λ (known : Known ℕ). length known.entries) told.same.2 in omega arith)

  told_none_made : (count : ℕ) (state : MarkState) → SeatIsTold (seat [] []) (seat (mine 0 ∷ []) []) count state → ⊥
  told_none_made count state told = let same = ap length told.same.1 in omega arith

  told_nothing : (count : ℕ) (state : MarkState) → SeatIsTold (seat [] []) (seat [] []) count state → count ≡ 0
  told_nothing count state told = sym (ap (λ (r : Reading). r.count) told.told)

  -- once one growth was told, none is told of no growth, and the seat is no new one
  abbrev told_one : Seated ℕ
  told_one = record (seat [] []) { mark = record { of = mark; told = record { count = 1; state = Running }; raises = record { count = 1; at = 9 } ∷ [] } }

  told_no_less : (new : Seated ℕ) (state : MarkState) → SeatIsTold told_one new 0 state → ⊥
  told_no_less new state told = let up = told.rises.count in omega arith

  -- it has seen a raise to just that, and doesn't forget it
  told_by_a_raise : (count : ℕ) → SeatIsTold (seat [] []) told_one count Running → count ≡ 1
  told_by_a_raise count told = sym told.raised

  told_without_a_raise : (old new : Seated ℕ) (count : ℕ) → new.mark.raises ≡ [] → SeatIsTold old new (count + 1) Running → ⊥
  told_without_a_raise old new count none told = omega (arith, ap raised_to none, told.raised)

  no_raise_forgotten : (new : Seated ℕ) (count : ℕ) → new.mark.raises ≡ [] → SeatIsTold told_one new count Running → ⊥
  no_raise_forgotten new count none told = subst (λ (raises : List Raise). IsRaiseOf raises (record { count = 1; at = 9 })) none (told.seen (record { count = 1; at = 9 }) (inl refl))

  not_new : IsNewSeat of mark 0 told_one → ⊥
  not_new new = let count = ap (λ (end : MarkEnd). end.told.count) new.marked in omega arith

  -- a snapshot that lacks a growth doesn't show the list of who knows it
  lacks_one : (live : Phase ℕ) → ShowsSeat live (seat [] (mine 0 ∷ [])) (record { of = live; growths = [] }) → ⊥
  lacks_one live shows = let few = ap length shows.growths in omega arith

  -- seats have the ids 0 and 1, and not both the first
  not_both_first : AreNewSeats of mark (seat [] [] ∷ seat [] [] ∷ []) → ⊥
  not_both_first new = let id = (new 1 (seat [] []) refl).id_is in omega arith

  -- of its own growths the next one from a number on
  next_own : IsFirstOf 0 1 1 (mine 0 ∷ mine 1 ∷ [])
  next_own = record { growth = mine 1; at = refl; bears = refl; first = refl }

  not_a_later_one : IsFirstOf 0 0 1 (mine 0 ∷ mine 1 ∷ []) → ⊥
  not_a_later_one next = let few = ap length next.first in omega arith

  not_one_before : IsFirstOf 0 1 0 (mine 0 ∷ mine 1 ∷ []) → ⊥
  not_one_before next = let few = ap length next.first in omega arith

  -- the list that it reads: first the records from before the phase, in the order of their blocks
  abbrev over : Phase ℕ
  over = record { directory = of; mark = mark; seat_count = 1; blocks = (1 ∷ 2 ∷ []) ∷ [] ∷ [] }

  read_list : seat_list over (seat [] (mine 0 ∷ [])) ≡ 1 ∷ 2 ∷ 7 ∷ []
  read_list = refl

  read_pieces : seat_pieces over (seat [] (mine 0 ∷ [])) ≡ (1 ∷ 2 ∷ []) ∷ [] ∷ (7 ∷ []) ∷ []
  read_pieces = refl

  -- and that of a snapshot, which has no piece without a record
  abbrev snapshot : Shown ℕ
  snapshot = record { of = over; growths = (7 ∷ []) ∷ [] }

  shown_pieces : (pieces_in snapshot ≡ (1 ∷ 2 ∷ []) ∷ (7 ∷ []) ∷ []) × (list_in snapshot ≡ 1 ∷ 2 ∷ 7 ∷ [])
  shown_pieces = (refl, refl)

  shows : ShowsSeat over (seat [] (mine 0 ∷ [])) snapshot
  shows = record { of = refl; growths = refl; list = refl }

  shows_alone : (live : Phase ℕ) (known : List (Growth ℕ)) (shown : Shown ℕ) → ShowsSeat live (seat [] known) shown → (shown.of ≡ live) × (list_in shown ≡ seat_list live (seat [] known))
  shows_alone live known shown so = (so.of, so.list)

  of_book : (live : Phase ℕ) (known : List (Growth ℕ)) → IsSeatOf live (seat [] known) → (of ≡ live.directory) × (mark ≡ live.mark)
  of_book live known so = (so.directory, so.mark)

-- ---- phases that begin

no_room : MayBegin 0 1 → ⊥
no_room may = let some = may.room_in.0 in omega arith

too_much_room : MayBegin 1048569 1 → ⊥
too_much_room may = let within = may.room_in.1 in omega arith

no_seat : MayBegin 1 0 → ⊥
no_seat may = let some = may.seats_in.0 in omega arith

too_many_seats : MayBegin 1 65 → ⊥
too_many_seats may = let within = may.seats_in.1 in omega arith

refused_for_memory : (fault : GrowFault) → IsBeginRefusal 1048568 64 fault → fault ≡ grow.Memory
refused_for_memory grow.Closed why = absurd why
refused_for_memory grow.Full why = absurd why
refused_for_memory grow.TooLong why = absurd why
refused_for_memory (grow.Strayed n) why = absurd why
refused_for_memory grow.Memory why = refl
refused_for_memory grow.Empty why = absurd why
refused_for_memory grow.TooLarge why = elim why [
  | inl none ↦ absurd (omega arith)
  | inr more ↦ elim more [ inl room ↦ absurd (omega arith) | inr seats ↦ elim seats [ inl none ↦ absurd (omega arith) | inr many ↦ absurd (omega arith) ] ]
]

-- a wide one may have more, but no more than a directory
wide_room : MayBeginWide 1048569 1 × MayBeginWide 536870904 64
wide_room = (record { room_in = (omega arith, omega arith); seats_in = (omega arith, omega arith) }, record { room_in = (omega arith, omega arith); seats_in = (omega arith, omega arith) })

too_much_wide_room : (MayBeginWide 536870905 1 → ⊥) × (IsWideBeginRefusal 536870905 1 grow.Memory → ⊥)
too_much_wide_room = ((λ may. let within = may.room_in.1 in absurd (omega arith)), λ why. let within = why.room_in.1 in absurd (omega arith))

wide_room_refused : (IsWideBeginRefusal 536870904 64 grow.TooLarge → ⊥) × IsWideBeginRefusal 536870905 64 grow.TooLarge × IsWideBeginRefusal 536870904 65 grow.TooLarge
wide_room_refused = (
  λ why. elim why [
    | inl none ↦ absurd (omega arith)
    | inr more ↦ elim more [ inl room ↦ absurd (omega arith) | inr seats ↦ elim seats [ inl none ↦ absurd (omega arith) | inr many ↦ absurd (omega arith) ] ]
  ],
  inr (inl (omega arith)),
  inr (inr (inr (omega arith))),
)

refused_as_too_large : (fault : GrowFault) → IsBeginRefusal 1 65 fault → fault ≡ grow.TooLarge
refused_as_too_large grow.Closed why = absurd why
refused_as_too_large grow.Full why = absurd why
refused_as_too_large grow.TooLong why = absurd why
refused_as_too_large (grow.Strayed n) why = absurd why
refused_as_too_large grow.Memory why = absurd (too_many_seats why)
refused_as_too_large grow.Empty why = absurd why
refused_as_too_large grow.TooLarge why = refl

-- ---- pieces

abbrev three : List (List ℕ)
three = (1 ∷ 2 ∷ []) ∷ [] ∷ (3 ∷ []) ∷ []

-- nothing but the third piece stands at position 2
third_place : (number place : ℕ) (piece : List ℕ) → slice_get three number ≡ Some piece → place < length piece
    → sum_by length (take number three) + place ≡ 2 → drop place piece ≡ 3 ∷ []
third_place zero place piece is inside at = let same : 1 ∷ 2 ∷ [] ≡ piece = cc in absurd (omega (arith, ap length same))
third_place (suc zero) place piece is inside at = let same : [] ≡ piece = cc in absurd (omega (arith, ap length same))
third_place (suc (suc zero)) place piece is inside at = let same : 3 ∷ [] ≡ piece = cc in let here : place ≡ 0 = omega arith in λ i. drop (here i) (sym same i)
third_place (suc (suc (suc n))) place piece is inside at = absurd cc

the_third : (rest : List ℕ) → IsRestOfPiece three 2 rest → rest ≡ 3 ∷ []
the_third rest at = at.is ∙ third_place at.number at.place at.piece at.at at.inside at.before

from_the_second : from_place 1 three ≡ (2 ∷ []) ∷ [] ∷ (3 ∷ []) ∷ []
from_the_second = refl

left_of : (number place : ℕ) (left : List (List ℕ)) → left ≡ from_place place (drop number three) → length left ≤ 3
left_of number place left are = omega (arith, ap length are, length-from_place place (drop number three), length-drop number three)

no_more_left : IsLeftOf three ((1 ∷ []) ∷ (2 ∷ []) ∷ [] ∷ (3 ∷ []) ∷ []) → ⊥
no_more_left left = let few = left_of left.number left.place _ left.are in omega arith

full_of_three : full_of three ≡ (1 ∷ 2 ∷ []) ∷ (3 ∷ []) ∷ []
full_of_three = refl

abbrev both : List (List ℕ)
both = (1 ∷ 2 ∷ []) ∷ (3 ∷ []) ∷ []

both_full : (k : ℕ) (d : List ℕ) → k < 2 → 0 < length (get_or both k d)
both_full zero d lt = omega arith
both_full (suc zero) d lt = omega arith
both_full (suc (suc k)) d lt = absurd (omega arith)

both_start : (k : ℕ) → k < 2 → get_or (0 ∷ 2 ∷ []) k 0 ≡ sum_by length (take k both)
both_start zero lt = refl
both_start (suc zero) lt = refl
both_start (suc (suc k)) lt = absurd (omega arith)

laid : HaveStarts both (0 ∷ 2 ∷ []) 3
laid = record { full = both_full; as_many = refl; start_at = both_start; size_is = refl; in_limit = omega arith }

none_empty : HaveStarts {R = ℕ} ([] ∷ []) (0 ∷ []) 0 → ⊥
none_empty laid = let some = laid.full 0 [] (omega arith) in omega arith

starts_at_ends : HaveStarts both (0 ∷ 1 ∷ []) 3 → ⊥
starts_at_ends laid = let second = laid.start_at 1 (omega arith) in omega arith

-- ---- places, and what is found at them

third_in : IsPlaceIn three 2 2 0
third_in = record { piece = 3 ∷ []; at = refl; inside = omega arith; before = refl }

not_in_no_piece : IsPlaceIn three 2 1 0 → ⊥
not_in_no_piece at = let is = at.at in let inside = at.inside in let none : [] ≡ at.piece = cc in omega (arith, ap length none)

abbrev two : List ℕ
two = 5 ∷ 6 ∷ []

of_some : (a b : ℕ) → Some a ≡ Some b → a ≡ b
of_some a b same = cc

none_past_the_end : IsFoundAt two 2 None
none_past_the_end = omega arith

not_none_inside : IsFoundAt two 1 None → ⊥
not_none_inside past = omega arith

second_alone : (it : Bor ℕ) → IsFoundAt two 1 (Some it) → it.now ≡ 6
second_alone it found = sym (of_some 6 it.now found)

-- in the order in which the positions are named
asked_second : (it : Bor ℕ) → AreFoundAt two (1 ∷ []) (Some it ∷ []) → it.now ≡ 6
asked_second it found = second_alone it (found 0 1 (Some it) refl refl)

-- ---- pieces of one length, but the last

uneven : AreEven (0 ∷ 3 ∷ []) 4 2 → ⊥
uneven even = let second = even.start_at 1 (omega arith) (omega arith) in omega arith

too_long : AreEven (0 ∷ 2 ∷ []) 5 2 → ⊥
too_long even = let most = even.no_more (omega arith) in omega arith

-- behind two full pieces of two records a third of one, and none longer, nor behind one that isn't full
a_last_one : IsStepWith 2 4 2 1 2
a_last_one = inr (inr (refl, refl, omega arith))

no_longer_one : IsStepWith 2 4 2 3 2 → ⊥
no_longer_one step = elim step [ inl none ↦ omega arith | inr some ↦ elim some [ inl first ↦ (let none = first.0 in omega arith) | inr next ↦ (let short = next.2 in omega arith) ] ]

not_behind_a_short_one : IsStepWith 2 3 2 1 2 → ⊥
not_behind_a_short_one step = elim step [ inl none ↦ omega arith | inr some ↦ elim some [ inl first ↦ (let none = first.0 in omega arith) | inr next ↦ (let full = next.1 in omega arith) ] ]

no_start_room : HasRoomFor {R = ℕ} (record { pieces = (1 ∷ []) ∷ []; slice_room = 2; start_room = 1 }) 1 → ⊥
no_start_room room = let starts = room.1 in omega arith

-- ---- one fault in another's place, and their names

in_place : (fault_of_block block.Empty ≡ grow.Empty) × (fault_of_block block.TooLarge ≡ grow.TooLarge) × (fault_of_block block.Memory ≡ grow.Memory)
    × (state_of settle.Ended ≡ Ended) × (state_of settle.Broken ≡ Broken)
in_place = (refl, refl, refl, refl, refl)

fault_names : (grow_name grow.Closed ≡ codes "closed") × (grow_name grow.Full ≡ codes "full") × (grow_name grow.TooLong ≡ codes "too long") × (grow_name (grow.Strayed 3) ≡ codes "strayed 3")
    × (grow_name grow.Memory ≡ codes "memory") × (grow_name grow.Empty ≡ codes "empty") × (grow_name grow.TooLarge ≡ codes "too large")
unfolding digits
fault_names = (refl, refl, refl, refl, refl, refl, refl)
