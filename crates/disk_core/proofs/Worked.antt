-- What the definitions say of worked states: which bytes are images of them, since when they were left, and how many
-- places are pending.
use Rattle.std.proofs.Common.{◌≡◌, ℕ, zero, suc, ◌+◌, ◌<◌, ◌≤◌, ◌⊎◌, inl, inr, List, [], ◌∷◌, ◌++◌, length, length-append, drop, true, false, refl, ap, sym, arith}
use Rattle.std.specs.Prelude.{◌↔◌, slice_index}
use Rattle.disk_core.specs.declared.extent.Extent.{Extent}
use Rattle.disk_core.specs.State.{State, now, settled, written, made_of, is_within, IsImage}
use Rattle.disk_core.specs.Choice.{is_pending, pending_below, pending_count}
use Rattle.disk_core.specs.Moments.{LeftSince, LeftBetween, LeavesOnly}
use Rattle.disk_core.specs.Shared.{InTurn}

abbrev extent : ℕ → ℕ → Extent
extent at len = record { at = at; len = len }

-- three bytes that are on the disk, and a write over the last two of them and one past the end, not yet synced
abbrev three : State
three = settled (1 ∷ 2 ∷ 3 ∷ [])

abbrev unsynced : State
unsynced = written three 1 (7 ∷ 8 ∷ 9 ∷ [])

abbrev synced_again : State
synced_again = settled (1 ∷ 7 ∷ 8 ∷ 9 ∷ [])

unsynced_is : unsynced ≡ made_of (1 ∷ 7 ∷ 8 ∷ 9 ∷ []) (1 ∷ 2 ∷ 3 ∷ []) (extent 1 3 ∷ []) 4
unsynced_is = refl

-- ---- images

differ : (a b : ℕ) → a < b → a ≡ b → ⊥
differ a b lt is = absurd (omega arith)

-- the byte outside the write stays, whatever stands in its place
first_byte_stays : (image : List ℕ) → slice_index image 0 ≡ 1 → (i : ℕ) → i < 3 → is_within unsynced.pending i ≡ false → slice_index image i ≡ slice_index unsynced.synced i
first_byte_stays image first zero lt out = first
first_byte_stays image first (suc zero) lt out = absurd cc
first_byte_stays image first (suc (suc zero)) lt out = absurd cc
first_byte_stays image first (suc (suc (suc i))) lt out = absurd (omega arith)

old_bytes : IsImage unsynced (1 ∷ 2 ∷ 3 ∷ [])
old_bytes = record { no_shorter = omega arith; no_longer = omega arith; each = first_byte_stays (1 ∷ 2 ∷ 3 ∷ []) refl }

new_bytes : IsImage unsynced (1 ∷ 7 ∷ 8 ∷ 9 ∷ [])
new_bytes = record { no_shorter = omega arith; no_longer = omega arith; each = first_byte_stays (1 ∷ 7 ∷ 8 ∷ 9 ∷ []) refl }

abbrev torn : List ℕ
torn = 1 ∷ 200 ∷ 3 ∷ 0 ∷ []

torn_bytes : IsImage unsynced torn
torn_bytes = record { no_shorter = omega arith; no_longer = omega arith; each = first_byte_stays torn refl }

any_bytes : (a b c : ℕ) → IsImage unsynced (1 ∷ a ∷ b ∷ c ∷ [])
any_bytes a b c = record { no_shorter = omega arith; no_longer = omega arith; each = first_byte_stays (1 ∷ a ∷ b ∷ c ∷ []) refl }

changed_outside : (a b c : ℕ) → IsImage unsynced (9 ∷ a ∷ b ∷ c ∷ []) → ⊥
changed_outside a b c is = differ 1 9 (omega arith) (sym (is.each 0 (omega arith) refl))

too_short : IsImage unsynced (1 ∷ 2 ∷ []) → ⊥
too_short is = let le = is.no_shorter in absurd (omega arith)

too_long : IsImage unsynced (1 ∷ 7 ∷ 8 ∷ 9 ∷ 0 ∷ []) → ⊥
too_long is = let le = is.no_longer in absurd (omega arith)

-- past the synced bytes anything may stand, up to the greatest length
lengthened : (a : ℕ) → IsImage (made_of (1 ∷ []) (1 ∷ []) [] 2) (1 ∷ a ∷ [])
lengthened a = record { no_shorter = omega arith; no_longer = omega arith; each = each }
  where
    each : (i : ℕ) → i < 1 → false ≡ false → slice_index (1 ∷ a ∷ []) i ≡ slice_index (1 ∷ []) i
    each zero lt out = refl
    each (suc i) lt out = absurd (omega arith)

-- a state that is on the disk has one image
settled_image : (image : List ℕ) → IsImage synced_again image
    → (length image ≡ 4) × (slice_index image 0 ≡ 1) × (slice_index image 1 ≡ 7) × (slice_index image 2 ≡ 8) × (slice_index image 3 ≡ 9)
settled_image image is = let le = is.no_shorter in let ge = is.no_longer in
    (omega arith, is.each 0 (omega arith) refl, is.each 1 (omega arith) refl, is.each 2 (omega arith) refl, is.each 3 (omega arith) refl)

-- ---- moments

-- the bytes are synced, written, and synced again
abbrev start : List State
start = three ∷ []

abbrev middle : List State
middle = unsynced ∷ start

abbrev end : List State
end = synced_again ∷ middle

-- the newest state leaves this no more, but the one before it did, at moment 2
torn_once : LeftSince end 2 torn
torn_once = (omega arith, inr (omega arith, inl torn_bytes))

torn_since_start : LeftSince end 1 torn
torn_since_start = (omega arith, inr (omega arith, inl torn_bytes))

not_torn_since : LeftSince end 3 torn → ⊥
not_torn_since left = elim left.1 [
  | inl newest ↦ differ 7 200 (omega arith) (sym (newest.each 1 (omega arith) refl))
  | inr before ↦ (let late = before.0 in absurd (omega arith))
]

torn_by_2 : LeftBetween end 1 2 torn
torn_by_2 = (omega arith, inl torn_bytes)

not_torn_by_1 : LeftBetween end 1 1 torn → ⊥
not_torn_by_1 left = elim left.1 [
  | inl newest ↦ (let le = newest.no_longer in absurd (omega arith))
  | inr before ↦ before
]

-- the newest moment is 3
left_now : LeftSince end 3 (1 ∷ 7 ∷ 8 ∷ 9 ∷ [])
left_now = (omega arith, inl (record { no_shorter = omega arith; no_longer = omega arith; each = λ i lt out. refl }))

nothing_yet : (image : List ℕ) → LeftSince end 4 image → ⊥
nothing_yet image left = let late = left.0 in absurd (omega arith)

-- of two states: both since the first moment, the newer one since the second
since_first : (new old : State) (image : List ℕ) → LeftSince (new ∷ old ∷ []) 1 image ↔ (IsImage new image ⊎ IsImage old image)
since_first new old image = (
  λ left. elim left.1 [ inl newest ↦ inl newest | inr before ↦ elim before.1 [ inl oldest ↦ inr oldest | inr none ↦ absurd none ] ],
  λ is. elim is [ inl newest ↦ (omega arith, inl newest) | inr oldest ↦ (omega arith, inr (omega arith, inl oldest)) ],
)

since_second : (new old : State) (image : List ℕ) → LeftSince (new ∷ old ∷ []) 2 image ↔ IsImage new image
since_second new old image = (λ left. elim left.1 [ inl newest ↦ newest | inr before ↦ (let late = before.0 in absurd (omega arith)) ], λ is. (omega arith, inl is))

-- what holds of each image from the start on; the middle state breaks what the newest one keeps
first_stays : LeavesOnly start end (λ image. slice_index image 0 ≡ 1)
first_stays = record { past = (synced_again ∷ unsynced ∷ [], refl); each = each; newest = λ image is. is.each 0 (omega arith) refl }
  where
    each : (image : List ℕ) → LeftSince end 1 image → slice_index image 0 ≡ 1
    each image left = elim left.1 [
      | inl newest ↦ newest.each 0 (omega arith) refl
      | inr before ↦ elim before.1 [
        | inl between ↦ between.each 0 (omega arith) refl
        | inr earlier ↦ elim earlier.1 [ inl oldest ↦ oldest.each 0 (omega arith) refl | inr none ↦ absurd none ]
      ]
    ]

second_is_torn : LeavesOnly start end (λ image. slice_index image 1 ≡ 7) → ⊥
second_is_torn leaves = differ 7 200 (omega arith) (sym (leaves.each torn torn_since_start))

-- the state that was there before the calls counts, too
second_was_old : LeavesOnly start middle (λ image. slice_index image 0 ≡ 2) → ⊥
second_was_old leaves =
    differ 1 2 (omega arith)
    (leaves.each (1 ∷ 2 ∷ 3 ∷ [])
    (omega arith, inr (omega arith, inl (record { no_shorter = omega arith; no_longer = omega arith; each = λ i lt out. refl }))))

-- the newer states stand in front of the old ones as they stood
other_past : (P : List ℕ → Type 0) → LeavesOnly middle (unsynced ∷ synced_again ∷ []) P → ⊥
other_past P leaves = by_fresh leaves.past.0 leaves.past.1
  where
    by_fresh : (fresh : List State) → unsynced ∷ synced_again ∷ [] ≡ fresh ++ middle → ⊥
    by_fresh [] is = differ 3 4 (omega arith) (sym (ap (λ (states : List State). length (now (drop 1 states)).seen) is))
    by_fresh (s ∷ fresh) is = differ 2 (suc (length (fresh ++ middle))) (omega (arith, length-append fresh middle)) (ap length is)

-- ---- places that are pending

pending_of_write : pending_count unsynced ≡ 3
pending_of_write = refl

pending_after_sync : pending_count synced_again ≡ 0
pending_after_sync = refl

-- a place that was written twice counts once, and so does each past the synced bytes
pending_twice : pending_count (made_of (5 ∷ 6 ∷ []) (1 ∷ 2 ∷ []) (extent 0 1 ∷ extent 0 1 ∷ []) 4) ≡ 3
pending_twice = refl

place_outside : is_pending unsynced 0 ≡ false
place_outside = refl

place_inside : is_pending unsynced 1 ≡ true
place_inside = refl

place_past : is_pending unsynced 3 ≡ true
place_past = refl

two_below : pending_below unsynced 3 ≡ 2
two_below = refl

-- ---- a file that is written while it is read: 1 2 at first, and then 3 4

abbrev turning : ℕ → List ℕ
turning zero = 1 ∷ 2 ∷ []
turning (suc t) = 3 ∷ 4 ∷ []

abbrev by_turns : ℕ → ℕ
by_turns zero = 0
by_turns (suc j) = 1

-- a read may give the first byte as it was, and then the second as it is
old_and_new : InTurn turning 0 1 0 (1 ∷ 4 ∷ [])
old_and_new = record {
  moments = by_turns;
  ascend = later;
  since = λ j. omega arith;
  until = within;
  inside = inside;
  stood = stood;
}
  where
    later : (i j : ℕ) → i ≤ j → by_turns i ≤ by_turns j
    later zero j le = omega arith
    later (suc i) zero le = absurd (omega (arith, le))
    later (suc i) (suc j) le = omega arith

    within : (j : ℕ) → by_turns j ≤ 1
    within zero = omega arith
    within (suc j) = omega arith

    inside : (j : ℕ) → j < 2 → 0 + j < length (turning (by_turns j))
    inside zero lt = omega arith
    inside (suc zero) lt = omega arith
    inside (suc (suc j)) lt = absurd (omega (arith, lt))

    stood : (j : ℕ) → j < 2 → slice_index (1 ∷ 4 ∷ []) j ≡ slice_index (turning (by_turns j)) (0 + j)
    stood zero lt = refl
    stood (suc zero) lt = refl
    stood (suc (suc j)) lt = absurd (omega (arith, lt))

-- but not the first as it is, and behind it the second as it was
not_new_and_old : InTurn turning 0 1 0 (3 ∷ 2 ∷ []) → ⊥
not_new_and_old read = both (read.moments 0) (read.moments 1) (read.ascend 0 1 (omega arith)) (read.stood 0 (omega arith)) (read.stood 1 (omega arith))
  where
    both : (s t : ℕ) → s ≤ t → 3 ≡ slice_index (turning s) 0 → 2 ≡ slice_index (turning t) 1 → ⊥
    both zero t le first then = absurd (omega (arith, first))
    both (suc s) zero le first then = absurd (omega (arith, le))
    both (suc s) (suc t) le first then = absurd (omega (arith, then))
