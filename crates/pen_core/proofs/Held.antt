-- What each image of a state opens to, and what the calls of a commit and of a fold make of what a pen knows.
use Rattle.std.proofs.Common.{◌≡◌, ◌≢◌, ℕ, ◌+◌, ◌≤◌, ◌<◌, ◌⊎◌, inl, inr, Bool, true, false, ◌||◌, List, [], ◌∷◌, ◌++◌, length, take, drop, get_or, refl, sym, ap, subst, ◌∙◌, arith}
use Rattle.std.proofs.lemmas.Bool.{cases_eq, cases_order, cases_Bool, or_cases, both_ways}
use Rattle.std.proofs.lemmas.List.{length-append, length-take-le, get_or_append_left, get_or_push}
use Rattle.std.proofs.lemmas.Bool.Decides.{nat_tests}
use Rattle.disk_core.specs.declared.extent.Extent.{Extent}
use Rattle.disk_core.specs.State.{State, has_place, is_within, overlay, IsImage}
use Rattle.disk_core.proofs.ImageLemmas.{get_or-overlay}
use Rattle.segment_core.specs.declared.format.Shape.{Shape}
use Rattle.segment_core.specs.Frame.{Frame}
use Rattle.pen_core.specs.Held.{Opens, HoldsFrames, IsBeingFolded, gate_of}
use Rattle.pen_core.specs.Known.{IsFileOf, IsShut, IsWritten, IsOnDisk, IsBeforeOrAfter}
use Rattle.pen_core.proofs.Again.{folded_loose, Holds-again, Holds-opens}

-- ---- pending places

pub pending_push : (es : List Extent) (e : Extent) (j : ℕ) → is_within (es ++ e ∷ []) j ≡ true
    → (is_within es j ≡ true) ⊎ (has_place e j ≡ true)
pending_push [] e j is = elim (or_cases (has_place e j) false is) [ inl here ↦ inr here | inr never ↦ absurd cc ]
pending_push (x ∷ es) e j is = elim (or_cases (has_place x j) (is_within (es ++ e ∷ []) j) is) [
  | inl first ↦ inl (ap (λ b. b || is_within es j) first)
  | inr later ↦ elim (pending_push es e j later) [ inl old ↦ inl (or_later (has_place x j) (is_within es j) old) | inr new ↦ inr new ]
]
  where
    or_later : (a b : Bool) → b ≡ true → (a || b) ≡ true
    or_later true b is = refl
    or_later false b is = is

pub covered_inside : (at len j : ℕ) → has_place (record { at = at; len = len }) j ≡ true → (at ≤ j) × (j < at + len)
covered_inside at len j is = (grind (arith, nat_tests), grind (arith, nat_tests))

-- a place that stays out of an extent isn't in it
pub not_pending : (es : List Extent) (at len j : ℕ) → is_within es j ≡ false → ((at ≤ j) → (j < at + len) → ⊥)
    → is_within (es ++ record { at = at; len = len } ∷ []) j ≡ false
not_pending es at len j out apart = elim (cases_Bool (is_within (es ++ record { at = at; len = len } ∷ []) j)) [
  | inr is ↦ is
  | inl is ↦ elim (pending_push es (record { at = at; len = len }) j is) [
    | inl old ↦ absurd (both_ways (is_within es j) out old)
    | inr new ↦ (let i = covered_inside at len j new in absurd (apart i.0 i.1))
  ]
]

-- ---- images

-- two images have the same byte at a synced place that isn't pending
images_agree : (s : State) (a b : List ℕ) (j : ℕ) → IsImage s a → IsImage s b → j < length s.synced
    → is_within s.pending j ≡ false → get_or a j 0 ≡ get_or b j 0
images_agree s a b j of_a of_b lt out = of_a.each j lt out ∙ sym (of_b.each j lt out)

fast_kept : (s : State) (j : ℕ) (L : Type 0) → (is_within s.pending j ≡ true → L) → (L → ⊥) → is_within s.pending j ≡ false
fast_kept s j L loose fast = elim (cases_Bool (is_within s.pending j)) [ inl is ↦ absurd (fast (loose is)) | inr is ↦ is ]

module _ (shape : Shape) (count : ℕ) (frames : List Frame) (vector : List (List ℕ)) (s : State)
    (file : IsFileOf shape count frames vector s) (readable : IsImage s s.seen) (image : List ℕ) (is : IsImage s image) where
  -- an image holds what a read gives, up to the gate
  pub image_holds : HoldsFrames shape frames vector image
  image_holds =
      Holds-again shape frames vector s.seen image file.holds (omega (arith, file.gate_synced, is.no_shorter)) (λ j lt fast.
      images_agree s image s.seen j is readable (omega (arith, file.gate_synced))
      (fast_kept s j (IsBeingFolded shape count frames j) (file.pending_is_folded j lt)
      (λ f. fast (folded_loose shape count frames j f))))

  pub image_opens : get_or image (gate_of shape frames) 0 ≢ 1 → Opens shape frames vector image
  image_opens closed = Holds-opens shape frames vector image image_holds (omega (arith, file.gate_synced, is.no_shorter)) closed

  -- while the gate is shut, every image has the frames and the vector
  pub images_shut : IsShut (gate_of shape frames) s → Opens shape frames vector image
  images_shut shut =
      image_opens
      (λ opened.
      shut.closed
      (sym (images_agree s image s.seen (gate_of shape frames) is readable file.gate_synced shut.kept) ∙ opened))

-- the byte at a gate that was opened
pub opened_at : (old : List ℕ) (gate : ℕ) → gate < length old → get_or (overlay old gate (1 ∷ [])) gate 0 ≡ 1
opened_at old gate lt =
    let l = length-take-le gate old (omega arith) in
    get_or_append_left (take gate old ++ 1 ∷ []) (drop (gate + 1) old) 0 gate
    (omega (arith, length-append (take gate old) (1 ∷ [])))
    ∙ get_or_push (take gate old) 1 0 gate l

pub opened_elsewhere : (old : List ℕ) (gate j : ℕ) → gate < length old → j < length old → (j ≡ gate → ⊥)
    → get_or (overlay old gate (1 ∷ [])) j 0 ≡ get_or old j 0
opened_elsewhere old gate j lt inside other = elim (cases_order j gate) [
  | inl same ↦ absurd (other same)
  | inr (inl before) ↦ get_or-overlay old gate (1 ∷ []) j (omega arith) inside (inl before)
  | inr (inr after) ↦ get_or-overlay old gate (1 ∷ []) j (omega arith) inside (inr (omega arith))
]

-- once the job's frame is on the disk, every image has the frames before it or with it
pub images_open : (shape : Shape) (count : ℕ) (frames next : List Frame) (before after : List (List ℕ)) (s : State)
    → IsFileOf shape count frames before s → IsWritten shape count frames next after s → IsOnDisk shape frames next s
    → IsImage s s.seen
    → (image : List ℕ) → IsImage s image → IsBeforeOrAfter shape frames next before after image
images_open shape count frames next before after s file wrote there readable image is =
    let p : ℕ = gate_of shape frames in
    let q : ℕ = gate_of shape next in
    let synced = file.gate_synced in
    let long = is.no_shorter in
    let read_long = readable.no_shorter in
    let longer = wrote.longer in
    let inside = there.inside in
    elim (cases_eq (get_or image p 0) 1) [
      | inr closed ↦ inl (image_opens shape count frames before s file readable image is closed)
      | inl opened ↦ inr (
          Holds-opens shape next after image
          (Holds-again shape next after (overlay s.seen p (1 ∷ [])) image wrote.holds (omega arith) (λ j lt fast. elim (cases_order j p) [
            | inl at ↦ subst (λ k. get_or image k 0 ≡ get_or (overlay s.seen p (1 ∷ [])) k 0) (sym at)
                (opened ∙ sym (opened_at s.seen p (omega arith)))
            | inr (inl below) ↦ images_agree s image s.seen j is readable (omega arith)
                (fast_kept s j (IsBeingFolded shape count next j) (wrote.pending_is_folded j below)
                (λ f. fast (folded_loose shape count next j f)))
                ∙ sym (opened_elsewhere s.seen p j (omega arith) (omega arith) (λ e. omega arith))
            | inr (inr above) ↦ images_agree s image s.seen j is readable (omega arith) (there.kept j above (omega arith))
                ∙ sym (opened_elsewhere s.seen p j (omega arith) (omega arith) (λ e. omega arith))
          ]))
          (omega arith)
          (λ shut. wrote.closed (sym (images_agree s image s.seen q is readable (omega arith) (there.kept q (omega arith) (omega arith))) ∙ shut)))
    ]
