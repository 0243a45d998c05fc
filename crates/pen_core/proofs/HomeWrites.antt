-- A write into bytes that are being folded changes no image's frames and vector, whatever step the log is at.
use Rattle.std.proofs.Common.{◌≡◌, ℕ, ◌+◌, ◌≤◌, ◌<◌, inl, inr, List, [], ◌∷◌, length, get_or, refl, sym, subst, ◌∙◌, arith}
use Rattle.std.proofs.lemmas.Bool.{cases_order, cases_lt}
use Rattle.disk_core.specs.State.{State, overlay, touched, written, IsImage}
use Rattle.disk_core.proofs.ImageLemmas.{length-overlay, get_or-overlay, touched_more}
use Rattle.segment_core.specs.declared.format.Shape.{Shape}
use Rattle.segment_core.specs.Frame.{Frame}
use Rattle.segment_core.specs.Folding.{IsLoose}
use Rattle.pen_core.specs.Held.{Opens, IsBeingFolded, gate_of}
use Rattle.pen_core.specs.Known.{IsFileOf, IsShut, IsWritten, IsOnDisk, IsBeforeOrAfter}
use Rattle.pen_core.proofs.Again.{folded_loose, Holds-again}
use Rattle.pen_core.proofs.Held.{images_shut, images_open, opened_at, opened_elsewhere}
use Rattle.pen_core.proofs.Calls.{IsFileOf-touched, IsShut-touched, PendingIsFolded-touched, IsOnDisk-touched}

module _ (shape : Shape) (count : ℕ) (frames : List Frame) (before : List (List ℕ)) (s : State) (at : ℕ) (bytes : List ℕ)
    (file : IsFileOf shape count frames before s) (readable : IsImage s s.seen)
    (below : at + length bytes ≤ gate_of shape frames)
    (folded : (j : ℕ) → at ≤ j → j < at + length bytes → IsBeingFolded shape count frames j) where
  abbrev p : ℕ
  p = gate_of shape frames

  abbrev seen' : List ℕ
  seen' = overlay s.seen at bytes

  gate_seen : p < length s.seen
  gate_seen = omega (arith, file.gate_synced, readable.no_shorter)

  pub same_length : length seen' ≡ length s.seen
  same_length = let g = gate_seen in let l = length-overlay s.seen at bytes (omega arith) in omega arith

  -- a byte that isn't loose stays
  pub fast_stays : (L : ℕ → Type 0) → ((j : ℕ) → at ≤ j → j < at + length bytes → L j) → (j : ℕ) → j < length s.seen
      → (L j → ⊥) → get_or seen' j 0 ≡ get_or s.seen j 0
  fast_stays L inside j lt fast =
      let g = gate_seen in
      elim (cases_lt j at) [
        | inl first ↦ get_or-overlay s.seen at bytes j (omega arith) lt (inl first)
        | inr from ↦ elim (cases_lt j (at + length bytes)) [
          | inl in_it ↦ absurd (fast (inside j from in_it))
          | inr past ↦ get_or-overlay s.seen at bytes j (omega arith) lt (inr past)
        ]
      ]

  pub file_after_home : IsFileOf shape count frames before (written s at bytes)
  file_after_home =
      let g = gate_seen in
      let l = same_length in
      IsFileOf-touched shape count frames before s at (length bytes) seen' file
      (Holds-again shape frames before s.seen seen' file.holds (omega arith)
      (λ j lt fast.
      fast_stays (IsLoose shape frames) (λ k from upto. folded_loose shape count frames k (folded k from upto)) j
      (omega arith) fast))
      (λ j lt from upto. folded j from upto)

  gate_stays : get_or seen' p 0 ≡ get_or s.seen p 0
  gate_stays = let g = gate_seen in get_or-overlay s.seen at bytes p (omega arith) g (inr below)

  pub shut_after_home : IsShut p s → IsShut p (written s at bytes)
  shut_after_home shut = IsShut-touched shape count frames before s at (length bytes) seen' p shut gate_stays (λ from upto. omega arith)

  -- homes are written while no job is in hand, or its body isn't on the disk
  pub images_of_home_shut : IsShut p s → (image : List ℕ) → IsImage (touched s at (length bytes) s.seen) image → Opens shape frames before image
  images_of_home_shut shut image is =
      images_shut shape count frames before (touched s at (length bytes) s.seen)
      (IsFileOf-touched shape count frames before s at (length bytes) s.seen file file.holds
      (λ j lt from upto. folded j from upto))
      (touched_more s at (length bytes) s.seen s.seen readable) image is
      (IsShut-touched shape count frames before s at (length bytes) s.seen p shut refl (λ from upto. omega arith))

  module _ (next : List Frame) (after : List (List ℕ))
      (folded' : (j : ℕ) → at ≤ j → j < at + length bytes → IsBeingFolded shape count next j)
      (wrote : IsWritten shape count frames next after s) where
    pub written_after_home : IsWritten shape count frames next after (written s at bytes)
    written_after_home =
        let g = gate_seen in
        let l = same_length in
        let longer = wrote.longer in
        let inside = wrote.inside in
        let lo = length-overlay s.seen p (1 ∷ []) (omega arith) in
        let lo' = length-overlay seen' p (1 ∷ []) (omega arith) in
        let loose' : (k : ℕ) → at ≤ k → k < at + length bytes → IsLoose shape next k =
        λ k from upto. folded_loose shape count next k (folded' k from upto) in
        record {
          longer = longer;
          holds =
              Holds-again shape next after (overlay s.seen p (1 ∷ [])) (overlay seen' p (1 ∷ [])) wrote.holds (omega arith)
              (λ j lt fast. elim (cases_order j p) [
                | inl here ↦ subst (λ k. get_or (overlay seen' p (1 ∷ [])) k 0 ≡ get_or (overlay s.seen p (1 ∷ [])) k 0)
                    (sym here) (opened_at seen' p (omega arith) ∙ sym (opened_at s.seen p g))
                | inr (inl low) ↦ opened_elsewhere seen' p j (omega arith) (omega arith) (λ e. omega arith)
                    ∙ fast_stays (IsLoose shape next) loose' j (omega arith) fast
                    ∙ sym (opened_elsewhere s.seen p j g (omega arith) (λ e. omega arith))
                | inr (inr high) ↦ opened_elsewhere seen' p j (omega arith) (omega arith) (λ e. omega arith)
                    ∙ fast_stays (IsLoose shape next) loose' j (omega arith) fast
                    ∙ sym (opened_elsewhere s.seen p j g (omega arith) (λ e. omega arith))
              ]);
          closed = λ is. wrote.closed (sym (get_or-overlay s.seen at bytes (gate_of shape next) (omega arith) inside (inr (omega arith))) ∙ is);
          inside = omega arith;
          pending_is_folded =
              PendingIsFolded-touched shape count frames before s at (length bytes) seen' next wrote.pending_is_folded
              (λ j lt from upto. folded' j from upto);
        }

    pub on_disk_after_home : IsOnDisk shape frames next s → IsOnDisk shape frames next (written s at bytes)
    on_disk_after_home there = IsOnDisk-touched shape count frames before s at (length bytes) seen' next there (inl (omega arith))

    pub images_of_home_open : IsOnDisk shape frames next s → (image : List ℕ)
        → IsImage (touched s at (length bytes) s.seen) image → IsBeforeOrAfter shape frames next before after image
    images_of_home_open there image is =
        images_open shape count frames next before after (touched s at (length bytes) s.seen)
        (IsFileOf-touched shape count frames before s at (length bytes) s.seen file file.holds (λ j lt from upto. folded j from upto))
        (record {
          longer = wrote.longer;
          holds = wrote.holds;
          closed = wrote.closed;
          inside = wrote.inside;
          pending_is_folded =
              PendingIsFolded-touched shape count frames before s at (length bytes) s.seen next wrote.pending_is_folded
              (λ j lt from upto. folded' j from upto);
        })
        (IsOnDisk-touched shape count frames before s at (length bytes) s.seen next there (inl (omega arith)))
        (touched_more s at (length bytes) s.seen s.seen readable) image is
