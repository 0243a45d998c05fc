-- What the calls of a commit and of a fold make of what a pen knows.
use Rattle.std.proofs.Common.{◌≡◌, ◌≢◌, ℕ, ◌+◌, ◌-◌, ◌≤◌, ◌<◌, ◌⊎◌, inl, inr, List, [], ◌∷◌, ◌++◌, length, take, drop, get_or, refl, sym, ap, subst, ◌∙◌, arith}
use Rattle.std.proofs.lemmas.List.{length-append, length-take-le, get_or_append_left, get_or-append_right}
use Rattle.std.proofs.lemmas.Bool.{cases_order}
use Rattle.disk_core.specs.State.{State, overlay, settled, touched, written, IsImage}
use Rattle.disk_core.proofs.ImageLemmas.{length-overlay, get_or-overlay, touched_more}
use Rattle.segment_core.specs.declared.format.Shape.{Shape}
use Rattle.segment_core.specs.Folding.{IsLoose}
use Rattle.segment_core.specs.Frame.{Frame}
use Rattle.pen_core.specs.Held.{Opens, HoldsFrames, IsBeingFolded, gate_of}
use Rattle.pen_core.specs.Known.{PendingIsFolded, IsFileOf, IsShut, IsWritten, IsOnDisk, IsBeforeOrAfter}
use Rattle.pen_core.proofs.Again.{Holds-again}
use Rattle.pen_core.proofs.Held.{image_holds, images_shut, images_open, pending_push, not_pending, covered_inside, opened_at, opened_elsewhere}

-- ---- a write, whatever it has left a read

module _ (shape : Shape) (count : ℕ) (frames : List Frame) (vector : List (List ℕ)) (s : State) (at len : ℕ) (seen : List ℕ) where
  pub IsFileOf-touched : IsFileOf shape count frames vector s → HoldsFrames shape frames vector seen
      → ((j : ℕ) → j < gate_of shape frames → at ≤ j → j < at + len → IsBeingFolded shape count frames j)
      → IsFileOf shape count frames vector (touched s at len seen)
  IsFileOf-touched file holds loose = record {
    holds = holds;
    gate_synced = file.gate_synced;
    pending_is_folded =
        λ j lt is.
        elim (pending_push s.pending (record { at = at; len = len }) j is) [
          | inl old ↦ file.pending_is_folded j lt old
          | inr new ↦ (let i = covered_inside at len j new in loose j lt i.0 i.1)
        ];
  }

  pub IsShut-touched : (gate : ℕ) → IsShut gate s → get_or seen gate 0 ≡ get_or s.seen gate 0
      → (at ≤ gate → gate < at + len → ⊥) → IsShut gate (touched s at len seen)
  IsShut-touched gate shut same apart = record {
    closed = λ opened. shut.closed (sym same ∙ opened);
    kept = not_pending s.pending at len gate shut.kept apart;
  }

  pub PendingIsFolded-touched : (next : List Frame) → PendingIsFolded shape count frames next s
      → ((j : ℕ) → j < gate_of shape frames → at ≤ j → j < at + len → IsBeingFolded shape count next j)
      → PendingIsFolded shape count frames next (touched s at len seen)
  PendingIsFolded-touched next stays loose j lt is =
      elim (pending_push s.pending (record { at = at; len = len }) j is)
      [ inl old ↦ stays j lt old | inr new ↦ (let i = covered_inside at len j new in loose j lt i.0 i.1) ]

  pub IsOnDisk-touched : (next : List Frame) → IsOnDisk shape frames next s
      → (at + len ≤ gate_of shape frames + 1) ⊎ (gate_of shape next < at)
      → IsOnDisk shape frames next (touched s at len seen)
  IsOnDisk-touched next there apart = record {
    inside = there.inside;
    kept =
        λ j past upto.
        not_pending s.pending at len j (there.kept j past upto)
        (λ from before. elim apart [ inl below ↦ omega arith | inr above ↦ omega arith ]);
  }

-- ---- the body

module _ (shape : Shape) (count : ℕ) (frames next : List Frame) (before after : List (List ℕ)) (s : State) (body : List ℕ)
    (file : IsFileOf shape count frames before s) (shut : IsShut (gate_of shape frames) s)
    (readable : IsImage s s.seen) where
  abbrev p : ℕ
  p = gate_of shape frames

  abbrev seen' : List ℕ
  seen' = overlay s.seen (p + 1) body

  gate_seen : p < length s.seen
  gate_seen = omega (arith, file.gate_synced, readable.no_shorter)

  behind : (j : ℕ) → j ≤ p → get_or seen' j 0 ≡ get_or s.seen j 0
  behind j le = let g = gate_seen in get_or-overlay s.seen (p + 1) body j (omega arith) (omega arith) (inl (omega arith))

  pub file_after_body : IsFileOf shape count frames before (written s (p + 1) body)
  file_after_body =
      let g = gate_seen in
      let l = length-overlay s.seen (p + 1) body (omega arith) in
      IsFileOf-touched shape count frames before s (p + 1) (length body) seen' file
      (Holds-again shape frames before s.seen seen' file.holds (omega arith) (λ j lt fast. behind j (omega arith)))
      (λ j lt from upto. absurd (omega arith))

  pub shut_after_body : IsShut p (written s (p + 1) body)
  shut_after_body = IsShut-touched shape count frames before s (p + 1) (length body) seen' p shut (behind p (omega arith)) (λ from upto. omega arith)

  -- the last byte of the body is the next gate
  pub written_after_body : PendingIsFolded shape count frames next s → gate_of shape next ≡ p + length body → 0 < length body
      → get_or body (length body - 1) 0 ≢ 1 → HoldsFrames shape next after (overlay seen' p (1 ∷ []))
      → IsWritten shape count frames next after (written s (p + 1) body)
  written_after_body stays size some closed holds =
      let g = gate_seen in
      let l = length-overlay s.seen (p + 1) body (omega arith) in
      record {
        longer = omega arith;
        holds = holds;
        closed = λ opened. closed (sym last ∙ opened);
        inside = omega arith;
        pending_is_folded =
            PendingIsFolded-touched shape count frames before s (p + 1) (length body) seen' next stays
            (λ j lt from upto. absurd (omega arith));
      }
    where
      last : get_or seen' (gate_of shape next) 0 ≡ get_or body (length body - 1) 0
      last =
          let g = gate_seen in
          let t = length-take-le (p + 1) s.seen (omega arith) in
          let both = length-append (take (p + 1) s.seen) body in
          let at : gate_of shape next - (p + 1) ≡ length body - 1 = omega arith in
          get_or_append_left (take (p + 1) s.seen ++ body) (drop (p + 1 + length body) s.seen) 0 (gate_of shape next) (omega arith)
          ∙ get_or-append_right (take (p + 1) s.seen) body (p + 1) (gate_of shape next) 0 t (omega arith)
          ∙ ap (λ k. get_or body k 0) at

  -- also where the write failed
  pub images_of_body : (image : List ℕ) → IsImage (touched s (p + 1) (length body) s.seen) image → Opens shape frames before image
  images_of_body image is =
      let s' : State = touched s (p + 1) (length body) s.seen in
      images_shut shape count frames before s'
      (IsFileOf-touched shape count frames before s (p + 1) (length body) s.seen file file.holds
      (λ j lt from upto. absurd (omega arith)))
      (touched_more s (p + 1) (length body) s.seen s.seen readable) image is
      (IsShut-touched shape count frames before s (p + 1) (length body) s.seen p shut refl (λ from upto. omega arith))

  pub holds_of_body : (image : List ℕ) → IsImage (touched s (p + 1) (length body) s.seen) image → HoldsFrames shape frames before image
  holds_of_body image is =
      image_holds shape count frames before (touched s (p + 1) (length body) s.seen)
      (IsFileOf-touched shape count frames before s (p + 1) (length body) s.seen file file.holds
      (λ j lt from upto. absurd (omega arith)))
      (touched_more s (p + 1) (length body) s.seen s.seen readable) image is

-- ---- a sync, of the log or of the homes

module _ (shape : Shape) (count : ℕ) (frames next : List Frame) (before after : List (List ℕ)) (s : State) (readable : IsImage s s.seen) where
  pub file_after_sync : IsFileOf shape count frames before s → IsFileOf shape count frames before (settled s.seen)
  file_after_sync file =
      record {
        holds = file.holds;
        gate_synced = omega (arith, file.gate_synced, readable.no_shorter);
        pending_is_folded = λ j lt is. absurd cc;
      }

  pub shut_after_sync : (gate : ℕ) → IsShut gate s → IsShut gate (settled s.seen)
  shut_after_sync gate shut = record { closed = shut.closed; kept = refl }

  pub written_after_sync : IsWritten shape count frames next after s → IsWritten shape count frames next after (settled s.seen)
  written_after_sync wrote =
      record {
        longer = wrote.longer;
        holds = wrote.holds;
        closed = wrote.closed;
        inside = wrote.inside;
        pending_is_folded = λ j lt is. absurd cc;
      }

  pub on_disk_after_sync : IsWritten shape count frames next after s → IsOnDisk shape frames next (settled s.seen)
  on_disk_after_sync wrote = record { inside = wrote.inside; kept = λ j past upto. refl }

  -- the gate was open, and is so on the disk now
  pub next_after_sync : IsWritten shape count frames next after s → get_or s.seen (gate_of shape frames) 0 ≡ 1
      → IsFileOf shape count next after (settled s.seen) × IsShut (gate_of shape next) (settled s.seen)
  next_after_sync wrote opened =
      let p : ℕ = gate_of shape frames in
      let longer = wrote.longer in
      let inside = wrote.inside in
      let same : (j : ℕ) → j < gate_of shape next → (IsLoose shape next j → ⊥)
      → get_or s.seen j 0 ≡ get_or (overlay s.seen p (1 ∷ [])) j 0 =
      λ j lt fast. elim (cases_order j p) [
        | inl at ↦ subst (λ k. get_or s.seen k 0 ≡ get_or (overlay s.seen p (1 ∷ [])) k 0) (sym at) (opened ∙ sym (opened_at s.seen p (omega arith)))
        | inr (inl below) ↦ sym (opened_elsewhere s.seen p j (omega arith) (omega arith) (λ e. omega arith))
        | inr (inr above) ↦ sym (opened_elsewhere s.seen p j (omega arith) (omega arith) (λ e. omega arith))
      ] in (
        record {
          holds = Holds-again shape next after (overlay s.seen p (1 ∷ [])) s.seen wrote.holds (omega arith) same;
          gate_synced = inside;
          pending_is_folded = λ j lt is. absurd cc;
        },
        record { closed = wrote.closed; kept = refl },
      )

-- ---- the gate

module _ (shape : Shape) (count : ℕ) (frames next : List Frame) (before after : List (List ℕ)) (s : State)
    (file : IsFileOf shape count frames before s) (wrote : IsWritten shape count frames next after s)
    (there : IsOnDisk shape frames next s) (readable : IsImage s s.seen) where
  abbrev g : ℕ
  g = gate_of shape frames

  abbrev opened : List ℕ
  opened = overlay s.seen g (1 ∷ [])

  seen_gate : g < length s.seen
  seen_gate = omega (arith, file.gate_synced, readable.no_shorter)

  length-opened : length opened ≡ length s.seen
  length-opened = let l = length-overlay s.seen g (1 ∷ []) (omega (arith, seen_gate)) in omega (arith, seen_gate)

  pub file_after_gate : IsFileOf shape count frames before (written s g (1 ∷ []))
  file_after_gate =
      let i = seen_gate in
      let l = length-opened in
      IsFileOf-touched shape count frames before s g 1 opened file
      (Holds-again shape frames before s.seen opened file.holds (omega arith) (λ j lt fast. opened_elsewhere s.seen g j i (omega arith) (λ e. omega arith)))
      (λ j lt from upto. absurd (omega arith))

  pub written_after_gate : IsWritten shape count frames next after (written s g (1 ∷ []))
  written_after_gate =
      let i = seen_gate in
      let l = length-opened in
      let longer = wrote.longer in
      let inside = wrote.inside in
      let twice : (j : ℕ) → j < gate_of shape next → (IsLoose shape next j → ⊥)
      → get_or (overlay opened g (1 ∷ [])) j 0 ≡ get_or opened j 0 =
      λ j lt fast. elim (cases_order j g) [
        | inl at ↦ subst (λ k. get_or (overlay opened g (1 ∷ [])) k 0 ≡ get_or opened k 0) (sym at)
            (opened_at opened g (omega arith) ∙ sym (opened_at s.seen g i))
        | inr (inl below) ↦ opened_elsewhere opened g j (omega arith) (omega arith) (λ e. omega arith)
        | inr (inr above) ↦ opened_elsewhere opened g j (omega arith) (omega arith) (λ e. omega arith)
      ] in
      let l' = length-overlay opened g (1 ∷ []) (omega arith) in
      record {
        longer = longer;
        holds = Holds-again shape next after opened (overlay opened g (1 ∷ [])) wrote.holds (omega arith) twice;
        closed = λ is. wrote.closed (sym (opened_elsewhere s.seen g (gate_of shape next) i inside (λ e. omega arith)) ∙ is);
        inside = omega arith;
        pending_is_folded =
            PendingIsFolded-touched shape count frames before s g 1 opened next wrote.pending_is_folded
            (λ j lt from upto. absurd (omega arith));
      }

  pub on_disk_after_gate : IsOnDisk shape frames next (written s g (1 ∷ []))
  on_disk_after_gate = IsOnDisk-touched shape count frames before s g 1 opened next there (inl (omega arith))

  pub open_after_gate : get_or (written s g (1 ∷ [])).seen g 0 ≡ 1
  open_after_gate = opened_at s.seen g seen_gate

  pub images_of_gate : (image : List ℕ) → IsImage (touched s g 1 s.seen) image → IsBeforeOrAfter shape frames next before after image
  images_of_gate image is =
      images_open shape count frames next before after (touched s g 1 s.seen)
      (IsFileOf-touched shape count frames before s g 1 s.seen file file.holds (λ j lt from upto. absurd (omega arith)))
      (record {
        longer = wrote.longer;
        holds = wrote.holds;
        closed = wrote.closed;
        inside = wrote.inside;
        pending_is_folded = PendingIsFolded-touched shape count frames before s g 1 s.seen next wrote.pending_is_folded
            (λ j lt from upto. absurd (omega arith));
      })
      (IsOnDisk-touched shape count frames before s g 1 s.seen next there (inl (omega arith)))
      (touched_more s g 1 s.seen s.seen readable) image is

  pub holds_of_gate : (image : List ℕ) → IsImage (touched s g 1 s.seen) image → HoldsFrames shape frames before image
  holds_of_gate image is =
      image_holds shape count frames before (touched s g 1 s.seen)
      (IsFileOf-touched shape count frames before s g 1 s.seen file file.holds (λ j lt from upto. absurd (omega arith)))
      (touched_more s g 1 s.seen s.seen readable) image is
