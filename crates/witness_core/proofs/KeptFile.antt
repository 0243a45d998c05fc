-- What is known of the file of a pen that is kept.
use Rattle.std.proofs.Common.{◌≡◌, ℕ, ◌<◌, List, [], ◌∷◌, ◌++◌, length, get_or, Option, Some, None, refl, sym, ap, subst, ◌∙◌, arith, inl, inr}
use Rattle.std.specs.Prelude.{◌≢◌}
use Rattle.std.proofs.lemmas.List.{length-append, get_or_at, map_push, get_or_append_left}
use Rattle.disk_core.specs.State.{State, now, IsImage}
use Rattle.segment_core.specs.declared.format.Shape.{Shape}
use Rattle.segment_core.specs.Frame.{Frame, text}
use Rattle.segment_core.specs.Tally.{AreLegal}
use Rattle.segment_core.specs.Image.{HasFrames}
use Rattle.segment_core.specs.Blanked.{blanked, all_blanked}
use Rattle.segment_core.proofs.Blanked.{length-text-blanked, same_legal}
use Rattle.pen_core.specs.Held.{Opens, gate_of}
use Rattle.pen_core.specs.Vectors.{frames_with}
use Rattle.pen_core.specs.PenOf.{PenOf, JobOf}
use Rattle.pen_core.specs.Pen.{OpensWith, IsKept}
use Rattle.pen_core.proofs.Again.{gate_behind}
use Rattle.pen_core.proofs.Pens.{gate_with}
use Rattle.witness_core.specs.Shown.{ShowsFrames}

-- ---- an image with frames

module _ (shape : Shape) (image : List ℕ) (found : List Frame) (has : HasFrames shape image found) where
  pub gate_inside : length (text shape found) < length image
  gate_inside = omega (arith, ap length has.closed.3, length-append (text shape found) (has.closed.0 ∷ has.closed.1))

  pub gate_shut : get_or image (length (text shape found)) 0 ≢ 1
  gate_shut is =
      let gate : ℕ = length (text shape found) in
      has.closed.2 (sym (ap (λ (bytes : List ℕ). get_or bytes gate 0) has.closed.3 ∙ get_or_at (text shape found) has.closed.0 has.closed.1 0 gate refl) ∙ is)

  -- it shows those frames
  pub shows_found : ShowsFrames shape found image
  shows_found = record {
    legal = has.legal;
    stands = λ j lt. inl (ap (λ (bytes : List ℕ). get_or bytes j 0) has.closed.3 ∙ get_or_append_left (text shape found) (has.closed.0 ∷ has.closed.1) 0 j lt);
    closed = gate_shut;
  }

pub all_blanked_push : (frames : List Frame) (frame : Frame) → all_blanked (frames ++ frame ∷ []) ≡ frames_with (all_blanked frames) frame
all_blanked_push frames frame = map_push blanked frames frame

module _ (shape : Shape) (frames : List Frame) (vector : List (List ℕ)) (image : List ℕ) where
  opens_inside : Opens shape frames vector image → gate_of shape frames < length image
  opens_inside opens = omega (arith, gate_behind shape opens.found frames opens.alike, gate_inside shape image opens.found opens.opened.framed)

  opens_shut : Opens shape frames vector image → get_or image (gate_of shape frames) 0 ≢ 1
  opens_shut opens is = gate_shut shape image opens.found opens.opened.framed (ap (λ n. get_or image n 0) (gate_behind shape opens.found frames opens.alike) ∙ is)

-- ---- the file of a pen

module _ (shape : Shape) (frames : List Frame) (vector : List (List ℕ)) (image : List ℕ) where
  pub inside_with : (job : Option JobOf) → OpensWith shape frames vector job image → gate_of shape frames < length image
  inside_with None opens = opens_inside shape frames vector image opens
  inside_with (Some job) (inl before) = opens_inside shape frames vector image before
  inside_with (Some job) (inr behind) =
      omega (arith, opens_inside shape (frames_with frames job.frame) _ image behind, gate_with shape frames job.frame)

  -- its gate is open: it has the job's frame
  pub legal_with : (written : List Frame) (job : JobOf) → all_blanked written ≡ frames → OpensWith shape frames vector (Some job) image → get_or image (gate_of shape frames) 0 ≡ 1
      → AreLegal shape (written ++ job.frame ∷ [])
  legal_with written job same (inl before) opened = absurd (opens_shut shape frames vector image before opened)
  legal_with written job same (inr behind) opened =
      same_legal behind.found (written ++ job.frame ∷ [])
      (behind.alike ∙ ap (λ fs. frames_with fs job.frame) (sym same) ∙ sym (all_blanked_push written job.frame)) shape behind.opened.framed.legal

module _ {D : Type 0} (states : List State) (pen : PenOf D) (kept : IsKept states pen) (written : List Frame) (written_as : all_blanked written ≡ pen.frames) where
  pub written_gate : pen.gate ≡ length (text pen.shape written)
  written_gate = kept.gate_is ∙ ap (gate_of pen.shape) (sym written_as) ∙ length-text-blanked pen.shape written

  pub gate_there : (image : List ℕ) → IsImage (now states) image → pen.gate < length image
  gate_there image is = omega (arith, kept.gate_is, inside_with pen.shape pen.frames pen.vector image pen.job (kept.images_open image is))

  pub legal_opened : (image : List ℕ) (job : JobOf) → IsImage (now states) image → pen.job ≡ Some job → get_or image pen.gate 0 ≡ 1 → AreLegal pen.shape (written ++ job.frame ∷ [])
  legal_opened image job is job_is opened =
      legal_with pen.shape pen.frames pen.vector image written job written_as
      (subst (λ o. OpensWith pen.shape pen.frames pen.vector o image) job_is (kept.images_open image is))
      (ap (λ n. get_or image n 0) (sym kept.gate_is) ∙ opened)
