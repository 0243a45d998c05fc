-- What a pen knows of an empty file.
use Rattle.std.proofs.Common.{◌≡◌, ℕ, ◌≤◌, ◌<◌, ◌^◌, List, [], ◌∷◌, ◌++◌, None, refl, sym, ap, subst, ◌∙◌, arith}
use Rattle.std.proofs.lemmas.List.{append-nil}
use Rattle.disk_core.specs.State.{State, now, settled}
use Rattle.disk_core.specs.Calls.{bytes_of}
use Rattle.disk_core.proofs.ImageLemmas.{settled_image}
use Rattle.segment_core.specs.declared.format.Shape.{Shape}
use Rattle.segment_core.specs.declared.tally.Tally.{Tally}
use Rattle.segment_core.specs.Frame.{header}
use Rattle.segment_core.specs.Tally.{nothing}
use Rattle.pen_core.specs.Held.{HoldsFrames, gate_of}
use Rattle.pen_core.specs.Known.{IsShut}
use Rattle.pen_core.specs.PenLog.{PenLog, frames_read, vector_read}
use Rattle.pen_core.specs.Inside.{IsMaybeJob, Knows, IsPen}
use Rattle.pen_core.proofs.Births.{empty_file}
use Rattle.pen_core.proofs.Parsed.{SeenAs, seen_as}
use Rattle.pen_core.proofs.Pens.{knows_rest}

empty_holds : (shape : Shape) → HoldsFrames shape [] [] (empty_file shape)
empty_holds shape = record {
  found = [];
  alike = refl;
  begins = record { legal = tt; begins = (0 ∷ [], ap (λ (bs : List ℕ). bs ++ 0 ∷ []) (sym (append-nil (header shape)))) };
  read = record { size = refl; each = λ i lt. absurd (omega arith) };
}

empty_gate : (shape : Shape) → 11 ≡ gate_of shape []
empty_gate shape = refl

module _ (keeps : Type 0) (states : List State) (log : PenLog) (gate : log.gate ≡ 11) (tally : log.tally ≡ nothing)
    (step : log.step ≡ None) (made : keeps → now states ≡ settled (empty_file log.shape)) where
  gate_is : log.gate ≡ gate_of log.shape []
  gate_is = gate ∙ empty_gate log.shape

  empty_seen : keeps → SeenAs log.shape log.gate [] [] (bytes_of states)
  empty_seen model =
      subst (λ s. SeenAs log.shape log.gate [] [] s.seen) (sym (made model))
      (seen_as log.shape log.gate [] [] (empty_file log.shape) gate_is (empty_holds log.shape))

  pub new_frames : keeps → frames_read states log ≡ []
  new_frames model = (empty_seen model).frames_are

  pub new_vector : keeps → vector_read states log ≡ []
  new_vector model = (empty_seen model).vector_is

  empty_known : Knows 0 log [] [] (settled (empty_file log.shape))
  empty_known =
      subst (λ o. Knows 0 (record log { step = o }) [] [] (settled (empty_file log.shape))) (sym step)
      (knows_rest log [] [] (settled (empty_file log.shape)) gate_is tally
      (record { holds = empty_holds log.shape; gate_synced = omega arith; pending_is_folded = λ j lt is. absurd cc })
      (subst (λ g. IsShut g (settled (empty_file log.shape))) (sym gate) (record { closed = λ e. omega (arith, e); kept = refl }))
      (settled_image (empty_file log.shape)))

  pub new_pen : {next : Tally} → (1 ≤ log.shape.width) × (log.shape.width < 2 ^ 16) → IsPen 0 keeps states log next
  new_pen {next} wide = record {
    wide = wide;
    gate_fits = omega arith;
    size_fits = subst (λ t. t.size ≤ 2 ^ 32) (sym tally) (omega arith);
    changes_fit = subst (λ t. t.changes ≤ log.gate) (sym tally) (omega arith);
    folded_counted = subst (λ t. t.folded ≤ t.changes) (sym tally) (omega arith);
    job = subst (IsMaybeJob log.shape log.gate log.tally next log.bytes) (sym step) tt;
    knows = λ model. (
        let seen = empty_seen model in
        subst (λ s. Knows 0 log (frames_read states log) (vector_read states log) s) (sym (made model))
        (subst (λ fs. Knows 0 log fs (vector_read states log) (settled (empty_file log.shape))) (sym seen.frames_are)
        (subst (λ v. Knows 0 log [] v (settled (empty_file log.shape))) (sym seen.vector_is) empty_known)));
  }
