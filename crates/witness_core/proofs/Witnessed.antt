-- A call more, and a pen at rest.
use Rattle.std.proofs.Common.{◌≡◌, ℕ, suc, ◌-◌, ◌≤◌, ◌<◌, ◌^◌, false, List, [], ◌∷◌, ◌++◌, Option, None, refl, sym, ap, subst, ◌∙◌, arith, append_assoc}
use Rattle.std.specs.Prelude.{◌⊎◌}
use Rattle.std.proofs.lemmas.List.{append-nil}
use Rattle.disk_core.specs.State.{State, now, IsImage}
use Rattle.disk_core.specs.Calls.{bytes_of, AddsMoment}
use Rattle.disk_core.specs.Moments.{clock}
use Rattle.segment_core.specs.declared.format.Shape.{Shape}
use Rattle.segment_core.specs.Frame.{Frame}
use Rattle.segment_core.specs.Blanked.{all_blanked}
use Rattle.pen_core.specs.PenOf.{PenOf, JobOf}
use Rattle.pen_core.specs.Pen.{OpensWith, IsKept}
use Rattle.segment_core.specs.Raw.{after_frame}
use Rattle.witness_core.specs.Shown.{ShowsFrames, OpensGate, HasShown}
use Rattle.witness_core.specs.Witnessed.{ShowsWith, ShowsInTurn, HomesEndBelow, WitnessStart, witness_start, HaveCome, IsWitnessed}
use Rattle.witness_core.proofs.KeptFile.{shows_found}
use Rattle.witness_core.proofs.Moments.{replayed-append}

-- what one call more brings about
pub record ShownOn (shape : Shape) (since : ℕ) (states : List State) (shown : List Frame) : Type 0 where
  pub begun : since ≤ clock states
  pub has : HasShown shape (clock states - since) states shown

pub shown_on : (shape : Shape) (since : ℕ) (old new : List State) (before behind : List Frame) → since ≤ clock old → AddsMoment old new → HasShown shape (clock old - since) old before
    → ShowsFrames shape behind (bytes_of new) → (behind ≡ before) ⊎ OpensGate shape before behind (bytes_of old) (bytes_of new) → ShownOn shape since new behind
shown_on shape since old new before behind begun adds has shows call =
    let one : suc (clock old - since) ≡ clock (now new ∷ old) - since = omega (arith, begun) in
    subst (λ states. ShownOn shape since states behind) (sym adds)
    (record { begun = omega (arith, begun); has = subst (λ n. HasShown shape n (now new ∷ old) behind) one (before, has, shows, call) })

-- one frame more
pub one_came : (from : WitnessStart) (width : ℕ) (written : List Frame) (vector : List (List ℕ)) (frame : Frame) → HaveCome from width written vector
    → HaveCome from width (written ++ frame ∷ []) (after_frame width vector frame)
one_came from width written vector frame come = record {
  first = come.first;
  first_as = come.first_as;
  came = come.came ++ frame ∷ [];
  written_is = ap (λ (fs : List Frame). fs ++ frame ∷ []) come.written_is ∙ append_assoc come.first come.came (frame ∷ []);
  vector_is = ap (λ cells. after_frame width cells frame) come.vector_is ∙ sym (replayed-append width from.vector come.came (frame ∷ []));
}

-- a pen whose fields are these
module _ {D : Type 0} (from : WitnessStart) (states : List State) (pen : PenOf D) (kept : IsKept states pen) (shape : Shape) (gate : ℕ) (frames : List Frame)
    (vector : List (List ℕ)) (job : Option JobOf)
    (shape_is : pen.shape ≡ shape) (gate_is : pen.gate ≡ gate) (frames_are : pen.frames ≡ frames) (vector_is : pen.vector ≡ vector) (job_is : pen.job ≡ job)
    (wide : (0 < shape.width) × (shape.width < 2 ^ 16)) where
  pub witnessed_as : (written shown : List Frame) → all_blanked written ≡ frames
      → HaveCome from shape.width written vector → ShownOn shape from.clock_was states shown → ShowsWith written job shown
      → (pen.broken ≡ false → ShowsInTurn shape gate written shown (bytes_of states) job) → HomesEndBelow gate pen.fold → IsWitnessed from states pen
  witnessed_as written shown written_as come on shows in_turn homes = record {
    begun = on.begun;
    kept = kept;
    wide = subst (λ sh. (0 < sh.width) × (sh.width < 2 ^ 16)) (sym shape_is) wide;
    written = written;
    written_as = written_as ∙ sym frames_are;
    have_come =
        subst (λ sh. HaveCome from sh.width written pen.vector) (sym shape_is) (subst (HaveCome from shape.width written) (sym vector_is) come);
    shown = shown;
    has_shown = subst (λ sh. HasShown sh (clock states - from.clock_was) states shown) (sym shape_is) on.has;
    shows = subst (λ o. ShowsWith written o shown) (sym job_is) shows;
    in_turn = λ whole.
        subst (λ sh. ShowsInTurn sh pen.gate written shown (bytes_of states) pen.job) (sym shape_is)
        (subst (λ g. ShowsInTurn shape g written shown (bytes_of states) pen.job) (sym gate_is)
        (subst (ShowsInTurn shape gate written shown (bytes_of states)) (sym job_is) (in_turn whole)));
    homes_below = subst (λ g. HomesEndBelow g pen.fold) (sym gate_is) homes;
  }

-- a pen at rest, from now on
pub witnessed_at_rest : {D : Type 0} (states : List State) (pen : PenOf D) → IsKept states pen → IsImage (now states) (bytes_of states) → (0 < pen.shape.width) × (pen.shape.width < 2 ^ 16)
    → pen.job ≡ None → pen.fold ≡ None → IsWitnessed (witness_start states pen) states pen
witnessed_at_rest states pen kept readable wide idle unfolding' =
    let opens = subst (λ o. OpensWith pen.shape pen.frames pen.vector o (bytes_of states)) idle (kept.images_open (bytes_of states) readable) in
    let none : 0 ≡ clock states - clock states = omega arith in
    witnessed_as (witness_start states pen) states pen kept pen.shape pen.gate pen.frames pen.vector None refl refl refl refl idle wide opens.found opens.found opens.alike
    (record { first = opens.found; first_as = opens.alike; came = []; written_is = sym (append-nil opens.found); vector_is = refl })
    (record {
      begun = omega arith;
      has = subst (λ n. HasShown pen.shape n states opens.found) none (shows_found pen.shape (bytes_of states) opens.found opens.opened.framed);
    })
    refl (λ whole. refl) (subst (HomesEndBelow pen.gate) (sym unfolding') tt)

pub witnessed_now : {D : Type 0} (keeps : D → Type 0) (states : D → List State) → ((disk : D) → keeps disk → IsImage (now (states disk)) (bytes_of (states disk))) → (pen : PenOf D)
    (disk : D) → disk ≡ pen.disk → (keeps disk → IsKept (states disk) pen) → (0 < pen.shape.width) × (pen.shape.width < 2 ^ 16) → pen.job ≡ None → pen.fold ≡ None
    → keeps pen.disk → IsWitnessed (witness_start (states pen.disk) pen) (states pen.disk) pen
witnessed_now keeps states reads pen disk same kept wide idle unfolded model =
    witnessed_at_rest (states pen.disk) pen (subst (λ d. keeps d → IsKept (states d) pen) same kept model) (reads pen.disk model) wide idle unfolded
