-- What a file shows behind the writes of a commit.
use Rattle.std.proofs.Common.{◌≡◌, ℕ, zero, suc, ◌+◌, ◌-◌, ◌≤◌, ◌<◌, List, [], ◌∷◌, ◌++◌, length, get_or, refl, sym, ap, ◌∙◌, arith, inl, inr}
use Rattle.std.specs.Prelude.{◌≢◌}
use Rattle.std.proofs.lemmas.Bool.{cases_lt}
use Rattle.std.proofs.lemmas.List.{length-append, length-drop, get_or-drop, get_or_push, get_or_append_left, get_or-append_right}
use Rattle.disk_core.specs.State.{State, IsTornWrite}
use Rattle.segment_core.specs.declared.format.Shape.{Shape}
use Rattle.segment_core.specs.Frame.{Frame, frame_text, text}
use Rattle.segment_core.specs.Tally.{AreLegal}
use Rattle.segment_core.proofs.Push.{text_push}
use Rattle.pen_core.specs.PenOf.{JobOf}
use Rattle.pen_core.specs.Pen.{job_bytes}
use Rattle.beside_core.proofs.MayDiffer.{MayDiffer-append}
use Rattle.witness_core.specs.Shown.{ShowsFrames, OpensGate}
use Rattle.witness_core.specs.Witnessed.{HasBody}
use Rattle.witness_core.proofs.CallBytes.{before_same, outside_same}

-- the same up to the gate
pub ShowsFrames-front : (shape : Shape) (frames : List Frame) (bytes other : List ℕ) → ((j : ℕ) → j ≤ length (text shape frames) → get_or other j 0 ≡ get_or bytes j 0)
    → ShowsFrames shape frames bytes → ShowsFrames shape frames other
ShowsFrames-front shape frames bytes other same shows = record {
  legal = shows.legal;
  stands = λ j lt. elim (shows.stands j lt) [ inl is ↦ inl (same j (omega arith) ∙ is) | inr may ↦ inr may ];
  closed = λ is. shows.closed (sym (same (length (text shape frames)) (omega arith)) ∙ is);
}

module _ (shape : Shape) (written : List Frame) (job : JobOf) (s after : State) (gate : ℕ) (gate_is : gate ≡ length (text shape written)) (there : gate < length s.seen)
    (shows : ShowsFrames shape written s.seen) where
  pub shows_behind_body : (len : ℕ) → IsTornWrite (gate + 1) len s after → ShowsFrames shape written after.seen
  shows_behind_body len torn = ShowsFrames-front shape written s.seen after.seen (λ j le. before_same (gate + 1) len s after torn (omega arith) j (omega arith)) shows

  module _ (torn : IsTornWrite gate 1 s after) where
    elsewhere : (j : ℕ) → j ≢ gate → get_or after.seen j 0 ≡ get_or s.seen j 0
    elsewhere j other = elim (cases_lt j gate) [
      | inl below ↦ outside_same gate 1 s after torn (omega arith) j (inl below)
      | inr from ↦ outside_same gate 1 s after torn (omega arith) j (inr (omega (arith, other, from)))
    ]

    pub shows_shut : get_or after.seen gate 0 ≢ 1 → ShowsFrames shape written after.seen
    shows_shut shut = record {
      legal = shows.legal;
      stands = λ j lt. elim (shows.stands j lt) [ inl is ↦ inl (elsewhere j (λ e. omega arith) ∙ is) | inr may ↦ inr may ];
      closed = λ is. shut (ap (λ n. get_or after.seen n 0) gate_is ∙ is);
    }

    abbrev frame : List ℕ
    frame = frame_text shape.format job.frame

    abbrev next : List Frame
    next = written ++ job.frame ∷ []

    pub opens_gate : OpensGate shape written next s.seen after.seen
    opens_gate = record { frame = job.frame; behind_is = refl; gate_alone = λ j other. elsewhere j (λ e. other (e ∙ gate_is)) }

    module _ (opened : get_or after.seen gate 0 ≡ 1) (body : HasBody shape gate job s.seen) (legal : AreLegal shape next) where
      long : length (job_bytes shape job) ≡ length frame + 1
      long = length-append frame (0 ∷ [])

      behind : (k : ℕ) → k ≤ length frame → get_or after.seen (gate + k) 0 ≡ get_or (job_bytes shape job) k 0
      behind zero le = let here : gate + 0 ≡ gate = omega arith in ap (λ n. get_or after.seen n 0) here ∙ opened
      behind (suc k) le =
          let l = length-drop 1 (job_bytes shape job) in
          let all = long in
          let here : gate + suc k ≡ gate + 1 + k = omega arith in
          let there' : 1 + k ≡ suc k = omega arith in
          elsewhere (gate + suc k) (λ e. omega arith)
          ∙ ap (λ n. get_or s.seen n 0) here
          ∙ body k (omega arith)
          ∙ get_or-drop 1 (job_bytes shape job) k 0
          ∙ ap (λ n. get_or (job_bytes shape job) n 0) there'

      length-next : length (text shape next) ≡ gate + length frame
      length-next = ap length (text_push shape written job.frame) ∙ omega (arith, length-append (text shape written) frame, gate_is)

      stands_behind : (j : ℕ) → j < length (text shape next) → gate ≤ j → get_or after.seen j 0 ≡ get_or (text shape next) j 0
      stands_behind j lt from =
          let all = length-next in
          let here : gate + (j - gate) ≡ j = omega arith in
          ap (λ n. get_or after.seen n 0) (sym here)
          ∙ behind (j - gate) (omega arith)
          ∙ get_or_append_left frame (0 ∷ []) 0 (j - gate) (omega arith)
          ∙ sym (get_or-append_right (text shape written) frame gate j 0 (sym gate_is) from)
          ∙ ap (λ (bytes : List ℕ). get_or bytes j 0) (sym (text_push shape written job.frame))

      stands_before : (j : ℕ) → j < gate → get_or (text shape written) j 0 ≡ get_or (text shape next) j 0
      stands_before j lt = sym (get_or_append_left (text shape written) frame 0 j (omega (arith, gate_is))) ∙ ap (λ (bytes : List ℕ). get_or bytes j 0) (sym (text_push shape written job.frame))

      pub shows_opened : ShowsFrames shape next after.seen
      shows_opened = record {
        legal = legal;
        stands = λ j lt. elim (cases_lt j gate) [
          | inr from ↦ inl (stands_behind j lt from)
          | inl below ↦ elim (shows.stands j (omega (arith, gate_is))) [
            | inl is ↦ inl (elsewhere j (λ e. omega arith) ∙ is ∙ stands_before j below)
            | inr may ↦ inr (may.0, may.1, MayDiffer-append shape 0 written (job.frame ∷ []) may.0 may.2)
          ]
        ];
        closed = λ is. (
            let e : 0 ≡ 1 = sym (get_or_push frame 0 0 (length frame) refl) ∙ sym (behind (length frame) (omega arith)) ∙ ap (λ n. get_or after.seen n 0) (sym length-next) ∙ is in
            omega (arith, e));
      }
