-- What a file holds within calls, of what it showed between them.
use Rattle.std.proofs.Common.{◌≡◌, ℕ, zero, suc, ◌≤◌, ◌<◌, min, cond, List, [], ◌∷◌, ◌++◌, length, get_or, refl, sym, ap, subst, ◌∙◌, arith, inl, inr, append_assoc}
use Rattle.std.specs.Prelude.{◌⊎◌, nat_le}
use Rattle.std.proofs.lemmas.Bool.{cases_lt, cases_order, le-leb, lt-leb}
use Rattle.std.proofs.lemmas.List.{append-nil}
use Rattle.disk_core.specs.State.{State}
use Rattle.disk_core.specs.Calls.{bytes_of}
use Rattle.segment_core.specs.declared.format.Shape.{Shape}
use Rattle.segment_core.specs.Frame.{Frame, text}
use Rattle.segment_core.specs.Raw.{after_frame}
use Rattle.pen_core.specs.PenOf.{PenOf}
use Rattle.beside_core.specs.Replay.{replayed, vector_left}
use Rattle.witness_core.specs.FileMoments.{SameBytes, TurnsBytes, HeldThrough, IsHeldSince}
use Rattle.witness_core.specs.Shown.{ShowsFrames, OpensGate, HasShown}
use Rattle.witness_core.specs.Witnessed.{ShowsWith, WitnessStart, IsWitnessed, IsFileOfPen, HoldsPensFile}

-- ---- lists that only grow

abbrev pub Extends : List Frame → List Frame → Type 0
Extends front all = (more : List Frame) × (all ≡ front ++ more)

extends_same : (a : List Frame) → Extends a a
extends_same a = ([], sym (append-nil a))

extends_on : (a b c : List Frame) → Extends a b → Extends b c → Extends a c
extends_on a b c one two = (one.0 ++ two.0, two.1 ∙ ap (λ (fs : List Frame). fs ++ two.0) one.1 ∙ append_assoc a one.0 two.0)

module _ (shape : Shape) where
  -- ---- bytes of which each is as in others

  pub ShowsFrames-same : (frames : List Frame) (bytes other : List ℕ) → SameBytes other bytes → ShowsFrames shape frames bytes → ShowsFrames shape frames other
  ShowsFrames-same frames bytes other same shows = record {
    legal = shows.legal;
    stands = λ j lt. elim (shows.stands j lt) [ inl is ↦ inl (same j ∙ is) | inr may ↦ inr may ];
    closed = λ is. shows.closed (sym (same (length (text shape frames))) ∙ is);
  }

  ShowsFrames-mixed : (frames : List Frame) (old new bytes : List ℕ) → ((j : ℕ) → (get_or bytes j 0 ≡ get_or old j 0) ⊎ (get_or bytes j 0 ≡ get_or new j 0))
      → ShowsFrames shape frames old → ShowsFrames shape frames new → ShowsFrames shape frames bytes
  ShowsFrames-mixed frames old new bytes mixed first then = record {
    legal = first.legal;
    stands = λ j lt. elim (mixed j) [
      | inl was ↦ elim (first.stands j lt) [ inl is ↦ inl (was ∙ is) | inr may ↦ inr may ]
      | inr now ↦ elim (then.stands j lt) [ inl is ↦ inl (now ∙ is) | inr may ↦ inr may ]
    ];
    closed = λ is. elim (mixed (length (text shape frames))) [
      | inl was ↦ first.closed (sym was ∙ is)
      | inr now ↦ then.closed (sym now ∙ is)
    ];
  }

  pub newest_shown : (n : ℕ) (states : List State) (frames : List Frame) → HasShown shape n states frames → ShowsFrames shape frames (bytes_of states)
  newest_shown zero states frames has = has
  newest_shown (suc n) [] frames has = absurd has
  newest_shown (suc n) (s ∷ earlier) frames has = has.2

  -- ---- up to a moment

  pub record IsShownThrough (held : ℕ → List ℕ) (to : ℕ) (shown : List Frame) : Type 0 where
    pub frames : ℕ → List Frame
    pub shows : (t : ℕ) → t ≤ to → ShowsFrames shape (frames t) (held t)
    pub grows : (s t : ℕ) → s ≤ t → t ≤ to → Extends (frames s) (frames t)
    pub last : frames to ≡ shown

  -- one call more
  module _ (held : ℕ → List ℕ) (from to : ℕ) (old new : List ℕ) (before behind : List Frame) (turns : TurnsBytes held from to old new)
      (first : ShowsFrames shape before old) (then : ShowsFrames shape behind new) (call : (behind ≡ before) ⊎ OpensGate shape before behind old new) (past : IsShownThrough held from before) where
    abbrev gate : ℕ
    gate = length (text shape before)

    abbrev opens : ℕ
    opens = turns.turn gate

    either : (t j : ℕ) → from < t → t ≤ to → (get_or (held t) j 0 ≡ get_or old j 0) ⊎ (get_or (held t) j 0 ≡ get_or new j 0)
    either t j after le = elim (cases_lt t (turns.turn j)) [ inl small ↦ inl (turns.before t j after le small) | inr big ↦ inr (turns.behind t j after le big) ]

    -- the gate hasn't turned
    all_old : (t : ℕ) → from < t → t ≤ to → t < opens → OpensGate shape before behind old new → SameBytes (held t) old
    all_old t after le small one j = elim (cases_order j gate) [
      | inl here ↦ turns.before t j after le (subst (λ k. t < turns.turn k) (sym here) small)
      | inr (inl below) ↦ elim (either t j after le) [ inl was ↦ was | inr is ↦ is ∙ one.gate_alone j (λ e. omega arith) ]
      | inr (inr above) ↦ elim (either t j after le) [ inl was ↦ was | inr is ↦ is ∙ one.gate_alone j (λ e. omega arith) ]
    ]

    all_new : (t : ℕ) → from < t → t ≤ to → opens ≤ t → OpensGate shape before behind old new → SameBytes (held t) new
    all_new t after le big one j = elim (cases_order j gate) [
      | inl here ↦ turns.behind t j after le (subst (λ k. turns.turn k ≤ t) (sym here) big)
      | inr (inl below) ↦ elim (either t j after le) [ inl was ↦ was ∙ sym (one.gate_alone j (λ e. omega arith)) | inr is ↦ is ]
      | inr (inr above) ↦ elim (either t j after le) [ inl was ↦ was ∙ sym (one.gate_alone j (λ e. omega arith)) | inr is ↦ is ]
    ]

    shows_before : (t : ℕ) → from < t → t ≤ to → t < opens → ShowsFrames shape before (held t)
    shows_before t after le small = elim call [
      | inl same ↦ ShowsFrames-mixed before old new (held t) (λ j. either t j after le) first (subst (λ fs. ShowsFrames shape fs new) same then)
      | inr one ↦ ShowsFrames-same before old (held t) (all_old t after le small one) first
    ]

    shows_behind : (t : ℕ) → from < t → t ≤ to → opens ≤ t → ShowsFrames shape behind (held t)
    shows_behind t after le big = elim call [
      | inl same ↦ ShowsFrames-mixed behind old new (held t) (λ j. either t j after le) (subst (λ fs. ShowsFrames shape fs old) (sym same) first) then
      | inr one ↦ ShowsFrames-same behind new (held t) (all_new t after le big one) then
    ]

    extends_call : Extends before behind
    extends_call = elim call [ inl same ↦ ([], same ∙ sym (append-nil before)) | inr one ↦ (one.frame ∷ [], one.behind_is) ]

    abbrev late : ℕ → List Frame
    late t = cond (nat_le opens t) behind before

    late_behind : (t : ℕ) → opens ≤ t → late t ≡ behind
    late_behind t big = ap (λ b. cond b behind before) (le-leb opens t big)

    late_before : (t : ℕ) → t < opens → late t ≡ before
    late_before t small = ap (λ b. cond b behind before) (lt-leb opens t small)

    abbrev frames_at : ℕ → List Frame
    frames_at t = cond (nat_le t from) (past.frames t) (late t)

    at_early : (t : ℕ) → t ≤ from → frames_at t ≡ past.frames t
    at_early t le = ap (λ b. cond b (past.frames t) (late t)) (le-leb t from le)

    at_late : (t : ℕ) → from < t → frames_at t ≡ late t
    at_late t after = ap (λ b. cond b (past.frames t) (late t)) (lt-leb t from after)

    shows_late : (t : ℕ) → from < t → t ≤ to → ShowsFrames shape (late t) (held t)
    shows_late t after le = elim (cases_lt t opens) [
      | inl small ↦ subst (λ fs. ShowsFrames shape fs (held t)) (sym (late_before t small)) (shows_before t after le small)
      | inr big ↦ subst (λ fs. ShowsFrames shape fs (held t)) (sym (late_behind t big)) (shows_behind t after le big)
    ]

    before_late : (t : ℕ) → Extends before (late t)
    before_late t = elim (cases_lt t opens) [
      | inl small ↦ subst (Extends before) (sym (late_before t small)) (extends_same before)
      | inr big ↦ subst (Extends before) (sym (late_behind t big)) extends_call
    ]

    late_late : (s t : ℕ) → s ≤ t → Extends (late s) (late t)
    late_late s t le = elim (cases_lt s opens) [
      | inl small ↦ subst (λ fs. Extends fs (late t)) (sym (late_before s small)) (before_late t)
      | inr big ↦ subst (λ fs. Extends (late s) fs) (late_behind s big ∙ sym (late_behind t (omega arith))) (extends_same (late s))
    ]

    grows_on : (s t : ℕ) → s ≤ t → t ≤ to → Extends (frames_at s) (frames_at t)
    grows_on s t le end = elim (cases_lt from s) [
      | inl after ↦ subst (λ fs. Extends fs (frames_at t)) (sym (at_late s after)) (subst (Extends (late s)) (sym (at_late t (omega arith))) (late_late s t le))
      | inr early ↦ subst (λ fs. Extends fs (frames_at t)) (sym (at_early s early)) (elim (cases_lt from t) [
        | inl after ↦ subst (Extends (past.frames s)) (sym (at_late t after))
            (extends_on (past.frames s) before (late t) (subst (Extends (past.frames s)) past.last (past.grows s from early (omega arith))) (before_late t))
        | inr both ↦ subst (Extends (past.frames s)) (sym (at_early t both)) (past.grows s t le both)
      ])
    ]

    pub shown_more : from < to → IsShownThrough held to behind
    shown_more longer = record {
      frames = frames_at;
      shows = λ t le. elim (cases_lt from t) [
        | inl after ↦ subst (λ fs. ShowsFrames shape fs (held t)) (sym (at_late t after)) (shows_late t after le)
        | inr early ↦ subst (λ fs. ShowsFrames shape fs (held t)) (sym (at_early t early)) (past.shows t early)
      ];
      grows = grows_on;
      last = at_late to longer ∙ late_behind to (turns.in_time gate);
    }

  shown_through : (n : ℕ) (states : List State) (held : ℕ → List ℕ) (to : ℕ) (shown : List Frame) → HasShown shape n states shown → HeldThrough n states held to
      → IsShownThrough held to shown
  shown_through zero states held to shown has through = record {
    frames = λ t. shown;
    shows = λ t le. ShowsFrames-same shown (bytes_of states) (held t) (through t le) has;
    grows = λ s t le end. extends_same shown;
    last = refl;
  }
  shown_through (suc n) [] held to shown has through = absurd has
  shown_through (suc n) (s ∷ earlier) held to shown has through =
      let from : ℕ = through.0 in
      let past = shown_through n earlier held from has.0 has.1 through.2 in
      shown_more held from to (bytes_of earlier) s.seen has.0 shown through.3 (newest_shown n earlier has.0 has.1) has.2 has.3 past through.1

-- ---- and from then on

pub replayed-append : (width : ℕ) (cells : List (List ℕ)) (frames more : List Frame) → replayed width cells (frames ++ more) ≡ replayed width (replayed width cells frames) more
replayed-append width cells [] more = refl
replayed-append width cells (frame ∷ frames) more = replayed-append width (after_frame width cells frame) frames more

module _ {D : Type 0} (begin : WitnessStart) (states : List State) (pen : PenOf D) (w : IsWitnessed begin states pen) (held : ℕ → List ℕ) (is : IsHeldSince begin.clock_was states held) where
  abbrev end : ℕ
  end = is.end

  abbrev past : IsShownThrough pen.shape held end w.shown
  past = shown_through pen.shape _ states held end w.shown w.has_shown is.through

  abbrev frames_then : ℕ → List Frame
  frames_then t = past.frames (min t end)

  shows_then : (t : ℕ) → ShowsFrames pen.shape (frames_then t) (held t)
  shows_then t = elim (cases_lt t end) [
    | inl early ↦ (let here : min t end ≡ t = omega arith in subst (λ k. ShowsFrames pen.shape (past.frames k) (held t)) (sym here) (past.shows t (omega arith)))
    | inr late ↦ (
        let here : min t end ≡ end = omega arith in
        subst (λ k. ShowsFrames pen.shape (past.frames k) (held t)) (sym here)
        (subst (λ fs. ShowsFrames pen.shape fs (held t)) (sym past.last)
        (ShowsFrames-same pen.shape w.shown (bytes_of states) (held t) (is.from_then t late) (newest_shown pen.shape _ states w.shown w.has_shown))))
  ]

  pub file_of_pen : IsFileOfPen begin held end pen
  file_of_pen = record {
    frames = frames_then;
    file = record {
      wide = w.wide.0;
      narrow = w.wide.1;
      legal = λ t. (shows_then t).legal;
      grows = λ s t le. past.grows (min s end) (min t end) (omega arith) (omega arith);
      stands = λ t. (shows_then t).stands;
      closed = λ t. (shows_then t).closed;
    };
    written = w.written;
    written_as = w.written_as;
    have_come = w.have_come;
    replays = λ same.
        ap (vector_left pen.shape.width) w.have_come.written_is ∙ replayed-append pen.shape.width [] w.have_come.first w.have_come.came
        ∙ ap (λ cells. replayed pen.shape.width cells w.have_come.came) same ∙ sym w.have_come.vector_is;
    now = λ t late. (let here : min t end ≡ end = omega arith in subst (ShowsWith w.written pen.job) (sym (ap past.frames here ∙ past.last)) w.shows);
  }

pub holds_file : {D : Type 0} (begin : WitnessStart) (states : List State) (pen : PenOf D) → IsWitnessed begin states pen → HoldsPensFile begin states pen
holds_file begin states pen w held is = file_of_pen begin states pen w held is
