-- A frame that may follow is begun: with its body behind the gate, and the gate open, the file would be the next.
use Rattle.std.proofs.Common.{◌≡◌, ℕ, ◌+◌, ◌-◌, ◌<◌, cond, List, [], ◌∷◌, ◌++◌, length, take, drop, get_or, Option, Some, None, refl, sym, ap, subst, ◌∙◌, arith, append_assoc}
use Rattle.std.specs.Option.{option_or}
use Rattle.std.specs.Int.{w32, to_le_bytes}
use Rattle.std.proofs.lemmas.Bool.{le-ltb}
use Rattle.std.proofs.lemmas.List.{length-append, length-take-le, take_at, drop_at, take-append-le, take-take, map_push, get_or_push, get_or_append_left}
use Rattle.disk_core.specs.State.{State, overlay}
use Rattle.segment_core.specs.declared.format.Shape.{Shape}
use Rattle.segment_core.specs.declared.tally.Tally.{Tally}
use Rattle.segment_core.specs.Frame.{Frame, Fold, kind_of, payload_of, header, frame_text, text}
use Rattle.segment_core.specs.Layout.{IsFrame}
use Rattle.segment_core.specs.Tally.{nothing, after, tally_of, MayFollow, AreLegal}
use Rattle.segment_core.specs.Vector.{last_from, change_in, home_of}
use Rattle.segment_core.specs.Folding.{HomesHold}
use Rattle.segment_core.specs.Blanked.{blanked}
use Rattle.segment_core.proofs.Push.{Begins_push, BeginsImage_before}
use Rattle.segment_core.proofs.Blanked.{tally_from-blanked, same_legal}
use Rattle.segment_core.proofs.PlaceOf.{home_of_between}
use Rattle.segment_core.proofs.Loose.{take_same}
use Rattle.segment_core.proofs.HomesHold.{HomesHold_same, HomesHold_blanked}
use Rattle.segment_core.proofs.OneMore.{IsVectorOf_begins}
use Rattle.segment_core.proofs.Raw.{IsVectorOf_frame}
use Rattle.segment_core.proofs.Payload.{length-frame_text}
use Rattle.pen_core.specs.Step.{body_of}
use Rattle.segment_core.specs.Raw.{raw}
use Rattle.pen_core.specs.Held.{HoldsFrames, IsBeingFolded, early_in, gate_of}
use Rattle.pen_core.specs.Vectors.{frames_with}
use Rattle.segment_core.specs.Raw.{after_frame}
use Rattle.pen_core.specs.Inside.{IsBodyOf}
use Rattle.pen_core.specs.Known.{PendingIsFolded}
use Rattle.pen_core.proofs.Again.{gate_behind, blank_again}
use Rattle.pen_core.proofs.Pens.{gate_with}

-- ---- no fold

never_early : (shape : Shape) (folded i p : ℕ) (tally : Tally) (frame : Frame) → early_in shape folded 0 i p tally frame ≡ None
never_early shape folded i p tally frame = ap (λ b. cond b (change_in shape folded i p tally frame) None) (le-ltb tally.changes 0 (omega arith))

never_said : (says : ℕ → Tally → Frame → Option ℕ) (shape : Shape) (p : ℕ) (tally : Tally) (frames : List Frame)
    → ((q : ℕ) (t : Tally) (f : Frame) → says q t f ≡ None) → last_from says shape.format p tally frames ≡ None
never_said says shape p tally [] never = refl
never_said says shape p tally (f ∷ frames) never =
    ap (λ o. option_or o (says p tally f)) (never_said says shape (p + length (frame_text shape.format f)) (after tally f) frames never) ∙ never p tally f

-- where no fold is in hand nothing is being folded
pub nothing_folded : (shape : Shape) (frames : List Frame) (j : ℕ) → IsBeingFolded shape 0 frames j → ⊥
nothing_folded shape frames j is =
    let none =
    never_said (early_in shape (tally_of frames).folded 0 is.position) shape (length (header shape)) nothing frames
    (λ q t f. never_early shape (tally_of frames).folded is.position q t f) in
    let some = is.covered in
    absurd cc

-- frames that bytes hold keep the rules, whatever their home bytes
pub held_legal : (shape : Shape) (frames : List Frame) (vector : List (List ℕ)) (bytes : List ℕ)
    → HoldsFrames shape frames vector bytes → AreLegal shape frames
held_legal shape frames vector bytes has = same_legal has.found frames (sym (blank_again has.found frames has.alike)) shape has.begins.legal

-- ---- the body

-- with the body behind the gate, and the gate open, the bytes are those of one frame more
opened_text : (front body r : List ℕ) (gate : ℕ) → length front ≡ gate → 0 < length r
    → overlay (overlay (front ++ r) (gate + 1) body) gate
    (1 ∷ []) ≡ front ++ ((1 ∷ body) ++ drop (gate + 1 + length body) (front ++ r))
opened_text front body r gate is some =
    let seen : List ℕ = front ++ r in
    let size = length-append front r in
    let kept : List ℕ = take (gate + 1) seen in
    let behind : List ℕ = drop (gate + 1 + length body) seen in
    let long : length kept ≡ gate + 1 = length-take-le (gate + 1) seen (omega arith) in
    let start : take gate (kept ++ body ++ behind) ≡ front =
    take-append-le gate (kept ++ body) behind (omega (arith, length-append kept body))
    ∙ take-append-le gate kept body (omega arith) ∙ take-take gate (gate + 1) seen (omega arith)
    ∙ take_at front r gate is in
    let rest : drop (gate + 1) (kept ++ body ++ behind) ≡ body ++ behind =
    ap (drop (gate + 1)) (append_assoc kept body behind) ∙ drop_at kept (body ++ behind) (gate + 1) long in
    ap (λ (bs : List ℕ). bs ++ 1 ∷ [] ++ drop (gate + 1) (kept ++ body ++ behind)) start
    ∙ ap (λ (bs : List ℕ). front ++ 1 ∷ [] ++ bs) rest
    ∙ append_assoc front (1 ∷ []) (body ++ behind)

module _ (count : ℕ) (shape : Shape) (frames : List Frame) (vector : List (List ℕ)) (s : State) (f : Frame)
    (has : HoldsFrames shape frames vector s.seen) (there : gate_of shape frames < length s.seen) (whole : IsFrame shape f)
    (may : MayFollow (tally_of frames) f) (hold : (fold : ℕ) → f ≡ Fold fold → HomesHold shape.format (raw shape.width) s.seen frames fold vector) where
  abbrev gate : ℕ
  gate = gate_of shape frames

  abbrev body : List ℕ
  body = body_of (frame_text shape.format f ++ 0 ∷ [])

  abbrev image : List ℕ
  image = overlay (overlay s.seen (gate + 1) body) gate (1 ∷ [])

  abbrev tail : List ℕ
  tail = drop (gate + 1 + length body) (text shape has.found ++ has.begins.begins.0)

  length-body : length body ≡ length (frame_text shape.format f)
  length-body =
      let front : List ℕ = (kind_of f ∷ to_le_bytes w32 (length (payload_of shape.format f))) ++ payload_of shape.format f in
      let size = length-append front (0 ∷ []) in
      omega arith

  may' : MayFollow (tally_of has.found) f
  may' = subst (λ t. MayFollow t f) (ap tally_of (sym has.alike) ∙ tally_from-blanked nothing has.found) may

  image_is : image ≡ text shape has.found ++ (frame_text shape.format f ++ 0 ∷ tail)
  image_is =
      let b = has.begins.begins in
      let g = gate_behind shape has.found frames has.alike in
      let size = ap length b.1 ∙ length-append (text shape has.found) b.0 in
      let opened =
      ap (λ (bs : List ℕ). overlay (overlay bs (gate + 1) body) gate (1 ∷ [])) b.1
      ∙ opened_text (text shape has.found) body b.0 gate g (omega arith) in
      opened ∙ ap (λ (bs : List ℕ). text shape has.found ++ bs) (append_assoc (frame_text shape.format f) (0 ∷ []) tail)

  -- the homes of the frames are as they were
  home_stays : (i place : ℕ) → home_of shape has.found i ≡ Some place → take shape.width (drop place image) ≡ take shape.width (drop place s.seen)
  home_stays i place at =
      let b = home_of_between shape has.found i place has.begins.legal at in
      let g = gate_behind shape has.found frames has.alike in
      let all = length-append (text shape has.found) has.begins.begins.0 in
      let long = ap length has.begins.begins.1 in
      let long' = ap length image_is ∙ length-append (text shape has.found) (frame_text shape.format f ++ 0 ∷ tail) in
      take_same shape.width place image s.seen (omega (arith, b.to)) (omega (arith, b.to)) (λ j from before.
      ap (λ (bs : List ℕ). get_or bs j 0) image_is
      ∙ get_or_append_left (text shape has.found) (frame_text shape.format f ++ 0 ∷ tail) 0 j (omega (arith, b.to))
      ∙ sym
      (ap (λ (bs : List ℕ). get_or bs j 0) has.begins.begins.1
      ∙ get_or_append_left (text shape has.found) has.begins.begins.0 0 j (omega (arith, b.to))))

  hold_there : (fold : ℕ) → f ≡ Fold fold → HomesHold shape.format (raw shape.width) image has.found fold vector
  hold_there fold is =
      HomesHold_same shape.format (raw shape.width) s.seen image has.found fold vector (λ i place at. ap (λ c. Some c) (home_stays i place at))
      (HomesHold_blanked shape.format (raw shape.width) s.seen frames has.found fold vector (blank_again has.found frames has.alike) (hold fold is))

  body_holds : HoldsFrames shape (frames_with frames f) (after_frame shape.width vector f) image
  body_holds =
      let begins = Begins_push shape image has.found f (0 ∷ tail) has.begins.legal whole may' image_is in
      let before =
      IsVectorOf_begins shape.format (raw shape.width) s.seen image has.found vector has.begins
      (BeginsImage_before shape image has.found f begins) has.read in
      record {
        found = has.found ++ f ∷ [];
        alike = map_push blanked has.found f ∙ ap (λ (fs : List Frame). fs ++ blanked f ∷ []) has.alike;
        begins = begins;
        read = IsVectorOf_frame shape.format shape.width image has.found vector f before begins hold_there;
      }

  pub body_is : PendingIsFolded shape count frames (frames_with frames f) s
      → IsBodyOf shape count gate frames (frames_with frames f) (after_frame shape.width vector f) body s
  body_is pending =
      let front : List ℕ = (kind_of f ∷ to_le_bytes w32 (length (payload_of shape.format f))) ++ payload_of shape.format f in
      let size = length-append front (0 ∷ []) in
      let last : get_or body (length body - 1) 0 ≡ 0 = get_or_push front 0 0 (length body - 1) (omega arith) in
      let long = length-body in
      record {
        some = omega (arith, length-frame_text shape.format f);
        size = gate_with shape frames f ∙ ap (λ n. gate + n) (sym long);
        closed = λ opened. omega (arith, last, opened);
        pending_is_folded = pending;
        holds = body_holds;
      }
