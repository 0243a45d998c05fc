-- What a look has found once it has read a closed gate: frames that replay to the vector of that moment.
use Rattle.std.proofs.Common.{◌≡◌, ◌⊎◌, ℕ, suc, ◌+◌, ◌*◌, ◌<◌, ◌≤◌, List, [], ◌∷◌, ◌++◌, length, drop, sum, get_or, refl, sym, ap, subst, ◌∙◌, arith, length-append, inl, inr}
use Rattle.std.specs.Prelude.{slice_index}
use Rattle.std.specs.List.{flat_map}
use Rattle.std.proofs.lemmas.List.{get_or_append_left, get_or-append-add, length-take-le}
use Rattle.std.proofs.lemmas.Bool.{ltb-false, not-false}
use Rattle.disk_core.specs.Shared.{WasThere}
use Rattle.record_core.proofs.Lists.{head_is}
use Rattle.segment_core.specs.declared.format.Shape.{Shape}
use Rattle.segment_core.specs.declared.tally.Tally.{Tally}
use Rattle.segment_core.specs.Shape.{limit_of}
use Rattle.segment_core.specs.Frame.{Frame, Group, Change, Shrink, Fold, header, text, frame_text, payload_of, kind_of, records_of_runs, open_gate, closed_gate}
use Rattle.segment_core.specs.Layout.{IsFrame}
use Rattle.segment_core.specs.Tally.{nothing, after, tally_from, tally_of, are_inside, MayFollow, AreLegalFrom, AreLegal}
use Rattle.segment_core.specs.Raw.{cells_in, after_frame}
use Rattle.segment_core.proofs.FrameParts.{length-payload_of}
use Rattle.segment_core.proofs.Push.{length-text}
use Rattle.segment_core.proofs.Raw.{length-cells_in}
use Rattle.segment_core.proofs.Replaced.{length-replaced}
use Rattle.beside_core.specs.PensFile.{IsPensFile}
use Rattle.beside_core.specs.MayDiffer.{size_after, MayDiffer}
use Rattle.beside_core.specs.Replay.{replayed, vector_left}
use Rattle.beside_core.specs.Look.{IsAmong, LookedOn}
use Rattle.beside_core.proofs.Read.{IsReadFrame, AreRead, AreTextOfRead}
use Rattle.beside_core.proofs.MayDiffer.{MayDiffer-append, MayDiffer-behind}
use Rattle.beside_core.proofs.Parse.{parses}
use Rattle.beside_core.proofs.Replayed.{replays}
use Rattle.beside_core.proofs.Walking.{Walked, text-append, legal_behind, later_stand, no_more}

-- ---- frames as they were read

-- they keep the rules
pub read_legal : (shape : Shape) (tally : Tally) (size : ℕ) (frames reads : List Frame) → AreLegalFrom shape tally frames → AreRead shape.width size frames reads → AreLegalFrom shape tally reads
read_legal shape tally size [] reads legal are = subst (λ fs. AreLegalFrom shape tally fs) (sym are) tt
read_legal shape tally size (Group lengths bytes ∷ frames) reads legal are =
    let homes = are.3.0 in
    let long : length homes ≡ length bytes = are.3.3 in
    let payloads : length (payload_of shape.format (Group lengths homes)) ≡ length (payload_of shape.format (Group lengths bytes)) = length-payload_of shape.format (Group lengths homes)
    ∙ ap (λ n. 4 + length lengths * 4 + n) long ∙ sym (length-payload_of shape.format (Group lengths bytes)) in
    let whole : IsFrame shape (Group lengths homes) = record {
      wide = legal.0.wide;
      small = subst (λ n. n ≤ limit_of shape.format) (sym payloads) legal.0.small;
      layout = (legal.0.layout.0, legal.0.layout.1, long ∙ legal.0.layout.2);
    } in
    let may : MayFollow tally (Group lengths homes) = record { ordered = legal.1.ordered; inside = legal.1.inside; folded = legal.1.folded; counted = legal.1.counted; short = legal.1.short } in
    let rest = read_legal shape (after tally (Group lengths bytes)) (size + sum lengths) frames are.1 legal.2 are.4 in
    subst (λ fs. AreLegalFrom shape tally fs) (sym (are.2 ∙ ap (λ f. f ∷ are.1) are.3.1)) (whole, may, rest)
read_legal shape tally size (Change runs bytes ∷ frames) reads legal are =
    subst (λ fs. AreLegalFrom shape tally fs) (sym (are.2 ∙ ap (λ f. f ∷ are.1) are.3)) (legal.0, legal.1, read_legal shape (after tally (Change runs bytes)) size frames are.1 legal.2 are.4)
read_legal shape tally size (Shrink n ∷ frames) reads legal are =
    subst (λ fs. AreLegalFrom shape tally fs) (sym (are.2 ∙ ap (λ f. f ∷ are.1) are.3)) (legal.0, legal.1, read_legal shape (after tally (Shrink n)) n frames are.1 legal.2 are.4)
read_legal shape tally size (Fold count ∷ frames) reads legal are =
    subst (λ fs. AreLegalFrom shape tally fs) (sym (are.2 ∙ ap (λ f. f ∷ are.1) are.3)) (legal.0, legal.1, read_legal shape (after tally (Fold count)) size frames are.1 legal.2 are.4)

one_after : (width size : ℕ) (later : List Frame) (frame one : Frame) (tally : Tally) → IsReadFrame width size later frame one → after tally one ≡ after tally frame
one_after width size later (Group lengths bytes) one tally is = ap (after tally) is.1
one_after width size later (Change runs bytes) one tally is = ap (after tally) is
one_after width size later (Shrink n) one tally is = ap (after tally) is
one_after width size later (Fold count) one tally is = ap (after tally) is

-- they are as many
as_many : (width size : ℕ) (frames reads : List Frame) → AreRead width size frames reads → length reads ≡ length frames
as_many width size [] reads are = ap length are
as_many width size (frame ∷ frames) reads are = ap length are.2 ∙ ap (λ n. suc n) (as_many width (size_after size frame) frames are.1 are.4)

-- they leave the same tally
read_tally : (width size : ℕ) (tally : Tally) (frames reads : List Frame) → AreRead width size frames reads → tally_from tally reads ≡ tally_from tally frames
read_tally width size tally [] reads are = ap (tally_from tally) are
read_tally width size tally (frame ∷ frames) reads are =
    ap (tally_from tally) are.2
    ∙ ap (λ t. tally_from t are.1) (one_after width size frames frame are.0 tally are.3)
    ∙ read_tally width (size_after size frame) (after tally frame) frames are.1 are.4

tail_is : (x y : Frame) (xs ys : List Frame) → x ∷ xs ≡ y ∷ ys → xs ≡ ys
tail_is x y xs ys is = ap (drop 1) is

same_other : (width size : ℕ) (later : List Frame) (frame one : Frame) → 1 < kind_of one → IsReadFrame width size later frame one → frame ≡ one
same_other width size later (Group lengths bytes) one other is = absurd (omega (arith, other, ap kind_of is.1))
same_other width size later (Change runs bytes) one other is = sym is
same_other width size later (Shrink n) one other is = sym is
same_other width size later (Fold count) one other is = sym is

-- those that are no groups are the same
read_others : (width size : ℕ) (frames reads : List Frame) (frame : Frame) → AreRead width size frames reads → 1 < kind_of frame → IsAmong frame reads → IsAmong frame frames
read_others width size [] reads frame are other ([], after, is) = (let no : [] ≡ frame ∷ after = sym are ∙ is in absurd cc)
read_others width size [] reads frame are other (b ∷ before, after, is) = (let no : [] ≡ b ∷ (before ++ frame ∷ after) = sym are ∙ is in absurd cc)
read_others width size (first ∷ frames) reads frame are other ([], after, is) =
    let same : are.0 ≡ frame = head_is are.0 frame are.1 after (sym are.2 ∙ is) in
    let one : first ≡ frame = same_other width size frames first are.0 (subst (λ f. 1 < kind_of f) (sym same) other) are.3 ∙ same in
    ([], frames, ap (λ f. f ∷ frames) one)
read_others width size (first ∷ frames) reads frame are other (b ∷ before, after, is) =
    let rest : are.1 ≡ before ++ frame ∷ after = tail_is are.0 b are.1 (before ++ frame ∷ after) (sym are.2 ∙ is) in
    let there = read_others width (size_after size first) frames are.1 frame are.4 other (before, after, rest) in
    (first ∷ there.0, there.1, ap (λ (fs : List Frame). first ∷ fs) there.2)

-- ---- behind known frames

tally_from-append : (tally : Tally) (a b : List Frame) → tally_from tally (a ++ b) ≡ tally_from (tally_from tally a) b
tally_from-append tally [] b = refl
tally_from-append tally (frame ∷ a) b = tally_from-append (after tally frame) a b

replayed-append : (width : ℕ) (cells : List (List ℕ)) (a b : List Frame) → replayed width cells (a ++ b) ≡ replayed width (replayed width cells a) b
replayed-append width cells [] b = refl
replayed-append width cells (frame ∷ a) b = replayed-append width (after_frame width cells frame) a b

length-after_frame : (width : ℕ) (tally : Tally) (cells : List (List ℕ)) (frame : Frame) → tally.size ≡ length cells → MayFollow tally frame
    → (after tally frame).size ≡ length (after_frame width cells frame)
length-after_frame width tally cells (Group lengths bytes) size may = omega (arith, size, length-append cells (cells_in width (sum lengths) bytes), length-cells_in width (sum lengths) bytes)
length-after_frame width tally cells (Change runs bytes) size may =
    size ∙ sym (length-replaced cells runs (cells_in width (records_of_runs runs) bytes) (ap (λ n. are_inside n runs) (sym size)
    ∙ not-false (are_inside tally.size runs) may.inside) (length-cells_in width (records_of_runs runs) bytes))
length-after_frame width tally cells (Shrink n) size may = sym (length-take-le n cells (omega (arith, size, ltb-false tally.size n may.inside)))
length-after_frame width tally cells (Fold count) size may = size

pub length-replayed : (shape : Shape) (tally : Tally) (cells : List (List ℕ)) (frames : List Frame) → tally.size ≡ length cells → AreLegalFrom shape tally frames
    → (tally_from tally frames).size ≡ length (replayed shape.width cells frames)
length-replayed shape tally cells [] size legal = size
length-replayed shape tally cells (frame ∷ frames) size legal = length-replayed shape (after tally frame) (after_frame shape.width cells frame) frames
    (length-after_frame shape.width tally cells frame size legal.1) legal.2

pub legal_before : (shape : Shape) (tally : Tally) (a b : List Frame) → AreLegalFrom shape tally (a ++ b) → AreLegalFrom shape tally a
legal_before shape tally [] b legal = tt
legal_before shape tally (frame ∷ a) b legal = (legal.0, legal.1, legal_before shape (after tally frame) a b legal.2)

-- the vector that frames leave is as long as their tally says
pub length-vector_left : (shape : Shape) (frames : List Frame) → AreLegal shape frames → (tally_of frames).size ≡ length (vector_left shape.width frames)
length-vector_left shape frames legal = length-replayed shape nothing [] frames refl legal

-- ---- the end of a look

module _ (shape : Shape) (held : ℕ → List ℕ) (frames : ℕ → List Frame) (file : IsPensFile shape held frames) (known : List Frame) where
  pub looked_end : (from s t gate byte : ℕ) (bytes : List ℕ) → from ≤ s → Walked shape held frames known s gate bytes → (byte ≡ open_gate → ⊥) → WasThere held s t gate byte
      → LookedOn shape frames known from t gate (bytes ++ closed_gate ∷ [])
  looked_end from s t gate byte bytes fs walked not shut = record {
    moment = m;
    since = omega (arith, fs, shut.since);
    until = shut.until;
    came = walked.found;
    frames_are = here;
    gate_is = walked.gate_is ∙ ap (λ (fs : List Frame). length (text shape fs)) (sym here);
    reads = read.reads;
    text_is = ap (λ (bs : List ℕ). bs ++ closed_gate ∷ []) read.text;
    many = as_many shape.width (tally_of known).size walked.found read.reads read.are;
    legal = read_legal shape (tally_of known) (tally_of known).size walked.found read.reads legal read.are;
    tally_is = read_tally shape.width (tally_of known).size (tally_of known) walked.found read.reads read.are ∙ sym (tally_from-append nothing known walked.found) ∙ ap tally_of (sym here);
    vector_is =
        replays shape (tally_of known) walked.found read.reads cells cells size legal (subst (λ n. AreRead shape.width n walked.found read.reads) size read.are)
        (record { long = refl; each = λ i lt. inl refl })
        ∙ sym (replayed-append shape.width [] known walked.found) ∙ ap (vector_left shape.width) (sym here);
    others = λ frame other among. read_others shape.width (tally_of known).size walked.found read.reads frame read.are other among;
  }
    where
      m : ℕ
      m = shut.moment

      here : frames shut.moment ≡ known ++ walked.found
      here =
          let there = later_stand shape held frames file s shut.moment (known ++ walked.found) walked.stand.0 shut.since walked.stand.1 in
          no_more shape held frames file shut.moment (known ++ walked.found) (walked.stand.0 ++ there.0) there.1 (λ is. not (shut.stood ∙ ap (slice_index (held shut.moment)) walked.gate_is ∙ is))

      all_legal : AreLegal shape (known ++ walked.found)
      all_legal = subst (λ fs. AreLegal shape fs) here (file.legal shut.moment)

      legal : AreLegalFrom shape (tally_of known) walked.found
      legal = legal_behind shape nothing known walked.found all_legal

      cells : List (List ℕ)
      cells = vector_left shape.width known

      size : (tally_of known).size ≡ length (vector_left shape.width known)
      size = length-vector_left shape known (legal_before shape nothing known walked.found all_legal)

      same_byte : (j : ℕ) → j < length bytes → (slice_index bytes j ≡ slice_index (flat_map (frame_text shape.format) walked.found) j) ⊎ MayDiffer shape (tally_of known).size walked.found j
      same_byte j lt =
          let stood = walked.each j lt in
          let p : ℕ = length (text shape known) + j in
          let grown = file.grows stood.moment shut.moment (omega (arith, stood.until, shut.since)) in
          let both : frames stood.moment ++ grown.0 ≡ known ++ walked.found = sym grown.1 ∙ here in
          elim (file.stands stood.moment p stood.framed) [
            | inl same ↦ inl (
                stood.stood ∙ same
                ∙ sym (get_or_append_left (text shape (frames stood.moment)) (flat_map (frame_text shape.format) grown.0) 0 p stood.framed)
                ∙ ap (λ (bs : List ℕ). get_or bs p 0) (sym (text-append shape (frames stood.moment) grown.0) ∙ ap (text shape) both ∙ text-append shape known walked.found)
                ∙ get_or-append-add (text shape known) (flat_map (frame_text shape.format) walked.found) j 0)
            | inr differs ↦ inr (
                let header_long : length (header shape) ≡ 11 = refl in
                let place : differs.0 ≡ length (flat_map (frame_text shape.format) known) + j = omega (arith, differs.1, length-text shape known, header_long) in
                let later : MayDiffer shape 0 (known ++ walked.found) differs.0 = subst (λ fs. MayDiffer shape 0 fs differs.0) both (MayDiffer-append shape 0
                (frames stood.moment) grown.0 differs.0 differs.2) in
                MayDiffer-behind shape nothing known walked.found j all_legal (subst (λ i. MayDiffer shape 0 (known ++ walked.found) i) place later))
          ]

      read : AreTextOfRead shape (tally_of known).size walked.found bytes
      read = parses shape (tally_of known) (tally_of known).size walked.found bytes legal (record { long = walked.long; each = same_byte })
