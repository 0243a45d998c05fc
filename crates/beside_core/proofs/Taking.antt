-- Frames that are replayed one behind the other.
use Rattle.std.proofs.Common.{◌≡◌, ℕ, ◌+◌, ◌-◌, ◌≤◌, true, false, List, [], ◌∷◌, ◌++◌, length, drop, sum, get_or, Some, None, Err, refl, sym, ap, subst, ◌∙◌, arith, append_assoc}
use Rattle.std.proofs.Common.{length-append, inl, inr}
use Rattle.std.specs.List.{flat_map, AllByRecursion}
use Rattle.std.proofs.lemmas.List.{append-nil, drop-drop}
use Rattle.std.proofs.lemmas.Bool.{cases_lt, ltb-false}
use Rattle.std.proofs.lemmas.List.Concat.{flat_map-append}
use Rattle.std.proofs.Math.Seq.{drop-append_seam}
use Rattle.record_core.specs.Limits.{record_limit}
use Rattle.segment_core.specs.declared.format.Shape.{Shape}
use Rattle.segment_core.specs.declared.tally.Tally.{Tally}
use Rattle.segment_core.specs.declared.fault.ScanFault.{ScanFault}
use Rattle.segment_core.specs.declared.fault.Cause.TheVariants.{NoGate, ShortFrame}
use Rattle.segment_core.specs.declared.frame_head.Unread.{Unread}
use Rattle.segment_core.specs.declared.frame_head.Unread.TheVariants.{Short, Fault}
use Rattle.segment_core.specs.Frame.{Frame, Group, Change, Shrink, Fold, frame_text, closed_gate}
use Rattle.segment_core.specs.Tally.{after, tally_from, MayFollow, AreLegalFrom}
use Rattle.segment_core.specs.Fault.{first_line, frame_lines, order_lines, is_closed, damaged}
use Rattle.segment_core.specs.Reading.{BeginsWith, IsNext}
use Rattle.record_core.specs.Bytes.{Encoding}
use Rattle.segment_core.specs.Raw.{cells_in, after_frame}
use Rattle.segment_core.proofs.Longest.{same_frame}
use Rattle.segment_core.proofs.Push.{tally_from_push, AreLegalFrom_push}
use Rattle.segment_core.proofs.Lines.{frame_lines-frame_text, order_lines-may_follow, is_closed-frame_text}
use Rattle.beside_core.specs.declared.bookmark.Bookmark.{Bookmark}
use Rattle.beside_core.specs.declared.fault.LookFault.{LookFault}
use Rattle.beside_core.specs.declared.fault.LookFault.TheVariants.{Disk, Scan, NoRecord, TooFar, Memory}
use Rattle.beside_core.specs.declared.laying.Laid.{Laid}
use Rattle.beside_core.specs.declared.news.Edit.{Edit}
use Rattle.beside_core.specs.declared.since.Loss.{Loss}
use Rattle.beside_core.specs.declared.since.Loss.TheVariants.{Changed, Shorter}
use Rattle.beside_core.specs.Replay.{replayed}
use Rattle.beside_core.specs.Look.{IsAmong}
use Rattle.beside_core.specs.Edit.{IsEdited, AreNoted, loss_of}
use Rattle.beside_core.specs.Tail.{FillsTail, Stands, TakesFrame, IsLossBy, IsReplayFault, IsReplayEnd, BeginsWithLoss, AreTaken}

-- so many bytes are the text of frames that keep the rules, which were taken in
pub record HasTaken {R : Type 0} (form : Encoding R) (mark : Bookmark) (text : List ℕ) (used : ℕ) (tally : Tally) (laid : Laid R) (count : ℕ) : Type 0 where
  pub done : List Frame
  pub count_is : count ≡ length done
  pub used_is : used ≡ length (flat_map (frame_text mark.shape.format) done)
  pub text_is : text ≡ flat_map (frame_text mark.shape.format) done ++ drop used text
  pub tally_is : tally ≡ tally_from mark.tally done
  pub legal : AreLegalFrom mark.shape mark.tally done
  pub begins : BeginsWithLoss mark.tally.size done laid.edits.items laid.base
  pub is : (known : List (List ℕ)) → length known ≡ mark.tally.size → Stands form known tally.size laid (replayed form.width known done)

-- of frames whose text it is, they are the first ones
pub record HasReplayed {R : Type 0} (form : Encoding R) (mark : Bookmark) (frames : List Frame) (text : List ℕ) (used : ℕ) (tally : Tally) (laid : Laid R) : Type 0 where
  pub done : List Frame
  pub left : List Frame
  pub all : frames ≡ done ++ left
  pub used_is : used ≡ length (flat_map (frame_text mark.shape.format) done)
  pub rest : drop used text ≡ flat_map (frame_text mark.shape.format) left ++ closed_gate ∷ []
  pub tally_is : tally ≡ tally_from mark.tally done
  pub legal : AreLegalFrom mark.shape tally left
  pub begins : BeginsWithLoss mark.tally.size done laid.edits.items laid.base
  pub is : (known : List (List ℕ)) → length known ≡ mark.tally.size → Stands form known tally.size laid (replayed form.width known done)

replayed-push : (width : ℕ) (cells : List (List ℕ)) (frames : List Frame) (frame : Frame) → replayed width cells (frames ++ frame ∷ []) ≡ after_frame width (replayed width cells frames) frame
replayed-push width cells [] frame = refl
replayed-push width cells (first ∷ frames) frame = replayed-push width (after_frame width cells first) frames frame

-- nothing is laid yet
pub record IsFresh {R : Type 0} (size : ℕ) (laid : Laid R) : Type 0 where
  pub base_is : laid.base ≡ size
  pub no_edits : laid.edits.items ≡ []
  pub no_tail : laid.tail.items ≡ []

pub taken_nothing : {R : Type 0} (form : Encoding R) (mark : Bookmark) (text : List ℕ) (laid : Laid R) → IsFresh mark.tally.size laid → HasTaken form mark text 0 mark.tally laid 0
taken_nothing form mark text laid fresh = record {
  done = [];
  count_is = refl;
  used_is = refl;
  text_is = refl;
  tally_is = refl;
  legal = tt;
  begins = subst (λ edits. BeginsWithLoss mark.tally.size [] edits laid.base) (sym fresh.no_edits) fresh.base_is;
  is = λ known long. (
      let none : mark.tally.size - laid.base ≡ 0 = omega (arith, fresh.base_is) in
      record {
        front = known;
        edited = subst (λ edits. IsEdited form edits known known) (sym fresh.no_edits) refl;
        long = long ∙ sym fresh.base_is;
        is = sym (ap (λ n. known ++ cells_in form.width n laid.tail.items) none ∙ append-nil known);
      });
}

-- Frames that begin a text are the first ones of any list whose text it begins with, where no frame follows that one.
pub first_ones : (shape : Shape) (tally : Tally) (done frames : List Frame) (rest tail : List ℕ) → ((frame : Frame) (more : List ℕ) → tail ≡ frame_text shape.format frame ++ more → ⊥)
    → flat_map (frame_text shape.format) done ++ rest ≡ flat_map (frame_text shape.format) frames ++ tail → AreLegalFrom shape tally done → AreLegalFrom shape tally frames
    → (left : List Frame) × (frames ≡ done ++ left) × (rest ≡ flat_map (frame_text shape.format) left ++ tail) × AreLegalFrom shape (tally_from tally done) left
first_ones shape tally [] frames rest tail none same a b = (frames, refl, same, b)
first_ones shape tally (frame ∷ done) [] rest tail none same a b =
    absurd (none frame (flat_map (frame_text shape.format) done ++ rest) (sym same ∙ append_assoc (frame_text shape.format frame) (flat_map (frame_text shape.format) done) rest))
first_ones shape tally (frame ∷ done) (first ∷ frames) rest tail none same a b =
    let one = same_frame shape frame first (flat_map (frame_text shape.format) done ++ rest) (flat_map (frame_text shape.format) frames ++ tail) a.0 b.0
    (sym (append_assoc (frame_text shape.format frame) (flat_map (frame_text shape.format) done) rest) ∙ same
    ∙ append_assoc (frame_text shape.format first) (flat_map (frame_text shape.format) frames) tail) in
    let more = first_ones shape (after tally frame) done frames rest tail none one.1 a.2 (subst (λ f. AreLegalFrom shape (after tally f) frames) (sym one.0) b.2) in
    (more.0, ap (λ f. f ∷ frames) (sym one.0) ∙ ap (λ (fs : List Frame). frame ∷ fs) more.1, more.2, more.3)

-- no frame begins with a gate that is closed
pub no_frame : (shape : Shape) (frame : Frame) (more : List ℕ) → closed_gate ∷ [] ≡ frame_text shape.format frame ++ more → ⊥
no_frame shape frame more is = (let clash : 0 ≡ 1 = ap (λ (bs : List ℕ). get_or bs 0 0) is in absurd (omega (arith, clash)))

pub replayed_of : {R : Type 0} (form : Encoding R) (mark : Bookmark) (text : List ℕ) (used : ℕ) (tally : Tally) (laid : Laid R) (count : ℕ) → HasTaken form mark text used tally laid count → (frames : List Frame)
    → text ≡ flat_map (frame_text mark.shape.format) frames ++ closed_gate ∷ [] → AreLegalFrom mark.shape mark.tally frames → HasReplayed form mark frames text used tally laid
replayed_of form mark text used tally laid count has frames text_is legal =
    let first = first_ones mark.shape mark.tally has.done frames (drop used text) (closed_gate ∷ []) (no_frame mark.shape) (sym has.text_is ∙ text_is) has.legal legal in
    record {
      done = has.done;
      left = first.0;
      all = first.1;
      used_is = has.used_is;
      rest = first.2;
      tally_is = has.tally_is;
      legal = subst (λ t. AreLegalFrom mark.shape t first.0) (sym has.tally_is) first.3;
      begins = has.begins;
      is = has.is;
    }

-- ---- what stands at the next gate, where the text of these frames is left

module _ (shape : Shape) (tally : Tally) (left : List Frame) (bytes : List ℕ) (rest : bytes ≡ flat_map (frame_text shape.format) left ++ closed_gate ∷ []) (legal : AreLegalFrom shape tally left) where
  -- a closed gate ends them
  pub none_left : is_closed bytes ≡ true → left ≡ []
  none_left closed = at left rest
    where
      at : (frames : List Frame) → bytes ≡ flat_map (frame_text shape.format) frames ++ closed_gate ∷ [] → frames ≡ []
      at [] is = refl
      at (frame ∷ frames) is =
          let opened = ap is_closed (is ∙ append_assoc (frame_text shape.format frame) (flat_map (frame_text shape.format) frames) (closed_gate ∷ []))
          ∙ is_closed-frame_text shape.format frame (flat_map (frame_text shape.format) frames ++ closed_gate ∷ []) in
          let clash : true ≡ false = sym closed ∙ opened in
          absurd cc

  -- a whole frame is the next one
  pub next_left : (frame : Frame) → BeginsWith shape bytes frame → (more : List Frame) × (left ≡ frame ∷ more)
  next_left frame begins = at left rest legal
    where
      at : (frames : List Frame) → bytes ≡ flat_map (frame_text shape.format) frames ++ closed_gate ∷ [] → AreLegalFrom shape tally frames → (more : List Frame) × (frames ≡ frame ∷ more)
      at [] is keeps = (let clash : 1 ≡ 0 = ap (λ (bs : List ℕ). get_or bs 0 0) (sym begins.text.1 ∙ is) in absurd (omega (arith, clash)))
      at (first ∷ frames) is keeps =
          let same = same_frame shape first frame (flat_map (frame_text shape.format) frames ++ closed_gate ∷ []) begins.text.0 keeps.0 begins.whole
          (sym (append_assoc (frame_text shape.format first) (flat_map (frame_text shape.format) frames) (closed_gate ∷ [])) ∙ sym is ∙ begins.text.1) in
          (frames, ap (λ f. f ∷ frames) same.0)

  no_line : (p : ℕ) (frames : List Frame) (fault : ScanFault) → bytes ≡ flat_map (frame_text shape.format) frames ++ closed_gate ∷ [] → AreLegalFrom shape tally frames
      → is_closed bytes ≡ false → first_line (frame_lines shape p bytes) ≡ Some fault → ⊥
  no_line p [] fault is keeps opened some = (let clash : true ≡ false = sym (ap is_closed is) ∙ opened in absurd cc)
  no_line p (first ∷ frames) fault is keeps opened some =
      let more : List ℕ = flat_map (frame_text shape.format) frames ++ closed_gate ∷ [] in
      let none = ap (λ (bs : List ℕ). first_line (frame_lines shape p bs)) (is
      ∙ append_assoc (frame_text shape.format first) (flat_map (frame_text shape.format) frames) (closed_gate ∷ [])) ∙ frame_lines-frame_text shape p first more keeps.0 in
      let clash : Some fault ≡ None = sym some ∙ none in
      absurd cc

  -- and nothing is at fault
  pub never_unread : (p : ℕ) (unread : Unread) → IsNext shape p bytes (Err unread) → ⊥
  never_unread p Short short = elim (cases_lt 0 (length bytes)) [
    | inl some ↦ no_line p left (damaged p ShortFrame) rest legal short.opened (short.cut some)
    | inr none ↦ no_line p left (damaged p NoGate) rest legal short.opened (short.empty (omega (arith, none)))
  ]
  never_unread p (Fault fault) faulty =
      let here = faulty [] in
      let same = append-nil bytes in
      no_line p left fault rest legal (ap is_closed (sym same) ∙ here.0) (ap (λ (bs : List ℕ). first_line (frame_lines shape p bs)) (sym same) ∙ here.1)

-- ---- what is said of some frames, of more

among_wider : (one : Frame) (before frames after all : List Frame) → all ≡ before ++ frames ++ after → IsAmong one frames → IsAmong one all
among_wider one before frames after all is (b, a, at) = (
  before ++ b,
  a ++ after,
  is ∙ ap (λ (fs : List Frame). before ++ fs ++ after) at ∙ ap (λ (fs : List Frame). fs ++ after) (sym (append_assoc before b (one ∷ a))) ∙ append_assoc (before ++ b) (one ∷ a) after,
)

loss_wider : (base more : ℕ) (loss : Loss) (before frames after all : List Frame) → base ≤ more → all ≡ before ++ frames ++ after → IsLossBy base frames loss → IsLossBy more all loss
loss_wider base more (Changed i) before frames after all le is (lt, runs, bytes, among, covers) =
    (omega (arith, lt, le), runs, bytes, among_wider (Change runs bytes) before frames after all is among, covers)
loss_wider base more (Shorter n) before frames after all le is (lt, among) = (omega (arith, lt, le), among_wider (Shrink n) before frames after all is among)

fault_wider : {R : Type 0} (form : Encoding R) (base more : ℕ) (fault : LookFault) (before frames after all : List Frame) → base ≤ more → all ≡ before ++ frames ++ after
    → IsReplayFault form base frames fault → IsReplayFault form more all fault
fault_wider form base more (Disk fault) before frames after all le is why = why
fault_wider form base more (Scan fault) before frames after all le is why = why
fault_wider form base more (NoRecord i) before frames after all le is why = (
  omega (arith, why.0, le),
  record {
    before = why.1.before;
    run = why.1.run;
    behind = why.1.behind;
    bytes = why.1.bytes;
    among = among_wider (Change (why.1.before ++ why.1.run ∷ why.1.behind) why.1.bytes) before frames after all is why.1.among;
    place = why.1.place;
    inside = why.1.inside;
    at = why.1.at;
    bad = why.1.bad;
  },
)
fault_wider form base more TooFar before frames after all le is why = why
fault_wider form base more Memory before frames after all le is why = why

-- why the last of some frames can't be taken in
pub replay_end : {R : Type 0} (form : Encoding R) (mark : Bookmark) (base : ℕ) (done : List Frame) (frame : Frame) (rest : List ℕ) (fault : LookFault) → base ≤ mark.tally.size
    → IsReplayFault form base (frame ∷ []) fault → IsReplayEnd form mark (done ++ frame ∷ []) rest fault
replay_end form mark base done frame rest (Disk fault) lower why = why
replay_end form mark base done frame rest (Scan fault) lower why = absurd why
replay_end form mark base done frame rest (NoRecord i) lower why = fault_wider form base mark.tally.size (NoRecord i) done (frame ∷ []) [] (done ++ frame ∷ []) lower
    (sym (append-nil (done ++ frame ∷ []))) why
replay_end form mark base done frame rest TooFar lower why = why
replay_end form mark base done frame rest Memory lower why = tt

-- the first edit is of one of the frames still
begins_more : {R : Type 0} (start : ℕ) (done : List Frame) (frame : Frame) (old new : List (Edit R)) (base next : ℕ) → base ≤ start → BeginsWithLoss start done old base
    → AreNoted (λ edit. IsLossBy base (frame ∷ []) (loss_of edit)) old new → (new ≡ old → next ≡ base) → BeginsWithLoss start (done ++ frame ∷ []) new next
begins_more {R} start done frame [] new base next lower begins noted same = at noted.0 noted.1 noted.2
  where
    at : (more : List (Edit R)) → new ≡ [] ++ more → AllByRecursion (λ edit. IsLossBy base (frame ∷ []) (loss_of edit)) more → BeginsWithLoss start (done ++ frame ∷ []) new next
    at [] is all = subst (λ edits. BeginsWithLoss start (done ++ frame ∷ []) edits next) (sym is) (same is ∙ begins)
    at (edit ∷ more) is all = subst (λ edits. BeginsWithLoss start (done ++ frame ∷ []) edits next) (sym is) (loss_wider base start (loss_of edit) done (frame ∷ []) []
        (done ++ frame ∷ []) lower (sym (append-nil (done ++ frame ∷ []))) all.0)
begins_more {R} start done frame (edit ∷ old) new base next lower begins noted same =
    subst (λ edits. BeginsWithLoss start (done ++ frame ∷ []) edits next) (sym noted.1) (loss_wider start start (loss_of edit) [] done (frame ∷ []) (done ++ frame ∷ []) (omega arith) refl begins)

-- ---- one frame more

module _ {R : Type 0} (form : Encoding R) (mark : Bookmark) (frames : List Frame) (text : List ℕ) (used : ℕ) (tally : Tally) (laid : Laid R) (has : HasReplayed form mark frames text used tally laid) where
  pub all_taken : (next : Bookmark) → is_closed (drop used text) ≡ true → next.shape ≡ mark.shape → next.gate ≡ mark.gate + used → next.tally ≡ tally
      → FillsTail form.width laid.base tally.size laid.tail.items → AreTaken form mark frames laid next
  all_taken next closed shape_is gate_is same_tally is_tail =
      let none = none_left mark.shape tally has.left (drop used text) has.rest has.legal closed in
      let same : frames ≡ has.done = has.all ∙ ap (λ (fs : List Frame). has.done ++ fs) none ∙ append-nil has.done in
      record {
        shape_is = shape_is;
        gate_is = omega (arith, gate_is, has.used_is, ap (λ (fs : List Frame). length (flat_map (frame_text mark.shape.format) fs)) same);
        tally_is = same_tally ∙ has.tally_is ∙ ap (tally_from mark.tally) (sym same);
        is_tail = subst (λ t. FillsTail form.width laid.base t.size laid.tail.items) (sym same_tally) is_tail;
        begins = subst (λ fs. BeginsWithLoss mark.tally.size fs laid.edits.items laid.base) (sym same) has.begins;
        is = λ known long. subst (λ t. Stands form known t.size laid (replayed form.width known frames)) (sym same_tally) (subst (λ fs. Stands form known tally.size laid
            (replayed form.width known fs)) (sym same) (has.is known long));
      }

  module _ (frame : Frame) (begins : BeginsWith mark.shape (drop used text) frame) where
    abbrev there : (more : List Frame) × (has.left ≡ frame ∷ more)
    there = next_left mark.shape tally has.left (drop used text) has.rest has.legal frame begins

    legal : AreLegalFrom mark.shape tally (frame ∷ there.0)
    legal = subst (λ fs. AreLegalFrom mark.shape tally fs) there.1 has.legal

    -- it may follow, whatever the code finds
    pub no_order_fault : (p : ℕ) (fault : ScanFault) → first_line (order_lines p tally frame) ≡ Some fault → ⊥
    no_order_fault p fault some = (let clash : Some fault ≡ None = sym some ∙ order_lines-may_follow p tally frame legal.1 in absurd cc)

    pub frames_split : frames ≡ has.done ++ frame ∷ there.0
    frames_split = has.all ∙ ap (λ (fs : List Frame). has.done ++ fs) there.1

    -- why it can't be taken in
    pub fault_by : (fault : LookFault) → laid.base ≤ mark.tally.size → IsReplayFault form laid.base (frame ∷ []) fault → IsReplayFault form mark.tally.size frames fault
    fault_by fault lower = fault_wider form laid.base mark.tally.size fault has.done (frame ∷ []) there.0 frames lower
        (frames_split ∙ sym (append_assoc has.done (frame ∷ []) there.0))

module _ {R : Type 0} (form : Encoding R) (mark : Bookmark) (text : List ℕ) (used : ℕ) (tally : Tally) (laid : Laid R) (count : ℕ) (has : HasTaken form mark text used tally laid count) where
  pub taken_all : (next : Bookmark) → next.shape ≡ mark.shape → next.gate ≡ mark.gate + used → next.tally ≡ tally → FillsTail form.width laid.base tally.size laid.tail.items
      → AreTaken form mark has.done laid next
  taken_all next shape_is gate_is same_tally is_tail = record {
    shape_is = shape_is;
    gate_is = omega (arith, gate_is, has.used_is);
    tally_is = same_tally ∙ has.tally_is;
    is_tail = subst (λ t. FillsTail form.width laid.base t.size laid.tail.items) (sym same_tally) is_tail;
    begins = has.begins;
    is = λ known long. subst (λ t. Stands form known t.size laid (replayed form.width known has.done)) (sym same_tally) (has.is known long);
  }

  module _ (frame : Frame) (begins : BeginsWith mark.shape (drop used text) frame) (may : MayFollow tally frame) where
    pub legal_more : AreLegalFrom mark.shape mark.tally (has.done ++ frame ∷ [])
    legal_more = AreLegalFrom_push mark.shape mark.tally has.done frame has.legal begins.whole (subst (λ t. MayFollow t frame) has.tally_is may)

    pub text_more : text ≡ flat_map (frame_text mark.shape.format) (has.done ++ frame ∷ []) ++ begins.text.0
    text_more =
        has.text_is ∙ ap (λ (bs : List ℕ). flat_map (frame_text mark.shape.format) has.done ++ bs) begins.text.1
        ∙ sym (append_assoc (flat_map (frame_text mark.shape.format) has.done) (frame_text mark.shape.format frame) begins.text.0)
        ∙ ap (λ (bs : List ℕ). bs ++ begins.text.0) (sym (flat_map-append (frame_text mark.shape.format) has.done (frame ∷ [])
        ∙ ap (λ (bs : List ℕ). flat_map (frame_text mark.shape.format) has.done ++ bs) (append-nil (frame_text mark.shape.format frame))))

    pub taken_more : (len : ℕ) (next : Tally) (new : Laid R) → len ≡ length (frame_text mark.shape.format frame) → next ≡ after tally frame → laid.base ≤ mark.tally.size
        → TakesFrame form tally frame laid new → HasTaken form mark text (used + len) next new (count + 1)
    taken_more len next new len_is tally_is lower taken = record {
      done = has.done ++ frame ∷ [];
      count_is = omega (arith, has.count_is, length-append has.done (frame ∷ []));
      used_is = omega (
        arith,
        has.used_is,
        len_is,
        ap length (flat_map-append (frame_text mark.shape.format) has.done (frame ∷ [])),
        length-append (flat_map
            (frame_text mark.shape.format) has.done) (frame_text mark.shape.format frame ++ []),
        ap length (append-nil (frame_text mark.shape.format frame)),
      );
      text_is = text_more ∙ ap (λ (bs : List ℕ). flat_map (frame_text mark.shape.format) (has.done ++ frame ∷ []) ++ bs)
          (sym (sym (drop-drop len used text) ∙ ap (drop len) begins.text.1 ∙ ap (λ n. drop n (frame_text mark.shape.format frame ++ begins.text.0)) len_is
          ∙ drop-append_seam (frame_text mark.shape.format frame) begins.text.0));
      tally_is = tally_is ∙ ap (λ t. after t frame) has.tally_is ∙ sym (tally_from_push mark.tally has.done frame);
      legal = legal_more;
      begins = begins_more mark.tally.size has.done frame laid.edits.items new.edits.items laid.base new.base lower has.begins taken.noted taken.same_base;
      is = λ known long. subst (λ t. Stands form known t.size new (replayed form.width known (has.done ++ frame ∷ []))) (sym tally_is) (subst (λ cells. Stands form known (after tally frame).size new cells)
          (sym (replayed-push form.width known has.done frame)) (taken.is known (replayed form.width known has.done) (has.is known long)));
    }

-- ---- what a bookmark keeps

pub size_small : (tally : Tally) (frame : Frame) → tally.size ≤ record_limit → MayFollow tally frame → (after tally frame).size ≤ record_limit
size_small tally (Group lengths bytes) small may = omega (arith, ltb-false record_limit (tally.size + sum lengths) may.short)
size_small tally (Change runs bytes) small may = small
size_small tally (Shrink n) small may = omega (arith, small, ltb-false tally.size n may.inside)
size_small tally (Fold count) small may = small

pub changes_few : (tally : Tally) (frame : Frame) → (after tally frame).changes ≤ tally.changes + 1
changes_few tally (Group lengths bytes) = omega arith
changes_few tally (Change runs bytes) = omega arith
changes_few tally (Shrink n) = omega arith
changes_few tally (Fold count) = omega arith
