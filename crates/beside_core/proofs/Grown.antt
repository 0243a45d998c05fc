-- What a look has answered, once its frames are replayed and their records read.
use Rattle.std.proofs.Common.{◌≡◌, ◌≢◌, ℕ, zero, suc, ◌+◌, ◌-◌, ◌<◌, ◌≤◌, List, [], ◌∷◌, ◌++◌, length, drop, Some, None, Ok, Err, refl, sym, ap, subst, ◌∙◌, arith, append_assoc, length-append, inl, inr}
use Rattle.std.specs.Prelude.{slice_get}
use Rattle.std.specs.Global.{Vec}
use Rattle.std.specs.Option.{option_and_then}
use Rattle.std.specs.List.{flat_map}
use Rattle.std.proofs.lemmas.Bool.{cases_lt}
use Rattle.record_core.specs.Bytes.{Encoding}
use Rattle.record_core.specs.Cells.{cell, AreRecords}
use Rattle.segment_core.specs.declared.format.Shape.{Shape}
use Rattle.segment_core.specs.Frame.{Run, Frame, Change, Shrink, text, frame_text, closed_gate}
use Rattle.segment_core.specs.Tally.{nothing, tally_from, tally_of, AreLegalFrom, AreLegal}
use Rattle.segment_core.specs.Raw.{cells_in, AreReadAs}
use Rattle.segment_core.proofs.Payload.{length-frame_text}
use Rattle.segment_core.proofs.Replaced.{slice_get-append_right}
use Rattle.segment_core.proofs.Raw.{length-cells_in, slice_get-cells_in}
use Rattle.beside_core.specs.declared.bookmark.Bookmark.{Bookmark}
use Rattle.beside_core.specs.declared.fault.LookFault.{LookFault}
use Rattle.beside_core.specs.declared.fault.LookFault.TheVariants.{Disk, Scan, NoRecord, TooFar, Memory}
use Rattle.beside_core.specs.declared.since.Since.TheVariants.{Grown, Lost}
use Rattle.beside_core.specs.declared.since.Loss.{Loss}
use Rattle.beside_core.specs.declared.since.Loss.TheVariants.{Changed, Shorter}
use Rattle.beside_core.specs.PensFile.{IsPensFile}
use Rattle.beside_core.specs.Replay.{replayed, vector_left}
use Rattle.beside_core.specs.Fault.{IsNoDamage}
use Rattle.beside_core.specs.Look.{LookedOn}
use Rattle.beside_core.specs.Bookmark.{LiesBehind}
use Rattle.beside_core.specs.declared.laying.Laid.{Laid}
use Rattle.beside_core.specs.declared.news.Edit.{Edit}
use Rattle.beside_core.specs.Edit.{IsEdited, loss_of}
use Rattle.beside_core.specs.Tail.{IsLossBy, BeginsWithLoss, Stands, AreTaken, ReplaysFrames}
use Rattle.beside_core.specs.Since.{DecodesTail, IsSinceAt, MayRefuse}
use Rattle.beside_core.specs.News.{IsNewsAt, MayRefuseNews, ReadsOn}
use Rattle.beside_core.specs.MayDiffer.{LiesInRuns}
use Rattle.beside_core.proofs.Tails.{covers_at}
use Rattle.beside_core.proofs.Walking.{text-append}
use Rattle.beside_core.proofs.Looked.{length-vector_left, legal_before}

-- records as their bytes are read as they are
pub are_read : {R : Type 0} (form : Encoding R) (n : ℕ) (bytes : List ℕ) (records : List R) → length records ≡ n → AreRecords form bytes records → AreReadAs form (cells_in form.width n bytes) records
are_read {R} form n bytes records long are = record { size = length-cells_in form.width n bytes ∙ sym long; each = each }
  where
    past : {X : Type 0} (xs : List X) (i : ℕ) → length xs ≤ i → slice_get xs i ≡ None
    past [] i le = refl
    past (x ∷ xs) zero le = absurd (omega (arith, le))
    past (x ∷ xs) (suc i) le = past xs i (omega (arith, le))

    each : (i : ℕ) → option_and_then form.value_of (slice_get (cells_in form.width n bytes) i) ≡ slice_get records i
    each i = elim (cases_lt i n) [
      | inl lt ↦ ap (option_and_then form.value_of) (slice_get-cells_in form.width n bytes i lt) ∙ are.each i (omega (arith, lt, long))
      | inr ge ↦ ap (option_and_then form.value_of) (past (cells_in form.width n bytes) i (omega (arith, ge, length-cells_in form.width n bytes))) ∙ sym (past records i (omega (arith, ge, long)))
    ]

pub none_came : (shape : Shape) (came : List Frame) → length (flat_map (frame_text shape.format) came) ≡ 0 → came ≡ []
none_came shape [] none = refl
none_came shape (frame ∷ came) none =
    absurd (omega (arith, none, length-append (frame_text shape.format frame) (flat_map (frame_text shape.format) came), length-frame_text shape.format frame))

-- what is refused but for what the file says may be
pub refused : {R : Type 0} (form : Encoding R) (shape : Shape) (frames : ℕ → List Frame) (from to : ℕ) (fault : LookFault) → IsNoDamage fault → MayRefuse form shape frames from to fault
refused form shape frames from to (Disk fault) clear = tt
refused form shape frames from to (Scan fault) clear = absurd clear
refused form shape frames from to (NoRecord position) clear = absurd clear
refused form shape frames from to TooFar clear = tt
refused form shape frames from to Memory clear = tt

-- what stands first, as a slice tells
pub first_none : {X : Type 0} (xs ys : List X) → xs ≡ ys → None ≡ slice_get xs 0 → ys ≡ []
first_none [] ys is told = sym is
first_none (x ∷ xs) ys is told = absurd cc

pub first_some : {X : Type 0} (xs ys : List X) (x : X) → xs ≡ ys → Some x ≡ slice_get xs 0 → ys ≡ x ∷ drop 1 ys
first_some [] ys x is told = absurd cc
first_some {X} (y ∷ xs) ys x is told = (let same : x ≡ y = cc in sym is ∙ ap (λ (zs : List X). y ∷ drop 1 zs) is ∙ ap (λ z. z ∷ drop 1 ys) (sym same))

-- ---- the text of a look

settled_by : (mark : Bookmark) (frames : ℕ → List Frame) (known : List Frame) (from to gate synced : ℕ) (bytes : List ℕ) → LiesBehind mark.shape known mark
    → (look : LookedOn mark.shape frames known from to gate bytes) → (mark.gate ≢ gate → to < synced) → look.came ≢ [] → look.moment < synced
settled_by mark frames known from to gate synced bytes lies look sync some =
    let other : mark.gate ≢ gate
    = λ is. some (none_came mark.shape look.came (omega (
      arith,
      is,
      lies.gate_is,
      look.gate_is,
      ap (λ (fs : List Frame). length (text mark.shape fs)) look.frames_are,
      ap length
          (text-append mark.shape known look.came),
      length-append (text mark.shape known) (flat_map (frame_text mark.shape.format) look.came),
    ))) in
    omega (arith, sync other, look.until)

pub reads_on : {R : Type 0} (form : Encoding R) (mark : Bookmark) (frames : ℕ → List Frame) (known : List Frame) (from to end gate synced : ℕ) (bytes : List ℕ) → mark.shape.width ≡ form.width
    → LiesBehind mark.shape known mark → LookedOn mark.shape frames known from to gate bytes → to ≤ end → (mark.gate ≢ gate → to < synced) → mark.gate + length bytes ≡ gate + 1
    → ReadsOn form frames known from end synced mark bytes
reads_on form mark frames known from to end gate synced bytes wide lies look le sync long = record {
  wide = wide;
  gate = gate;
  long = long;
  looked = record {
    moment = look.moment;
    since = look.since;
    until = omega (arith, look.until, le);
    came = look.came;
    frames_are = look.frames_are;
    gate_is = look.gate_is;
    reads = look.reads;
    text_is = look.text_is;
    many = look.many;
    legal = look.legal;
    tally_is = look.tally_is;
    vector_is = look.vector_is;
    others = look.others;
  };
  settled = settled_by mark frames known from to gate synced bytes lies look sync;
}

-- ---- what is answered of it

module _ {R : Type 0} (form : Encoding R) (mark : Bookmark) (held : ℕ → List ℕ) (frames : ℕ → List Frame) (known : List Frame) (file : IsPensFile mark.shape held frames) (lies : LiesBehind
    mark.shape known mark) (from to synced : ℕ) (bytes : List ℕ) (reads : ReadsOn form frames known from to synced mark bytes) where
  abbrev look : LookedOn mark.shape frames known from to reads.gate bytes
  look = reads.looked

  legal : AreLegalFrom mark.shape mark.tally look.reads
  legal = subst (λ t. AreLegalFrom mark.shape t look.reads) (sym lies.tally_is) look.legal

  -- the known vector is as long as the bookmark says
  base_is : length (vector_left form.width known) ≡ mark.tally.size
  base_is = subst (λ w. length (vector_left w known) ≡ mark.tally.size) reads.wide
      (sym (ap (λ t. t.size) lies.tally_is ∙ length-vector_left mark.shape known (legal_before mark.shape nothing known look.came (subst (λ fs. AreLegal mark.shape fs) look.frames_are
      (file.legal look.moment)))))

  vector_is : replayed form.width (vector_left form.width known) look.reads ≡ vector_left form.width (frames look.moment)
  vector_is = subst (λ w. replayed w (vector_left w known) look.reads ≡ vector_left w (frames look.moment)) reads.wide look.vector_is

  by : (loss : Loss) → IsLossBy mark.tally.size look.reads loss → IsLossBy (length (vector_left form.width known)) look.came loss
  by loss is = subst (λ n. IsLossBy n look.came loss) (sym base_is) (at loss is)
    where
      at : (one : Loss) → IsLossBy mark.tally.size look.reads one → IsLossBy mark.tally.size look.came one
      at (Changed i) (lt, runs, bytes', among, covers) = (lt, runs, bytes', look.others (Change runs bytes') (omega arith) among, covers)
      at (Shorter n) (lt, among) = (lt, look.others (Shrink n) (omega arith) among)

  lost : (loss : Loss) → IsLossBy mark.tally.size look.reads loss → IsSinceAt {R = R} form mark.shape frames known from to synced (Lost loss)
  lost loss is = record {
    moment = look.moment;
    begun = look.since;
    until = look.until;
    came = look.came;
    frames_are = look.frames_are;
    answer = by loss is;
    settled = reads.settled;
  }

  -- a change that brings no record is a loss
  pub lost_unread : (i : ℕ) → ReplaysFrames {R = R} form mark bytes (Err (NoRecord i)) → IsSinceAt {R = R} form mark.shape frames known from to synced (Lost (Changed i))
  lost_unread i replays =
      let why = replays look.reads look.text_is legal in
      let put = why.1 in
      lost (Changed i) (
        why.0,
        put.before ++ put.run ∷ put.behind,
        put.bytes,
        put.among,
        subst (λ n. LiesInRuns n (put.before ++ put.run ∷ put.behind)) (sym put.at) (covers_at 0 (put.before ++ put.run ∷ put.behind) (length put.before) put.run put.place (at_seam put.before put.run put.behind) put.inside),
      )
    where
      at_seam : (before : List Run) (run : Run) (behind : List Run) → slice_get (before ++ run ∷ behind) (length before) ≡ Some run
      at_seam [] run behind = refl
      at_seam (first ∷ before) run behind = at_seam before run behind

  pub replay_refused : (fault : LookFault) → ReplaysFrames {R = R} form mark bytes (Err fault) → MayRefuseNews form mark.shape frames from to fault
  replay_refused (Disk fault) replays = inl tt
  replay_refused (Scan fault) replays = absurd (replays look.reads look.text_is legal)
  replay_refused (NoRecord i) replays =
      let why = replays look.reads look.text_is legal in
      let put = why.1 in
      let came = look.others (Change (put.before ++ put.run ∷ put.behind) put.bytes) (omega arith) put.among in
      inr (
        i,
        refl,
        (
          look.moment,
          look.since,
          look.until,
          record {
            before = put.before;
            run = put.run;
            behind = put.behind;
            bytes = put.bytes;
            among = (
              known ++ came.0,
              came.1,
              look.frames_are ∙ ap (λ (fs : List Frame). known ++ fs) came.2 ∙ sym (append_assoc known came.0 (Change (put.before ++ put.run ∷ put.behind) put.bytes ∷ came.1)),
            );
            place = put.place;
            inside = put.inside;
            at = put.at;
            bad = put.bad;
          },
        ),
      )
  replay_refused TooFar replays = inl tt
  replay_refused Memory replays = inl tt

  pub replay_clear : (fault : LookFault) → ((i : ℕ) → fault ≡ NoRecord i → ⊥) → ReplaysFrames {R = R} form mark bytes (Err fault) → MayRefuse form mark.shape frames from to fault
  replay_clear (Disk fault) other replays = tt
  replay_clear (Scan fault) other replays = absurd (replays look.reads look.text_is legal)
  replay_clear (NoRecord i) other replays = absurd (other i refl)
  replay_clear TooFar other replays = tt
  replay_clear Memory other replays = tt

  module _ (laid : Laid R) (next : Bookmark) (count : ℕ) (replays : ReplaysFrames form mark bytes (Ok (laid, next, count))) where
    taken : AreTaken form mark look.reads laid next
    taken = replays look.reads look.text_is legal

    -- the vector of the moment
    stands : Stands form (vector_left form.width known) next.tally.size laid (vector_left form.width (frames look.moment))
    stands = subst (λ cells. Stands form (vector_left form.width known) next.tally.size laid cells) vector_is (taken.is (vector_left form.width known) base_is)

    lies_next : LiesBehind mark.shape (known ++ look.came) next
    lies_next = record {
      shape_is = taken.shape_is;
      gate_is = omega (
        arith,
        taken.gate_is,
        reads.long,
        ap length look.text_is,
        length-append (flat_map (frame_text mark.shape.format) look.reads) (closed_gate ∷ []),
        look.gate_is,
        ap (λ
            (fs : List Frame). length (text mark.shape fs)) look.frames_are,
      );
      tally_is = taken.tally_is ∙ ap (λ t. tally_from t look.reads) lies.tally_is ∙ look.tally_is ∙ ap tally_of look.frames_are;
    }

    pub news_are : (records : Vec R) → DecodesTail form laid.base laid.tail.items (Ok records)
        → IsNewsAt form mark.shape frames known from to synced (record { edits = laid.edits; records = records; next = next })
    news_are records decodes =
        let read = decodes (next.tally.size - laid.base) taken.is_tail.filled in
        record {
          moment = look.moment;
          begun = look.since;
          until = look.until;
          came = look.came;
          frames_are = look.frames_are;
          answer = record {
            lies = lies_next;
            front = stands.front;
            edited = stands.edited;
            cells = cells_in form.width (next.tally.size - laid.base) laid.tail.items;
            are = are_read form (next.tally.size - laid.base) laid.tail.items records.items read.0 read.1;
            vector_is = ap (vector_left form.width) (sym look.frames_are) ∙ stands.is;
          };
          settled = reads.settled;
        }

    -- a record that can't be read
    pub no_record : (fault : LookFault) → DecodesTail form laid.base laid.tail.items (Err fault) → MayRefuse form mark.shape frames from to fault
    no_record (Disk fault) decodes = absurd (decodes (next.tally.size - laid.base) taken.is_tail.filled)
    no_record (Scan fault) decodes = absurd (decodes (next.tally.size - laid.base) taken.is_tail.filled)
    no_record TooFar decodes = absurd (decodes (next.tally.size - laid.base) taken.is_tail.filled)
    no_record Memory decodes = tt
    no_record (NoRecord i) decodes =
        let bad = decodes (next.tally.size - laid.base) taken.is_tail.filled in
        let place : i - length stands.front ≡ bad.0 = omega (arith, bad.1, stands.long) in (
          look.moment,
          look.since,
          look.until,
          cell form.width laid.tail.items bad.0,
          ap (λ cells. slice_get cells i) stands.is
              ∙ slice_get-append_right stands.front (cells_in form.width (next.tally.size - laid.base) laid.tail.items) i (omega (arith, bad.1, stands.long))
              ∙ ap (slice_get (cells_in form.width (next.tally.size - laid.base) laid.tail.items)) place
              ∙ slice_get-cells_in form.width (next.tally.size - laid.base) laid.tail.items bad.0 bad.2,
          bad.3,
        )

    module _ (no_edits : laid.edits.items ≡ []) where
      -- the tail begins where it began
      same_base : laid.base ≡ mark.tally.size
      same_base = subst (λ edits. BeginsWithLoss mark.tally.size look.reads edits laid.base) no_edits taken.begins

      front_is : vector_left form.width known ≡ stands.front
      front_is = subst (λ edits. IsEdited form edits (vector_left form.width known) stands.front) no_edits stands.edited

      pub grown : (records : Vec R) → DecodesTail form mark.tally.size laid.tail.items (Ok records) → IsSinceAt form mark.shape frames known from to synced (Grown records next)
      grown records decodes =
          let read = subst (λ n. DecodesTail form n laid.tail.items (Ok records)) (sym same_base) decodes (next.tally.size - laid.base) taken.is_tail.filled in
          record {
            moment = look.moment;
            begun = look.since;
            until = look.until;
            came = look.came;
            frames_are = look.frames_are;
            answer = (
              lies_next,
              cells_in form.width (next.tally.size - laid.base) laid.tail.items,
              ap (vector_left form.width) (sym look.frames_are) ∙ stands.is
                  ∙ ap (λ (cells : List (List ℕ)). cells ++ cells_in form.width (next.tally.size - laid.base) laid.tail.items) (sym front_is),
              are_read form (next.tally.size - laid.base) laid.tail.items records.items read.0 read.1,
            );
            settled = reads.settled;
          }

      pub none_grown : (fault : LookFault) → DecodesTail form mark.tally.size laid.tail.items (Err fault) → MayRefuse form mark.shape frames from to fault
      none_grown fault decodes = no_record fault (subst (λ n. DecodesTail form n laid.tail.items (Err fault)) (sym same_base) decodes)

    pub lost_first : (edit : Edit R) (more : List (Edit R)) → laid.edits.items ≡ edit ∷ more → IsSinceAt {R = R} form mark.shape frames known from to synced (Lost (loss_of edit))
    lost_first edit more is = lost (loss_of edit) (subst (λ edits. BeginsWithLoss mark.tally.size look.reads edits laid.base) is taken.begins)
