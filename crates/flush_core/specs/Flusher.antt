-- What contracts see of a flusher.
use Rattle.std.specs.Prelude.{◌≡◌, ◌⊎◌, ℕ, ◌+◌, ◌≤◌, List, [], ◌∷◌, ◌++◌, length, take, drop, map, Option, Some, None, option_to_list}
use Rattle.disk_core.specs.State.{State}
use Rattle.disk_core.specs.Moments.{LeftSince, clock}
use Rattle.record_core.specs.Bytes.{Encoding}
use Rattle.segment_core.specs.declared.tally.Tally.{Tally}
use Rattle.segment_core.specs.Tally.{after}
use Rattle.segment_core.specs.Raw.{AreCellsOf}
use Rattle.pen_core.specs.PenOf.{PenOf, JobOf}
use Rattle.pen_core.specs.Pen.{vector_after, MayOpen}
use Rattle.pen_core.specs.Typed.{OpensTo}
use Rattle.directory_core.specs.Chain.{total, grown_records}
use Rattle.directory_core.specs.Chain as chains
use Rattle.directory_core.specs.Known.{Known}
use Rattle.record_core.specs.Limits.{record_limit}
use Rattle.book_core.specs.declared.mark.Raise.{Raise}
use Rattle.book_core.specs.Marks.{MarkEnd, IsRaiseOf}
use Rattle.book_core.specs.Lists.{Phase, opening_of}

-- Its pen, the growths that it knows, its end of the mark, the records from before the phase and how many they are,
-- how many growths are in the file or in the group in hand, and how many of them are settled.
pub record FlusherOf (R D : Type 0) : Type 0 where
  pub pen : PenOf D
  pub pass : Known R
  pub mark : MarkEnd
  pub opening : List R
  pub before : ℕ
  pub taken : ℕ
  pub settled : ℕ

-- the records from before the phase, and those of the first n growths that it knows
abbrev pub list_to : {R D : Type 0} → FlusherOf R D → ℕ → List R
list_to f n = f.opening ++ grown_records (take n f.pass.entries)

-- the records of each growth that it knows and hasn't taken
abbrev pub untaken : {R D : Type 0} → FlusherOf R D → List (List R)
untaken f = map (λ e. e.records) (drop f.taken f.pass.entries)

-- the records that the cells are read as, those that are none left out
abbrev pub read_as : {R : Type 0} → Encoding R → List (List ℕ) → List R
read_as form [] = []
read_as form (cell ∷ cells) = option_to_list (form.value_of cell) ++ read_as form cells

-- what contracts see of one that has these
abbrev pub flusher_of : {R D : Type 0} → Encoding R → PenOf D → Known R → MarkEnd → ℕ → ℕ → ℕ → FlusherOf R D
flusher_of form pen pass mark before taken settled = record {
  pen = pen;
  pass = pass;
  mark = mark;
  opening = read_as form (take before pen.vector);
  before = before;
  taken = taken;
  settled = settled;
}

-- ---- what a crash may leave

-- The image opens to the records from before the phase and the first growths that it knows, those that were settled
-- among them.
pub record OpensToFirst {R D : Type 0} (form : Encoding R) (settled : ℕ) (f : FlusherOf R D) (image : List ℕ) : Type 0 where
  pub count : ℕ
  pub at_least : settled ≤ count
  pub known : count ≤ length f.pass.entries
  pub opens : OpensTo form image (list_to f count)

-- What the mark told by these raises stands: whatever a crash at some moment since a raise might have left opens to the
-- records from before the phase and the first growths, so many of them at least as the raise told.
abbrev pub ToldIsLeft : {R D : Type 0} → Encoding R → List State → FlusherOf R D → List Raise → Type 0
ToldIsLeft form states f raises = (raise : Raise) → IsRaiseOf raises raise → (image : List ℕ) → LeftSince states raise.at image → OpensToFirst form raise.count f image

-- each of these raises was made at that moment or before
abbrev pub AreRaisedBy : ℕ → List Raise → Type 0
AreRaisedBy moment raises = (raise : Raise) → IsRaiseOf raises raise → raise.at ≤ moment

-- ---- what holds of one

-- what the frames leave once the job in hand is done
abbrev pub tally_with : Tally → Option JobOf → Tally
tally_with tally None = tally
tally_with tally (Some job) = after tally job.frame

-- The file has the records from before the phase and the growths that are settled, and with the job in hand those
-- that are taken. The counts say so whatever the disk, the records where it keeps the model.
pub record IsFlusher {R D : Type 0} (keeps : Type 0) (form : Encoding R) (f : FlusherOf R D) : Type 0 where
  pub one_width : form.width ≡ f.pen.shape.width
  pub told_settled : f.mark.told.count ≤ f.settled
  pub settled_taken : f.settled ≤ f.taken
  pub taken_known : f.taken ≤ length f.pass.entries
  pub idle_settled : f.pen.job ≡ None → f.taken ≡ f.settled
  pub in_limit : f.before + f.pass.of.limit ≤ record_limit
  pub size_is : f.pen.tally.size ≡ f.before + total (take f.settled f.pass.entries)
  pub size_then : (tally_with f.pen.tally f.pen.job).size ≡ f.before + total (take f.taken f.pass.entries)
  pub opening_whole : keeps → length f.opening ≡ f.before
  pub file_is : keeps → AreCellsOf form f.pen.vector (list_to f f.settled)
  pub file_then : keeps → AreCellsOf form (vector_after f.pen) (list_to f f.taken)

-- a raise told of growths that are settled, and its time, by the disk's clock, has come
pub record IsPastRaise {R D : Type 0} (states : List State) (f : FlusherOf R D) (raise : Raise) : Type 0 where
  pub settled : raise.count ≤ f.settled
  pub past : raise.at ≤ clock states

-- what its mark told is settled, and stands
pub record HasTold {R D : Type 0} (keeps : Type 0) (states : List State) (form : Encoding R) (f : FlusherOf R D) : Type 0 where
  pub past : (raise : Raise) → IsRaiseOf f.mark.raises raise → IsPastRaise states f raise
  pub left : keeps → ToldIsLeft form states f f.mark.raises

-- it is of that phase
pub record IsFlusherOf {R D : Type 0} (keeps : Type 0) (live : Phase R) (f : FlusherOf R D) : Type 0 where
  pub directory : f.pass.of ≡ live.directory
  pub mark : f.mark.of ≡ live.mark
  pub before : f.before ≡ length (opening_of live)
  pub opening : keeps → f.opening ≡ opening_of live

-- ---- what a crash may leave now

-- the settled ones among them
abbrev pub OpensToSettled : {R D : Type 0} → Encoding R → FlusherOf R D → List ℕ → Type 0
OpensToSettled form f image = OpensToFirst form f.settled f image

-- The image opens to what the pen says, its vector or that with its job: in growths, to just those that are settled or,
-- with a group in hand, to just those that are taken.
pub record OpensToJob {R D : Type 0} (form : Encoding R) (f : FlusherOf R D) (image : List ℕ) : Type 0 where
  pub pen_opens : MayOpen f.pen image
  pub kept : OpensToSettled form f image
  pub just : (kept.count ≡ f.settled) ⊎ (kept.count ≡ f.taken)

-- ---- what a call leaves as it is

-- nothing has changed but the pen and what is settled
pub record SameGrowths {R D : Type 0} (old new : FlusherOf R D) : Type 0 where
  pub pass_same : new.pass ≡ old.pass
  pub mark_same : new.mark ≡ old.mark
  pub before_same : new.before ≡ old.before
  pub taken_same : new.taken ≡ old.taken

-- nothing has changed but what it knows, and it knows no less
pub record FlusherLearns {R D : Type 0} (old new : FlusherOf R D) : Type 0 where
  pub begins : chains.IsPrefix old.pass.entries new.pass.entries
  pub of_same : new.pass.of ≡ old.pass.of
  pub pen_same : new.pen ≡ old.pen
  pub mark_same : new.mark ≡ old.mark
  pub opening_same : new.opening ≡ old.opening
  pub before_same : new.before ≡ old.before
  pub taken_same : new.taken ≡ old.taken
  pub settled_same : new.settled ≡ old.settled

-- From one to the other: of the same phase, it knows no less and has settled no less.
pub record FlusherGoesOn {R D : Type 0} (keeps : Type 0) (old new : FlusherOf R D) : Type 0 where
  pub begins : chains.IsPrefix old.pass.entries new.pass.entries
  pub of_same : new.pass.of ≡ old.pass.of
  pub mark_of_same : new.mark.of ≡ old.mark.of
  pub before_same : new.before ≡ old.before
  pub no_less_taken : old.taken ≤ new.taken
  pub no_less_settled : old.settled ≤ new.settled
  pub opening_same : keeps → new.opening ≡ old.opening
