-- Growths that are appended as they are read.
use Rattle.std.proofs.Common.{◌≡◌, ◌⊎◌, ℕ, zero, suc, ◌+◌, ◌-◌, ◌*◌, ◌^◌, ◌<◌, min, List, [], ◌∷◌, ◌++◌}
use Rattle.std.proofs.Common.{length, take, drop, Option, Result, Ok, Err, inl, inr, refl, sym, ap, subst, ◌∙◌, arith}
use Rattle.std.specs.Prelude.{MatchOption, MatchResult}
use Rattle.std.proofs.Math.Nat.{add-mul}
use Rattle.std.proofs.lemmas.List.{append_assoc, append-nil, length-append, length-map, length-take-le, take-append-drop}
use Rattle.record_core.specs.Bytes.{Encoding}
use Rattle.disk_core.specs.State.{State}
use Rattle.segment_core.specs.Written.{joined}
use Rattle.pen_core.specs.declared.fault.PenFault.{PenFault}
use Rattle.pen_core.specs.declared.fault.PenFault.TheVariants as pens
use Rattle.vault_core.specs.declared.fault.VaultFault.TheVariants.{Pen}
use Rattle.pen_core.specs.PenOf.{PenOf}
use Rattle.pen_core.specs.Pen.{IsKept, failed_calls}
use Rattle.pen_core.specs.Typed.{OpensTo}
use Rattle.pen_core.proofs.Typed.{MayOpen_typed}
use Rattle.text_core.specs.Text.{Spelling}
use Rattle.files_core.specs.declared.appended.Appended.{Appended}
use Rattle.files_core.specs.declared.ended.Ended.{Ended}
use Rattle.files_core.specs.declared.ended.Ended.TheVariants.{Done, OutputFailed}
use Rattle.files_core.specs.declared.ended.Ended.TheVariants as ends
use Rattle.files_core.specs.Ended.{EndsAs}
use Rattle.files_core.specs.declared.fault.FileFault.{FileFault}
use Rattle.files_core.specs.declared.fault.FileFault.TheVariants as files
use Rattle.files_core.proofs.Opened.{done_ends}
use Rattle.lines_core.specs.declared.batches.Rest.{Rest}
use Rattle.lines_core.specs.declared.batches.Rest.TheVariants.{More, Nothing, Refused, Unread}
use Rattle.lines_core.specs.Batches.{AreReadSo, IsBatch}
use Rattle.lines_core.specs.InputBlocks.{AreFirstBlocks, AreOfAllLines, AreOfFirstLines}
use Rattle.lines_core.proofs.Blocks.{counts_on}
use Rattle.lines_core.proofs.FirstBlocks.{counted_on, some_read, then_first}
use Rattle.load_core.specs.Groups.{IsCommitFault, IsPenOver, IsRowSettled, IsRowStop, OpensToFront, begun_by, row_part}
use Rattle.load_core.specs.Appending.{AreFirstGrowths, AreOfBlocks, GrowthsStand, HasAppendedAll, HasAppendedSoFar, IsAppendEnd, IsAppendFault, IsRestTold, fault_told}
use Rattle.load_core.proofs.PenOver.{front_all, joined_on}

-- ---- lists

take_none : {X : Type 0} (xs : List X) → take 0 xs ≡ []
take_none [] = refl
take_none (x ∷ xs) = refl

-- the element behind the first so many
next_of : {X : Type 0} (xs : List X) (n : ℕ) → n < length xs → (x : X) × (take 1 (drop n xs) ≡ x ∷ [])
next_of [] n less = absurd (omega (arith, less))
next_of (x ∷ xs) zero less = (x, ap (λ ys. x ∷ ys) (take_none xs))
next_of (x ∷ xs) (suc n) less = next_of xs n (omega (arith, less))

-- those of whole blocks, and the lines of more of them
pub lines_on : (most block told n more all : ℕ) → told ≡ min most (n * block) → all ≡ min most (told + more * block) → all ≡ min most ((n + more) * block)
lines_on most block told n more all is then =
    let both : (n + more) * block ≡ n * block + more * block = add-mul n more block in
    omega arith

-- growths before some, these, and those behind them are all
parts_of : {X : Type 0} (made row : List X) (n m : ℕ) → ((made ++ take n row) ++ take m (drop n row)) ++ drop m (drop n row) ≡ made ++ row
parts_of {X} made row n m =
    append_assoc (made ++ take n row) (take m (drop n row)) (drop m (drop n row)) ∙ ap (λ (xs : List X). (made ++ take n row) ++ xs) (take-append-drop m (drop n row))
    ∙ append_assoc made (take n row) (drop n row) ∙ ap (λ (xs : List X). made ++ xs) (take-append-drop n row)

-- ---- of which lines

module _ {R : Type 0} (spelling : Spelling R) (block : ℕ) (input : Option (List ℕ)) where
  -- the first of those that were read
  first_of : (left : Option (List ℕ)) (counted : ℕ) (rest : Rest) (growths behind all : List (List R)) → growths ++ behind ≡ all → AreReadSo spelling block input left counted rest all
      → AreFirstGrowths spelling block input growths
  first_of left counted rest growths behind all parts so = record { behind = behind; of = by rest (subst (λ gs. IsBatch spelling block input left gs so.count rest) (sym parts) so.read) }
    where
      by : (rest : Rest) → IsBatch spelling block input left (growths ++ behind) so.count rest
          → AreOfFirstLines spelling block input (growths ++ behind) ⊎ ((count : ℕ) × AreOfAllLines spelling block input (growths ++ behind) count)
      by More read = inl (left, read)
      by Nothing read = inr (so.count, read)
      by (Refused refusal) read = inl read
      by (Unread refusal) read = inl read

-- ---- what stands

module _ {R D : Type 0} (form : Encoding R) (keeps : D → Type 0) (states : D → List State) (disk : D) where
  module _ (pen : PenOf D) (appended : Appended) (kept : keeps pen.disk → IsKept (states pen.disk) pen) (width : form.width ≡ pen.shape.width) (size : appended.size ≡ pen.tally.size) where
    pub growths_stand : (made more : List (List R)) → appended.growths ≡ min (2 ^ 64 - 1) (length made) → (keeps pen.disk → IsPenOver form states disk pen made more)
        → keeps pen.disk → GrowthsStand form states disk pen.disk appended made more
    growths_stand made more growths over model =
        let it = over model in record {
          was = it.was;
          file = it.file;
          images = it.images;
          settled = λ image is.
              elim (MayOpen_typed form pen image (it.was ++ joined made) (it.was ++ joined (made ++ more)) width it.cells it.next ((kept model).images_open image is)) [
                | inl first ↦ none_more image (it.was ++ joined made) first
                | inr all ↦ front_all form (it.was ++ joined made) image more (subst (OpensTo form image) (sym (joined_on it.was made more)) all)
              ];
          size_is = size ∙ (kept model).size_is ∙ ap length it.cells.written ∙ length-map (it.was ++ joined made) form.bytes_of;
          growths_are = growths;
        }
      where
        none_more : (image : List ℕ) (list : List R) → OpensTo form image list → OpensToFront form list more image
        none_more image list opens = record {
          count = 0;
          known = omega arith;
          opens = subst (OpensTo form image) (sym (ap (λ (gs : List (List R)). list ++ joined gs) (take_none more) ∙ append-nil list)) opens;
        }

module _ {R D : Type 0} (form : Encoding R) (keeps : D → Type 0) (states : D → List State) where
  -- no growth yet
  pub none_so_far : (IsMade : List (List R) → Type 0) (block : ℕ) (pen : PenOf D) (appended : Appended) → IsMade []
      → appended ≡ record { growths = 0; lines = 0; size = pen.tally.size } → HasAppendedSoFar form keeps states IsMade block pen pen appended
  none_so_far IsMade block pen appended made is = record {
    made = [];
    over = λ disk before begin model. subst (λ (gs : List (List R)). IsPenOver form states disk pen gs []) (sym (append-nil before)) (begin model);
    records_are = made;
    size_is = ap (λ (a : Appended). a.size) is;
    growths_are = ap (λ (a : Appended). a.growths) is;
    lines_are = ap (λ (a : Appended). a.lines) is ∙ no_block;
  }
    where
      no_block : 0 ≡ min (2 ^ 64 - 1) (0 * block)
      no_block = omega arith

-- ---- a batch

-- A batch was read behind growths that are told, and the first of its growths were committed, and are told, behind those that stood.
pub record CommitsBatch {R D : Type 0} (form : Encoding R) (keeps : D → Type 0) (states : D → List State) (spelling : Spelling R) (block : ℕ) (input : Option (List ℕ))
    (start old new : PenOf D) (before after : Appended) (settled : ℕ) : Type 0 where
  pub coming : Option (List ℕ)
  pub left : Option (List ℕ)
  pub growths : List (List R)
  pub lines : ℕ
  pub rest : Rest
  pub read : IsBatch spelling block coming left growths lines rest
  pub so_far : HasAppendedSoFar form keeps states (AreFirstBlocks spelling block input coming) block start old before
  pub kept : keeps new.disk → IsKept (states new.disk) new
  pub width_is : form.width ≡ new.shape.width
  pub size_is : after.size ≡ new.tally.size
  pub growths_are : after.growths ≡ min (2 ^ 64 - 1) (before.growths + settled)
  pub lines_are : after.lines ≡ min (2 ^ 64 - 1) (before.lines + settled * block)

module _ {R D : Type 0} {form : Encoding R} {keeps : D → Type 0} {states : D → List State} {spelling : Spelling R} {block : ℕ} {input : Option (List ℕ)} {start : PenOf D} where
  module _ {old new : PenOf D} {before after : Appended} {settled : ℕ} (it : CommitsBatch form keeps states spelling block input start old new before after settled) where
    read_so : AreReadSo spelling block input it.left (min (2 ^ 64 - 1) (before.lines + it.lines)) it.rest (it.so_far.made ++ it.growths)
    read_so = counted_on spelling block input it.coming it.left it.so_far.made it.growths before.lines it.lines it.rest it.so_far.lines_are it.so_far.records_are it.read

    growths_on : (then : List (List R)) → settled ≡ length then → after.growths ≡ min (2 ^ 64 - 1) (length (it.so_far.made ++ then))
    growths_on then is = it.growths_are ∙ counts_on (2 ^ 64 - 1) before.growths (length it.so_far.made) settled it.so_far.growths_are
        ∙ ap (min (2 ^ 64 - 1)) (ap (λ n. length it.so_far.made + n) is ∙ sym (length-append it.so_far.made then))

    blocks_on : (then : List (List R)) → settled ≡ length then → AreOfBlocks block after (it.so_far.made ++ then)
    blocks_on then is = lines_on (2 ^ 64 - 1) block before.lines (length it.so_far.made) settled after.lines it.so_far.lines_are it.lines_are
        ∙ ap (λ n. min (2 ^ 64 - 1) (n * block)) (ap (λ n. length it.so_far.made + n) is ∙ sym (length-append it.so_far.made then))

    -- all of them were
    so_far_on : settled ≡ length it.growths → IsRowSettled form keeps states it.growths old new
        → HasAppendedSoFar form keeps states (AreReadSo spelling block input it.left (min (2 ^ 64 - 1) (before.lines + it.lines)) it.rest) block start new after
    so_far_on is row = record {
      made = it.so_far.made ++ it.growths;
      over = λ disk made begin model.
          subst (λ (gs : List (List R)). IsPenOver form states disk new gs []) (append_assoc made it.so_far.made it.growths)
          (row disk (made ++ it.so_far.made) (it.so_far.over disk made begin) model);
      records_are = read_so;
      size_is = it.size_is;
      growths_are = growths_on it.growths is;
      lines_are = blocks_on it.growths is;
    }

module _ {R D : Type 0} (form : Encoding R) (keeps : D → Type 0) (states : D → List State) (failures : D → ℕ) (spelling : Spelling R) (block : ℕ) (input : Option (List ℕ)) (start : PenOf D) where
  -- how it is over behind a batch of which all growths were committed
  abbrev pub IsOverBy : Option (List ℕ) → PenOf D → Appended → Option (Result (Unit {0}) FileFault) → Type 0
  IsOverBy left new told done = MatchOption done (HasAppendedSoFar form keeps states (AreFirstBlocks spelling block input left) block start new told)
      (λ end. (disk : D) → (keeps start.disk → IsPenOver form states disk start [] []) → IsAppendEnd form keeps states failures spelling block input disk new.disk told end)

  over_by : (left : Option (List ℕ)) (counted : ℕ) (rest : Rest) (new : PenOf D) (after told : Appended) (done : Option (Result (Unit {0}) FileFault))
      → (keeps new.disk → IsKept (states new.disk) new) → form.width ≡ new.shape.width
      → HasAppendedSoFar form keeps states (AreReadSo spelling block input left counted rest) block start new after → IsRestTold rest counted after told done
      → IsOverBy left new told done
  over_by left counted More new after told end kept width so_far is =
      subst (IsOverBy left new told) (sym is.0)
      (subst (HasAppendedSoFar form keeps states (AreFirstBlocks spelling block input left) block start new) (sym is.1) (record {
        made = so_far.made;
        over = so_far.over;
        records_are = so_far.records_are.read;
        size_is = so_far.size_is;
        growths_are = so_far.growths_are;
        lines_are = so_far.lines_are;
      }))
  over_by left counted Nothing new after told end kept width so_far is =
      subst (IsOverBy left new told) (sym is.0) (λ disk begin.
      subst (HasAppendedAll form keeps states spelling block input disk new.disk) (sym is.1) (
        so_far.made,
        growths_stand form keeps states disk new (record after { lines = counted }) kept width so_far.size_is so_far.made [] so_far.growths_are (so_far.over disk [] begin),
        (so_far.records_are.count, so_far.records_are.read, so_far.records_are.counted_is),
      ))
  over_by left counted (Refused refusal) new after told end kept width so_far is =
      subst (IsOverBy left new told) (sym is.1) (λ disk begin.
      subst (λ (a : Appended). IsAppendFault form keeps states failures spelling block input disk new.disk a (files.Input is.0)) (sym is.2) (
        so_far.made,
        growths_stand form keeps states disk new after kept width so_far.size_is so_far.made [] so_far.growths_are (so_far.over disk [] begin),
        so_far.lines_are,
        so_far.records_are.read,
      ))
  over_by left counted (Unread refusal) new after told end kept width so_far is =
      subst (IsOverBy left new told) (sym is.0) (λ disk begin.
      subst (λ (a : Appended). IsAppendFault form keeps states failures spelling block input disk new.disk a (files.Input refusal)) (sym is.1) (
        so_far.made,
        growths_stand form keeps states disk new after kept width so_far.size_is so_far.made [] so_far.growths_are (so_far.over disk [] begin),
        so_far.lines_are,
        so_far.records_are.read,
      ))

module _ {R D : Type 0} {form : Encoding R} {keeps : D → Type 0} {states : D → List State} {spelling : Spelling R} {block : ℕ} {input : Option (List ℕ)} {start : PenOf D} where
  module _ {old new : PenOf D} {before after : Appended} {settled : ℕ} (failures : D → ℕ) (it : CommitsBatch form keeps states spelling block input start old new before after settled) where
    pub batch_over : (told : Appended) (done : Option (Result (Unit {0}) FileFault)) → settled ≡ length it.growths → IsRowSettled form keeps states it.growths old new
        → IsRestTold it.rest (min (2 ^ 64 - 1) (before.lines + it.lines)) after told done → IsOverBy form keeps states failures spelling block input start it.left new told done
    batch_over told done is row rest =
        over_by form keeps states failures spelling block input start it.left (min (2 ^ 64 - 1) (before.lines + it.lines)) it.rest new after told done it.kept it.width_is (so_far_on it is row) rest

    -- ---- a group of them wasn't

    abbrev front : List (List R)
    front = take settled it.growths

    many : settled < length it.growths → settled ≡ length front
    many less = sym (length-take-le settled it.growths (omega arith))

    front_lines : settled < length it.growths → AreOfFirstLines spelling block input (it.so_far.made ++ front)
    front_lines less = then_first spelling block input it.coming it.so_far.made front it.so_far.records_are
        (some_read spelling block it.coming it.left it.growths it.lines settled it.rest (inl less) it.read)

    -- and the next ones
    next_lines : (m : ℕ) → AreFirstGrowths spelling block input ((it.so_far.made ++ front) ++ row_part it.growths settled m)
    next_lines m = first_of spelling block input it.left (min (2 ^ 64 - 1) (before.lines + it.lines)) it.rest ((it.so_far.made ++ front) ++ row_part it.growths settled m)
        (drop m (drop settled it.growths)) (it.so_far.made ++ it.growths) (parts_of it.so_far.made it.growths settled m) (read_so it)

    begun_lines : (calls m : ℕ) → AreFirstGrowths spelling block input ((it.so_far.made ++ front) ++ begun_by calls (row_part it.growths settled m))
    begun_lines zero m = subst (λ (gs : List (List R)). AreFirstGrowths spelling block input ((it.so_far.made ++ front) ++ gs)) (take_none (drop settled it.growths)) (next_lines 0)
    begun_lines (suc calls) m = next_lines m

    by_pen : (disk : D) → (keeps start.disk → IsPenOver form states disk start [] []) → (fault : PenFault) → IsCommitFault fault → IsRowStop form keeps states it.growths settled old new fault
        → IsAppendFault form keeps states failures spelling block input disk new.disk after (files.Vault (Pen fault))
    by_pen disk begin fault why stop = (
      it.so_far.made ++ front,
      begun_by (failed_calls fault) (row_part it.growths settled stop.group),
      growths_stand form keeps states disk new after it.kept it.width_is it.size_is (it.so_far.made ++ front)
          (begun_by (failed_calls fault) (row_part it.growths settled stop.group)) (growths_on it front (many stop.less))
          (stop.over disk it.so_far.made (it.so_far.over disk [] begin)),
      blocks_on it front (many stop.less),
      front_lines stop.less,
      begun_lines (failed_calls fault) stop.group,
      λ none. ap (λ n. begun_by n (row_part it.growths settled stop.group)) none,
      why,
    )

    too_long : (disk : D) → (keeps start.disk → IsPenOver form states disk start [] []) → IsRowStop form keeps states it.growths settled old new pens.OutOfRange
        → IsAppendFault form keeps states failures spelling block input disk new.disk after (fault_told after pens.OutOfRange)
    too_long disk begin stop =
        let next = next_of it.growths settled stop.less in
        let long : length (joined (row_part it.growths settled 1)) ≡ length next.0 = ap (λ (gs : List (List R)). length (joined gs)) next.1 ∙ ap length (append-nil next.0) in
        let past = stop.past refl in (
          it.so_far.made ++ front,
          growths_stand form keeps states disk new after it.kept it.width_is it.size_is (it.so_far.made ++ front) []
              (growths_on it front (many stop.less)) (stop.over disk it.so_far.made (it.so_far.over disk [] begin)),
          blocks_on it front (many stop.less),
          front_lines stop.less,
          record {
            grower_is = refl;
            line_is = refl;
            size_is = refl;
            fault_is = refl;
            next = next.0;
            next_is = subst (λ (gs : List (List R)). AreFirstGrowths spelling block input ((it.so_far.made ++ front) ++ gs)) next.1 (next_lines 1);
            past = omega (arith, past, long, it.size_is);
          },
        )

    stopped_by : (disk : D) → (keeps start.disk → IsPenOver form states disk start [] []) → (fault : PenFault) → IsRowStop form keeps states it.growths settled old new fault
        → IsAppendFault form keeps states failures spelling block input disk new.disk after (fault_told after fault)
    stopped_by disk begin pens.OutOfRange stop = too_long disk begin stop
    stopped_by disk begin fault stop = elim stop.why [ inl is ↦ absurd cc | inr why ↦ by_pen disk begin fault why stop ]

    pub batch_stopped : (disk : D) → (keeps start.disk → IsPenOver form states disk start [] []) → (fault : PenFault) (told : FileFault)
        → IsRowStop form keeps states it.growths settled old new fault → told ≡ fault_told after fault
        → IsAppendFault form keeps states failures spelling block input disk new.disk after told
    batch_stopped disk begin fault told stop is = subst (IsAppendFault form keeps states failures spelling block input disk new.disk after) (sym is) (stopped_by disk begin fault stop)

-- ---- the end

-- the disk of a pen is kept so
pub kept_on : {D : Type 0} (keeps : D → Type 0) (states : D → List State) (pen : PenOf D) (own : D) → own ≡ pen.disk → (keeps own → IsKept (states own) pen)
    → keeps pen.disk → IsKept (states pen.disk) pen
kept_on keeps states pen own same kept = subst (λ d. keeps d → IsKept (states d) pen) same kept

-- the end is told
pub told_end : {R D : Type 0} (form : Encoding R) (keeps : D → Type 0) (states : D → List State) (failures : D → ℕ) (spelling : Spelling R) (block : ℕ) (input : Option (List ℕ))
    (disk left : D) (appended : Appended) (done : Result (Unit {0}) FileFault) (ended : Ended)
    → MatchResult done (λ _. (ended ≡ Done) ⊎ (ended ≡ OutputFailed)) (λ fault. ended ≡ ends.Refused fault)
    → IsAppendEnd form keeps states failures spelling block input disk left appended done
    → EndsAs (HasAppendedAll form keeps states spelling block input disk left appended)
    (IsAppendFault form keeps states failures spelling block input disk left appended) ended
told_end form keeps states failures spelling block input disk left appended (Ok all) ended told has =
    done_ends (HasAppendedAll form keeps states spelling block input disk left appended) (IsAppendFault form keeps states failures spelling block input disk left appended) ended told has
told_end form keeps states failures spelling block input disk left appended (Err fault) ended told has =
    subst (EndsAs (HasAppendedAll form keeps states spelling block input disk left appended) (IsAppendFault form keeps states failures spelling block input disk left appended)) (sym told) has
