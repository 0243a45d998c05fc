-- Growths that are copied into a new file.
use Rattle.std.proofs.Common.{◌≡◌, ℕ, ◌+◌, ◌-◌, ◌*◌, ◌≤◌, ◌<◌, ◌^◌, min, List, Bool, false, [], ◌∷◌}
use Rattle.std.proofs.Common.{◌++◌, length, take, drop, Option, None, inl, inr, refl, sym, ap, subst, ◌∙◌, arith, length-append, append-nil}
use Rattle.std.specs.Prelude.{MatchOption, nat_le, nat_lt}
use Rattle.std.specs.Option.{is_some}
use Rattle.std.proofs.lemmas.Nat.{mul-le}
use Rattle.std.proofs.lemmas.Bool.{leb-true, leb-false, le-ltb}
use Rattle.std.proofs.lemmas.List.{take_all, length-drop, length-take}
use Rattle.record_core.specs.Bytes.{Encoding}
use Rattle.disk_core.specs.State.{now}
use Rattle.disk_core.specs.Moments.{LeavesOnly, clock}
use Rattle.disk_core.proofs.JoinedMoments.{LeavesOnly-start, LeavesOnly-join, LeavesOnly-weaker}
use Rattle.segment_core.specs.declared.format.Format.{Format}
use Rattle.segment_core.specs.Shape.{limit_of, shape_of}
use Rattle.segment_core.specs.Frame.{Frame}
use Rattle.segment_core.specs.Tally.{after}
use Rattle.segment_core.specs.declared.tally.Tally.{Tally}
use Rattle.segment_core.specs.Raw.{AreCellsOf}
use Rattle.segment_core.specs.Written.{joined, group_frame, payload_len}
use Rattle.segment_core.proofs.Payload.{length-frame_text}
use Rattle.segment_core.proofs.Written.{length-group_frame}
use Rattle.pen_core.specs.declared.fault.PenFault.{PenFault}
use Rattle.pen_core.specs.declared.fault.PenFault.TheVariants as faults
use Rattle.pen_core.specs.Births.{IsNew, IsEmpty}
use Rattle.pen_core.specs.PenOf.{PenOf, JobOf}
use Rattle.pen_core.specs.Pen.{MayOpen, IsKept, IsUnchanged, BeginsFrame, CountsDone, vector_after, log_left, failed_calls}
use Rattle.pen_core.specs.Refusals.{first_refusal, IsRefusal, group_lines, is_full, fold_len}
use Rattle.pen_core.specs.Settled.{IsLogSettled, IsLogFault}
use Rattle.pen_core.specs.Step.{steps_left}
use Rattle.pen_core.proofs.Typed.{MayOpen_typed, MayOpen_rest}
use Rattle.vault_core.specs.Upgrading.{HasWritten, IsCopyStop, IsFilledBehind, OpensToCopied, copied, gate_behind, growth_count}
use Rattle.vault_core.specs.Vault.{OpensToEither}
use Rattle.vault_core.proofs.Devices.{Device}
use Rattle.vault_core.proofs.Commands.{passes}
use Rattle.vault_core.proofs.CopyCounts.{count_above, count_is, gate_more, copied_more, left_more, skip, last, steps_left-most}

-- ---- the pen between two growths

-- The first so many growths stand in the file, and these records are left.
pub record Writes {R D : Type 0} (format : Format) (form : Encoding R) (device : Device D) (piece : ℕ) (records : List R) (old new : PenOf D) (rest : List R) (growths : ℕ) : Type 0 where
  pub some : 1 ≤ piece
  pub fits : 8 + piece * form.width ≤ limit_of format
  pub few : length records ≤ 2 ^ 32
  pub written : HasWritten format form piece records growths new
  pub within : growths * piece < length records + piece
  pub rest_is : rest ≡ drop (growths * piece) records
  pub cells : device.keeps new.disk → AreCellsOf form new.vector (copied piece records growths)
  pub images : device.keeps new.disk → LeavesOnly (device.states old.disk) (device.states new.disk) (OpensToCopied form piece records)
  pub time : clock (device.states new.disk) ≡ clock (device.states old.disk) + growths * 4
  pub no_fault : device.faults new.disk ≡ device.faults old.disk
  pub model : device.keeps new.disk → device.keeps old.disk

module _ {R D : Type 0} (format : Format) (form : Encoding R) (device : Device D) (piece : ℕ) (records : List R) where
  -- none yet
  pub writes_none : (pen : PenOf D) → 1 ≤ piece → 8 + piece * form.width ≤ limit_of format → length records ≤ 2 ^ 32
      → IsNew (shape_of format form) pen → (device.keeps pen.disk → IsEmpty pen) → (device.keeps pen.disk → IsKept (device.states pen.disk) pen)
      → Writes format form device piece records pen pen records 0
  writes_none pen some fits few new empty kept = record {
    some = some;
    fits = fits;
    few = few;
    written = record {
      shape_is = new.shape_is;
      tally_is = new.tally_is ∙ ap (λ n. let t : Tally = record { size = length (take n records); changes = 0; folded = 0 } in t) (sym zero_is);
      gate_is = new.gate_is ∙ first_gate ∙ ap (λ n. gate_behind form.width 0 (length (take n records))) (sym zero_is);
      no_job = new.no_job;
      no_fold = new.no_fold;
      whole = new.whole;
    };
    within = omega (arith, some);
    rest_is = ap (λ n. drop n records) (sym zero_is);
    cells = cells;
    images = λ now. LeavesOnly-start (device.states pen.disk) (OpensToCopied form piece records) (λ image is. (
      0,
      MayOpen_rest form pen image (copied piece records 0) (sym (ap (λ s. s.width) new.shape_is)) new.no_job (cells now) ((kept now).images_open image is),
    ));
    time = omega arith;
    no_fault = refl;
    model = λ now. now;
  }
    where
      zero_is : 0 * piece ≡ 0
      zero_is = omega arith

      first_gate : 11 ≡ gate_behind form.width 0 (length (take 0 records))
      first_gate = omega arith

      cells : device.keeps pen.disk → AreCellsOf form pen.vector (copied piece records 0)
      cells kept' = subst (λ n. AreCellsOf form pen.vector (take n records)) (sym zero_is) (record { written = (empty kept').vector_is; read_again = tt })

-- The next chunk of the records that are left is taken.
pub record Takes {R D : Type 0} (format : Format) (form : Encoding R) (device : Device D) (piece : ℕ) (records : List R)
    (old pen : PenOf D) (chunk left : List R) (growths : ℕ) : Type 0 where
  pub rest : List R
  pub so_far : Writes format form device piece records old pen rest growths
  pub parts : rest ≡ chunk ++ left
  pub size : length chunk ≡ min piece (length rest)
  pub more : 0 < length rest

pub takes : {R D : Type 0} {format : Format} {form : Encoding R} {device : Device D} {piece : ℕ} {records : List R}
    {old pen : PenOf D} {rest : List R} {growths : ℕ} → Writes format form device piece records old pen rest growths
    → (chunk left : List R) (most : ℕ) → most ≡ piece → rest ≡ chunk ++ left → length chunk ≡ min most (length rest) → 0 < length rest
    → Takes format form device piece records old pen chunk left growths
takes {rest = rest} so_far chunk left most is parts size more =
    record { rest = rest; so_far = so_far; parts = parts; size = size ∙ ap (λ n. min n (length rest)) is; more = more }

module _ {R D : Type 0} {format : Format} {form : Encoding R} {device : Device D} {piece : ℕ} {records : List R}
    {old pen : PenOf D} {chunk left : List R} {growths : ℕ} (taken : Takes format form device piece records old pen chunk left growths) where
  before : growths * piece < length records
  before = let is = ap length taken.so_far.rest_is ∙ length-drop (growths * piece) records in omega (arith, is, taken.more)

  one : joined (chunk ∷ []) ≡ chunk
  one = append-nil chunk

  list_is : copied piece records (growths + 1) ≡ copied piece records growths ++ chunk
  list_is = copied_more piece records taken.rest chunk left growths taken.so_far.rest_is taken.parts taken.size

  long : length (copied piece records (growths + 1)) ≡ length (copied piece records growths) + length chunk
  long = ap length list_is ∙ length-append (copied piece records growths) chunk

  pub chunk_some : 0 < length chunk
  chunk_some = omega (arith, taken.size, taken.more, taken.so_far.some)

  -- ---- refused

  abbrev full : Bool
  full = is_full pen (payload_len form.width (chunk ∷ []))

  abbrev past : Bool
  past = nat_lt (limit_of pen.shape.format) (payload_len form.width (chunk ∷ []))

  abbrev outside : Bool
  outside = nat_lt (2 ^ 32) (pen.tally.size + length (joined (chunk ∷ [])))

  abbrev from_full : List (Bool × PenFault)
  from_full = (full, faults.FileFull) ∷ []

  abbrev from_past : List (Bool × PenFault)
  from_past = (past, faults.TooLarge) ∷ from_full

  abbrev from_outside : List (Bool × PenFault)
  from_outside = (outside, faults.OutOfRange) ∷ from_past

  abbrev from_busy : List (Bool × PenFault)
  from_busy = (is_some pen.job, faults.Busy) ∷ from_outside

  abbrev lines : List (Bool × PenFault)
  lines = group_lines pen (length (joined (chunk ∷ []))) (payload_len form.width (chunk ∷ []))

  payload : payload_len form.width (chunk ∷ []) ≡ 8 + length chunk * form.width
  payload = ap (λ (ls : List R). 4 + 1 * 4 + length ls * form.width) one ∙ omega arith

  gate_next : pen.gate + (6 + payload_len form.width (chunk ∷ [])) ≡ gate_behind form.width (growths + 1) (length (copied piece records (growths + 1)))
  gate_next =
      ap (λ n. n + (6 + payload_len form.width (chunk ∷ []))) taken.so_far.written.gate_is
      ∙ ap (λ n. gate_behind form.width growths (length (copied piece records growths)) + (6 + n)) payload
      ∙ gate_more form.width growths (length (copied piece records growths)) (length chunk)
      ∙ ap (gate_behind form.width (growths + 1)) (sym long)

  full_is : full ≡ nat_le (2 ^ 48) (gate_behind form.width (growths + 1) (length (copied piece records (growths + 1))))
  full_is =
      ap (λ fold. nat_le (2 ^ 48) (pen.gate + (6 + payload_len form.width (chunk ∷ [])) + fold_len fold)) taken.so_far.written.no_fold
      ∙ ap (nat_le (2 ^ 48)) (omega (arith, gate_next))

  no_others : (fault : PenFault) → IsRefusal lines fault → IsRefusal from_full fault
  no_others fault why =
      skip past faults.TooLarge from_full fault fitting (skip outside faults.OutOfRange from_past fault inside
      (skip (is_some pen.job) faults.Busy from_outside fault (ap is_some taken.so_far.written.no_job) (skip pen.broken faults.Broken from_busy fault taken.so_far.written.whole why)))
    where
      fitting : past ≡ false
      fitting =
          ap (λ s. nat_lt (limit_of s.format) (payload_len form.width (chunk ∷ []))) taken.so_far.written.shape_is
          ∙ le-ltb (limit_of format) (payload_len form.width (chunk ∷ [])) (
          let product = mul-le (length chunk) form.width piece form.width (omega (arith, taken.size)) (omega arith) in
          omega (arith, payload, product, taken.so_far.fits))

      inside : outside ≡ false
      inside = le-ltb (2 ^ 32) (pen.tally.size + length (joined (chunk ∷ []))) (
          let now = ap (λ t. t.size) taken.so_far.written.tally_is in
          let here = ap length one in
          let all = length-take ((growths + 1) * piece) records in
          omega (arith, now, here, long, all, taken.so_far.few))

  not_filled : full ≡ false → IsFilledBehind form piece records growths → ⊥
  not_filled room filled = let below = leb-false (2 ^ 48) _ (sym full_is ∙ room) in omega (arith, below, filled)

  pub refused_stop : (new : PenOf D) → IsUnchanged pen new → (device.keeps new.disk → IsKept (device.states new.disk) new) → (fault : PenFault) → IsRefusal lines fault
      → (calls : ℕ) → calls ≡ growths * 4 → IsCopyStop form (device.keeps new.disk) (now (device.states new.disk)) piece records calls fault
  refused_stop new same kept fault why calls is = record {
    growths = growths;
    opens = λ here image is. inl (
        MayOpen_rest form new image (copied piece records growths) (sym (ap (λ s. s.width) (same.shape_same ∙ taken.so_far.written.shape_is)))
        (same.job_same ∙ taken.so_far.written.no_job)
        (subst (λ cells. AreCellsOf form cells (copied piece records growths)) (sym same.file_same.vector_same) (taken.so_far.cells (subst device.keeps same.disk_same here)))
        ((kept here).images_open image is));
    before = count_above piece (length records) growths taken.so_far.some before;
    why = elim (last full faults.FileFull fault (no_others fault why)) [
      | inl filled ↦ inl (filled.1, leb-true (2 ^ 48) _ (sym full_is ∙ filled.0), is)
      | inr none ↦ inr (not_filled none.0, inl (none.1, is))
    ];
  }

  -- ---- begun

  module _ (mid new : PenOf D) (begun : BeginsFrame (group_frame form (chunk ∷ [])) pen mid) (allowed : first_refusal lines ≡ None)
      (next : (list : List R) → AreCellsOf form pen.vector list → AreCellsOf form (vector_after mid) (list ++ joined (chunk ∷ [])))
      (images : device.keeps new.disk → LeavesOnly (device.states mid.disk) (device.states new.disk) (MayOpen mid)) (model : device.keeps new.disk → device.keeps mid.disk) where
    was : device.keeps new.disk → device.keeps pen.disk
    was now = subst device.keeps begun.disk_same (model now)

    pub begun_model : device.keeps new.disk → device.keeps old.disk
    begun_model now = taken.so_far.model (was now)

    left_is : log_left mid.job ≡ 4
    left_is = ap log_left begun.job_is

    same_clock : clock (device.states mid.disk) ≡ clock (device.states pen.disk)
    same_clock = ap (λ d. clock (device.states d)) begun.disk_same

    cells_next : device.keeps pen.disk → AreCellsOf form (vector_after mid) (copied piece records (growths + 1))
    cells_next now =
        subst (AreCellsOf form (vector_after mid)) (ap (λ (ls : List R). copied piece records growths ++ ls) one ∙ sym list_is)
        (next (copied piece records growths) (taken.so_far.cells now))

    -- the growths that stand in the file, or one more
    one_more : device.keeps new.disk → (image : List ℕ) → MayOpen mid image → OpensToEither form (copied piece records growths) (copied piece records (growths + 1)) image
    one_more now image opens =
        MayOpen_typed form mid image (copied piece records growths) (copied piece records (growths + 1))
        (sym (ap (λ s. s.width) (begun.shape_same ∙ taken.so_far.written.shape_is)))
        (subst (λ cells. AreCellsOf form cells (copied piece records growths)) (sym begun.file_same.vector_same) (taken.so_far.cells (was now)))
        (cells_next (was now)) opens

    either : device.keeps new.disk → (image : List ℕ) → MayOpen mid image → OpensToCopied form piece records image
    either now image opens = elim (one_more now image opens) [
      | inl first ↦ (growths, first)
      | inr second ↦ (growths + 1, second)
    ]

    pub begun_images : device.keeps new.disk → LeavesOnly (device.states old.disk) (device.states new.disk) (OpensToCopied form piece records)
    begun_images now =
        LeavesOnly-join (device.states old.disk) (device.states pen.disk) (device.states new.disk) (OpensToCopied form piece records) (taken.so_far.images (was now))
        (LeavesOnly-weaker (device.states pen.disk) (device.states new.disk) (MayOpen mid) (OpensToCopied form piece records) (either now)
        (subst (λ (d : D). LeavesOnly (device.states d) (device.states new.disk) (MayOpen mid)) begun.disk_same (images now)))

    pub begun_faults : (n : ℕ) → device.faults new.disk ≡ device.faults mid.disk + n → device.faults new.disk ≡ device.faults old.disk + n
    begun_faults n is = is ∙ ap (λ d. device.faults d + n) begun.disk_same ∙ ap (λ k. k + n) taken.so_far.no_fault

    -- a call of its commit failed
    pub stopped_stop : (fault : PenFault) → IsLogFault mid new fault
        → clock (device.states new.disk) + log_left new.job ≡ clock (device.states mid.disk) + log_left mid.job + failed_calls fault
        → IsCopyStop form (device.keeps new.disk) (now (device.states new.disk)) piece records (clock (device.states new.disk) - clock (device.states old.disk)) fault
    stopped_stop fault why time = elim why [
      | inl barred ↦ (let yes = barred.1 in let whole = begun.broken_same ∙ taken.so_far.written.whole in absurd cc)
      | inr at ↦ record {
        growths = growths;
        opens = λ here image is. one_more here image ((images here).newest image is);
        before = count_above piece (length records) growths taken.so_far.some before;
        why = inr (
          not_filled not_full,
          inr (
            at.1,
            at.4,
            (
                let here : log_left new.job ≡ steps_left at.1 = ap log_left at.5.job_is in
                let failed : failed_calls fault ≡ 1 = ap failed_calls at.4 in
                let most = steps_left-most at.1 in
                let past = taken.so_far.time in
                omega (arith, time, here, failed, most, past, left_is, same_clock)),
          ),
        );
      }
    ]
      where
        not_full : full ≡ false
        not_full =
            let whole = passes pen.broken faults.Broken from_busy allowed in
            let idle = passes (is_some pen.job) faults.Busy from_outside whole.1 in
            let inside = passes outside faults.OutOfRange from_past idle.1 in
            (passes full faults.FileFull [] (passes past faults.TooLarge from_full inside.1).1).0

    -- all of them succeeded
    module _ (settled : IsLogSettled mid new) (still : new.broken ≡ false) (file : device.keeps new.disk → new.vector ≡ vector_after mid)
        (time : clock (device.states new.disk) ≡ clock (device.states mid.disk) + log_left mid.job) (calls : device.faults new.disk ≡ device.faults mid.disk) where
      abbrev frame : Frame
      frame = group_frame form (chunk ∷ [])

      counts : CountsDone frame mid new
      counts = subst (λ (o : Option JobOf). MatchOption o (new ≡ mid) (λ job. CountsDone job.frame mid new)) begun.job_is settled

      pub writes_more : ((r : R) → length (form.bytes_of r) ≡ form.width) → Writes format form device piece records old new left (growths + 1)
      writes_more wide = record {
        some = taken.so_far.some;
        fits = taken.so_far.fits;
        few = taken.so_far.few;
        written = record {
          shape_is = counts.shape_same ∙ begun.shape_same ∙ taken.so_far.written.shape_is;
          tally_is = counts.tally_is ∙ ap (λ t. after t frame) (begun.tally_same ∙ taken.so_far.written.tally_is)
              ∙ ap (λ n. let t : Tally = record { size = n; changes = 0; folded = 0 } in t) (omega (arith, long));
          gate_is = (
              let grown = counts.gate_is in
              let text = length-frame_text mid.shape.format frame in
              let bytes = length-group_frame mid.shape.format form (chunk ∷ []) wide in
              let same = begun.gate_same in
              omega (arith, grown, text, bytes, same, gate_next));
          no_job = counts.job_done;
          no_fold = counts.fold_is ∙ begun.fold_same ∙ taken.so_far.written.no_fold;
          whole = still;
        };
        within = omega (arith, before);
        rest_is = left_more piece records taken.rest chunk left growths taken.so_far.rest_is taken.parts taken.size;
        cells = λ now. subst (λ cells. AreCellsOf form cells (copied piece records (growths + 1))) (sym (file now)) (cells_next (was now));
        images = begun_images;
        time = (let past = taken.so_far.time in omega (arith, time, left_is, same_clock, past));
        no_fault = calls ∙ ap device.faults begun.disk_same ∙ taken.so_far.no_fault;
        model = begun_model;
      }

-- ---- none is left

module _ {R D : Type 0} {format : Format} {form : Encoding R} {device : Device D} {piece : ℕ} {records : List R}
    {old new : PenOf D} {rest : List R} {growths : ℕ} (so_far : Writes format form device piece records old new rest growths) (none : length rest ≡ 0) where
  all : length records ≤ growths * piece
  all = let is = ap length so_far.rest_is ∙ length-drop (growths * piece) records in omega (arith, is, none)

  count : growths ≡ growth_count piece (length records)
  count = count_is piece (length records) growths so_far.some all so_far.within

  pub writes_all : HasWritten format form piece records (growth_count piece (length records)) new
  writes_all = subst (λ n. HasWritten format form piece records n new) count so_far.written

  pub writes_cells : device.keeps new.disk → AreCellsOf form new.vector records
  writes_cells now = subst (AreCellsOf form new.vector) (take_all (growths * piece) records all) (so_far.cells now)

  pub writes_time : clock (device.states new.disk) ≡ clock (device.states old.disk) + growth_count piece (length records) * 4
  writes_time = so_far.time ∙ ap (λ n. clock (device.states old.disk) + n * 4) count
