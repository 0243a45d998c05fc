-- A new file, from its creation on.
use Rattle.std.proofs.Common.{get_or, Ok, Err, ◌≡◌, ℕ, ◌+◌, ◌*◌, ◌-◌, ◌≤◌, List, [], ◌∷◌, length, take, inl, inr, refl, sym, ap, subst, ◌∙◌, arith, append-nil}
use Rattle.std.specs.Global.{Vec}
use Rattle.std.proofs.lemmas.List.{take_all}
use Rattle.std.proofs.lemmas.Grind.{div_ceil_times}
use Rattle.record_core.specs.Bytes.{Encoding}
use Rattle.disk_core.specs.State.{State, now}
use Rattle.disk_core.specs.Calls.{bytes_of}
use Rattle.disk_core.specs.Moments.{LeavesOnly, clock}
use Rattle.disk_core.proofs.JoinedMoments.{LeavesOnly-before, Follows-later}
use Rattle.segment_core.specs.declared.format.Format.{Format}
use Rattle.segment_core.specs.declared.format.Shape.{Shape}
use Rattle.segment_core.specs.Shape.{limit_of, shape_of}
use Rattle.segment_core.specs.Raw.{AreCellsOf}
use Rattle.segment_core.specs.Written.{joined}
use Rattle.pen_core.specs.declared.fault.PenFault.{PenFault}
use Rattle.pen_core.specs.declared.fault.PenFault.TheVariants as faults
use Rattle.pen_core.specs.declared.step.PenStep.{PenStep}
use Rattle.pen_core.specs.declared.step.PenStep.TheVariants.{Body, BodySync, Gate, GateSync}
use Rattle.pen_core.specs.Births.{IsExisting, IsUnbornOrEmpty, StaysUnbornOrEmpty, calls_of_creation}
use Rattle.pen_core.specs.PenOf.{PenOf}
use Rattle.pen_core.specs.Pen.{IsKept, failed_calls}
use Rattle.pen_core.specs.Step.{steps_left}
use Rattle.pen_core.proofs.Typed.{Opens_typed, MayOpen_rest, vector_after-none}
use Rattle.book_core.specs.Lists.{records_of}
use Rattle.flush_core.specs.Flusher.{tally_with}
use Rattle.flush_core.proofs.Kept.{read_as-cells}
use Rattle.vault_core.specs.Upgrading.{HasWritten, IsCopied, IsCopyStop, IsUnbornOrCopied, OpensToCopied, StaysUnbornOrCopied, copied, growth_count}
use Rattle.vault_core.specs.Vault.{IsVault, vault_of}
use Rattle.vault_core.proofs.Devices.{Device}

module _ {R : Type 0} (format : Format) (form : Encoding R) (piece : ℕ) (records : List R) where
  -- no growth yet
  empty_copied : (image : List ℕ) → IsUnbornOrEmpty (shape_of format form) image → IsUnbornOrCopied form piece records image
  empty_copied image is = elim is [
    | inl unborn ↦ inl unborn
    | inr opens ↦ inr (
      0,
      Opens_typed form (shape_of format form) [] [] image (copied piece records 0) refl
          (subst (λ n. AreCellsOf form [] (take n records)) zero_is (record { written = refl; read_again = tt })) opens,
    )
  ]
    where
      zero_is : 0 ≡ 0 * piece
      zero_is = omega arith

  module _ (old mid : List State) (born : StaysUnbornOrEmpty (shape_of format form) old mid) where
    pub born_stays : StaysUnbornOrCopied form piece records old mid
    born_stays none past image left = empty_copied image (born none past image left)

    -- with what was written behind it
    pub copied_stays : (new : List State) → clock mid ≡ clock old + length (calls_of_creation (bytes_of old))
        → LeavesOnly mid new (OpensToCopied form piece records) → StaysUnbornOrCopied form piece records old new
    copied_stays new calls leaves none past image left =
        elim (LeavesOnly-before mid new (OpensToCopied form piece records) leaves (clock old + 1) image (omega (arith, calls)) left) [
          | inl earlier ↦ empty_copied image (born none (omega (arith, calls)) image earlier)
          | inr has ↦ inr has
        ]

-- All of the records stand in a pen's file, and these blocks have them.
pub record HasAll {R D : Type 0} (format : Format) (form : Encoding R) (keeps : Type 0) (piece : ℕ) (records : List R) (pen : PenOf D) (blocks : List (List R)) : Type 0 where
  pub some : 1 ≤ piece
  pub written : HasWritten format form piece records (growth_count piece (length records)) pen
  pub cells : keeps → AreCellsOf form pen.vector records
  pub list : joined blocks ≡ records

-- the vault of a whole copy
module _ {R D : Type 0} {format : Format} {form : Encoding R} {keeps : Type 0} {piece : ℕ} {records : List R} {pen : PenOf D} {blocks : List (List R)}
    (has : HasAll format form keeps piece records pen blocks) where
  all : copied piece records (growth_count piece (length records)) ≡ records
  all =
      let whole = (div_ceil_times (length records) piece has.some).0 in
      take_all (growth_count piece (length records) * piece) records (omega (arith, whole))

  pub all_sure : keeps → (vault_of form pen blocks).sure ≡ records
  all_sure now = read_as-cells form pen.vector records (has.cells now)

  pub all_kept : IsVault keeps form (vault_of form pen blocks)
  all_kept = record {
    one_width = sym (ap (λ s. s.width) has.written.shape_is);
    size_then = ap (λ j. (tally_with pen.tally j).size) has.written.no_job ∙ size;
    size_is = λ _. size;
    file_is = λ now. subst (AreCellsOf form pen.vector) (sym (all_sure now)) (has.cells now);
    file_then = λ now.
        subst (λ cs. AreCellsOf form cs (joined blocks)) (sym (vector_after-none pen has.written.no_job))
        (subst (AreCellsOf form pen.vector) (sym has.list) (has.cells now));
    whole = λ now _. all_sure now ∙ sym has.list;
  }
    where
      size : pen.tally.size ≡ length (joined blocks)
      size = ap (λ t. t.size) has.written.tally_is ∙ ap length (all ∙ sym has.list)

-- the one block has all records
pub only_block : {R : Type 0} (vecs : List (Vec R)) (block : Vec R) (blocks : List (List R)) (records : List R) → records_of vecs ≡ blocks
    → length blocks ≡ 1 → joined blocks ≡ records → block ≡ get_or vecs 0 block → block.items ≡ records
only_block {R} vecs block blocks records lists_are one all is =
    at vecs (ap (λ (bs : List (List R)). length bs) lists_are ∙ one) (ap joined lists_are ∙ all) is
  where
    at : (vecs : List (Vec R)) → length (records_of vecs) ≡ 1 → joined (records_of vecs) ≡ records → block ≡ get_or vecs 0 block → block.items ≡ records
    at [] none all is = absurd (omega (arith, none))
    at (first ∷ []) one all is = ap (λ (b : Vec R). b.items) is ∙ sym (append-nil first.items) ∙ all
    at (first ∷ second ∷ more) many all is = absurd (omega (arith, many))

steps_left-least : (step : PenStep) → 1 ≤ steps_left step
steps_left-least Body = omega arith
steps_left-least BodySync = omega arith
steps_left-least Gate = omega arith
steps_left-least GateSync = omega arith

-- no more calls than all growths take
stop_calls : {R : Type 0} (form : Encoding R) (keeps : Type 0) (left : State) (piece : ℕ) (records : List R) (calls : ℕ) (fault : PenFault)
    → IsCopyStop form keeps left piece records calls fault → calls ≤ growth_count piece (length records) * 4
stop_calls form keeps left piece records calls fault stop =
    let before = stop.before in
    elim stop.why [
      | inl full ↦ (let is = full.2 in omega (arith, is, before))
      | inr free ↦ elim free.1 [
        | inl none ↦ (let is = none.1 in omega (arith, is, before))
        | inr at ↦ (let is = at.2 in let least = steps_left-least at.0 in omega (arith, is, least, before))
      ]
    ]

-- a commit finds no file
not_existing : {R : Type 0} (form : Encoding R) (keeps : Type 0) (left : State) (piece : ℕ) (records : List R) (calls : ℕ) (fault : PenFault)
    → IsCopyStop form keeps left piece records calls fault → fault ≡ faults.Exists → ⊥
not_existing form keeps left piece records calls fault stop exists = elim stop.why [
  | inl full ↦ (let is = full.0 in absurd cc)
  | inr free ↦ elim free.1 [
    | inl none ↦ (let is = none.0 in absurd cc)
    | inr at ↦ (let is = at.1 in absurd cc)
  ]
]

-- ---- a new file that was begun

-- What the creation of a new file makes of a disk.
pub record IsBegunOn {D : Type 0} (device : Device D) (shape : Shape) (disk mid : D) : Type 0 where
  pub born : device.keeps mid → StaysUnbornOrEmpty shape (device.states disk) (device.states mid)
  pub none_existed : device.keeps mid → IsExisting (bytes_of (device.states disk)) → ⊥
  pub time : clock (device.states mid) ≤ clock (device.states disk) + 8
  pub calls : device.keeps mid → clock (device.states mid) ≡ clock (device.states disk) + length (calls_of_creation (bytes_of (device.states disk)))
  pub no_fault : device.faults mid ≡ device.faults disk
  pub model : device.keeps mid → device.keeps disk

-- What the commits of growths of these pieces, one after the other, make of it then.
pub record IsGrownOn {R D : Type 0} (format : Format) (form : Encoding R) (device : Device D) (piece : ℕ) (records : List R) (disk mid new : D) : Type 0 where
  pub begun : IsBegunOn device (shape_of format form) disk mid
  pub fits : 8 + piece * form.width ≤ limit_of format
  pub images : device.keeps new → LeavesOnly (device.states mid) (device.states new) (OpensToCopied form piece records)
  pub model : device.keeps new → device.keeps mid

module _ {R D : Type 0} {format : Format} {form : Encoding R} {device : Device D} {piece : ℕ} {records : List R} {disk mid new : D}
    (grown : IsGrownOn format form device piece records disk mid new) where
  made : device.keeps new → clock (device.states mid) ≡ clock (device.states disk) + length (calls_of_creation (bytes_of (device.states disk)))
  made kept = grown.begun.calls (grown.model kept)

  stays : device.keeps new → StaysUnbornOrCopied form piece records (device.states disk) (device.states new)
  stays kept =
      copied_stays format form piece records (device.states disk) (device.states mid) (grown.begun.born (grown.model kept)) (device.states new)
      (made kept) (grown.images kept)

  -- a commit was refused
  pub stopped_copied : (fault : PenFault)
      → IsCopyStop form (device.keeps new) (now (device.states new)) piece records (clock (device.states new) - clock (device.states mid)) fault
      → device.faults new ≡ device.faults mid + failed_calls fault
      → IsCopied format form device.keeps device.states device.faults piece records disk (Err (new, fault))
  stopped_copied fault stop failed = record {
    list = tt;
    written = tt;
    fits = tt;
    sure = tt;
    opens = tt;
    stays = stays;
    none_existed = tt;
    existed = λ kept is. absurd (grown.begun.none_existed (grown.model kept) is);
    exists = λ kept is. absurd (not_existing form (device.keeps new) (now (device.states new)) piece records _ fault stop is);
    refused = inr (
      grown.fits,
      inr (inr (
        clock (device.states new) - clock (device.states mid),
        (λ kept. (
            let later = Follows-later (device.states mid) (device.states new) (grown.images kept).past in
            let calls = made kept in
            omega (arith, later, calls))),
        stop,
      )),
    );
    calls = tt;
    time = (
        let most = stop_calls form (device.keeps new) (now (device.states new)) piece records _ fault stop in
        let early = grown.begun.time in
        omega (arith, most, early));
    failed = failed ∙ ap (λ n. n + failed_calls fault) grown.begun.no_fault;
    model = λ kept. grown.begun.model (grown.model kept);
  }

-- all growths stand in the file
module _ {R D : Type 0} {format : Format} {form : Encoding R} {device : Device D} {piece : ℕ} {records : List R} {disk mid : D} {pen : PenOf D}
    (grown : IsGrownOn format form device piece records disk mid pen.disk) where
  pub all_copied : {blocks : List (List R)} → HasAll format form (device.keeps pen.disk) piece records pen blocks
      → clock (device.states pen.disk) ≡ clock (device.states mid) + growth_count piece (length records) * 4 → device.faults pen.disk ≡ device.faults mid
      → (device.keeps pen.disk → IsKept (device.states pen.disk) pen)
      → IsCopied format form device.keeps device.states device.faults piece records disk (Ok (vault_of form pen blocks))
  all_copied has later failed kept_is = record {
    list = has.list;
    written = has.written;
    fits = grown.fits;
    sure = all_sure has;
    opens = λ kept image is.
        MayOpen_rest form pen image records (sym (ap (λ s. s.width) has.written.shape_is)) has.written.no_job (has.cells kept) ((kept_is kept).images_open image is);
    stays = stays grown;
    none_existed = λ kept. grown.begun.none_existed (grown.model kept);
    existed = tt;
    exists = tt;
    refused = tt;
    calls = λ kept. (let calls = made grown kept in omega (arith, later, calls));
    time = (let early = grown.begun.time in omega (arith, later, early));
    failed = failed ∙ grown.begun.no_fault;
    model = λ kept. grown.begun.model (grown.model kept);
  }
