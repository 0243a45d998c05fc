-- What a check has found, and written.
use Rattle.std.proofs.Common.{◌≡◌, ℕ, ◌-◌, ◌≤◌, List, ◌++◌, length, ap, ◌∙◌, arith}
use Rattle.record_core.specs.Bytes.{Encoding}
use Rattle.segment_core.specs.declared.format.Shape.{Shape}
use Rattle.segment_core.specs.declared.tally.Tally.{Tally}
use Rattle.segment_core.specs.Frame.{Frame}
use Rattle.beside_core.specs.declared.bookmark.Bookmark.{Bookmark}
use Rattle.beside_core.specs.declared.fault.LookFault.{LookFault}
use Rattle.beside_core.specs.Bookmark.{LiesBehind}
use Rattle.beside_core.specs.Fault.{IsNoDamage}
use Rattle.beside_core.specs.PensFile.{IsPensFile}
use Rattle.beside_core.specs.Since.{MayRefuse}
use Rattle.follow_core.specs.Answers.{measures_line, AreMeasuresTold}
use Rattle.follow_core.specs.Beside.{WereOnce, AreRecordsLeft}
use Rattle.follow_core.proofs.Refusals.{without_damage}

abbrev live_in : Tally → ℕ
live_in tally = tally.changes - tally.folded

module _ {R : Type 0} (form : Encoding R) (read kept : Type 0) (held : ℕ → List ℕ) (from mid to settled synced : ℕ) (records : List R) (mark : Bookmark)
    (back : kept → read) (later : mid ≤ to) (same : synced ≡ settled)
    (once : read → (shape : Shape) (frames : ℕ → List Frame) → IsPensFile shape held frames
    → WereOnce frames from mid settled (λ at. AreRecordsLeft form at records × LiesBehind shape at mark)) where
  pub measured : (size count : ℕ) → size ≡ length records → (kept → (shape : Shape) (frames : ℕ → List Frame) (known : List Frame) → IsPensFile shape held frames → LiesBehind shape known mark
      → (more : List Frame) × (frames mid ≡ known ++ more) → count ≡ length known)
      → kept → (shape : Shape) (frames : ℕ → List Frame) → IsPensFile shape held frames
      → WereOnce frames from to synced (AreMeasuresTold form shape (measures_line mark.shape size count (live_in mark.tally)))
  measured size count all counted model shape frames file =
      let were = once (back model) shape frames file in
      let lies = were.so.1 in
      let until = were.until in
      let many = counted model shape frames (frames were.moment) file lies (file.grows were.moment mid until) in
      record {
        moment = were.moment;
        begun = were.begun;
        until = omega (arith, until, later);
        settled = λ some. let below = were.settled some in omega (arith, below, same);
        so = (
          records,
          were.so.0,
          ap (λ n. measures_line mark.shape n count (live_in mark.tally)) all
              ∙ ap (λ (s : Shape). measures_line s (length records) count (live_in mark.tally)) lies.shape_is
              ∙ ap (λ n. measures_line shape (length records) n (live_in mark.tally)) many
              ∙ ap (λ (t : Tally). measures_line shape (length records) (length (frames were.moment)) (live_in t)) lies.tally_is,
        );
      }

  pub uncounted : (fault : LookFault) → (kept → (shape : Shape) (frames : ℕ → List Frame) (known : List Frame) → IsPensFile shape held frames → LiesBehind shape known mark
      → (more : List Frame) × (frames mid ≡ known ++ more) → IsNoDamage fault)
      → kept → (shape : Shape) (frames : ℕ → List Frame) → IsPensFile shape held frames → MayRefuse form shape frames from to fault
  uncounted fault clear model shape frames file =
      let were = once (back model) shape frames file in
      without_damage form shape frames from to fault (clear model shape frames (frames were.moment) file were.so.1 (file.grows were.moment mid were.until))
