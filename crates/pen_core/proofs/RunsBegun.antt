-- A change of runs as a frame that may follow, and the records behind it.
use Rattle.std.proofs.Common.{◌≡◌, ℕ, ◌+◌, ◌*◌, ◌^◌, ◌≤◌, ◌<◌, Bool, true, false, List, [], ◌∷◌, ◌++◌, length, map, Some, None, cond, refl, sym, ap, subst, ◌∙◌, arith}
use Rattle.std.specs.Prelude.{nat_le, nat_lt, not, ◌&&◌, MatchOption}
use Rattle.std.specs.List.{list_all, AllByRecursion}
use Rattle.std.specs.Option.{is_some}
use Rattle.std.proofs.lemmas.Bool.{leb-false, lt-ltb, le-leb, ltb-true, ltb-false, and_parts, not-false, not_from_true, lt-leb}
use Rattle.std.proofs.lemmas.List.{append-nil}
use Rattle.std.proofs.lemmas.Nat.{mul-le}
use Rattle.disk_core.specs.State.{State, now, IsImage}
use Rattle.disk_core.specs.Calls.{bytes_of}
use Rattle.record_core.specs.Bytes.{Encoding}
use Rattle.record_core.specs.Cells.{AreReadAgain}
use Rattle.record_core.proofs.Cells.{length-flat_map_bytes}
use Rattle.segment_core.specs.declared.format.Format.{Format}
use Rattle.segment_core.specs.declared.format.Format.TheVariants.{One, Two}
use Rattle.segment_core.specs.declared.format.Shape.{Shape}
use Rattle.segment_core.specs.declared.tally.Tally.{Tally}
use Rattle.segment_core.specs.Shape.{limit_of}
use Rattle.segment_core.specs.Frame.{Run, Frame, records_of_runs, frame_text, payload_of}
use Rattle.segment_core.specs.Layout.{HasRuns, IsFrame}
use Rattle.segment_core.specs.Tally.{after, are_ascending, are_inside, MayFollow}
use Rattle.segment_core.specs.Raw.{after_frame, AreCellsOf}
use Rattle.segment_core.specs.Command.{replaced}
use Rattle.segment_core.specs.Written.{joined}
use Rattle.segment_core.specs.Runs.{runs_given, change_len, change_frame}
use Rattle.segment_core.proofs.Payload.{limit_small, length-frame_text}
use Rattle.segment_core.proofs.Changes.{length-runs_given, length-change_frame}
use Rattle.segment_core.proofs.ReadAs.{AreCellsOf_change}
use Rattle.segment_core.proofs.LegalCommand.{are_runs}
use Rattle.pen_core.specs.declared.fault.PenFault.{PenFault}
use Rattle.pen_core.specs.PenOf.{PenOf}
use Rattle.pen_core.specs.declared.fault.PenFault.TheVariants.{OldFormat, Runs, OutOfRange, Memory}
use Rattle.pen_core.specs.Refusals.{first_refusal, IsRefusal, fold_len, ready_lines, room_lines, is_old, are_disordered, change_lines, one_run}
use Rattle.pen_core.specs.Vectors.{frame_at}
use Rattle.pen_core.specs.Inside.{job_of}
use Rattle.pen_core.proofs.Begins.{no_step}
use Rattle.pen_core.specs.declared.pen.Pen.TheInside.{Inside}
use Rattle.pen_core.specs.Fields.{IsSoundPen}
use Rattle.pen_core.proofs.FrameBegun.{Begins, begun_frame}
use Rattle.pen_core.specs.InHand.{fold_of}

-- ---- what the tests say

-- none of the tests of a change holds
pub record Allows (broken busy : Bool) (shape : Shape) (gate : ℕ) (tally : Tally) (runs : List Run) : Type 0 where
  pub whole : broken ≡ false
  pub idle : busy ≡ false
  pub young : (format : Format) → format ≡ shape.format → 0 < length runs → HasRuns format runs
  pub each : AllByRecursion (λ run. 0 < run.count) runs
  pub ordered : are_ascending 0 runs ≡ true
  pub inside : are_inside tally.size runs ≡ true
  pub fits : change_len shape runs ≤ limit_of shape.format
  pub not_full : gate + (6 + change_len shape runs) < 2 ^ 48

-- the first test doesn't hold, nor those behind it
passed : (test : Bool) (fault : PenFault) (lines : List (Bool × PenFault)) → first_refusal ((test, fault) ∷ lines) ≡ None
    → (test ≡ false) × (first_refusal lines ≡ None)
passed true fault lines none = absurd cc
passed false fault lines none = (refl, none)

none_holds : (lines : List (Bool × PenFault)) → first_refusal lines ≡ None → AllByRecursion (λ line. line.0 ≡ false) lines
none_holds [] none = tt
none_holds (line ∷ lines) none = let rest = passed line.0 line.1 lines none in (rest.0, none_holds lines rest.1)

all_counted : (runs : List Run) → list_all (λ run. nat_lt 0 run.count) runs ≡ true → AllByRecursion (λ run. 0 < run.count) runs
all_counted [] all = tt
all_counted (run ∷ runs) all =
    let parts = and_parts (nat_lt 0 run.count) (list_all (λ r. nat_lt 0 r.count) runs) all in
    (ltb-true 0 run.count parts.0, all_counted runs parts.1)

module _ {D : Type 0} (pen : PenOf D) (runs : List Run) where
  has_runs : (format : Format) → is_old pen format runs ≡ false → 0 < length runs → HasRuns format runs
  has_runs One old some = let few = ltb-false 1 (length runs) old in omega arith
  has_runs Two old some = some

  pub allowed_space : first_refusal (change_lines pen runs) ≡ None → pen.gate + (6 + change_len pen.shape runs) + fold_len pen.fold < 2 ^ 48
  allowed_space none =
      let tests = none_holds (change_lines pen runs) none in
      leb-false (2 ^ 48) (pen.gate + (6 + change_len pen.shape runs) + fold_len pen.fold) tests.1.1.1.1.1.1.0

  pub allows : first_refusal (change_lines pen runs) ≡ None → Allows pen.broken (is_some pen.job) pen.shape pen.gate pen.tally runs
  allows none =
      let tests = none_holds (change_lines pen runs) none in
      let formed =
      and_parts (list_all (λ run. nat_lt 0 run.count) runs) (are_ascending 0 runs)
      (not-false (list_all (λ run. nat_lt 0 run.count) runs && are_ascending 0 runs) tests.1.1.1.0) in
      let below = leb-false (2 ^ 48) (pen.gate + (6 + change_len pen.shape runs) + fold_len pen.fold) tests.1.1.1.1.1.1.0 in
      record {
        whole = tests.0;
        idle = tests.1.0;
        young = λ format is some. has_runs format (ap (λ f. is_old pen f runs) is ∙ tests.1.1.0) some;
        each = all_counted runs formed.0;
        ordered = formed.1;
        inside = not-false (are_inside pen.tally.size runs) tests.1.1.1.1.0;
        fits = ltb-false (limit_of pen.shape.format) (change_len pen.shape runs) tests.1.1.1.1.1.0;
        not_full = omega arith;
      }

-- one test holds, and none before it
first_of_them : (before : List (Bool × PenFault)) (test : Bool) (fault : PenFault) (behind : List (Bool × PenFault))
    → AllByRecursion (λ line. line.0 ≡ false) before → test ≡ true
    → first_refusal (before ++ (test, fault) ∷ behind) ≡ Some fault
first_of_them [] test fault behind none holds = ap (λ b. cond b (Some fault) (first_refusal behind)) holds
first_of_them (line ∷ before) test fault behind none holds =
    ap (λ b. cond b (Some line.1) (first_refusal (before ++ (test, fault) ∷ behind))) none.0
    ∙ first_of_them before test fault behind none.1 holds

-- no vector has so many positions
pub too_many : {D : Type 0} (pen : PenOf D) (start count : ℕ) → pen.broken ≡ false → is_some pen.job ≡ false
    → pen.tally.size ≤ 2 ^ 32 → 2 ^ 32 < count → IsRefusal (change_lines pen (one_run start count)) OutOfRange
too_many pen start count whole idle short many =
    let runs : List Run = one_run start count in
    let formed : are_disordered pen runs ≡ false =
    ap (λ b. not ((b && true) && (nat_le 0 start && true))) (lt-ltb 0 count (omega arith))
    ∙ ap (λ b. not (b && true)) (le-leb 0 start (omega arith)) in
    let outside : not (are_inside pen.tally.size runs) ≡ true = ap (λ b. not (b && true)) (lt-leb (start + count) pen.tally.size (omega arith)) in
    let first =
    first_of_them
    (ready_lines pen ++ (is_old pen pen.shape.format runs, OldFormat) ∷ (are_disordered pen runs, Runs) ∷ [])
    (not (are_inside pen.tally.size runs)) OutOfRange (room_lines pen (change_len pen.shape runs))
    (whole, (idle, (young pen.shape.format, (formed, tt)))) outside in
    subst (λ o. MatchOption o (OutOfRange ≡ Memory) (λ fault. OutOfRange ≡ fault)) (sym first) refl
  where
    young : (format : Format) → is_old pen format (one_run start count) ≡ false
    young One = refl
    young Two = refl

-- ---- the frame

runs_again : (runs : List (ℕ × ℕ)) → map (λ run. (run.start, run.count)) (runs_given runs) ≡ runs
runs_again [] = refl
runs_again (run ∷ runs) = ap (λ rs. (run.0, run.1) ∷ rs) (runs_again runs)

-- What a change is begun from.
pub record Changes {R D : Type 0} (form : Encoding R) (keeps : D → Type 0) (states : D → List State) (pen then : Inside D) (runs : List (ℕ × ℕ)) (pieces : List (List R)) : Type 0 where
  pub sound : IsSoundPen keeps states pen
  pub reads : (disk : D) → keeps disk → IsImage (now (states disk)) (bytes_of (states disk))
  pub space : pen.gate + (6 + change_len pen.shape (runs_given runs)) + fold_len (fold_of pen.fold) < 2 ^ 48
  pub allowed : Allows pen.broken (is_some (job_of pen.shape pen.bytes.items pen.step)) pen.shape pen.gate pen.tally (runs_given runs)
  pub spelled : then.bytes.items ≡ frame_text pen.shape.format (change_frame form (runs_given runs) pieces) ++ 0 ∷ []
  pub width : form.width ≡ pen.shape.width
  pub size_of : (r : R) → length (form.bytes_of r) ≡ form.width
  pub some : 0 < length runs
  pub filled : length (joined pieces) ≡ records_of_runs (runs_given runs)
  pub again : AreReadAgain form (joined pieces)
  pub next_is : then.next ≡ after pen.tally (change_frame form (runs_given runs) pieces)
  pub homes_same : then.homes.homes ≡ pen.homes.homes
  pub runs_more : then.homes.live.items ≡ pen.homes.live.items ++ runs

module _ {R D : Type 0} {form : Encoding R} {keeps : D → Type 0} {states : D → List State} {pen then : Inside D}
    {runs : List (ℕ × ℕ)} {pieces : List (List R)} (changes : Changes form keeps states pen then runs pieces) where
  abbrev given : List Run
  given = runs_given runs

  abbrev frame : Frame
  frame = change_frame form given pieces

  counted : 0 < length given
  counted = let some = changes.some in omega (arith, length-runs_given runs)

  payload : length (payload_of pen.shape.format frame) ≡ change_len pen.shape given
  payload =
      length-change_frame pen.shape.format form given pieces changes.size_of changes.filled
      ∙ ap (λ w. change_len (record { format = pen.shape.format; width = w }) given) changes.width

  change_framed : IsFrame pen.shape frame
  change_framed =
      let allowed = changes.allowed in
      let wide = changes.sound.job.wide.0 in
      let short = changes.sound.job.size_fits in
      let some = counted in
      let width = changes.width in
      let limit = limit_small pen.shape.format in
      let fits = allowed.fits in
      let least = mul-le (records_of_runs given) 1 (records_of_runs given) pen.shape.width (omega arith) wide in
      record {
        wide = omega arith;
        small = omega (arith, payload);
        layout = (
          allowed.young pen.shape.format refl some,
          are_runs pen.tally.size given short (omega arith) allowed.each allowed.inside,
          length-flat_map_bytes form (joined pieces) changes.size_of ∙ ap (λ n. n * form.width) changes.filled
              ∙ ap (λ w. records_of_runs given * w) width,
        );
      }

  change_follows : MayFollow pen.tally frame
  change_follows = record {
    ordered = not_from_true (are_ascending 0 given) changes.allowed.ordered;
    inside = not_from_true (are_inside pen.tally.size given) changes.allowed.inside;
    folded = refl;
    counted = refl;
    short = refl;
  }

  change_text_len : length (frame_text pen.shape.format frame) ≡ 6 + change_len pen.shape given
  change_text_len = length-frame_text pen.shape.format frame ∙ ap (λ n. 6 + n) payload

  pub change_begins : Begins keeps states pen then frame
  change_begins = record {
    sound = changes.sound;
    going = changes.allowed.whole;
    idle = no_step pen.shape pen.bytes.items pen.step changes.allowed.idle;
    reads = changes.reads;
    spelled = changes.spelled;
    framed = change_framed;
    follows = change_follows;
    counted = changes.next_is;
    no_fold = λ count is. absurd cc;
    room = let space = changes.space in omega (arith, change_text_len);
    homes_more = ap (λ v. v.items) changes.homes_same ∙ sym (append-nil pen.homes.homes.items);
    runs_more = changes.runs_more ∙ ap (λ rs. pen.homes.live.items ++ rs) (sym (runs_again runs));
  }

  -- the records behind it are those with the runs replaced
  pub change_tells : (vector : List (List ℕ)) (records : List R) → AreCellsOf form vector records
      → AreCellsOf form (after_frame pen.shape.width vector (frame_at pen.shape then.bytes.items)) (replaced records given (joined pieces))
  change_tells vector records are =
      subst (λ f. AreCellsOf form (after_frame pen.shape.width vector f) (replaced records given (joined pieces))) (sym (begun_frame change_begins))
      (AreCellsOf_change form pen.shape.width vector records given pieces changes.width changes.size_of changes.filled changes.again are)
