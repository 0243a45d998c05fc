-- What a follower has written so far, look by look.
use Rattle.std.proofs.Common.{◌≡◌, ℕ, ◌-◌, ◌≤◌, List, [], ◌++◌, length, drop, Option, Some, None, refl, sym, ap, subst, ◌∙◌, arith, append_assoc, length-append, inl, inr}
use Rattle.std.specs.Prelude.{slice_get}
use Rattle.std.specs.Option.{option_and_then}
use Rattle.std.specs.Io.KnownBytes.{Appends, Keeps}
use Rattle.std.proofs.lemmas.List.Concat.{flat_map-append}
use Rattle.std.proofs.lemmas.Bool.{cases_lt}
use Rattle.record_core.specs.Bytes.{Encoding}
use Rattle.record_core.proofs.Cells.{slice_get-append_left}
use Rattle.segment_core.specs.declared.format.Shape.{Shape}
use Rattle.segment_core.specs.Frame.{Frame}
use Rattle.segment_core.specs.Raw.{AreReadAs}
use Rattle.segment_core.proofs.Replaced.{slice_get-append_right}
use Rattle.text_core.specs.Text.{ended_line, record_lines}
use Rattle.beside_core.specs.PensFile.{IsPensFile}
use Rattle.beside_core.specs.Replay.{vector_left}
use Rattle.beside_core.specs.Bookmark.{LiesBehind}
use Rattle.follow_core.specs.declared.ended.FollowEnd.{FollowEnd}
use Rattle.follow_core.specs.declared.ended.FollowEnd.TheVariants.{Lost, Refused, OutputFailed, Ended, Replaced}
use Rattle.follow_core.specs.declared.following.Reached.{Reached}
use Rattle.follow_core.specs.Followed.{WroteRecords, EndsLook, HasFollowed, IsFollowed, HasFollowedWhole, IsFollowedWhole}
use Rattle.follow_core.proofs.Refusals.{refused_earlier}
use Rattle.follow_core.proofs.Settled.{settled_later, settled_more}
use Rattle.follow_core.proofs.Windows.{drop_none, drop_append}
use Rattle.text_core.proofs.Written.{appends_nothing, appends_join}

-- and the bookmark lies behind it
pub record FollowsAt {R : Type 0} (form : Encoding R) (text_of : R → List ℕ) (first : ℕ) (shape : Shape) (frames : ℕ
    → List Frame) (reached : Reached) (now synced : ℕ) (old new : Option (List ℕ)) : Type 0 where
  pub known : List Frame
  pub lies : LiesBehind shape known reached.mark
  pub has : HasFollowed form text_of first frames known now synced old new
  pub skip_is : reached.skip ≡ first - length has.records

-- records that are read one behind the other
read_more : {R : Type 0} (form : Encoding R) (a b : List (List ℕ)) (xs ys : List R) → AreReadAs form a xs → AreReadAs form b ys → AreReadAs form (a ++ b) (xs ++ ys)
read_more form a b xs ys p q = record {
  size = omega (arith, length-append a b, length-append xs ys, p.size, q.size);
  each = λ i. elim (cases_lt i (length a)) [
    | inl lt ↦ ap (option_and_then form.value_of) (slice_get-append_left a b i lt) ∙ p.each i ∙ sym (slice_get-append_left xs ys i (omega (arith, lt, p.size)))
    | inr ge ↦
        ap (option_and_then form.value_of) (slice_get-append_right a b i ge) ∙ q.each (i - length a) ∙ ap (λ n. slice_get ys (i - n)) p.size
        ∙ sym (slice_get-append_right xs ys i (omega (arith, ge, p.size)))
  ];
}

unfoldable pub follows_nothing : {R : Type 0} (form : Encoding R) (text_of : R → List ℕ) (first : ℕ) (frames : ℕ → List Frame) (now synced : ℕ) (old : Option (List ℕ))
    → HasFollowed form text_of first frames [] now synced old old
follows_nothing {R} form text_of first frames now synced old = record {
  stand = (frames now, refl);
  settled = λ some. absurd (some refl);
  records = [];
  are = record { size = refl; each = λ i. refl };
  written = subst (λ (rs : List R). Appends old old (record_lines text_of rs)) (sym (drop_none first)) (appends_nothing old);
}

pub follows_first : {R : Type 0} (form : Encoding R) (text_of : R → List ℕ) (first : ℕ) (shape : Shape) (frames : ℕ → List Frame) (reached : Reached) (now synced : ℕ) (old : Option (List ℕ))
    → LiesBehind shape [] reached.mark → reached.skip ≡ first → FollowsAt form text_of first shape frames reached now synced old old
unfolding follows_nothing
follows_first form text_of first shape frames reached now synced old lies is = record {
  known = [];
  lies = lies;
  has = follows_nothing form text_of first frames now synced old;
  skip_is = let all : first ≡ first - 0 = omega arith in is ∙ all;
}

-- what stood at one moment stands later
pub stays : {R : Type 0} (form : Encoding R) (text_of : R → List ℕ) (first : ℕ) (shape : Shape) (held : ℕ → List ℕ) (frames : ℕ → List Frame) (known : List Frame)
    (now later before synced : ℕ) (old new : Option (List ℕ))
    → IsPensFile shape held frames → now ≤ later → before ≤ synced → HasFollowed form text_of first frames known now before old new
    → HasFollowed form text_of first frames known later synced old new
stays form text_of first shape held frames known now later before synced old new file le keeps has =
    let grown = file.grows now later le in
    record {
      stand = (has.stand.0 ++ grown.0, grown.1 ∙ ap (λ (fs : List Frame). fs ++ grown.0) has.stand.1 ∙ append_assoc known has.stand.0 grown.0);
      settled = settled_later frames [] known before synced keeps has.settled;
      records = has.records;
      are = has.are;
      written = has.written;
    }

-- and no bytes more
pub kept_still : {R : Type 0} (form : Encoding R) (text_of : R → List ℕ) (first : ℕ) (frames : ℕ → List Frame) (known : List Frame) (now synced : ℕ) (old mid new : Option (List ℕ)) → Keeps mid new
    → HasFollowed form text_of first frames known now synced old mid
    → HasFollowed form text_of first frames known now synced old new
kept_still form text_of first frames known now synced old mid new keeps has = record {
  stand = has.stand;
  settled = has.settled;
  records = has.records;
  are = has.are;
  written = same old mid new (record_lines text_of (drop first has.records)) keeps has.written;
}
  where
    same : (old mid new : Option (List ℕ)) (bs : List ℕ) → Keeps mid new → Appends old mid bs → Appends old new bs
    same None mid new bs keeps p = tt
    same (Some xs) None new bs keeps p = absurd p
    same (Some xs) (Some ys) None bs keeps p = absurd keeps
    same (Some xs) (Some ys) (Some zs) bs keeps p = keeps ∙ p

-- records of a window are written behind those before
lines_more : {R : Type 0} (text_of : R → List ℕ) (first skip : ℕ) (before came : List R) (old mid new : Option (List ℕ)) → skip ≡ first - length before
    → Appends old mid (record_lines text_of (drop first before)) → Appends mid new (record_lines text_of (drop skip came))
    → Appends old new (record_lines text_of (drop first (before ++ came)))
lines_more text_of first skip before came old mid new is a b =
    let parts : record_lines text_of (drop first (before ++ came)) ≡ record_lines text_of (drop first before) ++ record_lines text_of (drop skip came)
    = ap (record_lines text_of) (drop_append first before came ∙ ap (λ n. drop first before ++ drop n came) (sym is))
    ∙ flat_map-append (λ r. ended_line (text_of r)) (drop first before) (drop skip came) in
    subst (Appends old new) (sym parts) (appends_join old mid new (record_lines text_of (drop first before)) (record_lines text_of (drop skip came)) a b)

-- one look more
has_more : {R : Type 0} (form : Encoding R) (text_of : R → List ℕ) (first : ℕ) (shape : Shape) (held : ℕ → List ℕ) (frames : ℕ
    → List Frame) (reached next : Reached) (from to before synced : ℕ) (old mid new : Option (List ℕ))
    → IsPensFile shape held frames → before ≤ synced → (at : FollowsAt form text_of first shape frames reached from before old mid)
    → (written : WroteRecords form text_of reached.skip shape frames at.known from to synced mid new next)
    → (has : HasFollowed form text_of first frames (at.known ++ written.since.came) to synced old new) × (next.skip ≡ first - length has.records)
has_more form text_of first shape held frames reached next from to before synced old mid new file keeps at written =
    let look = written.since in
    let grown = file.grows look.moment to look.until in (
      record {
        stand = (grown.0, grown.1 ∙ ap (λ (fs : List Frame). fs ++ grown.0) look.frames_are);
        settled = settled_more frames [] at.known look.came look.moment before synced keeps at.has.settled look.frames_are look.settled;
        records = at.has.records ++ written.records.items;
        are = subst (λ cells. AreReadAs form cells (at.has.records ++ written.records.items)) (sym look.answer.2) (read_more form
            (vector_left form.width at.known) look.answer.1 at.has.records written.records.items at.has.are look.answer.3);
        written = lines_more text_of first reached.skip at.has.records written.records.items old mid new at.skip_is at.has.written written.written;
      },
      omega (arith, written.skip_is, at.skip_is, length-append at.has.records written.records.items),
    )

module _ {R : Type 0} (form : Encoding R) (text_of : R → List ℕ) (first : ℕ) (held : ℕ → List ℕ) (from to before synced : ℕ) (old mid new : Option (List ℕ)) (reached next : Reached)
    (keeps : before ≤ synced)
    (at : (shape : Shape) (frames : ℕ → List Frame) → IsPensFile shape held frames → FollowsAt form text_of first shape frames reached from before old mid)
    (is : (shape : Shape) (frames : ℕ → List Frame) (known : List Frame) → IsPensFile shape held frames → LiesBehind shape known reached.mark
    → (more : List Frame) × (frames from ≡ known ++ more) → WroteRecords form text_of reached.skip shape frames known from to synced mid new next) where
  pub follows_look : (shape : Shape) (frames : ℕ → List Frame) → IsPensFile shape held frames → FollowsAt form text_of first shape frames next to synced old new
  follows_look shape frames file =
      let so_far = at shape frames file in
      let look = is shape frames so_far.known file so_far.lies so_far.has.stand in
      let more = has_more form text_of first shape held frames reached next from to before synced old mid new file keeps so_far look in
      record { known = so_far.known ++ look.since.came; lies = look.since.answer.0; has = more.0; skip_is = more.1 }

  -- and it was all that the vector had at a moment of the look
  pub follows_whole : (begin : ℕ) → begin ≤ from → HasFollowedWhole form text_of first held begin to synced old new
  follows_whole begin le shape frames file =
      let so_far = at shape frames file in
      let look = is shape frames so_far.known file so_far.lies so_far.has.stand in
      let begun = look.since.begun in
      let more = has_more form text_of first shape held frames reached next from to before synced old mid new file keeps so_far look in (
        look.since.moment,
        omega (arith, begun, le),
        look.since.until,
        subst (λ fs. HasFollowed form text_of first frames fs to synced old new) (sym look.since.frames_are) more.0,
      )

-- ---- the last look

pub ended : {R : Type 0} (form : Encoding R) (text_of : R → List ℕ) (first : ℕ) (held : ℕ → List ℕ) (from to before synced : ℕ)
    (old mid new : Option (List ℕ)) (reached : Reached) (end : FollowEnd) → from ≤ to → before ≤ synced
    → ((shape : Shape) (frames : ℕ → List Frame) → IsPensFile shape held frames → FollowsAt form text_of first shape frames reached from before old mid)
    → ((shape : Shape) (frames : ℕ → List Frame) (known : List Frame) → IsPensFile shape held frames → LiesBehind shape known reached.mark
    → (more : List Frame) × (frames from ≡ known ++ more) → EndsLook form shape frames known from to synced mid new end)
    → IsFollowed form text_of first held to synced old new end
ended form text_of first held from to before synced old mid new reached (Lost loss) le keeps at is = λ shape frames file.
    let so_far = at shape frames file in
    let last = is shape frames so_far.known file so_far.lies so_far.has.stand in
    let grown = file.grows last.1.moment to last.1.until in (
      so_far.known,
      kept_still form text_of first frames so_far.known to synced old mid new last.0
          (stays form text_of first shape held frames so_far.known from to before synced old mid file le keeps so_far.has),
      record { came = last.1.came; rest = grown.0; stand = grown.1 ∙ ap (λ (fs : List Frame). fs ++ grown.0) last.1.frames_are; by = last.1.answer },
    )
ended form text_of first held from to before synced old mid new reached (Refused fault) le keeps at is = λ shape frames file.
    let so_far = at shape frames file in
    let last = is shape frames so_far.known file so_far.lies so_far.has.stand in (
      so_far.known,
      kept_still form text_of first frames so_far.known to synced old mid new last.0
          (stays form text_of first shape held frames so_far.known from to before synced old mid file le keeps so_far.has),
      refused_earlier form shape frames 0 from to fault (omega arith) last.1,
    )
ended form text_of first held from to before synced old mid new reached OutputFailed le keeps at is = tt
ended form text_of first held from to before synced old mid new reached Ended le keeps at is = λ shape frames file.
    let so_far = at shape frames file in absurd (is shape frames so_far.known file so_far.lies so_far.has.stand)
ended form text_of first held from to before synced old mid new reached Replaced le keeps at is = λ shape frames file.
    let so_far = at shape frames file in absurd (is shape frames so_far.known file so_far.lies so_far.has.stand)

pub ended_whole : {R : Type 0} (form : Encoding R) (text_of : R → List ℕ) (first : ℕ) (held : ℕ → List ℕ) (begin from to before synced : ℕ)
    (old mid new : Option (List ℕ)) (reached : Reached) (end : FollowEnd)
    → ((shape : Shape) (frames : ℕ → List Frame) → IsPensFile shape held frames → FollowsAt form text_of first shape frames reached from before old mid)
    → ((shape : Shape) (frames : ℕ → List Frame) (known : List Frame) → IsPensFile shape held frames → LiesBehind shape known reached.mark
    → (more : List Frame) × (frames from ≡ known ++ more) → EndsLook form shape frames known from to synced mid new end)
    → IsFollowedWhole form text_of first held begin to synced old new end
ended_whole form text_of first held begin from to before synced old mid new reached (Lost loss) at is = tt
ended_whole form text_of first held begin from to before synced old mid new reached (Refused fault) at is = tt
ended_whole form text_of first held begin from to before synced old mid new reached OutputFailed at is = tt
ended_whole form text_of first held begin from to before synced old mid new reached Ended at is = λ shape frames file.
    let so_far = at shape frames file in absurd (is shape frames so_far.known file so_far.lies so_far.has.stand)
ended_whole form text_of first held begin from to before synced old mid new reached Replaced at is = λ shape frames file.
    let so_far = at shape frames file in absurd (is shape frames so_far.known file so_far.lies so_far.has.stand)
