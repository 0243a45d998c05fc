-- Worked files of what `stat` tells: which numbers are a file's and which aren't, which frames stand and which don't, which
-- refusals are right, how many calls an answer takes, what only reading is, and the text.
use Rattle.std.proofs.Common.{◌≡◌, ℕ, ◌≤◌, inl, inr, true≢false, List, [], ◌∷◌, ◌++◌, take, drop, Some, Result, Ok, Err, codes, refl, sym, ap, arith}
use Rattle.std.specs.Fmt.{digits}
use Rattle.std.specs.Int.{w64, to_le_bytes}
use Rattle.disk_core.specs.declared.fault.DiskFault.TheVariants as disks
use Rattle.disk_core.specs.State.{State, settled}
use Rattle.disk_core.proofs.ImageLemmas.{IsImage-settled, settled_image}
use Rattle.segment_core.specs.declared.fault.Cause.TheVariants.{ShortFrame, NoGate}
use Rattle.segment_core.specs.declared.fault.ScanFault.{ScanFault}
use Rattle.segment_core.specs.declared.fault.ScanFault.TheVariants as scans
use Rattle.segment_core.specs.declared.format.Format.TheVariants.{One}
use Rattle.segment_core.specs.declared.format.Shape.{Shape}
use Rattle.segment_core.specs.Frame.{Frame, text, frame_text}
use Rattle.segment_core.specs.Frame as frames
use Rattle.segment_core.specs.Layout.{u32_at, u64_at}
use Rattle.segment_core.specs.Tally.{AreLegal}
use Rattle.segment_core.specs.Image.{HasFrames}
use Rattle.segment_core.specs.Fault.{IsSound, header_lines, frame_fault, frame_lines, damaged}
use Rattle.stat_core.specs.declared.fault.StatFault.{StatFault}
use Rattle.stat_core.specs.declared.fault.StatFault.TheVariants.{Disk, Header, Frame as FrameFault}
use Rattle.stat_core.specs.declared.outline.Outline.{Outline}
use Rattle.stat_core.specs.declared.outline.Outline.TheVariants.{Group, Change, Shrink, Fold}
use Rattle.stat_core.specs.declared.summary.Summary.{Summary}
use Rattle.stat_core.specs.declared.telling.StatEnded.TheVariants as ends
use Rattle.stat_core.specs.declared.writing.Form.TheVariants.{Lines, Json}
use Rattle.stat_core.specs.Outline.{IsOutlined, MayStand, outline_of, outline_kind, outline_len}
use Rattle.stat_core.specs.Summary.{begun, grown, summary_of, summary_of_frames, tally_in, AreFew}
use Rattle.stat_core.specs.Walked.{AreOutlined, Counts, IsSummaryOf, IsStatRefusal, TellsFrames}
use Rattle.stat_core.specs.Window.{OnlyReads}
use Rattle.stat_core.specs.Calls.{failed_in, failed_at, AreCalls}
use Rattle.stat_core.specs.Ended.{IsTold}
use Rattle.stat_core.specs.Text.{file_text, frames_text, vector_text, end_text, summary_text}

abbrev one : Shape
one = record { format = One; width = 8 }

abbrev number : ℕ → List ℕ
number n = to_le_bytes w64 n

-- a growth of 5, and a change of it to 7
abbrev group : Frame
group = frames.Group (1 ∷ []) (number 5)

abbrev change : Frame
change = frames.Change (record { start = 0; count = 1 } ∷ []) (number 7)

abbrev file : List ℕ
file = text one (group ∷ change ∷ []) ++ 0 ∷ []

-- of so many frames of each kind in that file
abbrev counts : ℕ → ℕ → ℕ → ℕ → ℕ → ℕ → Summary
counts groups changes growths records size gate = record (begun one 56) { groups = groups; changes = changes; growths = growths; records = records; size = size; gate = gate }

abbrev told : Summary
told = counts 1 1 1 1 1 55

-- ---- one frame more, of each kind

more_of_each :
    (grown one told (Group 2 7) ≡ record told { groups = 2; growths = 3; records = 8; size = 8; gate = 129 })
    × (grown one told (Change 3 4) ≡ record told { changes = 2; gate = 117 })
    × (grown one told (Shrink 0) ≡ record told { shrinks = 1; size = 0; gate = 69 })
    × (grown one told (Fold 1) ≡ record told { folds = 1; folded = 1; gate = 69 })
more_of_each = (refl, refl, refl, refl)

-- records that a shrink lets go stay counted, and the last fold's count stands
abbrev five : List Frame
five = group ∷ change ∷ frames.Fold 1 ∷ frames.Shrink 0 ∷ group ∷ []

abbrev of_five : Summary
of_five = record { version = 1; width = 8; bytes = 200; groups = 2; changes = 1; shrinks = 1; folds = 1; growths = 2; records = 2; size = 1; folded = 1; gate = 105 }

five_are_counted : summary_of_frames one 200 five ≡ of_five
five_are_counted = refl

newest_first : summary_of one 200 (outline_of group ∷ Shrink 0 ∷ Fold 1 ∷ outline_of change ∷ outline_of group ∷ []) ≡ of_five
newest_first = refl

what_they_leave : tally_in of_five ≡ record { size = 1; changes = 1; folded = 1 }
what_they_leave = refl

outlines : (outline_of (frames.Group (2 ∷ 3 ∷ []) []) ≡ Group 2 5) × (outline_of change ≡ Change 1 1) × (outline_kind (Group 2 5) ≡ 1) × (outline_kind (Change 1 1) ≡ 2)
    × (outline_kind (Shrink 4) ≡ 3) × (outline_kind (Fold 4) ≡ 4) × (outline_len one (Group 2 5) ≡ 52) × (outline_len one (Change 2 3) ≡ 40) × (outline_len one (Fold 4) ≡ 8)
outlines = (refl, refl, refl, refl, refl, refl, refl, refl, refl)

-- ---- frames that stand, and that don't

abbrev first_bytes : List ℕ
first_bytes = drop 11 file

group_stands : IsOutlined one first_bytes (Group 1 1)
unfolding u32_at u64_at
group_stands = record { opened = refl; kind = refl; len = refl; small = omega arith; whole = omega arith; number = refl }

change_stands : IsOutlined one (drop 33 file) (Change 1 1)
unfolding u32_at u64_at
change_stands = record { opened = refl; kind = refl; len = refl; small = omega arith; whole = omega arith; number = refl }

not_behind_a_closed_gate : IsOutlined one (0 ∷ drop 12 file) (Group 1 1) → ⊥
not_behind_a_closed_gate is = true≢false is.opened

not_of_another_kind : IsOutlined one first_bytes (Change 1 1) → ⊥
not_of_another_kind is = absurd (let kind = is.kind in cc)

not_of_more_records : IsOutlined one first_bytes (Group 1 2) → ⊥
unfolding u32_at
not_of_more_records is = let len : 16 ≡ 24 = is.len in absurd (omega arith)

-- one growth of two records of 4 bytes fills as many as two growths of one: the number at its front tells them apart
not_of_more_growths : IsOutlined (record { format = One; width = 4 }) first_bytes (Group 2 1) → ⊥
unfolding u32_at
not_of_more_growths is = let number : 1 ≡ 2 = is.number in absurd (omega arith)

not_cut_off : IsOutlined one (take 21 first_bytes) (Group 1 1) → ⊥
unfolding u32_at
not_cut_off is = let whole : 22 ≤ 21 = is.whole in absurd (omega arith)

fold_of_all : MayStand (record { size = 1; changes = 1; folded = 0 }) (Fold 1)
fold_of_all = record { ordered = refl; inside = refl; folded = refl; counted = refl; short = refl }

no_fold_of_more : MayStand (record { size = 1; changes = 1; folded = 0 }) (Fold 2) → ⊥
no_fold_of_more may = true≢false may.counted

shrink_once_folded : MayStand (record { size = 1; changes = 1; folded = 1 }) (Shrink 0)
shrink_once_folded = record { ordered = refl; inside = refl; folded = refl; counted = refl; short = refl }

no_shrink_over_a_live_change : MayStand (record { size = 1; changes = 1; folded = 0 }) (Shrink 0) → ⊥
no_shrink_over_a_live_change may = true≢false may.folded

no_shrink_to_more : MayStand (record { size = 1; changes = 1; folded = 1 }) (Shrink 2) → ⊥
no_shrink_to_more may = true≢false may.inside

-- ---- a file's numbers

both_stand : AreOutlined one file (Change 1 1 ∷ Group 1 1 ∷ [])
both_stand = (change_stands, tt, (group_stands, tt, tt))

not_the_change_first : AreOutlined one file (Group 1 1 ∷ Change 1 1 ∷ []) → ⊥
not_the_change_first are = not_of_another_kind are.2.0

-- a frame that may not come isn't one that stands
not_out_of_order : AreOutlined one (text one (group ∷ frames.Fold 1 ∷ []) ++ 0 ∷ []) (Fold 1 ∷ Group 1 1 ∷ []) → ⊥
not_out_of_order are = true≢false are.1.counted

sound : IsSound 8 One file
unfolding header_lines
sound = record { no_fault = refl; names = refl }

counted : IsSummaryOf file told
counted = record { shape = one; wide = omega arith; sound = sound; counts = record { outlines = Change 1 1 ∷ Group 1 1 ∷ []; stand = both_stand; are = refl }; closed = refl }

-- the gate behind the first frame is open
not_the_first_alone : IsSummaryOf file (counts 1 0 1 1 1 33) → ⊥
not_the_first_alone is = true≢false (sym is.closed)

-- with none counted the gate is behind the header
not_without_frames : Counts one file (record (begun one 56) { gate = 55 }) → ⊥
not_without_frames is = none is.outlines is.are
  where
    none : (outlines : List Outline) → record (begun one 56) { gate = 55 } ≡ summary_of one 56 outlines → ⊥
    none [] are = absurd (let gate = ap (λ (s : Summary). s.gate) are in cc)
    none (Group growths records ∷ earlier) are = let groups = ap (λ (s : Summary). s.groups) are in absurd (omega arith)
    none (Change runs records ∷ earlier) are = let changes = ap (λ (s : Summary). s.changes) are in absurd (omega arith)
    none (Shrink n ∷ earlier) are = let shrinks = ap (λ (s : Summary). s.shrinks) are in absurd (omega arith)
    none (Fold count ∷ earlier) are = let folds = ap (λ (s : Summary). s.folds) are in absurd (omega arith)

legal : AreLegal one (group ∷ change ∷ [])
legal = (
  record { wide = omega arith; small = omega arith; layout = (omega arith, ((omega arith, omega arith), tt), refl) },
  record { ordered = refl; inside = refl; folded = refl; counted = refl; short = refl },
  (
    record { wide = omega arith; small = omega arith; layout = (refl, ((omega arith, (omega arith, omega arith)), tt), refl) },
    record { ordered = refl; inside = refl; folded = refl; counted = refl; short = refl },
    tt,
  ),
)

framed : HasFrames one file (group ∷ change ∷ [])
framed = record { legal = legal; closed = (0, [], (λ (opened : 0 ≡ 1). absurd (omega arith)), refl) }

-- whatever is told of a file of these frames is just that, and no fault of it is
just_told : (s : Summary) → TellsFrames file (Ok s) → s ≡ told
just_told s tells = tells one (group ∷ change ∷ []) (omega arith) (omega arith) framed

header_not_at_fault : (fault : ScanFault) → TellsFrames file (Err (Header fault)) → ⊥
header_not_at_fault fault tells = tells one (group ∷ change ∷ []) (omega arith) (omega arith) framed

frame_not_at_fault : (fault : ScanFault) (before : Summary) → TellsFrames file (Err (FrameFault fault before)) → ⊥
frame_not_at_fault fault before tells = tells one (group ∷ change ∷ []) (omega arith) (omega arith) framed

disk_may_fail : TellsFrames file (Err (Disk disks.Read))
disk_may_fail = tt

-- ---- refusals

no_bytes : IsStatRefusal [] (Header scans.Unborn)
unfolding header_lines
no_bytes = λ width wide. refl

no_bytes_alone : IsStatRefusal [] (Header scans.NotSegment) → ⊥
unfolding header_lines
no_bytes_alone is = absurd (let same = is 1 (omega arith) in cc)

-- a gate that is open, and nothing behind it
abbrev cut_file : List ℕ
cut_file = text one (group ∷ []) ++ 1 ∷ []

cut_sound : IsSound 8 One cut_file
unfolding header_lines
cut_sound = record { no_fault = refl; names = refl }

abbrev before_cut : Summary
before_cut = record (begun one 34) { groups = 1; growths = 1; records = 1; size = 1; gate = 33 }

cut_group : IsOutlined one (drop 11 cut_file) (Group 1 1)
unfolding u32_at u64_at
cut_group = record { opened = refl; kind = refl; len = refl; small = omega arith; whole = omega arith; number = refl }

cut_is_refused : IsStatRefusal cut_file (FrameFault (damaged 33 ShortFrame) before_cut)
unfolding frame_fault frame_lines
cut_is_refused = record { shape = one; wide = omega arith; sound = cut_sound; counts = record { outlines = Group 1 1 ∷ []; stand = (cut_group, tt, tt); are = refl }; fails = refl }

-- the fault there is no other, and in front of the growth there is none
no_other_fault : IsStatRefusal cut_file (FrameFault (damaged 33 NoGate) before_cut) → ⊥
unfolding frame_fault frame_lines
no_other_fault is = absurd (let fails = is.fails in cc)

-- ---- calls

calls_of_two_frames : AreCalls 3 8 (Ok told) × (AreCalls 3 9 (Ok told) → ⊥) × AreCalls 3 8 (Err (FrameFault (damaged 55 NoGate) told))
    × (AreCalls 3 9 (Err (FrameFault (damaged 55 NoGate) told)) → ⊥)
calls_of_two_frames = (omega arith, (λ le. absurd (omega arith)), omega arith, λ le. absurd (omega arith))

calls_of_failures : AreCalls 3 4 (Err (Disk disks.Length)) × (AreCalls 3 5 (Err (Disk disks.Length)) → ⊥) × AreCalls 3 5 (Err (Disk disks.Read))
    × (AreCalls 3 4 (Err (Disk disks.Read)) → ⊥) × (AreCalls 3 4 (Err (Disk disks.Write)) → ⊥) × (AreCalls 3 4 (Err (Disk disks.Sync)) → ⊥)
    × AreCalls 3 5 (Err (Header scans.Unborn)) × (AreCalls 3 4 (Err (Header scans.Unborn)) → ⊥)
calls_of_failures = (
  refl,
  (λ is. absurd (omega arith)),
  omega arith,
  (λ le. absurd (omega arith)),
  (λ never. never),
  (λ never. never),
  refl,
  (λ is. absurd (omega arith)),
)

failures : (failed_in (Disk disks.Read) ≡ 1) × (failed_in (Header scans.Unborn) ≡ 0) × (failed_in (FrameFault scans.Unborn told) ≡ 0) × (failed_at ends.Done ≡ 0)
    × (failed_at (ends.Refused (Disk disks.Length)) ≡ 1) × (failed_at (ends.Refused (Header scans.Unborn)) ≡ 0)
failures = (refl, refl, refl, refl, refl, refl)

few : AreFew told
few = record { frames = omega arith; growths = omega arith; records = omega arith; size = omega arith }

not_few : AreFew (counts 1 1 1 56 1 55) → ⊥
not_few are = let records = are.records in absurd (omega arith)

-- ---- only reading

abbrev byte : ℕ → State
byte n = settled (n ∷ [])

same_byte : (a b : ℕ) → a ∷ [] ≡ b ∷ [] → a ≡ b
same_byte a b is = cc

read_twice : OnlyReads (byte 1 ∷ []) (byte 1 ∷ byte 1 ∷ [])
read_twice = record {
  same = refl;
  images = record {
    past = (byte 1 ∷ [], refl);
    each = λ image left. elim left.1 [ inl here ↦ here | inr before ↦ elim before.1 [ inl here ↦ here | inr never ↦ absurd never ] ];
    newest = λ image is. is;
  };
}

not_written_since : OnlyReads (byte 1 ∷ []) (byte 2 ∷ byte 1 ∷ []) → ⊥
not_written_since only = let same = same_byte 2 1 (ap (λ (s : State). s.seen) only.same) in absurd (omega arith)

-- nor between, and put back
not_meanwhile : OnlyReads (byte 1 ∷ []) (byte 1 ∷ byte 2 ∷ byte 1 ∷ []) → ⊥
not_meanwhile only =
    let same = same_byte 2 1 (IsImage-settled (1 ∷ []) (2 ∷ []) (only.images.each (2 ∷ []) (omega arith, inr (omega arith, inl (settled_image (2 ∷ [])))))) in
    absurd (omega arith)

-- ---- the text

as_lines : summary_text Lines told ≡ codes "version 1\nwidth 8\nbytes 56\ngroups 1\nchanges 1\nshrinks 0\nfolds 0\ngrowths 1\nrecords 1\nsize 1\nlive 1\ngate 55\nbehind 0\n"
unfolding file_text frames_text vector_text end_text digits
as_lines = refl

as_json : summary_text Json of_five
    ≡ codes "{\"version\":1,\"width\":8,\"bytes\":200,\"groups\":2,\"changes\":1,\"shrinks\":1,\"folds\":1"
    ++ codes ",\"growths\":2,\"records\":2,\"size\":1,\"live\":0,\"gate\":105,\"behind\":94}\n"
unfolding file_text frames_text vector_text end_text digits
as_json = refl

abbrev AnyCalls : Result Summary StatFault → Type 0
AnyCalls result = Unit {0}

told_whole : IsTold (Unit {0}) file AnyCalls Lines (Some []) (Some (summary_text Lines told)) ends.Done
told_whole = (told, (λ known. counted), tt, refl)

not_without_its_text : IsTold (Unit {0}) file AnyCalls Lines (Some []) (Some []) ends.Done → ⊥
unfolding file_text frames_text vector_text end_text
not_without_its_text is = absurd (let written = is.3 in cc)

nothing_behind_a_refusal : IsTold (Unit {0}) [] AnyCalls Lines (Some []) (Some (1 ∷ [])) (ends.Refused (Header scans.Unborn)) → ⊥
nothing_behind_a_refusal is = absurd (let kept = is.2 in cc)

-- each tells of the calls that it took
calls_are_told : IsTold (Unit {0}) file (AreCalls 3 9) Lines (Some []) (Some (summary_text Lines told)) (ends.Refused (Disk disks.Length)) → ⊥
calls_are_told is = let calls = is.1 in absurd (omega arith)
