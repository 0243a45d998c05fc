-- What the definitions compute to on worked files, byte by byte: their text, where each position's bytes stand, the
-- record there, and the first fault of files with other bytes.
use Rattle.std.proofs.Common.{◌≡◌, ℕ, true, false, List, [], ◌∷◌, ◌++◌, Option, Some, None, refl, ◌+◌, take, drop, replicate}
use Rattle.std.specs.Int.{w64, to_le_bytes}
use Rattle.record_core.specs.Bytes.{Encoding, unsigned, flagged}
use Rattle.segment_core.specs.declared.fault.Cause.TheVariants.{NoGate, ShortFrame, Kind, TooLarge, Layout, Runs, Range, Unfolded, FoldCount, TooLong}
use Rattle.segment_core.specs.declared.fault.ScanFault.{ScanFault}
use Rattle.segment_core.specs.declared.fault.ScanFault.TheVariants.{Unborn, NotSegment, Version, Width}
use Rattle.segment_core.specs.declared.format.Format.TheVariants.{One, Two}
use Rattle.segment_core.specs.declared.format.Shape.{Shape}
use Rattle.segment_core.specs.Command.{Command, Grow, content, replaced}
use Rattle.segment_core.specs.Command as commands
use Rattle.segment_core.specs.Shape.{shape_of}
use Rattle.segment_core.specs.Frame.{Run, Frame, Group, Change, Shrink, Fold, text}
use Rattle.segment_core.specs.Layout.{u32_at, u64_at, is_group_layout, is_change_layout, is_layout, frame_in}
use Rattle.segment_core.specs.Tally.{tally_of}
use Rattle.segment_core.specs.Vector.{place_of, record_at}
use Rattle.segment_core.specs.Fault.{header_fault, header_lines, frame_fault, frame_lines, order_lines, damaged}

abbrev run : ℕ → ℕ → Run
run start count = record { start = start; count = count }

abbrev number : ℕ → List ℕ
number n = to_le_bytes w64 n

abbrev numbers : Encoding ℕ
numbers = unsigned w64

abbrev one : Shape
one = record { format = One; width = 8 }

abbrev two : Shape
two = record { format = Two; width = 8 }

-- the vector of one growth of 5, whose only record a change makes 7
abbrev grown : Frame
grown = Group (1 ∷ []) (number 5)

abbrev changed : List Frame
changed = grown ∷ Change (run 0 1 ∷ []) (number 7) ∷ []

-- ---- bytes

-- a number below 256 in four bytes, and in eight
abbrev four : ℕ → List ℕ
four n = n ∷ 0 ∷ 0 ∷ 0 ∷ []

abbrev eight : ℕ → List ℕ
eight n = n ∷ 0 ∷ 0 ∷ 0 ∷ 0 ∷ 0 ∷ 0 ∷ 0 ∷ []

-- a header, and what stands before the payload of a frame
abbrev header_bytes : ℕ → ℕ → List ℕ
header_bytes version width = 1 ∷ 67 ∷ 86 ∷ 69 ∷ 67 ∷ 83 ∷ 69 ∷ 71 ∷ version ∷ width ∷ 0 ∷ []

abbrev head_bytes : ℕ → ℕ → List ℕ
head_bytes kind len = 1 ∷ kind ∷ four len

-- the same bytes but for one
abbrev with_byte : ℕ → ℕ → List ℕ → List ℕ
with_byte place byte bytes = take place bytes ++ byte ∷ drop (place + 1) bytes

-- ---- a change of one run, version 1

abbrev grown_bytes : List ℕ
grown_bytes = head_bytes 1 16 ++ four 1 ++ four 1 ++ eight 5

abbrev changed_bytes : List ℕ
changed_bytes = head_bytes 2 16 ++ eight 0 ++ eight 7

abbrev changed_file : List ℕ
changed_file =
    header_bytes 1 8 ++ grown_bytes ++ changed_bytes ++ 0 ∷ []

changed_text : text one changed ++ 0 ∷ [] ≡ changed_file
changed_text = refl

changed_place : place_of one changed 0 ≡ Some 47
unfolding place_of
changed_place = refl

changed_record : record_at One numbers changed_file changed 0 ≡ Some 7
unfolding place_of
changed_record = refl

-- the home bytes under a live change are any
abbrev any_home_file : List ℕ
any_home_file = header_bytes 1 8 ++ head_bytes 1 16 ++ four 1 ++ four 1 ++ replicate 8 255 ++ changed_bytes ++ 0 ∷ []

changed_over_any_bytes : record_at One numbers any_home_file changed 0 ≡ Some 7
unfolding place_of
changed_over_any_bytes = refl

change_read : frame_in one 2 (eight 0 ++ eight 7) ≡ Change (run 0 1 ∷ []) (number 7)
unfolding u32_at u64_at
change_read = refl

-- ---- a fold

abbrev folded : List Frame
folded = grown ∷ Change (run 0 1 ∷ []) (number 7) ∷ Fold 1 ∷ []

abbrev folded_bytes : List ℕ
folded_bytes = head_bytes 4 8 ++ eight 1

abbrev folded_file : List ℕ
folded_file =
    header_bytes 1 8 ++ grown_bytes ++ changed_bytes ++ folded_bytes ++ 0 ∷ []

folded_text : text one folded ++ 0 ∷ [] ≡ folded_file
folded_text = refl

folded_place : place_of one folded 0 ≡ Some 25
unfolding place_of
folded_place = refl

folded_record : record_at One numbers folded_file folded 0 ≡ Some 5
unfolding place_of
folded_record = refl

folded_too_much : frame_fault one 55 (tally_of changed) (drop 55 (with_byte 61 2 folded_file)) ≡ Some (damaged 61 FoldCount)
unfolding frame_fault frame_lines order_lines is_group_layout is_change_layout u32_at u64_at
folded_too_much = refl

-- a later count below the one before
fold_count_falls : frame_fault one 69 (tally_of folded) (head_bytes 4 8 ++ eight 0 ++ 0 ∷ []) ≡ Some (damaged 75 FoldCount)
unfolding frame_fault frame_lines order_lines is_group_layout is_change_layout u32_at u64_at
fold_count_falls = refl

fold_count_stays : frame_fault one 69 (tally_of folded) (head_bytes 4 8 ++ eight 1 ++ 0 ∷ []) ≡ None
unfolding frame_fault frame_lines order_lines is_group_layout is_change_layout u32_at u64_at
fold_count_stays = refl

-- ---- the last of two live changes tells; a growth behind a shrink takes the positions anew

abbrev changed_again : List Frame
changed_again = grown ∷ Change (run 0 1 ∷ []) (number 7) ∷ Change (run 0 1 ∷ []) (number 9) ∷ []

last_change_tells : place_of one changed_again 0 ≡ Some 69
unfolding place_of
last_change_tells = refl

changed_again_record : record_at One numbers (text one changed_again ++ 0 ∷ []) changed_again 0 ≡ Some 9
unfolding place_of
changed_again_record = refl

abbrev grown_again : List Frame
grown_again = grown ∷ Shrink 0 ∷ Group (1 ∷ []) (number 6) ∷ []

last_home_tells : place_of one grown_again 0 ≡ Some 61
unfolding place_of
last_home_tells = refl

grown_again_record : record_at One numbers (text one grown_again ++ 0 ∷ []) grown_again 0 ≡ Some 6
unfolding place_of
grown_again_record = refl

-- a change committed after the fold began stays live
abbrev changed_behind : List Frame
changed_behind = grown ∷ Change (run 0 1 ∷ []) (number 7) ∷ Change (run 0 1 ∷ []) (number 9) ∷ Fold 1 ∷ []

behind_the_second_fold : record_at One numbers (text one changed_behind ++ 0 ∷ []) changed_behind 0 ≡ Some 9
unfolding place_of
behind_the_second_fold = refl

-- ---- bytes that are no record

abbrev bad : List Frame
bad = Group (1 ∷ []) (eight 5 ++ 2 ∷ []) ∷ []

abbrev covered : List Frame
covered = Group (1 ∷ []) (eight 5 ++ 2 ∷ []) ∷ Change (run 0 1 ∷ []) (eight 7 ++ 1 ∷ []) ∷ []

abbrev bad_bytes : List ℕ
bad_bytes = head_bytes 1 17 ++ four 1 ++ four 1 ++ eight 5 ++ 2 ∷ []

abbrev bad_file : List ℕ
bad_file =
    header_bytes 1 9 ++ bad_bytes ++ 0 ∷ []

abbrev covered_file : List ℕ
covered_file =
    header_bytes 1 9 ++ bad_bytes ++ head_bytes 2 17 ++ eight 0 ++ eight 7 ++ 1 ∷ 0 ∷ []

bad_text : text (shape_of One flagged) bad ++ 0 ∷ [] ≡ bad_file
bad_text = refl

bad_place : place_of (shape_of One flagged) bad 0 ≡ Some 25
unfolding place_of
bad_place = refl

bad_record : record_at One flagged bad_file bad 0 ≡ None
unfolding place_of
bad_record = refl

covered_text : text (shape_of One flagged) covered ++ 0 ∷ [] ≡ covered_file
covered_text = refl

covered_record : record_at One flagged covered_file covered 0 ≡ Some (record { key = 7; flag = true })
unfolding place_of
covered_record = refl

-- ---- a shrink waits for the fold

abbrev shrunk : List Frame
shrunk = Group (2 ∷ []) (number 5 ++ number 6) ∷ Change (run 1 1 ∷ []) (number 6) ∷ Fold 1 ∷ Shrink 1 ∷ []

abbrev shrunk_file : List ℕ
shrunk_file =
    header_bytes 1 8
    ++ head_bytes 1 24 ++ four 1 ++ four 2 ++ eight 5 ++ eight 6
    ++ head_bytes 2 16 ++ eight 1 ++ eight 6
    ++ folded_bytes
    ++ head_bytes 3 8 ++ eight 1
    ++ 0 ∷ []

shrunk_text : text one shrunk ++ 0 ∷ [] ≡ shrunk_file
shrunk_text = refl

shrunk_size : tally_of shrunk ≡ record { size = 1; changes = 1; folded = 1 }
shrunk_size = refl

shrunk_record : record_at One numbers shrunk_file shrunk 0 ≡ Some 5
unfolding place_of
shrunk_record = refl

unfolded : frame_fault one 63 (tally_of (Group (2 ∷ []) [] ∷ Change (run 1 1 ∷ []) [] ∷ [])) (drop 77 shrunk_file) ≡ Some (damaged 63 Unfolded)
unfolding frame_fault frame_lines order_lines is_group_layout is_change_layout u32_at u64_at
unfolded = refl

shrunk_too_far : frame_fault one 33 (tally_of (grown ∷ [])) (head_bytes 3 8 ++ eight 2 ++ 0 ∷ []) ≡ Some (damaged 39 Range)
unfolding frame_fault frame_lines order_lines is_group_layout is_change_layout u32_at u64_at
shrunk_too_far = refl

-- ---- faults of a change

-- the fault of the frame behind the growth
abbrev fault_behind_growth : Shape → List ℕ → Option ScanFault
fault_behind_growth shape file = frame_fault shape 33 (tally_of (grown ∷ [])) (drop 33 file)

faults_of_change :
    (fault_behind_growth one (with_byte 39 255 changed_file) ≡ Some (damaged 39 Range))
    × (fault_behind_growth one (with_byte 46 255 changed_file) ≡ Some (damaged 39 Range))
    × (fault_behind_growth one (with_byte 39 1 changed_file) ≡ Some (damaged 39 Range))
    × (fault_behind_growth one (with_byte 34 255 changed_file) ≡ Some (damaged 34 (Kind 255)))
    × (fault_behind_growth one (with_byte 34 0 changed_file) ≡ Some (damaged 34 (Kind 0)))
    × (fault_behind_growth one (with_byte 35 255 changed_file) ≡ Some (damaged 33 ShortFrame))
    × (fault_behind_growth one (with_byte 37 255 changed_file) ≡ Some (damaged 35 TooLarge))
    -- version 2 takes up to 16 times as much
    × (fault_behind_growth two (with_byte 37 255 changed_file) ≡ Some (damaged 33 ShortFrame))
    × (fault_behind_growth two (with_byte 38 255 changed_file) ≡ Some (damaged 35 TooLarge))
unfolding frame_fault frame_lines order_lines is_group_layout is_change_layout u32_at u64_at
faults_of_change = (refl, refl, refl, refl, refl, refl, refl, refl, refl)

layouts :
    (is_layout one 2 [] ≡ false)
    × (is_layout one 2 (replicate 7 0) ≡ false)
    × (is_layout one 2 (replicate 8 0) ≡ false)
    × (is_layout one 2 (replicate 15 0) ≡ false)
    × (is_layout one 2 (replicate 17 0) ≡ false)
    × (is_layout one 2 (replicate 16 0) ≡ true)
    × (is_layout two 2 (replicate 8 0) ≡ false)
unfolding is_change_layout u64_at u32_at
layouts = (refl, refl, refl, refl, refl, refl, refl)

faults_at_end :
    (frame_fault one 55 (tally_of changed) [] ≡ Some (damaged 55 NoGate))
    × (frame_fault one 55 (tally_of changed) (7 ∷ []) ≡ None)
unfolding frame_fault frame_lines order_lines is_group_layout is_change_layout u32_at u64_at
faults_at_end = (refl, refl)

too_long : frame_fault one 33 (record { size = 4294967296; changes = 0; folded = 0 }) (drop 11 changed_file) ≡ Some (damaged 39 TooLong)
unfolding frame_fault frame_lines order_lines is_group_layout is_change_layout u32_at u64_at
too_long = refl

-- ---- the header

header_faults :
    (header_fault 8 (1 ∷ []) ≡ Some Unborn)
    × (header_fault 8 (with_byte 0 255 changed_file) ≡ Some Unborn)
    × (header_fault 8 (with_byte 7 255 changed_file) ≡ Some NotSegment)
    × (header_fault 8 (take 10 changed_file) ≡ Some NotSegment)
    × (header_fault 8 (with_byte 8 0 changed_file) ≡ Some (Version 0))
    × (header_fault 8 (with_byte 8 3 changed_file) ≡ Some (Version 3))
    × (header_fault 8 (with_byte 10 255 changed_file) ≡ Some (Width 65288))
    × (header_fault 8 changed_file ≡ None)
unfolding header_lines
header_faults = (refl, refl, refl, refl, refl, refl, refl, refl)

-- ---- a change of two runs, version 2

abbrev fives : Frame
fives = Group (4 ∷ []) (number 5 ++ number 5 ++ number 5 ++ number 5)

abbrev two_runs : List Frame
two_runs = fives ∷ Change (run 0 1 ∷ run 2 2 ∷ []) (number 7 ++ number 8 ++ number 9) ∷ []

-- the payload of the change: its runs, and their records
abbrev two_runs_bytes : List ℕ
two_runs_bytes = four 2 ++ eight 0 ++ four 1 ++ eight 2 ++ four 2 ++ eight 7 ++ eight 8 ++ eight 9

abbrev two_runs_file : List ℕ
two_runs_file =
    header_bytes 2 8
    ++ head_bytes 1 40 ++ four 1 ++ four 4 ++ eight 5 ++ eight 5 ++ eight 5 ++ eight 5
    ++ head_bytes 2 52 ++ two_runs_bytes
    ++ 0 ∷ []

two_runs_text : text two two_runs ++ 0 ∷ [] ≡ two_runs_file
two_runs_text = refl

two_runs_read : frame_in two 2 two_runs_bytes ≡ Change (run 0 1 ∷ run 2 2 ∷ []) (number 7 ++ number 8 ++ number 9)
unfolding u32_at u64_at
two_runs_read = refl

two_runs_records :
    (record_at Two numbers two_runs_file two_runs 0 ≡ Some 7)
    × (record_at Two numbers two_runs_file two_runs 1 ≡ Some 5)
    × (record_at Two numbers two_runs_file two_runs 2 ≡ Some 8)
    × (record_at Two numbers two_runs_file two_runs 3 ≡ Some 9)
unfolding place_of
two_runs_records = (refl, refl, refl, refl)

-- the fault of the frame behind the fives
abbrev fault_behind_fives : Shape → List ℕ → Option ScanFault
fault_behind_fives shape file = frame_fault shape 57 (tally_of (fives ∷ [])) (drop 57 file)

faults_of_two_runs :
    (fault_behind_fives two (with_byte 79 0 two_runs_file) ≡ Some (damaged 63 Runs))
    -- runs that are out of order are told before one that is outside
    × (fault_behind_fives two (with_byte 67 9 two_runs_file) ≡ Some (damaged 63 Runs))
    × (fault_behind_fives two (with_byte 79 3 two_runs_file) ≡ Some (damaged 63 Range))
    × (fault_behind_fives two (with_byte 75 0 two_runs_file) ≡ Some (damaged 63 Layout))
    × (fault_behind_fives one (with_byte 8 1 two_runs_file) ≡ Some (damaged 63 Layout))
    × (fault_behind_fives two (with_byte 79 1 two_runs_file) ≡ None)
unfolding frame_fault frame_lines order_lines is_group_layout is_change_layout u32_at u64_at
faults_of_two_runs = (refl, refl, refl, refl, refl, refl)

no_runs : is_layout two 2 (replicate 4 0) ≡ false
unfolding is_change_layout u64_at u32_at
no_runs = refl

-- ---- commands

abbrev some_commands : List (Command ℕ)
some_commands =
    Grow (5 ∷ []) ∷ Grow (6 ∷ 7 ∷ []) ∷ commands.Change (run 1 2 ∷ []) (8 ∷ 9 ∷ []) ∷ commands.Shrink 2 ∷ []

content_of : content [] some_commands ≡ 5 ∷ 8 ∷ []
content_of = refl

runs_replaced : replaced {R = ℕ} (5 ∷ 5 ∷ 5 ∷ 5 ∷ []) (run 0 1 ∷ run 2 2 ∷ []) (7 ∷ 8 ∷ 9 ∷ []) ≡ 7 ∷ 5 ∷ 8 ∷ 9 ∷ []
runs_replaced = refl
