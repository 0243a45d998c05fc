-- Which fault is told where several are there: each pair of worked bytes has two faults, of which one is told.
use Rattle.std.proofs.Common.{◌≡◌, [], ◌∷◌, ◌++◌, Some, refl}
use Rattle.segment_core.specs.declared.fault.Cause.TheVariants.{ShortFrame, Kind, TooLarge, Layout, Runs, Range}
use Rattle.segment_core.specs.declared.fault.ScanFault.TheVariants.{Unborn, NotSegment, Version}
use Rattle.segment_core.specs.declared.format.Format.TheVariants.{One, Two}
use Rattle.segment_core.specs.declared.format.Shape.{Shape}
use Rattle.segment_core.specs.declared.tally.Tally.{Tally}
use Rattle.segment_core.specs.Shape.{version_of, limit_of}
use Rattle.segment_core.specs.Layout.{u32_at, u64_at, is_group_layout, is_change_layout}
use Rattle.segment_core.specs.Fault.{header_fault, header_lines, frame_fault, frame_lines, order_lines, damaged}

abbrev one : Shape
one = record { format = One; width = 8 }

abbrev two : Shape
two = record { format = Two; width = 8 }

-- ---- the numbers of the versions

version_of_one : version_of One ≡ 1
version_of_one = refl

version_of_two : version_of Two ≡ 2
version_of_two = refl

limit_of_one : limit_of One ≡ 1048576
limit_of_one = refl

limit_of_two : limit_of Two ≡ 16777216
limit_of_two = refl

-- ---- the header

-- a first gate that isn't open, and another magic
gate_before_magic : header_fault 8 (0 ∷ 67 ∷ 86 ∷ 69 ∷ 67 ∷ 83 ∷ 69 ∷ 70 ∷ 1 ∷ 8 ∷ 0 ∷ []) ≡ Some Unborn
unfolding header_lines
gate_before_magic = refl

-- another magic, and another version
magic_before_version : header_fault 8 (1 ∷ 67 ∷ 86 ∷ 69 ∷ 67 ∷ 83 ∷ 69 ∷ 70 ∷ 3 ∷ 8 ∷ 0 ∷ []) ≡ Some NotSegment
unfolding header_lines
magic_before_version = refl

-- another version, and another width
version_before_width : header_fault 8 (1 ∷ 67 ∷ 86 ∷ 69 ∷ 67 ∷ 83 ∷ 69 ∷ 71 ∷ 3 ∷ 4 ∷ 0 ∷ []) ≡ Some (Version 3)
unfolding header_lines
version_before_width = refl

-- ---- a frame by itself

-- what the frames before it leave: one record, and a change of it that isn't folded
abbrev changed : Tally
changed = record { size = 1; changes = 1; folded = 0 }

-- a front of a head, of another kind
short_before_kind : frame_fault one 33 changed (1 ∷ 5 ∷ 255 ∷ 255 ∷ 255 ∷ []) ≡ Some (damaged 33 ShortFrame)
unfolding frame_fault frame_lines order_lines is_group_layout is_change_layout u32_at u64_at
short_before_kind = refl

-- another kind, a payload past the limit, and none of it there
kind_before_too_large : frame_fault one 33 changed (1 ∷ 5 ∷ 1 ∷ 0 ∷ 16 ∷ 0 ∷ []) ≡ Some (damaged 34 (Kind 5))
unfolding frame_fault frame_lines order_lines is_group_layout is_change_layout u32_at u64_at
kind_before_too_large = refl

too_large_before_short : frame_fault one 33 changed (1 ∷ 1 ∷ 1 ∷ 0 ∷ 16 ∷ 0 ∷ []) ≡ Some (damaged 35 TooLarge)
unfolding frame_fault frame_lines order_lines is_group_layout is_change_layout u32_at u64_at
too_large_before_short = refl

-- the limit itself is within it
short_at_the_limit : frame_fault one 33 changed (1 ∷ 1 ∷ 0 ∷ 0 ∷ 16 ∷ 0 ∷ []) ≡ Some (damaged 33 ShortFrame)
unfolding frame_fault frame_lines order_lines is_group_layout is_change_layout u32_at u64_at
short_at_the_limit = refl

too_large_in_two : frame_fault two 33 changed (1 ∷ 1 ∷ 1 ∷ 0 ∷ 0 ∷ 1 ∷ []) ≡ Some (damaged 35 TooLarge)
unfolding frame_fault frame_lines order_lines is_group_layout is_change_layout u32_at u64_at
too_large_in_two = refl

short_at_the_limit_in_two : frame_fault two 33 changed (1 ∷ 1 ∷ 0 ∷ 0 ∷ 0 ∷ 1 ∷ []) ≡ Some (damaged 33 ShortFrame)
unfolding frame_fault frame_lines order_lines is_group_layout is_change_layout u32_at u64_at
short_at_the_limit_in_two = refl

-- a shrink whose payload would have another form, and isn't there as a whole
short_before_layout : frame_fault one 33 changed (1 ∷ 3 ∷ 9 ∷ 0 ∷ 0 ∷ 0 ∷ 0 ∷ []) ≡ Some (damaged 33 ShortFrame)
unfolding frame_fault frame_lines order_lines is_group_layout is_change_layout u32_at u64_at
short_before_layout = refl

-- ---- a frame after those before it

-- two runs of one record each, from 9 and from 0 on: out of order, and outside; and a byte of a third record
layout_before_runs : frame_fault two 33 changed
    ((1 ∷ 2 ∷ 45 ∷ 0 ∷ 0 ∷ 0 ∷ 2 ∷ 0 ∷ 0 ∷ 0 ∷ []) ++ (9 ∷ 0 ∷ 0 ∷ 0 ∷ 0 ∷ 0 ∷ 0 ∷ 0 ∷ 1 ∷ 0 ∷ 0 ∷ 0 ∷ [])
    ++ (0 ∷ 0 ∷ 0 ∷ 0 ∷ 0 ∷ 0 ∷ 0 ∷ 0 ∷ 1 ∷ 0 ∷ 0 ∷ 0 ∷ [])
    ++ (7 ∷ 0 ∷ 0 ∷ 0 ∷ 0 ∷ 0 ∷ 0 ∷ 0 ∷ 8 ∷ 0 ∷ 0 ∷ 0 ∷ 0 ∷ 0 ∷ 0 ∷ 0 ∷ 0 ∷ [])) ≡ Some (damaged 39 Layout)
unfolding frame_fault frame_lines order_lines is_group_layout is_change_layout u32_at u64_at
layout_before_runs = refl

-- the same without that byte
runs_before_range : frame_fault two 33 changed
    ((1 ∷ 2 ∷ 44 ∷ 0 ∷ 0 ∷ 0 ∷ 2 ∷ 0 ∷ 0 ∷ 0 ∷ []) ++ (9 ∷ 0 ∷ 0 ∷ 0 ∷ 0 ∷ 0 ∷ 0 ∷ 0 ∷ 1 ∷ 0 ∷ 0 ∷ 0 ∷ [])
    ++ (0 ∷ 0 ∷ 0 ∷ 0 ∷ 0 ∷ 0 ∷ 0 ∷ 0 ∷ 1 ∷ 0 ∷ 0 ∷ 0 ∷ [])
    ++ (7 ∷ 0 ∷ 0 ∷ 0 ∷ 0 ∷ 0 ∷ 0 ∷ 0 ∷ 8 ∷ 0 ∷ 0 ∷ 0 ∷ 0 ∷ 0 ∷ 0 ∷ 0 ∷ [])) ≡ Some (damaged 39 Runs)
unfolding frame_fault frame_lines order_lines is_group_layout is_change_layout u32_at u64_at
runs_before_range = refl

-- a shrink to more than there is, while a change is live
range_before_unfolded : frame_fault one 33 changed (1 ∷ 3 ∷ 8 ∷ 0 ∷ 0 ∷ 0 ∷ 2 ∷ 0 ∷ 0 ∷ 0 ∷ 0 ∷ 0 ∷ 0 ∷ 0 ∷ []) ≡ Some (damaged 39 Range)
unfolding frame_fault frame_lines order_lines is_group_layout is_change_layout u32_at u64_at
range_before_unfolded = refl
