-- Growths as frames: what a writer of whole files puts into one.
use Rattle.std.specs.Prelude.{◌≡◌, ℕ, ◌+◌, ◌*◌, ◌<◌, List, [], ◌∷◌, ◌++◌, ◌≤◌, length, map, take, slice_get, Some}
use Rattle.std.specs.Global.{Vec}
use Rattle.std.specs.List.{flat_map, AllByRecursion}
use Rattle.record_core.specs.Bytes.{Encoding}
use Rattle.segment_core.specs.declared.fault.GroupFault.{GroupFault}
use Rattle.segment_core.specs.declared.fault.GroupFault.TheVariants as group_faults
use Rattle.segment_core.specs.declared.fault.ImageFault.{ImageFault}
use Rattle.segment_core.specs.declared.fault.ImageFault.TheVariants.{TooLarge, Memory}
use Rattle.record_core.specs.Limits.{payload_limit}
use Rattle.segment_core.specs.declared.format.Format.TheVariants.{One}
use Rattle.segment_core.specs.Shape.{shape_of}
use Rattle.segment_core.specs.Frame.{Frame, Group, text, closed_gate}

-- groups of growths as lists
abbrev pub growths_of : {R : Type 0} → List (Vec R) → List (List R)
growths_of growths = map (λ growth. growth.items) growths

abbrev pub groups_of : {R : Type 0} → List (Vec (Vec R)) → List (List (List R))
groups_of groups = map (λ group. growths_of group.items) groups

-- the records of growths, in order
abbrev pub joined : {R : Type 0} → List (List R) → List R
joined growths = flat_map (λ growth. growth) growths

-- the frame of one group
abbrev pub group_frame : {R : Type 0} → Encoding R → List (List R) → Frame
group_frame form growths = Group (map length growths) (flat_map form.bytes_of (joined growths))

-- the file: the Groups, and a closed gate
abbrev pub file_of : {R : Type 0} → Encoding R → List (List (List R)) → List ℕ
file_of form groups = text (shape_of One form) (map (group_frame form) groups) ++ closed_gate ∷ []

-- the bytes of a group's payload
abbrev pub payload_len : {R : Type 0} → ℕ → List (List R) → ℕ
payload_len width growths = 4 + length growths * 4 + length (joined growths) * width

-- every group has a growth, and every growth a record
abbrev pub AreFilled : {R : Type 0} → List (List (List R)) → Type 0
AreFilled groups = AllByRecursion (λ group. (0 < length group) × AllByRecursion (λ growth. 0 < length growth) group) groups

-- the records of groups, in order
abbrev pub all_records : {R : Type 0} → List (List (List R)) → List R
all_records groups = joined (map joined groups)

-- every payload is within the limit
abbrev pub AllFit : {R : Type 0} → ℕ → List (List (List R)) → Type 0
AllFit width groups = AllByRecursion (λ group. payload_len width group ≤ payload_limit) groups

-- why a group gets no frame: its payload is past the limit; for want of memory alone, it is not
abbrev pub IsGroupRefused : {R : Type 0} → ℕ → ℕ → List (List R) → GroupFault → Type 0
IsGroupRefused width limit growths group_faults.TooLarge = limit < payload_len width growths
IsGroupRefused width limit growths group_faults.Memory = payload_len width growths ≤ limit

-- the first group past the limit is k; for want of memory alone, none is
abbrev pub IsImageRefused : {R : Type 0} → ℕ → List (List (List R)) → ImageFault → Type 0
IsImageRefused {R} width groups (TooLarge k) = AllFit width (take k groups) × (group : List (List R)) × (slice_get groups k ≡ Some group) × (payload_limit < payload_len width group)
IsImageRefused width groups Memory = AllFit width groups
