-- A real file as a disk: what its calls and their answers, of which the newest stands first, make of what it held.
use Rattle.std.specs.Prelude.{ℕ, ◌+◌, ◌≡◌, List, [], ◌∷◌, length, get_or, slice_range}
use Rattle.record_core.specs.Bytes.{IsBytes}
use Rattle.disk_core.specs.declared.ghost_bytes.GhostBytes.{GhostBytes}
use Rattle.disk_core.specs.declared.file_event.FileEvent.{FileEvent}
use Rattle.disk_core.specs.declared.file_event.FileEvent.TheVariants.{Measured, Read, Written, Torn, Synced, Failed}
use Rattle.disk_core.specs.FileTruth.{FileTruth}
use Rattle.disk_core.specs.State.{State, now, settled, touched, written, IsTorn}

-- When a file is opened, nothing of it is known to be on the disk.
abbrev pub opened : List ℕ → State
opened held = record { seen = held; synced = []; pending = []; greatest = length held }

-- the bytes that were read or written, and what a failed write left
abbrev pub state_after : FileEvent → List ℕ → List ℕ → State → State
state_after (Measured n) bytes left s = s
state_after (Read at) bytes left s = s
state_after (Written at) bytes left s = written s at bytes
state_after (Torn e) bytes left s = touched s e.at e.len left
state_after Synced bytes left s = settled s.seen
state_after Failed bytes left s = s

-- what the call that came after these left
abbrev pub left_by : FileTruth → List (FileEvent × GhostBytes) → List ℕ
left_by truth log = get_or truth.left (length log) []

abbrev pub file_states : FileTruth → List (FileEvent × GhostBytes) → List State
file_states truth [] = opened truth.held ∷ []
file_states truth ((event, passed) ∷ log) = state_after event passed.bytes (left_by truth log) (now (file_states truth log)) ∷ file_states truth log

-- the answer is that of a file which keeps the model
abbrev pub Agrees : FileEvent → List ℕ → List ℕ → State → Type 0
Agrees (Measured n) bytes left s = n ≡ length s.seen
Agrees (Read at) bytes left s = bytes ≡ slice_range s.seen at (at + length bytes)
Agrees (Written at) bytes left s = Unit {0}
Agrees (Torn e) bytes left s = IsTorn e.at e.len s.seen left × IsBytes left
Agrees Synced bytes left s = Unit {0}
Agrees Failed bytes left s = Unit {0}

-- so far all answers are, and the file held bytes
abbrev pub HasAgreed : FileTruth → List (FileEvent × GhostBytes) → Type 0
HasAgreed truth [] = IsBytes truth.held
HasAgreed truth ((event, passed) ∷ log) = Agrees event passed.bytes (left_by truth log) (now (file_states truth log)) × HasAgreed truth log

abbrev pub faults_after_call : FileEvent → ℕ → ℕ
faults_after_call (Measured n) earlier = earlier
faults_after_call (Read at) earlier = earlier
faults_after_call (Written at) earlier = earlier
faults_after_call (Torn e) earlier = earlier + 1
faults_after_call Synced earlier = earlier
faults_after_call Failed earlier = earlier + 1

abbrev pub file_faults : List (FileEvent × GhostBytes) → ℕ
file_faults [] = 0
file_faults ((event, passed) ∷ log) = faults_after_call event (file_faults log)
