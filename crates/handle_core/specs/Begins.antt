-- A vector that begins.
use Rattle.std.specs.Prelude.{◌≡◌, ℕ, List, [], ◌∷◌, ◌++◌, length, Option, None, Some}
use Rattle.std.specs.Arc.{arc_value}
use Rattle.std.specs.declared.cmp.PartialEq as PartialEq
use Rattle.record_core.specs.Bytes.{Encoding}
use Rattle.record_core.specs.declared.record.Record as Record
use Rattle.disk_core.specs.File.{opened}
use Rattle.disk_core.specs.FileDisk.{states_of, KeepsSoFar}
use Rattle.segment_core.specs.Shape.{version_of}
use Rattle.segment_core.specs.declared.format.Format.{Format}
use Rattle.pen_core.specs.Births.{IsExisting, StaysUnbornOrEmpty}
use Rattle.pen_core.specs.Opening.{IsOpened, OnlySyncs}
use Rattle.book_core.specs.Lists.{opening_of}
use Rattle.phase_core.specs.declared.phase.BeginFault.{BeginFault}
use Rattle.phase_core.specs.Beginning.{IsCreateRefusal, IsOpeningRefusal}
use Rattle.phase_core.specs.Room.{IsRoomFor}
use Rattle.c_core.specs.declared.refusal.Refusal.{Refusal}
use Rattle.c_core.specs.declared.refusal.Refusal.TheVariants.{Memory, NotSo}
use Rattle.handle_core.specs.Refusals.{of_begin}
use Rattle.handle_core.specs.declared.end.Role.{Role}
use Rattle.handle_core.specs.declared.end.Role.TheVariants as roles

-- why no vector begins over these bytes, or, of a format, none is made in their place
abbrev pub IsBeginFault : {R : Type 0} → Encoding R → Option Format → List ℕ → ℕ → ℕ → BeginFault → Type 0
IsBeginFault form None bytes growths seats fault = IsOpeningRefusal form bytes growths seats fault
IsBeginFault form (Some format) bytes growths seats fault = IsCreateRefusal bytes growths seats fault

abbrev pub IsBeginRefusal : {R : Type 0} → Encoding R → Option Format → List ℕ → ℕ → ℕ → Refusal → Type 0
IsBeginRefusal form made bytes growths seats refusal = (fault : BeginFault) × (refusal ≡ of_begin fault) × IsBeginFault form made bytes growths seats fault

module _ {R : Type 0} {record_of : Record.Ghosts R} {eq_of : PartialEq.Ghosts R} where
  -- of its file these bytes are read
  abbrev pub HasRead : List ℕ → Role R record_of eq_of → Type 0
  HasRead bytes (roles.File read) = read.items ≡ bytes
  HasRead bytes role = ⊥

  -- this piece stands behind the bytes that were read
  abbrev pub Feeds : List ℕ → Role R record_of eq_of → Role R record_of eq_of → Type 0
  Feeds piece (roles.File old) (roles.File new) = new.items ≡ old.items ++ piece
  Feeds piece old new = ⊥

  -- there was no memory for the piece, or it is another end; it is as it was
  abbrev pub RefusesFeeding : Refusal → Role R record_of eq_of → Role R record_of eq_of → Type 0
  RefusesFeeding refusal (roles.File old) (roles.File new) = (refusal ≡ Memory) × (new.items ≡ old.items)
  RefusesFeeding refusal (roles.File old) new = ⊥
  RefusesFeeding refusal old new = (refusal ≡ NotSo) × (new ≡ old)

  -- the one has a phase with room for so many growths and so many seats, the other who commits for it; no growth was made, and no
  -- record stands in it from before; the bytes were no file yet, which is to have that version. The host has made no call of its
  -- making: whatever a crash leaves of them from the first sync on is no file yet, or the empty one.
  abbrev pub BeginsEmpty : List ℕ → ℕ → ℕ → ℕ → Role R record_of eq_of → Role R record_of eq_of → Type 0
  BeginsEmpty bytes version growths seats (roles.Phase phase) (roles.Committer committer) =
      (version_of committer.flusher.pen.shape.format ≡ version) × (length phase.seats.items ≡ seats) × IsRoomFor growths (arc_value phase.live).directory.room
      × ((arc_value phase.live).blocks ≡ []) × (KeepsSoFar committer.flusher.pen.disk.inner → IsExisting bytes → ⊥) × (arc_value committer.live ≡ arc_value phase.live)
      × (committer.flusher.settled ≡ 0) × (committer.flusher.pass.entries ≡ [])
      × (committer.made ≡ 1) × (KeepsSoFar committer.flusher.pen.disk.inner
      → StaysUnbornOrEmpty committer.flusher.pen.shape (opened bytes ∷ []) (states_of committer.flusher.pen.disk.inner))
  BeginsEmpty bytes version growths seats phase committer = ⊥

  -- so over a file that holds these bytes: what stands in it from before are its records, and the host has made no call, of which
  -- one is a sync
  abbrev pub BeginsOver : List ℕ → ℕ → ℕ → Role R record_of eq_of → Role R record_of eq_of → Type 0
  BeginsOver bytes growths seats (roles.Phase phase) (roles.Committer committer) =
      (length phase.seats.items ≡ seats) × IsRoomFor growths (arc_value phase.live).directory.room
      × (KeepsSoFar committer.flusher.pen.disk.inner → IsOpened record_of.form bytes committer.flusher.pen (opening_of (arc_value phase.live)))
      × (arc_value committer.live ≡ arc_value phase.live)
      × (committer.flusher.settled ≡ 0) × (committer.flusher.pass.entries ≡ [])
      × (committer.made ≡ 1) × (KeepsSoFar committer.flusher.pen.disk.inner → OnlySyncs (opened bytes ∷ []) (states_of committer.flusher.pen.disk.inner))
  BeginsOver bytes growths seats phase committer = ⊥

  -- The vector of the bytes that were read begins, or, of a format, the empty one in their place: the first of these ends has its
  -- phase, the last who commits.
  abbrev pub Begins : Option Format → ℕ → ℕ → Role R record_of eq_of → Role R record_of eq_of → Role R record_of eq_of → Type 0
  Begins None growths seats phase (roles.File read) committer = BeginsOver read.items growths seats phase committer
  Begins (Some format) growths seats phase (roles.File read) committer = BeginsEmpty read.items (version_of format) growths seats phase committer
  Begins format growths seats phase old new = ⊥

  -- The bytes are given up, as those over which none begins; or there was no memory for C's end of the phase, or it is another end, and
  -- is as it was.
  abbrev pub RefusesBeginning : Option Format → ℕ → ℕ → Refusal → Role R record_of eq_of → Role R record_of eq_of → Type 0
  RefusesBeginning made growths seats refusal (roles.File read) roles.Nothing =
      IsBeginRefusal record_of.form made read.items growths seats refusal
  RefusesBeginning made growths seats refusal (roles.File read) (roles.File left) = (refusal ≡ Memory) × (left ≡ read)
  RefusesBeginning made growths seats refusal (roles.File read) new = ⊥
  RefusesBeginning made growths seats refusal old new = (refusal ≡ NotSo) × (new ≡ old)
