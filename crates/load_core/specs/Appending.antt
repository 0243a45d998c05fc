-- Growths that are appended as they are read.
use Rattle.std.specs.Prelude.{◌≡◌, ◌⊎◌, ℕ, ◌+◌, ◌-◌, ◌*◌, ◌^◌, ◌<◌, min, List, [], ◌∷◌, ◌++◌, length, Option, Some, None, Result, Ok, Err, MatchResult}
use Rattle.record_core.specs.Bytes.{Encoding}
use Rattle.record_core.specs.Limits.{record_limit}
use Rattle.disk_core.specs.State.{State, now, IsImage}
use Rattle.disk_core.specs.Calls.{bytes_of}
use Rattle.segment_core.specs.Written.{joined}
use Rattle.pen_core.specs.declared.fault.PenFault.{PenFault}
use Rattle.pen_core.specs.declared.fault.PenFault.TheVariants.{OutOfRange}
use Rattle.pen_core.specs.PenOf.{PenOf}
use Rattle.pen_core.specs.Pen.{failed_calls}
use Rattle.pen_core.specs.Typed.{OpensTo}
use Rattle.book_core.specs.declared.fault.GrowFault.TheVariants.{TooLong}
use Rattle.vault_core.specs.declared.fault.VaultFault.TheVariants.{Pen, Unsettled, WrongPhase}
use Rattle.text_core.specs.Text.{Spelling}
use Rattle.text_core.specs.declared.refusal.Refusal.{Refusal}
use Rattle.files_core.specs.declared.appended.Appended.{Appended}
use Rattle.files_core.specs.declared.fault.FileFault.{FileFault}
use Rattle.files_core.specs.declared.fault.FileFault.TheVariants.{Word, Input, Open, Vault, Grower, Upgrade}
use Rattle.files_core.specs.declared.fault.Stopped.{Stopped}
use Rattle.files_core.specs.Opened.{IsNotOpened, LeavesBeforeOr}
use Rattle.lines_core.specs.declared.batches.Rest.{Rest}
use Rattle.lines_core.specs.declared.batches.Rest.TheVariants.{More, Nothing, Refused, Unread}
use Rattle.lines_core.specs.declared.excerpt.Excerpt.{Excerpt}
use Rattle.lines_core.specs.Excerpts.{IsFrontShown}
use Rattle.lines_core.specs.InputBlocks.{AreFirstBlocks, AreOfAllLines, AreOfFirstLines}
use Rattle.load_core.specs.Groups.{IsCommitFault, IsRowSettled, OpensToFront}

-- ---- what stands

-- Growths were made behind the list of a file, and are told; those that were to be made behind them, or the first of these, may
-- stand there too. Each image meanwhile opens to the list and the first of them all, each whole; and each that a crash may leave
-- now has all that are told.
pub record GrowthsStand {R D : Type 0} (form : Encoding R) (states : D → List State) (disk left : D) (appended : Appended) (made more : List (List R)) : Type 0 where
  pub was : List R
  pub file : OpensTo form (bytes_of (states disk)) was
  pub images : LeavesBeforeOr (states disk) (states left) (OpensToFront form was (made ++ more))
  pub settled : (image : List ℕ) → IsImage (now (states left)) image → OpensToFront form (was ++ joined made) more image
  pub size_is : appended.size ≡ length (was ++ joined made)
  pub growths_are : appended.growths ≡ min (2 ^ 64 - 1) (length made)

-- what is told where the file wasn't opened
abbrev pub nothing_appended : Appended
nothing_appended = record { growths = 0; lines = 0; size = 0 }

-- ---- of which lines they are

-- the lines that are told are those of these growths, each of a whole block
abbrev pub AreOfBlocks : {R : Type 0} → ℕ → Appended → List (List R) → Type 0
AreOfBlocks block appended made = appended.lines ≡ min (2 ^ 64 - 1) (length made * block)

-- the growths are those of all lines of an input, and these are told
abbrev pub AreAllTold : {R : Type 0} → Spelling R → ℕ → Option (List ℕ) → Appended → List (List R) → Type 0
AreAllTold spelling block input appended made = (count : ℕ) × AreOfAllLines spelling block input made count × (appended.lines ≡ min (2 ^ 64 - 1) count)

-- The growths are the first of those of an input: of its first lines, each of a whole block, or of all its lines.
pub record AreFirstGrowths {R : Type 0} (spelling : Spelling R) (block : ℕ) (input : Option (List ℕ)) (growths : List (List R)) : Type 0 where
  pub behind : List (List R)
  pub of : AreOfFirstLines spelling block input (growths ++ behind) ⊎ ((count : ℕ) × AreOfAllLines spelling block input (growths ++ behind) count)

-- A line was refused behind growths of the first lines of an input, each of a whole block, and this is of it.
pub record IsLineBehind {R : Type 0} (spelling : Spelling R) (block : ℕ) (input : Option (List ℕ)) (excerpt : Excerpt) : Type 0 where
  pub growths : List (List R)
  pub coming : Option (List ℕ)
  pub before : AreFirstBlocks spelling block input coming growths
  pub refusal : Refusal
  pub shown : IsFrontShown spelling coming refusal excerpt

-- ---- why it stopped

-- The grower stopped behind growths that are told: the next one of the input, that of the line behind those that are told, would
-- bring the vector past its greatest length.
pub record IsTooLongStop {R : Type 0} (spelling : Spelling R) (block : ℕ) (input : Option (List ℕ)) (appended : Appended) (made : List (List R)) (stopped : Stopped) : Type 0 where
  pub grower_is : stopped.grower ≡ 0
  pub line_is : stopped.line ≡ min (2 ^ 64 - 1) (appended.lines + 1)
  pub size_is : stopped.size ≡ appended.size
  pub fault_is : stopped.fault ≡ TooLong
  pub next : List R
  pub next_is : AreFirstGrowths spelling block input (made ++ next ∷ [])
  pub past : record_limit < stopped.size + length next

-- what is told of a fault of the pen behind growths that are told
abbrev pub fault_told : Appended → PenFault → FileFault
fault_told appended OutOfRange = Grower (record { grower = 0; line = min (2 ^ 64 - 1) (appended.lines + 1); fault = TooLong; size = appended.size })
fault_told appended fault = Vault (Pen fault)

-- How it is over behind a batch that was committed, with so many lines behind others: not yet, where more is to be read; else that
-- is told, and so many lines where all were read.
abbrev pub IsRestTold : Rest → ℕ → Appended → Appended → Option (Result (Unit {0}) FileFault) → Type 0
IsRestTold More lines old new done = (done ≡ None) × (new ≡ old)
IsRestTold Nothing lines old new done = (done ≡ Some (Ok tt)) × (new ≡ record old { lines = lines })
IsRestTold (Refused refusal) lines old new done = (told : Refusal) × (done ≡ Some (Err (Input told))) × (new ≡ old)
IsRestTold (Unread refusal) lines old new done = (done ≡ Some (Err (Input refusal))) × (new ≡ old)

module _ {R D : Type 0} (form : Encoding R) (keeps : D → Type 0) (states : D → List State) where
  -- So far these growths were committed by a pen, from that moment on, whose records are so, and are told, each as one of a whole
  -- block.
  pub record HasAppendedSoFar (IsMade : List (List R) → Type 0) (block : ℕ) (start pen : PenOf D) (appended : Appended) : Type 0 where
    pub made : List (List R)
    pub over : IsRowSettled form keeps states made start pen
    pub records_are : IsMade made
    pub size_is : appended.size ≡ pen.tally.size
    pub growths_are : appended.growths ≡ min (2 ^ 64 - 1) (length made)
    pub lines_are : AreOfBlocks block appended made

  -- All that stands behind the old list is told: the growths of all lines of the input, whose lines are told too.
  abbrev pub HasAppendedAll : Spelling R → ℕ → Option (List ℕ) → D → D → Appended → Type 0
  HasAppendedAll spelling block input disk left appended =
      (made : List (List R)) × (keeps left → GrowthsStand form states disk left appended made []) × AreAllTold spelling block input appended made

  -- Where it was refused: at opening, and then nothing was written; at a line, or by a grower, and all that stands is told; or by
  -- the pen, at the commit of a group, and then, where a call of the disk failed, what was begun behind that may stand too. What is
  -- told are growths of the first lines of the input, each of a whole block, and what was begun are the next ones.
  abbrev pub IsAppendFault : (D → ℕ) → Spelling R → ℕ → Option (List ℕ) → D → D → Appended → FileFault → Type 0
  IsAppendFault faults spelling block input disk left appended (Open fault) =
      (appended ≡ nothing_appended) × IsNotOpened form keeps states faults disk left fault
  IsAppendFault faults spelling block input disk left appended (Input refusal) =
      (made : List (List R)) × (keeps left → GrowthsStand form states disk left appended made []) × AreOfBlocks block appended made
      × AreOfFirstLines spelling block input made
  IsAppendFault faults spelling block input disk left appended (Vault (Pen fault)) =
      (made more : List (List R)) × (keeps left → GrowthsStand form states disk left appended made more) × AreOfBlocks block appended made
      × AreOfFirstLines spelling block input made × AreFirstGrowths spelling block input (made ++ more) × (failed_calls fault ≡ 0 → more ≡ []) × IsCommitFault fault
  IsAppendFault faults spelling block input disk left appended (Vault (Unsettled number)) = ⊥
  IsAppendFault faults spelling block input disk left appended (Vault WrongPhase) = ⊥
  IsAppendFault faults spelling block input disk left appended (Grower stopped) =
      (made : List (List R)) × (keeps left → GrowthsStand form states disk left appended made []) × AreOfBlocks block appended made
      × AreOfFirstLines spelling block input made × IsTooLongStop spelling block input appended made stopped
  IsAppendFault faults spelling block input disk left appended (Word word) = ⊥
  IsAppendFault faults spelling block input disk left appended (Upgrade fault) = ⊥

  -- so it ended
  abbrev pub IsAppendEnd : (D → ℕ) → Spelling R → ℕ → Option (List ℕ) → D → D → Appended → Result (Unit {0}) FileFault → Type 0
  IsAppendEnd faults spelling block input disk left appended done =
      MatchResult done (λ _. HasAppendedAll spelling block input disk left appended) (IsAppendFault faults spelling block input disk left appended)
