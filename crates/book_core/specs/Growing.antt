-- What a growth does to a seat, and why it is refused.
use Rattle.std.specs.Prelude.{◌≡◌, ℕ, ◌+◌, ◌-◌, ◌<◌, ◌≤◌, ◌⊎◌, List, [], ◌∷◌, ◌++◌, length, take, slice_get, replicate, Some, Option, Result, Ok, Err, MatchOption, MatchResult}
use Rattle.record_core.specs.Limits.{payload_limit, record_limit}
use Rattle.block_core.specs.Growth.{Growth}
use Rattle.block_core.specs.Length.{IsBlockLength, payload_len}
use Rattle.directory_core.specs.Chain.{total, IsPrefix}
use Rattle.book_core.specs.declared.fault.GrowFault.{GrowFault}
use Rattle.book_core.specs.declared.fault.GrowFault.TheVariants.{Closed, Full, TooLong, Strayed, Memory, Empty, TooLarge}
use Rattle.book_core.specs.declared.seat.Receipt.{Receipt}
use Rattle.book_core.specs.declared.fault.SettleFault.{SettleFault}
use Rattle.book_core.specs.declared.mark.MarkState.{MarkState}
use Rattle.book_core.specs.declared.mark.Reading.{Reading}
use Rattle.book_core.specs.Faults.{state_of}
use Rattle.book_core.specs.Marks.{HasAllRaises, Rises, IsOver, raised_to}
use Rattle.book_core.specs.Lists.{Phase, opening_of, Seated, own_of, HasJustItsOwn}

-- the same seat, which made no growth and knows at least what it knew
pub record SeatLearns {R : Type 0} (old new : Seated R) : Type 0 where
  pub id : new.id ≡ old.id
  pub mark : new.mark ≡ old.mark
  pub of : new.pass.of ≡ old.pass.of
  pub made : new.made ≡ old.made
  pub begins : IsPrefix old.pass.entries new.pass.entries

-- the seat's growth of these records, behind those before it
abbrev pub growth_of : {R : Type 0} → Seated R → List (Growth R) → List R → Growth R
growth_of seat before records = record { number = length before; start = total before; seat = seat.id; serial = length seat.made; records = records }

-- the seat made one growth of these records: its list begins with all that it knew and ends with the growth, which
-- is one more of those that it made. The receipt has the growth's number, the number of records before it, those
-- from before the phase among them, its length, the seat's id and how many growths the seat had made
pub record Grown {R : Type 0} (live : Phase R) (old new : Seated R) (records : List R) (receipt : Receipt) : Type 0 where
  pub before : List (Growth R)
  pub begins : IsPrefix old.pass.entries before
  pub ends : new.pass.entries ≡ before ++ growth_of old before records ∷ []
  pub number : receipt.number ≡ length before
  pub start : receipt.start ≡ length (opening_of live) + total before
  pub len : receipt.len ≡ length records
  pub seat : receipt.seat ≡ old.id
  pub serial : receipt.serial ≡ length old.made
  pub made : new.made ≡ old.made ++ growth_of old before records ∷ []
  pub just_own : HasJustItsOwn new
  pub same : (new.id ≡ old.id) × (new.mark ≡ old.mark) × (new.pass.of ≡ old.pass.of)

-- growth n bears the seat's id, and all that the seat made stand before it
pub record IsForeign {R : Type 0} (seat : Seated R) (n : ℕ) : Type 0 where
  pub growth : Growth R
  pub at : slice_get seat.pass.entries n ≡ Some growth
  pub bears : growth.seat ≡ seat.id
  pub not_made : own_of seat.id (take n seat.pass.entries) ≡ seat.made

-- number n strayed: none of the growths known is foreign, and what stands behind them, where there is room, doesn't
-- follow them or was found taken; or it bears the seat's id and the seat didn't make it
abbrev pub IsStray : {R : Type 0} → Seated R → ℕ → Type 0
IsStray seat n = (HasJustItsOwn seat × (n ≡ length seat.pass.entries) × (n < seat.pass.of.room)) ⊎ IsForeign seat n

-- the size that the seat knows
abbrev pub size_of : {R : Type 0} → Phase R → Seated R → ℕ
size_of live seat = length (opening_of live) + total seat.pass.entries

-- the phase has room for a growth behind those that the seat knows
abbrev pub PhaseHasRoom : {R : Type 0} → Phase R → Seated R → Type 0
PhaseHasRoom live seat = length seat.pass.entries < live.directory.room

-- with so many records more the vector keeps within its limit
abbrev pub PhaseKeepsLimit : {R : Type 0} → Phase R → Seated R → ℕ → Type 0
PhaseKeepsLimit live seat len = size_of live seat + len ≤ record_limit

-- the fault with which a growth of so many records is refused by the book, which by then has no stray growth but
-- the one that it names
abbrev pub IsBookRefusal : {R : Type 0} → Phase R → Seated R → ℕ → GrowFault → Type 0
IsBookRefusal live seat len Closed = Unit {0}
IsBookRefusal live seat len Full = HasJustItsOwn seat × (live.directory.room ≤ length seat.pass.entries)
IsBookRefusal live seat len TooLong = HasJustItsOwn seat × PhaseHasRoom live seat × (record_limit < size_of live seat + len)
IsBookRefusal live seat len (Strayed n) = IsStray seat n
IsBookRefusal live seat len Memory = HasJustItsOwn seat × PhaseHasRoom live seat × PhaseKeepsLimit live seat len
IsBookRefusal live seat len Empty = ⊥
IsBookRefusal live seat len TooLarge = ⊥

-- a growth that strays behind the tests of a put would have kept the limit
abbrev pub StraysInLimit : {R : Type 0} → Phase R → Seated R → ℕ → GrowFault → Type 0
StraysInLimit live seat len (Strayed n) = PhaseKeepsLimit live seat len
StraysInLimit live seat len other = Unit {0}

-- the fault of a look
abbrev pub IsLookFault : {R : Type 0} → Seated R → GrowFault → Type 0
IsLookFault seat (Strayed n) = IsStray seat n
IsLookFault seat other = ⊥

-- the fault with which a growth by copies of n records is refused: by the length, for want of the block's memory, or
-- by the book
abbrev pub IsCopiesRefusal : {R : Type 0} → ℕ → Phase R → Seated R → ℕ → GrowFault → Type 0
IsCopiesRefusal width live seat n Empty = n ≡ 0
IsCopiesRefusal width live seat n TooLarge = payload_limit < payload_len width n
IsCopiesRefusal width live seat n Memory = IsBlockLength width n
IsCopiesRefusal width live seat n other = IsBlockLength width n × IsBookRefusal live seat n other

-- a growth of these records is made, or is refused
abbrev pub GrowsBy : {R : Type 0} → Phase R → Seated R → Seated R → List R → Result Receipt GrowFault → Type 0
GrowsBy live old new records result = MatchResult result (Grown live old new records) (λ _. SeatLearns old new)

-- the seat made one growth of copies, whose range ends at n, which the size before it didn't reach
pub record FillsUp {R : Type 0} (live : Phase R) (old new : Seated R) (n : ℕ) (v : R) (receipt : Receipt) : Type 0 where
  pub count : ℕ
  pub grown : Grown live old new (replicate count v) receipt
  pub some : 0 < count
  pub ends : receipt.start + receipt.len ≡ n

-- the size is n at least, a growth of copies brings it there, or that is refused
abbrev pub FillsOrReaches : {R : Type 0} → Phase R → Seated R → Seated R → ℕ → R → Result (Option Receipt) GrowFault → Type 0
FillsOrReaches live old new n v result =
    MatchResult result (λ made. MatchOption made (SeatLearns old new × (n ≤ size_of live new)) (FillsUp live old new n v)) (λ _. SeatLearns old new)

-- the fault with which no growth to n is made: by the book, or by the number of records that the size is short of n
abbrev pub IsFillRefusal : {R : Type 0} → ℕ → Phase R → Seated R → ℕ → GrowFault → Type 0
IsFillRefusal width live seat n Closed = Unit {0}
IsFillRefusal width live seat n (Strayed k) = IsStray seat k
IsFillRefusal width live seat n Full = HasJustItsOwn seat × (size_of live seat < n) × (live.directory.room ≤ length seat.pass.entries)
IsFillRefusal width live seat n TooLarge = HasJustItsOwn seat × PhaseHasRoom live seat × (size_of live seat < n) × (payload_limit < payload_len width (n - size_of live seat))
IsFillRefusal width live seat n TooLong = HasJustItsOwn seat × PhaseHasRoom live seat × (size_of live seat < n) × IsBlockLength width (n - size_of live seat) × (record_limit < n)
IsFillRefusal width live seat n Memory = HasJustItsOwn seat × PhaseHasRoom live seat × (size_of live seat < n) × IsBlockLength width (n - size_of live seat) × (n ≤ record_limit)
IsFillRefusal width live seat n Empty = ⊥

-- the seat was told this by the mark, by the newest of the raises that it has seen then, and nothing else changed. It has seen
-- those that it had seen. No count falls, and what is over doesn't run again
pub record SeatIsTold {R : Type 0} (old new : Seated R) (count : ℕ) (state : MarkState) : Type 0 where
  pub same : (new.id ≡ old.id) × (new.made ≡ old.made) × (new.pass ≡ old.pass)
  pub mark : new.mark.of ≡ old.mark.of
  pub told : new.mark.told ≡ record { count = count; state = state }
  pub raised : raised_to new.mark.raises ≡ count
  pub seen : HasAllRaises new.mark.raises old.mark.raises
  pub rises : Rises old.mark.told (record { count = count; state = state })

-- the growth of that number is settled, or no more will be
abbrev pub IsPast : ℕ → ℕ → MarkState → Type 0
IsPast number count state = (number < count) ⊎ IsOver state

-- what is answered of the growth of that number, by what the mark told: it is settled, and so many are; or it isn't, and
-- the mark is over
abbrev pub IsToldOf : ℕ → Reading → Result ℕ SettleFault → Type 0
IsToldOf number told (Ok count) = (told.count ≡ count) × (number < count)
IsToldOf number told (Err fault) = (told.state ≡ state_of fault) × (told.count ≤ number)
