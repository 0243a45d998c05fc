-- Lines of numbers as lines of the floats that have their bits, number by number.
use Rattle.std.specs.Prelude.{◌≡◌, ◌≢◌, ◌⊎◌, ℕ, ◌≤◌, List, [], ◌∷◌, ◌++◌, length, decimal, Bool, cond, ◌==◌, ◌&&◌, true, false, Option, Some, None}
use Rattle.std.specs.List.{AllPass, flat_map}
use Rattle.float_core.specs.declared.float.FloatType.{FloatType}
use Rattle.float_core.specs.declared.decoding.Spot.{Spot}
use Rattle.float_core.specs.declared.decoding.Spot.TheVariants.{Begin, Change, Event, Records, Nowhere}
use Rattle.float_core.specs.Encoded.{end_bytes}
use Rattle.float_core.specs.Floats.{AreBits, IsFloatText, is_digit}

-- what is known of an output behind some bytes of it: where its next records stand, and the digits of one that have come
pub record Writing : Type 0 where
  pub float : FloatType
  pub spot : Spot
  pub digits : List ℕ

-- ---- where records stand

-- a number here is a record
abbrev pub may_be_record : Spot → Bool
may_be_record Begin = true
may_be_record Change = false
may_be_record Event = false
may_be_record Records = true
may_be_record Nowhere = false

-- Where the next records stand behind a byte that is no digit of one. Those of a line that begins with one are all its numbers; `+` stands before
-- one, and `=` before a number and one. The line of anything else has none.
abbrev pub spot_within : Spot → ℕ → Spot
spot_within Begin b = cond (b == 43) Event (cond (b == 61) Change Nowhere)
spot_within Change b = cond (b == 32) Event Change
spot_within Event b = cond (b == 32) Records Event
spot_within Records b = Records
spot_within Nowhere b = Nowhere

abbrev pub spot_behind : Spot → ℕ → Spot
spot_behind spot b = cond (b == 10) Begin (spot_within spot b)

-- the same behind digits of a record, where there are some
abbrev pub spot_behind_digits : Spot → List ℕ → ℕ → Spot
spot_behind_digits spot [] b = spot_behind spot b
spot_behind_digits spot (d ∷ digits) b = spot_behind Records b

-- ---- what is given for numbers

-- a text of the float that has the number's bits; what is no such number stays
abbrev pub IsNumberGiven : FloatType → List ℕ → List ℕ → Type 0
IsNumberGiven float digits given =
    ((bits : ℕ) × AreBits float bits × (decimal bits ≡ digits) × IsFloatText float given bits) ⊎ (((bits : ℕ) → AreBits float bits → decimal bits ≢ digits) × (given ≡ digits))

-- a record's digits, or none, what is given for them, and the other byte behind them; of too long a number its digits, behind which nothing stands
pub record Shown : Type 0 where
  pub digits : List ℕ
  pub given : List ℕ
  pub end : Option ℕ

abbrev pub shown_bytes : List Shown → List ℕ
shown_bytes shown = flat_map (λ s. s.digits ++ end_bytes s.end) shown

abbrev pub given_bytes : List Shown → List ℕ
given_bytes shown = flat_map (λ s. s.given ++ end_bytes s.end) shown

-- these are digits of a record at this spot, if there are some
abbrev pub AreDigitsAt : Spot → List ℕ → Type 0
AreDigitsAt spot digits = AllPass is_digit digits × ((digits ≡ []) ⊎ (may_be_record spot ≡ true))

abbrev pub IsShownWith : FloatType → Spot → List ℕ → List ℕ → Option ℕ → Spot → Type 0
IsShownWith float spot digits given None next = (20 ≤ length digits) × (given ≡ digits) × (next ≡ Nowhere)
IsShownWith float spot digits given (Some b) next =
    ((is_digit b && may_be_record spot) ≡ false) × (((digits ≡ []) × (given ≡ [])) ⊎ ((digits ≢ []) × IsNumberGiven float digits given)) × (next ≡ spot_behind_digits spot digits b)

abbrev pub AreShown : FloatType → Spot → List Shown → Spot → Type 0
AreShown float spot [] next = next ≡ spot
AreShown float spot (s ∷ shown) next =
    (mid : Spot) × AreDigitsAt spot s.digits × IsShownWith float spot s.digits s.given s.end mid × AreShown float mid shown next

-- the bytes were taken, and these were written for them and for the digits that had been held
pub record IsDecoded (old : Writing) (bytes own : List ℕ) (new : Writing) : Type 0 where
  pub shown : List Shown
  pub taken : old.digits ++ bytes ≡ shown_bytes shown ++ new.digits
  pub given : own ≡ given_bytes shown
  pub each : AreShown old.float old.spot shown new.spot
  pub float : new.float ≡ old.float
