-- What a look makes of what it finds behind the growths that a pass knows.
use Rattle.std.specs.Prelude.{◌≡◌, ℕ, Bool, true, false, [], ◌∷◌, ◌++◌, length, Result, Ok, Err}
use Rattle.block_core.specs.Growth.{Growth}
use Rattle.directory_core.specs.declared.fault.DirFault.{DirFault}
use Rattle.directory_core.specs.declared.fault.DirFault.TheVariants.{Strayed}
use Rattle.directory_core.specs.Known.{Known}
use Rattle.directory_core.specs.Notes.{IsEnd, IsNextInLimit}

-- that growth follows those that the pass knows, within the directory's limit
abbrev pub FollowsKnown : {R : Type 0} → ℕ → Known R → Growth R → Type 0
FollowsKnown width pass e = IsNextInLimit width pass.of.limit pass.entries (length e.records) e

-- what was found is a growth that follows, which is known from then on; or the end; or it strays, which is answered and
-- kept in mind
abbrev pub IsJudged : {R : Type 0} → ℕ → Known R → Known R → Growth R → Result Bool DirFault → Type 0
IsJudged width old new e (Ok true) = FollowsKnown width old e × (new.entries ≡ old.entries ++ e ∷ []) × (new.strayed ≡ false)
IsJudged width old new e (Ok false) = IsEnd e × (new.ended ≡ true) × (new.entries ≡ old.entries) × (new.strayed ≡ false)
IsJudged width old new e (Err fault) = (FollowsKnown width old e → ⊥) × (fault ≡ Strayed (length old.entries)) × (new.entries ≡ old.entries) × (new.strayed ≡ true)
