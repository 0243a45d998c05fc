-- What is shown of a line that is refused behind growths.
use Rattle.std.proofs.Common.{◌≡◌, ℕ, List, Option, Some, None}
use Rattle.std.specs.Prelude.{IfSome}
use Rattle.text_core.specs.Text.{Spelling}
use Rattle.lines_core.specs.declared.batches.Rest.{Rest}
use Rattle.lines_core.specs.declared.batches.Rest.TheVariants.{More, Nothing, Refused, Unread}
use Rattle.lines_core.specs.declared.excerpt.Excerpt.{Excerpt}
use Rattle.lines_core.specs.Excerpts.{IsRestShown}
use Rattle.lines_core.specs.InputBlocks.{AreFirstBlocks}
use Rattle.load_core.specs.Appending.{IsLineBehind}

is_some : (excerpt : Excerpt) → ◌≡◌ {A = Option Excerpt} (Some excerpt) None → ⊥
is_some excerpt is = cc is

pub behind_shown : {R : Type 0} (spelling : Spelling R) (block : ℕ) (input coming : Option (List ℕ)) (growths : List (List R)) (rest : Rest) (shown : Option Excerpt)
    → AreFirstBlocks spelling block input coming growths → IsRestShown spelling coming rest shown → IfSome shown (IsLineBehind spelling block input)
behind_shown spelling block input coming growths rest None before so = tt
behind_shown spelling block input coming growths More (Some excerpt) before so = absurd (is_some excerpt so)
behind_shown spelling block input coming growths Nothing (Some excerpt) before so = absurd (is_some excerpt so)
behind_shown spelling block input coming growths (Unread refusal) (Some excerpt) before so = absurd (is_some excerpt so)
behind_shown spelling block input coming growths (Refused refusal) (Some excerpt) before so =
    record { growths = growths; coming = coming; before = before; refusal = refusal; shown = so }
