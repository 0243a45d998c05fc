-- The verbs, as they are tried in turn.
use Rattle.std.proofs.Common.{◌≢◌, ℕ, List, [], ◌∷◌, Option, Some, None, arith}
use Rattle.std.specs.Prelude.{All, IfNone}
use Rattle.play_core.specs.declared.verb.Verb.{Verb}
use Rattle.play_core.specs.declared.verb.Verb.TheVariants as verbs
use Rattle.play_core.specs.Verbs.{verb_word}

abbrev pub all_verbs : List Verb
all_verbs =
    verbs.Create ∷ verbs.Open ∷ verbs.Share ∷ verbs.Put ∷ verbs.Look ∷ verbs.View ∷ verbs.Settled ∷ verbs.Take ∷ verbs.Raise ∷ verbs.Close ∷
    verbs.Gather ∷ verbs.Change ∷ verbs.Changes ∷ verbs.Resize ∷ verbs.Clear ∷ verbs.List ∷ verbs.Fold ∷ verbs.Log ∷ verbs.Home ∷ verbs.Crash ∷ []

-- the word is that of none of them, so of no verb
each_verb : (word : List ℕ) → All (λ v. word ≢ verb_word v) all_verbs → (verb : Verb) → word ≢ verb_word verb
each_verb word none verbs.Create = none 0 verbs.Create (omega arith)
each_verb word none verbs.Open = none 1 verbs.Create (omega arith)
each_verb word none verbs.Share = none 2 verbs.Create (omega arith)
each_verb word none verbs.Put = none 3 verbs.Create (omega arith)
each_verb word none verbs.Look = none 4 verbs.Create (omega arith)
each_verb word none verbs.View = none 5 verbs.Create (omega arith)
each_verb word none verbs.Settled = none 6 verbs.Create (omega arith)
each_verb word none verbs.Take = none 7 verbs.Create (omega arith)
each_verb word none verbs.Raise = none 8 verbs.Create (omega arith)
each_verb word none verbs.Close = none 9 verbs.Create (omega arith)
each_verb word none verbs.Gather = none 10 verbs.Create (omega arith)
each_verb word none verbs.Change = none 11 verbs.Create (omega arith)
each_verb word none verbs.Changes = none 12 verbs.Create (omega arith)
each_verb word none verbs.Resize = none 13 verbs.Create (omega arith)
each_verb word none verbs.Clear = none 14 verbs.Create (omega arith)
each_verb word none verbs.List = none 15 verbs.Create (omega arith)
each_verb word none verbs.Fold = none 16 verbs.Create (omega arith)
each_verb word none verbs.Log = none 17 verbs.Create (omega arith)
each_verb word none verbs.Home = none 18 verbs.Create (omega arith)
each_verb word none verbs.Crash = none 19 verbs.Create (omega arith)

pub no_verb_among : (word : List ℕ) (found : Option Verb) → IfNone found (All (λ v. word ≢ verb_word v) all_verbs) → IfNone found ((verb : Verb) → word ≢ verb_word verb)
no_verb_among word None none = each_verb word none
no_verb_among word (Some verb) none = tt
