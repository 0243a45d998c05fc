-- The words that lines of steps begin with.
use Rattle.std.specs.Prelude.{ℕ, List, codes}
use Rattle.play_core.specs.declared.verb.Verb.{Verb}
use Rattle.play_core.specs.declared.verb.Verb.TheVariants as verbs

abbrev pub verb_word : Verb → List ℕ
verb_word verbs.Create = codes "create"
verb_word verbs.Open = codes "open"
verb_word verbs.Share = codes "share"
verb_word verbs.Put = codes "put"
verb_word verbs.Look = codes "look"
verb_word verbs.View = codes "view"
verb_word verbs.Settled = codes "settled"
verb_word verbs.Take = codes "take"
verb_word verbs.Raise = codes "raise"
verb_word verbs.Close = codes "close"
verb_word verbs.Gather = codes "gather"
verb_word verbs.Change = codes "change"
verb_word verbs.Changes = codes "changes"
verb_word verbs.Resize = codes "resize"
verb_word verbs.Clear = codes "clear"
verb_word verbs.List = codes "list"
verb_word verbs.Fold = codes "fold"
verb_word verbs.Log = codes "log"
verb_word verbs.Home = codes "home"
verb_word verbs.Crash = codes "crash"
