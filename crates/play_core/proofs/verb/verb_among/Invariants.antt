use Rattle.std.proofs.Common.{◌≢◌}
use Rattle.std.specs.List.{AllWithin}
use Rattle.play_core.specs.Verbs.{verb_word}
use Rattle.play_core.proofs.verb.verb_among.Given as goal

-- none so far has the word
abbrev pub invariant-loop-verb : goal.invariant-loop-verb
invariant-loop-verb l = AllWithin (λ verb. l.word ≢ verb_word verb) l.verbs 0 l.verb-index
