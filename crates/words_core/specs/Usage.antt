-- What standard error tells of words that ask for nothing: the usage in one line, and a help, or what is wrong with the words.
use Rattle.std.specs.Prelude.{◌≡◌, ℕ, ◌+◌, List, ◌++◌, length, take, codes}
use Rattle.std.specs.String.{string_bytes}
use Rattle.text_core.specs.Text.{ended_line}
use Rattle.words_core.specs.declared.usage.Look.{Look}
use Rattle.words_core.specs.declared.usage.Look.TheVariants.{Commands, Command, Nearest, NearestOption}
use Rattle.words_core.specs.declared.usage.Usage.{Usage}
use Rattle.words_core.specs.declared.usage.Usage.TheVariants.{Help, Wrong}

-- a help begins with the command's own words
abbrev pub IsHelpOf : List ℕ → List ℕ → Type 0
IsHelpOf name text = take (5 + length name) text ≡ codes "cvec " ++ name

abbrev pub usage_line : List ℕ
usage_line = ended_line (codes "usage: cvec COMMAND TYPE ..")

abbrev pub command_line : List ℕ → List ℕ
command_line name = codes "'cvec help " ++ (name ++ ended_line (codes "' tells of it"))

-- this word may be meant, behind its quote and dashes
abbrev pub meant_line : List ℕ → List ℕ → List ℕ → List ℕ
meant_line opening word name = opening ++ (word ++ (codes "' may be meant: " ++ command_line name))

abbrev pub look_line : Look → List ℕ
look_line Commands = ended_line (codes "'cvec help' lists the commands")
look_line (Command name) = command_line name.now
look_line (Nearest name) = meant_line (codes "'") name.now name.now
look_line (NearestOption name option) = meant_line (codes "'--") option.now name.now

abbrev pub help_usage : List ℕ → List ℕ
help_usage help = ended_line usage_line ++ help

abbrev pub wrong_usage : List ℕ → Look → List ℕ
wrong_usage sentence look = usage_line ++ (ended_line sentence ++ look_line look)

abbrev pub usage_text : Usage → List ℕ
usage_text (Help help) = help_usage help.now
usage_text (Wrong sentence look) = wrong_usage (string_bytes sentence) look
