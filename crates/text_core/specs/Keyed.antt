-- The laws of texts of a key with something behind a colon.
use Rattle.std.specs.Prelude.{◌≡◌, ◌<◌, ◌^◌, ℕ, List, decimal, FitsSigned}
use Rattle.std.specs.Fmt.{signed_decimal}
use Rattle.std.specs.Int.{w64}
use Rattle.std.proofs.Common.{sym, ap, ◌∙◌, lit≤}
use Rattle.record_core.specs.Bytes.{Parts, pair_parts, flagged_parts}
use Rattle.record_core.specs.declared.key_value.Pair.{Pair}
use Rattle.record_core.specs.declared.key_flag.Flagged.{Flagged}
use Rattle.text_core.specs.Text.{Spelling, AreWords, HasOneValue, IsWord}
use Rattle.text_core.specs.Numbers.{IsWord-decimal, one_decimal}
use Rattle.text_core.specs.SignedNumbers.{IsWord-signed, one_signed}
use Rattle.text_core.specs.Flags.{flag_text, IsWord-flag, one_flag}
use Rattle.text_core.specs.Halves.{halves_text, HasNoColon, HasNoColon-decimal, IsWord-halves, first_half, second_half}

-- a key's text, and the text behind its colon
abbrev pub keyed_text : ℕ → List ℕ → List ℕ
keyed_text key text = halves_text (decimal key) text

pub HasNoColon-key : (key : ℕ) → key < 2 ^ 64 → HasNoColon (decimal key)
HasNoColon-key = HasNoColon-decimal 64 (lit≤ tt)

IsWord-keyed : (key : ℕ) (text : List ℕ) → key < 2 ^ 64 → IsWord text → IsWord (keyed_text key text)
IsWord-keyed key text small word = IsWord-halves (decimal key) text (IsWord-decimal 64 (lit≤ tt) key small) word

one_key : (k m : ℕ) (text other : List ℕ) → k < 2 ^ 64 → m < 2 ^ 64 → keyed_text k text ≡ keyed_text m other → k ≡ m
one_key k m text other small less same = one_decimal 64 (lit≤ tt) k m small less (first_half (decimal k) text (decimal m) other (HasNoColon-key k small) (HasNoColon-key m less) same)

one_behind : (k m : ℕ) (text other : List ℕ) → k < 2 ^ 64 → m < 2 ^ 64 → keyed_text k text ≡ keyed_text m other → text ≡ other
one_behind k m text other small less same = second_half (decimal k) text (decimal m) other (HasNoColon-key k small) (HasNoColon-key m less) same

-- what is made of the same parts is the same
same_parts : {A B C : Type 0} (parts : Parts A B C) (c d : C) → parts.first c ≡ parts.first d → parts.second c ≡ parts.second d → c ≡ d
same_parts parts c d first second =
    sym (parts.nothing_else c) ∙ ap (λ a. parts.make a (parts.second c)) first ∙ ap (parts.make (parts.first d)) second ∙ parts.nothing_else d

-- ---- pairs

abbrev pub IsPair : Pair → Type 0
IsPair pair = (pair.key < 2 ^ 64) × FitsSigned w64 pair.value

abbrev pub pair_text : Pair → List ℕ
pair_text pair = keyed_text pair.key (signed_decimal pair.value)

abbrev pub pair_spelling : Spelling Pair
pair_spelling = record { is_value = IsPair; text_of = pair_text }

pub IsWord-pair : AreWords pair_spelling
IsWord-pair pair so = IsWord-keyed pair.key (signed_decimal pair.value) so.0 (IsWord-signed w64 (lit≤ tt) pair.value so.1)

pub one_pair : HasOneValue pair_spelling
one_pair p q so other same =
    let key = one_key p.key q.key (signed_decimal p.value) (signed_decimal q.value) so.0 other.0 same in
    let value = one_signed w64 (lit≤ tt) p.value q.value so.1 other.1 (one_behind p.key q.key (signed_decimal p.value) (signed_decimal q.value) so.0 other.0 same) in
    same_parts pair_parts p q key value

-- ---- flagged keys

abbrev pub IsFlagged : Flagged → Type 0
IsFlagged flagged = flagged.key < 2 ^ 64

abbrev pub flagged_text : Flagged → List ℕ
flagged_text flagged = keyed_text flagged.key (flag_text flagged.flag)

abbrev pub flagged_spelling : Spelling Flagged
flagged_spelling = record { is_value = IsFlagged; text_of = flagged_text }

pub IsWord-flagged : AreWords flagged_spelling
IsWord-flagged flagged small = IsWord-keyed flagged.key (flag_text flagged.flag) small (IsWord-flag flagged.flag)

pub one_flagged : HasOneValue flagged_spelling
one_flagged f g small other same =
    let key = one_key f.key g.key (flag_text f.flag) (flag_text g.flag) small other same in
    let flag = one_flag f.flag g.flag (one_behind f.key g.key (flag_text f.flag) (flag_text g.flag) small other same) in
    same_parts flagged_parts f g key flag
