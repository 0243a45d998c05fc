-- Lines that ask for nothing.
use Rattle.std.proofs.Common.{◌≡◌, ◌≢◌, ℕ, ◌*◌, Bool, true, false, if◌then◌else◌, List, [], ◌∷◌, length, slice_index, Result, Ok, Err, refl, sym, ap, ◌∙◌, subst, arith}
use Rattle.std.specs.Prelude.{◌==◌}
use Rattle.hex.specs.Hex.{decode_of, decode_sized}
use Rattle.hex.specs.declared.error.FromHexError.{FromHexError}
use Rattle.hex.proofs.HexLemmas.{decode_of-ok, decode_sized-ok, decode_sized-twice}
use Rattle.disk_core.specs.declared.choice.Choice.{Choice}
use Rattle.play_core.specs.declared.verb.Verb.{Verb}
use Rattle.play_core.specs.declared.verb.Verb.TheVariants as verbs
use Rattle.text_core.specs.Text.{Spelling}
use Rattle.play_core.specs.LineWords.{words_of}
use Rattle.play_core.specs.Verbs.{verb_word}
use Rattle.play_core.proofs.Verbs.{all_verbs}
use Rattle.play_core.specs.StepLine.{Asks, AsksNothing, IsCrash, IsStepLine}

head_is : (v w : List ℕ) (vs ws : List (List ℕ)) → v ∷ vs ≡ w ∷ ws → v ≡ w
head_is v w vs ws is = cc

tail_is : (v w : List ℕ) (vs ws : List (List ℕ)) → v ∷ vs ≡ w ∷ ws → vs ≡ ws
tail_is v w vs ws is = cc

-- ---- each verb has its own word

abbrev same_text : List ℕ → List ℕ → Bool
same_text [] [] = true
same_text [] (c ∷ more) = false
same_text (b ∷ text) [] = false
same_text (b ∷ text) (c ∷ more) = if b == c then same_text text more else false

-- the first of these verbs that has the word, and else `create`
abbrev verb_in : List Verb → List ℕ → Verb
verb_in [] word = verbs.Create
verb_in (verb ∷ others) word = if same_text word (verb_word verb) then verb else verb_in others word

found : (verb : Verb) → verb_in all_verbs (verb_word verb) ≡ verb
found verbs.Create = refl
found verbs.Open = refl
found verbs.Share = refl
found verbs.Put = refl
found verbs.Look = refl
found verbs.View = refl
found verbs.Settled = refl
found verbs.Take = refl
found verbs.Raise = refl
found verbs.Close = refl
found verbs.Gather = refl
found verbs.Change = refl
found verbs.Changes = refl
found verbs.Resize = refl
found verbs.Clear = refl
found verbs.List = refl
found verbs.Fold = refl
found verbs.Log = refl
found verbs.Home = refl
found verbs.Crash = refl

one_verb : (v w : Verb) → verb_word v ≡ verb_word w → v ≡ w
one_verb v w is = sym (found v) ∙ ap (verb_in all_verbs) is ∙ found w

-- ---- lines that ask for nothing

pub no_verb : {R : Type 0} (spelling : Spelling R) (line name : List ℕ) (rest : List (List ℕ)) → words_of line ≡ name ∷ rest → ((verb : Verb) → name ≢ verb_word verb) → IsStepLine spelling line → ⊥
no_verb spelling line name rest cut none so = none so.1.verb (head_is name (verb_word so.1.verb) rest so.1.words (sym cut ∙ so.1.parts))

pub no_words : {R : Type 0} (spelling : Spelling R) (line name : List ℕ) (verb : Verb) (rest : List (List ℕ)) → words_of line ≡ name ∷ rest
    → name ≡ verb_word verb → AsksNothing spelling verb rest → IsStepLine spelling line → ⊥
no_words spelling line name verb rest cut named none so =
    let parts = sym cut ∙ so.1.parts in
    let same = one_verb so.1.verb verb (sym (head_is name (verb_word so.1.verb) rest so.1.words parts) ∙ named) in
    none so.0
    (subst (λ (ws : List (List ℕ)). Asks spelling verb ws so.0) (sym (tail_is name (verb_word so.1.verb) rest so.1.words parts)) (subst (λ (v : Verb). Asks spelling v so.1.words so.0) same so.1.asks))

-- ---- bytes in hex

one_in : (bytes : List ℕ) → length bytes ≡ 1 → bytes ≡ slice_index bytes 0 ∷ []
one_in [] one = cc one
one_in (b ∷ []) one = refl
one_in (b ∷ c ∷ bytes) one = absurd (omega (arith, one))

pub byte_read : (digits bytes : List ℕ) → decode_sized digits 1 ≡ Ok bytes → decode_of digits ≡ Ok (slice_index bytes 0 ∷ [])
byte_read digits bytes read =
    let two = decode_sized-ok digits 1 bytes read in
    let whole = sym (decode_sized-twice digits 1 two) ∙ read in
    let len = (decode_of-ok digits bytes whole).2 in
    whole ∙ ap (λ (bs : List ℕ). let r : Result (List ℕ) FromHexError = Ok bs in r) (one_in bytes (omega (arith, two, len)))

pub no_byte : (digits : List ℕ) (fault : FromHexError) → decode_sized digits 1 ≡ Err fault → (byte : ℕ) → decode_of digits ≢ Ok (byte ∷ [])
no_byte digits fault refused byte is =
    let two : length digits ≡ 2 * 1 = (decode_of-ok digits (byte ∷ []) is).2 in
    let both : Err fault ≡ Ok (byte ∷ []) = sym refused ∙ decode_sized-twice digits 1 two ∙ is in
    cc both

-- ---- words of a crash

pub no_choice : {R : Type 0} (spelling : Spelling R) (words : List (List ℕ)) (word : List ℕ) → words ≡ word ∷ []
    → ((choice : Choice) → IsCrash word choice → ⊥) → AsksNothing spelling verbs.Crash words
no_choice spelling words word cut none asked so =
    none so.1 (subst (λ (w : List ℕ). IsCrash w so.1) (head_is so.0 word [] [] (sym so.2 ∙ cut)) so.3)
