-- Reading runs of records word by word.
use Rattle.std.proofs.Common.{◌≡◌, ◌≢◌, ℕ, ◌<◌, List, [], ◌∷◌, ◌++◌, length, map, codes, refl, sym, ap, ◌∙◌, subst, arith, lit≤}
use Rattle.std.specs.Prelude.{decimal}
use Rattle.std.specs.List.{AllByRecursion, flat_map}
use Rattle.std.specs.Global.{Vec}
use Rattle.std.proofs.lemmas.Grind.{flat_map-append}
use Rattle.std.proofs.lemmas.List.{append_assoc, append-nil, length-append, map-append}
use Rattle.text_core.specs.Text.{Spelling, AreWords, HasOneValue}
use Rattle.text_core.specs.Numbers.{one_decimal}
use Rattle.play_core.specs.LineWords.{StartsWithNone}
use Rattle.drive_core.specs.Given.{pieces_of}
use Rattle.play_core.specs.LineRuns.{IsLineRun, IsPushed, AreLineRuns, run_words, barred_words, runs_words}
use Rattle.text_core.proofs.Small.{push_all}
use Rattle.text_core.proofs.Joins.{not_bar}

head_is : (v w : List ℕ) (vs ws : List (List ℕ)) → v ∷ vs ≡ w ∷ ws → v ≡ w
head_is v w vs ws is = cc

tail_is : (v w : List ℕ) (vs ws : List (List ℕ)) → v ∷ vs ≡ w ∷ ws → vs ≡ ws
tail_is v w vs ws is = cc

-- ---- records

pub map_more : {R : Type 0} (text_of : R → List ℕ) (records : List R) (r : R) (words left : List (List ℕ)) → left ≡ text_of r ∷ words
    → map text_of records ++ left ≡ map text_of (records ++ r ∷ []) ++ words
map_more text_of records r words left is =
    ap (λ (ws : List (List ℕ)). map text_of records ++ ws) is
    ∙ sym (append_assoc (map text_of records) (text_of r ∷ []) words)
    ∙ ap (λ (ws : List (List ℕ)). ws ++ words) (sym (map-append text_of records (r ∷ [])))

same_records : {R : Type 0} (spelling : Spelling R) (rs ss : List R) (t u : List (List ℕ)) → HasOneValue spelling
    → AllByRecursion spelling.is_value rs → AllByRecursion spelling.is_value ss → StartsWithNone spelling t → StartsWithNone spelling u
    → map spelling.text_of rs ++ t ≡ map spelling.text_of ss ++ u → (rs ≡ ss) × (t ≡ u)
same_records spelling [] [] t u one values others none free is = (refl, is)
same_records spelling [] (s ∷ ss) t u one values others none free is = absurd (none s (map spelling.text_of ss ++ u) others.0 is)
same_records spelling (r ∷ rs) [] t u one values others none free is = absurd (free r (map spelling.text_of rs ++ t) values.0 (sym is))
same_records spelling (r ∷ rs) (s ∷ ss) t u one values others none free is =
    let first = one r s values.0 others.0 (head_is (spelling.text_of r) (spelling.text_of s) (map spelling.text_of rs ++ t) (map spelling.text_of ss ++ u) is) in
    let rest = same_records spelling rs ss t u one values.1 others.1 none free (tail_is (spelling.text_of r) (spelling.text_of s) (map spelling.text_of rs ++ t) (map spelling.text_of ss ++ u) is) in
    (ap (λ x. x ∷ rs) first ∙ ap (λ xs. s ∷ xs) rest.0, rest.1)

-- ---- one run

no_record_here : {R : Type 0} (spelling : Spelling R) (words tail : List (List ℕ)) (records : List R) → 0 < length records
    → AllByRecursion spelling.is_value records → StartsWithNone spelling words → words ≢ map spelling.text_of records ++ tail
no_record_here spelling words tail [] some values none is = absurd (omega (arith, some))
no_record_here spelling words tail (r ∷ records) some values none is = none r (map spelling.text_of records ++ tail) values.0 is

-- a number, and no record behind it
pub no_record_behind : {R : Type 0} (spelling : Spelling R) (words left tail : List (List ℕ)) (n : ℕ) (run : ℕ × List R) → words ≡ decimal n ∷ left
    → StartsWithNone spelling left → IsLineRun spelling run → words ≢ run_words spelling.text_of run ++ tail
no_record_behind spelling words left tail n run cut none so is =
    no_record_here spelling left tail run.1 so.some so.values none (tail_is (decimal n) (decimal run.0) left (map spelling.text_of run.1 ++ tail) (sym cut ∙ is))

same_run : {R : Type 0} (spelling : Spelling R) (a b : ℕ × List R) (t u : List (List ℕ)) → HasOneValue spelling → IsLineRun spelling a → IsLineRun spelling b
    → StartsWithNone spelling t → StartsWithNone spelling u
    → run_words spelling.text_of a ++ t ≡ run_words spelling.text_of b ++ u → (a ≡ b) × (t ≡ u)
same_run spelling a b t u one of_a of_b none free is =
    let more = map spelling.text_of a.1 ++ t in
    let other = map spelling.text_of b.1 ++ u in
    let number = one_decimal 64 (lit≤ tt) a.0 b.0 of_a.small of_b.small (head_is (decimal a.0) (decimal b.0) more other is) in
    let rest = same_records spelling a.1 b.1 t u one of_a.values of_b.values none free (tail_is (decimal a.0) (decimal b.0) more other is) in
    (ap (λ n. (n, a.1)) number ∙ ap (λ rs. (b.0, rs)) rest.0, rest.1)

pub none_of_nothing : {R : Type 0} (spelling : Spelling R) → StartsWithNone spelling []
none_of_nothing spelling r more value is = cc is

-- more stands behind a run than its records
pub more_behind : {R : Type 0} (spelling : Spelling R) (words left : List (List ℕ)) (run other : ℕ × List R) → HasOneValue spelling
    → words ≡ run_words spelling.text_of run ++ left → left ≢ [] → IsLineRun spelling run → StartsWithNone spelling left → IsLineRun spelling other
    → words ≢ run_words spelling.text_of other
more_behind spelling words left run other one cut some so none so_other is =
    some (same_run spelling run other left [] one so so_other none (none_of_nothing spelling) (sym cut ∙ is ∙ sym (append-nil (run_words spelling.text_of other)))).1

-- ---- runs

none_of_bars : {R : Type 0} (spelling : Spelling R) (runs : List (ℕ × List R)) → AreWords spelling → StartsWithNone spelling (flat_map (barred_words spelling.text_of) runs)
none_of_bars spelling [] law = none_of_nothing spelling
none_of_bars spelling (run ∷ runs) law =
    λ r more value is. not_bar (spelling.text_of r) (law r value)
    (sym (head_is (codes "|") (spelling.text_of r) (run_words spelling.text_of run ++ flat_map (barred_words spelling.text_of) runs) more is))

-- what any reading of the words has behind the runs so far
pub record Ahead {R : Type 0} (spelling : Spelling R) (done all : List (ℕ × List R)) (left : List (List ℕ)) : Type 0 where
  pub others : List (ℕ × List R)
  pub parts : all ≡ done ++ others
  pub each : AllByRecursion (IsLineRun spelling) others
  pub words_are : left ≡ flat_map (barred_words spelling.text_of) others

-- these runs are read, and these words are left
pub record HasRuns {R : Type 0} (spelling : Spelling R) (words : List (List ℕ)) (done : List (ℕ × List R)) (left : List (List ℕ)) : Type 0 where
  pub runs : AreLineRuns spelling done
  pub so_far : words ≡ runs_words spelling.text_of done ++ left
  pub only : (all : List (ℕ × List R)) → AreLineRuns spelling all → words ≡ runs_words spelling.text_of all → Ahead spelling done all left

start_ahead : {R : Type 0} (spelling : Spelling R) (words left : List (List ℕ)) (run : ℕ × List R) (all : List (ℕ × List R)) → AreWords spelling
    → HasOneValue spelling → IsLineRun spelling run → StartsWithNone spelling left → words ≡ run_words spelling.text_of run ++ left → AreLineRuns spelling all
    → words ≡ runs_words spelling.text_of all → Ahead spelling (run ∷ []) all left
start_ahead spelling words left run [] law one so none cut are is = let some = are.some in absurd (omega (arith, some))
start_ahead spelling words left run (other ∷ more) law one so none cut are is =
    let same = same_run spelling run other left (flat_map (barred_words spelling.text_of) more) one so are.each.0 none (none_of_bars spelling more law) (sym cut ∙ is) in
    record { others = more; parts = ap (λ r. r ∷ more) (sym same.0); each = are.each.1; words_are = same.1 }

pub HasRuns_start : {R : Type 0} (spelling : Spelling R) (words left : List (List ℕ)) (run : ℕ × List R) → AreWords spelling → HasOneValue spelling
    → IsLineRun spelling run → StartsWithNone spelling left → words ≡ run_words spelling.text_of run ++ left → HasRuns spelling words (run ∷ []) left
HasRuns_start spelling words left run law one so none cut = record {
  runs = record { some = omega arith; each = (so, tt) };
  so_far = cut ∙ ap (λ (ws : List (List ℕ)). ws ++ left) (sym (append-nil (run_words spelling.text_of run)));
  only = λ all are is. start_ahead spelling words left run all law one so none cut are is;
}

words_more : {R : Type 0} (spelling : Spelling R) (done : List (ℕ × List R)) (run : ℕ × List R) (left : List (List ℕ)) → 0 < length done
    → runs_words spelling.text_of done ++ (barred_words spelling.text_of run ++ left) ≡ runs_words spelling.text_of (done ++ run ∷ []) ++ left
words_more spelling [] run left some = absurd (omega (arith, some))
words_more spelling (first ∷ done) run left some =
    let front = run_words spelling.text_of first in
    let bars = flat_map (barred_words spelling.text_of) in
    append_assoc front (bars done) (barred_words spelling.text_of run ++ left)
    ∙ ap (λ (ws : List (List ℕ)). front ++ ws) (
    sym (append_assoc (bars done) (barred_words spelling.text_of run) left)
    ∙ ap (λ (ws : List (List ℕ)). (bars done ++ ws) ++ left) (sym (append-nil (barred_words spelling.text_of run)))
    ∙ ap (λ (ws : List (List ℕ)). ws ++ left) (sym (flat_map-append (barred_words spelling.text_of) done (run ∷ []))))
    ∙ sym (append_assoc front (bars (done ++ run ∷ [])) left)

-- behind a bar
ahead_behind : {R : Type 0} (spelling : Spelling R) (word : List ℕ) (behind : List (List ℕ)) (others : List (ℕ × List R))
    → AllByRecursion (IsLineRun spelling) others → word ∷ behind ≡ flat_map (barred_words spelling.text_of) others
    → (run : ℕ × List R) × (more : List (ℕ × List R)) × (others ≡ run ∷ more) × IsLineRun spelling run × AllByRecursion (IsLineRun spelling) more
    × (word ≡ codes "|") × (behind ≡ run_words spelling.text_of run ++ flat_map (barred_words spelling.text_of) more)
ahead_behind spelling word behind [] each is = cc is
ahead_behind spelling word behind (run ∷ more) each is =
    let words = run_words spelling.text_of run ++ flat_map (barred_words spelling.text_of) more in
    (run, more, refl, each.0, each.1, head_is word (codes "|") behind words is, tail_is word (codes "|") behind words is)

more_ahead : {R : Type 0} (spelling : Spelling R) (done all : List (ℕ × List R)) (word : List ℕ) (left behind after : List (List ℕ))
    (run : ℕ × List R)
    → AreWords spelling → HasOneValue spelling → left ≡ word ∷ behind → IsLineRun spelling run → StartsWithNone spelling after
    → behind ≡ run_words spelling.text_of run ++ after
    → Ahead spelling done all left → Ahead spelling (done ++ run ∷ []) all after
more_ahead spelling done all word left behind after run law one cut so none read ahead =
    let next = ahead_behind spelling word behind ahead.others ahead.each (sym cut ∙ ahead.words_are) in
    let same = same_run spelling run next.0 after (flat_map (barred_words spelling.text_of) next.1) one so next.3 none (none_of_bars spelling next.1 law) (sym read ∙ next.6) in
    record {
      others = next.1;
      parts = ahead.parts ∙ ap (λ rs. done ++ rs) (next.2 ∙ ap (λ r. r ∷ next.1) (sym same.0)) ∙ sym (append_assoc done (run ∷ []) next.1);
      each = next.4;
      words_are = same.1;
    }

pub HasRuns_more : {R : Type 0} (spelling : Spelling R) (words : List (List ℕ)) (done : List (ℕ × List R)) (word : List ℕ)
    (left behind after : List (List ℕ)) (run : ℕ × List R)
    → AreWords spelling → HasOneValue spelling → left ≡ word ∷ behind → word ≡ codes "|" → IsLineRun spelling run → StartsWithNone spelling after
    → behind ≡ run_words spelling.text_of run ++ after
    → HasRuns spelling words done left → HasRuns spelling words (done ++ run ∷ []) after
HasRuns_more spelling words done word left behind after run law one cut bar so none read before = record {
  runs = record {
    some = let len = length-append done (run ∷ []) in omega (arith, len);
    each = push_all (IsLineRun spelling) done run before.runs.each so;
  };
  so_far =
      before.so_far
      ∙ ap (λ (ws : List (List ℕ)). runs_words spelling.text_of done ++ ws) (cut ∙ ap (λ (w : List ℕ). w ∷ behind) bar ∙ ap (λ (ws : List (List ℕ)). codes "|" ∷ ws) read)
      ∙ words_more spelling done run after before.runs.some;
  only = λ all are is. more_ahead spelling done all word left behind after run law one cut so none read (before.only all are is);
}

pub HasRuns_first : {R : Type 0} (spelling : Spelling R) (words : List (List ℕ)) (old new : List (ℕ × List R)) (left : List (List ℕ)) → AreWords spelling → HasOneValue spelling
    → old ≡ [] → IsPushed spelling words old new left → HasRuns spelling words new left
HasRuns_first spelling words old new left law one none so =
    let done : new ≡ so.run ∷ [] = so.more ∙ ap (λ rs. rs ++ so.run ∷ []) none in
    subst (λ rs. HasRuns spelling words rs left) (sym done) (HasRuns_start spelling words left so.run law one so.is_run so.all so.parts)

pub HasRuns_next : {R : Type 0} (spelling : Spelling R) (words : List (List ℕ)) (old new : List (ℕ × List R)) (word : List ℕ) (left behind after : List (List ℕ))
    → AreWords spelling → HasOneValue spelling → left ≡ word ∷ behind → word ≡ codes "|" → IsPushed spelling behind old new after → HasRuns spelling words old left → HasRuns spelling words new after
HasRuns_next spelling words old new word left behind after law one cut bar so before =
    subst (λ rs. HasRuns spelling words rs after) (sym so.more) (HasRuns_more spelling words old word left behind after so.run law one cut bar so.is_run so.all so.parts before)

-- ---- no runs

pub no_bar : {R : Type 0} (spelling : Spelling R) (words : List (List ℕ)) (done all : List (ℕ × List R)) (word : List ℕ) (left behind : List (List ℕ))
    → left ≡ word ∷ behind → word ≢ codes "|" → HasRuns spelling words done left → AreLineRuns spelling all → words ≢ runs_words spelling.text_of all
no_bar spelling words done all word left behind cut other so are is =
    let ahead = so.only all are is in other (ahead_behind spelling word behind ahead.others ahead.each (sym cut ∙ ahead.words_are)).5

pub no_run : {R : Type 0} (spelling : Spelling R) (words : List (List ℕ)) (done all : List (ℕ × List R)) (word : List ℕ) (left behind : List (List ℕ))
    → left ≡ word ∷ behind → ((run : ℕ × List R) (tail : List (List ℕ)) → IsLineRun spelling run → behind ≢ run_words spelling.text_of run ++ tail)
    → HasRuns spelling words done left → AreLineRuns spelling all → words ≢ runs_words spelling.text_of all
no_run spelling words done all word left behind cut none so are is =
    let ahead = so.only all are is in
    let next = ahead_behind spelling word behind ahead.others ahead.each (sym cut ∙ ahead.words_are) in
    none next.0 (flat_map (barred_words spelling.text_of) next.1) next.3 next.6

pub no_first : {R : Type 0} (spelling : Spelling R) (words : List (List ℕ)) (all : List (ℕ × List R))
    → ((run : ℕ × List R) (tail : List (List ℕ)) → IsLineRun spelling run → words ≢ run_words spelling.text_of run ++ tail) → AreLineRuns spelling all
    → words ≢ runs_words spelling.text_of all
no_first spelling words [] none are is = let some = are.some in absurd (omega (arith, some))
no_first spelling words (run ∷ more) none are is = none run (flat_map (barred_words spelling.text_of) more) are.each.0 is

pub pieces_push : {R : Type 0} (runs : List (ℕ × Vec R)) (run : ℕ × Vec R) → pieces_of (runs ++ run ∷ []) ≡ pieces_of runs ++ (run.0, run.1.items) ∷ []
pieces_push runs run = map-append (λ run. (run.0, run.1.items)) runs (run ∷ [])
