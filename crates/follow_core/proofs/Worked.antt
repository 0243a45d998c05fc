-- Worked examples: what commands answer, and when it is so.
use Rattle.std.proofs.Common.{◌≡◌, ◌≢◌, ℕ, zero, suc, List, [], ◌∷◌, get_or, Option, Some, None, Bool, refl, sym, ap, subst, ◌∙◌, arith}
use Rattle.std.specs.Prelude.{codes, decimal, nat_eq, slice_get}
use Rattle.std.specs.Cmp.{both_ways, unsigned_Decides}
use Rattle.std.specs.Fmt.{digits}
use Rattle.std.specs.Option.{option_and_then}
use Rattle.std.specs.List.{count_by}
use Rattle.record_core.specs.Bytes.{Encoding}
use Rattle.segment_core.specs.declared.format.Format.TheVariants.{One}
use Rattle.segment_core.specs.declared.format.Shape.{Shape}
use Rattle.segment_core.specs.Frame.{Frame, Group, Change, Fold}
use Rattle.search_core.specs.Search.{IsFirst}
use Rattle.text_core.specs.Answers.{number_line, found_line, TestsFor}
use Rattle.follow_core.specs.Answers.{AreListed, IsCountLine, IsFoundLine, AreMeasuresTold}
use Rattle.segment_core.specs.declared.fault.ScanFault.{ScanFault}
use Rattle.stat_core.specs.Text.{summary_text, file_text}
use Rattle.stat_core.specs.declared.summary.Summary.{Summary}
use Rattle.stat_core.specs.declared.writing.Form.TheVariants.{Lines}
use Rattle.beside_core.specs.declared.fault.LookFault.TheVariants.{Scan}
use Rattle.beside_core.specs.PensFile.{IsPensFile}
use Rattle.follow_core.specs.Beside.{WereOnce, AreRecordsLeft, AnswersRecords, IsSummaryTold, IsSummarizedBeside}
use Rattle.follow_core.specs.declared.ended.LookEnd.TheVariants.{Refused}
use Rattle.follow_core.specs.Followed.{AreSettled, HasFollowed, IsEndOfLook, MayEndBy}
use Rattle.follow_core.specs.declared.ended.FollowEnd.TheVariants as ends
use Rattle.follow_core.specs.declared.pause.Rest.{Rest}
use Rattle.follow_core.specs.declared.pause.Rest.TheVariants as rests

-- ---- texts

-- of three records, one from position 1 on; and not the one before
listed : AreListed decimal 1 1 (5 ∷ 6 ∷ 7 ∷ []) (codes "6\n")
unfolding digits
listed = refl

not_before : AreListed decimal 1 1 (5 ∷ 6 ∷ 7 ∷ []) (codes "5\n") → ⊥
unfolding digits
not_before is = let byte : 53 ≡ 54 = ap (λ (t : List ℕ). get_or t 0 0) is in absurd (omega (arith, byte))

-- past the end there is none
past : AreListed decimal 3 9 (5 ∷ 6 ∷ 7 ∷ []) []
past = refl

for_six : TestsFor {R = ℕ} 6 (λ r. nat_eq r 6)
for_six r = unsigned_Decides r 6

counted : IsCountLine {R = ℕ} 6 (6 ∷ 5 ∷ 6 ∷ []) (codes "2\n")
unfolding digits
counted = ((λ r. nat_eq r 6), for_six, refl)

found : IsFoundLine {R = ℕ} 6 (5 ∷ 6 ∷ 6 ∷ []) (codes "1\n")
unfolding digits
found = ((λ r. nat_eq r 6), for_six, Some 1, (refl, refl), refl)

found_none : IsFoundLine {R = ℕ} 6 (5 ∷ 7 ∷ []) (codes "none\n")
unfolding digits
found_none = ((λ r. nat_eq r 6), for_six, None, refl, refl)

-- one test alone is for 6, so there is one answer
one_test : (is : ℕ → Bool) → TestsFor {R = ℕ} 6 is → (λ r. nat_eq r 6) ≡ is
one_test is just = λ i r. both_ways (nat_eq r 6) (is r) (λ same. (just r).1 ((unsigned_Decides r 6).0 same)) (λ yes. (unsigned_Decides r 6).1 ((just r).0 yes)) i

two_alone : (text : List ℕ) → IsCountLine {R = ℕ} 6 (6 ∷ 5 ∷ 6 ∷ []) text → text ≡ codes "2\n"
unfolding digits
two_alone text so = so.2 ∙ ap (λ is. number_line (count_by is (6 ∷ 5 ∷ 6 ∷ []))) (sym (one_test so.0 so.1))

zero_line : found_line (Some 0) ≡ codes "0\n"
unfolding digits
zero_line = refl

-- the second of two isn't the first
none_but_first : (found : Option ℕ) → IsFirst {R = ℕ} (λ r. nat_eq r 6) (6 ∷ 6 ∷ []) found → codes "1\n" ≡ found_line found → ⊥
none_but_first None first told = absurd (omega (arith, first))
none_but_first (Some zero) first told = absurd (omega (arith, ap (λ (bs : List ℕ). get_or bs 0 0) (told ∙ zero_line)))
none_but_first (Some (suc zero)) first told = absurd (omega (arith, first.0))
none_but_first (Some (suc (suc n))) first told = absurd first.1

not_the_last : IsFoundLine {R = ℕ} 6 (6 ∷ 6 ∷ []) (codes "1\n") → ⊥
not_the_last so = none_but_first so.2 (subst (λ is. IsFirst is (6 ∷ 6 ∷ []) so.2) (sym (one_test so.0 so.1)) so.3) so.4

-- ---- a file of records of one byte: 5 is grown, changed to 7, and folded

abbrev one_byte : Shape
one_byte = record { format = One; width = 1 }

abbrev byte : Encoding ℕ
byte = record { width = 1; bytes_of = λ n. n ∷ []; value_of = λ bytes. Some (get_or bytes 0 0) }

abbrev grown : Frame
grown = Group (1 ∷ []) (5 ∷ [])

abbrev changed : Frame
changed = Change (record { start = 0; count = 1 } ∷ []) (7 ∷ [])

abbrev frames : ℕ → List Frame
frames zero = []
frames (suc zero) = grown ∷ []
frames (suc (suc zero)) = grown ∷ changed ∷ []
frames (suc (suc (suc t))) = grown ∷ changed ∷ Fold 1 ∷ []

one_record : (n i : ℕ) → option_and_then byte.value_of (slice_get ((n ∷ []) ∷ []) i) ≡ slice_get (n ∷ []) i
one_record n zero = refl
one_record n (suc i) = refl

left : AreRecordsLeft byte (frames 2) (7 ∷ [])
left = record { size = refl; each = one_record 7 }

-- a list between moments 1 and 2 may be that of either: here the later one, which a sync behind it has settled
answered : WereOnce frames 1 2 3 (AnswersRecords byte (AreListed decimal 0 9) (codes "7\n"))
unfolding digits
answered = record { moment = 2; begun = omega arith; until = omega arith; settled = λ some. omega arith; so = (7 ∷ [], left, refl) }

-- and none that no sync has
unsettled : (IsAnswer : List Frame → Type 0) → WereOnce frames 1 1 1 IsAnswer → ⊥
unsettled IsAnswer were =
    let here : were.moment ≡ 1 = let a = were.begun in let b = were.until in omega (arith, a, b) in
    let some : frames were.moment ≢ [] = λ none. let no : grown ∷ [] ≡ [] = ap frames (sym here) ∙ none in absurd cc in
    let below = were.settled some in
    absurd (omega (arith, here, below))

measured : AreMeasuresTold byte one_byte (codes "ok version 1 width 1 size 1 frames 3 live 0\n") (frames 3)
unfolding digits
measured = (7 ∷ [], record { size = refl; each = one_record 7 }, refl)

one_live : AreMeasuresTold byte one_byte (codes "ok version 1 width 1 size 1 frames 2 live 1\n") (frames 2)
unfolding digits
one_live = (7 ∷ [], left, refl)

-- ---- a follower from position 1 on, behind a group of two

abbrev two : List Frame
two = Group (2 ∷ []) (5 ∷ 6 ∷ []) ∷ []

two_records : (i : ℕ) → option_and_then byte.value_of (slice_get ((5 ∷ []) ∷ (6 ∷ []) ∷ []) i) ≡ slice_get (5 ∷ 6 ∷ []) i
two_records zero = refl
two_records (suc zero) = refl
two_records (suc (suc i)) = refl

followed : HasFollowed byte decimal 1 (λ _. two) two 0 1 (Some []) (Some (codes "6\n"))
unfolding digits
followed = record { stand = ([], refl); settled = λ some. record { moment = 0; rest = []; stood = refl; settled = omega arith }; records = 5 ∷ 6 ∷ []; are = record { size = refl; each = two_records }; written = refl }

-- ---- frames that a sync has settled

-- the first frame stood alone at moment 1, and still at the later ones
settled_once : AreSettled frames (grown ∷ []) 2
settled_once = record { moment = 1; rest = []; stood = refl; settled = omega arith }

-- and not yet at moment 0, below which the sync has settled all
unsettled_yet : AreSettled frames (grown ∷ []) 1 → ⊥
unsettled_yet are =
    let first : are.moment ≡ 0 = let below = are.settled in omega (arith, below) in
    let none : [] ≡ grown ∷ are.rest = ap frames (sym first) ∙ are.stood in
    absurd cc

-- a frame that the file never had isn't
never_stood : (synced : ℕ) → AreSettled (λ _. []) (grown ∷ []) synced → ⊥
never_stood synced are = let none : [] ≡ grown ∷ are.rest = are.stood in absurd cc

-- ---- the summary of the file with the record that is grown, as it is told beside a writer

-- it ends with its gate, at byte 26
abbrev told : Summary
told = record {
  version = 1;
  width = 1;
  bytes = 27;
  groups = 1;
  changes = 0;
  shrinks = 0;
  folds = 0;
  growths = 1;
  records = 1;
  size = 1;
  folded = 0;
  gate = 26;
}

its_summary : IsSummaryTold Lines one_byte (summary_text Lines told) (frames 1)
its_summary = refl

-- and not that of another version
not_of_two : IsSummaryTold Lines one_byte (summary_text Lines (record told { version = 2 })) (frames 1) → ⊥
unfolding digits file_text
not_of_two is = let byte : 50 ≡ 49 = ap (λ (t : List ℕ). get_or t 8 0) is in absurd (omega (arith, byte))

-- the file of a pen is never called damaged
never_damaged : (held : ℕ → List ℕ) (fault : ScanFault) → IsPensFile one_byte held frames → IsSummarizedBeside Lines (Unit {0}) held 0 1 0 None None (Refused (Scan fault)) → ⊥
never_damaged held fault file is = absurd (is.1 tt one_byte frames file)

-- ---- pauses

-- what a pause may answer that never ends a follower, and one that ends it behind the first look
abbrev GoesOn : Rest → Type 0
GoesOn rests.End = ⊥
GoesOn rests.GoOn = Unit {0}
GoesOn rests.Replaced = Unit {0}

abbrev EndsAtOnce : Rest → Type 0
EndsAtOnce rests.End = Unit {0}
EndsAtOnce rests.GoOn = ⊥
EndsAtOnce rests.Replaced = ⊥

goes_on : MayEndBy GoesOn ends.Replaced × MayEndBy GoesOn ends.OutputFailed × (MayEndBy GoesOn ends.Ended → ⊥)
goes_on = (tt, tt, λ may. may)

ends_at_once : MayEndBy EndsAtOnce ends.Ended × MayEndBy EndsAtOnce ends.OutputFailed × (MayEndBy EndsAtOnce ends.Replaced → ⊥)
ends_at_once = (tt, tt, λ may. may)

-- no look ends as a pause does
by_a_pause : IsEndOfLook ends.OutputFailed × (IsEndOfLook ends.Ended → ⊥) × (IsEndOfLook ends.Replaced → ⊥)
by_a_pause = (tt, (λ is. is), λ is. is)
