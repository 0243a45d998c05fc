-- What a seat does in two steps.
use Rattle.std.proofs.Common.{◌≡◌, ℕ, ◌-◌, ◌<◌, ◌≤◌, true, false, List, [], ◌∷◌, ◌++◌, length, take, replicate, Option, Some, None, Result, Ok, Err, refl, ap, sym, subst, ◌∙◌, arith}
use Rattle.std.proofs.lemmas.List.{length-take, take-take}
use Rattle.std.proofs.Math.Seq.{take-length}
use Rattle.block_core.specs.Growth.{Growth}
use Rattle.std.specs.Prelude.{is_err, MatchResult}
use Rattle.block_core.specs.declared.fault.FreshFault.{FreshFault}
use Rattle.block_core.specs.declared.fault.FreshFault.TheVariants as fresh
use Rattle.block_core.specs.Length.{IsBlockLength, IsLengthFault, payload_len}
use Rattle.directory_core.specs.Chain.{total, IsPrefix}
use Rattle.record_core.specs.Limits.{record_limit, payload_limit}
use Rattle.book_core.specs.declared.fault.GrowFault.{GrowFault}
use Rattle.book_core.specs.declared.fault.GrowFault.TheVariants.{Closed, Full, TooLong, Strayed, Memory, Empty, TooLarge}
use Rattle.book_core.specs.declared.seat.Receipt.{Receipt}
use Rattle.book_core.specs.declared.mark.MarkState.{MarkState}
use Rattle.book_core.specs.declared.mark.Reading.{Reading}
use Rattle.book_core.specs.Marks.{Rises}
use Rattle.book_core.specs.Lists.{Phase, Seated}
use Rattle.book_core.specs.Appending.{Appending, IsFlushRefusal, IsAppendRefusal}
use Rattle.book_core.specs.Growing.{SeatLearns, SeatIsTold, growth_of, Grown, FillsOrReaches, size_of, IsBookRefusal, IsFillRefusal, IsLookFault}

pub begins-trans : {X : Type 0} (xs ys zs : List X) → IsPrefix xs ys → IsPrefix ys zs → IsPrefix xs zs
begins-trans xs ys zs a b =
    let long : length xs ≤ length ys = let l = ap length a in omega (arith, length-take (length xs) ys) in
    sym (take-take (length xs) (length ys) zs long) ∙ (ap (λ (ws : List _). take (length xs) ws) b ∙ a)

pub learns-refl : {R : Type 0} (a : Seated R) → SeatLearns a a
learns-refl a = record { id = refl; mark = refl; of = refl; made = refl; begins = take-length a.pass.entries }

pub learns-trans : {R : Type 0} (a b c : Seated R) → SeatLearns a b → SeatLearns b c → SeatLearns a c
learns-trans a b c ab bc = record {
  id = bc.id ∙ ab.id;
  mark = bc.mark ∙ ab.mark;
  of = bc.of ∙ ab.of;
  made = bc.made ∙ ab.made;
  begins = begins-trans a.pass.entries b.pass.entries c.pass.entries ab.begins bc.begins;
}

pub grown-after : {R : Type 0} (live : Phase R) (a b c : Seated R) (records : List R) (receipt : Receipt) → SeatLearns a b → Grown live b c records receipt → Grown live a c records receipt
grown-after live a b c records receipt ab grown =
    let same : growth_of b grown.before records ≡ growth_of a grown.before records =
    λ i. record { number = length grown.before; start = total grown.before; seat = ab.id i; serial = length (ab.made i); records = records } in
    record {
      before = grown.before;
      begins = begins-trans a.pass.entries b.pass.entries grown.before ab.begins grown.begins;
      ends = grown.ends ∙ ap (λ (e : Growth _). grown.before ++ e ∷ []) same;
      number = grown.number;
      start = grown.start;
      len = grown.len;
      seat = grown.seat ∙ ab.id;
      serial = grown.serial ∙ ap length ab.made;
      made = grown.made ∙ (λ i. ab.made i ++ same i ∷ []);
      just_own = grown.just_own;
      same = (grown.same.0 ∙ ab.id, grown.same.1 ∙ ab.mark, grown.same.2 ∙ ab.of);
    }

pub fill-after : {R : Type 0} (live : Phase R) (a b c : Seated R) (n : ℕ) (v : R) (r : Result (Option Receipt) GrowFault) → SeatLearns a b
    → FillsOrReaches live b c n v r → FillsOrReaches live a c n v r
fill-after live a b c n v (Ok None) ab told = (learns-trans a b c ab told.0, told.1)
fill-after live a b c n v (Ok (Some receipt)) ab told = record { count = told.count; grown = grown-after live a b c (replicate told.count v) receipt ab told.grown; some = told.some; ends = told.ends }
fill-after live a b c n v (Err e) ab told = learns-trans a b c ab told

-- what the book refuses of the records that the size was short of n
pub fill_from_book : {R : Type 0} (width : ℕ) (live : Phase R) (seat : Seated R) (n short : ℕ) (fault : GrowFault) → size_of live seat < n
    → short ≡ n - size_of live seat → IsBlockLength width short → n ≤ record_limit
    → IsBookRefusal live seat short fault → IsFillRefusal width live seat n fault
fill_from_book width live seat n short Closed less is block fits told = tt
fill_from_book width live seat n short Full less is block fits told = (told.0, less, told.1)
fill_from_book width live seat n short TooLong less is block fits told = let past = told.2 in absurd (omega arith)
fill_from_book width live seat n short (Strayed k) less is block fits told = told
fill_from_book width live seat n short Memory less is block fits told = (told.0, told.1, less, subst (λ (m : ℕ). IsBlockLength width m) is block, fits)
fill_from_book width live seat n short Empty less is block fits told = told
fill_from_book width live seat n short TooLarge less is block fits told = absurd told

-- what the book refuses of a full block
pub append_refused : {R : Type 0} (live : Phase R) (a : Appending R) (fault : GrowFault) → length a.kept ≡ a.room → IsFlushRefusal live a fault → IsAppendRefusal live a fault
append_refused live a Closed full why = (full, why)
append_refused live a Full full why = (full, why)
append_refused live a TooLong full why = (full, why)
append_refused live a (Strayed n) full why = (full, why)
append_refused live a Memory full why = tt
append_refused live a Empty full why = (full, why)
append_refused live a TooLarge full why = (full, why)

-- what a look finds refuses a growth
pub book_from_look : {R : Type 0} (live : Phase R) (seat : Seated R) (len : ℕ) (fault : GrowFault) → IsLookFault seat fault → IsBookRefusal live seat len fault
book_from_look live seat len (Strayed n) is = is
book_from_look live seat len Closed is = absurd is
book_from_look live seat len Full is = absurd is
book_from_look live seat len TooLong is = absurd is
book_from_look live seat len Memory is = absurd is
book_from_look live seat len Empty is = absurd is
book_from_look live seat len TooLarge is = absurd is

pub fill_from_look : {R : Type 0} (width : ℕ) (live : Phase R) (seat : Seated R) (n : ℕ) (fault : GrowFault) → IsLookFault seat fault → IsFillRefusal width live seat n fault
fill_from_look width live seat n (Strayed k) is = is
fill_from_look width live seat n Closed is = absurd is
fill_from_look width live seat n Full is = absurd is
fill_from_look width live seat n TooLong is = absurd is
fill_from_look width live seat n Memory is = absurd is
fill_from_look width live seat n Empty is = absurd is
fill_from_look width live seat n TooLarge is = absurd is

-- a length that passes its test is a block's
pub length_passed : {A : Type 0} (width n : ℕ) (answer : Result A FreshFault) → is_err answer ≡ false
    → MatchResult answer (λ _. IsBlockLength width n) (IsLengthFault width n) → IsBlockLength width n
length_passed width n (Ok done) passed is = is
length_passed width n (Err fault) passed is = absurd cc

-- one that doesn't, of some records, is too large
pub length_refused : {A : Type 0} (width n : ℕ) (answer : Result A FreshFault) → is_err answer ≡ true → 0 < n
    → MatchResult answer (λ _. IsBlockLength width n) (IsLengthFault width n) → payload_limit < payload_len width n
length_refused width n (Ok done) refused some is = absurd cc
length_refused width n (Err fresh.Empty) refused some is = absurd (omega arith)
length_refused width n (Err fresh.TooLarge) refused some is = is
length_refused width n (Err fresh.Memory) refused some is = absurd is

-- what the book refuses of the records that are kept
pub flush_refused : {R : Type 0} (live : Phase R) (a : Appending R) (fault : GrowFault) → IsBookRefusal live a.seat (length a.kept) fault → IsFlushRefusal live a fault
flush_refused live a Closed why = why
flush_refused live a Full why = why
flush_refused live a TooLong why = why
flush_refused live a (Strayed n) why = why
flush_refused live a Memory why = tt
flush_refused live a Empty why = why
flush_refused live a TooLarge why = why

-- what a seat was told in two steps
pub told-trans : {R : Type 0} (a b c : Seated R) (count count' : ℕ) (state state' : MarkState) → SeatIsTold a b count state → SeatIsTold b c count' state' → SeatIsTold a c count' state'
told-trans a b c count count' state state' ab bc =
    let rises : Rises (record { count = count; state = state }) (record { count = count'; state = state' }) =
    subst (λ (r : Reading). Rises r (record { count = count'; state = state' })) ab.told bc.rises in
    let first = ab.rises.count in
    let then = rises.count in
    record {
      same = (bc.same.0 ∙ ab.same.0, bc.same.1 ∙ ab.same.1, bc.same.2 ∙ ab.same.2);
      mark = bc.mark ∙ ab.mark;
      told = bc.told;
      raised = bc.raised;
      seen = λ raise is. bc.seen raise (ab.seen raise is);
      rises = record { count = omega arith; state = λ over. rises.state (ab.rises.state over) };
    }
