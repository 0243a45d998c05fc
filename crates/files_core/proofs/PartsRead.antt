-- The records of a file that are read part by part, from the first on.
use Rattle.std.proofs.Common.{◌≡◌, ℕ, ◌+◌, ◌<◌, ◌^◌, List, [], ◌∷◌, ◌++◌, length, take, drop, Some, refl, sym, ap, subst, ◌∙◌, arith}
use Rattle.std.specs.Prelude.{Bool}
use Rattle.std.specs.List.{count_by}
use Rattle.std.proofs.lemmas.List.{length-append, take-append-drop, take_all}
use Rattle.record_core.specs.Bytes.{Encoding}
use Rattle.disk_core.specs.State.{State, now, IsImage}
use Rattle.disk_core.specs.Calls.{bytes_of}
use Rattle.disk_core.specs.Moments.{LeavesOnly}
use Rattle.disk_core.proofs.JoinedMoments.{LeavesOnly-start}
use Rattle.segment_core.specs.declared.frame_walk.Framed.{Framed}
use Rattle.pen_core.specs.Framing.{IsFramedOn}
use Rattle.pen_core.specs.Typed.{OpensTo}
use Rattle.pen_core.proofs.FrameSteps.{reads_joined}
use Rattle.search_core.specs.Search.{IsFirst}
use Rattle.search_core.proofs.Firsts.{first_before, first_behind}
use Rattle.files_core.specs.Listing.{AreRecordsFrom}
use Rattle.files_core.specs.Writable.{ReadsAny}
use Rattle.files_core.proofs.WindowRecords.{frames_list, length-frames_list, frames_open, taken_more, taken_none}

-- ---- lists

dropped_none : {X : Type 0} (xs : List X) → drop 0 xs ≡ xs
dropped_none [] = refl
dropped_none (x ∷ xs) = refl

-- a list with these for its first
abbrev pub begun_by : {X : Type 0} → List X → List X → List X
begun_by read all = read ++ drop (length read) all

begun_same : {X : Type 0} (read all : List X) → read ≡ take (length read) all → begun_by read all ≡ all
begun_same {X} read all is = ap (λ (ys : List X). ys ++ drop (length read) all) is ∙ take-append-drop (length read) all

-- ---- the disk and the records

-- The disk was only read so far, and so many records of its file: where it has kept the model, the first ones.
pub record HasReadFirst {R : Type 0} (form : Encoding R) (was keeps : Type 0) (old new : List State) (before after count : ℕ) (read : List R) : Type 0 where
  pub long : length read ≡ count
  pub first : keeps → AreRecordsFrom form (bytes_of old) 0 count read
  pub model : keeps → was
  pub same : keeps → now new ≡ now old
  pub images : keeps → LeavesOnly old new (IsImage (now old))
  pub no_fault : after ≡ before

pub first_none : {R : Type 0} (form : Encoding R) (keeps : Type 0) (states : List State) (faults : ℕ) → HasReadFirst form keeps keeps states states faults faults 0 []
first_none {R} form keeps states faults = record {
  long = refl;
  first = λ model records opens. sym (taken_none (drop 0 records));
  model = λ model. model;
  same = λ model. refl;
  images = λ model. LeavesOnly-start states (IsImage (now states)) (λ image left. left);
  no_fault = refl;
}

-- one part more
pub first_more : {R : Type 0} (form : Encoding R) (was mid keeps : Type 0) (old between new : List State) (before after faults count : ℕ) (read part : List R)
    → HasReadFirst form was mid old between before after count read → (keeps → AreRecordsFrom form (bytes_of between) count (length part) part) → (keeps → mid)
    → (keeps → now new ≡ now between) → (keeps → LeavesOnly between new (IsImage (now between))) → faults ≡ after
    → HasReadFirst form was keeps old new before faults (count + length part) (read ++ part)
first_more {R} form was mid keeps old between new before after faults count read part so_far is back same images no_fault = record {
  long = length-append read part ∙ ap (λ n. n + length part) so_far.long;
  first = λ model records opens. (
      let m = back model in
      let here : count ≡ 0 + count = omega arith in
      taken_more 0 count (length part) records read part (so_far.first m records opens)
      (subst (λ n. part ≡ take (length part) (drop n records)) here
      (is model records (subst (λ (bs : List ℕ). OpensTo form bs records) (sym (ap (λ s. s.seen) (so_far.same m))) opens))));
  model = λ model. so_far.model (back model);
  same = λ model. same model ∙ so_far.same (back model);
  images = λ model. (let m = back model in reads_joined old between new (so_far.same m) (so_far.images m) (images model));
  no_fault = no_fault ∙ so_far.no_fault;
}

-- ---- a file whose frames were walked

module _ {R : Type 0} (form : Encoding R) (small : form.width < 2 ^ 16) (keeps : Type 0) (bytes : List ℕ) (size : ℕ) (framed : Framed) (on : IsFramedOn keeps bytes size framed)
    (width : framed.shape.width ≡ form.width) (blank : R) (any : ReadsAny form) where
  abbrev all : List R
  all = frames_list form small keeps bytes size framed on width blank

  abbrev opens : keeps → OpensTo form bytes all
  opens model = frames_open form small keeps bytes size framed on width blank any model

  -- records that were read as the first ones are those of a list: of the file's, where the disk has kept the model
  pub begun_read : (count : ℕ) (read : List R) → length read ≡ count → AreRecordsFrom form bytes 0 count read → keeps → OpensTo form bytes (begun_by read all)
  begun_read count read long first model =
      subst (OpensTo form bytes)
      (sym (begun_same read all (first all (opens model) ∙ ap (λ n. take n (drop 0 all)) (sym long) ∙ ap (take (length read)) (dropped_none all)))) (opens model)

  -- and all of them, where they are as many as the file has
  pub all_read : (read : List R) → AreRecordsFrom form bytes 0 framed.tally.size read → keeps → OpensTo form bytes read
  all_read read first model =
      subst (OpensTo form bytes)
      (sym (first all (opens model) ∙ ap (take framed.tally.size) (dropped_none all) ∙ take_all framed.tally.size all (omega (arith, long)))) (opens model)
    where
      long : length all ≡ framed.tally.size
      long = length-frames_list form small keeps bytes size framed on width blank

-- the first of a part is the first of a list that it begins
pub first_of_begun : {R : Type 0} (p : R → Bool) (read part all : List R) (place : ℕ) → count_by p read ≡ 0 → IsFirst p part (Some place)
    → IsFirst p (begun_by (read ++ part) all) (Some (length read + place))
first_of_begun p read part all place none first =
    first_before p (read ++ part) (drop (length (read ++ part)) all) (length read + place) (first_behind p read part place none first)

-- ---- one part

-- what was read where nothing was held
pub read_alone : {R : Type 0} (old new read : List R) → old ≡ [] → new ≡ old ++ read → new ≡ read
read_alone {R} old new read none is = is ∙ ap (λ (ys : List R). ys ++ read) none

pub part_alone : {R : Type 0} (form : Encoding R) (bytes : List ℕ) (from count : ℕ) (new read : List R) → new ≡ read → length read ≡ count → AreRecordsFrom form bytes from count read
    → AreRecordsFrom form bytes from (length new) new
part_alone {R} form bytes from count new read same len are =
    subst (λ (rs : List R). AreRecordsFrom form bytes from (length rs) rs) (sym same) (subst (λ n. AreRecordsFrom form bytes from n read) (sym len) are)
