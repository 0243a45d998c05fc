-- A pass of which nothing changed but what a call says, and the note of a bucket.
use Rattle.std.proofs.Common.{◌≡◌, ℕ, ◌<◌, ◌≤◌, ◌+◌, ◌↔◌, inl, inr, Bool, true, false, if◌then◌else◌, List, [], ◌∷◌, ◌++◌, map, length, get_or}
use Rattle.std.proofs.Common.{Option, Some, None, IfSome, IsTrue, Result, Ok, Err, IfOk, IfErr, MatchResult, refl, ap, sym, subst, ◌∙◌, arith, lt_of_not-le}
use Rattle.std.proofs.Math.Seq.{take-length}
use Rattle.std.proofs.lemmas.List.{get_or-map, length_push, take_at}
use Rattle.once_cell.specs.Once.{Agrees}
use Rattle.block_core.specs.Growth.{Growth}
use Rattle.directory_core.specs.Chain.{IsPrefix}
use Rattle.directory_core.specs.declared.fault.DirFault.{DirFault}
use Rattle.directory_core.specs.declared.fault.DirFault.TheVariants.{Strayed}
use Rattle.directory_core.specs.Identity.{Identity}
use Rattle.directory_core.specs.Known.{Known, KnowsAll}
use Rattle.directory_core.specs.Judging.{IsJudged}
use Rattle.directory_core.specs.Limits.{place_limit}

not_true : (b : Bool) → (b ≡ true → ⊥) → b ≡ false
not_true true other = absurd (other refl)
not_true false other = refl

pub true_or_false : (b : Bool) → b ≡ true → b ≡ false → ⊥
true_or_false b is other = absurd cc

-- a pass that doesn't know all
module _ {R : Type 0} (pass : Known R) (told : Bool) (says : IsTrue told ↔ KnowsAll pass) (no : told ≡ false) where
  pub not_all : KnowsAll pass → ⊥
  not_all all = let is = says.1 all in cc

  pub room_left : length pass.entries < pass.of.room
  room_left = lt_of_not-le (λ (le : pass.of.room ≤ length pass.entries). not_all (inr le))

  pub not_yet_ended : pass.ended ≡ false
  not_yet_ended = not_true pass.ended (λ (is : pass.ended ≡ true). not_all (inl is))

  pub in_directory : (now : Known R) (number : ℕ) → now ≡ pass → number ≡ length now.entries → (number ≤ now.of.room) × (now.of.room ≤ place_limit)
      → number < place_limit
  in_directory now number was count in_room =
      let left = room_left in
      let many = ap (λ (p : Known _). length p.entries) was in
      let room = ap (λ (p : Known _). p.of.room) was in
      omega arith

  pub not_ended : (now : Known R) → now ≡ pass → IsTrue false ↔ KnowsAll now
  not_ended now was = (λ is. absurd cc, λ all. absurd (not_all (subst (λ (p : Known R). KnowsAll p) was all)))

-- the cell of a bucket, by its name
pub bucket_cell : {C : Type 0} (name : C → ℕ) (cells : List C) (names : List ℕ) (i cell : ℕ) (c : C) → cell ≡ get_or names i 0 → names ≡ map name cells
    → i < length cells → c ≡ get_or cells i c → cell ≡ name c
bucket_cell name cells names i cell c names_it are lt is =
    names_it ∙ (ap (λ (ns : List ℕ). get_or ns i 0) are ∙ (get_or-map name cells i c 0 lt ∙ ap name (sym is)))

-- a note that agrees with what was known keeps it
pub keeps_known : {X : Type 0} (was noted new : Option X) (x : X) → was ≡ noted → Agrees noted x → new ≡ Some x → IfSome was (λ y. new ≡ Some y)
keeps_known None noted new x same agree is = tt
keeps_known (Some y) None new x same agree is = absurd cc
keeps_known (Some y) (Some z) new x same agree is = let one : y ≡ z = cc in is ∙ ap Some (sym (one ∙ agree))

-- what agrees with the same value
pub agrees_too : {X : Type 0} (was new : Option X) (x y : X) → new ≡ Some x → Agrees was x → Agrees new y → Agrees was y
agrees_too None new x y is agree still = tt
agrees_too (Some z) new x y is agree still = agree ∙ subst (λ (o : Option _). Agrees o y) is still

pub some_or_none : {X : Type 0} (o : Option X) (x : X) → o ≡ Some x → o ≡ None → ⊥
some_or_none o x is none = absurd cc

-- what a pass learned of a directory, as was answered
abbrev pub Learned : {R : Type 0} → Known R → Known R → Identity → Result Bool DirFault → Type 0
Learned was new directory r = record {
  of : new.of ≡ directory;
  longer : IsPrefix was.entries new.entries;
  more : IfOk r (λ found. length new.entries ≡ length was.entries + (if found then 1 else 0));
  fault : IfErr r (λ fault. fault ≡ Strayed (length new.entries));
  in_room : IfErr r (λ _. length new.entries < directory.room);
  strayed : MatchResult r (λ _. new.strayed ≡ false) (λ _. new.strayed ≡ true);
  all : KnowsAll was → (r ≡ Ok false) × (new.entries ≡ was.entries);
}

module _ {R : Type 0} (was new : Known R) (directory : Identity) (of_is : new.of ≡ directory) where
  pub nothing : new.entries ≡ was.entries → new.strayed ≡ false → Learned was new directory (Ok false)
  nothing now strayed = record {
    of = of_is;
    longer = subst (λ (es : List _). IsPrefix was.entries es) (sym now) (take-length was.entries);
    more = let many = ap length now in omega arith;
    fault = tt;
    in_room = tt;
    strayed = strayed;
    all = λ _. (refl, now);
  }

  -- one that didn't know all, after it judged what it found
  pub judged : (width : ℕ) (old : Known R) (e : Growth R) → (KnowsAll was → ⊥) → length was.entries < was.of.room → was.of ≡ directory → old ≡ was
      → (r : Result Bool DirFault) → IsJudged width old new e r → Learned was new directory r
  judged width old e more room of_was same (Ok true) told =
      let now : new.entries ≡ was.entries ++ e ∷ [] = told.1 ∙ ap (λ (p : Known R). p.entries ++ e ∷ []) same in
      record {
        of = of_is;
        longer = subst (λ (es : List _). IsPrefix was.entries es) (sym now) (take_at was.entries (e ∷ []) (length was.entries) refl);
        more = let many = ap length now in omega (arith, length_push was.entries e);
        fault = tt;
        in_room = tt;
        strayed = told.2;
        all = λ all. absurd (more all);
      }
  judged width old e more room of_was same (Ok false) told = nothing (told.2 ∙ ap (λ (p : Known R). p.entries) same) told.3
  judged width old e more room of_was same (Err fault) told =
      let now : new.entries ≡ was.entries = told.2 ∙ ap (λ (p : Known R). p.entries) same in
      record {
        of = of_is;
        longer = subst (λ (es : List _). IsPrefix was.entries es) (sym now) (take-length was.entries);
        more = tt;
        fault = told.1 ∙ ap (λ (es : List _). Strayed (length es)) (ap (λ (p : Known R). p.entries) same ∙ sym now);
        in_room = let many = ap length now in let rooms = ap (λ (d : Identity). d.room) of_was in omega arith;
        strayed = told.3;
        all = λ all. absurd (more all);
      }
