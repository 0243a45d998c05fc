-- What the definitions of answers say of files of few records: the text that fits each, and the nearest that doesn't.
use Rattle.std.proofs.Common.{◌≡◌, inl, inr, ℕ, zero, suc, ◌^◌, ◌<◌, Bool, true, true≢false, List, [], ◌∷◌}
use Rattle.std.proofs.Common.{◌-◌, ◌++◌, length, take, drop, get_or, Option, Some, None, refl, sym, ap, subst, ◌∙◌, arith, nat_eq, codes, decimal, count_by}
use Rattle.std.specs.Cmp.{both_ways, unsigned_Decides}
use Rattle.std.specs.Fmt.{digits}
use Rattle.record_core.specs.Bytes.{Encoding}
use Rattle.disk_core.specs.State.{State, settled, written, IsImage}
use Rattle.disk_core.specs.Moments.{LeftSince}
use Rattle.disk_core.specs.declared.fault.DiskFault.TheVariants.{Sync}
use Rattle.disk_core.proofs.ImageLemmas.{IsImage-settled}
use Rattle.segment_core.specs.declared.fault.ScanFault.TheVariants.{Unborn}
use Rattle.segment_core.specs.declared.format.Format.TheVariants.{One}
use Rattle.segment_core.specs.declared.vector.Scanned.{Scanned}
use Rattle.segment_core.specs.Frame.{Frame}
use Rattle.segment_core.specs.Scanned.{IsScanOf}
use Rattle.segment_core.specs.Tally.{tally_of}
use Rattle.segment_core.specs.Vector.{HasVector}
use Rattle.segment_core.proofs.OneVector.{TellsOf, memory_alone, one_scan}
use Rattle.search_core.specs.Search.{IsFirst}
use Rattle.text_core.specs.Text.{record_lines}
use Rattle.pen_core.specs.declared.fault.OpenFault.TheVariants.{Scan, Disk}
use Rattle.pen_core.specs.Opening.{OnlySyncs}
use Rattle.pen_core.specs.Typed.{OpensTo}
use Rattle.pen_core.proofs.Typed.{OpensTo_same}
use Rattle.vault_core.specs.declared.fault.VaultFault.{VaultFault}
use Rattle.files_core.specs.declared.ended.Ended.TheVariants.{Done, OutputFailed, Refused}
use Rattle.files_core.specs.declared.fault.FileFault.{FileFault}
use Rattle.files_core.specs.declared.fault.FileFault.TheVariants.{Open, Vault}
use Rattle.files_core.specs.Checking.{IsChecked}
use Rattle.files_core.specs.Ended.{EndsAs, WritesAnswer, WritesText}
use Rattle.files_core.specs.Folding.{IsFolded}
use Rattle.files_core.specs.Listing.{IsWindowListed}
use Rattle.files_core.specs.Opened.{CommandOnlyReads}
use Rattle.text_core.specs.Answers.{number_line, found_line, TestsFor}
use Rattle.files_core.specs.Searching.{TellsCount, TellsFirst}
use Rattle.files_core.specs.Texts.{appended_line, checked_line, copied_line, created_line, folded_line, loaded_line, ok_line, upgraded_line}

-- ---- lines

lines : (created_line ≡ codes "created\n") × (ok_line ≡ codes "ok\n") × (number_line 10 ≡ codes "10\n") × (found_line None ≡ codes "none\n") × (found_line (Some 0) ≡ codes "0\n")
    × (folded_line 2 ≡ codes "folded 2\n") × (upgraded_line 3 ≡ codes "upgraded size 3\n") × (loaded_line 2 5 ≡ codes "loaded 2 growths, size 5\n")
    × (appended_line 2 5 ≡ codes "appended 2 growths, size 5\n") × (copied_line 3 ≡ codes "copied size 3\n")
unfolding digits
lines = (refl, refl, refl, refl, refl, refl, refl, refl, refl, refl)

-- ---- searches: of four records, two of which are the one wanted

fives : TestsFor 5 (λ r. nat_eq r 5)
fives r = unsigned_Decides r 5

-- one test alone is for 5
one_test : (n : ℕ) (is : ℕ → Bool) → TestsFor n is → (λ r. nat_eq r n) ≡ is
one_test n is just = λ i r. both_ways (nat_eq r n) (is r) (λ same. (just r).1 ((unsigned_Decides r n).0 same)) (λ yes. (unsigned_Decides r n).1 ((just r).0 yes)) i

not_for_others : TestsFor {R = ℕ} 5 (λ r. true) → ⊥
not_for_others just = absurd (omega (arith, (just 6).0 refl))

module _ (form : Encoding ℕ) (small : form.width < 2 ^ 16) (file : List ℕ) (opens : OpensTo form file (6 ∷ 5 ∷ 7 ∷ 5 ∷ [])) where
  abbrev four : List ℕ
  four = 6 ∷ 5 ∷ 7 ∷ 5 ∷ []

  alone : (records : List ℕ) → OpensTo form file records → four ≡ records
  alone records to = OpensTo_same form file four records small opens to

  two_fives : TellsCount form 5 (Unit {0}) file (codes "2\n")
  unfolding digits
  two_fives = record { records = four; is = λ r. nat_eq r 5; just = fives; file = λ known. opens; told = refl }

  counted : (n k : ℕ) (text : List ℕ) → count_by (λ r. nat_eq r n) four ≡ k → TellsCount form n (Unit {0}) file text → text ≡ number_line k
  counted n k text many so =
      so.told ∙ ap (λ is. number_line (count_by is so.records)) (sym (one_test n so.is so.just)) ∙ ap (λ rs. number_line (count_by (λ r. nat_eq r n) rs)) (sym (alone so.records (so.file tt)))
      ∙ ap number_line many

  -- neither more nor fewer, and not those that aren't it
  two_alone : (text : List ℕ) → TellsCount form 5 (Unit {0}) file text → text ≡ codes "2\n"
  unfolding digits
  two_alone text so = counted 5 2 text refl so

  not_three : TellsCount form 5 (Unit {0}) file (codes "3\n") → ⊥
  not_three so = absurd (omega (arith, ap (λ (bs : List ℕ). get_or bs 0 0) (two_alone (codes "3\n") so)))

  no_eight : (text : List ℕ) → TellsCount form 8 (Unit {0}) file text → text ≡ codes "0\n"
  unfolding digits
  no_eight text so = counted 8 0 text refl so

  -- the least position
  found_at_one : TellsFirst form 5 (Unit {0}) file (codes "1\n")
  unfolding digits
  found_at_one = record { records = four; is = λ r. nat_eq r 5; just = fives; found = Some 1; file = λ known. opens; first = (refl, refl); told = refl }

  first_of : (n : ℕ) (text : List ℕ) → TellsFirst form n (Unit {0}) file text → (found : Option ℕ) × IsFirst (λ r. nat_eq r n) four found × (text ≡ found_line found)
  first_of n text so = (
    so.found,
    subst (λ is. IsFirst is four so.found) (sym (one_test n so.is so.just)) (subst (λ rs. IsFirst so.is rs so.found) (sym (alone so.records (so.file tt))) so.first),
    so.told,
  )

  one_line : number_line 1 ≡ codes "1\n"
  unfolding digits
  one_line = refl

  not_the_last : TellsFirst form 5 (Unit {0}) file (codes "3\n") → ⊥
  not_the_last so = let first = first_of 5 (codes "3\n") so in none_but_one first.0 first.1 first.2
    where
      none_but_one : (found : Option ℕ) → IsFirst (λ r. nat_eq r 5) four found → codes "3\n" ≡ found_line found → ⊥
      none_but_one None first told = absurd (omega (arith, first))
      none_but_one (Some zero) first told = absurd (true≢false (sym first.1))
      none_but_one (Some (suc zero)) first told = absurd (omega (arith, ap (λ (bs : List ℕ). get_or bs 0 0) (told ∙ one_line)))
      none_but_one (Some (suc (suc zero))) first told = absurd (true≢false (sym first.1))
      none_but_one (Some (suc (suc (suc zero)))) first told = absurd (omega (arith, first.0))
      none_but_one (Some (suc (suc (suc (suc n))))) first told = absurd first.1

  no_eight_found : TellsFirst form 8 (Unit {0}) file (codes "none\n")
  no_eight_found = record { records = four; is = λ r. nat_eq r 8; just = λ r. unsigned_Decides r 8; found = None; file = λ known. opens; first = refl; told = refl }

  -- ---- windows: the second and the third record, one a line

  abbrev Listed : ℕ → ℕ → List ℕ → Type 0
  Listed from count text = IsWindowListed form decimal (record { from = from; count = count }) (Unit {0}) file text

  listed : Listed 1 2 (codes "5\n7\n")
  unfolding digits
  listed = record { records = four; file = λ known. opens; lines = refl }

  window_of : (from count : ℕ) (text : List ℕ) → Listed from count text → text ≡ record_lines decimal (take count (drop from four))
  window_of from count text so = so.lines ∙ ap (λ rs. record_lines decimal (take count (drop from rs))) (sym (alone so.records (so.file tt)))

  listed_alone : (text : List ℕ) → Listed 1 2 text → text ≡ codes "5\n7\n"
  unfolding digits
  listed_alone text so = window_of 1 2 text so

  past_the_end : (text : List ℕ) → Listed 3 9 text → text ≡ codes "5\n"
  unfolding digits
  past_the_end text so = window_of 3 9 text so

-- ---- what a scan finds: in a file of version 1 that has one record of 8 bytes, five frames, and three changes, of which one is folded

module _ (form : Encoding ℕ) (wide : form.width ≡ 8) (file : List ℕ) (frames : List Frame) (vector : HasVector One form file frames (7 ∷ []))
    (five : length frames ≡ 5) (counts : tally_of frames ≡ record { size = 1; changes = 3; folded = 1 }) (scanned : Scanned ℕ) (scan : IsScanOf form file scanned) where
  small : form.width < 2 ^ 16
  small = omega (arith, wide)

  module _ (any : Scanned ℕ) (of : IsScanOf form file any) where
    tells : TellsOf One form frames (7 ∷ []) any
    tells = one_scan One form file frames (7 ∷ []) any small vector of

    changes_are : any.changes ≡ 3
    changes_are = tells.changes_are ∙ ap (λ t. t.changes) counts

    folded_is : any.folded ≡ 1
    folded_is = tells.folded_is ∙ ap (λ t. t.folded) counts

    checked_is : checked_line any ≡ codes "ok version 1 width 8 size 1 frames 5 live 2\n"
    unfolding digits
    checked_is = rw (tells.version_is, tells.width_is, wide, tells.records_are, tells.frames_are, five, changes_are, folded_is) refl

    folded_line_is : folded_line (any.changes - any.folded) ≡ codes "folded 2\n"
    unfolding digits
    folded_line_is = rw (changes_are, folded_is) refl

  checked : IsChecked form (Unit {0}) file (codes "ok version 1 width 8 size 1 frames 5 live 2\n")
  checked = record { scanned = scanned; scan = λ known. scan; told = sym (checked_is scanned scan) }

  checked_alone : (text : List ℕ) → IsChecked form (Unit {0}) file text → text ≡ codes "ok version 1 width 8 size 1 frames 5 live 2\n"
  checked_alone text so = so.told ∙ checked_is so.scanned (so.scan tt)

  not_two_records : IsChecked form (Unit {0}) file (codes "ok version 1 width 8 size 2 frames 5 live 2\n") → ⊥
  not_two_records so = absurd (omega (arith, ap (λ (bs : List ℕ). get_or bs 26 0) (checked_alone (codes "ok version 1 width 8 size 2 frames 5 live 2\n") so)))

  two_folded : IsFolded form (Unit {0}) file (codes "folded 2\n")
  two_folded = record { scanned = scanned; scan = λ known. scan; told = sym (folded_line_is scanned scan) }

  two_folded_alone : (text : List ℕ) → IsFolded form (Unit {0}) file text → text ≡ codes "folded 2\n"
  two_folded_alone text so = so.told ∙ folded_line_is so.scanned (so.scan tt)

  not_all_folded : IsFolded form (Unit {0}) file (codes "folded 3\n") → ⊥
  not_all_folded so = absurd (omega (arith, ap (λ (bs : List ℕ). get_or bs 7 0) (two_folded_alone (codes "folded 3\n") so)))

-- ---- how a command ends: what it wrote before stays, and an answer is written where its work was done

abbrev Yes : List ℕ → Type 0
Yes text = text ≡ codes "yes"

module _ (fault : FileFault) where
  answered : WritesAnswer (Some (codes "a ")) (Some (codes "a yes")) Yes Done
  answered = (codes "yes", refl, refl)

  answered_alone : (text : List ℕ) → WritesAnswer (Some (codes "a ")) (Some text) Yes Done → text ≡ codes "a yes"
  answered_alone text so = so.2 ∙ ap (λ t. codes "a " ++ t) so.1

  refused_alone : (text : List ℕ) → WritesAnswer (Some (codes "a ")) (Some text) Yes (Refused fault) → text ≡ codes "a "
  refused_alone text so = so

  text_alone : (text : List ℕ) → WritesText (Some (codes "a ")) (Some text) (codes "yes") Done → text ≡ codes "a yes"
  text_alone text so = so

  no_text_alone : (text : List ℕ) → WritesText (Some (codes "a ")) (Some text) (codes "yes") (Refused fault) → text ≡ codes "a "
  no_text_alone text so = so

  -- the work is done also where the output failed
  done_alone : (done : Type 0) (refused : FileFault → Type 0) → (EndsAs done refused Done → done) × (EndsAs done refused OutputFailed → done) × (EndsAs done refused (Refused fault) → refused fault)
  done_alone done refused = (λ so. so, λ so. so, λ so. so)

-- ---- a command that only reads: a disk of one byte, which was synced and looked at

abbrev Disks : Type 0
Disks = List State

abbrev itself : Disks → List State
itself states = states

abbrev known : Disks → Type 0
known states = Unit {0}

abbrev no_fault : Disks → ℕ
no_fault states = 0

module _ {R : Type 0} (form : Encoding R) (b : ℕ) where
  abbrev byte : State
  byte = settled (b ∷ [])

  abbrev disk : Disks
  disk = byte ∷ []

  abbrev looked : Disks
  looked = byte ∷ byte ∷ disk

  abbrev rewritten : Disks
  rewritten = written byte 0 (b ∷ []) ∷ disk

  looks : OnlySyncs disk looked
  looks = record {
    stands = inl refl;
    left_before = record { past = (byte ∷ byte ∷ [], refl); each = left 1; newest = λ image is. is };
    stays_as_read = λ later image since. IsImage-settled (b ∷ []) image (left 2 image since);
  }
    where
      left : (t : ℕ) (image : List ℕ) → LeftSince looked t image → IsImage byte image
      left t image since = elim since.1 [
        | inl is ↦ is
        | inr second ↦ elim second.1 [
          | inl is ↦ is
          | inr first ↦ elim first.1 [ inl is ↦ is | inr none ↦ absurd none ]
        ]
      ]

  reads : CommandOnlyReads form known itself no_fault disk looked Done
  reads = record { refused = tt; only_syncs = λ model. looks; faults_are = refl; model = λ model. model }

  -- not one that writes, though what is there
  no_write : OnlySyncs disk rewritten → ⊥
  no_write only = elim only.stands [
    | inl same ↦ (let pending = ap (λ s. length s.pending) same in omega (arith, pending))
    | inr same ↦ (let pending = ap (λ s. length s.pending) same in omega (arith, pending))
  ]

  not_writes : CommandOnlyReads form known itself no_fault disk rewritten Done → ⊥
  not_writes so = no_write (so.only_syncs tt)

  not_writes_and_fails : CommandOnlyReads form known itself no_fault disk rewritten OutputFailed → ⊥
  not_writes_and_fails so = no_write (so.only_syncs tt)

  -- a call that failed is told, and no other is
  not_hidden : CommandOnlyReads form known itself length disk looked Done → ⊥
  not_hidden so = omega (arith, so.faults_are)

  not_made_up : CommandOnlyReads form known itself no_fault disk looked (Refused (Open (Disk Sync))) → ⊥
  not_made_up so = omega (arith, so.faults_are)

  told_fault : CommandOnlyReads form known itself (λ d. length d - 2) disk looked (Refused (Open (Disk Sync)))
  told_fault = record { refused = λ model. tt; only_syncs = λ model. looks; faults_are = refl; model = λ model. model }

  -- refused at opening alone, by what the bytes are
  never_by_a_vault : (left : Disks) (fault : VaultFault) → CommandOnlyReads form known itself no_fault disk left (Refused (Vault fault)) → ⊥
  never_by_a_vault left fault so = so.refused

  not_a_whole_file : (left : Disks) (records : List R) → form.width < 2 ^ 16 → OpensTo form (b ∷ []) records → CommandOnlyReads form known itself no_fault disk left (Refused (Open (Scan Unborn))) → ⊥
  not_a_whole_file left records small opens so =
      absurd (let memory = memory_alone opens.format form (b ∷ []) opens.frames records Unborn small opens.vector (so.refused tt) in cc)

  -- and the disk kept the model before, where it does now
  kept_before : CommandOnlyReads form (λ d. 1 < length d) itself no_fault disk looked Done → ⊥
  kept_before so = omega (arith, so.model (omega arith))
