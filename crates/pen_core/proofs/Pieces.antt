-- The bytes of a disk, read piece by piece into a scanner.
use Rattle.std.proofs.Common.{◌≡◌, ℕ, ◌+◌, ◌-◌, ◌*◌, ◌≤◌, ◌<◌, ◌^◌, ◌⊎◌, min, List, [], ◌∷◌, ◌++◌, length, length-take, take, drop, inl, inr, refl, sym, ap, subst, ◌∙◌, arith}
use Rattle.std.specs.Prelude.{slice_range}
use Rattle.std.proofs.Math.Nat.{le-div_iff_mul-le, mul_comm, mul-add, mul-one}
use Rattle.std.proofs.lemmas.Bool.{cases_lt}
use Rattle.std.proofs.lemmas.List.{length-append, get_or_append_left, get_or-append_right, take-append-drop, take-take, take_all, append_assoc, append-nil}
use Rattle.record_core.specs.Bytes.{Encoding, IsBytes}
use Rattle.disk_core.specs.declared.fault.DiskFault.{DiskFault}
use Rattle.disk_core.specs.declared.fault.DiskFault.TheVariants as causes
use Rattle.disk_core.specs.State.{State, now, settled, IsImage}
use Rattle.disk_core.specs.Calls.{bytes_of, Stays, Settles}
use Rattle.disk_core.specs.Moments.{clock, LeavesOnly, LeftSince}
use Rattle.disk_core.proofs.ImageLemmas.{IsImage-settled}
use Rattle.disk_core.proofs.JoinedMoments.{LeavesOnly-start, LeavesOnly-more, LeavesOnly-join, LeavesOnly-weaker}
use Rattle.segment_core.specs.declared.scanner.Scanner.{Scanner}
use Rattle.segment_core.specs.declared.scanner.ScanStage.TheVariants as stages
use Rattle.segment_core.specs.declared.fault.ScanFault.TheVariants.{Memory}
use Rattle.segment_core.specs.declared.found.Homes.{Homes}
use Rattle.segment_core.specs.declared.vector.Scanned.{Scanned}
use Rattle.segment_core.specs.Shape.{shape_of}
use Rattle.segment_core.specs.Fault.{IsRefused}
use Rattle.segment_core.specs.Found.{AreHomesOf}
use Rattle.segment_core.specs.Scanned.{IsScanOf}
use Rattle.segment_core.specs.Scanner.{IsFed, IsLost, IsDecided, IsCutShort}
use Rattle.segment_core.proofs.Fed.{fed_at, next_part}
use Rattle.pen_core.specs.Opening.{HasTaken, HasScanned, HasReadDisk, IsFoundOn, OnlySyncs, IsOpenRefusal, IsReadFault, AreCallsMadeBy, AreNeeded, AreReadsMade, calls_by, reads_of, pieces_front}
use Rattle.pen_core.specs.declared.fault.OpenFault.{OpenFault}
use Rattle.pen_core.specs.declared.fault.OpenFault.TheVariants.{Scan, Disk}
use Rattle.pen_core.proofs.Births.{stays_only}

-- one piece more than k
one_piece_more : (piece k : ℕ) → (k + 1) * piece ≡ piece * k + piece
one_piece_more piece k = mul_comm (k + 1) piece ∙ mul-add piece k 1 ∙ ap (λ n. piece * k + n) (mul-one piece)

IsBytes-append : (front behind : List ℕ) → IsBytes front → IsBytes behind → IsBytes (front ++ behind)
IsBytes-append front behind first then i = elim (cases_lt i (length front)) [
  | inl lt ↦ (let at = get_or_append_left front behind 0 i lt in let small = first i in omega arith)
  | inr ge ↦ (let at = get_or-append_right front behind (length front) i 0 refl ge in let small = then (i - length front) in omega arith)
]

-- What the feeding of one piece more knows.
pub record FedMore {R : Type 0} (form : Encoding R) (keeps keeps' : Type 0) (bytes : List ℕ) (at n : ℕ) (piece : List ℕ) (old new : Scanner R) : Type 0 where
  pub taken : HasTaken form keeps bytes at old
  pub back : keeps' → keeps
  pub value : keeps' → piece ≡ slice_range bytes at (at + n)
  pub fed : IsFed form (taken.image ++ piece) new

module _ {R : Type 0} {form : Encoding R} {keeps keeps' : Type 0} {bytes : List ℕ} {at n : ℕ} {piece : List ℕ}
    {old new : Scanner R} (one : FedMore form keeps keeps' bytes at n piece old new) where
  abbrev image : List ℕ
  image = one.taken.image ++ piece

  joined : keeps' → image ≡ take (at + n) bytes
  joined model =
      ap (λ (bs : List ℕ). bs ++ piece) (one.taken.is (one.back model))
      ∙ ap (λ (bs : List ℕ). take at bytes ++ bs) (one.value model)
      ∙ next_part [] bytes at n

  -- what is taken in behind one piece more
  pub taken_more : length piece ≡ n → at + n < 2 ^ 64 → IsBytes piece → HasTaken form keeps' bytes (at + n) new
  taken_more size short fits = record {
    image = image;
    size = omega (arith, length-append one.taken.image piece, one.taken.size);
    short = short;
    fits = IsBytes-append one.taken.image piece one.taken.fits fits;
    fed = one.fed;
    is = joined;
  }

  -- where memory is refused, it is so whatever follows
  pub lost_behind : keeps' → IsLost new → (more : List ℕ) → IsRefused form (take (at + n) bytes ++ more) Memory
  lost_behind model lost more =
      subst (λ (bs : List ℕ). IsRefused form (bs ++ more) Memory) (joined model)
      (fed_at form image new (stages.Refused Memory) lost one.fed more)

-- the same of all that was taken in
pub lost_here : {R : Type 0} (form : Encoding R) (image : List ℕ) (scanner : Scanner R) → IsFed form image scanner
    → IsLost scanner → IsRefused form image Memory
lost_here form image scanner fed lost =
    subst (λ (bs : List ℕ). IsRefused form bs Memory) (append-nil image)
    (fed_at form image scanner (stages.Refused Memory) lost fed [])

-- before the first piece
pub taken_nothing : {R : Type 0} (form : Encoding R) (keeps : Type 0) (bytes : List ℕ) (scanner : Scanner R)
    → IsFed form [] scanner → HasTaken form keeps bytes 0 scanner
taken_nothing form keeps bytes scanner fed = record { image = []; size = refl; short = omega arith; fits = λ i. omega arith; fed = fed; is = λ model. refl }

-- the same bytes, and as many
pub taken_same : {R : Type 0} (form : Encoding R) (keeps : Type 0) (bytes others : List ℕ) (m n : ℕ) (scanner : Scanner R)
    → m ≡ n → (keeps → bytes ≡ others) → HasTaken form keeps bytes m scanner → HasTaken form keeps others n scanner
taken_same form keeps bytes others m n scanner is same taken = record {
  image = taken.image;
  size = taken.size ∙ is;
  short = omega (arith, is, taken.short);
  fits = taken.fits;
  fed = taken.fed;
  is = λ model. taken.is model ∙ ap (λ k. take k bytes) is ∙ ap (take n) (same model);
}

-- one call more that changes nothing
pub one_more_stays : (old mid new : List State) → now mid ≡ now old → LeavesOnly old mid (IsImage (now old)) → Stays mid new
    → LeavesOnly old new (IsImage (now old))
one_more_stays old mid new same so_far stays =
    LeavesOnly-more old mid new (now mid) (IsImage (now old)) so_far stays (λ image is. subst (λ s. IsImage s image) same is)

-- ---- how many pieces there are

-- Behind the first k pieces one more is read just where there are bytes.
pub bytes_behind : (piece len k : ℕ) → 0 < piece → k < reads_of piece len → piece * k < len
bytes_behind piece len k some lt =
    let all : (k + 1) * piece ≤ len + (piece - 1) = (le-div_iff_mul-le {k = piece} {x = k + 1} {y = len + (piece - 1)} some).0 (omega (arith, lt)) in
    let parts : (k + 1) * piece ≡ piece * k + piece = one_piece_more piece k in
    omega arith

pub read_behind : (piece len k : ℕ) → 0 < piece → piece * k < len → k < reads_of piece len
read_behind piece len k some lt =
    let parts : (k + 1) * piece ≡ piece * k + piece = one_piece_more piece k in
    let more : k + 1 ≤ reads_of piece len = (le-div_iff_mul-le {k = piece} {x = k + 1} {y = len + (piece - 1)} some).1 (omega arith) in
    omega (arith, more)

pub no_reads : (piece : ℕ) → 0 < piece → reads_of piece 0 ≡ 0
no_reads piece some = elim (cases_lt 0 (reads_of piece 0)) [
  | inl more ↦ (let behind = bytes_behind piece 0 0 some more in absurd (omega arith))
  | inr none ↦ omega arith
]

-- the next piece: a whole one, or the rest
pub record NextPiece (piece at n len : ℕ) : Type 0 where
  pub inside : at + n ≤ len
  pub one_more : reads_of piece (at + n) ≡ reads_of piece at + 1
  pub whole : at + n < len → at + n ≡ piece * reads_of piece (at + n)
  pub few : reads_of piece at < reads_of piece len

pub next_piece : (piece at n len : ℕ) → 0 < piece → n ≡ min piece (len - at) → at < len → at ≡ piece * reads_of piece at
    → NextPiece piece at n len
next_piece piece at n len some is lt whole =
    let q : ℕ = reads_of piece at in
    let next : (q + 1) * piece ≡ piece * q + piece = one_piece_more piece q in
    let turned : piece * (q + 1) ≡ (q + 1) * piece = mul_comm piece (q + 1) in
    let more : q < reads_of piece (at + n) = read_behind piece (at + n) q some (omega arith) in
    let last : reads_of piece (at + n) ≤ q + 1 = elim (cases_lt (q + 1) (reads_of piece (at + n))) [
      | inl past ↦ (let behind = bytes_behind piece (at + n) (q + 1) some past in absurd (omega arith))
      | inr upto ↦ upto
    ] in
    let one_more : reads_of piece (at + n) ≡ q + 1 = omega arith in
    record {
      inside = omega arith;
      one_more = one_more;
      whole = λ behind. (let exact : at + n ≡ piece * (q + 1) = omega arith in exact ∙ ap (λ k. piece * k) (sym one_more));
      few = read_behind piece len q some (omega arith);
    }

-- not more than of all
pub reads_upto : (piece at len : ℕ) → 0 < piece → at ≤ len → (at < len → at ≡ piece * reads_of piece at)
    → reads_of piece at ≤ reads_of piece len
reads_upto piece at len some le whole = elim (cases_lt at len) [
  | inl lt ↦ (let few = read_behind piece len (reads_of piece at) some (let is = whole lt in omega arith) in omega (arith, few))
  | inr ge ↦ (let is : at ≡ len = omega arith in subst (λ n. reads_of piece at ≤ reads_of piece n) is (omega arith))
]

-- ---- which pieces are needed

module _ {R : Type 0} (form : Encoding R) (keeps : Type 0) (bytes : List ℕ) (piece at : ℕ) (scanner : Scanner R)
    (taken : HasTaken form keeps bytes at scanner) (model : keeps) (whole : at ≡ piece * reads_of piece at) where
  front_is : taken.image ≡ pieces_front piece (reads_of piece at) bytes
  front_is = taken.is model ∙ ap (λ n. take n bytes) whole

  -- one more is
  pub needed_more : ((image : List ℕ) → IsFed form image scanner → IsLost scanner ⊎ IsCutShort form image)
      → (IsLost scanner → ⊥) → ((k : ℕ) → k < reads_of piece at → IsCutShort form (pieces_front piece k bytes))
      → (k : ℕ) → k < reads_of piece at + 1 → IsCutShort form (pieces_front piece k bytes)
  needed_more cut going before k lt = elim (cases_lt k (reads_of piece at)) [
    | inl less ↦ before k less
    | inr last ↦ elim (cut taken.image taken.fed) [
      | inl lost ↦ absurd (going lost)
      | inr short ↦ (
          let here : k ≡ reads_of piece at = omega arith in
          subst (λ n. IsCutShort form (pieces_front piece n bytes)) (sym here) (subst (IsCutShort form) front_is short))
    ]
  ]

  -- no more is, where these tell the answer
  pub needed_enough : ((image : List ℕ) → IsFed form image scanner → IsDecided form image)
      → IsDecided form (pieces_front piece (reads_of piece at) bytes)
  needed_enough decided = subst (IsDecided form) front_is (decided taken.image taken.fed)

-- behind the sync and the length
module _ {R : Type 0} (form : Encoding R) (piece : ℕ) (old last new : List State) (same : bytes_of last ≡ bytes_of old)
    (time : clock last ≡ clock old + 2) where
  reads : clock new - clock last ≡ clock new - clock old - 2
  reads = omega arith

  pub needed_behind : AreNeeded piece form (bytes_of last) (clock new - clock last) → AreNeeded piece form (bytes_of old) (clock new - clock old - 2)
  needed_behind needed =
      subst (λ (bs : List ℕ). AreNeeded piece form bs (clock new - clock old - 2)) same
      (subst (AreNeeded piece form (bytes_of last)) reads needed)

  pub reads_made_behind : (fault : OpenFault) → AreReadsMade piece form (bytes_of last) fault (clock new - clock last)
      → AreReadsMade piece form (bytes_of old) fault (clock new - clock old - 2)
  reads_made_behind fault made =
      subst (λ (bs : List ℕ). AreReadsMade piece form bs fault (clock new - clock old - 2)) same
      (subst (AreReadsMade piece form (bytes_of last) fault) reads made)

-- ---- a disk that is only synced and read

-- the sync has failed
pub only_syncs_failed : (old new : List State) → Stays old new → OnlySyncs old new
only_syncs_failed old new stays = record {
  stands = inl (ap now stays);
  left_before = stays_only old new stays;
  stays_as_read = λ later image left. (let time = ap length stays in absurd (omega arith));
}

-- it has succeeded, and what came behind it changed nothing
pub only_syncs_settled : (old mid new : List State) → Settles old mid → IsImage (now old) (bytes_of old) → now new ≡ now mid
    → LeavesOnly mid new (IsImage (now mid)) → OnlySyncs old new
only_syncs_settled old mid new settles readable same leaves =
    let P : List ℕ → Type 0 = IsImage (now old) in
    let is : now mid ≡ settled (bytes_of old) = ap now settles in
    let as_read : (image : List ℕ) → IsImage (now mid) image → image ≡ bytes_of old =
    λ image left. IsImage-settled (bytes_of old) image (subst (λ s. IsImage s image) is left) in
    let time : clock mid ≡ clock old + 1 = omega (arith, ap length settles) in
    record {
      stands = inr (same ∙ is);
      left_before = LeavesOnly-join old mid new P
          (LeavesOnly-more old old mid (settled (bytes_of old)) P (LeavesOnly-start old P (λ image left. left)) settles
          (λ image left. subst P (sym (IsImage-settled (bytes_of old) image left)) readable))
          (LeavesOnly-weaker mid new (IsImage (now mid)) P (λ image left. subst P (sym (as_read image left)) readable) leaves);
      stays_as_read = λ later image left. as_read image (leaves.each image (subst (λ t. LeftSince new t image) (sym time) left));
    }

pub bytes_stay : (old new : List State) → OnlySyncs old new → bytes_of new ≡ bytes_of old
bytes_stay old new only = elim only.stands [
  | inl same ↦ ap (λ s. s.seen) same
  | inr same ↦ ap (λ s. s.seen) same
]

-- the length and the reads behind it
pub reads_behind : (mid last new : List State) → Stays mid last → now new ≡ now last
    → LeavesOnly last new (IsImage (now last)) → LeavesOnly mid new (IsImage (now mid))
reads_behind mid last new stays same leaves =
    LeavesOnly-join mid last new (IsImage (now mid)) (stays_only mid last stays)
    (LeavesOnly-weaker last new (IsImage (now last)) (IsImage (now mid))
    (λ image left. subst (λ s. IsImage s image) (ap now stays) left) leaves)

-- A sync has succeeded, the length was told, and reads came behind it.
pub record IsWalked (len : ℕ) (old mid last new : List State) : Type 0 where
  pub settles : Settles old mid
  pub readable : IsImage (now old) (bytes_of old)
  pub stays : Stays mid last
  pub told : len ≡ length (bytes_of mid)
  pub same : now new ≡ now last
  pub images : LeavesOnly last new (IsImage (now last))

module _ {len : ℕ} {old mid last new : List State} (walked : IsWalked len old mid last new) where
  pub walked_only : OnlySyncs old new
  walked_only =
      only_syncs_settled old mid new walked.settles walked.readable (walked.same ∙ ap now walked.stays)
      (reads_behind mid last new walked.stays walked.same walked.images)

  pub walked_bytes : bytes_of last ≡ bytes_of old
  walked_bytes = ap (λ s. s.seen) (ap now walked.stays ∙ ap now walked.settles)

  pub walked_len : len ≡ length (bytes_of old)
  walked_len = walked.told ∙ ap (λ s. length s.seen) (ap now walked.settles)

  pub walked_settled : now new ≡ settled (bytes_of old)
  walked_settled = walked.same ∙ ap now walked.stays ∙ ap now walked.settles

-- what is refused of the first bytes, whatever follows, is refused of all
pub all_refused : {R : Type 0} (form : Encoding R) (all bytes : List ℕ) (len : ℕ) (fault : OpenFault) → bytes ≡ all → len ≡ length all
    → ((more : List ℕ) → IsOpenRefusal form (take len bytes ++ more) fault) → IsOpenRefusal form all fault
all_refused form all bytes len fault same long refused =
    let is : take len bytes ++ [] ≡ all = append-nil (take len bytes) ∙ ap (take len) same ∙ take_all len all (omega arith) in
    subst (λ (bs : List ℕ). IsOpenRefusal form bs fault) is (refused [])

-- ---- the calls that were made

module _ (piece len n : ℕ) where
  pub made_a_sync : (cause : DiskFault) → cause ≡ causes.Sync → n ≡ 1 → AreCallsMadeBy piece len (Disk cause) n
  made_a_sync cause is one = subst (λ f. AreCallsMadeBy piece len (Disk f) n) (sym is) one

  pub made_a_length : (cause : DiskFault) → cause ≡ causes.Length → n ≡ 2 → AreCallsMadeBy piece len (Disk cause) n
  made_a_length cause is two = subst (λ f. AreCallsMadeBy piece len (Disk f) n) (sym is) two

  pub made_reads : (fault : OpenFault) → IsReadFault fault → 2 < n → n ≤ calls_by piece len → len < 2 ^ 64 → AreCallsMadeBy piece len fault n
  made_reads (Scan fault) is some most short = (omega arith, most, short)
  made_reads (Disk causes.Read) is some most short = (some, most, short)
  made_reads (Disk causes.Sync) is some most short = absurd is
  made_reads (Disk causes.Length) is some most short = absurd is
  made_reads (Disk causes.Write) is some most short = absurd is

-- ---- what was read of the disk's bytes

module _ {R : Type 0} (form : Encoding R) (keeps : Type 0) (bytes : List ℕ) (len at : ℕ) (scanner : Scanner R)
    (taken : HasTaken form keeps bytes at scanner) (inside : at ≤ len) (short : len < 2 ^ 64) where
  -- all of it
  pub read_all : len ≤ at → HasScanned form keeps bytes len scanner
  read_all past = record {
    image = taken.image;
    inside = omega (arith, taken.size);
    short = short;
    fits = taken.fits;
    fed = taken.fed;
    fed_all = λ more all. (
        let none : more ≡ [] = nil_of more (omega (arith, taken.size)) in
        subst (λ (bs : List ℕ). IsFed form bs scanner) (sym (append-nil taken.image) ∙ ap (λ (bs : List ℕ). taken.image ++ bs) (sym none)) taken.fed);
    is = λ model. taken.is model ∙ ap (λ n. take n bytes) (sym taken.size);
  }
    where
      nil_of : (more : List ℕ) → length more ≡ 0 → more ≡ []
      nil_of [] none = refl
      nil_of (b ∷ more) none = absurd (omega arith)

  -- as much as tells the answer
  pub read_enough : ((image more : List ℕ) → IsFed form image scanner → IsFed form (image ++ more) scanner) → HasScanned form keeps bytes len scanner
  read_enough decided = record {
    image = taken.image;
    inside = omega (arith, taken.size);
    short = short;
    fits = taken.fits;
    fed = taken.fed;
    fed_all = λ more all. decided taken.image more taken.fed;
    is = λ model. taken.is model ∙ ap (λ n. take n bytes) (sym taken.size);
  }

module _ {R : Type 0} {form : Encoding R} {keeps : Type 0} {bytes : List ℕ} {states : List State} {scanner : Scanner R}
    (disk : HasReadDisk form keeps bytes states scanner) where
  abbrev rest : List ℕ
  rest = drop (length disk.read.image) bytes

  whole : keeps → disk.read.image ++ rest ≡ bytes
  whole model = ap (λ (bs : List ℕ). bs ++ rest) (disk.read.is model) ∙ take-append-drop (length disk.read.image) bytes

  pub found_there : (scanned : Scanned R) (homes : Homes) (scan : IsScanOf form disk.read.image scanned)
      → AreHomesOf (shape_of scan.format form) scan.frames homes → IsFoundOn form keeps states scanned homes
  found_there scanned homes scan homes_are = record {
    image = disk.read.image;
    short = omega (arith, disk.read.inside, disk.read.short);
    fits = disk.read.fits;
    scan = scan;
    homes_are = homes_are;
    on_disk = λ model. (rest, disk.on_disk model ∙ ap settled (sym (whole model)));
  }

  pub fed_whole : keeps → IsFed form bytes scanner
  fed_whole model = subst (λ (bs : List ℕ). IsFed form bs scanner) (whole model)
      (disk.read.fed_all rest (omega (arith, length-append disk.read.image rest, ap length (whole model), disk.long model)))

-- ---- the first bytes alone

-- in two parts
pub front_parts : (m n : ℕ) (bytes more : List ℕ) → m ≤ n → take m bytes ++ (drop m (take n bytes) ++ more) ≡ take n bytes ++ more
front_parts m n bytes more le =
    sym (append_assoc (take m bytes) (drop m (take n bytes)) more)
    ∙ ap (λ (bs : List ℕ). (bs ++ drop m (take n bytes)) ++ more) (sym (take-take m n bytes le))
    ∙ ap (λ (bs : List ℕ). bs ++ more) (take-append-drop m (take n bytes))

-- all of them were taken in, or as good as
pub fed_front : {R : Type 0} (form : Encoding R) (keeps : Type 0) (bytes : List ℕ) (len : ℕ) (scanner : Scanner R)
    → keeps → len ≤ length bytes → HasScanned form keeps bytes len scanner → IsFed form (take len bytes) scanner
fed_front form keeps bytes len scanner model long read =
    let rest = drop (length read.image) (take len bytes) in
    let whole : read.image ++ rest ≡ take len bytes =
    ap (λ (bs : List ℕ). bs ++ rest) (read.is model ∙ sym (take-take (length read.image) len bytes read.inside))
    ∙ take-append-drop (length read.image) (take len bytes) in
    subst (λ (bs : List ℕ). IsFed form bs scanner) whole
    (read.fed_all rest (omega (arith, length-append read.image rest, ap length whole, length-take len bytes, long)))
