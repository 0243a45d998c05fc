-- What creation may leave.
use Rattle.std.proofs.Common.{◌≡◌, ◌≢◌, ℕ, zero, suc, ◌+◌, ◌≤◌, ◌<◌, inl, inr, true, cond, ◌||◌, List, [], ◌∷◌, ◌++◌, length, drop, get_or, Some, Result, OnOk, OnErr, refl, sym, ap, subst, ◌∙◌, arith}
use Rattle.std.specs.Prelude.{nat_le, not, ◌==◌}
use Rattle.std.proofs.lemmas.List.{append-nil, drop_all, ext_get_or}
use Rattle.std.proofs.lemmas.Bool.{cases_eq, cases_lt, le-leb, or_left, or_right, ne_eqb}
use Rattle.disk_core.specs.declared.fault.DiskFault.{DiskFault}
use Rattle.disk_core.specs.State.{State, now, settled, touched, overlay, IsImage}
use Rattle.disk_core.specs.Calls.{bytes_of, Writes, TearsWrite, Settles, Stays}
use Rattle.disk_core.specs.Moments.{LeavesOnly, LeftSince, clock}
use Rattle.disk_core.proofs.CallLemmas.{LeavesOnly-write, LeavesOnly-sync}
use Rattle.disk_core.proofs.JoinedMoments.{LeavesOnly-start, LeavesOnly-more, LeavesOnly-join, LeavesOnly-weaker}
use Rattle.disk_core.proofs.ImageLemmas.{IsImage-settled}
use Rattle.segment_core.specs.declared.format.Shape.{Shape}
use Rattle.segment_core.specs.declared.fault.ScanFault.TheVariants.{Unborn}
use Rattle.segment_core.specs.Frame.{header}
use Rattle.segment_core.specs.Fault.{first_line, header_lines, header_fault}
use Rattle.pen_core.specs.Held.{Opens}
use Rattle.pen_core.specs.Births.{IsExisting, IsUnbornOrEmpty, StaysUnbornOrEmpty, IsClear, WritesNothing}
use Rattle.pen_core.proofs.Held.{not_pending}

unborn : (width : ℕ) (image : List ℕ) → (nat_le (length image) 1 || not (get_or image 0 0 == 1)) ≡ true → header_fault width image ≡ Some Unborn
unfolding header_lines
unborn width image is = ap (λ b. cond b (Some Unborn) (first_line (drop 1 (header_lines width image)))) is

unborn_short : (width : ℕ) (image : List ℕ) → length image ≤ 1 → header_fault width image ≡ Some Unborn
unborn_short width image le = unborn width image (or_left (nat_le (length image) 1) (not (get_or image 0 0 == 1)) (le-leb (length image) 1 le))

unborn_closed : (width : ℕ) (image : List ℕ) → get_or image 0 0 ≢ 1 → header_fault width image ≡ Some Unborn
unborn_closed width image shut =
    unborn width image
    (or_right (nat_le (length image) 1) (not (get_or image 0 0 == 1)) (ap not (ne_eqb (get_or image 0 0) 1 shut)))

-- the header, and the first gate, closed
abbrev pub empty_file : Shape → List ℕ
empty_file shape = header shape ++ 0 ∷ []

pub empty_opens : (shape : Shape) → Opens shape [] [] (empty_file shape)
empty_opens shape = record {
  found = [];
  alike = refl;
  opened = record {
    framed = record { legal = tt; closed = (0, [], λ e. omega (arith, e), ap (λ (bs : List ℕ). bs ++ 0 ∷ []) (sym (append-nil (header shape)))) };
    read = record { size = refl; each = λ i lt. absurd (omega arith) };
  };
}

-- what is no file stays none
pub birth_blank : (shape : Shape) (image : List ℕ) → length image ≤ 1 → IsUnbornOrEmpty shape image
birth_blank shape image short = inl (unborn_short shape.width image short)

pub birth_closed : (shape : Shape) (image : List ℕ) → get_or image 0 0 ≢ 1 → IsUnbornOrEmpty shape image
birth_closed shape image shut = inl (unborn_closed shape.width image shut)

-- while byte 0 alone is written
pub births_of_first : (shape : Shape) (bytes seen image : List ℕ) → length bytes ≤ 1
    → IsImage (touched (settled bytes) 0 1 seen) image → IsUnbornOrEmpty shape image
births_of_first shape bytes seen image short is = birth_blank shape image (omega (arith, is.no_longer))

-- while the header is written behind a closed byte 0 that is on the disk
pub births_of_header : (shape : Shape) (len : ℕ) (bytes seen image : List ℕ) → 0 < length bytes → get_or bytes 0 0 ≢ 1
    → IsImage (touched (settled bytes) 1 len seen) image → IsUnbornOrEmpty shape image
births_of_header shape len bytes seen image some shut is =
    birth_closed shape image
    (λ opened. shut (sym (is.each 0 some (not_pending [] 1 len 0 refl (λ from upto. omega arith))) ∙ opened))

-- while byte 0 is opened: no file yet, or the empty one
pub births_of_opening : (shape : Shape) (bytes seen image : List ℕ) → length bytes ≡ length (empty_file shape)
    → ((j : ℕ) → 0 < j → j < length bytes → get_or bytes j 0 ≡ get_or (empty_file shape) j 0)
    → IsImage (touched (settled bytes) 0 1 seen) image
    → IsUnbornOrEmpty shape image
births_of_opening shape bytes seen image size same is = elim (cases_eq (get_or image 0 0) 1) [
  | inr shut ↦ birth_closed shape image shut
  | inl opened ↦ inr
      (subst (Opens shape [] [])
      (sym
      (ext_get_or 0 image (empty_file shape) (omega (arith, size, is.no_shorter, is.no_longer))
      (λ j lt. at j opened (omega (arith, is.no_longer, size)))))
      (empty_opens shape))
]
  where
    at : (j : ℕ) → get_or image 0 0 ≡ 1 → j < length bytes → get_or image j 0 ≡ get_or (empty_file shape) j 0
    at zero opened lt = opened
    at (suc j) opened lt = is.each (suc j) lt (not_pending [] 0 1 (suc j) refl (λ from upto. omega arith)) ∙ same (suc j) (omega arith) lt

-- ---- a write and its sync

-- no image but those that the write may leave
pub synced_images : {T U : Type 0} (old mid new : List State) (at : ℕ) (bytes : List ℕ) (r : Result T DiskFault)
    (q : Result U DiskFault)
    → OnOk r (Writes at bytes old mid) → OnErr r (TearsWrite at (length bytes) old mid) → OnOk q (Settles mid new)
    → OnErr q (Stays mid new)
    → IsImage (now mid) (bytes_of mid) → LeavesOnly old new (IsImage (touched (now old) at (length bytes) (bytes_of old)))
synced_images old mid new at bytes r q done torn settles stays readable =
    let P : List ℕ → Type 0 = IsImage (touched (now old) at (length bytes) (bytes_of old)) in
    let first = LeavesOnly-write old mid P r at bytes done torn (λ image is. is) in
    LeavesOnly-join old mid new P first (LeavesOnly-sync mid new P q settles stays readable first.newest)

pub torn_only : {T : Type 0} (old new : List State) (at : ℕ) (bytes : List ℕ) (r : Result T DiskFault)
    → OnOk r (Writes at bytes old new) → OnErr r (TearsWrite at (length bytes) old new)
    → LeavesOnly old new (IsImage (touched (now old) at (length bytes) (bytes_of old)))
torn_only old new at bytes r done torn =
    LeavesOnly-write old new (IsImage (touched (now old) at (length bytes) (bytes_of old))) r at bytes done torn
    (λ image is. is)

-- ---- calls that change nothing

pub stays_only : (old new : List State) → Stays old new → LeavesOnly old new (IsImage (now old))
stays_only old new stays =
    LeavesOnly-more old old new (now old) (IsImage (now old)) (LeavesOnly-start old (IsImage (now old)) (λ image is. is))
    stays (λ image is. is)

pub stays_twice : (old mid new : List State) → Stays old mid → Stays mid new → LeavesOnly old new (IsImage (now old))
stays_twice old mid new first second =
    let same : now mid ≡ now old = ap now first in
    LeavesOnly-more old mid new (now mid) (IsImage (now old)) (stays_only old mid first) second (λ image is. subst (λ s. IsImage s image) same is)

-- ---- what the disk holds

unborn_as_it_is : (shape : Shape) (bytes : List ℕ) → (IsExisting bytes → ⊥) → IsUnbornOrEmpty shape bytes
unborn_as_it_is shape bytes none = elim (cases_lt 1 (length bytes)) [
  | inr short ↦ birth_blank shape bytes short
  | inl long ↦ elim (cases_eq (get_or bytes 0 0) 1) [
    | inl opened ↦ absurd (none (inr (long, opened)))
    | inr shut ↦ birth_closed shape bytes shut
  ]
]

-- where there was no file, what the calls up to here leave is none
pub born_still : (shape : Shape) (old new : List State) (bytes : List ℕ) → now old ≡ settled bytes → (IsExisting bytes → ⊥)
    → LeavesOnly old new (IsImage (now old)) → LeavesOnly old new (IsUnbornOrEmpty shape)
born_still shape old new bytes is none leaves =
    LeavesOnly-weaker old new (IsImage (now old)) (IsUnbornOrEmpty shape)
    (λ image left.
    subst (IsUnbornOrEmpty shape) (sym (IsImage-settled bytes image (subst (λ s. IsImage s image) is left)))
    (unborn_as_it_is shape bytes none))
    leaves

-- behind a first byte that is written
pub born_first : (shape : Shape) (old mid new : List State) (bytes : List ℕ) → now old ≡ settled bytes → now mid ≡ now old
    → (IsExisting bytes → ⊥) → length bytes ≤ 1 → LeavesOnly old mid (IsImage (now old))
    → LeavesOnly mid new (IsImage (touched (now mid) 0 1 (bytes_of mid))) → LeavesOnly old new (IsUnbornOrEmpty shape)
born_first shape old mid new bytes is same none short first second =
    LeavesOnly-join old mid new (IsUnbornOrEmpty shape) (born_still shape old mid bytes is none first)
    (LeavesOnly-weaker mid new (IsImage (touched (now mid) 0 1 (bytes_of mid))) (IsUnbornOrEmpty shape)
    (λ image left.
    births_of_first shape bytes (bytes_of mid) image short
    (subst (λ s. IsImage (touched s 0 1 (bytes_of mid)) image) (same ∙ is) left))
    second)

pub clear_first : (bytes : List ℕ) → length bytes ≤ 1 → IsClear (settled (overlay bytes 0 (0 ∷ [])))
clear_first [] short = (0 ∷ [], refl, omega arith, omega arith, λ e. omega (arith, e))
clear_first (b ∷ []) short = (0 ∷ [], refl, omega arith, omega arith, λ e. omega (arith, e))
clear_first (b ∷ c ∷ bytes) short = absurd (omega (arith, short))

-- ---- the header

module _ (shape : Shape) where
  abbrev rest : List ℕ
  rest = drop 1 (empty_file shape)

  laid_behind : (b : ℕ) (bytes : List ℕ) → length bytes ≤ 11 → overlay (b ∷ bytes) 1 rest ≡ b ∷ rest
  laid_behind b bytes short =
      let none : drop (length rest) bytes ≡ [] = drop_all (length rest) bytes (omega (arith, short)) in
      ap (λ (bs : List ℕ). b ∷ rest ++ bs) none ∙ ap (λ (bs : List ℕ). b ∷ bs) (append-nil rest)

  pub born_header : (old mid : List State) → IsClear (now old)
      → LeavesOnly old mid (IsImage (touched (now old) 1 (length rest) (bytes_of old)))
      → LeavesOnly old mid (IsUnbornOrEmpty shape)
  born_header old mid clear leaves =
      LeavesOnly-weaker old mid (IsImage (touched (now old) 1 (length rest) (bytes_of old))) (IsUnbornOrEmpty shape)
      (λ image left.
      births_of_header shape (length rest) clear.0 (bytes_of old) image clear.2 clear.4
      (subst (λ s. IsImage (touched s 1 (length rest) (bytes_of old)) image) clear.1 left))
      leaves

  pub born_opened : (old mid new : List State) → IsClear (now old)
      → LeavesOnly old mid (IsImage (touched (now old) 1 (length rest) (bytes_of old)))
      → now mid ≡ settled (overlay (bytes_of old) 1 rest)
      → LeavesOnly mid new (IsImage (touched (now mid) 0 1 (bytes_of mid))) → LeavesOnly old new (IsUnbornOrEmpty shape)
  born_opened old mid new clear first is second =
      LeavesOnly-join old mid new (IsUnbornOrEmpty shape) (born_header old mid clear first)
      (LeavesOnly-weaker mid new (IsImage (touched (now mid) 0 1 (bytes_of mid))) (IsUnbornOrEmpty shape)
      (λ image left. opening clear.0 (ap (λ s. s.seen) clear.1) clear.2 clear.3 image left) second)
    where
      opening : (bytes : List ℕ) → bytes_of old ≡ bytes → 0 < length bytes → length bytes ≤ 12 → (image : List ℕ)
          → IsImage (touched (now mid) 0 1 (bytes_of mid)) image → IsUnbornOrEmpty shape image
      opening [] same some short image left = absurd (omega (arith, some))
      opening (b ∷ bytes) same some short image left =
          let made : now mid ≡ settled (b ∷ rest) =
          is ∙ ap (λ (bs : List ℕ). settled (overlay bs 1 rest)) same
          ∙ ap settled (laid_behind b bytes (omega (arith, short))) in
          births_of_opening shape (b ∷ rest) (bytes_of mid) image refl (λ j some' lt. behind j some')
          (subst (λ s. IsImage (touched s 0 1 (bytes_of mid)) image) made left)
        where
          behind : (j : ℕ) → 0 < j → get_or (b ∷ rest) j 0 ≡ get_or (empty_file shape) j 0
          behind zero some' = absurd (omega arith)
          behind (suc j) some' = refl

  pub opened_file : (old mid : List State) → IsClear (now old) → now mid ≡ settled (overlay (bytes_of old) 1 rest)
      → settled (overlay (bytes_of mid) 0 (1 ∷ [])) ≡ settled (empty_file shape)
  opened_file old mid clear is = made clear.0 (ap (λ s. s.seen) clear.1) clear.2 clear.3
    where
      made : (bytes : List ℕ) → bytes_of old ≡ bytes → 0 < length bytes → length bytes ≤ 12
          → settled (overlay (bytes_of mid) 0 (1 ∷ [])) ≡ settled (empty_file shape)
      made [] same some short = absurd (omega (arith, some))
      made (b ∷ bytes) same some short =
          ap (λ s. settled (overlay s.seen 0 (1 ∷ [])))
          (is ∙ ap (λ (bs : List ℕ). settled (overlay bs 1 rest)) same
          ∙ ap settled (laid_behind b bytes (omega (arith, short))))

-- ---- from the first sync on

pub born_safely : (shape : Shape) (old mid new : List State) → clock mid ≡ clock old + 1 → bytes_of mid ≡ bytes_of old
    → ((IsExisting (bytes_of mid) → ⊥) → LeavesOnly mid new (IsUnbornOrEmpty shape)) → StaysUnbornOrEmpty shape old new
born_safely shape old mid new time same leaves none later image left =
    (leaves (λ there. none (subst IsExisting same there))).each image (subst (λ t. LeftSince new t image) (sym time) left)

pub born_onward : (shape : Shape) (old mid last new : List State) → clock mid ≡ clock old + 1 → bytes_of mid ≡ bytes_of old
    → ((IsExisting (bytes_of mid) → ⊥) → LeavesOnly mid last (IsUnbornOrEmpty shape))
    → LeavesOnly last new (IsUnbornOrEmpty shape) → StaysUnbornOrEmpty shape old new
born_onward shape old mid last new time same first second =
    born_safely shape old mid new time same
    (λ none. LeavesOnly-join mid last new (IsUnbornOrEmpty shape) (first none) second)

pub born_unsynced : (shape : Shape) (old new : List State) → clock new ≡ clock old + 1 → StaysUnbornOrEmpty shape old new
born_unsynced shape old new time none later image left = absurd (omega arith)

-- where there was a file
pub nothing_written : {T : Type 0} (old mid new : List State) (r : Result T DiskFault) → OnOk r (Settles old mid)
    → OnErr r (Stays old mid) → IsImage (now old) (bytes_of old) → now mid ≡ settled (bytes_of old)
    → LeavesOnly mid new (IsImage (now mid)) → now new ≡ now mid → WritesNothing old new
nothing_written old mid new r settles stays readable is leaves same = record {
  bytes_same = ap (λ s. s.seen) same ∙ ap (λ s. s.seen) is;
  left_before = LeavesOnly-join old mid new (IsImage (now old)) (LeavesOnly-sync old mid (IsImage (now old)) r settles stays readable (λ image left. left))
      (LeavesOnly-weaker mid new (IsImage (now mid)) (IsImage (now old))
      (λ image left.
      subst (IsImage (now old)) (sym (IsImage-settled (bytes_of old) image (subst (λ s. IsImage s image) is left)))
      readable)
      leaves);
}

pub nothing_synced : {T : Type 0} (old new : List State) (r : Result T DiskFault) → OnOk r (Settles old new)
    → OnErr r (Stays old new) → IsImage (now old) (bytes_of old) → bytes_of new ≡ bytes_of old → WritesNothing old new
nothing_synced old new r settles stays readable same =
    record {
      bytes_same = same;
      left_before = LeavesOnly-sync old new (IsImage (now old)) r settles stays readable (λ image left. left);
    }
