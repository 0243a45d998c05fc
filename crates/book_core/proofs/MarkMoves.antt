-- Each step of an end keeps the rule of the mark.
use Rattle.std.proofs.Common.{◌≡◌, ◌≢◌, ℕ, zero, suc, ◌+◌, ◌*◌, List, [], ◌∷◌, ◌++◌, set, get_or, true, false, true≢false, refl, sym, ap, ◌∙◌, subst, ⊎_elim, inr, arith}
use mathlib.Core.Option.{some, none, some-injective, some-ne-none}
use lib.ListN.{get_elem?}
use Rattle.atomic_table.specs.Table.{Me, keeps, Allows, Joins, Splits}
use Rattle.atomic_table.proofs.Lists.{at_set, at_snoc}
use Rattle.book_core.specs.declared.mark.MarkState.{MarkState}
use Rattle.book_core.specs.declared.mark.MarkState.TheVariants.{Running, Ended, Broken}
use Rattle.book_core.specs.declared.mark.Raise.{Raise}
use Rattle.book_core.specs.declared.mark.Reading.{Reading}
use Rattle.book_core.specs.declared.mark.View.{View}
use Rattle.book_core.specs.Marks.{nothing_told, HasAllRaises, Rises, raised_to, code, word_of, writer, reader, nobody, shown, Fits, Kept, Stored, Loaded, Checked}

Rises-refl : (r : Reading) → Rises r r
Rises-refl r = record { count = omega arith; state = λ over. over }

Rises-trans : (a b c : Reading) → Rises a b → Rises b c → Rises a c
Rises-trans a b c ab bc = let x = ab.count in let y = bc.count in record { count = omega arith; state = λ over. bc.state (ab.state over) }

Rises-nothing_told : (r : Reading) → Rises nothing_told r
Rises-nothing_told r = record { count = omega arith; state = λ over. absurd over }

off : false ≡ true → ⊥
off e = true≢false (sym e)

-- a word tells one reading
one_told : (m n : ℕ) (s t : MarkState) → 4 * m + code s ≡ 4 * n + code t → (m ≡ n) × (s ≡ t)
one_told m n Running Running e = (omega arith, refl)
one_told m n Running Ended e = absurd (omega arith)
one_told m n Running Broken e = absurd (omega arith)
one_told m n Ended Running e = absurd (omega arith)
one_told m n Ended Ended e = (omega arith, refl)
one_told m n Ended Broken e = absurd (omega arith)
one_told m n Broken Running e = absurd (omega arith)
one_told m n Broken Ended e = absurd (omega arith)
one_told m n Broken Broken e = (omega arith, refl)

word_of-injective : (a b : Reading) → word_of a ≡ word_of b → a ≡ b
word_of-injective a b e = let same = one_told a.count b.count a.state b.state e in λ i. record { count = same.0 i; state = same.1 i }

-- each raise of none is one of these
HasAllRaises-nil : (raises : List Raise) → HasAllRaises raises []
HasAllRaises-nil raises raise is = absurd is

pub HasAllRaises-refl : (raises : List Raise) → HasAllRaises raises raises
HasAllRaises-refl raises raise is = is

-- one raise more
pub HasAllRaises-more : (raise : Raise) (raises : List Raise) → HasAllRaises (raise ∷ raises) raises
HasAllRaises-more raise raises other is = inr is

pub HasAllRaises-trans : (a b c : List Raise) → HasAllRaises b a → HasAllRaises c b → HasAllRaises c a
HasAllRaises-trans a b c ba cb raise is = cb raise (ba raise is)

-- the views after a change of one
module _ (seat : ℕ) (mark : Reading) (raises : List Raise) where
  fits_set : (views : List View) (by : ℕ) (w : View) → ((j : ℕ) (u : View) → j ≢ by → get_elem? views j ≡ some u → Fits seat mark raises j u)
      → Fits seat mark raises by w → (j : ℕ) (u : View) → get_elem? (set views by w) j ≡ some u → Fits seat mark raises j u
  fits_set views by w others mine j u e =
      ⊎_elim
      (λ (x : (j ≡ by) × (w ≡ u)). subst (λ (y : ℕ × View). Fits seat mark raises y.0 y.1) (λ i. (sym x.0 i, x.1 i)) mine)
      (λ (x : (j ≢ by) × (get_elem? views j ≡ some u)). others j u x.0 x.1)
      (at_set views by j w u e)

  -- who doesn't write fits wherever it stands
  fits_reader : (told : Reading) (seen : List Raise) (by : ℕ) → Rises told mark → HasAllRaises raises seen → Fits seat mark raises by (reader told seen)
  fits_reader told seen by up all = record {
    one_writes = λ k. absurd (off k);
    no_more = up;
    no_claim = Rises-nothing_told mark;
    seen = all;
    claimed = HasAllRaises-nil raises;
  }

  -- who writes fits at its seat
  fits_writer : (by : ℕ) → by ≡ seat → Fits seat mark raises by (writer mark raises)
  fits_writer by here = record {
    one_writes = λ k. (here, refl, refl);
    no_more = Rises-refl mark;
    no_claim = Rises-nothing_told mark;
    seen = HasAllRaises-refl raises;
    claimed = HasAllRaises-nil raises;
  }

pub opens : {S : Type 0} (homes : List (mathlib.Core.Option.Option S)) → Kept {S = S} (record { words = 0 ∷ []; homes = homes; views = writer nothing_told [] ∷ [] })
opens homes = record { seat = 0; mark = nothing_told; raises = []; raised = refl; word = refl; views = one }
  where
    one : (by : ℕ) (v : View) → get_elem? (writer nothing_told [] ∷ []) by ≡ some v → Fits 0 nothing_told [] by v
    one zero v e = subst (λ (u : View). Fits 0 nothing_told [] 0 u) (some-injective (writer nothing_told []) v e) (fits_writer 0 nothing_told [] 0 refl)
    one (suc by) v e = absurd (some-ne-none v (sym e))

pub splits : {S : Type 0} (by : ℕ) (v : View) → Splits {S = S} Kept by v v (reader v.told v.raises)
splits by v s h at = record { seat = h.seat; mark = h.mark; raises = h.raises; raised = h.raised; word = h.word; views = all }
  where
    mine : Fits h.seat h.mark h.raises by v
    mine = h.views by v at

    all : (j : ℕ) (u : View) → get_elem? (set s.views by v ++ reader v.told v.raises ∷ []) j ≡ some u → Fits h.seat h.mark h.raises j u
    all j u e =
        ⊎_elim
        (λ (x : get_elem? (set s.views by v) j ≡ some u). fits_set h.seat h.mark h.raises s.views by v (λ i y _ e'. h.views i y e') mine j u x)
        (λ (x : reader v.told v.raises ≡ u).
        subst (λ (y : View). Fits h.seat h.mark h.raises j y) x (fits_reader h.seat h.mark h.raises v.told v.raises j mine.no_more mine.seen))
        (at_snoc (set s.views by v) (reader v.told v.raises) u j e)

pub takes_in : {S : Type 0} (by : ℕ) (v : View) (other : ℕ) (u : View) → Joins {S = S} Kept by v other u (shown v u) nobody
takes_in by v other u s h at apart there =
    let w = shown v u in
    let mine = h.views by v at in
    let theirs = ⊎_elim (λ (t : (other ≡ by) × (w ≡ u)). absurd (apart t.0))
    (λ (t : (other ≢ by) × (get_elem? s.views other ≡ some u)). h.views other u t.1) (at_set s.views by other w u there) in
    let joined : Fits h.seat h.mark h.raises by w =
    record { one_writes = mine.one_writes; no_more = mine.no_more; no_claim = theirs.no_more; seen = mine.seen; claimed = theirs.seen } in
    record {
      seat = h.seat;
      mark = h.mark;
      raises = h.raises;
      raised = h.raised;
      word = h.word;
      views = fits_set h.seat h.mark h.raises (set s.views by w) other nobody
          (λ j y _ e. fits_set h.seat h.mark h.raises s.views by w (λ i z _ e'. h.views i z e') joined j y e)
          (fits_reader h.seat h.mark h.raises nothing_told [] other (Rises-nothing_told h.mark) (HasAllRaises-nil h.raises));
    }

-- the view of a writer that has a claim
abbrev claiming : Reading → List Raise → Reading → List Raise → View
claiming told raises claim claimed = record { writes = true; told = told; raises = raises; claim = claim; claimed = claimed }

pub checks : {S : Type 0} (slots by : ℕ) (me : Me S View) (told claim : Reading) (raises claimed : List Raise) → me.0 ≡ claiming told raises claim claimed
    → Allows {S = S} Kept slots by me 0 (λ n. n) (λ found after. Checked me after)
checks {S} slots by me told claim raises claimed is =
    subst (λ (v : View). Allows {S = S} Kept slots by (v, me.1) 0 (λ n. n) (λ found after. Checked (v, me.1) after)) (sym is) at_known
  where
    v : View
    v = claiming told raises claim claimed

    at_known : Allows {S = S} Kept slots by (claiming told raises claim claimed, me.1) 0 (λ n. n) (λ found after. Checked (claiming told raises claim claimed, me.1) after)
    at_known s h len at small =
        let mine = h.views by (claiming told raises claim claimed) at in
        let known = (mine.one_writes refl).1 in
        let whole = (mine.one_writes refl).2 in
        let words : set s.words 0 (get_or s.words 0 0) ≡ word_of h.mark ∷ [] = ap (λ (ws : List ℕ). set ws 0 (get_or ws 0 0)) h.word in
        let now : Fits h.seat h.mark h.raises by (writer told raises) =
        record { one_writes = mine.one_writes; no_more = mine.no_more; no_claim = Rises-nothing_told h.mark; seen = mine.seen; claimed = HasAllRaises-nil h.raises } in (
          writer told raises,
          keeps,
          tt,
          record { seat = h.seat; mark = h.mark; raises = h.raises; raised = h.raised; word = words; views = fits_set h.seat h.mark h.raises s.views by (writer told raises) (λ j u _ e. h.views j u e) now },
          record {
            same = (refl, refl);
            rises = subst (λ (r : Reading). Rises claim r) (sym known) mine.no_claim;
            seen = subst (λ (rs : List Raise). HasAllRaises rs claimed) (sym whole) mine.claimed;
          },
        )

pub loads : {S : Type 0} (slots by : ℕ) (me : Me S View) → Allows {S = S} Kept slots by me 0 (λ n. n) (λ found after. Loaded me found after)
loads {S} slots by me s h len at small =
    let v = me.0 in
    let mine = h.views by v at in
    let w : View = record { writes = v.writes; told = h.mark; raises = h.raises; claim = v.claim; claimed = v.claimed } in
    let words : set s.words 0 (get_or s.words 0 0) ≡ word_of h.mark ∷ [] = ap (λ (ws : List ℕ). set ws 0 (get_or ws 0 0)) h.word in
    let now : Fits h.seat h.mark h.raises by w =
    record { one_writes = λ k. ((mine.one_writes k).0, refl, refl); no_more = Rises-refl h.mark; no_claim = mine.no_claim; seen = HasAllRaises-refl h.raises; claimed = mine.claimed } in (
      w,
      keeps,
      tt,
      record { seat = h.seat; mark = h.mark; raises = h.raises; raised = h.raised; word = words; views = fits_set h.seat h.mark h.raises s.views by w (λ j u _ e. h.views j u e) now },
      record { found_is = ap (λ (ws : List ℕ). get_or ws 0 0) h.word; rises = mine.no_more; raised = h.raised; seen = mine.seen; nothing_held = refl },
    )

pub stores : {S : Type 0} (slots by : ℕ) (me : Me S View) (old told : Reading) (before raises : List Raise) (word : ℕ) → me.0 ≡ writer old before → me.1 ≡ []
    → Rises old told → raised_to raises ≡ told.count → HasAllRaises raises before → word ≡ word_of told
    → Allows {S = S} Kept slots by me 0 (λ _. word) (λ _ after. (t : Reading) → word ≡ word_of t → Stored t raises after)
stores {S} slots by me old told before raises word is free up to all tells =
    subst (λ (v : View). Allows {S = S} Kept slots by (v, me.1) 0 (λ _. word) (λ _ after. (t : Reading) → word ≡ word_of t → Stored t raises after)) (sym is) at_known
  where
    at_known : Allows {S = S} Kept slots by (writer old before, me.1) 0 (λ _. word) (λ _ after. (t : Reading) → word ≡ word_of t → Stored t raises after)
    at_known s h len at small =
        let mine = h.views by (writer old before) at in
        let writes = mine.one_writes refl in
        let rises : (r : Reading) → Rises r h.mark → Rises r told = λ r below. Rises-trans r old told (subst (λ (x : Reading). Rises r x) (sym writes.1) below) up in
        let grows : (seen : List Raise) → HasAllRaises h.raises seen → HasAllRaises raises seen =
        λ seen has. HasAllRaises-trans seen before raises (subst (λ (rs : List Raise). HasAllRaises rs seen) (sym writes.2) has) all in
        let words : set s.words 0 word ≡ word_of told ∷ [] = ap (λ (ws : List ℕ). set ws 0 word) h.word ∙ ap (λ (n : ℕ). n ∷ []) tells in (
          writer told raises,
          keeps,
          tt,
          record {
            seat = h.seat;
            mark = told;
            raises = raises;
            raised = to;
            word = words;
            views = fits_set h.seat told raises s.views by (writer told raises)
                (λ j u ne e. let f = h.views j u e in
                record {
                  one_writes = λ k. absurd (ne ((f.one_writes k).0 ∙ sym writes.0));
                  no_more = rises u.told f.no_more;
                  no_claim = rises u.claim f.no_claim;
                  seen = grows u.raises f.seen;
                  claimed = grows u.claimed f.claimed;
                })
                (fits_writer h.seat told raises by writes.0);
          },
          (λ t e. (ap (λ (r : Reading). writer r raises) (word_of-injective told t (sym tells ∙ e)), free)),
        )
