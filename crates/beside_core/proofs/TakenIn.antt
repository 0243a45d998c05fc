-- What a frame makes of a vector whose last records stand as bytes.
use Rattle.std.proofs.Common.{◌≡◌, ℕ, ◌+◌, ◌-◌, ◌*◌, ◌≤◌, ◌<◌, List, [], ◌∷◌, ◌++◌, length, take, sum, refl, sym, ap, subst, ◌∙◌, arith, append_assoc, length-append}
use Rattle.std.proofs.lemmas.List.{append-nil, take-append-le, length-take-le}
use Rattle.std.proofs.lemmas.Bool.{ltb-false}
use Rattle.std.proofs.lemmas.Nat.{mul-le}
use Rattle.std.proofs.Math.Nat.{add-mul}
use Rattle.std.proofs.Math.Seq.{take-append-add}
use Rattle.record_core.specs.Bytes.{Encoding}
use Rattle.segment_core.specs.declared.tally.Tally.{Tally}
use Rattle.segment_core.specs.Frame.{Frame, Group, Change, Shrink, Fold, kind_of}
use Rattle.segment_core.specs.Reading.{record_bytes_of, record_count}
use Rattle.segment_core.specs.Raw.{cells_in}
use Rattle.beside_core.specs.declared.laying.Laid.{Laid}
use Rattle.beside_core.specs.declared.news.Edit.TheVariants.{Cut}
use Rattle.beside_core.specs.Edit.{IsEdited, AreNoted, loss_of}
use Rattle.beside_core.specs.Tail.{MayFollowTail, IsLossBy, IsReplacedIn, TakesFrame}
use Rattle.beside_core.proofs.Tails.{cells_in-append, take-cells_in}
use Rattle.beside_core.proofs.Noting.{edited_cut, noted_none, noted_one}

module _ {R : Type 0} (form : Encoding R) (tally : Tally) (old new : Laid R) where
  pub group_taken : (frame : Frame) → kind_of frame ≡ 1 → MayFollowTail form.width old.base tally frame old.tail.items → new.base ≡ old.base → new.edits.items ≡ old.edits.items
      → new.tail.items ≡ old.tail.items ++ record_bytes_of frame → length (record_bytes_of frame) ≡ record_count frame * form.width → TakesFrame form tally frame old new
  group_taken (Group lengths bytes) kind follows base_is same is filled =
      let tail = follows.is_tail in
      let parts : tally.size + sum lengths - old.base ≡ tally.size - old.base + sum lengths = omega (arith, tail.behind) in
      record {
        is_tail = record {
          behind = omega (arith, base_is, tail.behind);
          filled = ap length is ∙ length-append old.tail.items bytes ∙ omega (arith, tail.filled, filled, add-mul (tally.size - old.base) (sum lengths) form.width, ap (λ n. n * form.width) parts)
              ∙ ap (λ n. (tally.size + sum lengths - n) * form.width) (sym base_is);
        };
        lower = omega (arith, base_is);
        noted = subst (λ edits. AreNoted (λ edit. IsLossBy old.base (Group lengths bytes ∷ []) (loss_of edit)) old.edits.items edits) (sym same) (noted_none
            (λ edit. IsLossBy old.base (Group lengths bytes ∷ []) (loss_of edit)) old.edits.items);
        same_base = λ more. base_is;
        is = λ known cells stands. record {
          front = stands.front;
          edited = subst (λ edits. IsEdited form edits known stands.front) (sym same) stands.edited;
          long = stands.long ∙ sym base_is;
          is =
              ap (λ (xs : List (List ℕ)). xs ++ cells_in form.width (sum lengths) bytes) stands.is
              ∙ append_assoc stands.front (cells_in form.width (tally.size - old.base) old.tail.items) (cells_in form.width (sum lengths) bytes)
              ∙ ap (λ (xs : List (List ℕ)). stands.front ++ xs) (sym (cells_in-append form.width (tally.size - old.base) (sum lengths) old.tail.items bytes tail.filled)
              ∙ ap (λ n. cells_in form.width n (old.tail.items ++ bytes)) (sym parts)
              ∙ ap (cells_in form.width (tally.size + sum lengths - old.base)) (sym is)
              ∙ ap (λ n. cells_in form.width (tally.size + sum lengths - n) new.tail.items) (sym base_is));
        };
      }
  group_taken (Change runs bytes) kind follows base_is same is filled = absurd (omega (arith, kind))
  group_taken (Shrink n) kind follows base_is same is filled = absurd (omega (arith, kind))
  group_taken (Fold count) kind follows base_is same is filled = absurd (omega (arith, kind))

  pub change_taken : (frame : Frame) → kind_of frame ≡ 2 → MayFollowTail form.width old.base tally frame old.tail.items → IsReplacedIn form tally.size frame old new → TakesFrame form tally frame old new
  change_taken (Group lengths bytes) kind follows done = absurd (omega (arith, kind))
  change_taken (Change runs bytes) kind follows done = record {
    is_tail = record {
      behind = omega (arith, done.base_is, follows.is_tail.behind);
      filled = done.long ∙ follows.is_tail.filled ∙ ap (λ n. (tally.size - n) * form.width) (sym done.base_is);
    };
    lower = omega (arith, done.base_is);
    noted = done.noted;
    same_base = λ more. done.base_is;
    is = λ known cells stands. done.is known cells stands;
  }
  change_taken (Shrink n) kind follows done = absurd (omega (arith, kind))
  change_taken (Fold count) kind follows done = absurd (omega (arith, kind))

  -- a cut behind the first records
  shrunk_tail : (n : ℕ) → old.base ≤ n → MayFollowTail form.width old.base tally (Shrink n) old.tail.items → new.base ≡ old.base → new.edits.items ≡ old.edits.items
      → new.tail.items ≡ take ((n - old.base) * form.width) old.tail.items → TakesFrame form tally (Shrink n) old new
  shrunk_tail n from may base_is same cut =
      let le : n ≤ tally.size = omega (arith, ltb-false tally.size n may.may.inside) in
      let fits : n - old.base ≤ tally.size - old.base = omega (arith, le) in
      record {
        is_tail = record {
          behind = omega (arith, base_is, from);
          filled = ap length cut
              ∙ length-take-le ((n - old.base) * form.width) old.tail.items (omega (arith, may.is_tail.filled, mul-le (n - old.base) form.width (tally.size - old.base) form.width fits (omega arith)))
              ∙ ap (λ m. (n - m) * form.width) (sym base_is);
        };
        lower = omega (arith, base_is);
        noted = subst (λ edits. AreNoted (λ edit. IsLossBy old.base (Shrink n ∷ []) (loss_of edit)) old.edits.items edits) (sym same) (noted_none
            (λ edit. IsLossBy old.base (Shrink n ∷ []) (loss_of edit)) old.edits.items);
        same_base = λ more. base_is;
        is = λ known cells stands.
            let rest : List (List ℕ) = cells_in form.width (tally.size - old.base) old.tail.items in
            let at : n ≡ length stands.front + (n - old.base) = omega (arith, stands.long, from) in
            record {
              front = stands.front;
              edited = subst (λ edits. IsEdited form edits known stands.front) (sym same) stands.edited;
              long = stands.long ∙ sym base_is;
              is =
                  ap (take n) stands.is ∙ ap (λ k. take k (stands.front ++ rest)) at ∙ take-append-add stands.front rest (n - old.base)
                  ∙ ap (λ (xs : List (List ℕ)). stands.front ++ xs) (take-cells_in form.width (tally.size - old.base) (n - old.base) old.tail.items fits may.is_tail.filled
                  ∙ ap (cells_in form.width (n - old.base)) (sym cut) ∙ ap (λ k. cells_in form.width (n - k) new.tail.items) (sym base_is));
            };
      }

  -- a cut of the first records too
  shrunk_front : (n : ℕ) → n < old.base → MayFollowTail form.width old.base tally (Shrink n) old.tail.items → new.base ≡ n → new.edits.items ≡ old.edits.items ++ Cut n ∷ []
      → length new.tail.items ≡ 0 → TakesFrame form tally (Shrink n) old new
  shrunk_front n below may base_is more none =
      let nothing : n - new.base ≡ 0 = omega (arith, base_is) in
      record {
        is_tail = record { behind = omega (arith, base_is); filled = none ∙ (let zero : 0 ≡ 0 * form.width = omega arith in zero ∙ ap (λ m. m * form.width) (sym nothing)) };
        lower = omega (arith, base_is, below);
        noted = subst (λ edits. AreNoted (λ edit. IsLossBy old.base (Shrink n ∷ []) (loss_of edit)) old.edits.items edits) (sym more) (noted_one
            (λ edit. IsLossBy old.base (Shrink n ∷ []) (loss_of edit)) old.edits.items (Cut n) (below, ([], [], refl)));
        same_base = λ same. absurd (omega (arith, ap length (sym more ∙ same), length-append old.edits.items (Cut n ∷ [])));
        is = λ known cells stands.
            let rest : List (List ℕ) = cells_in form.width (tally.size - old.base) old.tail.items in
            record {
              front = take n stands.front;
              edited = subst (λ edits. IsEdited form edits known (take n stands.front)) (sym more) (edited_cut form old.edits.items known stands.front n stands.edited (omega (arith, below, stands.long)));
              long = length-take-le n stands.front (omega (arith, below, stands.long)) ∙ sym base_is;
              is =
                  ap (take n) stands.is ∙ take-append-le n stands.front rest (omega (arith, below, stands.long)) ∙ sym (append-nil (take n stands.front))
                  ∙ ap (λ k. take n stands.front ++ cells_in form.width k new.tail.items) (sym nothing);
            };
      }

  pub tail_shrunk : (frame : Frame) (n : ℕ) → frame ≡ Shrink n → old.base ≤ n → MayFollowTail form.width old.base tally frame old.tail.items → new.base ≡ old.base
      → new.edits.items ≡ old.edits.items → new.tail.items ≡ take ((n - old.base) * form.width) old.tail.items → TakesFrame form tally frame old new
  tail_shrunk frame n is from follows base_is same cut =
      subst (λ f. MayFollowTail form.width old.base tally f old.tail.items → TakesFrame form tally f old new) (sym is) (λ may. shrunk_tail n from may base_is same cut) follows

  pub front_shrunk : (frame : Frame) (n : ℕ) → frame ≡ Shrink n → n < old.base → MayFollowTail form.width old.base tally frame old.tail.items → new.base ≡ n
      → new.edits.items ≡ old.edits.items ++ Cut n ∷ [] → length new.tail.items ≡ 0 → TakesFrame form tally frame old new
  front_shrunk frame n is below follows base_is more none =
      subst (λ f. MayFollowTail form.width old.base tally f old.tail.items → TakesFrame form tally f old new) (sym is) (λ may. shrunk_front n below may base_is more none) follows

pub fold_taken : {R : Type 0} (form : Encoding R) (tally : Tally) (old : Laid R) (frame : Frame) → kind_of frame ≡ 4 → MayFollowTail form.width old.base tally frame old.tail.items
    → TakesFrame form tally frame old old
fold_taken form tally old (Group lengths bytes) kind follows = absurd (omega (arith, kind))
fold_taken form tally old (Change runs bytes) kind follows = absurd (omega (arith, kind))
fold_taken form tally old (Shrink n) kind follows = absurd (omega (arith, kind))
fold_taken form tally old (Fold count) kind follows = record {
  is_tail = follows.is_tail;
  lower = omega arith;
  noted = noted_none (λ edit. IsLossBy old.base (Fold count ∷ []) (loss_of edit)) old.edits.items;
  same_base = λ same. refl;
  is = λ known cells stands. stands;
}

-- nothing of a tail that begins where the vector ends
pub none_left_of : (n base w : ℕ) (tail : List ℕ) → base ≡ n → length (take ((n - base) * w) tail) ≡ 0
none_left_of n base w tail is = let none : (n - base) * w ≡ 0 * w = (let zero : n - base ≡ 0 = omega (arith, is) in ap (λ k. k * w) zero) in
    let nothing : 0 * w ≡ 0 = omega arith in
    ap (λ k. length (take k tail)) (none ∙ nothing)
