-- The vault that a phase leaves.
use Rattle.std.proofs.Common.{◌≡◌, ℕ, ◌+◌, ◌≤◌, List, ◌++◌, length, take, inl, inr, sym, ap, subst, ◌∙◌, arith}
use Rattle.std.proofs.lemmas.List.{take_all}
use Rattle.record_core.specs.Bytes.{Encoding}
use Rattle.segment_core.specs.Raw.{AreCellsOf}
use Rattle.pen_core.specs.PenOf.{PenOf}
use Rattle.pen_core.specs.Pen.{vector_after}
use Rattle.pen_core.specs.Typed.{OpensTo}
use Rattle.block_core.specs.Growth.{Growth}
use Rattle.directory_core.specs.Chain.{grown_records, total}
use Rattle.record_core.specs.Limits.{record_limit}
use Rattle.book_core.specs.Lists.{Phase, opening_of, joined_pieces}
use Rattle.book_core.proofs.Owns.{length-list}
use Rattle.flush_core.specs.Flusher.{FlusherOf, IsFlusherOf, FlusherLearns, list_to, tally_with, read_as}
use Rattle.flush_core.proofs.Kept.{read_as-cells}
use Rattle.vault_core.specs.Vault.{VaultOf, IsVault, MayHold, list_of, vault_of}
use Rattle.vault_core.proofs.Handed.{IsFlusherOf-learns}

-- The phase of a flusher ends: all that it knew is settled and stands in these blocks, and it has learnt of no growth since.
pub record HasEnded {R D : Type 0} (keeps : D → Type 0) (live : Phase R) (old new : FlusherOf R D) (blocks : List (List R)) : Type 0 where
  pub of : IsFlusherOf (keeps old.pen.disk) live old
  pub settled : old.settled ≡ length old.pass.entries
  pub list : joined_pieces blocks ≡ opening_of live ++ grown_records old.pass.entries
  pub learns : FlusherLearns old new
  pub known_same : new.pass.entries ≡ old.pass.entries

-- What a flusher's pen has: the growths that are settled, and with its job those that are taken.
pub record HasPen {R D : Type 0} (keeps : D → Type 0) (form : Encoding R) (f : FlusherOf R D) : Type 0 where
  pub order : (f.settled ≤ f.taken) × (f.taken ≤ length f.pass.entries)
  pub size : f.pen.tally.size ≡ f.before + total (take f.settled f.pass.entries)
  pub size_then : (tally_with f.pen.tally f.pen.job).size ≡ f.before + total (take f.taken f.pass.entries)
  pub file : keeps f.pen.disk → AreCellsOf form f.pen.vector (list_to f f.settled) × AreCellsOf form (vector_after f.pen) (list_to f f.taken)
  pub width : form.width ≡ f.pen.shape.width

module _ {R D : Type 0} {keeps : D → Type 0} {form : Encoding R} {live : Phase R} {old f : FlusherOf R D} {blocks : List (List R)}
    (ended : HasEnded keeps live old f blocks) (has : HasPen keeps form f) where
  all_settled : length f.pass.entries ≤ f.settled
  all_settled = let a = ended.learns.settled_same in let b = ap length ended.known_same in let c = ended.settled in omega (arith, a, b, c)

  all_taken : length f.pass.entries ≤ f.taken
  all_taken = let a = all_settled in let b = has.order.0 in omega (arith, a, b)

  known : (n : ℕ) → length f.pass.entries ≤ n → take n f.pass.entries ≡ old.pass.entries
  known n le = take_all n f.pass.entries le ∙ ended.known_same

  -- the list of all that it knows
  whole : (n : ℕ) → length f.pass.entries ≤ n → keeps f.pen.disk → list_to f n ≡ joined_pieces blocks
  whole n le model =
      ap (λ (es : List (Growth R)). f.opening ++ grown_records es) (known n le)
      ∙ ap (λ (rs : List R). rs ++ grown_records old.pass.entries) ((IsFlusherOf-learns keeps live old f ended.of ended.learns).opening model)
      ∙ sym ended.list

  size : (n : ℕ) → length f.pass.entries ≤ n → f.before + total (take n f.pass.entries) ≡ length (joined_pieces blocks)
  size n le =
      let long = ap length ended.list ∙ length-list (opening_of live) old.pass.entries in
      let taken = ap total (known n le) in
      let before = (IsFlusherOf-learns keeps live old f ended.of ended.learns).before in
      omega (arith, long, taken, before)

  sure_is : keeps f.pen.disk → read_as form f.pen.vector ≡ joined_pieces blocks
  sure_is model = read_as-cells form f.pen.vector (joined_pieces blocks) (subst (AreCellsOf form f.pen.vector) (whole f.settled all_settled model) (has.file model).0)

  is_vault : IsVault (keeps f.pen.disk) form (vault_of form f.pen blocks)
  is_vault = record {
    one_width = has.width;
    size_then = has.size_then ∙ size f.taken all_taken;
    size_is = λ _. has.size ∙ size f.settled all_settled;
    file_is = λ model. subst (AreCellsOf form f.pen.vector) (whole f.settled all_settled model ∙ sym (sure_is model)) (has.file model).0;
    file_then = λ model. subst (AreCellsOf form (vector_after f.pen)) (whole f.taken all_taken model) (has.file model).1;
    whole = λ model _. sure_is model;
  }

  pub gathered_kept : (pen : PenOf D) → pen ≡ f.pen → IsVault (keeps pen.disk) form (vault_of form pen blocks)
  gathered_kept pen same = subst (λ (p : PenOf D). IsVault (keeps p.disk) form (vault_of form p blocks)) (sym same) is_vault

-- no more records than a vector may have
pub gathered_few : {R D : Type 0} (keeps : Type 0) (live : Phase R) (old : FlusherOf R D) (blocks : List (List R)) → IsFlusherOf keeps live old
    → old.before + total old.pass.entries ≤ record_limit → joined_pieces blocks ≡ opening_of live ++ grown_records old.pass.entries
    → length (joined_pieces blocks) ≤ record_limit
gathered_few keeps live old blocks of limit list = let long = ap length list ∙ length-list (opening_of live) old.pass.entries in let before = of.before in omega arith

-- what a vault that is sure of its list may hold opens to that
pub holds_sure : {R D : Type 0} (form : Encoding R) (v : VaultOf R D) (image : List ℕ) → v.sure ≡ list_of v → MayHold form v image → OpensTo form image (list_of v)
holds_sure form v image sure (inl before) = subst (λ (records : List _). OpensTo form image records) sure before
holds_sure form v image sure (inr after) = after
