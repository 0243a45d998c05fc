-- Pieces copied one after the other.
use Rattle.std.proofs.Common.{◌≡◌, ℕ, ◌+◌, List, [], ◌∷◌, ◌++◌, take, Some, sym, ap, ◌∙◌, slice_get}
use Rattle.std.proofs.lemmas.List.{append-nil}
use Rattle.std.proofs.lemmas.List.Concat.{flat_map-append}
use Rattle.segment_core.proofs.Written.{take_more}
use Rattle.book_core.specs.Lists.{joined_pieces}

pub pieces_more : {R : Type 0} (pieces : List (List R)) (k : ℕ) (piece copied : List R) → slice_get pieces k ≡ Some piece → copied ≡ joined_pieces (take k pieces)
    → copied ++ piece ≡ joined_pieces (take (k + 1) pieces)
pieces_more pieces k piece copied at is =
    ap (λ c. c ++ piece) is ∙ ap (λ p. joined_pieces (take k pieces) ++ p) (sym (append-nil piece))
    ∙ sym (flat_map-append (λ (p : List _). p) (take k pieces) (piece ∷ [])) ∙ ap joined_pieces (sym (take_more pieces k piece at))
