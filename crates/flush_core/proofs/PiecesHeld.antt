-- The blocks from before the phase and the growths that are settled: they are the vector of a flusher's file.
use Rattle.std.proofs.Common.{◌≡◌, List, Bor, ◌++◌, length, take, map, sym, ap, ◌∙◌, arith}
use Rattle.std.proofs.lemmas.List.{length-append, take_all}
use Rattle.record_core.specs.Bytes.{Encoding}
use Rattle.segment_core.specs.Written.{joined}
use Rattle.directory_core.specs.Chain as chains
use Rattle.directory_core.proofs.Chains.{length-grown_records}
use Rattle.book_core.specs.Lists.{Phase, opening_of}
use Rattle.book_core.proofs.PieceLists.{joined_pieces-growths}
use Rattle.flush_core.specs.Flusher.{FlusherOf, IsFlusher, IsFlusherOf}

module _ {R D : Type 0} {form : Encoding R} {keeps : Type 0} {f : FlusherOf R D} (is : IsFlusher keeps form f) {live : Phase R} (of : IsFlusherOf keeps live f)
    {slice row : List (Bor (List R))} (value : slice ≡ row)
    (are : map (λ piece. piece.now) row ≡ live.blocks ++ map (λ e. e.records) (take f.settled f.pass.entries)) where
  all_pieces : joined (map (λ piece. piece.now) slice) ≡ opening_of live ++ chains.grown_records (take f.settled f.pass.entries)
  all_pieces = ap (λ (items : List (Bor (List R))). joined (map (λ (piece : Bor (List R)). piece.now) items)) value ∙ ap joined are
      ∙ joined_pieces-growths live.blocks (take f.settled f.pass.entries)

  pub length-pieces : f.pen.tally.size ≡ length (joined (map (λ piece. piece.now) slice))
  length-pieces =
      let all = ap length all_pieces ∙ length-append (opening_of live) (chains.grown_records (take f.settled f.pass.entries)) in
      let behind = length-grown_records (take f.settled f.pass.entries) in
      let size = is.size_is in
      let before = of.before in
      omega arith

  pub vector-pieces : keeps → f.pen.vector ≡ map form.bytes_of (take f.pen.tally.size (joined (map (λ piece. piece.now) slice)))
  vector-pieces model =
      (is.file_is model).written
      ∙ ap (λ (rs : List R). map form.bytes_of (rs ++ chains.grown_records (take f.settled f.pass.entries))) (of.opening model)
      ∙ ap (map form.bytes_of) (sym all_pieces ∙ sym (take_all f.pen.tally.size (joined (map (λ piece. piece.now) slice)) (omega (arith, length-pieces))))
