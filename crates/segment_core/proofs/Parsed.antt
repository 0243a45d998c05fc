-- What is read from bytes that begin with frames is those frames and their vector.
use Rattle.std.proofs.Common.{◌≡◌, ℕ, zero, suc, ◌+◌, ◌≤◌, ◌<◌, List, [], ◌∷◌, ◌++◌, length, take, drop, get_or, Option, Some, None, refl, sym, ap, ◌∙◌, arith}
use Rattle.std.specs.List.{flat_map}
use Rattle.std.specs.Option.{option_and_then}
use Rattle.std.proofs.lemmas.List.{length-append, take_at, drop_at, drop_more, drop_all}
use Rattle.std.proofs.lemmas.Option.{same_Some, slice_get-get_or}
use Rattle.segment_core.specs.declared.format.Format.{Format}
use Rattle.segment_core.specs.declared.format.Shape.{Shape}
use Rattle.segment_core.specs.declared.tally.Tally.{Tally}
use Rattle.segment_core.specs.Shape.{shape_of}
use Rattle.segment_core.specs.Frame.{Frame, header, frame_text, text}
use Rattle.segment_core.specs.Tally.{nothing, after, tally_of, AreLegalFrom}
use Rattle.segment_core.specs.Image.{BeginsImage}
use Rattle.segment_core.specs.Vector.{place_of, record_in, IsVectorOf}
use Rattle.segment_core.specs.Fault.{payload_len_in}
use Rattle.segment_core.specs.Raw.{raw}
use Rattle.segment_core.specs.Parsed.{frames_from, frames_before, cell_at, cells_from, vector_before}
use Rattle.segment_core.proofs.Payload.{length-frame_text, payload_len_in-frame_text, small_payload, frame_in-frame_text}
use Rattle.segment_core.proofs.Push.{length-text}

frames_from-text : (shape : Shape) (tally : Tally) (frames : List Frame) (most : ℕ)
    → AreLegalFrom shape tally frames → length (flat_map (frame_text shape.format) frames) ≤ most
    → frames_from shape most (flat_map (frame_text shape.format) frames) ≡ frames
frames_from-text shape tally [] zero legal enough = refl
frames_from-text shape tally [] (suc n) legal enough = refl
frames_from-text shape tally (frame ∷ frames) zero legal enough =
    let a = length-append (frame_text shape.format frame) (flat_map (frame_text shape.format) frames) in
    let b = length-frame_text shape.format frame in
    absurd (omega arith)
frames_from-text shape tally (frame ∷ frames) (suc n) legal enough =
    let rest : List ℕ = flat_map (frame_text shape.format) frames in
    let here : List ℕ = frame_text shape.format frame in
    let all = length-append here rest in
    let size = length-frame_text shape.format frame in
    let first = frame_in-frame_text shape frame rest legal.0 in
    let behind : drop (6 + payload_len_in (here ++ rest)) (here ++ rest) ≡ rest
    = ap (λ k. drop (6 + k) (here ++ rest)) (payload_len_in-frame_text shape.format frame rest (small_payload shape frame legal.0))
    ∙ drop_at here rest _ size in
    ap (λ f. f ∷ frames_from shape n (drop (6 + payload_len_in (here ++ rest)) (here ++ rest))) first
    ∙ ap (λ (fs : List Frame). frame ∷ fs) (ap (frames_from shape n) behind ∙ frames_from-text shape (after tally frame) frames n legal.2 (omega arith))

pub frames_before-text : (shape : Shape) (image : List ℕ) (frames : List Frame) → BeginsImage shape image frames → frames_before shape (length (text shape frames)) image ≡ frames
unfolding frames_before
frames_before-text shape image frames begins =
    let gate : ℕ = length (text shape frames) in
    let all = length-text shape frames in
    ap (λ (bs : List ℕ). frames_from shape gate (drop 11 (take gate bs))) begins.begins.1
    ∙ ap (λ (bs : List ℕ). frames_from shape gate (drop 11 bs)) (take_at (text shape frames) begins.begins.0 gate refl)
    ∙ ap (frames_from shape gate) (drop_at (header shape) (flat_map (frame_text shape.format) frames) 11 refl)
    ∙ frames_from-text shape nothing frames gate begins.legal (omega arith)

cell_there : (width : ℕ) (image : List ℕ) (place : Option ℕ) (cell : List ℕ) → option_and_then (record_in (raw width) image) place ≡ Some cell → cell_at width image place ≡ cell
cell_there width image None cell is = absurd cc
cell_there width image (Some place) cell is = same_Some (take width (drop place image)) cell is

cells_from-drop : (format : Format) (width n : ℕ) (frames : List Frame) (image : List ℕ) (cells : List (List ℕ))
    (i : ℕ)
    → IsVectorOf format (raw width) image frames cells
    → n + i ≡ length cells
    → cells_from (shape_of format (raw width)) n frames image i ≡ drop i cells
cells_from-drop format width zero frames image cells i read is = sym (drop_all i cells (omega arith))
cells_from-drop format width (suc n) frames image cells i read is =
    let shape : Shape = shape_of format (raw width) in
    let lt : i < length cells = omega arith in
    let one = cell_there width image (place_of shape frames i) (get_or cells i []) (read.each i lt ∙ slice_get-get_or cells i [] lt) in
    let next : suc i ≡ i + 1 = omega arith in
    let more : cells_from shape n frames image (suc i) ≡ drop (i + 1) cells = cells_from-drop format width n frames image cells (suc i) read (omega arith) ∙ ap (λ k. drop k cells) next in
    ap (λ c. c ∷ cells_from shape n frames image (suc i)) one ∙ ap (λ (cs : List (List ℕ)). get_or cells i [] ∷ cs) more ∙ sym (drop_more cells i [] lt)

pub vector_before-text : (format : Format) (width : ℕ) (image : List ℕ) (frames : List Frame) (cells : List (List ℕ))
    → BeginsImage (shape_of format (raw width)) image frames
    → IsVectorOf format (raw width) image frames cells
    → vector_before (shape_of format (raw width)) (length (text (shape_of format (raw width)) frames)) image ≡ cells
unfolding vector_before
vector_before-text format width image frames cells begins read =
    let shape : Shape = shape_of format (raw width) in
    ap (λ (fs : List Frame). cells_from shape (tally_of fs).size fs image 0) (frames_before-text shape image frames begins)
    ∙ cells_from-drop format width (tally_of frames).size frames image cells 0 read (omega (arith, read.size))
