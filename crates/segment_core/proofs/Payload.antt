-- A payload and the frame that it is: what was written is read again, and what is read was written so.
use Rattle.std.proofs.Common.{◌≡◌, ℕ, zero, suc, ◌+◌, ◌-◌, ◌*◌, ◌/◌, ◌^◌, ◌≤◌, ◌<◌, Bool, true, false, List, [], ◌∷◌, ◌++◌, length, take, drop, sum, refl, sym, ap, subst, ◌∙◌, append_assoc, arith}
use Rattle.std.specs.Prelude.{nat_lt}
use Rattle.std.specs.List.{flat_map, list_all, AllByRecursion}
use Rattle.std.specs.Int.{w32, w64, to_le_bytes}
use Rattle.std.proofs.lemmas.Bool.{leb-true, le-leb, ltb-true, lt-ltb, eqb-true, eq-eqb}
use Rattle.std.proofs.lemmas.List.{take_at, drop_at, drop-drop, take-append-drop, length-append, length-drop, take_all, append-nil}
use Rattle.std.proofs.Math.Nat.{div-le_of_le-mul, mul-div_cancel}
use Rattle.record_core.specs.Bytes.{IsBytes}
use Rattle.segment_core.specs.declared.format.Format.{Format}
use Rattle.segment_core.specs.declared.format.Format.TheVariants.{One, Two}
use Rattle.segment_core.specs.declared.format.Shape.{Shape}
use Rattle.segment_core.specs.Shape.{limit_of}
use Rattle.segment_core.specs.Frame.{Run, Frame, Group, Change, Shrink, Fold, kind_of, number_text, number_len, run_text, runs_text, runs_len, records_of_runs, payload_of, frame_text}
use Rattle.segment_core.specs.Layout.{IsLength, HasRuns, HasLayout, IsFrame, u32_at, u64_at, numbers_in, count_in, lengths_in, homes_in, number_at, runs_from, run_count_in, runs_in, new_in}
use Rattle.segment_core.specs.Layout.{frame_in, is_group_layout, is_change_layout, is_layout}
use Rattle.segment_core.specs.Fault.{kind_in, payload_len_in, payload_in}
use Rattle.segment_core.proofs.Numbers.{IsBytes-drop, u32_at_first, u32_at-drop, u32_written, length-numbers_in, length-numbers_text, numbers_in-written, numbers_text-numbers_in, both_true}
use Rattle.segment_core.proofs.Numbers.{true_both, lengths_positive, positive_lengths}
use Rattle.segment_core.proofs.RunRows.{u64_at_first, u64_written, u64_small, length-number_text, number_written, length-runs_text, length-runs_from, AreGiven, runs_from-written}
use Rattle.segment_core.proofs.RunRows.{run_texts-runs_from, runs_positive, positive_runs}

-- ---- limits

pub limit_small : (format : Format) → limit_of format ≤ 2 ^ 24
limit_small One = omega arith
limit_small Two = omega arith

-- ---- a Group, from the payload to the frame

-- what the tests of a Group's payload say
pub record GroupParts (width : ℕ) (payload : List ℕ) : Type 0 where
  pub counted : 4 ≤ length payload
  pub some : 0 < count_in payload
  pub inside : 4 + count_in payload * 4 ≤ length payload
  pub positive : list_all (nat_lt 0) (lengths_in payload) ≡ true
  pub filled : length (homes_in payload) ≡ sum (lengths_in payload) * width

pub parts_of_group : (width : ℕ) (payload : List ℕ) → is_group_layout width payload ≡ true → GroupParts width payload
unfolding is_group_layout
parts_of_group width payload test =
    let a = both_true _ _ test in
    let b = both_true _ _ a.1 in
    let c = both_true _ _ b.1 in
    let d = both_true _ _ c.1 in
    record { counted = leb-true _ _ a.0; some = ltb-true _ _ b.0; inside = leb-true _ _ c.0; positive = d.0; filled = eqb-true _ _ d.1 }

pub group_from_parts : (width : ℕ) (payload : List ℕ) → GroupParts width payload → is_group_layout width payload ≡ true
unfolding is_group_layout
group_from_parts width payload p =
    true_both _ _ (le-leb _ _ p.counted) (true_both _ _ (lt-ltb _ _ p.some) (true_both _ _ (le-leb _ _ p.inside) (true_both _ _ p.positive (eq-eqb _ _ p.filled))))

spelled_group : (format : Format) (width : ℕ) (payload : List ℕ) → IsBytes payload → GroupParts width payload → payload_of format (Group (lengths_in payload) (homes_in payload)) ≡ payload
spelled_group format width payload fits p =
    let n : ℕ = count_in payload in
    let front : to_le_bytes w32 (length (lengths_in payload)) ≡ take 4 payload = ap (to_le_bytes w32) (length-numbers_in n (drop 4 payload)) ∙ u32_written payload fits p.counted in
    let left : n * 4 ≤ length (drop 4 payload) = let l = length-drop 4 payload in let i = p.inside in omega arith in
    let rest : flat_map (to_le_bytes w32) (lengths_in payload) ++ homes_in payload ≡ drop 4 payload
    = ap (λ (bs : List ℕ). flat_map (to_le_bytes w32) (lengths_in payload) ++ bs) (sym (drop-drop (n * 4) 4 payload))
    ∙ numbers_text-numbers_in n (drop 4 payload) (IsBytes-drop 4 payload fits) left in
    ap (λ (bs : List ℕ). bs ++ (flat_map (to_le_bytes w32) (lengths_in payload) ++ homes_in payload)) front ∙ ap (λ (bs : List ℕ). take 4 payload ++ bs) rest ∙ take-append-drop 4 payload

layout_group : (shape : Shape) (payload : List ℕ) → IsBytes payload → GroupParts shape.width payload → HasLayout shape (Group (lengths_in payload) (homes_in payload))
layout_group shape payload fits p = (
  let l = length-numbers_in (count_in payload) (drop 4 payload) in let s = p.some in omega arith,
  lengths_positive (count_in payload) (drop 4 payload) (IsBytes-drop 4 payload fits) p.positive,
  p.filled,
)

-- ---- a Change, from the payload to the frame

-- what the tests of a Change's payload say
pub record ChangeParts (shape : Shape) (payload : List ℕ) : Type 0 where
  pub counted : number_len shape.format ≤ length payload
  pub some : 0 < run_count_in shape.format payload
  pub inside : runs_len shape.format (run_count_in shape.format payload) ≤ length payload
  pub positive : list_all (λ run. nat_lt 0 run.count) (runs_in shape payload) ≡ true
  pub filled : length (new_in shape.format payload) ≡ records_of_runs (runs_in shape payload) * shape.width

pub parts_of_change : (shape : Shape) (payload : List ℕ) → is_change_layout shape payload ≡ true → ChangeParts shape payload
unfolding is_change_layout
parts_of_change shape payload test =
    let a = both_true _ _ test in
    let b = both_true _ _ a.1 in
    let c = both_true _ _ b.1 in
    let d = both_true _ _ c.1 in
    record { counted = leb-true _ _ a.0; some = ltb-true _ _ b.0; inside = leb-true _ _ c.0; positive = d.0; filled = eqb-true _ _ d.1 }

pub change_from_parts : (shape : Shape) (payload : List ℕ) → ChangeParts shape payload → is_change_layout shape payload ≡ true
unfolding is_change_layout
change_from_parts shape payload p =
    true_both _ _ (le-leb _ _ p.counted) (true_both _ _ (lt-ltb _ _ p.some) (true_both _ _ (le-leb _ _ p.inside) (true_both _ _ p.positive (eq-eqb _ _ p.filled))))

number_of_runs : (shape : Shape) (payload : List ℕ) → length (runs_in shape payload) ≡ run_count_in shape.format payload
number_of_runs shape payload = length-runs_from shape.format ((length payload - 8) / shape.width) (run_count_in shape.format payload) (drop (number_len shape.format) payload)

spelled_change : (shape : Shape) (payload : List ℕ)
    → IsBytes payload → ChangeParts shape payload
    → payload_of shape.format (Change (runs_in shape payload) (new_in shape.format payload)) ≡ payload
spelled_change shape payload fits p =
    let format : Format = shape.format in
    let n : ℕ = run_count_in format payload in
    let number : ℕ = number_len format in
    let size : ℕ = 8 + number in
    let behind : List ℕ = drop number payload in
    let texts : List ℕ = flat_map (run_text format) (runs_in shape payload) in
    let front : number_text format (length (runs_in shape payload)) ≡ take number payload
    = ap (number_text format) (number_of_runs shape payload) ∙ number_written format 1 payload fits p.counted in
    let left : n * size ≤ length behind = let l = length-drop number payload in let i = p.inside in omega arith in
    let rest : texts ++ new_in format payload ≡ behind
    = ap (λ (bs : List ℕ). texts ++ bs) (sym (drop-drop (n * size) number payload))
    ∙ run_texts-runs_from format ((length payload - 8) / shape.width) n behind (IsBytes-drop number payload fits) left in
    append_assoc (number_text format (length (runs_in shape payload))) texts (new_in format payload)
    ∙ ap (λ (bs : List ℕ). bs ++ (texts ++ new_in format payload)) front ∙ ap (λ (bs : List ℕ). take number payload ++ bs) rest ∙ take-append-drop number payload

has_runs : (format : Format) (payload : List ℕ) (runs : List Run) → length runs ≡ run_count_in format payload → 0 < run_count_in format payload → HasRuns format runs
has_runs One payload runs len some = len
has_runs Two payload runs len some = omega arith

pub div_small : (n width : ℕ) → 0 < width → n / width ≤ n
div_small n zero wide = absurd (omega arith)
div_small n (suc w) wide = div-le_of_le-mul (suc w) {m = n} {n = n} (omega arith)

layout_change : (shape : Shape) (payload : List ℕ)
    → 0 < shape.width → IsBytes payload → length payload < 2 ^ 32 → ChangeParts shape payload
    → HasLayout shape (Change (runs_in shape payload) (new_in shape.format payload))
layout_change shape payload wide fits small p =
    let filling : ℕ = (length payload - 8) / shape.width in
    let few : filling < 2 ^ 32 = let d = div_small (length payload - 8) shape.width wide in omega arith in (
      has_runs shape.format payload (runs_in shape payload) (number_of_runs shape payload) p.some,
      runs_positive shape.format filling (run_count_in shape.format payload) (drop (number_len shape.format) payload) (IsBytes-drop (number_len shape.format) payload fits) few p.positive,
      p.filled,
    )

-- ---- any frame, from the payload

spelled_number : (payload : List ℕ) → IsBytes payload → length payload ≡ 8 → to_le_bytes w64 (u64_at payload 0) ≡ payload
spelled_number payload fits len = u64_written payload fits (omega arith) ∙ take_all 8 payload (omega arith)

-- a kind's byte is one of four
pub data OneOf (kind : ℕ) : Type 0 where
  IsGroup : kind ≡ 1 → OneOf kind
  IsChange : kind ≡ 2 → OneOf kind
  IsShrink : kind ≡ 3 → OneOf kind
  IsFold : kind ≡ 4 → OneOf kind

-- a payload that has the form of its kind is the frame's that is read from it
pub record IsPayload (shape : Shape) (kind : ℕ) (payload : List ℕ) : Type 0 where
  pub kind_is : kind_of (frame_in shape kind payload) ≡ kind
  pub spelled : payload_of shape.format (frame_in shape kind payload) ≡ payload
  pub layout : HasLayout shape (frame_in shape kind payload)

pub is_payload : (shape : Shape) (kind : ℕ) (payload : List ℕ)
    → 0 < shape.width → IsBytes payload → length payload < 2 ^ 32 → OneOf kind → is_layout shape kind payload ≡ true
    → IsPayload shape kind payload
is_payload shape kind payload wide fits small (IsGroup is) formed =
    let p = parts_of_group shape.width payload (ap (λ k. is_layout shape k payload) (sym is) ∙ formed) in
    subst (λ k. IsPayload shape k payload) (sym is) (record { kind_is = refl; spelled = spelled_group shape.format shape.width payload fits p; layout = layout_group shape payload fits p })
is_payload shape kind payload wide fits small (IsChange is) formed =
    let p = parts_of_change shape payload (ap (λ k. is_layout shape k payload) (sym is) ∙ formed) in
    subst (λ k. IsPayload shape k payload) (sym is) (record { kind_is = refl; spelled = spelled_change shape payload fits p; layout = layout_change shape payload wide fits small p })
is_payload shape kind payload wide fits small (IsShrink is) formed =
    let len : length payload ≡ 8 = eqb-true _ _ (ap (λ k. is_layout shape k payload) (sym is) ∙ formed) in
    subst (λ k. IsPayload shape k payload) (sym is) (record { kind_is = refl; spelled = spelled_number payload fits len; layout = u64_small payload 0 fits })
is_payload shape kind payload wide fits small (IsFold is) formed =
    let len : length payload ≡ 8 = eqb-true _ _ (ap (λ k. is_layout shape k payload) (sym is) ∙ formed) in
    subst (λ k. IsPayload shape k payload) (sym is) (record { kind_is = refl; spelled = spelled_number payload fits len; layout = u64_small payload 0 fits })

-- ---- from the frame to the payload

pub length-group_payload : (format : Format) (lengths bytes : List ℕ) → length (payload_of format (Group lengths bytes)) ≡ 4 + length lengths * 4 + length bytes
length-group_payload format lengths bytes =
    let a = length-append (to_le_bytes w32 (length lengths)) (flat_map (to_le_bytes w32) lengths ++ bytes) in
    let b = length-append (flat_map (to_le_bytes w32) lengths) bytes in
    let c = length-numbers_text lengths in
    a ∙ omega arith

pub length-change_payload : (format : Format) (runs : List Run) (bytes : List ℕ) → length (payload_of format (Change runs bytes)) ≡ runs_len format (length runs) + length bytes
length-change_payload format runs bytes = length-append (runs_text format runs) bytes ∙ ap (λ n. n + length bytes) (length-runs_text format runs)

count_in-group : (format : Format) (lengths bytes : List ℕ) → length lengths < 2 ^ 32 → count_in (payload_of format (Group lengths bytes)) ≡ length lengths
count_in-group format lengths bytes lt = u32_at_first (length lengths) (flat_map (to_le_bytes w32) lengths ++ bytes) lt

lengths_in-group : (format : Format) (lengths bytes : List ℕ) → length lengths < 2 ^ 32 → AllByRecursion IsLength lengths → lengths_in (payload_of format (Group lengths bytes)) ≡ lengths
lengths_in-group format lengths bytes lt each =
    let rest : drop 4 (payload_of format (Group lengths bytes)) ≡ flat_map (to_le_bytes w32) lengths ++ bytes
    = drop_at (to_le_bytes w32 (length lengths)) (flat_map (to_le_bytes w32) lengths ++ bytes) 4 refl in
    ap (λ n. numbers_in n (drop 4 (payload_of format (Group lengths bytes)))) (count_in-group format lengths bytes lt)
    ∙ ap (numbers_in (length lengths)) rest
    ∙ numbers_in-written lengths bytes each

homes_in-group : (format : Format) (lengths bytes : List ℕ) → length lengths < 2 ^ 32 → homes_in (payload_of format (Group lengths bytes)) ≡ bytes
homes_in-group format lengths bytes lt =
    let payload : List ℕ = payload_of format (Group lengths bytes) in
    let rest : drop 4 payload ≡ flat_map (to_le_bytes w32) lengths ++ bytes = drop_at (to_le_bytes w32 (length lengths)) (flat_map (to_le_bytes w32) lengths ++ bytes) 4 refl in
    ap (λ n. drop (4 + n * 4) payload) (count_in-group format lengths bytes lt) ∙ sym (drop-drop (length lengths * 4) 4 payload) ∙ ap (drop (length lengths * 4)) rest
    ∙ drop_at (flat_map (to_le_bytes w32) lengths) bytes (length lengths * 4) (length-numbers_text lengths)

few_lengths : (shape : Shape) (lengths bytes : List ℕ) → IsFrame shape (Group lengths bytes) → length lengths < 2 ^ 32
few_lengths shape lengths bytes whole =
    let l = length-group_payload shape.format lengths bytes in
    let s = whole.small in
    let limit = limit_small shape.format in
    omega arith

-- a Change as it is written
record IsChangeText (shape : Shape) (runs : List Run) (bytes : List ℕ) : Type 0 where
  counted : run_count_in shape.format (payload_of shape.format (Change runs bytes)) ≡ length runs
  runs_are : runs_in shape (payload_of shape.format (Change runs bytes)) ≡ runs
  new_is : new_in shape.format (payload_of shape.format (Change runs bytes)) ≡ bytes

run_count_written : (format : Format) (runs : List Run) (rest : List ℕ)
    → HasRuns format runs → length runs < 2 ^ 32
    → number_at format 1 (number_text format (length runs) ++ rest) 0 ≡ length runs
run_count_written One runs rest has lt = sym has
run_count_written Two runs rest has lt = u32_at_first (length runs) rest lt

-- in version 1 the one run fills what its start leaves
filled_one : (width : ℕ) (runs : List Run) (n : ℕ) → 0 < width → length runs ≡ 1 → n ≡ records_of_runs runs * width → AllByRecursion (λ run. run.count ≡ n / width) runs
filled_one width [] n wide one filled = tt
filled_one width (run ∷ []) n wide one filled =
    let alone : records_of_runs (run ∷ []) ≡ 0 + run.count = refl in
    let count : records_of_runs (run ∷ []) ≡ run.count = omega arith in
    (sym (ap (λ k. k / width) (filled ∙ ap (λ k. k * width) count) ∙ mul-div_cancel run.count wide), tt)
filled_one width (run ∷ other ∷ runs) n wide one filled = absurd (omega arith)

are_given_in : (format : Format) (width : ℕ) (runs : List Run) (bytes : List ℕ)
    → 0 < width → HasRuns format runs → length bytes ≡ records_of_runs runs * width
    → AreGiven format ((length (payload_of format (Change runs bytes)) - 8) / width) runs
are_given_in One width runs bytes wide has filled =
    let len = length-change_payload One runs bytes in
    let left : length (payload_of One (Change runs bytes)) - 8 ≡ length bytes = omega arith in
    filled_one width runs (length (payload_of One (Change runs bytes)) - 8) wide has (left ∙ filled)
are_given_in Two width runs bytes wide has filled = tt

few_runs : (shape : Shape) (runs : List Run) (bytes : List ℕ) → IsFrame shape (Change runs bytes) → length runs < 2 ^ 32
few_runs shape runs bytes whole =
    let l = length-change_payload shape.format runs bytes in
    let s = whole.small in
    let limit = limit_small shape.format in
    omega arith

change_text : (shape : Shape) (runs : List Run) (bytes : List ℕ) → IsFrame shape (Change runs bytes) → IsChangeText shape runs bytes
change_text shape runs bytes whole =
    let format : Format = shape.format in
    let payload : List ℕ = payload_of format (Change runs bytes) in
    let number : List ℕ = number_text format (length runs) in
    let texts : List ℕ = flat_map (run_text format) runs in
    let split : payload ≡ number ++ (texts ++ bytes) = append_assoc number texts bytes in
    let counted : run_count_in format payload ≡ length runs
    = ap (λ (bs : List ℕ). number_at format 1 bs 0) split
    ∙ run_count_written format runs (texts ++ bytes) whole.layout.0 (few_runs shape runs bytes whole) in
    let left : drop (number_len format) payload ≡ texts ++ bytes
    = ap (drop (number_len format)) split
    ∙ drop_at number (texts ++ bytes) (number_len format) (length-number_text format (length runs)) in
    let filling : ℕ = (length payload - 8) / shape.width in
    record {
      counted = counted;
      runs_are = ap (λ n. runs_from format filling n (drop (number_len format) payload)) counted ∙ ap (runs_from format filling (length runs)) left
          ∙ runs_from-written format filling runs bytes whole.layout.1 (are_given_in format shape.width runs bytes whole.wide whole.layout.0 whole.layout.2);
      new_is = ap (λ n. drop (runs_len format n) payload) counted ∙ drop_at (runs_text format runs) bytes (runs_len format (length runs)) (length-runs_text format runs);
    }

pub frame_in-payload_of : (shape : Shape) (frame : Frame) → IsFrame shape frame → frame_in shape (kind_of frame) (payload_of shape.format frame) ≡ frame
frame_in-payload_of shape (Group lengths bytes) whole =
    let lt = few_lengths shape lengths bytes whole in
    ap (λ (ls : List ℕ). Group ls (homes_in (payload_of shape.format (Group lengths bytes)))) (lengths_in-group shape.format lengths bytes lt whole.layout.1)
    ∙ ap (Group lengths) (homes_in-group shape.format lengths bytes lt)
frame_in-payload_of shape (Change runs bytes) whole =
    let t = change_text shape runs bytes whole in
    ap (λ (rs : List Run). Change rs (new_in shape.format (payload_of shape.format (Change runs bytes)))) t.runs_are ∙ ap (Change runs) t.new_is
frame_in-payload_of shape (Shrink n) whole = ap Shrink (ap (λ (bs : List ℕ). u64_at bs 0) (sym (append-nil (to_le_bytes w64 n))) ∙ u64_at_first n [] whole.layout)
frame_in-payload_of shape (Fold count) whole = ap Fold (ap (λ (bs : List ℕ). u64_at bs 0) (sym (append-nil (to_le_bytes w64 count))) ∙ u64_at_first count [] whole.layout)

pub is_layout-payload_of : (shape : Shape) (frame : Frame) → IsFrame shape frame → is_layout shape (kind_of frame) (payload_of shape.format frame) ≡ true
is_layout-payload_of shape (Group lengths bytes) whole =
    let lt = few_lengths shape lengths bytes whole in
    let payload : List ℕ = payload_of shape.format (Group lengths bytes) in
    let len = length-group_payload shape.format lengths bytes in
    let count = count_in-group shape.format lengths bytes lt in
    let some = whole.layout.0 in
    let in_order = lengths_in-group shape.format lengths bytes lt whole.layout.1 in
    group_from_parts shape.width payload (record {
      counted = omega arith;
      some = omega arith;
      inside = omega arith;
      positive = ap (list_all (nat_lt 0)) in_order ∙ positive_lengths lengths whole.layout.1;
      filled = ap length (homes_in-group shape.format lengths bytes lt) ∙ whole.layout.2 ∙ ap (λ (ls : List ℕ). sum ls * shape.width) (sym in_order);
    })
is_layout-payload_of shape (Change runs bytes) whole =
    let t = change_text shape runs bytes whole in
    let len = length-change_payload shape.format runs bytes in
    let counted = t.counted in
    let some = some_runs shape.format runs whole.layout.0 in
    let head : runs_len shape.format (run_count_in shape.format (payload_of shape.format (Change runs bytes))) ≡ runs_len shape.format (length runs) = ap (runs_len shape.format) counted in
    change_from_parts shape (payload_of shape.format (Change runs bytes)) (record {
      counted = omega arith;
      some = omega arith;
      inside = omega arith;
      positive = ap (list_all (λ run. nat_lt 0 run.count)) t.runs_are ∙ positive_runs runs whole.layout.1;
      filled = ap length t.new_is ∙ whole.layout.2 ∙ ap (λ (rs : List Run). records_of_runs rs * shape.width) (sym t.runs_are);
    })
  where
    some_runs : (format : Format) (runs : List Run) → HasRuns format runs → 0 < length runs
    some_runs One runs has = omega arith
    some_runs Two runs has = has
is_layout-payload_of shape (Shrink n) whole = refl
is_layout-payload_of shape (Fold count) whole = refl

-- ---- the fields of a frame in the bytes that it begins

pub payload_len_in-frame_text : (format : Format) (frame : Frame) (rest : List ℕ)
    → length (payload_of format frame) < 2 ^ 32
    → payload_len_in (frame_text format frame ++ rest) ≡ length (payload_of format frame)
payload_len_in-frame_text format frame rest small =
    let n : ℕ = length (payload_of format frame) in
    let at : drop 2 (frame_text format frame ++ rest) ≡ to_le_bytes w32 n ++ (payload_of format frame ++ rest) = append_assoc (to_le_bytes w32 n) (payload_of format frame) rest in
    sym (u32_at-drop (frame_text format frame ++ rest) 2 0) ∙ ap (λ (bs : List ℕ). u32_at bs 0) at ∙ u32_at_first n (payload_of format frame ++ rest) small

pub payload_in-frame_text : (format : Format) (frame : Frame) (rest : List ℕ)
    → length (payload_of format frame) < 2 ^ 32
    → payload_in (frame_text format frame ++ rest) ≡ payload_of format frame
payload_in-frame_text format frame rest small =
    ap (λ n. take n (drop 6 (frame_text format frame ++ rest))) (payload_len_in-frame_text format frame rest small) ∙ take_at (payload_of format frame) rest (length (payload_of format frame)) refl

pub length-frame_text : (format : Format) (frame : Frame) → length (frame_text format frame) ≡ 6 + length (payload_of format frame)
length-frame_text format frame = length-append (1 ∷ kind_of frame ∷ to_le_bytes w32 (length (payload_of format frame))) (payload_of format frame)

pub small_payload : (shape : Shape) (frame : Frame) → IsFrame shape frame → length (payload_of shape.format frame) < 2 ^ 32
small_payload shape frame whole = let s = whole.small in let limit = limit_small shape.format in omega arith

-- the frame that begins the bytes is no other
pub frame_in-frame_text : (shape : Shape) (frame : Frame) (rest : List ℕ)
    → IsFrame shape frame
    → frame_in shape (kind_in (frame_text shape.format frame ++ rest)) (payload_in (frame_text shape.format frame ++ rest)) ≡ frame
frame_in-frame_text shape frame rest whole =
    ap (frame_in shape (kind_of frame)) (payload_in-frame_text shape.format frame rest (small_payload shape frame whole))
    ∙ frame_in-payload_of shape frame whole

-- ---- what a reader of a payload finds

pub not_true : (b : Bool) → (b ≡ true → ⊥) → b ≡ false
not_true true h = absurd (h refl)
not_true false h = refl

pub no_group : (width : ℕ) (payload : List ℕ) → (GroupParts width payload → ⊥) → is_group_layout width payload ≡ false
no_group width payload h = not_true (is_group_layout width payload) (λ test. h (parts_of_group width payload test))

pub length-homes_in : (payload : List ℕ) (n : ℕ) → n ≡ count_in payload → length (homes_in payload) ≡ length payload - (4 + n * 4)
length-homes_in payload n is = length-drop (4 + count_in payload * 4) payload ∙ ap (λ k. length payload - (4 + k * 4)) (sym is)

-- the records don't fill their part
pub no_group_unfilled : (width : ℕ) (payload : List ℕ) (growths records : ℕ)
    → growths ≡ count_in payload → records ≡ sum (lengths_in payload)
    → (records * width ≡ length payload - (4 + growths * 4) → ⊥)
    → is_group_layout width payload ≡ false
no_group_unfilled width payload growths records g r apart =
    no_group width payload (λ p. apart (ap (λ n. n * width) r ∙ sym p.filled ∙ length-homes_in payload growths g))

pub is_group : (width : ℕ) (payload : List ℕ) (growths records : ℕ)
    → growths ≡ count_in payload → records ≡ sum (lengths_in payload) → 0 < growths → 4 + growths * 4 ≤ length payload
    → list_all (nat_lt 0) (lengths_in payload) ≡ true
    → records * width ≡ length payload - (4 + growths * 4) → is_group_layout width payload ≡ true
is_group width payload growths records g r some inside positive filled =
    group_from_parts width payload (record {
      counted = omega arith;
      some = omega arith;
      inside = omega arith;
      positive = positive;
      filled = length-homes_in payload growths g ∙ sym filled ∙ ap (λ n. n * width) r;
    })

pub no_change : (shape : Shape) (payload : List ℕ) → (ChangeParts shape payload → ⊥) → is_change_layout shape payload ≡ false
no_change shape payload h = not_true (is_change_layout shape payload) (λ test. h (parts_of_change shape payload test))

pub length-new_in : (format : Format) (payload : List ℕ) (n : ℕ) → n ≡ run_count_in format payload → length (new_in format payload) ≡ length payload - runs_len format n
length-new_in format payload n is = length-drop (runs_len format (run_count_in format payload)) payload ∙ ap (λ k. length payload - runs_len format k) (sym is)

pub no_change_unfilled : (shape : Shape) (payload : List ℕ) (runs records : ℕ)
    → runs ≡ run_count_in shape.format payload → records ≡ records_of_runs (runs_in shape payload)
    → (records * shape.width ≡ length payload - runs_len shape.format runs → ⊥)
    → is_change_layout shape payload ≡ false
no_change_unfilled shape payload runs records n r apart =
    no_change shape payload (λ p. apart (ap (λ k. k * shape.width) r ∙ sym p.filled ∙ length-new_in shape.format payload runs n))

pub is_change : (shape : Shape) (payload : List ℕ) (runs records : ℕ)
    → runs ≡ run_count_in shape.format payload → records ≡ records_of_runs (runs_in shape payload) → 0 < runs
    → number_len shape.format ≤ length payload
    → runs_len shape.format runs ≤ length payload
    → list_all (λ run. nat_lt 0 run.count) (runs_in shape payload) ≡ true → records * shape.width ≡ length payload - runs_len shape.format runs → is_change_layout shape payload ≡ true
is_change shape payload runs records n r some counted inside positive filled =
    change_from_parts shape payload (record {
      counted = counted;
      some = omega arith;
      inside = subst (λ k. runs_len shape.format k ≤ length payload) n inside;
      positive = positive;
      filled = length-new_in shape.format payload runs n ∙ sym filled ∙ ap (λ k. k * shape.width) r;
    })
