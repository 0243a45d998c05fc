-- A change as it is written: its runs one by one, and its frame.
use Rattle.std.proofs.Common.{◌≡◌, ℕ, ◌+◌, ◌*◌, ◌<◌, ◌≤◌, cond, Result, Ok, Err, OnOk, List, [], ◌∷◌, ◌++◌, length, take, get_or, zero, suc, sym, ap, ◌∙◌, append_assoc, arith}
use Rattle.std.specs.List.{flat_map}
use Rattle.std.specs.Prelude.{is_ok}
use Rattle.std.specs.Int.{w32, to_le_bytes}
use Rattle.std.proofs.lemmas.List.{length-append, length-map, length-take-le, map_more, flat_map_more}
use Rattle.record_core.specs.Bytes.{Encoding}
use Rattle.record_core.proofs.Cells.{length-flat_map_bytes}
use Rattle.segment_core.specs.declared.format.Format.{Format}
use Rattle.segment_core.specs.Shape.{shape_of}
use Rattle.segment_core.specs.Frame.{Run, number_text, number_len, run_text, runs_text, runs_len, records_of_runs, payload_of, frame_text}
use Rattle.segment_core.specs.Written.{joined}
use Rattle.segment_core.specs.Runs.{runs_given, change_len, change_frame}
use Rattle.segment_core.proofs.RunRows.{length-number_text, length-run_texts}
use Rattle.segment_core.proofs.FrameParts.{records_of_runs-cons}
use Rattle.segment_core.proofs.Payload.{length-change_payload}

-- ---- runs that are given

pub length-runs_given : (runs : List (ℕ × ℕ)) → length (runs_given runs) ≡ length runs
length-runs_given runs = length-map runs (λ run. record { start = run.0; count = run.1 })

-- a run has no more records than all of them
pub count_within : (runs : List (ℕ × ℕ)) (k : ℕ) (d : ℕ × ℕ) → k < length runs → (get_or runs k d).1 ≤ records_of_runs (runs_given runs)
count_within [] k d lt = absurd (omega arith)
count_within (run ∷ runs) zero d lt = omega (arith, records_of_runs-cons (record { start = run.0; count = run.1 }) (runs_given runs))
count_within (run ∷ runs) (suc k) d lt = let rest = count_within runs k d (omega arith) in omega (arith, records_of_runs-cons (record { start = run.0; count = run.1 }) (runs_given runs))

-- one run more
pub run_texts_more : (format : Format) (front : List ℕ) (runs : List (ℕ × ℕ)) (k : ℕ) (d : ℕ × ℕ) → k < length runs
    → (front ++ flat_map (run_text format) (runs_given (take k runs))) ++ run_text format (record { start = (get_or runs k d).0; count = (get_or runs k d).1 })
    ≡ front ++ flat_map (run_text format) (runs_given (take (k + 1) runs))
run_texts_more format front runs k d lt =
    flat_map_more (run_text format) front (runs_given (take k runs)) (record { start = (get_or runs k d).0; count = (get_or runs k d).1 })
    ∙ ap (λ (rs : List Run). front ++ flat_map (run_text format) rs) (sym (map_more (λ run. record { start = run.0; count = run.1 }) runs k d lt))

pub length-run_texts_so_far : (format : Format) (file : List ℕ) (n : ℕ) (runs : List (ℕ × ℕ)) (k : ℕ) → k ≤ length runs
    → length ((file ++ number_text format n) ++ flat_map (run_text format) (runs_given (take k runs))) ≡ length file + (number_len format + k * (8 + number_len format))
length-run_texts_so_far format file n runs k le =
    let texts : List ℕ = flat_map (run_text format) (runs_given (take k runs)) in
    let all = length-append (file ++ number_text format n) texts in
    let front = length-append file (number_text format n) in
    let number = length-number_text format n in
    let each = length-run_texts format (runs_given (take k runs)) ∙ ap (λ m. m * (8 + number_len format)) (length-runs_given (take k runs) ∙ length-take-le k runs le) in
    omega arith

-- ---- the frame

pub length-change_frame : {R : Type 0} (format : Format) (form : Encoding R) (runs : List Run)
    (pieces : List (List R))
    → ((r : R) → length (form.bytes_of r) ≡ form.width)
    → length (joined pieces) ≡ records_of_runs runs
    → length (payload_of format (change_frame form runs pieces)) ≡ change_len (shape_of format form) runs
length-change_frame format form runs pieces size_of filled =
    length-change_payload format runs (flat_map form.bytes_of (joined pieces))
    ∙ ap (λ n. runs_len format (length runs) + n) (length-flat_map_bytes form (joined pieces) size_of ∙ ap (λ n. n * form.width) filled)

regroup : (file head text bytes : List ℕ) → ((file ++ head) ++ text) ++ bytes ≡ file ++ (head ++ (text ++ bytes))
regroup file head text bytes = simp append_assoc

-- a frame that was appended piece by piece
pub change_appended : {R : Type 0} (format : Format) (form : Encoding R) (runs : List Run) (pieces : List (List R))
    (len : ℕ) (file headed written done : List ℕ)
    → ((r : R) → length (form.bytes_of r) ≡ form.width)
    → length (joined pieces) ≡ records_of_runs runs
    → len ≡ change_len (shape_of format form) runs
    → headed ≡ file ++ 1 ∷ 2 ∷ to_le_bytes w32 len → written ≡ headed ++ runs_text format runs
    → done ≡ written ++ flat_map form.bytes_of (joined pieces)
    → done ≡ file ++ frame_text format (change_frame form runs pieces)
change_appended format form runs pieces len file headed written done size_of filled is a b c =
    let bytes : List ℕ = flat_map form.bytes_of (joined pieces) in
    let text : List ℕ = runs_text format runs in
    let payload_is : len ≡ length (payload_of format (change_frame form runs pieces)) = is ∙ sym (length-change_frame format form runs pieces size_of filled) in
    c ∙ ap (λ (bs : List ℕ). bs ++ bytes) (b ∙ ap (λ (bs : List ℕ). bs ++ text) a)
    ∙ regroup file (1 ∷ 2 ∷ to_le_bytes w32 len) text bytes
    ∙ ap (λ n. file ++ ((1 ∷ 2 ∷ to_le_bytes w32 n) ++ (text ++ bytes))) payload_is

-- a frame whose payload is one number, behind its head
pub number_appended : {E : Type 0} (r : Result (Unit {0}) E) (file headed new head number : List ℕ) → headed ≡ file ++ head
    → new ≡ cond (is_ok r) (headed ++ number) headed → OnOk r (new ≡ file ++ (head ++ number))
number_appended (Ok done) file headed new head number first is =
    is ∙ ap (λ (bs : List ℕ). bs ++ number) first ∙ append_assoc file head number
number_appended (Err error) file headed new head number first is = tt
