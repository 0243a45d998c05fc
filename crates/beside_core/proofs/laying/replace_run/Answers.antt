use Rattle.std.proofs.Common.{rules, ◌≡◌, ◌+◌, ◌-◌, ◌*◌, ◌++◌, ℕ, List, min, length, take, drop, refl, ap, ◌∙◌, arith}
use Rattle.std.proofs.lemmas.Result.{err_from_is_err_and}
use Rattle.std.proofs.lemmas.List.{take_rest, length-drop}
use Rattle.std.proofs.Math.Nat.{min-le_left}
use Rattle.beside_core.proofs.Running.{fault_in_run, lies_inside, replaces_run}
use Rattle.beside_core.proofs.laying.replace_run.Goals as goal

pub returns-in_err-note-clause-bad : goal.returns-in_err-note-clause-bad
returns-in_err-note-clause-bad g c =
    let p = err_from_is_err_and c.from_residual.result c.from_residual.ensures.1 in
    let below_is : c.min-below.result ≡ min c.args.count (c.args.laid.now.base - c.args.start) = search rules in
    let le = min-le_left c.args.count (c.args.laid.now.base - c.args.start) in
    rw (p.1, p.2) (fault_in_run g.R.Record.form c.args.start c.min-below.result c.width_of-width.result c.args.count c.args.bytes.now c.in_err-note.field-0.0 c.width_of-width.ensures.is
    (omega (arith, below_is, le)) c.in_err-note.ensures.bad)

pub overwrite-requires : goal.overwrite-requires
overwrite-requires g c =
    let fits = c.requires.fits in
    let below_is : c.min-below.result ≡ min c.args.count (c.args.laid.now.base - c.args.start) = search rules in
    let s_is : c.saturating_sub-2.result ≡ c.args.start - c.args.laid.now.base = search rules in
    let cut : ℕ = c.min-below.result * c.width_of-width.result in
    let to = lies_inside g.R.Record.form c.args.start c.args.count c.min-below.result c.width_of-width.result fits.0 c.args.bytes.now c.args.laid.now c.width_of-width.ensures.is below_is
    fits.1 fits.3 c.requires.filled in
    let at = ap (λ n. n * c.width_of-width.result) s_is in
    omega (arith, to, at, ap length (take_rest c.args.bytes.now cut), length-drop cut c.args.bytes.now)

pub returns-clause-replaced : goal.returns-clause-replaced
returns-clause-replaced g c = λ size inside is_tail.
    let below_is : c.min-below.result ≡ min c.args.count (c.args.laid.now.base - c.args.start) = search rules in
    let s_is : c.saturating_sub-2.result ≡ c.args.start - c.args.laid.now.base = search rules in
    let w : ℕ = c.width_of-width.result in
    let cut : ℕ = c.min-below.result * w in
    let bytes : List ℕ = c.args.bytes.now in
    let tail : List ℕ = c.args.laid.now.tail.items in
    let s : ℕ = c.saturating_sub-2.result in
    replaces_run g.R.Record.form c.args.start c.args.count c.min-below.result w size c.args.bytes.now c.args.laid.now c.width_of-width.ensures.is below_is inside is_tail c.requires.filled
    (record { base = c.args.laid.now.base; edits = c.note.new.edits; tail = c.overwrite.new.tail }) refl c.in_ok-note.ensures.noted
    (c.overwrite.ensures ∙ ap (λ (bs : List ℕ). take (s * w) tail ++ bs ++ drop (s * w + length bs) tail) (take_rest bytes cut)
    ∙ ap (λ n. take (s * w) tail ++ drop cut bytes ++ drop (s * w + n) tail) (length-drop cut bytes)
    ∙ ap (λ n. take (n * w) tail ++ drop cut bytes ++ drop (n * w + (length bytes - cut)) tail) s_is)
