use Rattle.std.proofs.Common.{◌≡◌, ◌≤◌, ◌<◌, ◌-◌, ◌+◌, ◌↔◌, ◌∷◌, ◌∙◌, [], ℕ, List, IsTrue, true, false, length, take, inl, inr, subst, ap, sym, zero-add, arith}
use Rattle.std.proofs.lemmas.List.{take_all, length-take-le}
use Rattle.std.specs.List.{slice_range}
use Rattle.std.specs.Prelude.{Option, Some, None}
use Rattle.disk_core.specs.Calls.{bytes_of}
use Rattle.segment_core.specs.declared.format.Format.{Format}
use Rattle.pen_core.proofs.Births.{stays_only, stays_twice}
use Rattle.files_core.specs.Vacant.{IsVacantFor}
use Rattle.files_core.proofs.vacant.is_vacant.Goals as goal

-- the first so many bytes were read, which are all
whole : (len : ℕ) (zeros there read : List ℕ) → len ≤ length zeros → len ≡ length there → read ≡ slice_range there 0 (0 + length (take len zeros))
    → read ≡ there
whole len zeros there read fits long value =
    let counts : 0 + length (take len zeros) ≡ length there = zero-add (length (take len zeros)) ∙ length-take-le len zeros fits ∙ long in
    let all : slice_range there 0 (length there) ≡ there = take_all (length there - 0) there (omega arith) in
    value ∙ ap (λ n. slice_range there 0 n) counts ∙ all

-- more bytes than an empty file has are none of a creation
too_long : (format : Option Format) (width : ℕ) (bytes : List ℕ) → 12 < length bytes → IsVacantFor format width bytes → ⊥
too_long (Some format) width bytes long vacant = let short = vacant.short in omega (arith, long, short)
too_long None width bytes long (inl vacant) = let short = vacant.short in omega (arith, long, short)
too_long None width bytes long (inr vacant) = let short = vacant.short in omega (arith, long, short)

pub returns-then-len-clause-vacant : goal.returns-then-len-clause-vacant
returns-then-len-clause-vacant g c = λ model.
    let old : List ℕ = bytes_of (g.D.Disk.states c.args.disk.now) in
    let long : c.in_ok-len.len ≡ length old = c.in_ok-len.ensures.value model in
    (λ none. (let clash : false ≡ true = none in absurd cc), λ vacant. absurd (too_long c.args.format g.R.Record.form.width old (subst (λ n. 12 < n) long c.if-len.true) vacant))

pub returns-in_err-len-clause-images : goal.returns-in_err-len-clause-images
returns-in_err-len-clause-images g c = λ model.
    stays_only (g.D.Disk.states c.args.disk.now) (g.D.Disk.states c.len.new.self) (c.len.ensures.same (c.len.ensures.model model))

pub returns-then-len-clause-images : goal.returns-then-len-clause-images
returns-then-len-clause-images g c = λ model.
    stays_only (g.D.Disk.states c.args.disk.now) (g.D.Disk.states c.len.new.self) (c.len.ensures.same (c.len.ensures.model model))

pub returns-in_err-read_at-clause-images : goal.returns-in_err-read_at-clause-images
returns-in_err-read_at-clause-images g c = λ model.
    let before = c.read_at.ensures.model model in
    stays_twice (g.D.Disk.states c.args.disk.now) (g.D.Disk.states c.len.new.self) (g.D.Disk.states c.read_at.new.self)
    (c.len.ensures.same (c.len.ensures.model before)) (c.read_at.ensures.same before)

pub returns-clause-vacant : goal.returns-clause-vacant
returns-clause-vacant g c = λ model.
    let before = c.read_at.ensures.model model in
    let old : List ℕ = bytes_of (g.D.Disk.states c.args.disk.now) in
    let there : List ℕ = bytes_of (g.D.Disk.states c.len.new.self) in
    let same : there ≡ old = ap bytes_of (c.len.ensures.same (c.len.ensures.model before)) in
    let long : c.in_ok-len.len ≡ length old = c.in_ok-len.ensures.value before in
    let short : c.in_ok-len.len ≤ 12 = c.if-len.false in
    let read : c.read_at.new.out ≡ there =
    whole c.in_ok-len.len (0 ∷ 0 ∷ 0 ∷ 0 ∷ 0 ∷ 0 ∷ 0 ∷ 0 ∷ 0 ∷ 0 ∷ 0 ∷ 0 ∷ []) there c.read_at.new.out short
    (long ∙ ap length (sym same)) (c.in_ok-read_at.ensures.value model) in
    subst (λ (w : ℕ). IsTrue c.is_front.result ↔ IsVacantFor c.args.format w old) c.width_of.ensures.is
    (subst (λ (bytes : List ℕ). IsTrue c.is_front.result ↔ IsVacantFor c.args.format c.width_of.result bytes) (read ∙ same) c.is_front.ensures)

pub returns-clause-images : goal.returns-clause-images
returns-clause-images g c = λ model.
    let before = c.read_at.ensures.model model in
    stays_twice (g.D.Disk.states c.args.disk.now) (g.D.Disk.states c.len.new.self) (g.D.Disk.states c.read_at.new.self)
    (c.len.ensures.same (c.len.ensures.model before)) (c.read_at.ensures.same before)
