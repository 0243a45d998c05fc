use Rattle.std.proofs.lemmas.Grind.{common_steps}
use Rattle.std.proofs.Common.{◌≡◌, ◌+◌, ◌-◌, ◌≤◌, true, List, [], ◌∷◌, ◌++◌, ℕ, length, take, drop, refl, sym, ap, subst, ◌∙◌, arith}
use Rattle.std.specs.Prelude.{◌==◌, vec_len}
use Rattle.std.proofs.lemmas.Bool.{eqb-true}
use Rattle.std.proofs.lemmas.List.{length-append, length-take-le}
use Rattle.std.proofs.lemmas.Result.{err_from_is_err_and}
use Rattle.segment_core.specs.Scanner.{IsOn}
use Rattle.segment_core.proofs.Fed.{on_open, on_ended, on_used, refused_part, next_part}
use Rattle.segment_core.proofs.scanner.Scanner.feed_frames.Goals as goal
use Rattle.segment_core.proofs.scanner.Scanner.feed_frames.Goals.{then-is_empty+in_ok-take, else-is_empty+in_ok-pend}

pub returns-in_default : goal.returns-in_default
returns-in_default g c = record {
  ok = λ image goes. on_ended g.R.Record.form image c.args.piece.now c.loop-used.used c.loop-used.self (c.loop-used.invariant.on image goes) (λ is. c.in_default.not-Open is);
  err = tt;
}

-- the image and the part that is fed next are no longer than the whole
fits : (image piece : List ℕ) (used n : ℕ) → used + n ≤ length piece → length (image ++ take used piece) + length (take (used + n - used) (drop used piece)) ≤ length image + length piece
fits image piece used n inside =
    let all = sym (length-append (image ++ take used piece) (take (used + n - used) (drop used piece))) ∙ ap length (next_part image piece used n) ∙ length-append image (take (used + n) piece) in
    let front = length-take-le (used + n) piece inside in
    omega arith

pub take-requires-clause-open : goal.take-requires-clause-open
take-requires-clause-open g c κs within =
    let image = c.requires.open.0 in
    let before = c.loop-used.invariant.on image c.requires.open.1 in
    let small = c.requires.open.2 in
    let min = c.min-n.ensures in
    let inside = c.loop-used.invariant.inside in
    let short = fits image c.args.piece.now c.loop-used.used c.min-n.result (omega arith) in
    (image ++ take c.loop-used.used c.args.piece.now, on_open g.R.Record.form (image ++ take c.loop-used.used c.args.piece.now) c.loop-used.self before c.in-Open.is, omega arith)

pub pend-requires-clause-open : goal.pend-requires-clause-open
pend-requires-clause-open g c κs within =
    let image = c.requires.open.0 in
    let before = c.loop-used.invariant.on image c.requires.open.1 in
    let small = c.requires.open.2 in
    let min = c.min-n.ensures in
    let inside = c.loop-used.invariant.inside in
    let short = fits image c.args.piece.now c.loop-used.used c.min-n.result (omega arith) in
    (image ++ take c.loop-used.used c.args.piece.now, on_open g.R.Record.form (image ++ take c.loop-used.used c.args.piece.now) c.loop-used.self before c.in-Open.is, omega arith)

pub returns-in_err-take-clause-err : goal.returns-in_err-take-clause-err
returns-in_err-take-clause-err g c =
    let p = err_from_is_err_and c.from_residual.result c.from_residual.ensures.1 in
    rw (p.1, p.2) (λ image goes. refused_part g.R.Record.form image c.args.piece.now c.loop-used.used c.min-n.result c.in_err-take.field-0.0
    (c.in_err-take.ensures.err (image ++ take c.loop-used.used c.args.piece.now)
    (on_open g.R.Record.form (image ++ take c.loop-used.used c.args.piece.now) c.loop-used.self (c.loop-used.invariant.on image goes) c.in-Open.is)))

pub returns-in_err-pend-clause-err : goal.returns-in_err-pend-clause-err
returns-in_err-pend-clause-err g c =
    let p = err_from_is_err_and c.from_residual-in_err-pend.result c.from_residual-in_err-pend.ensures.1 in
    rw (p.1, p.2) (λ image goes. refused_part g.R.Record.form image c.args.piece.now c.loop-used.used c.min-n.result c.in_err-pend.field-0.0
    (c.in_err-pend.ensures.err (image ++ take c.loop-used.used c.args.piece.now)
    (on_open g.R.Record.form (image ++ take c.loop-used.used c.args.piece.now) c.loop-used.self (c.loop-used.invariant.on image goes) c.in-Open.is)))

pub loop-used-preserved : goal.loop-used-preserved
loop-used-preserved g c =
    let min = c.min-n.ensures in
    let inside = c.loop-used.invariant.inside in
    let form = g.R.Record.form in
    record {
      inside = omega arith;
      on = λ image goes. (
          let front : List ℕ = image ++ take c.loop-used.used c.args.piece.now in
          let before = on_open form front c.loop-used.self (c.loop-used.invariant.on image goes) c.in-Open.is in
          subst (λ (bs : List ℕ). IsOn form bs c.if-is_empty.self) (next_part image c.args.piece.now c.loop-used.used c.min-n.result)
          (elim c.if-is_empty.branch [
            | then-is_empty+in_ok-take w ↦
                subst
                (IsOn form (front ++ take (c.loop-used.used + c.min-n.result - c.loop-used.used) (drop c.loop-used.used c.args.piece.now)))
                (sym w.self-is) (w.in_ok-take.ensures.ok front before)
            | else-is_empty+in_ok-pend w ↦
                subst
                (IsOn form (front ++ take (c.loop-used.used + c.min-n.result - c.loop-used.used) (drop c.loop-used.used c.args.piece.now)))
                (sym w.self-is) (w.in_ok-pend.ensures.ok front before)
          ]));
    }

pub returns-clause-ok : goal.returns-clause-ok
returns-clause-ok g c = λ image goes. on_used g.R.Record.form image c.args.piece.now c.loop-used.used c.loop-used.self (c.loop-used.invariant.on image goes) c.loop-used-test.false

no_bytes : (bytes : List ℕ) (n : ℕ) → n ≡ length bytes → (n == 0) ≡ true → bytes ≡ []
no_bytes [] n is none = refl
no_bytes (b ∷ bytes) n is none = let zero = eqb-true n 0 none in absurd (omega arith)

pub take-requires-clause-none : goal.take-requires-clause-none
take-requires-clause-none g c κs within =
    let pending = c.loop-used.self.pending in
    no_bytes pending.items (vec_len pending) pending.ok.0 (sym c.is_empty.ensures ∙ c.if-is_empty.true)

pub loop-used-init : goal.loop-used-init
loop-used-init g c = grind (arith, common_steps)
