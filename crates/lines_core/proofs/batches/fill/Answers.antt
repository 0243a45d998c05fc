use Rattle.std.proofs.Common.{◌≡◌, ◌<◌, ◌++◌, ℕ, Bool, true, false, List, [], Option, length, take, sym, ap, subst, ◌∙◌, append-nil, arith}
use Rattle.std.specs.Io.KnownBytes.{Consumes}
use Rattle.std.specs.Prelude.{is_ok, not, cond}
use Rattle.std.proofs.KnownBytes.{Consumes-nil, Consumes-trans}
use Rattle.std.proofs.lemmas.Grind.{common_steps}
use Rattle.text_core.specs.Refusals.{input_limit}
use Rattle.lines_core.specs.Batches.{ReadsOn}
use Rattle.lines_core.proofs.WholeBlocks.{filled_more, held_more}
use Rattle.lines_core.proofs.batches.fill.Goals as goal

none_more : (known mid new : Option (List ℕ)) (held holds part : List ℕ) → Consumes mid new part → part ≡ [] → ReadsOn known mid held holds → ReadsOn known new held holds
none_more known mid new held holds part takes none so = record {
  fresh = so.fresh ++ part;
  consumed = Consumes-trans known mid new so.fresh part so.consumed takes;
  behind = so.behind ∙ ap (λ l. held ++ l) (sym (ap (λ l. so.fresh ++ l) none ∙ append-nil so.fresh));
}

not_put : (known left : Option (List ℕ)) (held holds part after : List ℕ) (ok : Bool) → after ≡ cond ok (holds ++ part) holds → ok ≡ false → ReadsOn known left held holds
    → ReadsOn known left held after
not_put known left held holds part after ok is failed so = subst (ReadsOn known left held) (sym (is ∙ ap (λ b. cond b (holds ++ part) holds) failed)) so

pub loop-init : goal.loop-init
loop-init g c = record {
  so_far = record {
    fresh = [];
    consumed = Consumes-nil (g.I.Read.remaining c.args.reader.now);
    behind = sym (append-nil c.args.buffer.now.items);
  };
  progress = omega arith;
}

pub returns-in_default : goal.returns-in_default
returns-in_default g c = (g.I.Read.remaining c.loop.reader, c.loop.invariant.so_far, tt)

pub returns-then-n-eq0 : goal.returns-then-n-eq0
returns-then-n-eq0 g c = (
  none_more (g.I.Read.remaining c.args.reader.now) (g.I.Read.remaining c.loop.reader) (g.I.Read.remaining c.read.new.self) c.args.buffer.now.items c.loop.buffer.items
      (take c.in-Ok.n c.read.new.buf) c.in-Ok.ensures.bytes.0 (ap (λ n. take n c.read.new.buf) c.if-n-eq0.true) c.loop.invariant.so_far,
  c.in-Ok.ensures.bytes.1 c.if-n-eq0.true (omega (arith, c.read.auto.buf)),
)

pub returns-then-is_err : goal.returns-then-is_err
returns-then-is_err g c =
    let failed : is_ok c.extend_from_slice.result ≡ false = c.is_err.ensures.negation ∙ ap not c.if-is_err.true in (
      g.I.Read.remaining c.loop.reader,
      not_put (g.I.Read.remaining c.args.reader.now) (g.I.Read.remaining c.loop.reader) c.args.buffer.now.items c.loop.buffer.items (take c.in-Ok.n c.read.new.buf)
          c.extend_from_slice.new.self.items (is_ok c.extend_from_slice.result) (grind (arith, common_steps)) failed c.loop.invariant.so_far,
      tt,
    )

pub returns-then-n-lt-PIECE_LEN : goal.returns-then-n-lt-PIECE_LEN
returns-then-n-lt-PIECE_LEN g c =
    let done : is_ok c.extend_from_slice.result ≡ true = c.is_err.ensures.negation ∙ ap not c.if-is_err.false in
    held_more (g.I.Read.remaining c.args.reader.now) (g.I.Read.remaining c.loop.reader) (g.I.Read.remaining c.read.new.self) c.args.buffer.now.items c.loop.buffer.items
    (take c.in-Ok.n c.read.new.buf) c.extend_from_slice.new.self.items (is_ok c.extend_from_slice.result) c.in-Ok.ensures.bytes.0 (grind (arith, common_steps)) done c.loop.invariant.so_far

pub returns-then-len-gt-INPUT_LIMIT : goal.returns-then-len-gt-INPUT_LIMIT
returns-then-len-gt-INPUT_LIMIT g c =
    let done : is_ok c.extend_from_slice.result ≡ true = c.is_err.ensures.negation ∙ ap not c.if-is_err.false in
    let long : input_limit < length c.extend_from_slice.new.self.items = omega arith in (
      g.I.Read.remaining c.read.new.self,
      held_more (g.I.Read.remaining c.args.reader.now) (g.I.Read.remaining c.loop.reader) (g.I.Read.remaining c.read.new.self) c.args.buffer.now.items c.loop.buffer.items
          (take c.in-Ok.n c.read.new.buf) c.extend_from_slice.new.self.items (is_ok c.extend_from_slice.result) c.in-Ok.ensures.bytes.0 (grind (arith, common_steps)) done c.loop.invariant.so_far,
      long,
    )

pub loop-preserved : goal.loop-preserved
loop-preserved g c =
    let done : is_ok c.extend_from_slice.result ≡ true = c.is_err.ensures.negation ∙ ap not c.if-is_err.false in
    filled_more (g.I.Read.remaining c.args.reader.now) (g.I.Read.remaining c.loop.reader) (g.I.Read.remaining c.read.new.self) c.args.buffer.now.items c.loop.buffer.items
    (take c.in-Ok.n c.read.new.buf) c.extend_from_slice.new.self.items (is_ok c.extend_from_slice.result) c.in-Ok.ensures.bytes.0 (grind (arith, common_steps)) done
    c.in-Ok.n c.loop.counter (sym c.in-Ok.ensures.bound.1) c.if-n-eq0.false c.loop.invariant

pub returns : goal.returns
returns g c = (g.I.Read.remaining c.loop.reader, c.loop.invariant.so_far, omega (arith, c.loop.invariant.progress))
