use Rattle.std.proofs.Common.{◌≡◌, ◌+◌, ◌-◌, ◌≤◌, [], ◌∷◌, ◌++◌, List, ℕ, length, take, drop, refl, ap, subst, sym, ◌∙◌, arith}
use Rattle.std.proofs.lemmas.List.{get_or_default}
use Rattle.segment_core.specs.Fault.{payload_len_in}
use Rattle.beside_core.specs.Look.{LookedOn}
use Rattle.beside_core.proofs.Ahead.{Ahead, ahead_nothing, ahead_more, head_seen, sound_ahead, looked_ahead, head_ahead, turn_ahead, faulty_ahead}
use Rattle.beside_core.proofs.Taken.{read_of}
use Rattle.beside_core.proofs.look.look.Goals as goal

pub frames-init : goal.frames-init
frames-init g c = record {
  same = refl;
  time = omega arith;
  settles_none = refl;
  model = λ kept. kept;
  gate_is = omega arith;
  inside = omega arith;
  short = omega (arith, ap length c.new-text.ensures.items);
  ahead = λ kept. subst (Ahead c.args.shape (g.S.Shared.held c.args.file.now) (g.S.Shared.now c.args.file.now) (g.S.Shared.now c.args.file.now) c.args.at 0) (sym c.new-text.ensures.items)
      (ahead_nothing c.args.shape (g.S.Shared.held c.args.file.now) (g.S.Shared.now c.args.file.now) c.args.at);
}

pub returns-in-Ok-clause-looked : goal.returns-in-Ok-clause-looked
returns-in-Ok-clause-looked g c = λ kept frames known file at more.
    let i = c.frames.invariant in
    let e = c.in_ok-take_beyond.ensures in
    let held = g.S.Shared.held c.args.file.now in
    let begun = g.S.Shared.now c.args.file.now in
    let s = g.S.Shared.now c.frames.file in
    let now = g.S.Shared.now c.take_beyond.new.file in
    let old : List ℕ = c.frames.text.items in
    let text : List ℕ = c.take_beyond.new.text.items in
    let model : Type 0 = g.S.Shared.keeps c.take_beyond.new.file in
    let read = read_of model (g.S.Shared.held c.frames.file) held s now (c.args.at + length old) old text i.same e.taken in
    let ahead = ahead_more c.args.shape held begun s c.args.at c.frames.walked old (i.ahead (e.model kept)) model now text kept e.time read in
    subst (λ (bs : List ℕ). LookedOn c.args.shape frames known begun now c.frames.gate bs) (sym (c.in-Ok.ensures.items ∙ ap (λ (bs : List ℕ). bs ++ 0 ∷ []) c.truncate.ensures.items))
    (subst (λ p. LookedOn c.args.shape frames known begun now p (take c.frames.walked text ++ 0 ∷ [])) i.gate_is
    (looked_ahead c.args.shape held begun now c.args.at c.frames.walked text ahead frames known file at more e.some
    (λ is. c.if-index-ne-OPEN_GATE.true (c.index.ensures ∙ get_or_default text c.frames.walked c.index.result.now 0 e.some ∙ is))))

pub returns-in-Err-payload_len-clause-looked : goal.returns-in-Err-payload_len-clause-looked
returns-in-Err-payload_len-clause-looked g c = λ kept frames known file at more.
    let i = c.frames.invariant in
    let e = c.in_ok-take_beyond.ensures in
    let f = c.in_ok-take_to.ensures in
    let head = head_ahead c.args.shape (g.S.Shared.held c.args.file.now) (g.S.Shared.now c.args.file.now) c.args.at c.frames.walked (g.S.Shared.keeps c.take_beyond.new.file) (g.S.Shared.keeps c.take_to.new.file)
    (g.S.Shared.held c.frames.file) (g.S.Shared.held c.take_beyond.new.file) (g.S.Shared.now c.frames.file) (g.S.Shared.now c.take_beyond.new.file) (g.S.Shared.now c.take_to.new.file)
    c.frames.text.items c.take_beyond.new.text.items c.take_to.new.text.items (i.ahead (e.model (f.model kept))) i.same (e.same ∙ i.same) e.time f.time (f.model kept) kept e.taken e.some
    (sym (c.index.ensures ∙ get_or_default c.take_beyond.new.text.items c.frames.walked c.index.result.now 0 e.some) ∙ c.if-index-ne-OPEN_GATE.false) f.taken (omega (arith, f.long)) in
    sound_ahead c.args.shape (g.S.Shared.held c.args.file.now) (g.S.Shared.now c.args.file.now) (g.S.Shared.now c.take_to.new.file) c.args.at c.frames.walked c.take_to.new.text.items head.ahead frames known file at more (omega (arith, head.long)) head.opened
    head.long c.in-Err-payload_len.fault
    (faulty_ahead c.args.shape (g.S.Shared.held c.args.file.now) (g.S.Shared.now c.args.file.now) c.args.at c.frames.walked c.frames.gate c.deref.result.now c.take_to.new.text.items c.in-Err-payload_len.fault i.gate_is c.deref.ensures.value
    c.in-Err-payload_len.ensures.faulty)

pub returns-in-Err-payload_len-clause-seen : goal.returns-in-Err-payload_len-clause-seen
returns-in-Err-payload_len-clause-seen g c = λ kept.
    let i = c.frames.invariant in
    let e = c.in_ok-take_beyond.ensures in
    let f = c.in_ok-take_to.ensures in
    let head = head_ahead c.args.shape (g.S.Shared.held c.args.file.now) (g.S.Shared.now c.args.file.now) c.args.at c.frames.walked (g.S.Shared.keeps c.take_beyond.new.file) (g.S.Shared.keeps c.take_to.new.file)
    (g.S.Shared.held c.frames.file) (g.S.Shared.held c.take_beyond.new.file) (g.S.Shared.now c.frames.file) (g.S.Shared.now c.take_beyond.new.file) (g.S.Shared.now c.take_to.new.file)
    c.frames.text.items c.take_beyond.new.text.items c.take_to.new.text.items (i.ahead (e.model (f.model kept))) i.same (e.same ∙ i.same) e.time f.time (f.model kept) kept e.taken e.some
    (sym (c.index.ensures ∙ get_or_default c.take_beyond.new.text.items c.frames.walked c.index.result.now 0 e.some) ∙ c.if-index-ne-OPEN_GATE.false) f.taken (omega (arith, f.long)) in (
      c.args.at + c.frames.walked,
      head_seen c.args.shape (g.S.Shared.held c.args.file.now) (g.S.Shared.now c.args.file.now) (g.S.Shared.now c.take_to.new.file) c.args.at c.frames.walked c.take_to.new.text.items head.ahead head.long c.in-Err-payload_len.fault
          (faulty_ahead c.args.shape (g.S.Shared.held c.args.file.now) (g.S.Shared.now c.args.file.now) c.args.at c.frames.walked c.frames.gate c.deref.result.now c.take_to.new.text.items c.in-Err-payload_len.fault i.gate_is c.deref.ensures.value
          c.in-Err-payload_len.ensures.faulty),
    )

pub frames-preserved : goal.frames-preserved
frames-preserved g c =
    let i = c.frames.invariant in
    let e = c.in_ok-take_beyond.ensures in
    let f = c.in_ok-take_to.ensures in
    let l = c.in_ok-take_to-2.ensures in
    let len : ℕ = c.in-Ok-payload_len.len in
    let text : List ℕ = c.take_to.new.text.items in
    let six : c.frames.walked + 6 - c.frames.walked ≡ 6 = omega arith in
    let told : len ≡ payload_len_in (take 6 (drop c.frames.walked text))
    = c.in-Ok-payload_len.ensures.is ∙ ap (λ n. payload_len_in (take n (drop c.frames.walked c.deref.result.now))) six
    ∙ ap (λ (bs : List ℕ). payload_len_in (take 6 (drop c.frames.walked bs))) c.deref.ensures.value in
    let inside : c.frames.walked + (6 + len) ≤ length c.take_to-in-frames.new.text.items = omega (arith, l.long) in
    record {
      same = l.same ∙ f.same ∙ e.same ∙ i.same;
      time = omega (arith, i.time, e.time, f.time, l.time);
      settles_none = l.settles_none ∙ f.settles_none ∙ e.settles_none ∙ i.settles_none;
      model = λ kept. i.model (e.model (f.model (l.model kept)));
      gate_is = omega (arith, i.gate_is);
      inside = inside;
      short = omega (arith, i.short, i.inside, e.short, f.long, l.long);
      ahead = λ kept.
          let head = head_ahead c.args.shape (g.S.Shared.held c.args.file.now) (g.S.Shared.now c.args.file.now) c.args.at c.frames.walked (g.S.Shared.keeps c.take_beyond.new.file) (g.S.Shared.keeps c.take_to.new.file)
          (g.S.Shared.held c.frames.file) (g.S.Shared.held c.take_beyond.new.file) (g.S.Shared.now c.frames.file) (g.S.Shared.now c.take_beyond.new.file) (g.S.Shared.now c.take_to.new.file)
          c.frames.text.items c.take_beyond.new.text.items c.take_to.new.text.items (i.ahead (e.model (f.model (l.model kept)))) i.same (e.same ∙ i.same) e.time f.time (f.model (l.model kept)) (l.model kept) e.taken e.some
          (sym (c.index.ensures ∙ get_or_default c.take_beyond.new.text.items c.frames.walked c.index.result.now 0 e.some) ∙ c.if-index-ne-OPEN_GATE.false) f.taken (omega (arith, f.long)) in
          turn_ahead c.args.shape (g.S.Shared.held c.args.file.now) (g.S.Shared.now c.args.file.now) c.args.at c.frames.walked (g.S.Shared.keeps c.take_to-in-frames.new.file) (g.S.Shared.held c.take_to.new.file)
          (g.S.Shared.now c.take_to.new.file) (g.S.Shared.now c.take_to-in-frames.new.file) len text c.take_to-in-frames.new.text.items head (f.same ∙ e.same ∙ i.same) l.time kept l.taken told inside;
    }
