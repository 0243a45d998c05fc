use Rattle.std.proofs.Common.{◌≡◌, ◌⊎◌, ℕ, ◌+◌, ◌-◌, ◌<◌, ◌≤◌, List, max, ◌++◌, [], length, take, inl, inr, sym, ap, subst, ◌∙◌, arith}
use Rattle.std.proofs.lemmas.Bool.{cases_lt}
use Rattle.std.proofs.lemmas.List.{append_assoc}
use Rattle.record_core.specs.Limits.{record_limit}
use Rattle.segment_core.specs.Written.{joined}
use Rattle.load_core.specs.Groups.{IsPenOver, row_part}
use Rattle.load_core.proofs.Rows.{take-row_part}
use Rattle.load_core.proofs.groups.settle_row.Goals as goal

-- a group that the vector has room for, or that is one growth
past_first : (limit size then from end to : ℕ) (of : ℕ → ℕ) → (to ≡ end) ⊎ (to ≡ from + 1) → of (end - from) ≤ limit - size → limit < then + of (to - from) → then ≡ size → size ≤ limit
    → limit < then + of 1
past_first limit size then from end to of (inl is) room past same few = absurd (let all : of (to - from) ≡ of (end - from) = ap (λ n. of (n - from)) is in omega arith)
past_first limit size then from end to of (inr is) room past same few = let one : to - from ≡ 1 = omega arith in subst (λ n. limit < then + of n) one past

which : (from end to : ℕ) → to ≡ max end (from + 1) → (to ≡ end) ⊎ (to ≡ from + 1)
which from end to is = elim (cases_lt end (from + 1)) [ inl less ↦ inr (omega arith) | inr some ↦ inl (omega arith) ]

pub returns-in-Err-clause-stopped : goal.returns-in-Err-clause-stopped
returns-in-Err-clause-stopped g c =
    let i = c.loop-from.invariant in
    let ended = c.group_end-end.ensures in
    let e = c.in-Err.ensures in
    let row = c.args.row.now.0 in
    let few = c.len-room.ensures.few in
    let size = c.len-room.ensures.is in
    record {
      group = c.max-to.result - c.loop-from.from;
      less = (let less = c.loop-from-test.true in omega (arith, c.count-count.ensures));
      why = e.cause;
      over = λ disk made over model.
          e.over disk (made ++ take c.loop-from.from row) (λ was. i.settled disk made over was) model;
      past = λ is. past_first record_limit c.len-room.result c.settle_group.new.pen.tally.size c.loop-from.from c.group_end-end.result c.max-to.result
          (λ n. length (joined (row_part row c.loop-from.from n))) (which c.loop-from.from c.group_end-end.result c.max-to.result c.max-to.ensures)
          ended.fits.records (e.past is) (ap (λ t. t.size) e.stays ∙ sym size) few;
    }

pub loop-from-preserved : goal.loop-from-preserved
loop-from-preserved g c =
    let i = c.loop-from.invariant in
    let ended = c.group_end-end.ensures in
    let bounds = ended.inside in
    let to = c.max-to.ensures in
    let less = c.loop-from-test.true in
    let e = c.in_default.ensures {u = tt} in
    let row = c.args.row.now.0 in
    record {
      ready = e.ready;
      inside = omega (arith, c.count-count.ensures);
      settled = λ disk made over model.
          subst (λ gs. IsPenOver g.R.Record.form g.D.Disk.states disk c.settle_group.new.pen gs [])
          (append_assoc made (take c.loop-from.from row) (row_part row c.loop-from.from (c.max-to.result - c.loop-from.from))
          ∙ ap (λ (gs : List (List g.row.R.Denot)). made ++ gs) (take-row_part row c.loop-from.from c.max-to.result (omega arith)))
          (e.over disk (made ++ take c.loop-from.from row) (λ was. i.settled disk made over was) model);
      shape_same = c.settle_group.ensures.shape ∙ i.shape_same;
      model = λ model. i.model (c.settle_group.ensures.model model);
    }
