use Rattle.std.proofs.Common.{◌≡◌, ℕ, ◌+◌, ◌-◌, take, drop, subst, arith}
use Rattle.stat_core.specs.Next.{IsNextOutline}
use Rattle.segment_core.specs.FrameHead.{IsFrontOf}
use Rattle.stat_core.proofs.Shown.{shown_front}
use Rattle.stat_core.proofs.walking.next_outline.Goals as goal

pub returns-clause-next : goal.returns-clause-next
returns-clause-next c image size holds =
    let k : ℕ = c.args.summary.gate - c.args.window.start in
    let n : c.front_len-len.result ≡ k + c.front_len-len.result - k = omega arith in
    let front =
    shown_front image c.args.buffer.now c.args.window c.args.summary.gate c.args.summary.bytes c.front_len-len.result size c.requires.inside c.front_len-len.ensures c.requires.within holds in
    let here =
    subst (λ m. IsFrontOf (drop c.args.summary.gate image) (take m (drop (c.args.summary.gate - c.args.window.start) c.args.buffer.now)) (c.args.summary.bytes - c.args.summary.gate)) n front in
    subst (λ t. IsNextOutline c.args.shape c.args.summary.gate t (drop c.args.summary.gate image) c.read_outline.result) c.tally.ensures
    (c.read_outline.ensures.next (drop c.args.summary.gate image) here)
