use Rattle.std.proofs.Common.{rules, ◌≡◌, ◌≤◌, ◌+◌, ◌-◌, ℕ, List, Option, Some, Ok, Err, MatchOption, drop, ap, sym, subst, ◌∙◌, refl, arith}
use Rattle.disk_core.specs.Calls.{bytes_of}
use Rattle.disk_core.specs.Moments.{clock}
use Rattle.segment_core.specs.declared.format.Shape.{Shape}
use Rattle.segment_core.specs.declared.tally.Tally.{Tally}
use Rattle.stat_core.specs.Calls.{AreCalls}
use Rattle.stat_core.specs.declared.fault.StatFault.TheVariants.{Disk}
use Rattle.stat_core.specs.Summary.{begun, tally_in, AreFew}
use Rattle.stat_core.specs.declared.outline.Outline.{Outline}
use Rattle.stat_core.specs.Next.{IsNextOutline, IsSized}
use Rattle.stat_core.specs.Walked.{Counts}
use Rattle.stat_core.specs.Window.{HoldsWindow}
use Rattle.stat_core.proofs.Counted.{few_begun, few_grown, grown_frames, count_none, count_more, grown_gate, grown_bytes}
use Rattle.stat_core.proofs.OnlyRead.{reads_nothing, reads_on}
use Rattle.stat_core.proofs.walking.walk.Goals as goal

sized_as : (shape : Shape) (tally : Tally) (left : ℕ) (found : Option (Outline × ℕ)) (next : Outline × ℕ) → found ≡ Some next → MatchOption found (Unit {0}) (IsSized shape tally left)
    → IsSized shape tally left next
sized_as shape tally left found next is told = subst (λ (o : Option (Outline × ℕ)). MatchOption o (Unit {0}) (IsSized shape tally left)) is told

pub loop-window-init : goal.loop-window-init
loop-window-init g c =
    let begins = c.begun-summary.ensures in
    let long = c.requires.long in
    record {
      few = subst AreFew (sym begins) (few_begun c.args.shape c.args.bytes);
      bytes = ap (λ s. s.bytes) begins;
      inside = subst (λ s. s.gate ≤ c.args.bytes) (sym begins) long;
      fits = omega arith;
      ends = omega arith;
      model = λ model. model;
      reads = λ model. reads_nothing (g.D.Disk.states c.args.disk.now);
      holds = λ model. refl;
      calls = omega arith;
      made = omega arith;
      faults = refl;
      counts = λ model. count_none c.args.shape (bytes_of (g.D.Disk.states c.args.disk.now)) c.begun-summary.result (begins ∙ ap (begun c.args.shape) (c.requires.length model));
    }

pub returns-in-Err-clause-only_reads : goal.returns-in-Err-clause-only_reads
returns-in-Err-clause-only_reads g c = λ model.
    reads_on (g.D.Disk.states c.args.disk.now) (g.D.Disk.states c.loop-window.disk) (g.D.Disk.states c.slide.new.disk)
    (c.loop-window.invariant.reads (c.slide.ensures.model model)) (c.slide.ensures.only_reads model)

pub loop-window-preserved : goal.loop-window-preserved
loop-window-preserved g c =
    let old = g.D.Disk.states c.args.disk.now in
    let mid = g.D.Disk.states c.loop-window.disk in
    let new = g.D.Disk.states c.slide.new.disk in
    let s = c.loop-window.summary in
    let inv = c.loop-window.invariant in
    let outline = c.in-Ok-Some.outline in
    let sized = sized_as c.args.shape (tally_in s) (s.bytes - s.gate) c.in-Ok-Some.field-0 (c.in-Ok-Some.outline, c.in-Ok-Some.payload_len) c.in-Ok-Some.field-0-is c.in-Ok-Some.ensures.sized in
    let is = c.grown-summary.ensures in
    let frames = ap (λ t. t.groups + t.changes + t.shrinks + t.folds) is ∙ grown_frames c.args.shape s outline in
    let gate = ap (λ t. t.gate) is ∙ grown_gate c.args.shape s outline in
    let holds =
    λ (model : g.D.Disk.keeps c.slide.new.disk).
    subst (λ (image : List ℕ). HoldsWindow image c.slide.new.buffer c.in-Ok.window)
    (ap (λ t. t.seen) (let reads = inv.reads (c.slide.ensures.model model) in reads.same))
    (c.in-Ok.ensures.holds model) in
    record {
      few = subst AreFew (sym is) (few_grown c.args.shape s outline c.requires.wide.0 inv.few sized.stands);
      bytes = ap (λ t. t.bytes) is ∙ grown_bytes c.args.shape s outline ∙ inv.bytes;
      inside = omega (arith, gate, sized.len, sized.inside, inv.bytes, inv.inside);
      fits = first_of (omega (arith, c.in-Ok.ensures.within.fits), search rules);
      ends = omega (arith, c.in-Ok.ensures.within.ends);
      model = λ model. inv.model (c.slide.ensures.model model);
      reads = λ model. reads_on old mid new (inv.reads (c.slide.ensures.model model)) (c.slide.ensures.only_reads model);
      holds = holds;
      calls = omega (arith, frames, inv.calls, c.slide.ensures.calls);
      made = omega (arith, inv.made, c.slide.ensures.made);
      faults = c.in-Ok.ensures.faults ∙ inv.faults;
      counts = λ model. (
          let size = sym (inv.bytes ∙ c.requires.length (inv.model (c.slide.ensures.model model))) in
          let next =
          subst
          (λ (o : Option (Outline × ℕ)). IsNextOutline c.args.shape s.gate (tally_in s) (drop s.gate (bytes_of old)) (Ok o))
          c.in-Ok-Some.field-0-is (c.in-Ok-Some.ensures.next (bytes_of old) size (holds model)) in
          subst (Counts c.args.shape (bytes_of old)) (sym is) (count_more c.args.shape (bytes_of old) s outline (inv.counts (c.slide.ensures.model model)) next.0 next.1));
    }

pub returns-in-Ok-None-clause-only_reads : goal.returns-in-Ok-None-clause-only_reads
returns-in-Ok-None-clause-only_reads g c = λ model.
    reads_on (g.D.Disk.states c.args.disk.now) (g.D.Disk.states c.loop-window.disk) (g.D.Disk.states c.slide.new.disk)
    (c.loop-window.invariant.reads (c.slide.ensures.model model)) (c.slide.ensures.only_reads model)

pub returns-in-Err-next_outline-clause-only_reads : goal.returns-in-Err-next_outline-clause-only_reads
returns-in-Err-next_outline-clause-only_reads g c = λ model.
    reads_on (g.D.Disk.states c.args.disk.now) (g.D.Disk.states c.loop-window.disk) (g.D.Disk.states c.slide.new.disk)
    (c.loop-window.invariant.reads (c.slide.ensures.model model)) (c.slide.ensures.only_reads model)

pub returns-in-Err-clause-calls : goal.returns-in-Err-clause-calls
returns-in-Err-clause-calls g c = λ before begins.
    subst (λ fault. AreCalls before (clock (g.D.Disk.states c.slide.new.disk)) (Err (Disk fault))) (sym c.in-Err.ensures.cause)
    (omega (arith, begins, c.loop-window.invariant.made, c.slide.ensures.made))

pub returns-in-Ok-None-clause-is : goal.returns-in-Ok-None-clause-is
returns-in-Ok-None-clause-is g c = λ model.
    let image = bytes_of (g.D.Disk.states c.args.disk.now) in
    let s = c.loop-window.summary in
    let inv = c.loop-window.invariant in
    let kept = c.slide.ensures.model model in
    let reads = inv.reads kept in
    let holds = subst (λ (bytes : List ℕ). HoldsWindow bytes c.slide.new.buffer c.in-Ok.window) (ap (λ t. t.seen) reads.same) (c.in-Ok.ensures.holds model) in
    record {
      shape = c.args.shape;
      wide = c.requires.wide.0;
      sound = c.requires.sound (inv.model kept);
      counts = inv.counts kept;
      closed = subst (λ (o : Option (Outline × ℕ)). IsNextOutline c.args.shape s.gate (tally_in s) (drop s.gate image) (Ok o)) c.in-Ok-None.field-0-is
          (c.in-Ok-None.ensures.next image (sym (inv.bytes ∙ c.requires.length (inv.model kept))) holds);
    }

pub returns-in-Ok-None-clause-calls : goal.returns-in-Ok-None-clause-calls
returns-in-Ok-None-clause-calls g c = λ before begins. omega (arith, begins, c.loop-window.invariant.calls, c.slide.ensures.calls)

pub returns-in-Err-next_outline-clause-is : goal.returns-in-Err-next_outline-clause-is
returns-in-Err-next_outline-clause-is g c = λ model.
    let image = bytes_of (g.D.Disk.states c.args.disk.now) in
    let inv = c.loop-window.invariant in
    let kept = c.slide.ensures.model model in
    let reads = inv.reads kept in
    let holds = subst (λ (bytes : List ℕ). HoldsWindow bytes c.slide.new.buffer c.in-Ok.window) (ap (λ t. t.seen) reads.same) (c.in-Ok.ensures.holds model) in
    record {
      shape = c.args.shape;
      wide = c.requires.wide.0;
      sound = c.requires.sound (inv.model kept);
      counts = inv.counts kept;
      fails = c.in-Err-next_outline.ensures.next image (sym (inv.bytes ∙ c.requires.length (inv.model kept))) holds;
    }

pub returns-in-Err-next_outline-clause-calls : goal.returns-in-Err-next_outline-clause-calls
returns-in-Err-next_outline-clause-calls g c = λ before begins. omega (arith, begins, c.loop-window.invariant.calls, c.slide.ensures.calls)

pub loop-window-smaller : goal.loop-window-smaller
loop-window-smaller g c =
    let s = c.loop-window.summary in
    let sized = sized_as c.args.shape (tally_in s) (s.bytes - s.gate) c.in-Ok-Some.field-0 (c.in-Ok-Some.outline, c.in-Ok-Some.payload_len) c.in-Ok-Some.field-0-is c.in-Ok-Some.ensures.sized in
    let gate = ap (λ t. t.gate) c.grown-summary.ensures ∙ grown_gate c.args.shape s c.in-Ok-Some.outline in
    omega (arith, gate, sized.len, sized.inside, c.loop-window.invariant.bytes, c.loop-window.invariant.inside)
