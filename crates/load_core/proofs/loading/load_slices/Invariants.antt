use Rattle.std.proofs.Common.{◌≡◌, length}
use Rattle.load_core.specs.Dealt.{behind_slice}
use Rattle.load_core.specs.Loading.{HasLoadedOn, HasLoadedSoFar}
use Rattle.load_core.proofs.loading.load_slices.Given as goal

abbrev pub invariant-loop-alloc : goal.invariant-loop-alloc
invariant-loop-alloc g l =
    let growers = g.S.Source.growers_of l.fn.deck in
    let growths = g.S.Deck.growths_of l.fn.deck in record {
      growers_same : g.S.Source.growers_of l.deck ≡ growers;
      growths_same : g.S.Deck.growths_of l.deck ≡ growths;
      so_far : (disk : _) → HasLoadedSoFar g.R.Record.form g.D.Disk.keeps g.D.Disk.states g.D.Disk.faults growths growers disk l.fn.vault (g.S.Deck.left_of l.fn.deck) l.fn.appended
          → HasLoadedOn g.R.Record.form g.D.Disk.keeps g.D.Disk.states g.D.Disk.faults growths growers disk l.vault (behind_slice growers (g.S.Deck.left_of l.deck)) l.appended;
    }

abbrev pub decreases-loop-alloc : goal.decreases-loop-alloc
decreases-loop-alloc g l = length (g.S.Deck.left_of l.deck)
