use Rattle.std.proofs.Common.{◌≤◌, ◌+◌, ◌^◌, length, refl, sym, subst, arith}
use Rattle.segment_core.specs.declared.format.Format.{Format}
use Rattle.vault_core.specs.Upgrading.{IsGreatestPiece}
use Rattle.vault_core.specs.Vault.{VaultOf, list_of}
use Rattle.files_core.specs.Lengthened.{HasComeNear}
use Rattle.files_core.proofs.Lengthened.{last_done, last_refused}
use Rattle.files_core.proofs.lengthening.lengthen.Goals.{then-asked-le-RECORD_LIMIT+in_ok-come_near, else-asked-le-RECORD_LIMIT}
use Rattle.files_core.proofs.lengthening.lengthen.Given as given
use Rattle.files_core.proofs.lengthening.lengthen.Goals as goal

-- what is known behind the growths, if there are some
came_near : (g : given.Over) (c : goal.After-resize g) → (came : HasComeNear g.R.Record.form g.D.Disk.keeps g.D.Disk.states g.D.Disk.faults c.args.asked.now.len c.args.asked.now.filler c.args.vault.now c.if-asked-le-RECORD_LIMIT.vault)
    × (c.args.asked.now.len ≤ 2 ^ 32 → c.args.asked.now.len ≤ length (list_of c.if-asked-le-RECORD_LIMIT.vault) + came.piece)
came_near g c =
    let Came : VaultOf g.row.R.Denot g.row.D.Denot → Type 0 = λ (u : VaultOf g.row.R.Denot g.row.D.Denot).
    (came : HasComeNear g.R.Record.form g.D.Disk.keeps g.D.Disk.states g.D.Disk.faults c.args.asked.now.len c.args.asked.now.filler c.args.vault.now u)
    × (c.args.asked.now.len ≤ 2 ^ 32 → c.args.asked.now.len ≤ length (list_of u) + came.piece) in
    elim c.if-asked-le-RECORD_LIMIT.branch [
      | then-asked-le-RECORD_LIMIT+in_ok-come_near w ↦ let near = w.in_ok-come_near.ensures.near in subst Came (sym w.vault-is) (near.0, λ within. near.1)
      | else-asked-le-RECORD_LIMIT w ↦ subst Came (sym w.vault-is) (
        record {
          piece = c.greatest_piece-piece.result;
          greatest = subst (λ (format : Format). IsGreatestPiece format g.R.Record.form.width c.greatest_piece-piece.result) c.format.ensures c.greatest_piece-piece.ensures;
          growths = 0;
          grown = refl;
          short = λ some. absurd (omega (arith, some));
          at_once = λ past. refl;
        },
        λ within. absurd (omega (arith, within, w.if-asked-le-RECORD_LIMIT.false)),
      )
    ]

pub returns-clause-done : goal.returns-clause-done
returns-clause-done g c =
    let near = came_near g c in
    last_done g.R.Record.form g.D.Disk.keeps g.D.Disk.states g.D.Disk.faults c.args.asked.now.filler c.if-asked-le-RECORD_LIMIT.vault c.resize.new.self c.args.asked.now.len c.args.vault.now
    near.0 c.resize.result near.1 (record { list = c.resize.ensures.list; up = c.resize.ensures.up; down = c.resize.ensures.down; nothing = c.resize.ensures.nothing })

pub returns-clause-refused : goal.returns-clause-refused
returns-clause-refused g c =
    let near = came_near g c in
    last_refused g.R.Record.form g.D.Disk.keeps g.D.Disk.states g.D.Disk.faults c.args.asked.now.filler c.if-asked-le-RECORD_LIMIT.vault c.resize.new.self c.args.asked.now.len c.args.vault.now
    near.0 c.resize.result c.requires (record { list = c.resize.ensures.list; up = c.resize.ensures.up; down = c.resize.ensures.down; nothing = c.resize.ensures.nothing })
