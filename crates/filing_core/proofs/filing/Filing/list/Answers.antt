use Rattle.std.proofs.Common.{inl, inr, subst}
use Rattle.filing_core.specs.Beside.{IsJustReadable}
use Rattle.filing_core.specs.declared.access.Readable.{Readable}
use Rattle.filing_core.proofs.Filings.{done_as, look_as}
use Rattle.filing_core.proofs.filing.Filing.list.Goals as goal

pub returns-in-Locked : goal.returns-in-Locked
returns-in-Locked g c = inl (inr (inr (done_as _ _ (λ disk left ended reads. (c.in_ok-window.window, c.in_ok-window.ensures.read, reads))
    (c.list_locked.ensures (subst (λ (r : Readable). IsJustReadable r) c.in-Locked.is c.in_ok-readable.ensures)))))

pub returns-in-Beside : goal.returns-in-Beside
returns-in-Beside g c = inr (look_as _ (λ file left end reads. (c.in_ok-window.window, c.in_ok-window.ensures.read, reads))
    (c.list_shared.ensures (subst (λ (r : Readable). IsJustReadable r) c.in-Beside.is c.in_ok-readable.ensures)))
