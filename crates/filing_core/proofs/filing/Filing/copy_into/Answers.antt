use Rattle.std.proofs.Common.{◌∙◌, ap, refl, inl, inr, length}
use Rattle.filing_core.proofs.filing.Filing.copy_into.Goals as goal

pub returns-in-Err : goal.returns-in-Err
returns-in-Err g c = λ opened. inr (inl (c.in-Err.fault, refl, (c.args.disk, c.in-Err._asked, opened, c.in-Err.ensures.taken)))

pub returns-in-Ok-copy_to : goal.returns-in-Ok-copy_to
returns-in-Ok-copy_to g c = λ opened. record {
  vault = c.in-Ok-copy_to.vault;
  file = record {
    made = c.args.disk;
    asked = c.in-Ok.disk;
    opened = opened;
    vacant = c.in-Ok.ensures.vacant;
    piece = c.in-Ok-copy_to.ensures.0;
    piece_is = c.in-Ok-copy_to.ensures.1;
    copied = c.in-Ok-copy_to.ensures.2;
  };
  size_is = c.len.ensures.is ∙ ap length c.in-Ok-copy_to.ensures.2.list;
}

pub returns-in-Err-copy_to : goal.returns-in-Err-copy_to
returns-in-Err-copy_to g c = λ opened. inr (inr (
  c.in-Err-copy_to._disk,
  c.in-Err-copy_to.fault,
  refl,
  record {
    made = c.args.disk;
    asked = c.in-Ok.disk;
    opened = opened;
    vacant = c.in-Ok.ensures.vacant;
    piece = c.in-Err-copy_to.ensures.0;
    piece_is = c.in-Err-copy_to.ensures.1;
    copied = c.in-Err-copy_to.ensures.2;
  },
))
