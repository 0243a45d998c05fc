use Rattle.std.proofs.Common.{◌≡◌, length, arith}
use Rattle.std.proofs.lemmas.List.{length-take}
use Rattle.record_core.proofs.byte_records.Bytes64Record.put.Goals as goal

pub slice_bounds-put-end-2 : goal.slice_bounds-put-end-2
slice_bounds-put-end-2 c = let long : length c.args.out.now ≡ 64 = c.requires in omega (arith, length-take 32 c.args.out.now, long)
