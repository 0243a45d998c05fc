use Rattle.std.proofs.Common.{refl, sym, subst}
use Rattle.disk_core.specs.Calls.{bytes_of}
use Rattle.files_core.specs.SoundFront.{IsSoundFront}
use Rattle.pen_core.proofs.Births.{stays_only}
use Rattle.pen_core.proofs.Pieces.{reads_behind}
use Rattle.files_core.proofs.Fronts.{read_twice, sound_whole, refused_whole, cut_at, sound_cut, refused_cut}
use Rattle.files_core.proofs.sounding.sound_front.Goals as goal

pub returns-in-Err-clause-images : goal.returns-in-Err-clause-images
returns-in-Err-clause-images g c = λ model. stays_only (g.D.Disk.states c.args.disk.now) (g.D.Disk.states c.len.new.self) (c.len.ensures.same (c.len.ensures.model model))

pub returns-in-Ok-count_front-clause-sound : goal.returns-in-Ok-count_front-clause-sound
returns-in-Ok-count_front-clause-sound g c = λ model.
    let last = c.count_front.ensures.model model in
    let found = c.in-Ok-count_front.ensures.found model in
    subst (IsSoundFront g.R.Record.form (bytes_of (g.D.Disk.states c.args.disk.now)) c.args.at) (sym found.2)
    (sound_whole g.R.Record.form (g.D.Disk.states c.args.disk.now) (g.D.Disk.states c.len.new.self)
    c.in-Ok.len c.args.at c.min-len.result (c.len.ensures.same (c.len.ensures.model last)) (c.in-Ok.ensures.value last) c.min-len.ensures
    found.0 found.0.records.items refl found.1)

pub returns-in-Ok-count_front-clause-images : goal.returns-in-Ok-count_front-clause-images
returns-in-Ok-count_front-clause-images g c = λ model.
    reads_behind (g.D.Disk.states c.args.disk.now) (g.D.Disk.states c.len.new.self) (g.D.Disk.states c.count_front.new.disk)
    (c.len.ensures.same (c.len.ensures.model (c.count_front.ensures.model model))) (c.count_front.ensures.same model)
    (c.count_front.ensures.images model)

pub returns-in_default-clause-refused : goal.returns-in_default-clause-refused
returns-in_default-clause-refused g c = λ model.
    let last = c.count_front.ensures.model model in
    refused_whole g.R.Record.form (g.D.Disk.states c.args.disk.now) (g.D.Disk.states c.len.new.self) c.in-Ok.len c.args.at c.min-len.result
    (c.len.ensures.same (c.len.ensures.model last)) (c.in-Ok.ensures.value last) c.min-len.ensures
    c.in-Err-count_front.fault c.in_default.ensures (c.in-Err-count_front.ensures.refused model)

pub returns-in_default-clause-images : goal.returns-in_default-clause-images
returns-in_default-clause-images g c = λ model.
    reads_behind (g.D.Disk.states c.args.disk.now) (g.D.Disk.states c.len.new.self) (g.D.Disk.states c.count_front.new.disk)
    (c.len.ensures.same (c.len.ensures.model (c.count_front.ensures.model model))) (c.count_front.ensures.same model)
    (c.count_front.ensures.images model)

pub returns-in-Ok-count_front-2-clause-sound : goal.returns-in-Ok-count_front-2-clause-sound
returns-in-Ok-count_front-2-clause-sound g c = λ model.
    let mid = c.count_front-2.ensures.model model in
    let last = c.count_front.ensures.model mid in
    let old = g.D.Disk.states c.args.disk.now in
    let new = g.D.Disk.states c.len.new.self in
    let stays = c.len.ensures.same (c.len.ensures.model last) in
    let is = c.in-Ok.ensures.value last in
    let found = c.in-Ok-count_front-2.ensures.found model in
    subst (IsSoundFront g.R.Record.form (bytes_of old) c.args.at) (sym found.2)
    (sound_cut g.R.Record.form old new c.in-Ok.len c.args.at c.min-len.result stays is c.min-len.ensures (g.D.Disk.states c.count_front.new.disk) (c.count_front.ensures.same mid) c.in-Some.end
    (cut_at g.R.Record.form old new c.in-Ok.len c.args.at c.min-len.result stays is c.min-len.ensures c.in-Some.end c.in-Err-count_front.fault
    c.in-Some.ensures.2 (c.in-Err-count_front.ensures.refused mid))
    found.0 found.0.records.items refl found.1)

pub returns-in-Ok-count_front-2-clause-images : goal.returns-in-Ok-count_front-2-clause-images
returns-in-Ok-count_front-2-clause-images g c = λ model.
    let mid = c.count_front-2.ensures.model model in
    let last = c.count_front.ensures.model mid in
    read_twice (g.D.Disk.states c.args.disk.now) (g.D.Disk.states c.len.new.self) (g.D.Disk.states c.count_front.new.disk) (g.D.Disk.states c.count_front-2.new.disk)
    (c.len.ensures.same (c.len.ensures.model last)) (c.count_front.ensures.same mid) (c.count_front.ensures.images mid) (c.count_front-2.ensures.same model) (c.count_front-2.ensures.images model)

pub returns-in-Err-count_front-2-clause-refused : goal.returns-in-Err-count_front-2-clause-refused
returns-in-Err-count_front-2-clause-refused g c = λ model.
    let mid = c.count_front-2.ensures.model model in
    let last = c.count_front.ensures.model mid in
    let old = g.D.Disk.states c.args.disk.now in
    let new = g.D.Disk.states c.len.new.self in
    let stays = c.len.ensures.same (c.len.ensures.model last) in
    let is = c.in-Ok.ensures.value last in
    refused_cut g.R.Record.form old new c.in-Ok.len c.args.at c.min-len.result stays is c.min-len.ensures (g.D.Disk.states c.count_front.new.disk) (c.count_front.ensures.same mid) c.in-Some.end
    (cut_at g.R.Record.form old new c.in-Ok.len c.args.at c.min-len.result stays is c.min-len.ensures c.in-Some.end c.in-Err-count_front.fault
    c.in-Some.ensures.2 (c.in-Err-count_front.ensures.refused mid))
    c.in-Err-count_front-2.fault (c.in-Err-count_front-2.ensures.refused model)

pub returns-in-Err-count_front-2-clause-images : goal.returns-in-Err-count_front-2-clause-images
returns-in-Err-count_front-2-clause-images g c = λ model.
    let mid = c.count_front-2.ensures.model model in
    let last = c.count_front.ensures.model mid in
    read_twice (g.D.Disk.states c.args.disk.now) (g.D.Disk.states c.len.new.self) (g.D.Disk.states c.count_front.new.disk) (g.D.Disk.states c.count_front-2.new.disk)
    (c.len.ensures.same (c.len.ensures.model last)) (c.count_front.ensures.same mid) (c.count_front.ensures.images mid) (c.count_front-2.ensures.same model) (c.count_front-2.ensures.images model)
