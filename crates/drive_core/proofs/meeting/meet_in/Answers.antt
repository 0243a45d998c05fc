use Rattle.std.proofs.Common.{arith, ◌<◌, get_or, slice_get, length, length-append, ap, sym, ◌∙◌}
use Rattle.drive_core.proofs.Seats.{there_at, meets_front, meets_back_at, meets_self, of_met, there_is, get_front, get_back}
use Rattle.drive_core.proofs.meeting.meet_in.Goals as goal

pub returns-then-mine-theirs-clause-meets : goal.returns-then-mine-theirs-clause-meets
returns-then-mine-theirs-clause-meets g c = λ m t at_m at_t.
    meets_self c.args.seats.now.items c.args.mine m t at_m (ap (slice_get c.args.seats.now.items) c.if-mine-theirs.true ∙ at_t)

-- ---- the first stands in front

pub meet-requires-clause-of : goal.meet-requires-clause-of
meet-requires-clause-of g c κs within =
    let e = c.split_at_mut-front.ensures in
    let front = c.split_at_mut-front.result.0.now in
    let back = c.split_at_mut-front.result.1.now in
    let k = c.args.mine in
    let items = sym c.deref_mut.ensures.value ∙ e.value in
    let parts = ap length items ∙ length-append front back in
    let inside = c.requires.inside.1 in
    let front_len = e.front_len in
    let less = c.if-mine-theirs-2.true in
    let at_mine = there_at front k c.index-front-mine.result (omega (arith, front_len, less)) in
    let at_theirs = there_at back 0 c.index-back-0.result (omega (arith, parts, front_len, inside)) in (
      c.requires.of k (get_or front k c.index-front-mine.result) (ap (λ xs. slice_get xs k) items ∙ get_front front back k _ at_mine),
      c.requires.of (length front) (get_or back 0 c.index-back-0.result) (ap (λ xs. slice_get xs (length front)) items ∙ get_back front back ∙ at_theirs),
    )

pub returns-then-mine-theirs-2-clause-meets : goal.returns-then-mine-theirs-2-clause-meets
returns-then-mine-theirs-2-clause-meets g c = λ m t at_m at_t.
    let e = c.split_at_mut-front.ensures in
    let front = c.split_at_mut-front.result.0.now in
    let back = c.split_at_mut-front.result.1.now in
    let k = c.args.mine in
    let items = sym c.deref_mut.ensures.value ∙ e.value in
    let long = ap length (sym c.deref_mut.ensures.value) ∙ c.deref_mut.ensures.len in
    let parts = ap length items ∙ length-append front back in
    let inside = c.requires.inside.1 in
    let front_len = e.front_len in
    let less = c.if-mine-theirs-2.true in
    let at_mine = there_at front k c.index-front-mine.result (omega (arith, front_len, less)) in
    let at_theirs = there_at back 0 c.index-back-0.result (omega (arith, parts, front_len, inside)) in
    let met = c.meet.ensures in
    meets_front c.args.seats.now.items front back c.args.seats.now.len k items long (omega (arith, front_len, less))
    (get_or front k c.index-front-mine.result) (get_or back 0 c.index-back-0.result) c.meet.new.seat c.meet.new.other m t at_mine at_theirs
    met.same met.learns met.agree met.meets at_m (ap (slice_get c.args.seats.now.items) front_len ∙ at_t)

pub returns-then-mine-theirs-2-clause-of : goal.returns-then-mine-theirs-2-clause-of
returns-then-mine-theirs-2-clause-of g c =
    let m = there_is c.args.seats.now.items c.args.mine c.requires.inside.0 in
    let t = there_is c.args.seats.now.items c.args.theirs c.requires.inside.1 in
    of_met c.args.live.now c.args.seats.now.items _ c.args.mine m.0 t.0 c.requires.of m.1 (returns-then-mine-theirs-2-clause-meets g c m.0 t.0 m.1 t.1)

-- ---- or behind

pub meet-requires-else-mine-theirs-2-clause-of : goal.meet-requires-else-mine-theirs-2-clause-of
meet-requires-else-mine-theirs-2-clause-of g c κs within =
    let e = c.split_at_mut-front-else-mine-theirs-2.ensures in
    let front = c.split_at_mut-front-else-mine-theirs-2.result.0.now in
    let back = c.split_at_mut-front-else-mine-theirs-2.result.1.now in
    let k = c.args.theirs in
    let theirs = c.index-front-theirs.result in
    let mine = c.index-back-0-else-mine-theirs-2.result in
    let items = sym c.deref_mut-else-mine-theirs-2.ensures.value ∙ e.value in
    let parts = ap length items ∙ length-append front back in
    let inside = c.requires.inside.0 in
    let front_len = e.front_len in
    let no_less = c.if-mine-theirs-2.false in
    let other = c.if-mine-theirs.false in
    let at_mine = there_at back 0 mine (omega (arith, parts, front_len, inside)) in
    let at_theirs = there_at front k theirs (omega (arith, front_len, no_less, other)) in (
      c.requires.of (length front) (get_or back 0 mine) (ap (λ xs. slice_get xs (length front)) items ∙ get_back front back ∙ at_mine),
      c.requires.of k (get_or front k theirs) (ap (λ xs. slice_get xs k) items ∙ get_front front back k _ at_theirs),
    )

pub returns-else-mine-theirs-2-clause-meets : goal.returns-else-mine-theirs-2-clause-meets
returns-else-mine-theirs-2-clause-meets g c = λ m t at_m at_t.
    let e = c.split_at_mut-front-else-mine-theirs-2.ensures in
    let front = c.split_at_mut-front-else-mine-theirs-2.result.0.now in
    let back = c.split_at_mut-front-else-mine-theirs-2.result.1.now in
    let k = c.args.theirs in
    let theirs = c.index-front-theirs.result in
    let mine = c.index-back-0-else-mine-theirs-2.result in
    let items = sym c.deref_mut-else-mine-theirs-2.ensures.value ∙ e.value in
    let long = ap length (sym c.deref_mut-else-mine-theirs-2.ensures.value) ∙ c.deref_mut-else-mine-theirs-2.ensures.len in
    let parts = ap length items ∙ length-append front back in
    let inside = c.requires.inside.0 in
    let front_len = e.front_len in
    let no_less = c.if-mine-theirs-2.false in
    let other = c.if-mine-theirs.false in
    let at_mine = there_at back 0 mine (omega (arith, parts, front_len, inside)) in
    let less : k < length front = omega (arith, front_len, no_less, other) in
    let at_theirs = there_at front k theirs less in
    let call = c.meet-else-mine-theirs-2 in
    let met = call.ensures in
    meets_back_at c.args.seats.now.items front back c.args.seats.now.len k items long less c.args.mine (get_or back 0 mine) (get_or front k theirs) call.new.seat call.new.other m t front_len
    at_mine at_theirs met.same met.learns met.agree met.meets at_m at_t

pub returns-else-mine-theirs-2-clause-of : goal.returns-else-mine-theirs-2-clause-of
returns-else-mine-theirs-2-clause-of g c =
    let m = there_is c.args.seats.now.items c.args.mine c.requires.inside.0 in
    let t = there_is c.args.seats.now.items c.args.theirs c.requires.inside.1 in
    of_met c.args.live.now c.args.seats.now.items _ c.args.mine m.0 t.0 c.requires.of m.1 (returns-else-mine-theirs-2-clause-meets g c m.0 t.0 m.1 t.1)
