-- What the tie of a growth phase says of its lists, and the tie behind a step.
use Rattle.std.proofs.Common.{Bool, ◌≡◌, ℕ, ◌+◌, List, [], ◌∷◌, ◌++◌, length, map, take, drop, Some, None, refl, sym, ap, subst, ◌∙◌, arith, append_assoc, append-nil, length-append}
use Rattle.std.proofs.lemmas.List.{length-map, take-map, take_all}
use Rattle.std.proofs.Math.Seq.{take-append-add, take-length}
use Rattle.disk_core.specs.State.{IsImage, now}
use Rattle.disk_core.specs.Moments.{LeavesOnly}
use Rattle.disk_core.proofs.JoinedMoments.{LeavesOnly-weaker}
use Rattle.segment_core.specs.Command.{Command, content, after_command}
use Rattle.pen_core.specs.Typed.{OpensTo}
use Rattle.block_core.specs.Growth as block
use Rattle.directory_core.specs.Chain.{IsPrefix, grown_records, total}
use Rattle.directory_core.proofs.Chains.{length-grown_records}
use Rattle.book_core.specs.Lists.{Seated, opening_of}
use Rattle.book_core.proofs.Owns.{take-begins}
use Rattle.flush_core.specs.Flusher.{FlusherOf, IsFlusherOf, OpensToSettled, list_to}
use Rattle.drive_core.specs.Medium.{Medium}
use Rattle.drive_core.specs.World.{World, GrowthPhase, DrivePhase, Growing, Hand, DiskOf, hand_of, phase_growths, vector, vector_at}
use Rattle.drive_core.specs.Headline.{OpensToPrefix, Rests, Leaves}
use Rattle.drive_core.specs.GrowthRows.{within}
use Rattle.drive_core.specs.Ties.{GrowingOf, IsGrowing, AreSeated, IsFlushing, IsBehindStep, grow_of, growths_in_hand, disk_of}
use Rattle.drive_core.proofs.Seats.{begins-le}

drop-append : {X : Type 0} (xs ys : List X) → drop (length xs) (xs ++ ys) ≡ ys
drop-append [] ys = refl
drop-append (x ∷ xs) ys = drop-append xs ys

module _ {R : Type 0} where
  pub content-append : (base : List R) (xs ys : List (Command R)) → content base (xs ++ ys) ≡ content (content base xs) ys
  content-append base [] ys = refl
  content-append base (x ∷ xs) ys = content-append (after_command base x) xs ys

  pub content-grows : (base : List R) (entries : List (block.Growth R)) → content base (map grow_of entries) ≡ base ++ grown_records entries
  content-grows base [] = sym (append-nil base)
  content-grows base (e ∷ entries) = content-grows (base ++ e.records) entries ∙ append_assoc base e.records (grown_records entries)

module _ {R D : Type 0} {m : Medium R D} {w : World R} {phase : GrowthPhase} {g : GrowingOf R D} (tie : IsGrowing m w phase g) where
  -- the growths of the phase
  pub growths_are : phase_growths w phase ≡ map grow_of tie.entries
  growths_are =
      ap (λ n. drop n w.history) tie.growths.before_is ∙ ap (drop (length tie.growths.first)) tie.growths.history_is
      ∙ drop-append tie.growths.first (map grow_of tie.entries)

  pub growths_count : length (phase_growths w phase) ≡ length tie.entries
  growths_count = ap length growths_are ∙ length-map tie.entries grow_of

  pub history_long : length w.history ≡ phase.before + length tie.entries
  history_long =
      let all = ap length tie.growths.history_is ∙ length-append tie.growths.first (map grow_of tie.entries) in
      let grown = length-map tie.entries grow_of in
      omega (arith, all, grown, tie.growths.before_is)

  -- the list behind the first of them, and behind all
  pub list_at : (k : ℕ) → content w.base (take (phase.before + k) w.history) ≡ opening_of g.live ++ grown_records (take k tie.entries)
  list_at k =
      let first = tie.growths.first in
      let cut : take (phase.before + k) w.history ≡ first ++ map grow_of (take k tie.entries)
      = ap (λ n. take (n + k) w.history) tie.growths.before_is ∙ ap (take (length first + k)) tie.growths.history_is
      ∙ take-append-add first (map grow_of tie.entries) k ∙ ap (λ rest. first ++ rest) (take-map grow_of k tie.entries) in
      ap (content w.base) cut ∙ content-append w.base first (map grow_of (take k tie.entries)) ∙ content-grows (content w.base first) (take k tie.entries)
      ∙ ap (λ front. front ++ grown_records (take k tie.entries)) tie.growths.opening_is

  pub vector_is : vector w ≡ opening_of g.live ++ grown_records tie.entries
  vector_is =
      ap (content w.base) (sym (take_all (phase.before + length tie.entries) w.history (omega (arith, history_long))))
      ∙ list_at (length tie.entries) ∙ ap (λ es. opening_of g.live ++ grown_records es) (take-length tie.entries)

  -- the length of a list that begins with the opening one
  pub opening_long : (entries : List (block.Growth R)) → length (opening_of g.live ++ grown_records entries) ≡ length (opening_of g.live) + total entries
  opening_long entries = length-append (opening_of g.live) (grown_records entries) ∙ ap (λ n. length (opening_of g.live) + n) (length-grown_records entries)

  -- what a seat or the flusher knows is the list behind as many growths
  pub known_long : (entries : List (block.Growth R)) → IsPrefix entries tie.entries → length (vector_at w phase (length entries)) ≡ length (opening_of g.live) + total entries
  known_long entries begins = ap length (list_at (length entries) ∙ ap (λ es. opening_of g.live ++ grown_records es) begins) ∙ opening_long entries

  -- ---- what stands behind a step

  pub behind_of : IsBehindStep m w g
  behind_of = record { disk_is = tie.disk_is; goes_on = λ calm. (phase, tie) }

  -- something strayed: what is in hand may be anything but for the disk
  pub strayed_behind : {g' : GrowingOf R D} (w' : World R) (n : ℕ) → g'.flusher.pen.disk ≡ g.flusher.pen.disk → w'.disk ≡ w.disk → w'.strayed ≡ Some n → IsBehindStep m w' g'
  strayed_behind w' n disk same stray = record {
    disk_is = same ∙ tie.disk_is ∙ ap (disk_of m.states m.faults) (sym disk);
    goes_on = λ calm. absurd (is_some (sym stray ∙ calm));
  }
    where
      is_some : Some n ≡ None → ⊥
      is_some is = absurd cc

  -- Nothing but the flusher is another, with the hand and the disk that are its.
  pub other_flusher : (p : DrivePhase) (known taken settled : ℕ) (hand : Hand) (disk : DiskOf) (new : FlusherOf R D) → p ≡ Growing (record phase { flusher = known; taken = taken })
      → IsFlushing known taken phase.before settled tie.entries new → hand ≡ hand_of new.pen → disk ≡ disk_of m.states m.faults new.pen.disk
      → IsGrowing m (record w { phase = p; settled = settled; hand = hand; disk = disk }) (record phase { flusher = known; taken = taken }) (record g { flusher = new })
  other_flusher p known taken settled hand disk new is flushing hand_is disk_is = record {
    phase_is = is;
    calm = tie.calm;
    entries = tie.entries;
    growths = tie.growths;
    puts_is = tie.puts_is;
    room_is = tie.room_is;
    closed_is = tie.closed_is;
    mark_is = tie.mark_is;
    seats = tie.seats;
    flusher = flushing;
    hand_is = hand_is;
    disk_is = disk_is;
  }

  -- nothing but what seats know and were told
  abbrev pub other_seats : (known told : List ℕ) {row : List (Seated R)} → AreSeated known phase.made told row g.live.seat_count g.last tie.entries
      → IsGrowing m (within w (record phase { known = known; told = told })) (record phase { known = known; told = told }) (record g { seats = row })
  other_seats known told seated = record {
    phase_is = refl;
    calm = tie.calm;
    entries = tie.entries;
    growths = tie.growths;
    puts_is = tie.puts_is;
    room_is = tie.room_is;
    closed_is = tie.closed_is;
    mark_is = tie.mark_is;
    seats = seated;
    flusher = tie.flusher;
    hand_is = tie.hand_is;
    disk_is = tie.disk_is;
  }

  -- nothing but the mark, and whether the book was closed
  abbrev pub other_mark : (mark : ℕ) (closed : Bool)
      → IsGrowing m (within w (record phase { mark = mark; closed = closed })) (record phase { mark = mark; closed = closed }) (record g { mark = mark; closed = closed })
  other_mark mark closed = record {
    phase_is = refl;
    calm = tie.calm;
    entries = tie.entries;
    growths = tie.growths;
    puts_is = tie.puts_is;
    room_is = tie.room_is;
    closed_is = refl;
    mark_is = refl;
    seats = tie.seats;
    flusher = tie.flusher;
    hand_is = tie.hand_is;
    disk_is = tie.disk_is;
  }

  -- a flusher that knows what it knew and has taken what it had
  pub flushes_on : {new : FlusherOf R D} {settled : ℕ} → new.pass ≡ g.flusher.pass → new.taken ≡ g.flusher.taken → new.taken ≡ new.settled + growths_in_hand new.pen.job
      → settled ≡ phase.before + new.settled
      → IsFlushing phase.flusher phase.taken phase.before settled tie.entries new
  flushes_on pass taken brings settled_is = record {
    knows = subst (λ (p : _). IsPrefix p.entries tie.entries) (sym pass) tie.flusher.knows;
    known_is = tie.flusher.known_is ∙ ap (λ (p : _). length p.entries) (sym pass);
    taken_is = tie.flusher.taken_is ∙ sym taken;
    taken_within = tie.flusher.taken_within;
    job_brings = brings;
    settled_is = settled_is;
  }

  -- ---- what a crash leaves

  module _ (model : m.keeps g.flusher.pen.disk) (is : IsFlusherOf (m.keeps g.flusher.pen.disk) g.live g.flusher) where
    flusher_prefix : (image : List ℕ) → OpensToSettled m.form g.flusher image → OpensToPrefix m.form w.base w.history w.settled image
    flusher_prefix image kept =
        let f = g.flusher in
        let least = kept.at_least in
        let known = kept.known in
        let inside = begins-le f.pass.entries tie.entries tie.flusher.knows in
        let settled = tie.flusher.settled_is in
        let list : list_to f kept.count ≡ content w.base (take (phase.before + kept.count) w.history)
        = ap (λ front. front ++ grown_records (take kept.count f.pass.entries)) (is.opening model)
        ∙ ap (λ es. opening_of g.live ++ grown_records es) (sym (take-begins f.pass.entries tie.entries kept.count tie.flusher.knows known))
        ∙ sym (list_at kept.count) in
        record {
          kept = phase.before + kept.count;
          at_least = omega (arith, least, settled);
          at_most = omega (arith, known, inside, history_long);
          opens = subst (OpensTo m.form image) list kept.opens;
        }

    pub flusher_rests : ((image : List ℕ) → IsImage (now (m.states g.flusher.pen.disk)) image → OpensToSettled m.form g.flusher image) → Rests m.form w
    flusher_rests images image left = flusher_prefix image (images image (subst (λ (d : _). IsImage (now d.states) image) tie.disk_is left))

    -- within a tick of either lane
    pub flusher_leaves : (settled : ℕ) (hand : Hand) (new : D) → LeavesOnly (m.states g.flusher.pen.disk) (m.states new) (OpensToSettled m.form g.flusher)
        → Leaves m.form w (record w { settled = settled; hand = hand; disk = disk_of m.states m.faults new })
    flusher_leaves settled hand new leaves =
        subst (λ (d : _). LeavesOnly d.states (m.states new) (OpensToPrefix m.form w.base w.history w.settled)) (sym tie.disk_is)
        (LeavesOnly-weaker (m.states g.flusher.pen.disk) (m.states new) (OpensToSettled m.form g.flusher) (OpensToPrefix m.form w.base w.history w.settled) flusher_prefix leaves)
