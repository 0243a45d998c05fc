-- A growth that a seat has made.
use Rattle.std.proofs.Common.{◌≡◌, inl, inr, ℕ, zero, suc, ◌+◌, ◌≤◌, ◌<◌, List, [], ◌∷◌, ◌++◌, length, map, sum, Some, None, refl, sym, ap, subst, ◌∙◌, arith, append_assoc, length-append, slice_get, slice_index, slice_set}
use Rattle.std.proofs.lemmas.List.{append-nil, length-map}
use Rattle.std.proofs.lemmas.List.Sums.{sum_by-cons}
use Rattle.std.proofs.lemmas.List.Concat.{flat_map-append}
use Rattle.std.proofs.lemmas.Option.{slice_get_within}
use Rattle.std.proofs.Math.Seq.{take-length}
use Rattle.record_core.specs.Limits.{record_limit}
use Rattle.segment_core.specs.Command.{Grow}
use Rattle.block_core.specs.Growth as block
use Rattle.directory_core.specs.Chain.{IsPrefix, total, grown_records}
use Rattle.directory_core.proofs.Chains.{length-grown_records}
use Rattle.book_core.specs.declared.seat.Receipt.{Receipt}
use Rattle.book_core.specs.declared.fault.GrowFault.TheVariants as grow
use Rattle.book_core.specs.Lists.{Seated, opening_of}
use Rattle.book_core.specs.Growing.{Grown, growth_of, size_of}
use Rattle.drive_core.specs.declared.fault.StepFault.TheVariants as told
use Rattle.drive_core.specs.Medium.{Medium}
use Rattle.drive_core.specs.Step.{Answer}
use Rattle.drive_core.specs.Step as step
use Rattle.drive_core.specs.World.{World, GrowthPhase, phase_growths, vector}
use Rattle.drive_core.specs.GrowthRows.{with_growth, put_answer, IsPut}
use Rattle.drive_core.specs.Ties.{GrowingOf, IsGrowing, AreSeated, IsSeat, grow_of}
use Rattle.drive_core.specs.GrowthTies.{GrowthStep}
use Rattle.drive_core.proofs.PenFolds.{not_lt, not_le}
use Rattle.drive_core.proofs.PutAsked.{IsAskedPut}
use Rattle.drive_core.proofs.PutRow.{row_is, first_are, learns_nothing, begins-more}
use Rattle.drive_core.proofs.PutTable.{book_decides}
use Rattle.drive_core.proofs.Quiet.{quiet_steps, seat_row, same_hand}
use Rattle.drive_core.proofs.Seated.{counts_set, counts_kept, knows, makes, hears, made_at}
use Rattle.drive_core.proofs.Seats.{get_set_same, each_replaced, length_set}
use Rattle.drive_core.proofs.Steps.{answered}
use Rattle.drive_core.proofs.Tables.{passes}
use Rattle.drive_core.proofs.Ties.{growths_count, vector_is, opening_long, behind_of}

map-push : {R : Type 0} (es : List (block.Growth R)) (e : block.Growth R) → map grow_of (es ++ e ∷ []) ≡ map grow_of es ++ grow_of e ∷ []
map-push [] e = refl
map-push (x ∷ es) e = ap (λ rest. grow_of x ∷ rest) (map-push es e)

total-push : {R : Type 0} (es : List (block.Growth R)) (e : block.Growth R) → total (es ++ e ∷ []) ≡ total es + length e.records
total-push es e =
    let both = ap length (flat_map-append (λ (f : block.Growth _). f.records) es (e ∷ [])) ∙ length-append (grown_records es) (grown_records (e ∷ [])) in
    let all = length-grown_records (es ++ e ∷ []) in
    let first = length-grown_records es in
    let last : length (grown_records (e ∷ [])) ≡ length e.records = ap length (append-nil e.records) in
    omega (arith, both, all, first, last)

sum-raised : (ns : List ℕ) (k : ℕ) → k < length ns → sum (slice_set ns k (slice_index ns k + 1)) ≡ sum ns + 1
sum-raised [] k less = absurd (omega (arith, less))
sum-raised (n ∷ ns) zero less = let old = sum_by-cons (λ x. x) n ns in let new = sum_by-cons (λ x. x) (n + 1) ns in omega (arith, old, new)
sum-raised (n ∷ ns) (suc k) less =
    let old = sum_by-cons (λ x. x) n ns in
    let new = sum_by-cons (λ x. x) n (slice_set ns k (slice_index ns k + 1)) in
    let rest = sum-raised ns k (omega (arith, less)) in
    omega (arith, old, new, rest)

-- The seat at this place has put this growth behind all that there were, and knows them all.
record HasPut {R : Type 0} (seats : List (Seated R)) (k : ℕ) (entries : List (block.Growth R)) (entry : block.Growth R) (new : Seated R) : Type 0 where
  pub old : Seated R
  pub at : slice_get seats k ≡ Some old
  pub id : new.id ≡ old.id
  pub mark : new.mark ≡ old.mark
  pub made : new.made ≡ old.made ++ entry ∷ []
  pub knows_all : new.pass.entries ≡ entries ++ entry ∷ []

-- What is in hand then.
module _ {R D : Type 0} {m : Medium R D} {w : World R} {phase : GrowthPhase} {g : GrowingOf R D} (tie : IsGrowing m w phase g)
    {k : ℕ} {entry : block.Growth R} {new : Seated R} (put : HasPut g.seats k tie.entries entry new) where
  abbrev entries : List (block.Growth R)
  entries = tie.entries ++ entry ∷ []

  more : length entries ≡ length tie.entries + 1
  more = length-append tie.entries (entry ∷ [])

  -- ---- the seats

  abbrev known_then : List ℕ
  known_then = slice_set phase.known k (length (phase_growths w phase) + 1)

  abbrev made_then : List ℕ
  made_then = slice_set phase.made k (slice_index phase.made k + 1)

  seat_new : IsSeat entries k new
  seat_new = record {
    id_is = put.id ∙ (tie.seats.each k put.old put.at).id_is;
    knows = subst (λ xs. IsPrefix xs entries) (sym put.knows_all) (take-length entries);
  }

  grown_seats : AreSeated known_then made_then phase.told (slice_set g.seats k new) g.live.seat_count k entries
  grown_seats = record {
    known_are = counts_set knows g.seats tie.seats.known_are k new (let count = growths_count tie in let all = ap length put.knows_all in omega (arith, count, all, more));
    made_are = counts_set makes g.seats tie.seats.made_are k new (
        let was = made_at tie.seats k put.at in
        let now = ap length put.made ∙ length-append put.old.made (entry ∷ []) in
        omega (arith, was, now));
    told_are = counts_kept hears g.seats tie.seats.told_are k new put.at (ap (λ (m : _). m.told.count) put.mark);
    seats_are = length_set phase.made k (slice_index phase.made k + 1) ∙ tie.seats.seats_are;
    made_sum = (
        let long = ap length tie.seats.made_are ∙ length-map g.seats makes in
        let inside = slice_get_within g.seats k put.old put.at in
        let one = sum-raised phase.made k (omega (arith, long, inside)) in
        let all = tie.seats.made_sum in
        omega (arith, one, all, more));
    each = each_replaced entries g.seats k put.old new put.at
        (λ j seat there. let was = tie.seats.each j seat there in record { id_is = was.id_is; knows = begins-more seat.pass.entries tie.entries (entry ∷ []) was.knows })
        seat_new;
    last_knows = λ some. (new, get_set_same g.seats k put.old new put.at, put.knows_all);
  }

  -- ---- the tie

  abbrev grown_hand : GrowingOf R D
  grown_hand = record g { seats = slice_set g.seats k new; puts = length tie.entries + 1; last = k }

  grown_tie : IsGrowing m (with_growth w phase k entry.records) (record phase { known = known_then; made = made_then }) grown_hand
  grown_tie = record {
    phase_is = refl;
    calm = tie.calm;
    entries = entries;
    growths = record {
      first = tie.growths.first;
      history_is = ap (λ h. h ++ Grow entry.records ∷ []) tie.growths.history_is ∙ append_assoc tie.growths.first (map grow_of tie.entries) (Grow entry.records ∷ [])
          ∙ ap (λ rest. tie.growths.first ++ rest) (sym (map-push tie.entries entry));
      before_is = tie.growths.before_is;
      opening_is = tie.growths.opening_is;
    };
    puts_is = sym more;
    room_is = tie.room_is;
    closed_is = tie.closed_is;
    mark_is = tie.mark_is;
    seats = grown_seats;
    flusher = record {
      knows = begins-more g.flusher.pass.entries tie.entries (entry ∷ []) tie.flusher.knows;
      known_is = tie.flusher.known_is;
      taken_is = tie.flusher.taken_is;
      taken_within = (let was = tie.flusher.taken_within in omega (arith, was, more));
      job_brings = tie.flusher.job_brings;
      settled_is = tie.flusher.settled_is;
    };
    hand_is = tie.hand_is;
    disk_is = tie.disk_is;
  }

module _ {R D : Type 0} {m : Medium R D} {w : World R} {phase : GrowthPhase} {g : GrowingOf R D} (tie : IsGrowing m w phase g) where
  vector_long : length (vector w) ≡ length (opening_of g.live) + total tie.entries
  vector_long = ap length (vector_is tie) ∙ opening_long tie tie.entries

  -- the receipt of a growth behind all that there were
  receipt_is : {k : ℕ} {old new : Seated R} {records : List R} {receipt : Receipt} → slice_get g.seats k ≡ Some old → (grown : Grown g.live old new records receipt)
      → receipt.number ≡ g.puts → grown.before ≡ tie.entries → step.Grown receipt ≡ put_answer w phase k records
  receipt_is {k} {old} {records = records} {receipt = receipt} at grown number before i =
      step.Grown (record { number = number_is i; start = start_is i; len = grown.len i; seat = seat_is i; serial = serial_is i })
    where
      number_is : receipt.number ≡ length (phase_growths w phase)
      number_is = number ∙ tie.puts_is ∙ sym (growths_count tie)

      start_is : receipt.start ≡ length (vector w)
      start_is = grown.start ∙ ap (λ es. length (opening_of g.live) + total es) before ∙ sym vector_long

      seat_is : receipt.seat ≡ k
      seat_is = grown.seat ∙ (tie.seats.each k old at).id_is

      serial_is : receipt.serial ≡ slice_index phase.made k
      serial_is = grown.serial ∙ sym (made_at tie.seats k at)

module _ {R D : Type 0} {m : Medium R D} {w : World R} {phase : GrowthPhase} {g : GrowingOf R D} (tie : IsGrowing m w phase g)
    {k : ℕ} {records : List R} {new : Seated R} {row : List (Seated R)} (asked : IsAskedPut m.form.width g k records new row) where
  -- the book knew all growths before
  before_is : {receipt : Receipt} (grown : Grown g.live asked.old new records receipt) → receipt.number ≡ g.puts → grown.before ≡ tie.entries
  before_is grown number =
      first_are tie asked.met grown.before (growth_of asked.old grown.before records ∷ []) grown.begins grown.ends
      (let was = grown.number in let puts = tie.puts_is in omega (arith, was, puts, number))

  has_put : {receipt : Receipt} (grown : Grown g.live asked.old new records receipt) → grown.before ≡ tie.entries
      → HasPut g.seats k tie.entries (growth_of asked.old grown.before records) asked.met.meets.met
  has_put grown before =
      let entry : block.Growth R = growth_of asked.old grown.before records in
      let learns = asked.met.meets.learns in
      let entries : new.pass.entries ≡ tie.entries ++ entry ∷ [] = grown.ends ∙ ap (λ es. es ++ entry ∷ []) before in
      let long = ap length entries ∙ length-append tie.entries (entry ∷ []) in
      record {
        old = asked.old;
        at = asked.met.at;
        id = learns.id ∙ grown.same.0;
        mark = learns.mark ∙ grown.same.1;
        made = learns.made ∙ grown.made;
        knows_all = learns_nothing tie asked.met (omega (arith, long)) ∙ entries;
      }

  pub put_answers : {receipt : Receipt} {known : ℕ} {answer : Answer R} → Grown g.live asked.old new records receipt → receipt.number ≡ g.puts → known ≡ length new.pass.entries
      → answer ≡ step.Grown receipt → known ≤ g.live.directory.room → size_of g.live new ≤ record_limit
      → GrowthStep m w (record g { seats = row; puts = known; last = k }) (step.Put k records) answer 0
  put_answers {receipt} grown number known_is is in_room in_limit =
      let before = before_is grown number in
      let put = has_put grown before in
      let entry : block.Growth R = growth_of asked.old grown.before records in
      let entries : new.pass.entries ≡ tie.entries ++ entry ∷ [] = grown.ends ∙ ap (λ es. es ++ entry ∷ []) before in
      let one_more = ap length entries ∙ length-append tie.entries (entry ∷ []) in
      let puts = known_is ∙ one_more in
      let all = ap total entries ∙ total-push tie.entries entry in
      let same = tie.room_is in
      let count = growths_count tie in
      let long = vector_long tie in
      let room = not_le phase.room (length (phase_growths w phase)) (omega (arith, in_room, puts, same, count)) in
      let short = not_lt record_limit (length (vector w) + length records) (omega (arith, long, all, in_limit)) in
      let w' : World R = with_growth w phase k records in
      let grows : Answer R = step.Grown receipt in
      same_hand (λ i. record g { seats = row_is tie asked.met i; puts = puts i; last = k })
      (answered is (quiet_steps tie w' (seat_row tie (slice_get_within g.seats k asked.old asked.met.at) w' grows (IsPut m.form.width w phase k records grows w')
      (inl (
        book_decides w phase records asked.block (sym tie.closed_is ∙ asked.not_closed) None (passes _ (told.Grow grow.Full) _ None room (passes _ (told.Grow grow.TooLong) _ None short (inr refl))),
        (receipt_is tie asked.met.at grown number before, refl),
      ))) refl refl tie.calm (behind_of (grown_tie tie put))))
