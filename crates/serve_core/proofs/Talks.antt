-- A conversation goes on.
use Rattle.std.proofs.Common.{◌≡◌, ℕ, ◌+◌, ◌<◌, ◌≤◌, max, List, [], ◌∷◌, ◌++◌, length, All, Contains, Option, sym, refl, subst, ap, arith, ◌∙◌, append_assoc, None, Some, Result, Ok, Err, IfOk, IfErr, ◌⊎◌, inl, inr}
use Rattle.std.specs.Io.KnownBytes.{Consumes, Appends}
use Rattle.std.proofs.KnownBytes.{Consumes-nil, Consumes-trans}
use Rattle.std.proofs.lemmas.List.{length-append, append-nil}
use Rattle.std.proofs.lemmas.List.Elements.{All-nil, All-cons, All-push, All-weaker, Contains-append_left, Contains-push}
use Rattle.std.proofs.lemmas.Bool.{cases_lt}
use Rattle.record_core.specs.Bytes.{Encoding}
use Rattle.record_core.specs.Cells.{AreRecords}
use Rattle.block_core.specs.Growth.{Growth}
use Rattle.book_core.specs.declared.seat.Receipt.{Receipt}
use Rattle.book_core.specs.Lists.{Phase, Seated, IsSeatOf}
use Rattle.book_core.specs.Growing.{Grown, growth_of}
use Rattle.serve_core.specs.declared.refusal.RequestRefusal.{RequestRefusal}
use Rattle.serve_core.specs.declared.refusal.RequestRefusal.TheVariants as refusals
use Rattle.serve_core.specs.declared.talking.TalkEnd.{TalkEnd}
use Rattle.serve_core.specs.declared.talking.TalkEnd.TheVariants.{Ended, Gone, Cut, InputFailed, Refused, OutputFailed, Memory}
use Rattle.serve_core.specs.Answers.{answer_bytes}
use Rattle.serve_core.specs.Talks.{IsBlock, IsBlockOfRecords, IsGrowRefusal, IsOfRecords, IsGrowthRefusal, IsOfGrowth}
use Rattle.serve_core.specs.Talks.{IsNextOf, AreExchanges, Exchange, IsExchange, IsOfRequest, IsDone, IsUntold, TalkGoesOn, AllGoOn, EndsTalk, EndsSo, HasTalked, asked, told, told_of}
use Rattle.serve_core.specs.Talks.{EndsReading, end_within, IsCutGrowth, IsCutRequest}
use Rattle.serve_core.specs.Requests.{IsRequestHead, head_of}
use Rattle.serve_core.specs.declared.request.Head.{Head}
use Rattle.serve_core.specs.declared.request.ClientRequest.{ClientRequest}
use Rattle.serve_core.specs.declared.request.ClientRequest.TheVariants as requests
use Rattle.serve_core.specs.declared.reply.Reply.{Reply}
use Rattle.serve_core.specs.declared.reply.Reply.TheVariants as answers

pub Appends-then : (u v w : Option (List ℕ)) (a b : List ℕ) → Appends u v a → Appends v w b → Appends u w (a ++ b)
Appends-then None v w a b x y = tt
Appends-then (Some xs) None w a b x y = absurd x
Appends-then (Some xs) (Some ys) None a b x y = y
Appends-then (Some xs) (Some ys) (Some zs) a b x y = y ∙ ap (λ (t : List ℕ). t ++ b) x ∙ append_assoc xs a b

Appends-nil : (a : Option (List ℕ)) → Appends a a []
Appends-nil None = tt
Appends-nil (Some x) = sym (append-nil x)

pub next_same : {R : Type 0} (n m : ℕ) (made : List (Growth R)) → IsNextOf n made → n ≡ m → IsNextOf m made
next_same n m made next is = subst (λ k. IsNextOf k made) is next

-- none was made
next_of_none : {R : Type 0} (made : List (Growth R)) → made ≡ [] → IsNextOf 0 made
next_of_none {R} made none = record {
  below = subst (All (λ (g : Growth R). g.number < 0)) (sym none) (All-nil (λ (g : Growth R). g.number < 0));
  last = λ some. absurd (omega (arith, some));
}

-- the seat has made one more
pub next_grown : {R : Type 0} (live : Phase R) (old new : Seated R) (records : List R) (receipt : Receipt) (n : ℕ)
    → Grown live old new records receipt → IsNextOf n old.made → IsNextOf (max (length new.pass.entries) n) new.made
next_grown {R} live old new records receipt n grown next =
    subst (IsNextOf (max (length new.pass.entries) n)) (sym grown.made)
    (record {
      below = All-push (λ (g : Growth R). g.number < max (length new.pass.entries) n) old.made (growth_of old grown.before records) others mine;
      last = λ some. one (cases_lt (length new.pass.entries) n);
    })
  where
    known : length new.pass.entries ≡ length grown.before + 1
    known = ap length grown.ends ∙ length-append grown.before (growth_of old grown.before records ∷ [])

    mine : (growth_of old grown.before records).number < max (length new.pass.entries) n
    mine = omega (arith, known)

    others : All (λ (g : Growth R). g.number < max (length new.pass.entries) n) old.made
    others = All-weaker (λ (g : Growth R). g.number < n) (λ (g : Growth R). g.number < max (length new.pass.entries) n) (λ g lt. omega (arith, lt)) old.made next.below

    one : (length new.pass.entries < n) ⊎ (n ≤ length new.pass.entries)
        → (g : Growth R) × Contains (old.made ++ growth_of old grown.before records ∷ []) g × (g.number + 1 ≡ max (length new.pass.entries) n)
    one (inl above) =
        let last = next.last (omega (arith, above)) in
        (last.0, Contains-append_left old.made (growth_of old grown.before records ∷ []) last.0 last.1, omega (arith, above, last.2))
    one (inr below) = (growth_of old grown.before records, Contains-push old.made (growth_of old grown.before records), omega (arith, below, known))

-- What holds between two requests.
pub record IsTalking {R : Type 0} (form : Encoding R) (live : Phase R) (seat : Seated R) (input output : Option (List ℕ)) (next : ℕ)
    (seat_now : Seated R) (input_now output_now : Option (List ℕ)) : Type 0 where
  pub of : IsSeatOf live seat_now
  pub numbers : IsNextOf next seat_now.made
  pub exchanges : List (Exchange R)
  pub are : AreExchanges form live seat exchanges seat_now
  pub requests : Consumes input input_now (asked exchanges)
  pub answers : Appends output output_now (told form exchanges)
  pub go_on : AllGoOn exchanges

-- no answer ends a conversation for want of memory
no_memory : (answer : Reply) → EndsTalk Memory answer → ⊥
no_memory answers.Ended is = cc
no_memory (answers.Refused refusal) is = let e = is.1 in cc
no_memory (answers.Grown number start) is = is
no_memory (answers.Settled growths) is = is
no_memory (answers.Looked size settled) is = is
no_memory (answers.Piece start) is = is

-- nor as the end of the requests does, nor a failed read
not_gone : (answer : Reply) → EndsTalk Gone answer → ⊥
not_gone answers.Ended is = cc
not_gone (answers.Refused refusal) is = let e = is.1 in cc
not_gone (answers.Grown number start) is = is
not_gone (answers.Settled growths) is = is
not_gone (answers.Looked size settled) is = is
not_gone (answers.Piece start) is = is

not_cut : (answer : Reply) → EndsTalk Cut answer → ⊥
not_cut answers.Ended is = cc
not_cut (answers.Refused refusal) is = let e = is.1 in cc
not_cut (answers.Grown number start) is = is
not_cut (answers.Settled growths) is = is
not_cut (answers.Looked size settled) is = is
not_cut (answers.Piece start) is = is

not_failed : (answer : Reply) → EndsTalk InputFailed answer → ⊥
not_failed answers.Ended is = cc
not_failed (answers.Refused refusal) is = let e = is.1 in cc
not_failed (answers.Grown number start) is = is
not_failed (answers.Settled growths) is = is
not_failed (answers.Looked size settled) is = is
not_failed (answers.Piece start) is = is

-- ---- requests that are cut

-- reading ended within a request
ends_within : (rest : Option (List ℕ)) (part whole : List ℕ) (end : TalkEnd) → 0 < length whole → EndsReading rest part end → EndsReading rest whole (end_within end)
ends_within rest part whole Gone some is = (some, is.1)
ends_within rest part whole Cut some is = (some, is.1)
ends_within rest part whole InputFailed some is = tt
ends_within rest part whole Ended some is = is
ends_within rest part whole (Refused refusal) some is = is
ends_within rest part whole OutputFailed some is = is
ends_within rest part whole Memory some is = is

-- the head of a growth was read, and a part of its records
cut_growth : {R : Type 0} (form : Encoding R) (input mid rest : Option (List ℕ)) (end : TalkEnd) (head : List ℕ) (count : ℕ) → IsRequestHead head (head_of (requests.Grow count))
    → Consumes input mid head → IsCutGrowth form count mid rest end → IsCutRequest form input rest end
cut_growth form input mid rest end head count asks first cut =
    let part = cut.cut.part in
    let long = length-append head part in
    let some : 0 < length (head ++ part) = let len = asks.len in omega arith in
    record {
      part = head ++ part;
      unfinished = inr (record { count = count; len = cut.len; head = head; asks = asks; block = part; short = cut.cut.short; is = refl });
      read = Consumes-trans input mid rest head part first cut.cut.read;
      ended = subst (EndsReading rest (head ++ part)) (sym cut.within) (ends_within rest part (head ++ part) cut.by some cut.cut.ended);
    }

untold_cut : {R : Type 0} (form : Encoding R) (live : Phase R) (old new : Seated R) (input rest : Option (List ℕ)) (part : List ℕ) (end : TalkEnd) → new ≡ old
    → EndsReading rest part end → IsCutRequest form input rest end → IsUntold form live old new input rest end
untold_cut form live old new input rest part Gone same ends cut = (same, cut)
untold_cut form live old new input rest part Cut same ends cut = (same, cut)
untold_cut form live old new input rest part InputFailed same ends cut = (same, cut)
untold_cut form live old new input rest part Ended same ends cut = absurd ends
untold_cut form live old new input rest part (Refused refusal) same ends cut = absurd ends
untold_cut form live old new input rest part OutputFailed same ends cut = absurd ends
untold_cut form live old new input rest part Memory same ends cut = absurd ends

pub untold_by_growth : {R : Type 0} (form : Encoding R) (live : Phase R) (old new : Seated R) (input mid rest : Option (List ℕ)) (end : TalkEnd) → new ≡ old
    → (head : List ℕ) (count : ℕ) → IsRequestHead head (head_of (requests.Grow count)) → Consumes input mid head → IsCutGrowth form count mid rest end
    → IsUntold form live old new input rest end
untold_by_growth form live old new input mid rest end same head count asks first cut =
    let whole = cut_growth form input mid rest end head count asks first cut in
    untold_cut form live old new input rest whole.part end same whole.ended whole

-- ---- what comes of a conversation

module _ {R : Type 0} (form : Encoding R) (live : Phase R) (seat : Seated R) (input output : Option (List ℕ)) where
  pub begins : IsSeatOf live seat → seat.made ≡ [] → IsTalking form live seat input output 0 seat input output
  begins of none = record {
    of = of;
    numbers = next_of_none seat.made none;
    exchanges = [];
    are = refl;
    requests = Consumes-nil input;
    answers = Appends-nil output;
    go_on = All-nil (λ (e : Exchange R). TalkGoesOn e.answer);
  }

  module _ (next : ℕ) (mid new : Seated R) (input_mid input_new output_mid : Option (List ℕ)) (so_far : IsTalking form live seat input output next mid input_mid output_mid)
      (done : IsDone form live mid new input_mid input_new) where
    read_more : Consumes input input_new (asked so_far.exchanges ++ (done.exchange.head ++ done.exchange.block))
    read_more = Consumes-trans input input_mid input_new (asked so_far.exchanges) (done.exchange.head ++ done.exchange.block) so_far.requests done.read

    wrote_more : (answer : Reply) (out : List ℕ) (output_new : Option (List ℕ)) → done.exchange.answer ≡ answer
        → out ≡ answer_bytes form answer done.exchange.records → Appends output_mid output_new out
        → Appends output output_new (told form so_far.exchanges ++ answer_bytes form done.exchange.answer done.exchange.records)
    wrote_more answer out output_new is bytes wrote =
        Appends-then output output_mid output_new (told form so_far.exchanges) (answer_bytes form done.exchange.answer done.exchange.records) so_far.answers
        (subst (Appends output_mid output_new) (bytes ∙ ap (λ (a : Reply). answer_bytes form a done.exchange.records) (sym is)) wrote)

    pub goes_on : (then : ℕ) (answer : Reply) (out : List ℕ) (output_new : Option (List ℕ)) → done.exchange.answer ≡ answer
        → out ≡ answer_bytes form answer done.exchange.records → Appends output_mid output_new out
        → IsSeatOf live new → IsNextOf then new.made → TalkGoesOn answer → IsTalking form live seat input output then new input_new output_new
    goes_on then answer out output_new is bytes wrote of numbers goes = record {
      of = of;
      numbers = numbers;
      exchanges = done.exchange ∷ so_far.exchanges;
      are = (mid, so_far.are, done.is);
      requests = read_more;
      answers = wrote_more answer out output_new is bytes wrote;
      go_on = All-cons (λ (e : Exchange R). TalkGoesOn e.answer) done.exchange so_far.exchanges (subst TalkGoesOn (sym is) goes) so_far.go_on;
    }

    -- the answer was written, and the conversation ends behind it
    pub ends : (answer : Reply) (out : List ℕ) (output_new : Option (List ℕ)) (end : TalkEnd) → done.exchange.answer ≡ answer
        → out ≡ answer_bytes form answer done.exchange.records → Appends output_mid output_new out
        → EndsTalk end answer → HasTalked form live seat new input input_new output output_new end
    ends answer out output_new end is bytes wrote so = record {
      exchanges = done.exchange ∷ so_far.exchanges;
      are = (mid, so_far.are, done.is);
      rest = input_new;
      requests = read_more;
      answers = λ _. told_all end answer (wrote_more answer out output_new is bytes wrote) so;
      ends = ends_so end (subst (EndsTalk end) (sym is) so);
    }
      where
        told_all : (end : TalkEnd) (answer : Reply) → Appends output output_new (told form (done.exchange ∷ so_far.exchanges)) → EndsTalk end answer
            → Appends output output_new (told form (told_of end (done.exchange ∷ so_far.exchanges)))
        told_all Ended answer wrote is = wrote
        told_all Gone answer wrote is = wrote
        told_all Cut answer wrote is = wrote
        told_all InputFailed answer wrote is = wrote
        told_all (Refused refusal) answer wrote is = wrote
        told_all OutputFailed answer wrote is = wrote
        told_all Memory answer wrote is = absurd (no_memory answer is)

        ends_so : (end : TalkEnd) → EndsTalk end done.exchange.answer → EndsSo form input_new input_new end (done.exchange ∷ so_far.exchanges)
        ends_so Ended is = (is, so_far.go_on, refl)
        ends_so Gone is = absurd (not_gone done.exchange.answer is)
        ends_so Cut is = absurd (not_cut done.exchange.answer is)
        ends_so InputFailed is = absurd (not_failed done.exchange.answer is)
        ends_so (Refused refusal) is = (is, so_far.go_on, refl)
        ends_so OutputFailed is = (so_far.go_on, refl)
        ends_so Memory is = (so_far.go_on, refl)

    -- the answer wasn't written
    pub fails : (output_new : Option (List ℕ)) → HasTalked form live seat new input input_new output output_new OutputFailed
    fails output_new = record {
      exchanges = done.exchange ∷ so_far.exchanges;
      are = (mid, so_far.are, done.is);
      rest = input_new;
      requests = read_more;
      answers = λ other. absurd (other refl);
      ends = (so_far.go_on, refl);
    }

    -- there was no memory for it
    pub lacks_memory : HasTalked form live seat new input input_new output output_mid Memory
    lacks_memory = record {
      exchanges = done.exchange ∷ so_far.exchanges;
      are = (mid, so_far.are, done.is);
      rest = input_new;
      requests = read_more;
      answers = λ _. so_far.answers;
      ends = (so_far.go_on, refl);
    }

  -- the requests ended, or couldn't be read on
  module _ (next : ℕ) (mid now : Seated R) (input_mid input_now output_now : Option (List ℕ)) (so_far : IsTalking form live seat input output next mid input_mid output_now)
      (same : now ≡ mid) where
    still : AreExchanges form live seat so_far.exchanges now
    still = subst (AreExchanges form live seat so_far.exchanges) (sym same) so_far.are

    gone : IsCutRequest form input_mid input_now Gone → HasTalked form live seat now input input_now output output_now Gone
    gone cut = record {
      exchanges = so_far.exchanges;
      are = still;
      rest = input_mid;
      requests = so_far.requests;
      answers = λ _. so_far.answers;
      ends = (so_far.go_on, cut);
    }

    ended_within : IsCutRequest form input_mid input_now Cut → HasTalked form live seat now input input_now output output_now Cut
    ended_within cut = record {
      exchanges = so_far.exchanges;
      are = still;
      rest = input_mid;
      requests = so_far.requests;
      answers = λ _. so_far.answers;
      ends = (so_far.go_on, cut);
    }

    failed : IsCutRequest form input_mid input_now InputFailed → HasTalked form live seat now input input_now output output_now InputFailed
    failed cut = record {
      exchanges = so_far.exchanges;
      are = still;
      rest = input_mid;
      requests = so_far.requests;
      answers = λ _. so_far.answers;
      ends = (so_far.go_on, cut);
    }

  -- nothing was told of the newest request
  pub untold : (next : ℕ) (mid now : Seated R) (input_mid input_now output_now : Option (List ℕ)) (end : TalkEnd) → IsTalking form live seat input output next mid input_mid output_now
      → IsUntold form live mid now input_mid input_now end → HasTalked form live seat now input input_now output output_now end
  untold next mid now input_mid input_now output_now Gone so_far is = gone next mid now input_mid input_now output_now so_far is.0 is.1
  untold next mid now input_mid input_now output_now Cut so_far is = ended_within next mid now input_mid input_now output_now so_far is.0 is.1
  untold next mid now input_mid input_now output_now InputFailed so_far is = failed next mid now input_mid input_now output_now so_far is.0 is.1
  untold next mid now input_mid input_now output_now Memory so_far is = lacks_memory next mid now input_mid input_now output_now so_far is
  untold next mid now input_mid input_now output_now Ended so_far is = absurd is
  untold next mid now input_mid input_now output_now (Refused refusal) so_far is = absurd is
  untold next mid now input_mid input_now output_now OutputFailed so_far is = absurd is

-- a request with this head was answered so
pub some_exchange : {R X E : Type 0} (form : Encoding R) (live : Phase R) (old new : Seated R) (head block : List ℕ) (numbers : Head)
    (request : ClientRequest) (records : X → List R) (result : Result (Reply × X) E)
    → IsRequestHead head numbers → numbers ≡ head_of request → IfOk result (λ r. IsOfRequest form live request block old new r.0 (records r.1))
    → IfOk result (λ r. IsExchange form live old (record { head = head; block = block; answer = r.0; records = records r.1 }) new)
some_exchange form live old new head block numbers request records (Err e) is of told = tt
some_exchange form live old new head block numbers request records (Ok r) is of told = record { numbers = numbers; head = is; told = inr (record { request = request; is = of; told = told }) }

-- or its growth was cut
pub cut_of_head : {X : Type 0} (head : List ℕ) (numbers : Head) (request : ClientRequest) (IsCut : ℕ → TalkEnd → Type 0) (result : Result X TalkEnd)
    → IsRequestHead head numbers → numbers ≡ head_of request → IfErr result (λ end. (count : ℕ) × (request ≡ requests.Grow count) × IsCut count end)
    → IfErr result (λ end. (count : ℕ) × IsRequestHead head (head_of (requests.Grow count)) × IsCut count end)
cut_of_head head numbers request IsCut (Ok x) is of cut = tt
cut_of_head head numbers request IsCut (Err end) is of cut = (cut.0, subst (IsRequestHead head) (of ∙ ap head_of cut.1) is, cut.2)

-- the records are those of a block
module _ {R : Type 0} (form : Encoding R) (live : Phase R) (count : ℕ) (block : List ℕ) (records : List R) (bytes : IsBlock form.width count block)
    (len : length records ≡ count) (are : AreRecords form block records) where
  abbrev has : IsBlockOfRecords form count block
  has = record { bytes = bytes; records = records; len = len; are = are }

  refused_so : (refusal : RequestRefusal) (seat : Seated R) → IsGrowRefusal live (length records) seat refusal → IsGrowthRefusal form live count block seat refusal
  refused_so refusals.UnknownKind seat why = absurd why
  refused_so refusals.StrayNumber seat why = absurd why
  refused_so refusals.NoRecord seat why = absurd why
  refused_so refusals.TooMany seat why = absurd why
  refused_so refusals.BadRecord seat why = absurd why
  refused_so refusals.NoMemory seat why = absurd why
  refused_so refusals.Memory seat why = bytes
  refused_so refusals.Closed seat why = (has, subst (λ n. IsGrowRefusal live n seat refusals.Closed) len why)
  refused_so refusals.Full seat why = (has, subst (λ n. IsGrowRefusal live n seat refusals.Full) len why)
  refused_so refusals.TooLong seat why = (has, subst (λ n. IsGrowRefusal live n seat refusals.TooLong) len why)
  refused_so refusals.Strayed seat why = (has, subst (λ n. IsGrowRefusal live n seat refusals.Strayed) len why)
  refused_so refusals.Ended seat why = absurd why
  refused_so refusals.Broken seat why = absurd why

  pub growth_of_records : (old new : Seated R) (answer : Reply) → IsOfRecords live records old new answer → IsOfGrowth form live count block old new answer
  growth_of_records old new answers.Ended is = absurd is
  growth_of_records old new (answers.Grown number start) is = (has, is.0, is.1, is.2, is.3)
  growth_of_records old new (answers.Settled growths) is = absurd is
  growth_of_records old new (answers.Looked size settled) is = absurd is
  growth_of_records old new (answers.Piece start) is = absurd is
  growth_of_records old new (answers.Refused refusal) is = (is.0, refused_so refusal new is.1)
