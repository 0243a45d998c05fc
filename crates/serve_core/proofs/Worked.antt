-- Worked requests, answers and conversations: what each may be, and the nearest that it may not.
use Rattle.std.proofs.Common.{◌≡◌, ℕ, ◌<◌, ◌⊎◌, inl, inr, List, [], ◌∷◌, ◌++◌, length, take, get_or, replicate, All, Option, Some, None, refl, sym, ap, subst, ◌∙◌, arith, length-append}
use Rattle.std.proofs.lemmas.List.Elements.{All-nil}
use Rattle.std.proofs.lemmas.List.{take_at, append-nil}
use Rattle.std.specs.Int.{w32, w64, to_le_bytes}
use Rattle.std.specs.List.{flat_map}
use Rattle.std.specs.Io.KnownBytes.{Consumes}
use Rattle.record_core.specs.Bytes.{Encoding, unsigned}
use Rattle.block_core.specs.Growth.{Growth}
use Rattle.book_core.specs.Lists.{Phase, Seated}
use Rattle.book_core.specs.declared.mark.Reading.{Reading}
use Rattle.serve_core.specs.declared.reply.Reply.{Reply}
use Rattle.serve_core.specs.declared.reply.Reply.TheVariants as answers
use Rattle.serve_core.specs.declared.refusal.RequestRefusal.{RequestRefusal}
use Rattle.serve_core.specs.declared.refusal.RequestRefusal.TheVariants as refusals
use Rattle.serve_core.specs.declared.request.Head.{Head}
use Rattle.serve_core.specs.declared.request.ClientRequest.{ClientRequest}
use Rattle.serve_core.specs.declared.request.ClientRequest.TheVariants as requests
use Rattle.serve_core.specs.declared.talking.TalkEnd.{TalkEnd}
use Rattle.serve_core.specs.declared.talking.TalkEnd.TheVariants as ends
use Rattle.serve_core.specs.Requests.{IsRequestHead, head_of, IsNoRequest}
use Rattle.serve_core.specs.Answers.{answer_bytes, numbers_of, refusal_code}
use Rattle.serve_core.specs.Talks.{IsOfWaiting, HasUnsettled, Exchange, IsExchange, IsCutRequest, IsPartOfGrowth, EndsSo, HasTalked, asked, told, told_of}

abbrev numbers : Encoding ℕ
numbers = unsigned w64

-- ---- requests

abbrev zeros : ℕ → List ℕ
zeros n = replicate n 0

-- a growth of two records, and a read of three from position 258 on
abbrev growth_head : List ℕ
growth_head = 1 ∷ 0 ∷ 0 ∷ 0 ∷ 2 ∷ 0 ∷ 0 ∷ 0 ∷ zeros 8

abbrev read_head : List ℕ
read_head = 4 ∷ 0 ∷ 0 ∷ 0 ∷ 3 ∷ 0 ∷ 0 ∷ 0 ∷ 2 ∷ 1 ∷ zeros 6

end_is_zeros : IsRequestHead (zeros 16) (head_of requests.End)
end_is_zeros = record { len = refl; kind = refl; count = refl; start = refl }

growth_of_two : IsRequestHead growth_head (head_of (requests.Grow 2))
growth_of_two = record { len = refl; kind = refl; count = refl; start = refl }

read_of_three : IsRequestHead read_head (head_of (requests.Read 258 3))
read_of_three = record { len = refl; kind = refl; count = refl; start = refl }

no_growth_of_three : IsRequestHead growth_head (head_of (requests.Grow 3)) → ⊥
no_growth_of_three is = absurd (let count = is.count in cc)

no_end_of_a_growth : IsRequestHead growth_head (head_of requests.End) → ⊥
no_end_of_a_growth is = absurd (let kind = is.kind in cc)

no_read_from_there : IsRequestHead read_head (head_of (requests.Read 513 3)) → ⊥
no_read_from_there is = let start : 513 ≡ 258 = is.start in absurd (omega arith)

no_longer_head : IsRequestHead (zeros 17) (head_of requests.End) → ⊥
no_longer_head is = absurd (let len = is.len in cc)

-- kinds up to 4 are known; a number that a request doesn't have strays
unknown : IsNoRequest (record { kind = 5; count = 0; start = 0 }) refusals.UnknownKind × (IsNoRequest (record { kind = 4; count = 0; start = 0 }) refusals.UnknownKind → ⊥)
unknown = (omega arith, λ lt. absurd (omega arith))

no_look_of_three : (request : ClientRequest) → record { kind = 3; count = 3; start = 0 } ≡ head_of request → ⊥
no_look_of_three requests.End is = let kind = ap (λ (h : Head). h.kind) is in absurd (omega arith)
no_look_of_three (requests.Grow count) is = let kind = ap (λ (h : Head). h.kind) is in absurd (omega arith)
no_look_of_three requests.Await is = let kind = ap (λ (h : Head). h.kind) is in absurd (omega arith)
no_look_of_three requests.Look is = let count = ap (λ (h : Head). h.count) is in absurd (omega arith)
no_look_of_three (requests.Read start count) is = let kind = ap (λ (h : Head). h.kind) is in absurd (omega arith)

strays : IsNoRequest (record { kind = 3; count = 3; start = 0 }) refusals.StrayNumber
strays = (omega arith, no_look_of_three)

no_stray_in_a_growth : IsNoRequest (record { kind = 1; count = 3; start = 0 }) refusals.StrayNumber → ⊥
no_stray_in_a_growth is = is.1 (requests.Grow 3) refl

-- ---- answers

bytes_of_a_growth : answer_bytes numbers (answers.Grown 2 258) [] ≡ zeros 8 ++ (2 ∷ zeros 7) ++ (2 ∷ 1 ∷ zeros 6)
bytes_of_a_growth = refl

bytes_of_a_piece : answer_bytes numbers (answers.Piece 1) (5 ∷ []) ≡ zeros 4 ++ (1 ∷ zeros 3) ++ (1 ∷ zeros 7) ++ zeros 8 ++ (5 ∷ zeros 7)
bytes_of_a_piece = refl

bytes_of_a_refusal : answer_bytes numbers (answers.Refused refusals.Broken) [] ≡ (13 ∷ zeros 23)
bytes_of_a_refusal = refl

-- a seat that is told of a refusal isn't told that it is done
never_zero : (refusal : RequestRefusal) → refusal_code refusal ≡ 0 → ⊥
never_zero refusals.UnknownKind is = absurd (omega arith)
never_zero refusals.StrayNumber is = absurd (omega arith)
never_zero refusals.NoRecord is = absurd (omega arith)
never_zero refusals.TooMany is = absurd (omega arith)
never_zero refusals.BadRecord is = absurd (omega arith)
never_zero refusals.NoMemory is = absurd (omega arith)
never_zero refusals.Memory is = absurd (omega arith)
never_zero refusals.Closed is = absurd (omega arith)
never_zero refusals.Full is = absurd (omega arith)
never_zero refusals.TooLong is = absurd (omega arith)
never_zero refusals.Strayed is = absurd (omega arith)
never_zero refusals.Ended is = absurd (omega arith)
never_zero refusals.Broken is = absurd (omega arith)

-- A seat that waits while the flusher has failed, with a growth that isn't settled, is never answered with status 0.
pub not_done_unsettled : {R : Type 0} (old new : Seated R) (answer : Reply) → IsOfWaiting old new answer → HasUnsettled new → (numbers_of answer).status ≡ 0 → ⊥
not_done_unsettled old new answers.Ended is lacks done = is
not_done_unsettled old new (answers.Grown number start) is lacks done = is
not_done_unsettled old new (answers.Looked size settled) is lacks done = is
not_done_unsettled old new (answers.Piece start) is lacks done = is
not_done_unsettled old new (answers.Refused refusal) is lacks done = never_zero refusal done
not_done_unsettled {R} old new (answers.Settled growths) is lacks done =
    let count : new.mark.told.count ≡ growths = ap (λ (r : Reading). r.count) is.0.told in
    let at = lacks.1 in
    let below = is.1 at.0 lacks.0 at.1 in
    let named : (get_or new.made at.0 lacks.0).number ≡ lacks.0.number = ap (λ (g : Growth R). g.number) at.2 in
    let unsettled = lacks.2 in
    absurd (omega arith)

-- ---- how conversations end

abbrev nothing_told : Reply → Exchange ℕ
nothing_told answer = record { head = zeros 16; block = []; answer = answer; records = [] }

abbrev end : Exchange ℕ
end = nothing_told answers.Ended

abbrev Ends : TalkEnd → List (Exchange ℕ) → Type 0
Ends by exchanges = EndsSo numbers (Some []) (Some []) by exchanges

none_go_on : All (λ (e : Exchange ℕ). ⊥) []
none_go_on = All-nil (λ (e : Exchange ℕ). ⊥)

ends_as_asked : Ends ends.Ended (end ∷ [])
ends_as_asked = (refl, All-nil _, refl)

not_unasked : Ends ends.Ended (nothing_told (answers.Settled 3) ∷ []) → ⊥
not_unasked so = so.0

not_before_any : (Ends ends.Ended [] → ⊥) × (Ends ends.OutputFailed [] → ⊥) × (Ends ends.Memory [] → ⊥)
not_before_any = ((λ so. so), (λ so. so), λ so. so)

ends_refused : Ends (ends.Refused refusals.NoMemory) (nothing_told (answers.Refused refusals.NoMemory) ∷ [])
ends_refused = ((refl, refl), All-nil _, refl)

not_by_a_lighter_refusal : Ends (ends.Refused refusals.Memory) (nothing_told (answers.Refused refusals.Memory) ∷ []) → ⊥
not_by_a_lighter_refusal so = absurd (let heavy = so.0.0 in cc)

not_by_another_refusal : Ends (ends.Refused refusals.NoRecord) (nothing_told (answers.Refused refusals.NoMemory) ∷ []) → ⊥
not_by_another_refusal so = absurd (let same = so.0.1 in cc)

-- it doesn't go on behind its end
not_behind_the_end : (Ends ends.OutputFailed (end ∷ end ∷ []) → ⊥) × (Ends ends.Gone (end ∷ []) → ⊥) × (Ends ends.Cut (end ∷ []) → ⊥) × (Ends ends.InputFailed (end ∷ []) → ⊥)
not_behind_the_end = ((λ so. so.0 0 end (omega arith)), (λ so. so.0 0 end (omega arith)), (λ so. so.0 0 end (omega arith)), λ so. so.0 0 end (omega arith))

-- no byte is read behind the last request
not_read_on : EndsSo numbers (Some (7 ∷ [])) (Some []) ends.Ended (end ∷ []) → ⊥
not_read_on so = absurd (let same = so.2 in cc)

-- nor are there none where a byte remains
not_gone_with_more : EndsSo numbers (Some (7 ∷ [])) (Some (7 ∷ [])) ends.Gone [] → ⊥
not_gone_with_more so = absurd (let none = so.1.ended.1 in cc)

-- ---- requests that are cut

cut_within_a_head : IsCutRequest numbers (Some (1 ∷ 0 ∷ [])) (Some []) ends.Cut
cut_within_a_head = record { part = 1 ∷ 0 ∷ []; unfinished = inl (omega arith); read = refl; ended = (omega arith, refl) }

gone_behind_the_last : IsCutRequest numbers (Some []) (Some []) ends.Gone
gone_behind_the_last = record { part = []; unfinished = inl (omega arith); read = refl; ended = (refl, refl) }

-- a request that is cut isn't told as none, and none isn't told as one that is cut
not_gone_within : IsCutRequest numbers (Some (1 ∷ 0 ∷ [])) (Some []) ends.Gone → ⊥
not_gone_within cut = absurd (let some = sym (ap (λ (part : List ℕ). part ++ []) cut.ended.0) ∙ sym cut.read in cc)

not_cut_between : IsCutRequest numbers (Some []) (Some []) ends.Cut → ⊥
not_cut_between cut =
    let none = ap length cut.read in
    let long = length-append cut.part [] in
    let some = cut.ended.0 in
    absurd (omega arith)

-- of two records one and a byte
abbrev cut_records : List ℕ
cut_records = (5 ∷ zeros 7) ++ 6 ∷ []

cut_within_records : IsCutRequest numbers (Some (growth_head ++ cut_records)) (Some []) ends.Cut
cut_within_records = record {
  part = growth_head ++ cut_records;
  unfinished = inr (record { count = 2; len = record { some = omega arith; fits = omega arith }; head = growth_head; asks = growth_of_two; block = cut_records; short = omega arith; is = refl });
  read = refl;
  ended = (omega arith, refl);
}

-- the requests haven't ended where a byte remains; where a read failed there may be more
not_ended_yet : (IsCutRequest numbers (Some (1 ∷ 0 ∷ [])) (Some (0 ∷ [])) ends.Cut → ⊥) × (IsCutRequest numbers (Some (0 ∷ [])) (Some (0 ∷ [])) ends.Gone → ⊥)
not_ended_yet = ((λ cut. absurd (let none = cut.ended.1 in cc)), λ cut. absurd (let none = cut.ended.1 in cc))

failed_within : IsCutRequest numbers (Some (1 ∷ 0 ∷ [])) (Some (0 ∷ [])) ends.InputFailed
failed_within = record { part = 1 ∷ []; unfinished = inl (omega arith); read = refl; ended = tt }

not_by_a_write : IsCutRequest numbers (Some []) (Some []) ends.OutputFailed → ⊥
not_by_a_write cut = cut.ended

-- a whole request isn't cut: no request for the end is passed over
not_a_whole_one : (end : TalkEnd) → IsCutRequest numbers (Some (zeros 16)) (Some []) end → ⊥
not_a_whole_one end cut = by cut.part (cut.read ∙ append-nil cut.part) cut.unfinished
  where
    no_growth : (head block : List ℕ) (count : ℕ) → zeros 16 ≡ head ++ block → IsRequestHead head (head_of (requests.Grow count)) → ⊥
    no_growth head block count is asks =
        let same : zeros 16 ≡ head = ap (take 16) is ∙ take_at head block 16 asks.len in
        let kind = subst (λ (bytes : List ℕ). IsRequestHead bytes (head_of (requests.Grow count))) (sym same) asks in
        absurd (let one = kind.kind in cc)

    by : (part : List ℕ) → zeros 16 ≡ part → (length part < 16) ⊎ IsPartOfGrowth numbers part → ⊥
    by part is (inl short) = let long = ap length is in absurd (omega arith)
    by part is (inr grows) = no_growth grows.head grows.block grows.count (is ∙ grows.is) grows.asks

-- ---- conversations

module _ (live : Phase ℕ) (seat : Seated ℕ) where
  asked_for_the_end : IsExchange numbers live seat end seat
  asked_for_the_end = record {
    numbers = head_of requests.End;
    head = end_is_zeros;
    told = inr (record { request = requests.End; is = refl; told = (refl, refl, refl, refl) });
  }

  abbrev Talked : List ℕ → List ℕ → List ℕ → TalkEnd → Type 0
  Talked input remains written by = HasTalked numbers live seat seat (Some input) (Some remains) (Some []) (Some written) by

  talked : Talked (zeros 16 ++ 7 ∷ []) (7 ∷ []) (zeros 24) ends.Ended
  talked = record {
    exchanges = end ∷ [];
    are = (seat, refl, asked_for_the_end);
    rest = Some (7 ∷ []);
    requests = refl;
    answers = λ _. refl;
    ends = (refl, All-nil _, refl);
  }

  said_nothing : Talked (1 ∷ []) [] [] ends.Cut
  said_nothing = record {
    exchanges = [];
    are = refl;
    rest = Some (1 ∷ []);
    requests = refl;
    answers = λ _. refl;
    ends = (All-nil _, record { part = 1 ∷ []; unfinished = inl (omega arith); read = refl; ended = (omega arith, refl) });
  }

  -- what was told of a request isn't nothing
  told_some : (e : Exchange ℕ) (earlier : List (Exchange ℕ)) → [] ≡ told numbers (e ∷ earlier) → ⊥
  told_some e earlier none =
      let status = to_le_bytes w32 (numbers_of e.answer).status in
      let count = to_le_bytes w32 (length e.records) in
      let first = to_le_bytes w64 (numbers_of e.answer).first in
      let second = to_le_bytes w64 (numbers_of e.answer).second in
      let records = flat_map numbers.bytes_of e.records in
      let all = length-append (told numbers earlier) (answer_bytes numbers e.answer e.records) in
      let a = length-append (status ++ count ++ first ++ second) records in
      let b = length-append (status ++ count ++ first) second in
      let long : length second ≡ 8 = refl in
      let is = ap length none in
      absurd (omega arith)

  -- the end isn't told by silence
  not_silent : Talked (zeros 16) [] [] ends.Ended → ⊥
  not_silent has = by has.exchanges has.rest (has.answers (λ (is : ends.Ended ≡ ends.OutputFailed). absurd cc)) has.ends
    where
      by : (exchanges : List (Exchange ℕ)) (rest : Option (List ℕ)) → [] ≡ [] ++ told numbers (told_of ends.Ended exchanges)
          → EndsSo numbers rest (Some []) ends.Ended exchanges → ⊥
      by [] rest none so = so
      by (e ∷ earlier) rest none so = told_some e earlier none

  -- and a request isn't passed over
  not_passed_over : Talked (zeros 16) [] [] ends.Cut → ⊥
  not_passed_over has = by has.exchanges has.rest (has.answers (λ (is : ends.Cut ≡ ends.OutputFailed). absurd cc)) has.requests has.ends
    where
      by : (exchanges : List (Exchange ℕ)) (rest : Option (List ℕ)) → [] ≡ [] ++ told numbers (told_of ends.Cut exchanges)
          → Consumes (Some (zeros 16)) rest (asked exchanges) → EndsSo numbers rest (Some []) ends.Cut exchanges → ⊥
      by [] None none reads so = reads
      by [] (Some rest) none reads so = not_a_whole_one ends.Cut (subst (λ (bytes : List ℕ). IsCutRequest numbers (Some bytes) (Some []) ends.Cut) (sym reads) so.1)
      by (e ∷ earlier) rest none reads so = told_some e earlier none
