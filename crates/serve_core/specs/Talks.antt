-- What one client asks and is told.
use Rattle.std.specs.Prelude.{◌≡◌, ◌≢◌, ◌⊎◌, ℕ, ◌+◌, ◌*◌, ◌<◌, ◌≤◌, true, false, List, [], ◌∷◌, ◌++◌, length, take, All, Contains, Option, None, Some}
use Rattle.std.specs.Io.KnownBytes.{Consumes, Appends, IsAtEnd}
use Rattle.record_core.specs.Bytes.{Encoding}
use Rattle.record_core.specs.Cells.{AreRecords, IsFirstBad}
use Rattle.record_core.specs.Limits.{payload_limit}
use Rattle.block_core.specs.Growth.{Growth}
use Rattle.block_core.specs.Length.{IsBlockLength, payload_len}
use Rattle.book_core.specs.declared.fault.GrowFault.TheVariants as faults
use Rattle.book_core.specs.declared.mark.MarkState.{MarkState}
use Rattle.book_core.specs.declared.mark.MarkState.TheVariants as states
use Rattle.book_core.specs.declared.seat.Receipt.{Receipt}
use Rattle.book_core.specs.Lists.{Phase, Seated, HasJustItsOwn, IsRestOfPiece, seat_list, seat_pieces}
use Rattle.book_core.specs.Growing.{Grown, SeatLearns, SeatIsTold, IsBookRefusal, IsStray, size_of}
use Rattle.serve_core.specs.declared.refusal.RequestRefusal.{RequestRefusal}
use Rattle.serve_core.specs.declared.refusal.RequestRefusal.TheVariants as refusals
use Rattle.serve_core.specs.declared.request.Head.{Head}
use Rattle.serve_core.specs.declared.request.ClientRequest.{ClientRequest}
use Rattle.serve_core.specs.declared.request.ClientRequest.TheVariants as requests
use Rattle.serve_core.specs.declared.reply.Reply.{Reply}
use Rattle.serve_core.specs.declared.reply.Reply.TheVariants as answers
use Rattle.serve_core.specs.declared.talking.TalkEnd.{TalkEnd}
use Rattle.serve_core.specs.declared.talking.TalkEnd.TheVariants.{Ended, Gone, Cut, InputFailed, Refused, OutputFailed, Memory}
use Rattle.serve_core.specs.Requests.{IsRequestHead, head_of, IsNoRequest}
use Rattle.serve_core.specs.Answers.{answer_bytes, ends_talk}

-- why a request may not be of so many records
abbrev pub IsCountRefusal : ℕ → ℕ → RequestRefusal → Type 0
IsCountRefusal width n refusals.NoRecord = n ≡ 0
IsCountRefusal width n refusals.TooMany = payload_limit < payload_len width n
IsCountRefusal width n other = ⊥

-- every growth that the seat made has a number below that
abbrev pub AllBelow : {R : Type 0} → ℕ → Seated R → Type 0
AllBelow n seat = All (λ growth. growth.number < n) seat.made

-- the number next to the last of the growths that were made; 0 where there are none
pub record IsNextOf {R : Type 0} (next : ℕ) (made : List (Growth R)) : Type 0 where
  pub below : All (λ growth. growth.number < next) made
  pub last : 0 < next → (growth : Growth R) × Contains made growth × (growth.number + 1 ≡ next)

-- by what the mark told, one of the growths that the seat made isn't settled
abbrev pub HasUnsettled : {R : Type 0} → Seated R → Type 0
HasUnsettled {R} seat = (growth : Growth R) × Contains seat.made growth × (seat.mark.told.count ≤ growth.number)

-- so many records may be grown, and these are the bytes of so many
pub record IsBlock (width count : ℕ) (block : List ℕ) : Type 0 where
  pub len : IsBlockLength width count
  pub bytes : length block ≡ count * width

-- the bytes are just so many records
pub record IsBlockOfRecords {R : Type 0} (form : Encoding R) (count : ℕ) (block : List ℕ) : Type 0 where
  pub bytes : IsBlock form.width count block
  pub records : List R
  pub len : length records ≡ count
  pub are : AreRecords form block records

-- why the bytes of a block aren't read as so many records
abbrev pub IsUnread : {R : Type 0} → Encoding R → ℕ → List ℕ → RequestRefusal → Type 0
IsUnread form count block refusals.BadRecord = (i : ℕ) × IsFirstBad form block count i
IsUnread form count block refusals.Memory = Unit {0}
IsUnread form count block other = ⊥

-- why so many records aren't grown, told a seat that is then this
abbrev pub IsGrowRefusal : {R : Type 0} → Phase R → ℕ → Seated R → RequestRefusal → Type 0
IsGrowRefusal live n seat refusals.Memory = Unit {0}
IsGrowRefusal live n seat refusals.Closed = IsBookRefusal live seat n faults.Closed
IsGrowRefusal live n seat refusals.Full = IsBookRefusal live seat n faults.Full
IsGrowRefusal live n seat refusals.TooLong = IsBookRefusal live seat n faults.TooLong
IsGrowRefusal live n seat refusals.Strayed = (k : ℕ) × IsBookRefusal live seat n (faults.Strayed k)
IsGrowRefusal live n seat other = ⊥

-- Why a growth of so many records by these bytes isn't made, told a seat that is then this. Of the first three no bytes were
-- read; of the last four the book refused records that are some.
abbrev pub IsGrowthRefusal : {R : Type 0} → Encoding R → Phase R → ℕ → List ℕ → Seated R → RequestRefusal → Type 0
IsGrowthRefusal form live count block seat refusals.NoRecord = (count ≡ 0) × (block ≡ [])
IsGrowthRefusal form live count block seat refusals.TooMany = (payload_limit < payload_len form.width count) × (block ≡ [])
IsGrowthRefusal form live count block seat refusals.NoMemory = IsBlockLength form.width count × (block ≡ [])
IsGrowthRefusal form live count block seat refusals.BadRecord = IsBlock form.width count block × IsUnread form count block refusals.BadRecord
IsGrowthRefusal form live count block seat refusals.Memory = IsBlock form.width count block
IsGrowthRefusal form live count block seat refusals.Closed = IsBlockOfRecords form count block × IsGrowRefusal live count seat refusals.Closed
IsGrowthRefusal form live count block seat refusals.Full = IsBlockOfRecords form count block × IsGrowRefusal live count seat refusals.Full
IsGrowthRefusal form live count block seat refusals.TooLong = IsBlockOfRecords form count block × IsGrowRefusal live count seat refusals.TooLong
IsGrowthRefusal form live count block seat refusals.Strayed = IsBlockOfRecords form count block × IsGrowRefusal live count seat refusals.Strayed
IsGrowthRefusal form live count block seat other = ⊥

-- What a seat is told of a growth of so many records by these bytes: it made one growth, of just the records that the bytes
-- are, and is told its number and its start; or it made none, and is told why.
abbrev pub IsOfGrowth : {R : Type 0} → Encoding R → Phase R → ℕ → List ℕ → Seated R → Seated R → Reply → Type 0
IsOfGrowth {R} form live count block old new (answers.Grown number start) =
    (has : IsBlockOfRecords form count block)
    × (receipt : Receipt) × Grown live old new has.records receipt × (receipt.number ≡ number) × (receipt.start ≡ start)
IsOfGrowth form live count block old new (answers.Refused refusal) = SeatLearns old new × IsGrowthRefusal form live count block new refusal
IsOfGrowth form live count block old new other = ⊥

-- what a seat is told of a growth by these records
abbrev pub IsOfRecords : {R : Type 0} → Phase R → List R → Seated R → Seated R → Reply → Type 0
IsOfRecords live records old new (answers.Grown number start) = (receipt : Receipt) × Grown live old new records receipt × (receipt.number ≡ number) × (receipt.start ≡ start)
IsOfRecords live records old new (answers.Refused refusal) = SeatLearns old new × IsGrowRefusal live (length records) new refusal
IsOfRecords live records old new other = ⊥

-- no more is settled: the server has ended, or the file refused
abbrev pub IsOverRefusal : MarkState → RequestRefusal → Type 0
IsOverRefusal states.Ended refusal = refusal ≡ refusals.Ended
IsOverRefusal states.Broken refusal = refusal ≡ refusals.Broken
IsOverRefusal states.Running refusal = ⊥

-- Of waiting: so many growths are settled, and all that the seat made are among them; or one of them isn't, and the mark is
-- over, as the refusal says.
abbrev pub IsOfWaiting : {R : Type 0} → Seated R → Seated R → Reply → Type 0
IsOfWaiting old new (answers.Settled growths) = SeatIsTold old new growths new.mark.told.state × AllBelow growths new
IsOfWaiting old new (answers.Refused refusal) = SeatIsTold old new new.mark.told.count new.mark.told.state × IsOverRefusal new.mark.told.state refusal × HasUnsettled new
IsOfWaiting old new other = ⊥

-- why a seat isn't told of the size
abbrev pub IsLookRefusal : {R : Type 0} → Seated R → RequestRefusal → Type 0
IsLookRefusal seat refusals.Strayed = (n : ℕ) × IsStray seat n
IsLookRefusal seat other = ⊥

-- Of looking: the size that it then knows, where of its own growths its list has just those that it made, and how many growths
-- the mark then tells as settled.
abbrev pub IsOfLooking : {R : Type 0} → Phase R → Seated R → Seated R → Reply → Type 0
IsOfLooking {R} live old new (answers.Looked size settled) =
    (mid : Seated R) × SeatLearns old mid × HasJustItsOwn mid × (size ≡ size_of live mid) × (state : MarkState) × SeatIsTold mid new settled state
IsOfLooking live old new (answers.Refused refusal) = SeatLearns old new × IsLookRefusal new refusal
IsOfLooking live old new other = ⊥

-- Of reading: the records from that position on, to the end of the piece that has it, at most so many; none past the end.
abbrev pub IsOfReading : {R : Type 0} → Encoding R → Phase R → ℕ → ℕ → Seated R → Seated R → Reply → List R → Type 0
IsOfReading {R} form live start count old new (answers.Piece at) records =
    (at ≡ start) × (new ≡ old) × IsBlockLength form.width count
    × (((length (seat_list live old) ≤ start) × (records ≡ [])) ⊎ ((rest : List R) × IsRestOfPiece (seat_pieces live old) start rest × (records ≡ take count rest)))
IsOfReading form live start count old new (answers.Refused refusal) records = (new ≡ old) × (records ≡ []) × IsCountRefusal form.width count refusal
IsOfReading form live start count old new other records = ⊥

-- the request is all in its head
abbrev pub IsNoGrowth : ClientRequest → Type 0
IsNoGrowth request = (count : ℕ) → request ≡ requests.Grow count → ⊥

-- What is told of a request with these bytes behind its head.
abbrev pub IsOfRequest : {R : Type 0} → Encoding R → Phase R → ClientRequest → List ℕ → Seated R → Seated R → Reply → List R → Type 0
IsOfRequest form live requests.End block old new answer records = (answer ≡ answers.Ended) × (block ≡ []) × (new ≡ old) × (records ≡ [])
IsOfRequest form live (requests.Grow count) block old new answer records = IsOfGrowth form live count block old new answer × (records ≡ [])
IsOfRequest form live requests.Await block old new answer records = IsOfWaiting old new answer × (block ≡ []) × (records ≡ [])
IsOfRequest form live requests.Look block old new answer records = IsOfLooking live old new answer × (block ≡ []) × (records ≡ [])
IsOfRequest form live (requests.Read start count) block old new answer records = IsOfReading form live start count old new answer records × (block ≡ [])

-- A request and what was told: the bytes of its head and those behind it, the answer and its records.
pub record Exchange (R : Type 0) : Type 0 where
  pub head : List ℕ
  pub block : List ℕ
  pub answer : Reply
  pub records : List R

-- no request has this head, and that was told
pub record IsTurnedAway {R : Type 0} (head : Head) (old : Seated R) (e : Exchange R) (new : Seated R) : Type 0 where
  pub refusal : RequestRefusal
  pub none : IsNoRequest head refusal
  pub told : e.answer ≡ answers.Refused refusal
  pub block : e.block ≡ []
  pub records : e.records ≡ []
  pub same : new ≡ old

-- the request was answered
pub record IsAnswered {R : Type 0} (form : Encoding R) (live : Phase R) (head : Head) (old : Seated R) (e : Exchange R) (new : Seated R) : Type 0 where
  pub request : ClientRequest
  pub is : head ≡ head_of request
  pub told : IsOfRequest form live request e.block old new e.answer e.records

pub record IsExchange {R : Type 0} (form : Encoding R) (live : Phase R) (old : Seated R) (e : Exchange R) (new : Seated R) : Type 0 where
  pub numbers : Head
  pub head : IsRequestHead e.head numbers
  pub told : IsTurnedAway numbers old e new ⊎ IsAnswered form live numbers old e new

-- one request was read and done
pub record IsDone {R : Type 0} (form : Encoding R) (live : Phase R) (old new : Seated R) (input rest : Option (List ℕ)) : Type 0 where
  pub exchange : Exchange R
  pub is : IsExchange form live old exchange new
  pub read : Consumes input rest (exchange.head ++ exchange.block)

-- Why no more is read behind this part of a request, where this is the rest: the requests ended, before the request or
-- within it; or a read failed.
abbrev pub EndsReading : Option (List ℕ) → List ℕ → TalkEnd → Type 0
EndsReading rest part Gone = (part ≡ []) × IsAtEnd rest
EndsReading rest part Cut = (0 < length part) × IsAtEnd rest
EndsReading rest part InputFailed = Unit {0}
EndsReading rest part other = ⊥

-- Of so many bytes that were asked for only a part was read, and then no more was.
pub record IsCutRead (asked : ℕ) (input rest : Option (List ℕ)) (end : TalkEnd) : Type 0 where
  pub part : List ℕ
  pub short : length part < asked
  pub read : Consumes input rest part
  pub ended : EndsReading rest part end

-- requests that end before the records of a growth end within a request
abbrev pub end_within : TalkEnd → TalkEnd
end_within Gone = Cut
end_within other = other

-- so of the records of a growth that may be made
pub record IsCutGrowth {R : Type 0} (form : Encoding R) (count : ℕ) (input rest : Option (List ℕ)) (end : TalkEnd) : Type 0 where
  pub len : IsBlockLength form.width count
  pub by : TalkEnd
  pub cut : IsCutRead (count * form.width) input rest by
  pub within : end ≡ end_within by

-- the bytes are the head of a growth that may be made, and fewer than its records have
pub record IsPartOfGrowth {R : Type 0} (form : Encoding R) (part : List ℕ) : Type 0 where
  pub count : ℕ
  pub len : IsBlockLength form.width count
  pub head : List ℕ
  pub asks : IsRequestHead head (head_of (requests.Grow count))
  pub block : List ℕ
  pub short : length block < count * form.width
  pub is : part ≡ head ++ block

-- Of a request less than its head was read, maybe nothing, or the head of a growth and a part of its records; and then no
-- more was.
pub record IsCutRequest {R : Type 0} (form : Encoding R) (input rest : Option (List ℕ)) (end : TalkEnd) : Type 0 where
  pub part : List ℕ
  pub unfinished : (length part < 16) ⊎ IsPartOfGrowth form part
  pub read : Consumes input rest part
  pub ended : EndsReading rest part end

-- Why nothing is told: the request was cut, and the seat is as it was; or there was no memory to tell what was done.
abbrev pub IsUntold : {R : Type 0} → Encoding R → Phase R → Seated R → Seated R → Option (List ℕ) → Option (List ℕ) → TalkEnd → Type 0
IsUntold form live old new input rest Gone = (new ≡ old) × IsCutRequest form input rest Gone
IsUntold form live old new input rest Cut = (new ≡ old) × IsCutRequest form input rest Cut
IsUntold form live old new input rest InputFailed = (new ≡ old) × IsCutRequest form input rest InputFailed
IsUntold form live old new input rest Memory = IsDone form live old new input rest
IsUntold form live old new input rest other = ⊥

-- one after the other, the newest first
abbrev pub AreExchanges : {R : Type 0} → Encoding R → Phase R → Seated R → List (Exchange R) → Seated R → Type 0
AreExchanges form live old [] new = new ≡ old
AreExchanges {R} form live old (e ∷ earlier) new = (mid : Seated R) × AreExchanges form live old earlier mid × IsExchange form live mid e new

-- the bytes that were read for them
abbrev pub asked : {R : Type 0} → List (Exchange R) → List ℕ
asked [] = []
asked (e ∷ earlier) = asked earlier ++ (e.head ++ e.block)

-- and those that tell the answers
abbrev pub told : {R : Type 0} → Encoding R → List (Exchange R) → List ℕ
told form [] = []
told form (e ∷ earlier) = told form earlier ++ answer_bytes form e.answer e.records

-- a conversation goes on behind that answer
abbrev pub TalkGoesOn : Reply → Type 0
TalkGoesOn answers.Ended = ⊥
TalkGoesOn (answers.Refused refusal) = ends_talk refusal ≡ false
TalkGoesOn other = Unit {0}

-- or ends so
abbrev pub EndsTalk : TalkEnd → Reply → Type 0
EndsTalk end answers.Ended = end ≡ Ended
EndsTalk end (answers.Refused refusal) = (ends_talk refusal ≡ true) × (end ≡ Refused refusal)
EndsTalk end other = ⊥

abbrev pub AllGoOn : {R : Type 0} → List (Exchange R) → Type 0
AllGoOn exchanges = All (λ e. TalkGoesOn e.answer) exchanges

-- How a conversation ends so behind these requests, where `rest` is what the stream has behind them and `remains` what was
-- left of that. Where the stream ended or couldn't be read on, the conversation goes on behind all answers, and of the next
-- request no more than a part was read. Else no byte was read behind the requests, and it goes on behind all answers but the
-- newest: with that one it ends, unless that couldn't be told.
abbrev pub EndsSo : {R : Type 0} → Encoding R → Option (List ℕ) → Option (List ℕ) → TalkEnd → List (Exchange R) → Type 0
EndsSo form rest remains Gone exchanges = AllGoOn exchanges × IsCutRequest form rest remains Gone
EndsSo form rest remains Cut exchanges = AllGoOn exchanges × IsCutRequest form rest remains Cut
EndsSo form rest remains InputFailed exchanges = AllGoOn exchanges × IsCutRequest form rest remains InputFailed
EndsSo form rest remains end [] = ⊥
EndsSo form rest remains OutputFailed (e ∷ earlier) = AllGoOn earlier × (remains ≡ rest)
EndsSo form rest remains Memory (e ∷ earlier) = AllGoOn earlier × (remains ≡ rest)
EndsSo form rest remains end (e ∷ earlier) = EndsTalk end e.answer × AllGoOn earlier × (remains ≡ rest)

-- those that were told: all but the newest, where there was no memory for its answer
abbrev pub told_of : {R : Type 0} → TalkEnd → List (Exchange R) → List (Exchange R)
told_of Memory (e ∷ earlier) = earlier
told_of end exchanges = exchanges

-- What came of a conversation: its requests are what the stream began with, each was done by the seat as it was then, which
-- is now as they left it, and just their answers were written, unless a write failed. It ended as the answers and the rest
-- of the stream say.
pub record HasTalked {R : Type 0} (form : Encoding R) (live : Phase R) (seat now : Seated R) (input remains output written : Option (List ℕ)) (end : TalkEnd) : Type 0 where
  pub exchanges : List (Exchange R)
  pub are : AreExchanges form live seat exchanges now
  pub rest : Option (List ℕ)
  pub requests : Consumes input rest (asked exchanges)
  pub answers : end ≢ OutputFailed → Appends output written (told form (told_of end exchanges))
  pub ends : EndsSo form rest remains end exchanges

-- What a client's thread did: it talked, to that end; or nothing, where not every client has a thread.
abbrev pub HasFinished : {R : Type 0} → Encoding R → Phase R → Seated R → Seated R → Option (List ℕ) → Option (List ℕ) → Option (List ℕ) → Option (List ℕ) → Option TalkEnd → Type 0
HasFinished form live seat now input remains output written None = (now ≡ seat) × (remains ≡ input) × (written ≡ output)
HasFinished form live seat now input remains output written (Some end) = HasTalked form live seat now input remains output written end
