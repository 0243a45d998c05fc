-- The answers to a client, as bytes.
use Rattle.std.specs.Prelude.{ℕ, nat_lt, Bool, List, ◌++◌, length}
use Rattle.std.specs.List.{flat_map}
use Rattle.std.specs.Int.{w32, w64, to_le_bytes}
use Rattle.record_core.specs.Bytes.{Encoding}
use Rattle.book_core.specs.declared.fault.GrowFault.{GrowFault}
use Rattle.book_core.specs.declared.fault.GrowFault.TheVariants as faults
use Rattle.serve_core.specs.declared.refusal.RequestRefusal.{RequestRefusal}
use Rattle.serve_core.specs.declared.refusal.RequestRefusal.TheVariants.{UnknownKind, StrayNumber, NoRecord, TooMany, BadRecord, NoMemory, Memory, Closed, Full, TooLong, Strayed, Ended, Broken}
use Rattle.serve_core.specs.declared.reply.Reply.{Reply}
use Rattle.serve_core.specs.declared.reply.Reply.TheVariants as answers
use Rattle.serve_core.specs.declared.reply.Numbers.{Numbers}

abbrev pub refusal_code : RequestRefusal → ℕ
refusal_code UnknownKind = 1
refusal_code StrayNumber = 2
refusal_code NoRecord = 3
refusal_code TooMany = 4
refusal_code BadRecord = 5
refusal_code NoMemory = 6
refusal_code Memory = 7
refusal_code Closed = 8
refusal_code Full = 9
refusal_code TooLong = 10
refusal_code Strayed = 11
refusal_code Ended = 12
refusal_code Broken = 13

-- a conversation ends behind the first six
abbrev pub ends_talk : RequestRefusal → Bool
ends_talk refusal = nat_lt (refusal_code refusal) 7

abbrev pub refusal_of_growth : GrowFault → RequestRefusal
refusal_of_growth faults.Closed = Closed
refusal_of_growth faults.Full = Full
refusal_of_growth faults.TooLong = TooLong
refusal_of_growth (faults.Strayed number) = Strayed
refusal_of_growth faults.Memory = Memory
refusal_of_growth faults.Empty = NoRecord
refusal_of_growth faults.TooLarge = TooMany

abbrev pub numbers_of : Reply → Numbers
numbers_of answers.Ended = record { status = 0; first = 0; second = 0 }
numbers_of (answers.Grown number start) = record { status = 0; first = number; second = start }
numbers_of (answers.Settled growths) = record { status = 0; first = growths; second = 0 }
numbers_of (answers.Looked size settled) = record { status = 0; first = size; second = settled }
numbers_of (answers.Piece start) = record { status = 0; first = start; second = 0 }
numbers_of (answers.Refused refusal) = record { status = refusal_code refusal; first = 0; second = 0 }

-- Its 24 bytes, status, count of the records, and the two numbers; then those of the records.
abbrev pub answer_bytes : {R : Type 0} → Encoding R → Reply → List R → List ℕ
answer_bytes form answer records =
    let numbers = numbers_of answer in
    to_le_bytes w32 numbers.status ++ to_le_bytes w32 (length records) ++ to_le_bytes w64 numbers.first ++ to_le_bytes w64 numbers.second ++ flat_map form.bytes_of records
