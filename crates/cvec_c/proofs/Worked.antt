-- Worked images of what C is told: the numbers and the homes of a file, a file that is made or appended to, a frame, the bytes of
-- records and the numbers of refusals, each with the nearest that it must not be told.
use Rattle.std.proofs.Common.{◌≡◌, ℕ, zero, suc, ◌+◌, ◌^◌, ◌<◌, inl, inr, List, [], ◌∷◌, ◌++◌, length, drop, Option, Some, None, refl, sym, ap, subst, ◌∙◌, arith, length-append}
use Rattle.std.specs.Prelude.{slice_get}
use Rattle.std.specs.Int.{w64, to_le_bytes}
use Rattle.record_core.specs.Bytes.{Encoding, unsigned}
use Rattle.record_core.specs.Cells.{AreRecords}
use Rattle.segment_core.specs.declared.fault.Cause.TheVariants as causes
use Rattle.segment_core.specs.declared.fault.ScanFault.{ScanFault}
use Rattle.segment_core.specs.declared.fault.ScanFault.TheVariants as faults
use Rattle.segment_core.specs.declared.found.Home.{Home}
use Rattle.segment_core.specs.declared.format.Format.{Format}
use Rattle.segment_core.specs.declared.format.Format.TheVariants.{One, Two}
use Rattle.segment_core.specs.declared.format.Shape.{Shape}
use Rattle.segment_core.specs.Shape.{version_of, shape_of}
use Rattle.segment_core.specs.Frame.{Frame, Group, text, frame_text}
use Rattle.segment_core.specs.Tally.{tally_of, AreLegal}
use Rattle.segment_core.specs.Image.{HasFrames}
use Rattle.segment_core.specs.Vector.{place_of, record_at}
use Rattle.segment_core.specs.Fault.{frame_fault, frame_lines, damaged, header_fault, header_lines}
use Rattle.segment_core.specs.Found.{StandsAt}
use Rattle.segment_core.specs.Reading.{BeginsWith}
use Rattle.segment_core.proofs.Longest.{NoFrame_fault, is_longest}
use Rattle.segment_core.proofs.Refusals.{longest_closed}
use Rattle.segment_core.proofs.OneVector.{one_list, sound_header, same_vector}
use Rattle.c_core.specs.declared.refusal.Refusal.{Refusal}
use Rattle.c_core.specs.declared.refusal.Refusal.TheVariants as refusals
use Rattle.c_core.specs.Kind.{OfKind}
use Rattle.c_core.specs.Records.{AreWritten}
use Rattle.c_core.specs.Refusal.{code_of, of_scan}
use Rattle.c_core.proofs.NoRecords.{not_whole}
use Rattle.cvec_c.specs.declared.frame.CvecFrame.{CvecFrame}
use Rattle.cvec_c.specs.declared.stat.CvecStat.{CvecStat}
use Rattle.cvec_c.specs.declared.fault.CvecFault.{CvecFault}
use Rattle.cvec_c.specs.Stat.{HasStat, ToldOf}
use Rattle.cvec_c.specs.Fault.{fault_record}
use Rattle.cvec_c.specs.Append.{first_refusal, append_lines, AppendsTo, AppendsBytes, AnswersFor}
use Rattle.cvec_c.specs.Empty.{empty_lines, Creates}
use Rattle.cvec_c.specs.Frame.{IsFrameTold, IsNoFrame}
use Rattle.cvec_c.specs.Homes.{as_homes, HasHomes, TellsHomes, NeedsRoom}
use Rattle.cvec_c.specs.Reading.{ReadsBytes}
use Rattle.cvec_c.proofs.Append.{stays, has_grown}
use Rattle.cvec_c.proofs.Creates.{creates}

abbrev numbers : Encoding ℕ
numbers = unsigned w64

abbrev one : Shape
one = shape_of One numbers

abbrev number : ℕ → List ℕ
number n = to_le_bytes w64 n

-- ---- numbers: one image has one vector, and is told of by one list of numbers

module _ {R : Type 0} (form : Encoding R) (small : form.width < 2 ^ 16) (image : List ℕ) (a b : List R) (s t : CvecStat) (has : HasStat form image a s) (other : HasStat form image b t) where
  format_same : has.format ≡ other.format
  format_same =
      sym (sound_header has.format form.width image has.frames small has.vector.framed).names
      ∙ (sound_header other.format form.width image other.frames small other.vector.framed).names

  here : HasFrames (shape_of has.format form) image other.frames
  here = subst (λ f. HasFrames (shape_of f form) image other.frames) (sym format_same) other.vector.framed

  frames_same : has.frames ≡ other.frames
  frames_same = one_list (shape_of has.format form) image has.frames other.frames has.vector.framed (longest_closed (shape_of has.format form) image other.frames here)

  pub one_vector : a ≡ b
  one_vector = same_vector has.format other.format form image has.frames other.frames a b small has.vector other.vector

  gates_same : length (text (shape_of has.format form) has.frames) ≡ length (text (shape_of other.format form) other.frames)
  gates_same = λ i. length (text (shape_of (format_same i) form) (frames_same i))

  pub one_stat : s ≡ t
  one_stat = λ i. record {
    size = (has.size_is ∙ ap length one_vector ∙ sym other.size_is) i;
    frames = (has.frames_are ∙ ap length frames_same ∙ sym other.frames_are) i;
    changes = (has.changes_are ∙ ap (λ (fs : List Frame). (tally_of fs).changes) frames_same ∙ sym other.changes_are) i;
    folded = (has.folded_is ∙ ap (λ (fs : List Frame). (tally_of fs).folded) frames_same ∙ sym other.folded_is) i;
    gate = (has.gate_is ∙ gates_same ∙ sym other.gate_is) i;
    width = (has.width_is ∙ sym other.width_is) i;
    version = (has.version_is ∙ ap version_of format_same ∙ sym other.version_is) i;
  }

abbrev empty_file : List ℕ
empty_file = text one [] ++ 0 ∷ []

abbrev empty_stat : CvecStat
empty_stat = record { size = 0; frames = 0; changes = 0; folded = 0; gate = 11; width = 8; version = 1 }

has_nothing : HasStat numbers empty_file [] empty_stat
has_nothing = record {
  format = One;
  frames = [];
  vector = record {
    framed = record { legal = tt; closed = (0, [], (λ (opened : 0 ≡ 1). absurd (omega arith)), refl) };
    read = record { size = refl; each = λ i lt. absurd (omega arith) };
  };
  version_is = refl;
  width_is = refl;
  size_is = refl;
  frames_are = refl;
  changes_are = refl;
  folded_is = refl;
  gate_is = refl;
}

only_first : (P : ℕ → Type 0) → P 0 → (i : ℕ) → i < 1 → P i
only_first P first zero lt = first
only_first P first (suc i) lt = absurd (omega arith)

-- a growth of one number
abbrev group : ℕ → Frame
group n = Group (1 ∷ []) (number n)

abbrev file_of : ℕ → List ℕ
file_of n = text one (group n ∷ []) ++ 0 ∷ []

abbrev one_number : CvecStat
one_number = record { size = 1; frames = 1; changes = 0; folded = 0; gate = 33; width = 8; version = 1 }

group_legal : (n : ℕ) → length (number n) ≡ 8 → AreLegal one (group n ∷ [])
group_legal n long = (
  record { wide = omega arith; small = omega arith; layout = (omega arith, ((omega arith, omega arith), tt), long) },
  record { ordered = refl; inside = refl; folded = refl; counted = refl; short = refl },
  tt,
)

has_five : HasStat numbers (file_of 5) (5 ∷ []) one_number
unfolding place_of
has_five = record {
  format = One;
  frames = group 5 ∷ [];
  vector = record {
    framed = record { legal = group_legal 5 refl; closed = (0, [], (λ (opened : 0 ≡ 1). absurd (omega arith)), refl) };
    read = record { size = refl; each = only_first (λ i. record_at One numbers (file_of 5) (group 5 ∷ []) i ≡ slice_get (5 ∷ []) i) refl };
  };
  version_is = refl;
  width_is = refl;
  size_is = refl;
  frames_are = refl;
  changes_are = refl;
  folded_is = refl;
  gate_is = refl;
}

narrow : numbers.width < 2 ^ 16
narrow = omega arith

-- neither another record nor another number
not_six : (s : CvecStat) → HasStat numbers (file_of 5) (6 ∷ []) s → ⊥
not_six s has = absurd (let same = one_vector numbers narrow (file_of 5) (6 ∷ []) (5 ∷ []) s one_number has has_five in cc)

just_its_numbers : (records : List ℕ) (s : CvecStat) → HasStat numbers (file_of 5) records s → (records ≡ 5 ∷ []) × (s ≡ one_number)
just_its_numbers records s has = (
  one_vector numbers narrow (file_of 5) records (5 ∷ []) s one_number has has_five,
  one_stat numbers narrow (file_of 5) records (5 ∷ []) s one_number has has_five,
)

-- ---- homes

abbrev home : ℕ → ℕ → Home
home place count = record { position = 0; place = place; count = count }

five_at_home : HasHomes numbers (file_of 5) (5 ∷ []) one_number (home 25 1 ∷ [])
five_at_home = record { holds = has_five; in_turn = (refl, refl); stand = λ none. only_first _ refl }

-- one byte on there stand other records
not_a_byte_on : HasHomes numbers (file_of 5) (5 ∷ []) one_number (home 26 1 ∷ []) → ⊥
not_a_byte_on has = absurd (let stand = has.stand (omega arith) 0 (omega arith) in cc)

no_home_less : HasHomes numbers (file_of 5) (5 ∷ []) one_number [] → ⊥
no_home_less has = let turn = has.in_turn in absurd (omega arith)

no_record_more : HasHomes numbers (file_of 5) (5 ∷ []) one_number (home 25 2 ∷ []) → ⊥
no_record_more has = let turn = has.in_turn.1 in absurd (omega arith)

no_other_vector : (s : CvecStat) (homes : List Home) → HasHomes numbers (file_of 5) (6 ∷ []) s homes → ⊥
no_other_vector s homes has = not_six s has.holds

homes_of_c : as_homes (record { position = 3; place = 25; count = 2 } ∷ []) ≡ record { position = 3; place = 25; count = 2 } ∷ []
homes_of_c = refl

-- ---- appending

are_five : AreRecords numbers (number 5) (5 ∷ [])
are_five = record { filled = refl; each = only_first _ refl }

abbrev bytes_of_five : List ℕ
bytes_of_five = frame_text One (group 5) ++ 0 ∷ []

spelled : (format : Format) → bytes_of_five ≡ frame_text format (group 5) ++ 0 ∷ []
spelled One = refl
spelled Two = refl

sized : (r : ℕ) → length (number r) ≡ 8
sized r = refl

five_appended : AppendsTo numbers empty_stat (5 ∷ []) bytes_of_five one_number
five_appended = record {
  before = λ image other records stat same shut. stays numbers empty_stat image other records stat same shut;
  after = λ image other records stat same stands.
      has_grown numbers empty_stat image other records stat same (5 ∷ []) bytes_of_five one_number (omega arith) sized (omega arith) spelled (refl, tt) (omega arith) (omega arith) stands
      refl refl refl refl refl (λ few. refl) (omega arith) refl;
  next_gate = refl;
}

-- what such bytes promise of a crash: the old file while the gate is shut, and with them there the new one
module _ (bytes : List ℕ) (next : CvecStat) (new : List ℕ) (appends : AppendsTo numbers empty_stat new bytes next) where
  shut_is_old : HasStat numbers (text one [] ++ 0 ∷ 9 ∷ 9 ∷ []) [] empty_stat
  shut_is_old = appends.before empty_file (text one [] ++ 0 ∷ 9 ∷ 9 ∷ []) [] has_nothing refl (omega arith, λ (opened : 0 ≡ 1). absurd (omega arith))

  torn_is_old : HasStat numbers (text one [] ++ 2 ∷ []) [] empty_stat
  torn_is_old = appends.before empty_file (text one [] ++ 2 ∷ []) [] has_nothing refl (omega arith, λ (opened : 2 ≡ 1). absurd (omega arith))

  there_is_new : StandsAt (text one [] ++ bytes) 11 bytes → HasStat numbers (text one [] ++ bytes) new next
  there_is_new stands = appends.after empty_file (text one [] ++ bytes) [] has_nothing refl stands

-- the bytes of a five append no six, and nothing else than one number
no_six_appended : (next : CvecStat) → AppendsTo numbers empty_stat (6 ∷ []) bytes_of_five next → ⊥
no_six_appended next appends = not_six next (there_is_new bytes_of_five next (6 ∷ []) appends refl)

just_one_appended : (next : CvecStat) → AppendsTo numbers empty_stat (5 ∷ []) bytes_of_five next → next ≡ one_number
just_one_appended next appends = (just_its_numbers (5 ∷ []) next (there_is_new bytes_of_five next (5 ∷ []) appends refl)).1

-- with one byte more the next gate isn't the last of them
not_a_byte_more : AppendsTo numbers empty_stat (5 ∷ []) (bytes_of_five ++ 0 ∷ []) one_number → ⊥
not_a_byte_more appends = let gate = appends.next_gate in absurd (omega arith)

no_gate_at_33 : frame_fault one 33 (tally_of (group 5 ∷ [])) [] ≡ Some (damaged 33 causes.NoGate)
unfolding frame_fault frame_lines
no_gate_at_33 = refl

-- without the gate behind it no frame ends
not_ended : (frames : List Frame) → HasFrames one (text one (group 5 ∷ [])) frames → ⊥
not_ended frames has =
    let image = text one (group 5 ∷ []) in
    let longest = is_longest one (group 5 ∷ []) image [] (group_legal 5 refl) refl (NoFrame_fault one 33 (tally_of (group 5 ∷ [])) [] (damaged 33 causes.NoGate) no_gate_at_33) in
    let same : frames ≡ group 5 ∷ [] = one_list one image frames (group 5 ∷ []) has longest in
    let size : length image ≡ length (text one frames) + suc (length has.closed.1) = ap length has.closed.3 ∙ length-append (text one frames) (has.closed.0 ∷ has.closed.1) in
    let again : length (text one frames) ≡ length image = ap (λ fs. length (text one fs)) same in
    absurd (omega arith)

not_without_its_gate : (next : CvecStat) → AppendsTo numbers empty_stat (5 ∷ []) (frame_text One (group 5)) next → ⊥
not_without_its_gate next appends =
    let has = there_is_new (frame_text One (group 5)) next (5 ∷ []) appends refl in
    let names = (sound_header has.format 8 (text one (group 5 ∷ [])) has.frames narrow has.vector.framed).names in
    not_ended has.frames (subst (λ f. HasFrames (shape_of f numbers) (text one (group 5 ∷ [])) has.frames) (sym names) has.vector.framed)

-- ---- creating

empty_created : Creates empty_file empty_stat ℕ numbers
empty_created = creates One numbers empty_file 1 8 refl refl refl

module _ (bytes : List ℕ) (stat : CvecStat) (made : Creates bytes stat ℕ numbers) where
  no_file_yet : header_fault 8 (0 ∷ 67 ∷ []) ≡ Some faults.Unborn
  no_file_yet = made.before (0 ∷ 67 ∷ []) (λ (opened : 0 ≡ 1). absurd (omega arith))

  then_a_file : StandsAt bytes 0 bytes → HasStat numbers bytes [] stat
  then_a_file stands = made.after bytes stands

no_other_numbers : (stat : CvecStat) → Creates empty_file stat ℕ numbers → stat ≡ empty_stat
no_other_numbers stat made = one_stat numbers narrow empty_file [] [] stat empty_stat (then_a_file empty_file stat made refl) has_nothing

not_of_a_growth : (stat : CvecStat) → Creates (file_of 5) stat ℕ numbers → ⊥
not_of_a_growth stat made = absurd (let same = one_vector numbers narrow (file_of 5) [] (5 ∷ []) stat one_number (then_a_file (file_of 5) stat made refl) has_five in cc)

-- ---- a frame

abbrev fields : CvecFrame
fields = record { first_record = 25; next = 33; payload_len = 16; growths = 1; records = 1; kind = 1 }

group_begins : BeginsWith one (drop 11 (file_of 5)) (group 5)
group_begins = record { whole = record { wide = omega arith; small = omega arith; layout = (omega arith, ((omega arith, omega arith), tt), refl) }; text = (0 ∷ [], refl) }

five_told : IsFrameTold (file_of 5) 11 1 8 fields
five_told = record {
  format = One;
  frame = group 5;
  version_is = refl;
  begins = group_begins;
  kind_is = refl;
  payload_len_is = refl;
  growths_are = refl;
  records_are = refl;
  first_record_is = refl;
  next_is = refl;
}

-- where one stands it isn't told that none does
not_none : IsNoFrame (file_of 5) 11 1 8 → ⊥
not_none none = none One refl (group 5) group_begins

-- ---- records as bytes, of the type of a number: 3 is that of u64, 2 that of u32, and 14 that of none

five_read : OfKind (ReadsBytes (file_of 5) 0 (number 9) (number 5) 1 one_number) 3
five_read = (5 ∷ [], has_five, record { count_is = refl; written = refl })

no_six_read : OfKind (ReadsBytes (file_of 5) 0 (number 9) (number 6) 1 one_number) 3 → ⊥
no_six_read reads =
    let same = one_vector numbers narrow (file_of 5) reads.0 (5 ∷ []) one_number one_number reads.1 has_five in
    let are = subst (λ (rs : List ℕ). AreWritten numbers rs 0 (number 9) (number 6) 1) same reads.2 in
    absurd (let written = are.written in cc)

not_of_another_type : OfKind (ReadsBytes (file_of 5) 0 (number 9) (number 5) 1 one_number) 2 → ⊥
not_of_another_type reads = let width = reads.1.width_is in absurd (omega arith)

not_of_no_type : OfKind (ReadsBytes (file_of 5) 0 (number 9) (number 5) 1 one_number) 14 → ⊥
not_of_no_type reads = reads

one_home_told : OfKind (TellsHomes (file_of 5) (record { position = 0; place = 25; count = 1 } ∷ record { position = 9; place = 9; count = 9 } ∷ []) 1 one_number) 3
one_home_told = (5 ∷ [], five_at_home)

not_none_told : OfKind (TellsHomes (file_of 5) (record { position = 0; place = 25; count = 1 } ∷ []) 0 one_number) 3 → ⊥
not_none_told tells =
    let same = one_vector numbers narrow (file_of 5) tells.0 (5 ∷ []) one_number one_number tells.1.holds has_five in
    no_home_less (subst (λ (rs : List ℕ). HasHomes numbers (file_of 5) rs one_number []) same tells.1)

room_for_one : OfKind (NeedsRoom (file_of 5) 1) 3
room_for_one = (5 ∷ [], one_number, home 25 1 ∷ [], five_at_home, refl)

bytes_appended : OfKind (AppendsBytes empty_stat (number 5) (bytes_of_five ++ 9 ∷ []) one_number) 3
bytes_appended = (5 ∷ [], are_five, five_appended)

no_six_for_five : (records : List ℕ) → AreRecords numbers (number 6) records → AppendsTo numbers empty_stat records bytes_of_five one_number → records ≡ 5 ∷ []
no_six_for_five records are appends = (just_its_numbers records one_number (there_is_new bytes_of_five one_number records appends refl)).0

-- the bytes of a six aren't appended by those of a five
not_six_appended : OfKind (AppendsBytes empty_stat (number 6) (bytes_of_five ++ 9 ∷ []) one_number) 3 → ⊥
not_six_appended appends =
    let same = no_six_for_five appends.0 appends.1 appends.2 in
    let are = subst (λ (rs : List ℕ). AreRecords numbers (number 6) rs) same appends.1 in
    absurd (let first = are.each 0 (omega arith) in cc)

-- ---- answers where records come as bytes

a_byte_more : AnswersFor empty_stat (number 5 ++ 0 ∷ []) 99 13 ℕ numbers
a_byte_more = inr (inr (refl, not_whole numbers (number 5 ++ 0 ∷ []) 8 refl (λ whole. absurd (omega arith))))

-- of less than one record none is whole
a_byte_less : AnswersFor empty_stat (5 ∷ 0 ∷ 0 ∷ 0 ∷ 0 ∷ 0 ∷ 0 ∷ []) 99 7 ℕ numbers
a_byte_less = refl

-- a record isn't refused as none, nor before a test that fails
not_refused_as_none : AnswersFor empty_stat (number 5) 99 13 ℕ numbers → ⊥
not_refused_as_none answer = elim answer [
  | inl done ↦ absurd (omega arith)
  | inr others ↦ elim others [ inl memory ↦ absurd (omega arith) | inr none ↦ none.1 (5 ∷ []) are_five ]
]

not_done_without_room : AnswersFor empty_stat (number 5) 22 0 ℕ numbers → ⊥
not_done_without_room answer = absurd (omega arith)

-- ---- refusals

-- the first one that holds is told
abbrev asked : ℕ → ℕ → ℕ → CvecStat → Option Refusal
asked width records room stat = first_refusal (append_lines width stat records room)

refusals_in_order :
    (asked 8 1 23 empty_stat ≡ None)
    × (asked 8 1 22 empty_stat ≡ Some refusals.NoRoom)
    × (asked 8 0 0 empty_stat ≡ Some refusals.Empty)
    × (asked 4 0 0 empty_stat ≡ Some refusals.Width)
    × (asked 4 0 0 (record empty_stat { version = 3 }) ≡ Some refusals.Version)
    × (asked 8 131071 2000000 empty_stat ≡ None)
    × (asked 8 131072 2000000 empty_stat ≡ Some refusals.TooLarge)
    × (asked 8 131072 2000000 (record empty_stat { version = 2 }) ≡ None)
    × (asked 8 2 99 (record empty_stat { size = 4294967294 }) ≡ None)
    × (asked 8 3 99 (record empty_stat { size = 4294967294 }) ≡ Some refusals.OutOfRange)
    × (asked 8 1 0 (record empty_stat { gate = 281474976710634 }) ≡ Some refusals.FileFull)
    × (asked 8 1 99 (record empty_stat { gate = 281474976710633 }) ≡ None)
refusals_in_order = (refl, refl, refl, refl, refl, refl, refl, refl, refl, refl, refl, refl)

refusals_of_an_empty_file : (first_refusal (empty_lines 2 12) ≡ None) × (first_refusal (empty_lines 2 11) ≡ Some refusals.NoRoom) × (first_refusal (empty_lines 0 0) ≡ Some refusals.Version)
refusals_of_an_empty_file = (refl, refl, refl)

told_in_numbers : (fault_record (damaged 33 causes.ShortFrame) ≡ record { at = 33; cause = 2; found = 0 }) × (fault_record (damaged 34 (causes.Kind 5)) ≡ record { at = 34; cause = 3; found = 5 })
    × (fault_record (faults.Width 4) ≡ record { at = 0; cause = 0; found = 4 }) × (code_of (of_scan (damaged 33 causes.ShortFrame)) ≡ 5) × (code_of (of_scan (faults.Width 4)) ≡ 4)
told_in_numbers = (refl, refl, refl, refl, refl)

-- of no bytes it is told that there is no file yet, and nothing else
unborn : ToldOf [] 1 (record { at = 0; cause = 0; found = 0 }) ℕ numbers
unfolding header_lines
unborn = (faults.Unborn, inl refl, refl, refl)

unborn_alone : (answer : ℕ) (fault : CvecFault) → ToldOf [] answer fault ℕ numbers → answer ≡ 1
unfolding header_lines
unborn_alone answer fault is = elim is.1 [ inl first ↦ is.2 ∙ ap (λ (f : ScanFault). code_of (of_scan f)) first | inr memory ↦ absurd (let none = memory.1 in cc) ]
