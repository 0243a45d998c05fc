-- What is sound of the first bytes of a disk.
use Rattle.std.proofs.Common.{◌≡◌, ◌⊎◌, ℕ, min, List, [], ◌∷◌, ◌++◌, length, length-take, take, inl, inr, sym, ap, subst, ◌∙◌, arith}
use Rattle.std.proofs.lemmas.Bool.{cases_lt}
use Rattle.std.proofs.lemmas.List.{append-nil, take_all}
use Rattle.record_core.specs.Bytes.{Encoding}
use Rattle.disk_core.specs.State.{State, now, IsImage}
use Rattle.disk_core.specs.Calls.{bytes_of, Stays}
use Rattle.disk_core.specs.Moments.{LeavesOnly}
use Rattle.disk_core.proofs.JoinedMoments.{LeavesOnly-join, LeavesOnly-weaker}
use Rattle.segment_core.specs.Fault.{damaged, IsFirstFault, IsRefused}
use Rattle.segment_core.specs.Frame.{closed_gate}
use Rattle.segment_core.specs.Scanned.{IsScanOf}
use Rattle.segment_core.specs.declared.vector.Scanned.{Scanned}
use Rattle.segment_core.specs.declared.fault.Cause.{Cause}
use Rattle.segment_core.specs.declared.fault.Cause.TheVariants.{NoGate, ShortFrame}
use Rattle.segment_core.specs.declared.fault.ScanFault.TheVariants.{Memory}
use Rattle.pen_core.specs.declared.fault.OpenFault.{OpenFault}
use Rattle.pen_core.specs.declared.fault.OpenFault.TheVariants.{Scan, Disk}
use Rattle.pen_core.specs.Opening.{IsOpenRefusal}
use Rattle.pen_core.specs.Typed.{OpensTo}
use Rattle.pen_core.proofs.Pieces.{reads_behind}
use Rattle.files_core.specs.SoundFront.{closed_at, IsCutAt, IsNoCutOf, IsSoundFront, IsFrontRefusal}

-- two reads behind a call of the length
pub read_twice : (old last mid new : List State) → Stays old last → now mid ≡ now last → LeavesOnly last mid (IsImage (now last)) → now new ≡ now mid
    → LeavesOnly mid new (IsImage (now mid)) → LeavesOnly old new (IsImage (now old))
read_twice old last mid new stays same leaves again then =
    reads_behind old last new stays (again ∙ same)
    (LeavesOnly-join last mid new (IsImage (now last)) leaves (LeavesOnly-weaker mid new (IsImage (now mid)) (IsImage (now last)) (λ image left. subst (λ s. IsImage s image) same left) then))

opens_by : {R : Type 0} (form : Encoding R) (image : List ℕ) (scanned : Scanned R) → IsScanOf form image scanned → OpensTo form image scanned.records.items
opens_by form image scanned scan = record { format = scan.format; frames = scan.frames; vector = scan.vector }

no_memory : (at : ℕ) (cause : Cause) → damaged at cause ≡ Memory → ⊥
no_memory at cause is = cc is

-- the fault of a refusal that isn't memory
fault_of : {R : Type 0} (form : Encoding R) (image : List ℕ) (at : ℕ) (cause : Cause) → IsRefused form image (damaged at cause) → IsFirstFault form image (damaged at cause)
fault_of form image at cause refused = elim refused [
  | inl first ↦ first
  | inr memory ↦ absurd (no_memory at cause memory.0)
]

take_least : (at n : ℕ) (bytes : List ℕ) → n ≡ min (length bytes) at → take n bytes ≡ take at bytes
take_least at n bytes least = elim (cases_lt at (length bytes)) [
  | inl lt ↦ (let is : n ≡ at = omega arith in ap (λ k. take k bytes) is)
  | inr ge ↦ take_all n bytes (omega arith) ∙ sym (take_all at bytes ge)
]

module _ {R : Type 0} (form : Encoding R) (old last : List State) (len at n : ℕ) (stays : Stays old last) (is : len ≡ length (bytes_of old)) (least : n ≡ min len at) where
  front_is : take n (bytes_of last) ++ [] ≡ take at (bytes_of old)
  front_is = append-nil (take n (bytes_of last)) ∙ ap (λ (ss : List State). take n (bytes_of ss)) stays ∙ take_least at n (bytes_of old) (omega (arith, is, least))

  pub sound_whole : (scanned : Scanned R) (records : List R) → records ≡ scanned.records.items → IsScanOf form (take n (bytes_of last) ++ []) scanned
      → IsSoundFront form (bytes_of old) at (length records)
  sound_whole scanned records same scan = record {
    records = scanned.records.items;
    count = ap length same;
    file = inl (subst (λ (bs : List ℕ). OpensTo form bs scanned.records.items) front_is (opens_by form (take n (bytes_of last) ++ []) scanned scan));
  }

  pub refused_whole : (fault : OpenFault) → IsNoCutOf n fault → IsOpenRefusal form (take n (bytes_of last) ++ []) fault → IsFrontRefusal form (bytes_of old) at fault
  refused_whole (Scan fault) none refused =
      let size = length-take at (bytes_of old) in
      inl (subst (λ (bs : List ℕ). IsRefused form bs fault) front_is refused, λ end le lt. none end (omega (arith, size, is, least, le)) lt)
  refused_whole (Disk cause) none refused = tt

  pub cut_at : (end : ℕ) (fault : OpenFault) → (fault ≡ Scan (damaged end NoGate)) ⊎ (fault ≡ Scan (damaged end ShortFrame))
      → IsOpenRefusal form (take n (bytes_of last) ++ []) fault → IsCutAt form (take at (bytes_of old)) end
  cut_at end fault (inl no_gate) refused =
      inl (subst (λ (bs : List ℕ). IsFirstFault form bs (damaged end NoGate)) front_is
      (fault_of form (take n (bytes_of last) ++ []) end NoGate (subst (IsOpenRefusal form (take n (bytes_of last) ++ [])) no_gate refused)))
  cut_at end fault (inr short) refused =
      inr (subst (λ (bs : List ℕ). IsFirstFault form bs (damaged end ShortFrame)) front_is
      (fault_of form (take n (bytes_of last) ++ []) end ShortFrame (subst (IsOpenRefusal form (take n (bytes_of last) ++ [])) short refused)))

  module _ (mid : List State) (same : now mid ≡ now last) (end : ℕ) (cut : IsCutAt form (take at (bytes_of old)) end) where
    closed_is : take end (bytes_of mid) ++ closed_gate ∷ [] ≡ closed_at end (bytes_of old)
    closed_is = ap (λ s. take end s.seen ++ closed_gate ∷ []) (same ∙ ap now stays)

    pub sound_cut : (scanned : Scanned R) (records : List R) → records ≡ scanned.records.items
        → IsScanOf form (take end (bytes_of mid) ++ closed_gate ∷ []) scanned → IsSoundFront form (bytes_of old) at (length records)
    sound_cut scanned records equal scan = record {
      records = scanned.records.items;
      count = ap length equal;
      file = inr (end, cut, subst (λ (bs : List ℕ). OpensTo form bs scanned.records.items) closed_is (opens_by form (take end (bytes_of mid) ++ closed_gate ∷ []) scanned scan));
    }

    pub refused_cut : (fault : OpenFault) → IsOpenRefusal form (take end (bytes_of mid) ++ closed_gate ∷ []) fault → IsFrontRefusal form (bytes_of old) at fault
    refused_cut (Scan fault) refused = inr (end, cut, subst (λ (bs : List ℕ). IsRefused form bs fault) closed_is refused)
    refused_cut (Disk cause) refused = tt
