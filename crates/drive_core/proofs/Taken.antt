-- A group that the flusher takes.
use Rattle.std.proofs.Common.{◌≡◌, inl, inr, ℕ, ◌+◌, ◌-◌, ◌≤◌, ◌<◌, false, List, [], ◌∷◌, length, map, take, drop, Option, Some, None, refl, sym, ap, subst, ◌∙◌, arith}
use Rattle.std.proofs.lemmas.List.{take-map, length-take-le, length-map, length-drop}
use Rattle.segment_core.specs.Written.{payload_len, group_frame}
use Rattle.segment_core.specs.Shape.{limit_of}
use Rattle.segment_core.specs.declared.format.Format.{Format}
use Rattle.segment_core.specs.declared.format.Format.TheVariants.{One, Two}
use Rattle.pen_core.specs.Pen.{BeginsFrame, IsUnchanged}
use Rattle.pen_core.specs.Refusals.{first_refusal, IsRefusal, ready_lines, is_full}
use Rattle.pen_core.specs.declared.step.PenStep.TheVariants.{Body}
use Rattle.pen_core.specs.declared.fault.PenFault.{PenFault}
use Rattle.pen_core.specs.declared.fault.PenFault.TheVariants as pen
use Rattle.block_core.specs.Growth as block
use Rattle.directory_core.specs.Chain.{IsPrefix}
use Rattle.flush_core.specs.Flusher.{FlusherOf, untaken}
use Rattle.flush_core.specs.Group.{IsGreatest}
use Rattle.flush_core.specs.Refusals.{IsTakeFault}
use Rattle.flush_core.specs.declared.fault.FlushFault.{FlushFault}
use Rattle.flush_core.specs.declared.fault.FlushFault.TheVariants as flush
use Rattle.drive_core.specs.declared.fault.StepFault.{StepFault}
use Rattle.drive_core.specs.declared.fault.StepFault.TheVariants.{Vault}
use Rattle.vault_core.specs.declared.fault.VaultFault.TheVariants as vault
use Rattle.drive_core.specs.Line.{Allows, of_flush}
use Rattle.drive_core.specs.Medium.{Medium}
use Rattle.drive_core.specs.Step.{Answer}
use Rattle.drive_core.specs.Step as step
use Rattle.drive_core.specs.World.{World, GrowthPhase, Growing, Hand, as_pen, fitting, waiting, next_group, command_records}
use Rattle.drive_core.specs.GrowthRows.{with_group, take_lines, room_for_group}
use Rattle.drive_core.specs.Ties.{GrowingOf, IsGrowing, IsBehindStep, grow_of, growths_in_hand, disk_of}
use Rattle.drive_core.specs.GrowthTies.{GrowthStep}
use Rattle.drive_core.proofs.Fitting.{greatest_fits, take-drop, drop-map, records-grown, zero_or_more}
use Rattle.drive_core.proofs.Hands.{hand_unchanged, hand_taken}
use Rattle.drive_core.proofs.Quiet.{quiet_steps, same_hand}
use Rattle.drive_core.proofs.Seats.{begins-le}
use Rattle.drive_core.proofs.Steps.{answered}
use Rattle.drive_core.proofs.Tables.{passes, pen_passes, pen_stops, pen_refuses}
use Rattle.drive_core.proofs.Ties.{growths_are, other_flusher, flushes_on, behind_of}

module _ {R D : Type 0} {m : Medium R D} {w : World R} {phase : GrowthPhase} {g : GrowingOf R D} (tie : IsGrowing m w phase g) where
  -- ---- the growths that wait

  abbrev format : Format
  format = g.flusher.pen.shape.format

  limit_four : (format : Format) → 4 ≤ limit_of format
  limit_four One = omega arith
  limit_four Two = omega arith

  waiting_are : waiting w phase ≡ untaken g.flusher
  waiting_are =
      let f = g.flusher in
      let n : ℕ = phase.flusher - phase.taken in
      let known : take phase.flusher tie.entries ≡ f.pass.entries = ap (λ n. take n tie.entries) tie.flusher.known_is ∙ tie.flusher.knows in
      let left : take n (drop phase.taken tie.entries) ≡ drop f.taken f.pass.entries
      = take-drop phase.taken phase.flusher tie.entries ∙ ap (drop phase.taken) known ∙ ap (λ t. drop t f.pass.entries) tie.flusher.taken_is in
      ap (λ cs. map command_records (take n (drop phase.taken cs))) (growths_are tie)
      ∙ ap (λ cs. map command_records (take n cs)) (drop-map grow_of phase.taken tie.entries)
      ∙ ap (map command_records) (take-map grow_of n (drop phase.taken tie.entries))
      ∙ records-grown (take n (drop phase.taken tie.entries))
      ∙ ap (map (λ (e : block.Growth R). e.records)) left

  -- the group that is next is what the flusher takes
  next_is : (n : ℕ) → IsGreatest m.form.width (limit_of format) (untaken g.flusher) n → next_group m.form.width w phase ≡ take n (untaken g.flusher)
  next_is n greatest =
      ap (λ gs. take (fitting m.form.width (limit_of w.hand.file.shape.format - 4) gs) gs) waiting_are
      ∙ ap (λ (h : Hand). take (fitting m.form.width (limit_of h.file.shape.format - 4) (untaken g.flusher)) (untaken g.flusher)) tie.hand_is
      ∙ ap (λ k. take k (untaken g.flusher)) (greatest_fits m.form.width (limit_of format) (untaken g.flusher) n (limit_four format) greatest)

  taken_all : (n : ℕ) → 0 < n → n ≤ length (untaken g.flusher) → phase.taken + n ≤ length tie.entries
  taken_all n some there =
      let long = length-map (drop g.flusher.taken g.flusher.pass.entries) (λ (e : block.Growth R). e.records) in
      let left = length-drop g.flusher.taken g.flusher.pass.entries in
      let known = begins-le g.flusher.pass.entries tie.entries tie.flusher.knows in
      let taken = tie.flusher.taken_is in
      omega (arith, some, there, long, left, known, taken)

  -- the world behind it
  with_some : (growths : List (List R)) → 0 < length growths → with_group m.form w phase growths ≡ record w {
    phase = Growing (record phase { taken = phase.taken + length growths });
    hand = record w.hand { job = Some (record { frame = group_frame m.form growths; step = Body }) };
  }
  with_some [] some = absurd (omega (arith, some))
  with_some (growth ∷ growths) some = refl

  -- ---- the table

  abbrev TakeAllows : List (List R) → Option StepFault → Type 0
  TakeAllows growths answer = Allows (take_lines m.form.width w.hand growths) answer

  -- the tables of the pen are those of the world
  ready_same : first_refusal (ready_lines (as_pen w.hand 0)) ≡ first_refusal (ready_lines g.flusher.pen)
  ready_same = ap (λ (h : Hand). first_refusal (ready_lines (as_pen h 0))) tie.hand_is

  full_same : (payload : ℕ) → is_full (as_pen w.hand 0) payload ≡ is_full g.flusher.pen payload
  full_same payload = ap (λ (h : Hand). is_full (as_pen h 0) payload) tie.hand_is

  room_passes : (growths : List (List R)) → is_full (as_pen w.hand 0) (payload_len m.form.width growths) ≡ false → Allows (room_for_group m.form.width w.hand growths) None
  room_passes [] room = refl
  room_passes (growth ∷ growths) room = passes _ (Vault (vault.Pen pen.FileFull)) _ None room (inr refl)

  room_stops : (growths : List (List R)) (fault : PenFault) → 0 < length growths → IsRefusal ((is_full (as_pen w.hand 0) (payload_len m.form.width growths), pen.FileFull) ∷ []) fault
      → Allows (room_for_group m.form.width w.hand growths) (Some (Vault (vault.Pen fault)))
  room_stops [] fault some why = absurd (omega (arith, some))
  room_stops (growth ∷ growths) fault some why = pen_refuses ((is_full (as_pen w.hand 0) (payload_len m.form.width (growth ∷ growths)), pen.FileFull) ∷ []) [] fault why

  -- ---- the flusher behind it

  module _ (new : FlusherOf R D) (pass_same : new.pass ≡ g.flusher.pass) (settled_same : new.settled ≡ g.flusher.settled) where
    settled_is : w.settled ≡ phase.before + new.settled
    settled_is = tie.flusher.settled_is ∙ ap (λ n. phase.before + n) (sym settled_same)

    group_tie : (growths : List (List R)) → new.taken ≡ g.flusher.taken + length growths → phase.taken + length growths ≤ length tie.entries → g.flusher.pen.job ≡ None
        → BeginsFrame (group_frame m.form growths) g.flusher.pen new.pen → (some : 0 < length growths) → IsBehindStep m (with_group m.form w phase growths) (record g { flusher = new })
    group_tie growths more within_all idle begun some =
        subst (λ x. IsBehindStep m x (record g { flusher = new })) (sym (with_some growths some)) (behind_of
        (other_flusher tie (Growing (record phase { taken = phase.taken + length growths })) phase.flusher (phase.taken + length growths) w.settled
        (record w.hand { job = Some (record { frame = group_frame m.form growths; step = Body }) }) w.disk new refl (record {
          knows = subst (λ (p : _). IsPrefix p.entries tie.entries) (sym pass_same) tie.flusher.knows;
          known_is = tie.flusher.known_is ∙ ap (λ (p : _). length p.entries) (sym pass_same);
          taken_is = ap (λ t. t + length growths) tie.flusher.taken_is ∙ sym more;
          taken_within = within_all;
          job_brings = brings;
          settled_is = settled_is;
        })
        ((λ i. record (tie.hand_is i) { job = Some (record { frame = group_frame m.form growths; step = Body }) }) ∙ sym (hand_taken g.flusher.pen new.pen (group_frame m.form growths) begun))
        (tie.disk_is ∙ ap (disk_of m.states m.faults) (sym begun.disk_same))))
      where
        brings : new.taken ≡ new.settled + growths_in_hand new.pen.job
        brings =
            let was = tie.flusher.job_brings in
            let none : growths_in_hand g.flusher.pen.job ≡ 0 = ap growths_in_hand idle in
            let all : growths_in_hand new.pen.job ≡ length growths = ap growths_in_hand begun.job_is ∙ length-map growths length in
            omega (arith, was, none, all, more, settled_same)

    -- nothing was begun
    none_tie : IsUnchanged g.flusher.pen new.pen → new.taken ≡ g.flusher.taken → IsBehindStep m w (record g { flusher = new })
    none_tie same taken = behind_of (other_flusher tie w.phase phase.flusher phase.taken w.settled w.hand w.disk new tie.phase_is
        (flushes_on tie pass_same taken (let was = tie.flusher.job_brings in let job = ap growths_in_hand same.job_same in omega (arith, was, job, taken, settled_same)) settled_is)
        (tie.hand_is ∙ sym (hand_unchanged g.flusher.pen new.pen same)) (tie.disk_is ∙ ap (disk_of m.states m.faults) (sym same.disk_same)))

    pub take_refuses : {answer : Answer R} (fault : FlushFault) → answer ≡ step.Refused (of_flush fault) → IsTakeFault m.form.width g.flusher fault → IsUnchanged g.flusher.pen new.pen
        → new.taken ≡ g.flusher.taken
        → GrowthStep m w (record g { flusher = new }) step.Take answer 0
    take_refuses (flush.Strayed number) is why same taken = absurd why
    take_refuses (flush.Pen fault) is why same taken = answered is (quiet_steps tie w (inr (Vault (vault.Pen fault), table, refl, refl)) refl refl tie.calm (none_tie same taken))
      where
        table : TakeAllows (next_group m.form.width w phase) (Some (Vault (vault.Pen fault)))
        table = elim why [
          | inl ready ↦ pen_stops (ready_lines (as_pen w.hand 0)) _ fault (ready_same ∙ ready)
          | inr not ↦
              let group = take not.count (untaken g.flusher) in
              let long = length-take-le not.count (untaken g.flusher) not.greatest.there in
              let some = not.some in
              subst (λ gs. TakeAllows gs (Some (Vault (vault.Pen fault)))) (sym (next_is not.count not.greatest))
              (pen_passes (ready_lines (as_pen w.hand 0)) _ (Some (Vault (vault.Pen fault))) (ready_same ∙ not.ready)
              (room_stops group fault (omega (arith, long, some)) (subst (λ b. IsRefusal ((b, pen.FileFull) ∷ []) fault) (sym (full_same (payload_len m.form.width group))) not.why)))
        ]

    module _ (n : ℕ) (more : new.taken ≡ g.flusher.taken + n) (greatest : IsGreatest m.form.width (limit_of format) (untaken g.flusher) n)
        (ready : first_refusal (ready_lines g.flusher.pen) ≡ None) where
      abbrev group : List (List R)
      group = take n (untaken g.flusher)

      long : length group ≡ n
      long = length-take-le n (untaken g.flusher) greatest.there

      next_long : length (next_group m.form.width w phase) ≡ n
      next_long = ap length (next_is n greatest) ∙ long

      took_none : n ≡ 0 → new ≡ g.flusher → GrowthStep m w (record g { flusher = new }) step.Take (step.Took (length (next_group m.form.width w phase))) 0
      took_none nothing same =
          let empty : next_group m.form.width w phase ≡ [] = next_is n greatest ∙ ap (λ k. take k (untaken g.flusher)) nothing in
          same_hand (λ i. record g { flusher = same i }) (quiet_steps tie w
          (inl (subst (λ gs. TakeAllows gs None) (sym empty) (pen_passes (ready_lines (as_pen w.hand 0)) [] None (ready_same ∙ ready) refl), (refl, ap (with_group m.form w phase) (sym empty))))
          refl refl tie.calm (behind_of tie))

      took_some : 0 < n → g.flusher.pen.job ≡ None → BeginsFrame (group_frame m.form group) g.flusher.pen new.pen → is_full g.flusher.pen (payload_len m.form.width group) ≡ false
          → GrowthStep m w (record g { flusher = new }) step.Take (step.Took (length (next_group m.form.width w phase))) 0
      took_some some idle begun room =
          let next = next_is n greatest in
          let there : 0 < length group = omega (arith, some, long) in
          let all = taken_all n some greatest.there in
          let passed = room_passes group (full_same (payload_len m.form.width group) ∙ room) in
          quiet_steps tie (with_group m.form w phase group)
          (inl (subst (λ gs. TakeAllows gs None) (sym next) (pen_passes (ready_lines (as_pen w.hand 0)) _ None (ready_same ∙ ready) passed), (refl, ap (with_group m.form w phase) (sym next))))
          refl (ap (λ (x : World R). x.disk) (with_some group there)) (ap (λ (x : World R). x.strayed) (with_some group there) ∙ tie.calm)
          (group_tie group (more ∙ ap (λ k. g.flusher.taken + k) (sym long)) (omega (arith, all, long)) idle begun there)

      pub take_answers : {answer : Answer R} → answer ≡ step.Took n → (0 < n → BeginsFrame (group_frame m.form group) g.flusher.pen new.pen) → (n ≡ 0 → new ≡ g.flusher)
          → (0 < n → is_full g.flusher.pen (payload_len m.form.width group) ≡ false) → g.flusher.pen.job ≡ None → GrowthStep m w (record g { flusher = new }) step.Take answer 0
      take_answers is begun none room idle = answered (is ∙ ap step.Took (sym next_long)) (elim (zero_or_more n) [
        | inl nothing ↦ took_none nothing (none nothing)
        | inr some ↦ took_some some idle (begun some) (room some)
      ])
