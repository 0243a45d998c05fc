-- A script, part by part.
use Rattle.std.proofs.Common.{◌≡◌, ℕ, ◌+◌, ◌<◌, suc, List, [], ◌∷◌, ◌++◌, length, map, drop, get_or, refl, sym, ap, ◌∙◌, subst, add-one, drop-cons}
use Rattle.std.proofs.lemmas.List.{append_assoc}
use Rattle.record_core.specs.Bytes.{Encoding}
use Rattle.disk_core.specs.declared.ram.RamDisk.{RamDisk}
use Rattle.disk_core.specs.RamDisk.{states_of, faults_of}
use Rattle.disk_core.specs.State.{now, settled}
use Rattle.disk_core.specs.Choice.{IsChosen}
use Rattle.drive_core.specs.declared.step.Step as code_step
use Rattle.drive_core.specs.Asked.{step_of}
use Rattle.drive_core.specs.World.{DiskOf}
use Rattle.play_core.specs.declared.script.ScriptPart as code
use Rattle.play_core.specs.Answers.{crashed_line}
use Rattle.play_core.specs.Script.{PartOf, ScriptOf, part_of}
use Rattle.play_core.specs.Played.{AreStepsPlayed, IsPartPlayed, ArePartsPlayed, IsScriptPlayed, ram_disk, fresh_disk}

pub is_fresh : (disk : RamDisk) (bytes : List ℕ) → states_of disk ≡ settled bytes ∷ [] → faults_of disk ≡ 0 → ram_disk disk ≡ fresh_disk bytes
is_fresh disk bytes states faults =
    ap (λ s. let d : DiskOf = record { states = s; faults = faults_of disk } in d) states ∙ ap (λ n. let d : DiskOf = record { states = settled bytes ∷ []; faults = n } in d) faults

-- ---- a list from a place on

pub drop_next : {X : Type 0} (xs : List X) (i : ℕ) (x : X) → i < length xs → x ≡ get_or xs i x → drop i xs ≡ x ∷ drop (i + 1) xs
drop_next xs i x inside is = rw add-one (drop-cons xs i x inside ∙ ap (λ y. y ∷ drop (suc i) xs) (sym is))

-- ---- parts

module _ {R : Type 0} (form : Encoding R) (text_of : R → List ℕ) where
  pub steps_played : (old : DiskOf) (steps given : List (code_step.Step R)) (new : DiskOf) (own : List ℕ) → steps ≡ given
      → AreStepsPlayed form text_of old (map step_of steps) new own → AreStepsPlayed form text_of old (map step_of given) new own
  steps_played old steps given new own are played = subst (λ (ss : List (code_step.Step R)). AreStepsPlayed form text_of old (map step_of ss) new own) are played

  pub part_played : (old : DiskOf) (part : code.ScriptPart R) (left : RamDisk) (steps : List (code_step.Step R)) (image own : List ℕ)
      → steps ≡ part.steps.items → AreStepsPlayed form text_of old (map step_of steps) (ram_disk left) own
      → IsChosen part.crash (now (states_of left)) image
      → IsPartPlayed form text_of old (part_of part) image (own ++ crashed_line (length image))
  part_played old part left steps image own are played chosen = record {
    left = ram_disk left;
    own = own;
    steps = steps_played old steps part.steps.items (ram_disk left) own are played;
    chosen = chosen;
    lines = refl;
  }

  -- this is written for the parts of a script in front of these, and this is the disk behind them
  pub record HasPlayed (script : ScriptOf R) (left : List (PartOf R)) (disk : DiskOf) (text : List ℕ) : Type 0 where
    pub bytes : List ℕ
    pub fresh : disk ≡ fresh_disk bytes
    pub goes_on : (rest : List ℕ) → ArePartsPlayed form text_of bytes left script.last rest → IsScriptPlayed form text_of script (text ++ rest)

  pub HasPlayed_more : (script : ScriptOf R) (left more : List (PartOf R)) (part : PartOf R) (disk new : DiskOf) (text after image own : List ℕ)
      → left ≡ part ∷ more → after ≡ text ++ own → IsPartPlayed form text_of disk part image own → new ≡ fresh_disk image
      → HasPlayed script left disk text → HasPlayed script more new after
  HasPlayed_more script left more part disk new text after image own cut appended played fresh before = record {
    bytes = image;
    fresh = fresh;
    goes_on = λ rest so.
        let this = subst (λ (d : DiskOf). IsPartPlayed form text_of d part image own) before.fresh played in
        subst (IsScriptPlayed form text_of script) (sym (append_assoc text own rest) ∙ ap (λ (t : List ℕ). t ++ rest) (sym appended))
        (before.goes_on (own ++ rest) (subst (λ (parts : List (PartOf R)). ArePartsPlayed form text_of before.bytes parts script.last (own ++ rest)) (sym cut) (image, own, rest, this, so, refl)));
  }

  pub HasPlayed_all : (script : ScriptOf R) (left : List (PartOf R)) (disk new : DiskOf) (text after own : List ℕ) → left ≡ [] → after ≡ text ++ own
      → AreStepsPlayed form text_of disk script.last new own → HasPlayed script left disk text → IsScriptPlayed form text_of script after
  HasPlayed_all script left disk new text after own none appended played before =
      let this = subst (λ (d : DiskOf). AreStepsPlayed form text_of d script.last new own) before.fresh played in
      subst (IsScriptPlayed form text_of script) (sym appended)
      (before.goes_on own (subst (λ (parts : List (PartOf R)). ArePartsPlayed form text_of before.bytes parts script.last own) (sym none) (new, this)))
