-- What a server leaves.
use Rattle.std.proofs.Common.{◌≡◌, ◌⊎◌, ℕ, ◌≤◌, List, [], ◌++◌, length, take, get_or, Option, Result, Ok, Err, inl, inr, refl, sym, ap, subst, ◌∙◌, arith}
use lib.Seq.{take-nil}
use Rattle.std.proofs.lemmas.List.{append-nil}
use Rattle.record_core.specs.Bytes.{Encoding}
use Rattle.disk_core.specs.State.{State, IsImage, now}
use Rattle.disk_core.specs.Calls.{bytes_of}
use Rattle.disk_core.specs.Moments.{LeavesOnly, LeftSince}
use Rattle.disk_core.proofs.JoinedMoments.{LeavesOnly-join, LeavesOnly-weaker}
use Rattle.pen_core.specs.Opening.{IsOpened, OnlySyncs}
use Rattle.pen_core.specs.PenOf.{PenOf}
use Rattle.pen_core.specs.Typed.{OpensTo}
use Rattle.directory_core.specs.Chain.{grown_records}
use Rattle.book_core.specs.Lists.{Phase, joined_pieces}
use Rattle.book_core.specs.declared.mark.Raise.{Raise}
use Rattle.flush_core.specs.Flusher.{FlusherOf, IsFlusherOf, OpensToFirst, OpensToJob, ToldIsLeft}
use Rattle.flush_core.specs.Serving.{Serves}
use Rattle.flush_core.proofs.Goes.{Serves-learns}
use Rattle.vault_core.proofs.Handed.{IsFlusherOf-learns}
use Rattle.vault_core.proofs.Owners.{of_growers, stand_among}
use Rattle.vault_core.specs.Vault.{VaultOf, MayHold, list_of}
use Rattle.vault_core.specs.Sharing.{Shares, OpensToGrown}
use Rattle.serve_core.specs.declared.client.Pipes.{Pipes}
use Rattle.serve_core.specs.declared.fault.ServeFault.{ServeFault}
use Rattle.serve_core.specs.declared.fault.ServeFault.TheVariants.{Open, Share, Thread, Flush}
use Rattle.serve_core.specs.Serving.{IsServed, IsAllServed, OpensBehind, IsLeft, ComesBack, IsPhaseLeft}
use Rattle.serve_core.specs.Clients.{HasTakenIn, IsServedTo, IsServerRoom, LeavesClients, RaisesStand, TakesClientsIn}
use Rattle.serve_core.proofs.Clients.{in_order}

module _ {R D : Type 0} (form : Encoding R) (keeps : D → Type 0) (states : D → List State) (disk : D) (vault : VaultOf R D)
    (opened : keeps vault.pen.disk → IsOpened form (bytes_of (states disk)) vault.pen (list_of vault)) (syncs : keeps vault.pen.disk → OnlySyncs (states disk) (states vault.pen.disk)) where
  file : keeps vault.pen.disk → OpensTo form (bytes_of (states disk)) (list_of vault)
  file kept = record { format = (opened kept).format; frames = (opened kept).found; vector = (opened kept).vector }

  before_or : (P : List ℕ → Type 0) → keeps vault.pen.disk → LeavesOnly (states disk) (states vault.pen.disk) (λ image. IsImage (now (states disk)) image ⊎ P image)
  before_or P kept =
      LeavesOnly-weaker (states disk) (states vault.pen.disk) (IsImage (now (states disk))) (λ image. IsImage (now (states disk)) image ⊎ P image)
      (λ image is. inl is) (syncs kept).left_before

  -- the file opens to the list as ever
  nothing_grown : (left : D) → left ≡ vault.pen.disk → ((image : List ℕ) → IsImage (now (states left)) image → OpensTo form image (list_of vault))
      → keeps left → (served : IsServed form states disk left 0) × (served.growths ≡ []) × (served.before ≡ list_of vault)
  nothing_grown left same opens kept =
      let still : keeps vault.pen.disk = subst keeps same kept in (
        record {
          before = list_of vault;
          growths = [];
          file = file still;
          few = omega arith;
          meanwhile =
              subst
              (λ d. LeavesOnly (states disk) (states d) (λ image. IsImage (now (states disk)) image ⊎ OpensToGrown form (list_of vault) [] image))
              (sym same) (before_or (OpensToGrown form (list_of vault) []) still);
          stands = λ image is. record { count = 0; at_least = omega arith; known = omega arith; opens = subst (OpensTo form image) (sym (append-nil (list_of vault))) (opens image is) };
        },
        refl,
        refl,
      )

  -- no phase was begun
  pub handed_back : (back : VaultOf R D) → back ≡ vault → (left : D) → left ≡ back.pen.disk → (keeps vault.pen.disk → vault.sure ≡ list_of vault)
      → (keeps left → (image : List ℕ) → IsImage (now (states left)) image → MayHold form back image) → keeps left
      → (served : IsServed form states disk left 0) × (served.growths ≡ [])
  handed_back back is left same sure images kept =
      let none = nothing_grown left whole (λ image at. one image (subst (λ (v : VaultOf R D). MayHold form v image) is (images kept image at))) kept in
      (none.0, none.1)
    where
      whole : left ≡ vault.pen.disk
      whole = same ∙ ap (λ (v : VaultOf R D). v.pen.disk) is

      one : (image : List ℕ) → MayHold form vault image → OpensTo form image (list_of vault)
      one image (inl opens) = subst (OpensTo form image) (sure (subst keeps whole kept)) opens
      one image (inr opens) = opens

  -- a phase was begun, and none of its clients served
  pub not_started : (live : Phase R) (begun back : FlusherOf R D) → live.blocks ≡ vault.blocks → begun.pen ≡ vault.pen
      → IsFlusherOf (keeps vault.pen.disk) live begun → begun.pass.entries ≡ [] → back ≡ begun
      → (left : D) → left ≡ back.pen.disk → (keeps left → (image : List ℕ) → IsImage (now (states left)) image → OpensToJob form back image)
      → keeps left → (served : IsServed form states disk left 0) × (served.growths ≡ []) × (served.before ≡ list_of vault)
  not_started live begun back blocks pen of none is left same images kept =
      nothing_grown left whole (λ image at. first image (subst (λ (f : FlusherOf R D). OpensToJob form f image) is (images kept image at))) kept
    where
      whole : left ≡ vault.pen.disk
      whole = same ∙ ap (λ (f : FlusherOf R D). f.pen.disk) is ∙ ap (λ (p : PenOf D). p.disk) pen

      opening : begun.opening ≡ list_of vault
      opening = of.opening (subst keeps whole kept) ∙ ap joined_pieces blocks

      list : (n : ℕ) → begun.opening ++ grown_records (take n begun.pass.entries) ≡ list_of vault
      list n = rw (none, take-nil, append-nil) opening

      first : (image : List ℕ) → OpensToJob form begun image → OpensTo form image (list_of vault)
      first image job = subst (OpensTo form image) (list job.kept.count) job.kept.opens

  module _ (live : Phase R) (begun served : FlusherOf R D) (blocks : live.blocks ≡ vault.blocks) (pen : begun.pen ≡ vault.pen)
      (of : IsFlusherOf (keeps served.pen.disk) live served) (goes : Serves form keeps states begun served) where
    opening : keeps served.pen.disk → served.opening ≡ list_of vault
    opening kept = of.opening kept ∙ ap joined_pieces blocks

    pub kept_before : keeps served.pen.disk → keeps vault.pen.disk
    kept_before kept = subst (λ (p : PenOf D). keeps p.disk) pen (goes.model kept)

    first_of : keeps served.pen.disk → (image : List ℕ) → OpensToFirst form begun.settled served image → OpensToGrown form (list_of vault) served.pass.entries image
    first_of kept image first = record {
      count = first.count;
      known = first.known;
      opens = subst (λ (before : List R). OpensTo form image (before ++ grown_records (take first.count served.pass.entries))) (opening kept) first.opens;
    }

    since : keeps served.pen.disk → LeavesOnly (states vault.pen.disk) (states served.pen.disk) (OpensToGrown form (list_of vault) served.pass.entries)
    since kept = subst (λ (p : PenOf D). LeavesOnly (states p.disk) (states served.pen.disk) (OpensToGrown form (list_of vault) served.pass.entries)) pen
        (LeavesOnly-weaker (states begun.pen.disk) (states served.pen.disk) (OpensToFirst form begun.settled served)
        (OpensToGrown form (list_of vault) served.pass.entries) (first_of kept) (goes.images kept))

    now_of : keeps served.pen.disk → (image : List ℕ) → OpensToJob form served image → OpensBehind form (list_of vault) served.pass.entries served.settled image
    now_of kept image job = record {
      count = job.kept.count;
      at_least = job.kept.at_least;
      known = job.kept.known;
      opens = subst (λ (before : List R). OpensTo form image (before ++ grown_records (take job.kept.count served.pass.entries))) (opening kept) job.kept.opens;
    }

    module _ (left : D) (settled : ℕ) (same : left ≡ served.pen.disk) (count_is : settled ≡ served.settled) (few : settled ≤ length served.pass.entries)
        (images : keeps left → (image : List ℕ) → IsImage (now (states left)) image → OpensToJob form served image) (kept : keeps left) where
      last : keeps served.pen.disk
      last = subst keeps same kept

      -- clients were served
      pub was_served : IsServed form states disk left settled
      was_served =
          let P = OpensToGrown form (list_of vault) served.pass.entries in
          let Q : List ℕ → Type 0 = λ image. IsImage (now (states disk)) image ⊎ P image in
          let still = kept_before last in
          record {
            before = list_of vault;
            growths = served.pass.entries;
            file = file still;
            few = few;
            meanwhile = subst (λ d. LeavesOnly (states disk) (states d) Q) (sym same)
                (LeavesOnly-join (states disk) (states vault.pen.disk) (states served.pen.disk) Q (before_or P still)
                (LeavesOnly-weaker (states vault.pen.disk) (states served.pen.disk) P Q (λ image has. inr has) (since last)));
            stands = λ image is.
                let behind = now_of last image (images kept image is) in
                record { count = behind.count; at_least = omega (arith, count_is, behind.at_least); known = behind.known; opens = behind.opens };
          }

      -- what their seats were told stands
      raises_stand : (raises : List Raise) → ToldIsLeft form (states served.pen.disk) served raises → RaisesStand form (states left) (list_of vault) served.pass.entries raises
      raises_stand raises told raise is image since =
          let first = told raise is image (subst (λ d. LeftSince (states d) raise.at image) same since) in
          record {
            count = first.count;
            at_least = first.at_least;
            known = first.known;
            opens = subst (λ (before : List R). OpensTo form image (before ++ grown_records (take first.count served.pass.entries))) (opening last) first.opens;
          }

      -- and the growths are theirs
      pub served_to : {I W : Type 0} → IsServerRoom live.directory.room → (remaining : I → Option (List ℕ)) (contents : W → Option (List ℕ)) (pipes : List (Pipes I W))
          → HasTakenIn form keeps states live remaining contents pipes served → IsServedTo form states remaining contents pipes disk left settled
      unfolding was_served
      served_to room remaining contents pipes taken =
          let order = in_order form live remaining contents pipes taken.seats taken.clients in
          record {
            served = was_served;
            live = live;
            room = room;
            opening = ap joined_pieces blocks;
            seats = taken.seats;
            clients = taken.clients;
            chained = taken.chained;
            theirs = λ k seat there. stand_among taken.seats order taken.stand taken.begin k seat there;
            just_theirs = λ as_many. of_growers taken.seats order taken.stand taken.begin as_many (length pipes) taken.clients.as_many;
            told = λ k d lt. raises_stand (get_or taken.seats k d).mark.raises (taken.left last k d lt);
          }

      -- and all that they grew is settled
      pub all_settled : served.settled ≡ length served.pass.entries → IsAllServed form states disk left settled
      unfolding was_served
      all_settled all = (was_served, count_is ∙ all)

  -- the flusher of a phase came back as it was, so nothing was grown
  pub unserved : (room seats : ℕ) (live : Phase R) (begun back : FlusherOf R D) → Shares (keeps vault.pen.disk) vault room seats live begun → back ≡ begun
      → (left : D) (settled : ℕ) → left ≡ back.pen.disk → settled ≡ back.settled → (keeps left → (image : List ℕ) → IsImage (now (states left)) image → OpensToJob form back image)
      → keeps left → (served : IsServed form states disk left settled) × (served.growths ≡ []) × (served.before ≡ list_of vault)
  unserved room seats live begun back shares is left settled same count images kept =
      let none : settled ≡ 0 = count ∙ ap (λ (f : FlusherOf R D). f.settled) is ∙ shares.counts.1 in
      subst (λ n. (served : IsServed form states disk left n) × (served.growths ≡ []) × (served.before ≡ list_of vault)) (sym none)
      (not_started live begun back shares.blocks shares.pen shares.of shares.knows is left same images kept)

  -- what came of the phase is left
  pub phase_left : {X : Type 0} (faults : D → ℕ) (room seats : ℕ) (live : Phase R) (begun : FlusherOf R D) → Shares (keeps vault.pen.disk) vault room seats live begun
      → (left : D) (settled : ℕ) (result : Result X ServeFault) → IsPhaseLeft form keeps states faults live begun left settled result → keeps left → IsLeft form states disk left settled result
  phase_left faults room seats live begun shares left settled result ended kept = by_result result ended.comes
    where
      back : ended.flusher ≡ begun → (served : IsServed form states disk left settled) × (served.growths ≡ [])
      back is = let none = unserved room seats live begun ended.flusher shares is left settled ended.disk_is ended.settled_is ended.images kept in (none.0, none.1)

      by_result : {X : Type 0} (result : Result X ServeFault) → ComesBack form keeps states faults live begun ended.flusher result → IsLeft form states disk left settled result
      by_result (Ok x) comes =
          all_settled live begun ended.flusher shares.blocks shares.pen comes.of comes.served left settled ended.disk_is ended.settled_is ended.known ended.images kept comes.ended.all
      by_result (Err (Open fault)) comes = absurd comes
      by_result (Err (Share fault)) comes = back comes.1
      by_result (Err Thread) comes = back comes
      by_result (Err (Flush fault)) comes =
          was_served live begun ended.flusher shares.blocks shares.pen (IsFlusherOf-learns keeps live comes.stopped ended.flusher comes.flushed.of comes.learns)
          (Serves-learns comes.flushed.served comes.learns) left settled ended.disk_is ended.settled_is ended.known ended.images kept

  -- and it is of the clients that were served
  pub phase_clients : {X I W : Type 0} (faults : D → ℕ) (room seats : ℕ) (live : Phase R) (begun : FlusherOf R D) → Shares (keeps vault.pen.disk) vault room seats live begun → IsServerRoom live.directory.room
      → (remaining : I → Option (List ℕ)) (contents : W → Option (List ℕ)) (pipes : List (Pipes I W))
      → (left : D) (settled : ℕ) (result : Result X ServeFault) (ended : IsPhaseLeft form keeps states faults live begun left settled result)
      → TakesClientsIn form keeps states live remaining contents pipes ended.flusher result → keeps left → LeavesClients form states remaining contents pipes disk left settled result
  unfolding was_served served_to
  phase_clients {X} faults room seats live begun shares wide remaining contents pipes left settled result ended taken kept = by_result result ended.comes taken
    where
      back : ended.flusher ≡ begun → (served : IsServed form states disk left settled) × (served.growths ≡ []) × (served.before ≡ list_of vault)
      back is = unserved room seats live begun ended.flusher shares is left settled ended.disk_is ended.settled_is ended.images kept

      by_result : (result : Result X ServeFault) → ComesBack form keeps states faults live begun ended.flusher result → TakesClientsIn form keeps states live remaining contents pipes ended.flusher result
          → LeavesClients form states remaining contents pipes disk left settled result
      by_result (Ok x) comes takes =
          let to = served_to live begun ended.flusher shares.blocks shares.pen comes.of comes.served left settled ended.disk_is ended.settled_is ended.known ended.images kept wide remaining contents pipes takes.0 in
          (to, ended.settled_is ∙ comes.ended.all, to.just_theirs takes.1)
      by_result (Err (Open fault)) comes takes = absurd comes
      by_result (Err (Share fault)) comes takes = let none = back comes.1 in (none.0, none.1)
      by_result (Err Thread) comes takes =
          let none = back comes in
          record {
            served = none.0;
            none = none.1;
            live = live;
            room = wide;
            opening = ap joined_pieces shares.blocks ∙ sym none.2;
            seats = takes.0;
            clients = takes.1;
          }
      by_result (Err (Flush fault)) comes takes =
          served_to live begun ended.flusher shares.blocks shares.pen (IsFlusherOf-learns keeps live comes.stopped ended.flusher comes.flushed.of comes.learns)
          (Serves-learns comes.flushed.served comes.learns) left settled ended.disk_is ended.settled_is ended.known ended.images kept wide remaining contents pipes takes
