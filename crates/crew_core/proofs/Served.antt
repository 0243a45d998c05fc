-- What a crash may leave while a phase is served.
use Rattle.std.proofs.Common.{◌≡◌, ℕ, ◌+◌, false, ◌++◌, List, take, sym, ap, subst, ◌∙◌, arith}
use Rattle.record_core.specs.Bytes.{Encoding}
use Rattle.disk_core.specs.State.{State, IsImage, now}
use Rattle.disk_core.specs.Moments.{LeavesOnly}
use Rattle.disk_core.proofs.JoinedMoments.{LeavesOnly-weaker}
use Rattle.pen_core.specs.PenOf.{PenOf}
use Rattle.pen_core.specs.Typed.{OpensTo}
use Rattle.block_core.specs.Growth.{Growth}
use Rattle.directory_core.specs.Chain.{grown_records, IsPrefix}
use Rattle.book_core.specs.Lists.{Phase, joined_pieces}
use Rattle.flush_core.specs.Flusher.{FlusherOf, IsFlusherOf, OpensToFirst}
use Rattle.flush_core.specs.Serving.{Serves}
use Rattle.book_core.proofs.Owns.{take-begins}
use Rattle.vault_core.proofs.Prefixes.{begins-le}
use Rattle.vault_core.specs.Vault.{VaultOf, list_of}
use Rattle.vault_core.specs.Sharing.{OpensToGrown}
use Rattle.crew_core.specs.Crewing.{IsBack}

-- A phase over a vault was served, which had begun with the vault's blocks and its pen.
pub record ServesVault {R D : Type 0} (form : Encoding R) (keeps : D → Type 0) (states : D → List State) (vault : VaultOf R D) (live : Phase R)
    (begun served : FlusherOf R D) : Type 0 where
  pub blocks : live.blocks ≡ vault.blocks
  pub pen : begun.pen ≡ vault.pen
  pub of : IsFlusherOf (keeps served.pen.disk) live served
  pub goes : Serves form keeps states begun served

module _ {R D : Type 0} {form : Encoding R} {keeps : D → Type 0} {states : D → List State} {vault : VaultOf R D} {live : Phase R}
    {begun served : FlusherOf R D} (it : ServesVault form keeps states vault live begun served) where
  -- it opens to the vault's list and the first growths that the flusher knows in the end
  kept_first : keeps served.pen.disk → (image : List ℕ) → OpensToFirst form begun.settled served image → OpensToGrown form (list_of vault) served.pass.entries image
  kept_first now image kept =
      let opening : served.opening ≡ list_of vault = it.of.opening now ∙ ap joined_pieces it.blocks in
      record {
        count = kept.count;
        known = kept.known;
        opens = subst (λ (before : List R). OpensTo form image (before ++ grown_records (take kept.count served.pass.entries))) opening kept.opens;
      }

  pub served_first : (last : PenOf D) → last ≡ served.pen → keeps last.disk → LeavesOnly (states vault.pen.disk) (states last.disk) (OpensToGrown form (list_of vault) served.pass.entries)
  served_first last same now =
      let still : keeps served.pen.disk = subst (λ (p : PenOf D). keeps p.disk) same now in
      let leaves : LeavesOnly (states begun.pen.disk) (states served.pen.disk) (OpensToGrown form (list_of vault) served.pass.entries) =
      LeavesOnly-weaker (states begun.pen.disk) (states served.pen.disk) (OpensToFirst form begun.settled served)
      (OpensToGrown form (list_of vault) served.pass.entries) (kept_first still) (it.goes.images still) in
      subst (λ (p : PenOf D). LeavesOnly (states vault.pen.disk) (states p.disk) (OpensToGrown form (list_of vault) served.pass.entries)) (sym same)
      (subst (λ (p : PenOf D). LeavesOnly (states p.disk) (states served.pen.disk) (OpensToGrown form (list_of vault) served.pass.entries)) it.pen leaves)

  -- and so it does to those and more
  pub served_more : (more : List (Growth R)) → IsPrefix served.pass.entries more → (last : PenOf D) → last ≡ served.pen → keeps last.disk
      → LeavesOnly (states vault.pen.disk) (states last.disk) (OpensToGrown form (list_of vault) more)
  served_more more begins last same now =
      LeavesOnly-weaker (states vault.pen.disk) (states last.disk) (OpensToGrown form (list_of vault) served.pass.entries) (OpensToGrown form (list_of vault) more)
      known_more (served_first last same now)
    where
      known_more : (image : List ℕ) → OpensToGrown form (list_of vault) served.pass.entries image → OpensToGrown form (list_of vault) more image
      known_more image opens = record {
        count = opens.count;
        known = let le = begins-le served.pass.entries more begins in let known = opens.known in omega arith;
        opens = subst (λ (es : List (Growth R)). OpensTo form image (list_of vault ++ grown_records es))
            (sym (take-begins served.pass.entries more opens.count begins opens.known)) opens.opens;
      }

  -- the vault that comes back has the pen with which serving ended
  pub is_back : (back : VaultOf R D) → back.pen ≡ served.pen → served.pen.broken ≡ false
      → (keeps back.pen.disk → (image : List ℕ) → IsImage (now (states back.pen.disk)) image → OpensTo form image (list_of back)) → IsBack form keeps states vault back
  is_back back same whole told = record {
    whole = ap (λ (p : PenOf D). p.broken) same ∙ whole;
    settled = told;
    model = λ kept. subst (λ (p : PenOf D). keeps p.disk) it.pen (it.goes.model (subst (λ (p : PenOf D). keeps p.disk) same kept));
  }
