-- A look's text, read behind a bookmark of the file's own shape.
use Rattle.std.proofs.Common.{◌≡◌, ℕ, List, ◌++◌, sym, subst}
use Rattle.record_core.specs.Bytes.{Encoding}
use Rattle.segment_core.specs.declared.format.Shape.{Shape}
use Rattle.segment_core.specs.Frame.{Frame}
use Rattle.beside_core.specs.declared.bookmark.Bookmark.{Bookmark}
use Rattle.beside_core.specs.PensFile.{IsPensFile}
use Rattle.beside_core.specs.Bookmark.{LiesBehind}
use Rattle.beside_core.specs.News.{ReadsOn}

-- what its text shows of the bookmark's shape is so of that of each file which the bookmark lies in
pub answered : {R : Type 0} (form : Encoding R) (mark : Bookmark) (held : ℕ → List ℕ) (from to synced : ℕ) (bytes : List ℕ) (IsAnswer : Shape → (ℕ → List Frame) → List Frame → Type 0)
    → ((shape : Shape) (frames : ℕ → List Frame) (known : List Frame) → IsPensFile shape held frames → LiesBehind shape known mark → (more : List Frame) × (frames from ≡ known ++ more)
    → ReadsOn form frames known from to synced mark bytes)
    → ((frames : ℕ → List Frame) (known : List Frame) → IsPensFile mark.shape held frames → LiesBehind mark.shape known mark → ReadsOn form frames known from to synced mark bytes
    → IsAnswer mark.shape frames known)
    → (shape : Shape) (frames : ℕ → List Frame) (known : List Frame) → IsPensFile shape held frames → LiesBehind shape known mark → (more : List Frame) × (frames from ≡ known ++ more)
    → IsAnswer shape frames known
answered form mark held from to synced bytes IsAnswer read shows shape frames known file lies more =
    subst (λ (s : Shape). IsAnswer s frames known) lies.shape_is
    (shows frames known (subst (λ (s : Shape). IsPensFile s held frames) (sym lies.shape_is) file) (subst (λ (s : Shape). LiesBehind s known mark) (sym lies.shape_is) lies)
    (read shape frames known file lies more))
