-- What a host is to make that has made the calls up to a moment.
use Rattle.std.specs.Prelude.{IfSome}
use Rattle.std.proofs.Common.{◌≡◌, ℕ, ◌<◌, List, [], Option, Some, None, ap, sym, ◌∙◌, subst}
use Rattle.record_core.specs.Bytes.{Encoding}
use Rattle.disk_core.specs.State.{State, now}
use Rattle.disk_core.specs.Moments.{clock, states_at}
use Rattle.disk_core.proofs.JoinedMoments.{states_at-Follows}
use Rattle.flush_core.specs.Flusher.{AreRaisedBy, FlusherOf, ToldIsLeft}
use Rattle.relay_core.specs.declared.call.Call.{Call}
use Rattle.relay_core.specs.Listed.{LeadThrough}
use Rattle.relay_core.specs.Making.{IsFollowed}
use Rattle.relay_core.proofs.ListedLemmas.{lead_from_now}
use Rattle.relay_core.proofs.MakingLemmas.{is_followed, host_has, carries_over}
use Rattle.phase_core.specs.Committing.{GoesOn, HostIsTold, HostCommits}

-- it has made all of them
pub lead_from : (states : List State) (made moment : ℕ) → moment ≡ clock states → 0 < moment → moment ≡ made → LeadThrough states made []
lead_from states made moment is some here =
    subst (λ (n : ℕ). LeadThrough states n []) here
    (subst (λ (n : ℕ). LeadThrough states n []) (sym is) (lead_from_now states (subst (λ (n : ℕ). 0 < n) is some)))

pub followed_from : (states : List State) (made moment : ℕ) → moment ≡ clock states → 0 < moment → moment ≡ made → IsFollowed states made []
followed_from states made moment is some here = is_followed states made [] (lead_from states made moment is some here)

pub host_is_told : {R D : Type 0} (form : Encoding R) (states : List State) (made : ℕ) (calls : List Call) (f : FlusherOf R D) → AreRaisedBy made f.mark.raises
    → ToldIsLeft form states f f.mark.raises → IsFollowed states made calls → HostIsTold form states made calls f
host_is_told form states made calls f past told followed raise of old new same makes =
    host_has states raise.at made calls _ (past raise of) (λ image left. told raise of image left) followed old new same makes

-- of the calls that are answered, if any are
pub host_is_told_of : {R D X : Type 0} (form : Encoding R) (keeps : D → Type 0) (states : D → List State) (made : ℕ) (f : FlusherOf R D) (list : X → List Call) (result : Option X)
    (disk : D) → disk ≡ f.pen.disk → AreRaisedBy made f.mark.raises → (keeps disk → ToldIsLeft form (states disk) f f.mark.raises)
    → IfSome result (λ x. keeps disk → IsFollowed (states disk) made (list x))
    → IfSome result (λ x. keeps f.pen.disk → HostIsTold form (states f.pen.disk) made (list x) f)
host_is_told_of form keeps states made f list None disk is past told followed = tt
host_is_told_of {R} {D} form keeps states made f list (Some x) disk is past told followed =
    subst (λ (d : D). keeps d → HostIsTold form (states d) made (list x) f) is
    (λ model. host_is_told form (states disk) made (list x) f past (told model) (followed model))

-- what a commit's calls leave of the disk, the host's file leaves
pub host_commits : {R D : Type 0} (form : Encoding R) (keeps : D → Type 0) (states : D → List State) (made : ℕ) (old new : FlusherOf R D) → GoesOn form keeps states old new
    → keeps new.pen.disk → HostCommits form (states old.pen.disk) (states new.pen.disk) made old new
host_commits form keeps states made old new goes model is calls followed file after same makes =
    carries_over (states old.pen.disk) (states new.pen.disk) calls _ (goes.images model)
    (subst (λ (n : ℕ). IsFollowed (states new.pen.disk) n calls) is followed) file after
    (same ∙ ap (λ (n : ℕ). now (states_at n (states new.pen.disk))) is ∙ ap now (states_at-Follows (states old.pen.disk) (states new.pen.disk) (goes.images model).past)) makes
