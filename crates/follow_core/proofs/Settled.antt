-- Frames that a sync has settled stay so, and those that a look has read behind them are.
use Rattle.std.proofs.Common.{◌≡◌, ◌≢◌, ℕ, ◌<◌, ◌≤◌, List, [], ◌∷◌, ◌++◌, sym, ap, ◌∙◌, arith}
use Rattle.std.proofs.lemmas.List.{append-nil}
use Rattle.segment_core.specs.Frame.{Frame}
use Rattle.follow_core.specs.Followed.{AreSettled}

pub settled_later : (frames : ℕ → List Frame) (base known : List Frame) (before synced : ℕ) → before ≤ synced → (known ≢ base → AreSettled frames known before)
    → known ≢ base → AreSettled frames known synced
settled_later frames base known before synced le settled some =
    let earlier = settled some in
    let below = earlier.settled in
    record { moment = earlier.moment; rest = earlier.rest; stood = earlier.stood; settled = omega (arith, below, le) }

pub settled_more : (frames : ℕ → List Frame) (base known came : List Frame) (moment before synced : ℕ) → before ≤ synced → (known ≢ base → AreSettled frames known before)
    → frames moment ≡ known ++ came → (came ≢ [] → moment < synced) → known ++ came ≢ base → AreSettled frames (known ++ came) synced
settled_more frames base known [] moment before synced le settled stood last some =
    let earlier = settled_later frames base known before synced le settled (λ same. some (append-nil known ∙ same)) in
    record {
      moment = earlier.moment;
      rest = earlier.rest;
      stood = earlier.stood ∙ ap (λ (fs : List Frame). fs ++ earlier.rest) (sym (append-nil known));
      settled = earlier.settled;
    }
settled_more frames base known (frame ∷ came) moment before synced le settled stood last some = record {
  moment = moment;
  rest = [];
  stood = stood ∙ sym (append-nil (known ++ frame ∷ came));
  settled = last (λ none. absurd cc);
}
