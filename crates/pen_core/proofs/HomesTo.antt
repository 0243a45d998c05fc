-- The homes of a file keep within the limit on gates.
use Rattle.std.proofs.Common.{◌≡◌, ℕ, ◌+◌, ◌*◌, ◌≤◌, ◌<◌, ◌^◌, List, [], ◌∷◌, ◌++◌, length, sum, Option, Some, None, refl, sym, ap, subst, ◌∙◌, arith, inl, inr}
use Rattle.std.specs.Option.{option_or}
use Rattle.std.proofs.lemmas.Bool.{cases_lt}
use Rattle.std.proofs.lemmas.List.{append-nil, length-append}
use Rattle.segment_core.specs.declared.format.Shape.{Shape}
use Rattle.segment_core.specs.declared.found.Home.{Home}
use Rattle.segment_core.specs.declared.found.Homes.{Homes}
use Rattle.segment_core.specs.declared.tally.Tally.{Tally}
use Rattle.segment_core.specs.Frame.{Frame, Group, Change, Shrink, Fold, frame_text, text}
use Rattle.segment_core.specs.Layout.{IsFrame}
use Rattle.segment_core.specs.Tally.{nothing, tally_of, MayFollow, AreLegal}
use Rattle.segment_core.specs.Vector.{place_among}
use Rattle.segment_core.specs.Found.{home_among, AreInTurn, AreHomes}
use Rattle.segment_core.proofs.FoundHomes.{in_turn_up_to, home_among_push}
use Rattle.segment_core.proofs.HomesPush.{group_home, AreHomes_group}
use Rattle.segment_core.proofs.LegalCommand.{size_limit}
use Rattle.segment_core.proofs.PlaceAmong.{place_among_past, place_among_below}
use Rattle.segment_core.proofs.PlaceOf.{home_of_between}
use Rattle.segment_core.proofs.Push.{text_push, tally_from_push, AreLegalFrom_push}
use Rattle.pen_core.specs.Held.{gate_of}
use Rattle.disk_core.specs.State.{State}
use Rattle.pen_core.specs.HomeRuns.{AreHomesTo}
use Rattle.pen_core.specs.Inside.{IsMaybeJob}
use Rattle.pen_core.specs.InHand.{frame_in_hand}
use Rattle.pen_core.specs.declared.pen.Pen.TheInside.{Inside}
use Rattle.pen_core.specs.Fields.{IsSoundPen}
use Rattle.pen_core.specs.Listed.{homes_ahead, Lists}
use Rattle.pen_core.specs.Vectors.{frame_at}
use Rattle.pen_core.specs.declared.step.PenStep.{PenStep}
use Rattle.pen_core.proofs.HomeRows.{SaysHomes}

home_among-past : (width start end i : ℕ) (homes : List Home) → AreInTurn start homes end → end ≤ i → home_among width homes i ≡ None
home_among-past width start end i [] turn past = refl
home_among-past width start end i (home ∷ homes) turn past =
    let rest = in_turn_up_to (start + home.count) end homes turn.1 in
    ap (λ o. option_or o (place_among width home.place home.position home.count i)) (home_among-past width (start + home.count) end i homes turn.1 past)
    ∙ place_among_past width home.place home.position home.count i (omega (arith, turn.0))

pub AreHomesTo-file : (shape : Shape) (frames : List Frame) (homes : List Home) → AreLegal shape frames
    → gate_of shape frames ≤ 2 ^ 48 → AreHomes shape frames homes → AreHomesTo shape.width (tally_of frames).size homes
AreHomesTo-file shape frames homes legal fits are = record {
  end = (tally_of frames).size;
  reached = omega arith;
  small = size_limit shape frames legal;
  in_turn = are.in_turn;
  placed = λ i p is. elim (cases_lt i (tally_of frames).size) [
    | inl inside ↦ let b = home_of_between shape frames i p legal (sym (are.each i inside) ∙ is) in omega (arith, b.to)
    | inr past ↦ let none = home_among-past shape.width 0 (tally_of frames).size i homes are.in_turn past in absurd cc
  ];
}

-- ---- with a home that a job in hand has entered

home_among-ahead : (width gate size i : ℕ) (told : List Home) (ahead : Option Frame) → i < size
    → home_among width (told ++ homes_ahead gate size ahead) i ≡ home_among width told i
home_among-ahead width gate size i told None lt = ap (λ hs. home_among width hs i) (append-nil told)
home_among-ahead width gate size i told (Some (Group lengths bytes)) lt =
    let place : ℕ = gate + 10 + length lengths * 4 in
    home_among_push width i told (record { position = size; place = place; count = sum lengths })
    ∙ ap (λ o. option_or o (home_among width told i)) (place_among_below width place size (sum lengths) i lt)
home_among-ahead width gate size i told (Some (Change runs bytes)) lt = ap (λ hs. home_among width hs i) (append-nil told)
home_among-ahead width gate size i told (Some (Shrink n)) lt = ap (λ hs. home_among width hs i) (append-nil told)
home_among-ahead width gate size i told (Some (Fold count)) lt = ap (λ hs. home_among width hs i) (append-nil told)

pub SaysHomes-listed : (shape : Shape) (frames : List Frame) (ahead : Option Frame) (homes : Homes) (live : ℕ)
    → Lists shape frames ahead homes live → SaysHomes shape frames homes.homes.items
SaysHomes-listed shape frames ahead homes live lists i lt =
    ap (λ hs. home_among shape.width hs i) lists.homes_are
    ∙ home_among-ahead shape.width (gate_of shape frames) (tally_of frames).size i lists.told ahead lt
    ∙ lists.are_homes.each i lt

-- fewer positions
AreHomesTo-fewer : (width size more : ℕ) (homes : List Home) → size ≤ more → AreHomesTo width more homes → AreHomesTo width size homes
AreHomesTo-fewer width size more homes le are =
    record {
      end = are.end;
      reached = omega (arith, are.reached);
      small = are.small;
      in_turn = are.in_turn;
      placed = are.placed;
    }

-- a frame that may be the next, below the limit on gates
pub record MayCome (shape : Shape) (frames : List Frame) (f : Frame) : Type 0 where
  pub whole : IsFrame shape f
  pub may : MayFollow (tally_of frames) f
  pub fits : gate_of shape frames + length (frame_text shape.format f) ≤ 2 ^ 48

pub AreHomesTo-listed : (shape : Shape) (frames : List Frame) (ahead : Option Frame) (homes : Homes) (live : ℕ)
    → AreLegal shape frames → gate_of shape frames ≤ 2 ^ 48 → ((f : Frame) → ahead ≡ Some f → MayCome shape frames f)
    → Lists shape frames ahead homes live
    → AreHomesTo shape.width (tally_of frames).size homes.homes.items
AreHomesTo-listed shape frames None homes live legal fits may lists =
    subst (AreHomesTo shape.width (tally_of frames).size) (sym (lists.homes_are ∙ append-nil lists.told))
    (AreHomesTo-file shape frames lists.told legal fits lists.are_homes)
AreHomesTo-listed shape frames (Some (Group lengths bytes)) homes live legal fits may lists =
    let f : Frame = Group lengths bytes in
    let t : Tally = tally_of frames in
    let come = may f refl in
    let size : (tally_of (frames ++ f ∷ [])).size ≡ t.size + sum lengths = ap (λ u. u.size) (tally_from_push nothing frames f) in
    let gate : gate_of shape (frames ++ f ∷ []) ≡ gate_of shape frames + length (frame_text shape.format f) =
    ap length (text_push shape frames f) ∙ length-append (text shape frames) (frame_text shape.format f) in
    let end = come.fits in
    subst (AreHomesTo shape.width t.size) (sym lists.homes_are)
    (AreHomesTo-fewer shape.width t.size (tally_of (frames ++ f ∷ [])).size (lists.told ++ group_home shape frames lengths ∷ []) (omega arith)
    (AreHomesTo-file shape (frames ++ f ∷ []) (lists.told ++ group_home shape frames lengths ∷ [])
    (AreLegalFrom_push shape nothing frames f legal come.whole come.may) (omega arith)
    (AreHomes_group shape frames lengths bytes lists.told lists.are_homes)))
AreHomesTo-listed shape frames (Some (Change runs bytes)) homes live legal fits may lists =
    subst (AreHomesTo shape.width (tally_of frames).size) (sym (lists.homes_are ∙ append-nil lists.told))
    (AreHomesTo-file shape frames lists.told legal fits lists.are_homes)
AreHomesTo-listed shape frames (Some (Shrink n)) homes live legal fits may lists =
    subst (AreHomesTo shape.width (tally_of frames).size) (sym (lists.homes_are ∙ append-nil lists.told))
    (AreHomesTo-file shape frames lists.told legal fits lists.are_homes)
AreHomesTo-listed shape frames (Some (Fold count)) homes live legal fits may lists =
    subst (AreHomesTo shape.width (tally_of frames).size) (sym (lists.homes_are ∙ append-nil lists.told))
    (AreHomesTo-file shape frames lists.told legal fits lists.are_homes)

-- on a pen's fields
may_come : (shape : Shape) (frames : List Frame) (gate : ℕ) (tally next : Tally) (bytes : List ℕ) (step : Option PenStep)
    → gate ≡ gate_of shape frames → tally ≡ tally_of frames → IsMaybeJob shape gate tally next bytes step → (f : Frame)
    → frame_in_hand shape bytes step ≡ Some f → MayCome shape frames f
may_come shape frames gate tally next bytes None gate_is tally_is job f is = absurd cc
may_come shape frames gate tally next bytes (Some step) gate_is tally_is job f is =
    let same : frame_at shape bytes ≡ f = cc in
    let end = job.fits in
    let size = ap length job.spelled ∙ length-append (frame_text shape.format (frame_at shape bytes)) (0 ∷ []) in
    subst (MayCome shape frames) same
    (record {
      whole = job.whole;
      may = subst (λ t. MayFollow t (frame_at shape bytes)) tally_is job.may_follow;
      fits = omega arith;
    })

pub AreHomesTo-pen : {D : Type 0} {keeps : D → Type 0} {states : D → List State} {pen : Inside D} → IsSoundPen keeps states pen → pen.gate ≤ 2 ^ 48
    → AreHomesTo pen.shape.width pen.tally.size pen.homes.homes.items
AreHomesTo-pen {pen = pen} sound fits =
    let listed = sound.lists in
    let below = listed.gate_is in
    subst (λ t. AreHomesTo pen.shape.width t.size pen.homes.homes.items) (sym listed.tally_is)
    (AreHomesTo-listed pen.shape listed.frames (frame_in_hand pen.shape pen.bytes.items pen.step) pen.homes pen.live listed.legal (omega arith)
    (may_come pen.shape listed.frames pen.gate pen.tally pen.next pen.bytes.items pen.step listed.gate_is listed.tally_is sound.job.job) listed.lists)
