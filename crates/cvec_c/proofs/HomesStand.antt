-- The homes of an image that was scanned, as C is told of them.
use Rattle.std.proofs.Common.{◌≡◌, ℕ, ◌≤◌, ◌<◌, List, length, refl, subst, sym, ap, ◌∙◌, arith, ◌+◌, ◌++◌, ◌∷◌, [], take, slice_index_or, slice_set}
use Rattle.std.specs.Option.{option_or, option_and_then}
use Rattle.std.proofs.lemmas.List.{take_more, take_more_set, map_push}
use Rattle.record_core.specs.Bytes.{Encoding}
use Rattle.segment_core.specs.declared.found.Home.{Home}
use Rattle.segment_core.specs.declared.format.Shape.{Shape}
use Rattle.segment_core.specs.declared.vector.Scanned.{Scanned}
use Rattle.segment_core.specs.Shape.{shape_of}
use Rattle.segment_core.specs.Tally.{tally_of}
use Rattle.segment_core.specs.Vector.{home_of, place_of, record_in}
use Rattle.segment_core.specs.Found.{home_among, AreInTurn, AreHomes}
use Rattle.segment_core.specs.Scanned.{IsScanOf}
use Rattle.segment_core.proofs.LastFrom.{place_is}
use Rattle.segment_core.proofs.PlaceOf.{change_of_none}
use Rattle.cvec_c.specs.Stat.{stat_of}
use Rattle.cvec_c.specs.declared.homes.CvecHome.{CvecHome}
use Rattle.cvec_c.specs.Homes.{HasHomes, as_homes}

pub has_homes : {R : Type 0} (form : Encoding R) (image : List ℕ) (scanned : Scanned R)
    (scan : IsScanOf form image scanned) (homes : List Home)
    → AreHomes (shape_of scan.format form) scan.frames homes
    → HasHomes form image scanned.records.items (stat_of scanned) homes
has_homes form image scanned scan homes are = record {
  holds = record {
    format = scan.format;
    frames = scan.frames;
    vector = scan.vector;
    version_is = scan.version_is;
    width_is = scan.width_is;
    size_is = refl;
    frames_are = scan.frames_are;
    changes_are = scan.changes_are;
    folded_is = scan.folded_is;
    gate_is = scan.gate_is;
  };
  in_turn = subst (λ n. AreInTurn 0 homes n) (sym scan.vector.read.size) are.in_turn;
  stand = λ folded i lt. (
      let shape : Shape = shape_of scan.format form in
      let none = change_of_none shape (tally_of scan.frames).folded scan.frames i (let changes = scan.changes_are in let count = scan.folded_is in omega arith) in
      let place : place_of shape scan.frames i ≡ home_of shape scan.frames i = place_is shape scan.frames i ∙ ap (λ o. option_or o (home_of shape scan.frames i)) none in
      let home : home_among form.width homes i ≡ home_of shape scan.frames i = are.each i (let size = scan.vector.read.size in omega arith) in
      ap (option_and_then (record_in form image)) (home ∙ sym place) ∙ scan.vector.read.each i lt
      );
}

-- ---- homes that are copied

abbrev pub as_told : Home → CvecHome
as_told home = record { position = home.position; place = home.place; count = home.count }

pub copied_more : (homes : List Home) (out : List CvecHome) (k : ℕ) (d : Home) → k < length homes → length homes ≤ length out → as_homes (take k out) ≡ take k homes
    → as_homes (take (k + 1) (slice_set out k (as_told (slice_index_or homes k d)))) ≡ take (k + 1) homes
copied_more homes out k d inside room so_far =
    let home : Home = slice_index_or homes k d in
    ap as_homes (take_more_set out k (as_told home) (omega arith))
    ∙ map_push (λ (told : CvecHome). record { position = told.position; place = told.place; count = told.count }) (take k out) (as_told home)
    ∙ ap (λ (hs : List Home). hs ++ home ∷ []) so_far ∙ sym (take_more homes k d inside)
