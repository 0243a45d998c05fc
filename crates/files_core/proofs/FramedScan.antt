-- What the frames of a file tell is what a scan of it finds, where any bytes are a record.
use Rattle.std.proofs.Common.{◌≡◌, ℕ, ◌-◌, ◌<◌, ◌^◌, List, length, refl, sym, ap, ◌∙◌, arith}
use Rattle.std.specs.Global.{Vec}
use Rattle.record_core.specs.Bytes.{Encoding}
use Rattle.segment_core.specs.declared.frame_walk.Framed.{Framed}
use Rattle.segment_core.specs.declared.vector.Scanned.{Scanned}
use Rattle.segment_core.specs.Frame.{text}
use Rattle.segment_core.specs.Scanned.{IsScanOf}
use Rattle.segment_core.specs.Shape.{version_of}
use Rattle.pen_core.specs.Framing.{IsFramedOn}
use Rattle.files_core.specs.declared.checking.Measures.{Measures}
use Rattle.files_core.specs.Checking.{IsMeasured}
use Rattle.files_core.specs.Writable.{ReadsAny}
use Rattle.files_core.proofs.WindowRecords.{few_positions, frames_list, length-frames_list, frames_vector}

-- a list as one that stands where another does
listed : {X Y : Type 0} → Vec Y → (xs : List X) → length xs < 2 ^ 63 → Vec X
listed other xs few = record { ptr = other.ptr; len = length xs; cap = length xs; alloc = other.alloc; items = xs; ok = (refl, omega arith); small = few }

pub same_measures : (version width size frames live version' width' size' frames' live' : ℕ) → version ≡ version' → width ≡ width' → size ≡ size' → frames ≡ frames' → live ≡ live'
    → let m : Measures = record { version = version; width = width; size = size; frames = frames; live = live } in
    let n : Measures = record { version = version'; width = width'; size = size'; frames = frames'; live = live' } in m ≡ n
same_measures version width size frames live version' width' size' frames' live' a b c d e = cc

module _ {R : Type 0} (form : Encoding R) (small : form.width < 2 ^ 16) (keeps : Type 0) (bytes : List ℕ) (size : ℕ) (framed : Framed) (on : IsFramedOn keeps bytes size framed)
    (width : framed.shape.width ≡ form.width) (blank : R) (any : ReadsAny form) where
  abbrev all : List R
  all = frames_list form small keeps bytes size framed on width blank

  abbrev all_long : length all ≡ framed.tally.size
  all_long = length-frames_list form small keeps bytes size framed on width blank

  scanned : Scanned R
  scanned = record {
    version = version_of framed.shape.format;
    width = form.width;
    records = listed framed.live all (let few = few_positions keeps bytes size framed on in omega (arith, all_long, few));
    frames = framed.frames;
    changes = framed.tally.changes;
    folded = framed.tally.folded;
    gate = framed.gate;
  }

  is_scan : keeps → IsScanOf form bytes scanned
  unfolding scanned listed
  is_scan model = record {
    format = framed.shape.format;
    frames = on.frames;
    vector = frames_vector form small keeps bytes size framed on width blank any model;
    version_is = refl;
    width_is = refl;
    frames_are = on.is.frames_are;
    changes_are = ap (λ t. t.changes) on.is.tally_is;
    folded_is = ap (λ t. t.folded) on.is.tally_is;
    gate_is = on.is.gate_is ∙ ap (λ w. length (text (record { format = framed.shape.format; width = w }) on.frames)) width;
  }

  pub framed_measured : (measures : Measures) → measures.version ≡ version_of framed.shape.format → measures.width ≡ form.width → measures.size ≡ framed.tally.size
      → measures.frames ≡ framed.frames → measures.live ≡ framed.tally.changes - framed.tally.folded → IsMeasured form keeps bytes measures
  unfolding scanned listed
  framed_measured measures version wide many frames live = record {
    scanned = scanned;
    scan = is_scan;
    is = same_measures _ _ _ _ _ _ _ _ _ _ version wide (many ∙ sym all_long) frames live;
  }
