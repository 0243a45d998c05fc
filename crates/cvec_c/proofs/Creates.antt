-- An empty file, as C writes it: while its first byte is shut there is no file, and with its bytes there it has no record.
use Rattle.std.proofs.Common.{◌≡◌, ℕ, List, [], ◌∷◌, ◌++◌, length, drop, refl, sym, ap, ◌∙◌, append_assoc, arith}
use Rattle.std.proofs.lemmas.List.{append-nil, take-append-drop}
use Rattle.record_core.specs.Bytes.{Encoding}
use Rattle.segment_core.specs.declared.format.Format.{Format}
use Rattle.segment_core.specs.declared.format.Shape.{Shape}
use Rattle.segment_core.specs.Shape.{version_of, shape_of}
use Rattle.segment_core.specs.Frame.{header, text}
use Rattle.segment_core.specs.Found.{StandsAt}
use Rattle.segment_core.proofs.Header.{finds_unborn_closed}
use Rattle.cvec_c.specs.declared.stat.CvecStat.{CvecStat}
use Rattle.cvec_c.specs.Stat.{HasStat}
use Rattle.cvec_c.specs.Empty.{Creates}

module _ {R : Type 0} (format : Format) (form : Encoding R) (bytes : List ℕ) (version width : ℕ)
    (width_is : width ≡ form.width) (spelled : bytes ≡ header (record { format = format; width = width }) ++ 0 ∷ [])
    (version_is : version_of format ≡ version) where
  abbrev shape : Shape
  shape = shape_of format form

  abbrev stat : CvecStat
  stat = record { size = 0; frames = 0; changes = 0; folded = 0; gate = 11; width = width; version = version }

  is_empty : (other : List ℕ) → StandsAt other 0 bytes → HasStat form other [] stat
  is_empty other stands =
      let rest : List ℕ = drop (length bytes) other in
      let whole : other ≡ text shape [] ++ (0 ∷ rest) =
      sym (take-append-drop (length bytes) other)
      ∙ ap (λ (bs : List ℕ). bs ++ rest) (stands ∙ spelled ∙ ap (λ w. header (record { format = format; width = w }) ++ 0 ∷ []) width_is)
      ∙ append_assoc (header shape) (0 ∷ []) rest
      ∙ ap (λ (bs : List ℕ). bs ++ (0 ∷ rest)) (sym (append-nil (header shape))) in
      record {
        format = format;
        frames = [];
        vector = record {
          framed = record { legal = tt; closed = (0, rest, λ (one : 0 ≡ 1). absurd (omega arith), whole) };
          read = record { size = refl; each = λ i lt. absurd (omega arith) };
        };
        version_is = sym version_is;
        width_is = width_is;
        size_is = refl;
        frames_are = refl;
        changes_are = refl;
        folded_is = refl;
        gate_is = refl;
      }

  pub creates : Creates bytes stat R form
  creates = record { before = λ other shut. finds_unborn_closed form.width other shut; after = is_empty }
