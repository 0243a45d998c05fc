use Rattle.std.proofs.Common.{◌≡◌, ◌-◌, ◌++◌, ℕ, List, Bool, true, false, refl, length, take, drop, sym, ap, ◌∙◌, codes, arith}
use Rattle.std.specs.Prelude.{nat_eq}
use Rattle.std.specs.List.{starts_with}
use Rattle.std.proofs.lemmas.List.{take_rest}
use Rattle.segment_core.specs.Frame.{header}
use Rattle.segment_core.specs.Fault.{is_version}
use Rattle.segment_core.proofs.Header.{IsBorn, IsSegment, finds_unborn_short, finds_unborn_closed, finds_other_short, finds_other_magic, finds_version, finds_width, finds_none, width_read}
use Rattle.segment_core.proofs.Header.{format_known, is_version-version_of, header_of_none, header_written}
use Rattle.segment_core.proofs.format.Shape.read.Goals as goal
use Rattle.segment_core.proofs.format.Shape.read.Goals.{then-bytes-le1-via-then-bytes-le1, then-bytes-le1-via-else-bytes-le1+then-bytes-ne-OPEN_GATE}
use Rattle.segment_core.proofs.format.Shape.read.Goals.{then-bytes-lt-HEADER_LEN-via-then-bytes-lt-HEADER_LEN, then-bytes-lt-HEADER_LEN-via-else-bytes-lt-HEADER_LEN+then-not-starts_with}

pub returns-then-bytes-le1-clause-sound : goal.returns-then-bytes-le1-clause-sound
returns-then-bytes-le1-clause-sound c width wide = elim c.then-bytes-le1.branch [
  | then-bytes-le1-via-then-bytes-le1 w ↦ finds_unborn_short width c.args.bytes.now w.if-bytes-le1.true
  | then-bytes-le1-via-else-bytes-le1+then-bytes-ne-OPEN_GATE w ↦
      finds_unborn_closed width c.args.bytes.now w.if-bytes-ne-OPEN_GATE.true
]

-- the test of the magic, on the bytes from place 1 on
magic_tested : (bytes : List ℕ) (answer b : Bool)
    → answer ≡ starts_with nat_eq (take (length bytes - 1) (drop 1 bytes)) (codes "CVECSEG") → answer ≡ b
    → starts_with nat_eq (drop 1 bytes) (codes "CVECSEG") ≡ b
magic_tested bytes answer b is told =
    ap (λ (bs : List ℕ). starts_with nat_eq bs (codes "CVECSEG")) (sym (take_rest bytes 1)) ∙ sym is ∙ told

pub returns-then-bytes-lt-HEADER_LEN-clause-sound : goal.returns-then-bytes-lt-HEADER_LEN-clause-sound
returns-then-bytes-lt-HEADER_LEN-clause-sound c width wide =
    let born : IsBorn c.args.bytes.now = record { some = c.if-bytes-le1.false; opened = c.if-bytes-ne-OPEN_GATE.false } in
    elim c.then-bytes-lt-HEADER_LEN.branch [
      | then-bytes-lt-HEADER_LEN-via-then-bytes-lt-HEADER_LEN w ↦
          finds_other_short width c.args.bytes.now born w.if-bytes-lt-HEADER_LEN.true
      | then-bytes-lt-HEADER_LEN-via-else-bytes-lt-HEADER_LEN+then-not-starts_with w ↦
          finds_other_magic width c.args.bytes.now born
          (magic_tested c.args.bytes.now w.starts_with.result false w.starts_with.ensures.value
          w.if-not-starts_with.true)
    ]

pub returns-in_default-clause-sound : goal.returns-in_default-clause-sound
returns-in_default-clause-sound c width wide =
    let segment : IsSegment c.args.bytes.now = record {
      born = record { some = c.if-bytes-le1.false; opened = c.if-bytes-ne-OPEN_GATE.false };
      long = c.if-bytes-lt-HEADER_LEN.false;
      magic = magic_tested c.args.bytes.now c.starts_with.result true c.starts_with.ensures.value c.if-not-starts_with.false;
    } in
    finds_version width c.args.bytes.now segment c.in_default.ensures.unknown

pub returns-then-width-eq0-clause-sound : goal.returns-then-width-eq0-clause-sound
returns-then-width-eq0-clause-sound c width wide =
    let segment : IsSegment c.args.bytes.now = record {
      born = record { some = c.if-bytes-le1.false; opened = c.if-bytes-ne-OPEN_GATE.false };
      long = c.if-bytes-lt-HEADER_LEN.false;
      magic = magic_tested c.args.bytes.now c.starts_with.result true c.starts_with.ensures.value c.if-not-starts_with.false;
    } in
    let known = ap is_version (sym c.in-Some.ensures.known) ∙ is_version-version_of c.in-Some.format in
    finds_width width 0 c.args.bytes.now segment known
    (sym c.if-width-eq0.true ∙ c.from_le_bytes-width.ensures ∙ width_read c.args.bytes.now segment) (λ is. omega arith)

pub returns : goal.returns
returns c =
    let bytes : List ℕ = c.args.bytes.now in
    let width : ℕ = c.from_le_bytes-width.result in
    let segment : IsSegment bytes = record {
      born = record { some = c.if-bytes-le1.false; opened = c.if-bytes-ne-OPEN_GATE.false };
      long = c.if-bytes-lt-HEADER_LEN.false;
      magic = magic_tested bytes c.starts_with.result true c.starts_with.ensures.value c.if-not-starts_with.false;
    } in
    let known = ap is_version (sym c.in-Some.ensures.known) ∙ is_version-version_of c.in-Some.format in
    let none = finds_none width width bytes segment known (c.from_le_bytes-width.ensures ∙ width_read bytes segment) refl in
    let names = format_known bytes c.in-Some.format c.in-Some.ensures.known in
    let written = header_written width bytes (λ i. omega (arith, c.type_inv.bytes i)) (header_of_none width bytes none) in
    record {
      sound = (omega arith, omega arith, record { no_fault = none; names = names });
      spelled = written ∙ ap (λ f. header (record { format = f; width = width }) ++ drop 11 bytes) names;
    }
