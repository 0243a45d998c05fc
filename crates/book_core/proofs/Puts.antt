-- A growth behind those that a seat knows, of which its own are just those that it made.
use Rattle.std.proofs.Common.{◌≡◌, ℕ, ◌+◌, ◌≤◌, List, [], ◌∷◌, ◌++◌, length, take, refl, ap, sym, subst, ◌∙◌, arith}
use Rattle.std.proofs.lemmas.List.{length-take, length_push}
use Rattle.std.proofs.Math.Seq.{take-length}
use Rattle.block_core.specs.Growth.{Growth}
use Rattle.directory_core.specs.Chain.{total, IsPrefix}
use Rattle.directory_core.specs.Known.{Known}
use Rattle.book_core.specs.Marks.{MarkEnd}
use Rattle.book_core.specs.Lists.{Phase, Seated, opening_of, own_of}
use Rattle.book_core.specs.Growing.{SeatLearns, Grown, growth_of}
use Rattle.book_core.proofs.Owns.{own_of-all, own_of-push, take-begins}

-- what contracts see of a seat that has these
abbrev pub seated : {R : Type 0} → ℕ → ℕ → Known R → MarkEnd → Seated R
seated id checked pass mark = record { id = id; made = own_of id (take checked pass.entries); pass = pass; mark = mark }

module _ {R : Type 0} (id checked : ℕ) (pass new : Known R) (mark : MarkEnd) where
  -- it knows what it knew
  pub put_learns : new.of ≡ pass.of → new.entries ≡ pass.entries → SeatLearns (seated id checked pass mark) (seated id checked new mark)
  put_learns of same = record {
    id = refl;
    mark = refl;
    of = of;
    made = ap (λ (es : List (Growth R)). own_of id (take checked es)) same;
    begins = subst (λ (es : List (Growth R)). IsPrefix pass.entries es) (sym same) (take-length pass.entries);
  }

  -- it knows more, and of its own growths those that it made
  pub learnt_made : IsPrefix pass.entries new.entries → checked ≤ length pass.entries → own_of id (take checked new.entries) ≡ own_of id (take checked pass.entries)
  learnt_made begins le = ap (own_of id) (take-begins pass.entries new.entries checked begins le)

  pub learnt : new.of ≡ pass.of → IsPrefix pass.entries new.entries → checked ≤ length pass.entries → (now : ℕ)
      → own_of id (take now new.entries) ≡ own_of id (take checked new.entries) → SeatLearns (seated id checked pass mark) (seated id now new mark)
  learnt of begins le now same = record { id = refl; mark = refl; of = of; made = same ∙ learnt_made begins le; begins = begins }

  pub learnt_kept : (serial : ℕ) → IsPrefix pass.entries new.entries
      → (serial ≡ length (own_of id (take checked pass.entries))) × (serial ≤ checked) × (checked ≤ length pass.entries)
      → (now : ℕ) → own_of id (take now new.entries) ≡ own_of id (take checked new.entries) → checked ≤ now → now ≤ length new.entries
      → (serial ≡ length (own_of id (take now new.entries))) × (serial ≤ now) × (now ≤ length new.entries)
  learnt_kept serial begins was now same le inside =
      let few = was.1 in
      (was.0 ∙ ap length (sym (same ∙ learnt_made begins was.2)), omega arith, inside)

  pub no_shorter : IsPrefix pass.entries new.entries → length pass.entries ≤ length new.entries
  no_shorter begins = let long = ap length begins in omega (arith, long, length-take (length pass.entries) new.entries)

  module _ (serial number before : ℕ) (records : List R) (own : own_of id pass.entries ≡ own_of id (take checked pass.entries))
      (number_is : number ≡ length pass.entries) (before_is : before ≡ total pass.entries) (serial_is : serial ≡ length (own_of id (take checked pass.entries)))
      (entries_is : new.entries ≡ pass.entries ++ record { number = number; start = before; seat = id; serial = serial; records = records } ∷ []) where
    growth_is : record { number = number; start = before; seat = id; serial = serial; records = records } ≡ growth_of (seated id checked pass mark) pass.entries records
    growth_is = λ i. record { number = number_is i; start = before_is i; seat = id; serial = serial_is i; records = records }

    put_entries : new.entries ≡ pass.entries ++ growth_of (seated id checked pass mark) pass.entries records ∷ []
    put_entries = entries_is ∙ ap (λ (e : Growth R). pass.entries ++ e ∷ []) growth_is

    pub put_all : own_of id (take (number + 1) new.entries) ≡ own_of id new.entries
    put_all =
        own_of-all id (number + 1) new.entries
        (omega (arith, number_is, ap length put_entries, length_push pass.entries (growth_of (seated id checked pass mark) pass.entries records)))

    pub put_made : own_of id (take (number + 1) new.entries) ≡ own_of id (take checked pass.entries) ++ growth_of (seated id checked pass mark) pass.entries records ∷ []
    put_made =
        put_all ∙ ap (own_of id) put_entries ∙ own_of-push id pass.entries (growth_of (seated id checked pass mark) pass.entries records) refl
        ∙ ap (λ (es : List (Growth R)). es ++ growth_of (seated id checked pass mark) pass.entries records ∷ []) own

    -- what the seat keeps
    pub put_kept : (serial + 1 ≡ length (own_of id (take (number + 1) new.entries))) × (number + 1 ≤ length new.entries)
    put_kept = (
      omega (arith, serial_is, ap length put_made, length_push (own_of id (take checked pass.entries)) (growth_of (seated id checked pass mark) pass.entries records)),
      omega (arith, number_is, ap length put_entries, length_push pass.entries (growth_of (seated id checked pass mark) pass.entries records)),
    )

    pub put_grown : (live : Phase R) (start len : ℕ) → new.of ≡ pass.of → start ≡ length (opening_of live) + total pass.entries → len ≡ length records
        → Grown live (seated id checked pass mark) (seated id (number + 1) new mark) records (record { number = number; start = start; len = len; seat = id; serial = serial })
    put_grown live start len of start_is len_is = record {
      before = pass.entries;
      begins = take-length pass.entries;
      ends = put_entries;
      number = number_is;
      start = start_is;
      len = len_is;
      seat = refl;
      serial = serial_is;
      made = put_made;
      just_own = sym put_all;
      same = (refl, refl, of);
    }
