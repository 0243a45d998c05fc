-- What is told of the records that are the one wanted.
use Rattle.std.specs.Prelude.{◌≡◌, ℕ, List, Bool, Option}
use Rattle.std.specs.List.{count_by}
use Rattle.record_core.specs.Bytes.{Encoding}
use Rattle.pen_core.specs.Typed.{OpensTo}
use Rattle.search_core.specs.Search.{IsFirst}
use Rattle.text_core.specs.Answers.{number_line, found_line, TestsFor}

module _ {R : Type 0} (form : Encoding R) (wanted : R) (known : Type 0) (bytes text : List ℕ) where
  -- the text tells how many records of a vector are the one that is wanted: of the file's, where its bytes are known
  pub record TellsCount : Type 0 where
    pub records : List R
    pub is : R → Bool
    pub just : TestsFor wanted is
    pub file : known → OpensTo form bytes records
    pub told : text ≡ number_line (count_by is records)

  -- the text tells the least position of one that is, if there is one
  pub record TellsFirst : Type 0 where
    pub records : List R
    pub is : R → Bool
    pub just : TestsFor wanted is
    pub found : Option ℕ
    pub file : known → OpensTo form bytes records
    pub first : IsFirst is records found
    pub told : text ≡ found_line found
