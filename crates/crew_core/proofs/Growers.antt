-- What a grower has made.
use Rattle.std.proofs.Common.{◌≡◌, ℕ, ◌+◌, ◌<◌, ◌≤◌, inl, inr, List, [], ◌∷◌, ◌++◌, length, map, slice_get, Some, None, Option, refl, sym, ap, subst, ◌∙◌, arith}
use Rattle.std.proofs.lemmas.List.{length_push, map_push}
use Rattle.block_core.specs.Growth.{Growth}
use Rattle.book_core.specs.declared.fault.GrowFault.{GrowFault}
use Rattle.book_core.specs.declared.fault.GrowFault.TheVariants.{Closed, Full, TooLong, Strayed, Memory, Empty, TooLarge}
use Rattle.book_core.specs.declared.seat.Receipt.{Receipt}
use Rattle.book_core.specs.Marks.{MarkEnd}
use Rattle.book_core.specs.Lists.{Phase, Seated, IsSeatOf, opening_of}
use Rattle.book_core.specs.Beginning.{IsNewSeat}
use Rattle.book_core.specs.Growing.{Grown, SeatLearns, IsBookRefusal, growth_of}
use Rattle.book_core.proofs.Owns.{push_get}
use Rattle.crew_core.specs.Crewing.{HasGrown, IsGrowerFault, IsBlockFault, StopsGrower, MayStarve, receipt_of}

nothing_there : {X : Type 0} (xs : List X) (k : ℕ) (x : X) → xs ≡ [] → slice_get xs k ≡ Some x → ⊥
nothing_there xs k x none is = let at : None ≡ Some x = sym (ap (λ (ys : List _). slice_get ys k) none) ∙ is in grind arith

module _ {R : Type 0} (width : ℕ) (live : Phase R) (count : ℕ) (block : ℕ → List R) (id : ℕ) where
  -- a new seat's grower has made nothing
  pub begun : (seat : Seated R) → IsNewSeat live.directory live.mark id seat → HasGrown width live count block id seat [] None
  begun seat new = record {
    of = record { directory = new.of; mark = ap (λ (m : MarkEnd). m.of) new.marked };
    id_is = new.id_is;
    few = let none = ap length new.made in omega arith;
    blocks_are = λ k growth is. absurd (nothing_there seat.made k growth new.made is);
    serials_are = λ k growth is. absurd (nothing_there seat.made k growth new.made is);
    receipts_are = sym (ap (map (receipt_of (length (opening_of live)))) new.made);
    fault_is = tt;
  }

  module _ (old : Seated R) (receipts : List Receipt) (grown : HasGrown width live count block id old receipts None) where
    -- it stops
    pub stopped : (new : Seated R) (fault : GrowFault) → IsSeatOf live new → new.id ≡ old.id → new.made ≡ old.made
        → StopsGrower width live count block new fault → HasGrown width live count block id new receipts (Some fault)
    stopped new fault of same made stop = record {
      of = of;
      id_is = same ∙ grown.id_is;
      few = let few = grown.few in let is = ap length made in omega arith;
      blocks_are = λ k growth is. grown.blocks_are k growth (sym (ap (λ (es : List (Growth R)). slice_get es k) made) ∙ is);
      serials_are = λ k growth is. grown.serials_are k growth (sym (ap (λ (es : List (Growth R)). slice_get es k) made) ∙ is);
      receipts_are = grown.receipts_are ∙ sym (ap (map (receipt_of (length (opening_of live)))) made);
      fault_is = stop;
    }

    -- by want of memory
    pub starved : MayStarve count (length old.made) → HasGrown width live count block id old receipts (Some Memory)
    starved may = stopped old Memory grown.of refl refl (inl (refl, may))

    -- for want of a block
    pub blockless : (fault : GrowFault) → length old.made < count → IsBlockFault width (length (block (length old.made))) fault → HasGrown width live count block id old receipts (Some fault)
    blockless Closed lt why = absurd why
    blockless Full lt why = absurd why
    blockless TooLong lt why = absurd why
    blockless (Strayed n) lt why = absurd why
    blockless Memory lt why = starved (inl lt)
    blockless Empty lt why = stopped old Empty grown.of refl refl (inr (lt, why))
    blockless TooLarge lt why = stopped old TooLarge grown.of refl refl (inr (lt, why))

    module _ (new : Seated R) (of : IsSeatOf live new) (records : List R) (is : records ≡ block (length old.made)) (lt : length old.made < count) where
      -- by the book
      named : new.made ≡ old.made → (fault : GrowFault) → IsGrowerFault width live new (length records) fault → StopsGrower width live count block new fault
      named made fault why = inr (
        subst (λ (n : ℕ). n < count) (sym (ap length made)) lt,
        subst (λ (n : ℕ). IsGrowerFault width live new n fault) (ap length (is ∙ ap (λ (es : List (Growth R)). block (length es)) (sym made))) why,
      )

      pub refused : (fault : GrowFault) → SeatLearns old new → IsBookRefusal live new (length records) fault → HasGrown width live count block id new receipts (Some fault)
      refused Closed learns why = stopped new Closed of learns.id learns.made (named learns.made Closed tt)
      refused Full learns why = stopped new Full of learns.id learns.made (named learns.made Full why)
      refused TooLong learns why = stopped new TooLong of learns.id learns.made (named learns.made TooLong why)
      refused (Strayed n) learns why = stopped new (Strayed n) of learns.id learns.made (named learns.made (Strayed n) why)
      refused Memory learns why = stopped new Memory of learns.id learns.made (inl (refl, inl (subst (λ (n : ℕ). n < count) (sym (ap length learns.made)) lt)))
      refused Empty learns why = absurd why
      refused TooLarge learns why = absurd why

      -- it goes on by one growth
      pub grown_on : (receipt : Receipt) → Grown live old new records receipt → HasGrown width live count block id new (receipts ++ receipt ∷ []) None
      grown_on receipt made = record {
        of = of;
        id_is = made.same.0 ∙ grown.id_is;
        few = let long = ap length made.made ∙ length_push old.made growth in omega arith;
        blocks_are = λ k g at. elim (push_get old.made growth k g (sym (ap (λ (es : List (Growth R)). slice_get es k) made.made) ∙ at)) [
          | inl before ↦ grown.blocks_are k g before
          | inr last ↦ sym (ap (λ (e : Growth R). e.records) last.1) ∙ (is ∙ ap block (sym last.0))
        ];
        serials_are = λ k g at. elim (push_get old.made growth k g (sym (ap (λ (es : List (Growth R)). slice_get es k) made.made) ∙ at)) [
          | inl before ↦ grown.serials_are k g before
          | inr last ↦ sym (ap (λ (e : Growth R). e.serial) last.1) ∙ sym last.0
        ];
        receipts_are = ap (λ (rs : List Receipt). rs ++ receipt ∷ []) grown.receipts_are
            ∙ (ap (λ (r : Receipt). map of_growth old.made ++ r ∷ []) same
            ∙ (sym (map_push of_growth old.made growth) ∙ ap (map of_growth) (sym made.made)));
        fault_is = tt;
      }
        where
          growth : Growth R
          growth = growth_of old made.before records

          of_growth : Growth R → Receipt
          of_growth = receipt_of (length (opening_of live))

          same : receipt ≡ of_growth growth
          same = λ i. record { number = made.number i; start = made.start i; len = made.len i; seat = made.seat i; serial = made.serial i }

      pub made-more : (receipt : Receipt) → Grown live old new records receipt → length new.made ≡ length old.made + 1
      made-more receipt made = ap length made.made ∙ length_push old.made (growth_of old made.before records)

-- a grower of a new seat is ready to be sent out
pub ready : {R : Type 0} (width : ℕ) (live : Phase R) (count : ℕ → ℕ) (block : ℕ → ℕ → List R) (n id growers : ℕ) (seat seat' : Seated R)
    (its : List Receipt) (fault : Option GrowFault)
    → IsNewSeat live.directory live.mark n seat → n < growers → id ≡ seat.id → seat' ≡ seat → its ≡ [] → fault ≡ None
    → (seat'.id ≡ id) × (id < growers) × (seat'.made ≡ []) × (fault ≡ None) × HasGrown width live (count id) (block id) id seat' its None
ready {R} width live count block n id growers seat seat' its fault new lt is same none no_fault =
    let at : IsNewSeat live.directory live.mark id seat' =
    subst (λ (s : Seated R). IsNewSeat live.directory live.mark id s) (sym same)
    (subst (λ (k : ℕ). IsNewSeat live.directory live.mark k seat) (sym (is ∙ new.id_is)) new) in (
      at.id_is,
      subst (λ (k : ℕ). k < growers) (sym (is ∙ new.id_is)) lt,
      at.made,
      no_fault,
      subst (λ (rs : List Receipt). HasGrown width live (count id) (block id) id seat' rs None) (sym none)
          (begun width live (count id) (block id) id seat' at),
    )
