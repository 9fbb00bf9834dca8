-- The records of a range: the first record and those after it, or none where the range is empty.
use Rattle.std.proofs.Common.{◌≡◌, ℕ, ◌+◌, Bool, true, false, List, [], ◌∷◌, leb, leb-true, leb-false, refl, Option, Some, None, MatchOption}
use Rattle.rules.specs.declared.span.Span.{Span}
use Rattle.rules.specs.declared.range.RecordRange.{RecordRange}
use Rattle.rules.specs.Range.{first_of}
use Rattle.rules.specs.Words.{first_is}
use Rattle.rules.specs.Record.{Rec}
use Rattle.names.specs.View.{view_at, view_of}
pub use Rattle.names.proofs.Views.{view-cons, view-none}

-- the records of a range that has a first, and of one that has none
module _ (sheet : List ℕ) (range : RecordRange) where
  pub view_first : (i : ℕ) → first_of range ≡ Some i → view_of sheet range.start range.end ≡ view_at sheet i ∷ view_of sheet (i + 1) range.end
  view_first i = by (leb range.end range.start) refl
    where
      by :
          (empty : Bool) → leb range.end range.start ≡ empty → ◌≡◌ {A = Option ℕ} (elim empty [ true ↦ None | false ↦ Some range.start ]) (Some i) →
          view_of sheet range.start range.end ≡ view_at sheet i ∷ view_of sheet (i + 1) range.end
      by true h first = cc
      by false h first =
          let same : range.start ≡ i = cc in
          rw (view-cons sheet range.start range.end (leb-false _ _ h), same)

  pub view_empty : first_of range ≡ None → view_of sheet range.start range.end ≡ []
  view_empty = by (leb range.end range.start) refl
    where
      by : (empty : Bool) → leb range.end range.start ≡ empty → ◌≡◌ {A = Option ℕ} (elim empty [ true ↦ None | false ↦ Some range.start ]) None → view_of sheet range.start range.end ≡ []
      by true h first = view-none sheet range.start range.end (leb-true _ _ h)
      by false h first = cc

  -- what a test says of the first record, if there is one, it says of the range
  pub first_says : (p : Rec ℕ Span → Bool) (b : Bool) → MatchOption (first_of range) (b ≡ false) (λ i. b ≡ p (view_at sheet i)) → b ≡ first_is p (view_of sheet range.start range.end)
  first_says p b = by (first_of range) refl
    where
      by : (first : Option ℕ) → first_of range ≡ first → MatchOption first (b ≡ false) (λ i. b ≡ p (view_at sheet i)) → b ≡ first_is p (view_of sheet range.start range.end)
      by None h says = rw (view_empty h) says
      by (Some i) h says = rw (view_first i h) says
