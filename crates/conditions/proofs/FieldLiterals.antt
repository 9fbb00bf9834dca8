-- A type's first record tells which literals but Int it takes; a type with no record takes none of them.
use Rattle.std.proofs.Common.{◌≡◌, ℕ, ◌<◌, ◌≤◌, Bool, true, false, ◌&&◌, List, leb, eqb, refl, leb-true, leb-false, Option, Some, None}
use Rattle.rules.specs.declared.range.RecordRange.{RecordRange}
use Rattle.rules.specs.Range.{first_of}
use Rattle.rules.specs.Words.{within}
use Rattle.rules.specs.Sub
use Rattle.rules.specs.Record.{record_bytes, kind_in, sub_in}
use Rattle.rules.specs.Types.{is_numeric_type}
use Rattle.rules.specs.Conditions.{literals_of}
use Rattle.names.specs.View.{view_at, view_of}
use Rattle.types.proofs.Views.{view-cons, view-none}

-- a range has no first record where it is empty, and else the one that it starts with
module _ (range : RecordRange) (first : Option ℕ) (is : first ≡ first_of range) where
  first_none : first ≡ None → range.end ≤ range.start
  first_none none = by_test (leb range.end range.start) refl
    where
      by_test : (b : Bool) → leb range.end range.start ≡ b → range.end ≤ range.start
      by_test true t = leb-true _ _ t
      by_test false t = let some = rw (t, first_of) at is in absurd (cc)

  first_some : (i : ℕ) → first ≡ Some i → (i ≡ range.start) × (range.start < range.end)
  first_some i some = by_test (leb range.end range.start) refl
    where
      by_test : (b : Bool) → leb range.end range.start ≡ b → (i ≡ range.start) × (range.start < range.end)
      by_test true t = let none = rw (t, first_of) at is in absurd (cc)
      by_test false t = let there = rw (t, first_of) at is in (cc, leb-false _ _ t)

module _ (sheet : List ℕ) (ty : RecordRange) (int : Bool) (h : int ≡ is_numeric_type (view_of sheet ty.start ty.end)) where
  pub literals_none : (first : Option ℕ) → first ≡ first_of ty → first ≡ None →
      record { int = int; float = false; string = false; bool = false } ≡ literals_of (view_of sheet ty.start ty.end)
  literals_none first is none = rw (h, view-none sheet ty.start ty.end (first_none ty first is none))

  pub literals_first :
      (first : Option ℕ) (i kind sub : ℕ) (float : Bool) → float ≡ within Sub.F32 Sub.F64 sub → first ≡ first_of ty → first ≡ Some i → kind ≡ kind_in (record_bytes sheet i) → sub ≡ sub_in (record_bytes sheet i) →
      record {
        int = int;
        float = eqb kind 30 && float;
        string = eqb kind 32 && eqb sub 0;
        bool = eqb kind 30 && eqb sub 0;
      }
      ≡ literals_of (view_of sheet ty.start ty.end)
  unfolding view_at
  literals_first first i kind sub float hf is some hk hs =
      let there = first_some ty first is i some in
      rw (hf, h, hk, hs, there.0, view-cons sheet ty.start ty.end there.1)
