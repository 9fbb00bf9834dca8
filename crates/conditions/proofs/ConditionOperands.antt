-- The operands of a condition are as many of the records after it as its kind has parts, or all where there are fewer.
use Rattle.std.proofs.Common.{◌≡◌, ℕ, ◌+◌, ◌-◌, ◌≤◌, min, List, length, sym, arith}
use lib.Seq.{take-nil}
use Rattle.rules.specs.Kind
use Rattle.rules.specs.Record.{record_bytes, kind_in}
use Rattle.rules.specs.Conditions.{operands_of}
use Rattle.names.specs.View.{view_at, view_of}
use Rattle.types.proofs.Views.{view-none}
use Rattle.conditions.proofs.FirstRecords.{first_records}

module _ (sheet : List ℕ) (i e : ℕ) where
  pub operands_first :
      (kind parts size : ℕ) → kind ≡ kind_in (record_bytes sheet i) → parts ≡ length (Kind.parts_of kind) → size ≡ min parts (e - (i + 1)) →
      view_of sheet (i + 1) (i + 1 + size) ≡ operands_of (view_at sheet i) (view_of sheet (i + 1) e)
  unfolding view_at
  operands_first kind parts size hk hp hs =
      let length_is : i + 1 + size - (i + 1) ≡ min parts (e - (i + 1)) = omega arith in
      rw (← hk, ← hp, length_is) (sym (first_records sheet parts (i + 1) (e - (i + 1))))

  -- no record stands after a record that is not before the end
  pub operands_none : e ≤ i → view_of sheet i e ≡ operands_of (view_at sheet i) (view_of sheet (i + 1) e)
  operands_none h = rw (view-none sheet i e h, view-none sheet (i + 1) e (omega arith), take-nil)
