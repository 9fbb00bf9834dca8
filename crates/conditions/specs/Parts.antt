-- What rules 23 to 30 find at a condition, over what they ask of the field's type: the literals that it takes, of which Int says whether it
-- is numeric, and whether it is a collection. And the same for each kind of condition by itself. A condition is its record, with those after it.
use Rattle.std.specs.Prelude.{ℕ, ◌+◌, Bool, not, ◌&&◌}
use mathlib.Core.List.{List, ◌++◌, flat_map}
use Rattle.rules.specs.declared.span.Span.{Span}
use Rattle.rules.specs.declared.range.RecordRange.{RecordRange}
use Rattle.rules.specs.Words.{within, only_if, Item}
use Rattle.rules.specs.Kind
use Rattle.rules.specs.Sub
use Rattle.rules.specs.Record.{Rec, is}
use Rattle.rules.specs.Context.{ValidationContext}
use Rattle.rules.specs.Rule.{Found, found_if}
use Rattle.rules.specs.Conditions.{Literals, length_literals, operands_of, operand_violations}
use Rattle.names.specs.View.{view_at, view_of}

-- the condition at the first record of a range
abbrev pub node_of : List ℕ → RecordRange → Item (Rec ℕ Span)
node_of sheet range = record { head = view_at sheet range.start; rest = view_of sheet (range.start + 1) range.end }

module _ {N P : Type 0} where
  -- the operands of a condition
  abbrev pub operands_at : Item (Rec N P) → List (Rec N P)
  operands_at c = operands_of c.head c.rest

  -- rule 28 at a record
  unfoldable pub operator_violations : Bool → Rec N P → List (Found P)
  operator_violations numeric c = found_if 28 (is Kind.Cmp c && within Sub.Lt Sub.Ge c.sub && not numeric) c.place

module _ {N P : Type 0} (ctx : ValidationContext N P) where
  -- a comparison: rule 28 after the operand
  unfoldable pub comparison_violations : Literals → Item (Rec N P) → List (Found P)
  comparison_violations takes c = flat_map (operand_violations ctx takes) (operands_at c) ++ operator_violations takes.int c.head

  -- a range: rule 29 after both operands
  unfoldable pub range_violations : Literals → Item (Rec N P) → List (Found P)
  range_violations takes c = flat_map (operand_violations ctx takes) (operands_at c) ++ found_if 29 (not takes.int) c.head.place

  -- len: rule 30 before the operands
  unfoldable pub length_violations : Bool → Item (Rec N P) → List (Found P)
  length_violations collection c =
      found_if 30 (not collection) c.head.place ++ flat_map (operand_violations ctx length_literals) (operands_at c)

  -- any condition
  unfoldable pub node_violations : Literals → Bool → Item (Rec N P) → List (Found P)
  node_violations takes collection c =
      only_if (within Kind.Cmp Kind.Range c.head.kind) (flat_map (operand_violations ctx takes) (operands_at c))
      ++ found_if 28 (is Kind.Cmp c.head && within Sub.Lt Sub.Ge c.head.sub && not takes.int) c.head.place
      ++ found_if 29 (is Kind.Range c.head && not takes.int) c.head.place
      ++ found_if 30 (within Kind.LenCmp Kind.LenRange c.head.kind && not collection) c.head.place
      ++ only_if (within Kind.LenCmp Kind.LenRange c.head.kind) (flat_map (operand_violations ctx length_literals) (operands_at c))
