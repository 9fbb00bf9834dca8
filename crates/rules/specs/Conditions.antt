-- Conditions (`validate_where_expr`, `validate_where_operand`, `validate_cmp_operator`): rules 23 to 30, parts left to right.
use Rattle.std.specs.Prelude.{ℕ, Bool, true, false, not, ◌&&◌, length, take}
use mathlib.Core.List.{List, [], ◌∷◌, ◌++◌, flat_map}
use Rattle.rules.specs.Words.{within, only_if, first_is}
use Rattle.rules.specs.Kind
use Rattle.rules.specs.Sub
use Rattle.rules.specs.Record.{Rec, is, is_of}
use Rattle.rules.specs.Context.{ValidationContext, is_known_const}
use Rattle.rules.specs.Rule.{Found, found_if}
use Rattle.rules.specs.Types.{is_numeric_type, is_collection_type}

-- which literals a type takes
pub record Literals : Type 0 where
  pub int : Bool
  pub float : Bool
  pub string : Bool
  pub bool : Bool

-- a U64's, as which the operands of len are checked
abbrev pub length_literals : Literals
length_literals = record { int = true; float = false; string = false; bool = false }

module _ {N P : Type 0} where
  -- "Optional is looked through where a condition wants a number .., not for Float, String or Bool operands"
  abbrev pub literals_of : List (Rec N P) → Literals
  literals_of ty =
      record {
        int = is_numeric_type ty;
        float = first_is (λ t. is Kind.Primitive t && within Sub.F32 Sub.F64 t.sub) ty;
        string = first_is (is_of Kind.Semantic Sub.String) ty;
        bool = first_is (is_of Kind.Primitive Sub.Bool) ty;
      }

  -- the operands of a condition, which stand directly after it
  abbrev pub operands_of : Rec N P → List (Rec N P) → List (Rec N P)
  operands_of c rs = take (length (Kind.parts_of c.kind)) rs

module _ {N P : Type 0} (ctx : ValidationContext N P) where
  -- rules 23 to 27 at an operand
  unfoldable pub operand_violations : Literals → Rec N P → List (Found P)
  operand_violations takes o =
      found_if 23 (is_sub Sub.IntOperand && not takes.int) o.place
      ++ found_if 24 (is_sub Sub.FloatOperand && not takes.float) o.place
      ++ found_if 25 (is_sub Sub.StringOperand && not takes.string) o.place
      ++ found_if 26 (is_sub Sub.BoolOperand && not takes.bool) o.place
      ++ found_if 27 (is_sub Sub.ConstRef && not (is_known_const ctx o.name)) o.place
    where
      is_sub : ℕ → Bool
      is_sub s = is_of Kind.Operand s o

  -- rules 23 to 30 at a condition with those records after it, on a field of that type
  unfoldable pub own_condition_violations : List (Rec N P) → Rec N P → List (Rec N P) → List (Found P)
  own_condition_violations ty c rs =
      only_if (within Kind.Cmp Kind.Range c.kind) (flat_map (operand_violations (literals_of ty)) (operands_of c rs))
      ++ found_if 28 (is Kind.Cmp c && within Sub.Lt Sub.Ge c.sub && not (is_numeric_type ty)) c.place
      ++ found_if 29 (is Kind.Range c && not (is_numeric_type ty)) c.place
      ++ found_if 30 (within Kind.LenCmp Kind.LenRange c.kind && not (is_collection_type ty)) c.place
      ++ only_if (within Kind.LenCmp Kind.LenRange c.kind) (flat_map (operand_violations length_literals) (operands_of c rs))

  -- rules 23 to 30 of a condition on a field of that type
  unfoldable pub condition_violations : List (Rec N P) → List (Rec N P) → List (Found P)
  condition_violations ty [] = []
  condition_violations ty (c ∷ rs) = own_condition_violations ty c rs ++ condition_violations ty rs
