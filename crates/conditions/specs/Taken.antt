-- The literals that a type takes, as the code holds them, and what is found at an operand.
use Rattle.std.specs.Prelude.{ℕ, Bool, not, List, Option, Some, None, if◌then◌else◌, ◌==◌}
use Rattle.rules.specs.Sub
use Rattle.rules.specs.Rule.{Found, found_if}
use Rattle.rules.specs.Conditions as conditions
use Rattle.conditions.specs.declared.literals.Literals.{Literals}
use Rattle.conditions.specs.declared.operand.Operand.{Operand}
use Rattle.conditions.specs.declared.operand.Operand.TheVariants.{Int, Float, String, Bool as Boolean, ConstRef}

-- the definition's literals
abbrev pub taken : Literals → conditions.Literals
taken l = record { int = l.int; float = l.float; string = l.string; bool = l.boolean }

-- the operand with that sub, if a rule speaks of it
unfoldable pub operand_of : ℕ → Option Operand
operand_of sub =
    if sub == Sub.IntOperand then Some Int
    else (if sub == Sub.FloatOperand then Some Float
    else (if sub == Sub.StringOperand then Some String
    else (if sub == Sub.BoolOperand then Some Boolean
    else (if sub == Sub.ConstRef then Some ConstRef
    else None))))

-- rules 23 to 27 at an operand, on a type that takes those literals, with a constant that is known or not
module _ {P : Type 0} (takes : conditions.Literals) (known : Bool) (place : P) where
  unfoldable pub operand_found : Operand → List (Found P)
  operand_found Int = found_if 23 (not takes.int) place
  operand_found Float = found_if 24 (not takes.float) place
  operand_found String = found_if 25 (not takes.string) place
  operand_found Boolean = found_if 26 (not takes.bool) place
  operand_found ConstRef = found_if 27 (not known) place
