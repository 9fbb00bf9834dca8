-- The parts that are due, as the code holds them: the entries below the height, the last of them first.
use Rattle.std.specs.Prelude.{ℕ, zero, suc, ◌<◌, ◌≤◌, ◌≡◌, true, false, List, [], ◌∷◌, length, get_or, ltb}
use Rattle.rules.specs.Kind
use Rattle.rules.specs.Kind.{type, condition, operand}
use Rattle.rules.specs.Grammar.{Due, due_at}
use Rattle.grammar.specs.declared.due.Part.{Part}
use Rattle.grammar.specs.declared.due.Part.TheVariants.{TypeExpr, Condition, Operand}
use Rattle.grammar.specs.declared.due.Entry.{Entry}

-- the part of the grammar
abbrev pub part_in : Part → Kind.Part
part_in TypeExpr = type
part_in Condition = condition
part_in Operand = operand

-- the part that a kind's parts are
abbrev pub part_of : ℕ → Part
part_of kind = elim (ltb kind Kind.And) [ true ↦ TypeExpr | false ↦ elim (ltb kind Kind.Cmp) [ true ↦ Condition | false ↦ Operand ] ]

-- what an entry says
abbrev pub due_of : Entry → Due
due_of entry = due_at entry.depth (part_in entry.part)

abbrev pub none : Entry
none = record { depth = 0; part = TypeExpr }

-- what the entries below a height say, the last first
unfoldable pub dues : List Entry → ℕ → List Due
dues entries zero = []
dues entries (suc height) = due_of (get_or entries height none) ∷ dues entries height

-- Each depth that is due is at most 65, and more than the number of the entries below: so at most 65 are due.
pub record Sound (entries : List Entry) (height : ℕ) : Type 0 where
  pub size : length entries ≡ 66
  pub deep : (j : ℕ) → j < height → j < (get_or entries j none).depth
  pub bounded : (j : ℕ) → j < height → (get_or entries j none).depth ≤ 65
