-- The types that are due along a type's records, as two numbers: the parts that are skipped come first, and then those that are checked.
use Rattle.std.specs.Prelude.{ℕ, Bool, true, false, not, ◌&&◌, ◌||◌, List, [], ◌∷◌, ◌++◌, map, replicate, eqb}
use Rattle.types.specs.declared.field_type.Due.{Due}
use Rattle.rules.specs.Words.{within, first_is}
use Rattle.rules.specs.Kind
use Rattle.rules.specs.Record.{Rec, is}
use Rattle.rules.specs.Types.{checked_parts}

-- the test for each type that is due: whether it is checked
unfoldable pub stack_of : Due → List Bool
stack_of due = replicate due.skipped false ++ replicate due.checked true

-- the tests after a record of that kind
unfoldable pub stack_after : List Bool → ℕ → List Bool
stack_after [] k = []
stack_after (checked ∷ due) k =
    elim (eqb k Kind.BitName) [
      | true ↦ checked ∷ due
      | false ↦ map (λ part. checked && part) (checked_parts k) ++ due
    ]

-- nothing is found at the record, and the tests after it are those before it: a bit name, an optional, an array, a fixed array that has elements
unfoldable pub is_passed : {N P : Type 0} → Rec N P → Bool
is_passed t =
    elim (is Kind.FixedArray t) [
      | true ↦ not (eqb t.value 0)
      | false ↦ is Kind.BitName t || within Kind.Optional Kind.Array t.kind
    ]

-- the next type is one that is checked
abbrev pub is_checked : List Bool → Bool
is_checked = first_is (λ checked. checked)
