-- What is found at one field of a list.
use Rattle.std.specs.Prelude.{ℕ, ◌+◌, Bool, List, ◌++◌}
use Rattle.rules.specs.declared.span.Span.{Span}
use Rattle.rules.specs.Rule.{Found}
use Rattle.rules.specs.Bodies.{field_scheme, field_violations}
use Rattle.names.specs.View.{view_at, view_of, context_by}
use Rattle.lists.specs.Ordinal.{member_found}

-- the field at record i, whose parts end at record end
unfoldable pub field_found : List ℕ → List ℕ → ℕ → ℕ → Bool → Bool → Bool → List (Found Span)
field_found table sheet i end tombstoned met renamed =
    member_found field_scheme tombstoned met renamed (view_at sheet i) ++ field_violations (context_by table sheet) (view_of sheet (i + 1) end)
