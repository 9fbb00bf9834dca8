-- Where a field's parts stand.
use Rattle.std.specs.Prelude.{ℕ, ◌+◌, ◌≤◌, ◌<◌, ◌≡◌, true, List}
use Rattle.rules.specs.Words.{within}
use Rattle.rules.specs.Kind
use Rattle.rules.specs.Record.{is}
use Rattle.rules.specs.Grammar.{starts_field_item}
use Rattle.rules.specs.Bodies.{in_annotations, in_type}
use Rattle.names.specs.View.{view_at}
use Rattle.bodies.specs.declared.field.FieldParts.{FieldParts}
use Rattle.bodies.specs.Runs.{EndsAt, AllIn}

-- the type from record a up to record e starts with optionals up to record b
unfoldable pub OptionalsTo : List ℕ → ℕ → ℕ → ℕ → Type 0
OptionalsTo sheet a e b = (a ≤ b) × (b ≤ e) × AllIn (is Kind.Optional) sheet a b

-- those are the parts of a field, one after the other
unfoldable pub PartsAt : List ℕ → FieldParts → Type 0
PartsAt sheet parts =
    (parts.annotations.end ≡ parts.ty.start)
    × (parts.condition.start ≡ parts.ty.end)
    × EndsAt in_annotations sheet parts.annotations.start parts.condition.end parts.ty.start
    × EndsAt in_type sheet parts.ty.start parts.condition.end parts.ty.end
    × OptionalsTo sheet parts.ty.start parts.ty.end parts.behind

-- record a is a type without parts, and record e or another item of a field list comes next
unfoldable pub Bare : List ℕ → ℕ → ℕ → Type 0
Bare sheet a e =
    (a < e)
    × (within Kind.Primitive Kind.Named (view_at sheet a).kind ≡ true)
    × (a + 1 < e → starts_field_item (view_at sheet (a + 1)) ≡ true)
