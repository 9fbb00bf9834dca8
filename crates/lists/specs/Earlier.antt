-- The records of a kind among those already passed.
use Rattle.std.specs.Prelude.{ℕ, zero, suc, ◌+◌, ◌-◌, Bool, ◌&&◌, eqb, List, [], ◌∷◌, ◌++◌, map}
use Rattle.rules.specs.declared.span.Span.{Span}
use Rattle.rules.specs.Words.{only_if, select}
use Rattle.rules.specs.Record.{Rec, is, kind_in, value_in, record_bytes}
use Rattle.names.specs.View.{view_at}

-- the values of the records of a kind
unfoldable pub values_of : {N P : Type 0} → ℕ → List (Rec N P) → List ℕ
values_of kind rs = map (λ r. r.value) (select (is kind) rs)

-- the records of a kind among the n records from a on, the latest first
unfoldable pub earlier : ℕ → List ℕ → ℕ → ℕ → List (Rec ℕ Span)
earlier kind sheet a zero = []
earlier kind sheet a (suc n) = only_if (is kind (view_at sheet (a + n))) (view_at sheet (a + n) ∷ []) ++ earlier kind sheet a n

-- the values of those from a up to i
abbrev pub values_before : ℕ → List ℕ → ℕ → ℕ → List ℕ
values_before kind sheet a i = map (λ r. r.value) (earlier kind sheet a (i - a))

-- record i is of the kind and has the value
unfoldable pub has_value : ℕ → List ℕ → ℕ → ℕ → Bool
has_value kind sheet value i = eqb (kind_in (record_bytes sheet i)) kind && eqb value (value_in (record_bytes sheet i))
