-- The annotations before a record, by their indices.
use Rattle.std.specs.Prelude.{ℕ, zero, suc, ◌+◌, ◌-◌, Bool, not, ◌&&◌, List, [], ◌∷◌, ◌++◌, eqb}
use Rattle.rules.specs.Words.{only_if, any_of}
use Rattle.rules.specs.Kind
use Rattle.rules.specs.Record.{is}
use Rattle.rules.specs.Context.{doc}
use Rattle.names.specs.View.{view_at, context_by}
use Rattle.lists.specs.Met.{Row}

-- record i is an annotation
abbrev pub is_annotation : List ℕ → ℕ → Bool
is_annotation sheet i = is Kind.Annotation (view_at sheet i)

-- of n records from record a on, those that are annotations, the last first
unfoldable pub earlier_of : List ℕ → ℕ → ℕ → List ℕ
earlier_of sheet a zero = []
earlier_of sheet a (suc n) = only_if (is Kind.Annotation (view_at sheet (a + n))) ((a + n) ∷ []) ++ earlier_of sheet a n

-- the annotations from record a up to record i, the last first
abbrev pub earlier : List ℕ → ℕ → ℕ → List ℕ
earlier sheet a i = earlier_of sheet a (i - a)

-- record i is an annotation other than `doc`
unfoldable pub is_compared_at : List ℕ → List ℕ → ℕ → Bool
is_compared_at table sheet i = is Kind.Annotation (view_at sheet i) && not (eqb ((context_by table sheet).word i) doc)

-- and one from record a on has its name
abbrev pub repeats_at : List ℕ → List ℕ → ℕ → ℕ → Bool
repeats_at table sheet a i = is_compared_at table sheet i && any_of ((context_by table sheet).same i) (earlier sheet a i)

-- the annotations from record a on, by their names
abbrev pub annotations_row : List ℕ → List ℕ → ℕ → Row
annotations_row table sheet a = record { sheet = sheet; table = table; kind = Kind.Annotation; start = a }
