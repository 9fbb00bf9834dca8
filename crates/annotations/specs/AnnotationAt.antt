-- An annotation by its record's index.
use Rattle.std.specs.Prelude.{ℕ, suc, ◌+◌, ◌≡◌, Bool, not, ◌&&◌, List, []}
use Rattle.rules.specs.declared.span.Span.{Span}
use Rattle.rules.specs.declared.range.RecordRange.{RecordRange}
use Rattle.rules.specs.Words.{within, front, Item}
use Rattle.rules.specs.Kind
use Rattle.rules.specs.Sub
use Rattle.rules.specs.Record.{Rec, is}
use Rattle.rules.specs.Annotations.{annotations_of}
use Rattle.names.specs.declared.context.ValidationContext.{ValidationContext}
use Rattle.names.specs.View.{view_at, view_of, context_by}

-- the records from record j up to the next annotation or record e
unfoldable pub arguments_from : List ℕ → ℕ → ℕ → List (Rec ℕ Span)
arguments_from sheet j e = front (λ r. not (is Kind.Annotation r)) (view_of sheet j e)

-- the annotation at record i, with its arguments
unfoldable pub annotation_at : List ℕ → ℕ → ℕ → Item (Rec ℕ Span)
annotation_at sheet i e = record { head = view_at sheet i; rest = arguments_from sheet (suc i) e }

-- the annotation at the first record of a range
abbrev pub annotation_in : ValidationContext → RecordRange → Item (Rec ℕ Span)
annotation_in context range = annotation_at context.sheet.now range.start range.end

-- record j is a number without a key
unfoldable pub is_number_at : List ℕ → List ℕ → ℕ → Bool
is_number_at table sheet j = (context_by table sheet).blank j && within Sub.IntArgument Sub.HexArgument (view_at sheet j).sub

-- no annotation stands after record a before record e
unfoldable pub NoneAfter : List ℕ → ℕ → ℕ → Type 0
NoneAfter sheet a e = annotations_of (view_of sheet (a + 1) e) ≡ []
