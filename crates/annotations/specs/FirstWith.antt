-- The first annotation with a word.
use Rattle.std.specs.Prelude.{ℕ, List, [], ◌∷◌, take, Option, Some, None}
use Rattle.rules.specs.declared.span.Span.{Span}
use Rattle.rules.specs.Words.{select, Item}
use Rattle.rules.specs.Record.{Rec}
use Rattle.rules.specs.Annotations.{annotations_of, is_word}
use Rattle.names.specs.View.{view_of, context_by}
use Rattle.annotations.specs.AnnotationAt.{annotation_at}

-- the first annotation with the word from record i up to record e, if there is one
unfoldable pub first_with : List ℕ → List ℕ → ℕ → ℕ → ℕ → List (Item (Rec ℕ Span))
first_with table sheet word i e = take 1 (select (is_word (context_by table sheet) word) (annotations_of (view_of sheet i e)))

-- the annotation at the record that was found, if one was
abbrev pub at_first : List ℕ → ℕ → Option ℕ → List (Item (Rec ℕ Span))
at_first sheet e None = []
at_first sheet e (Some i) = annotation_at sheet i e ∷ []
