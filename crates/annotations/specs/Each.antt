-- What the rules find at the annotations of a field, each by itself.
use Rattle.std.specs.Prelude.{ℕ}
use mathlib.Core.List.{List, flat_map}
use Rattle.rules.specs.declared.span.Span.{Span}
use Rattle.rules.specs.declared.range.RecordRange.{RecordRange}
use Rattle.rules.specs.Rule.{Found}
use Rattle.rules.specs.Annotations.{annotations_of, annotation_violations}
use Rattle.names.specs.declared.context.ValidationContext.{ValidationContext}
use Rattle.names.specs.Known.{context_in, records_in}
use Rattle.names.specs.View.{view_of}

-- rules 14 to 21 at the annotations from record i up to record e, of a field of that type
unfoldable pub each_from : ValidationContext → RecordRange → ℕ → ℕ → List (Found Span)
each_from context ty i e =
    flat_map (annotation_violations (context_in context) (records_in context ty)) (annotations_of (view_of context.sheet.now i e))
