-- Rules 13 to 22 of a field: rule 13, then the rules of each annotation in turn, then rule 22.
use Prim.Native.Nat.{ℕ, ◌+◌, ◌≤◌, ◌<◌}
use mathlib.Core.Path.{◌≡◌, sym, ◌∙◌, refl}
use mathlib.Core.Bool.{Bool, true, false}
use mathlib.Core.List.{List, [], flat_map}
use Rattle.rules.specs.declared.span.Span.{Span}
use Rattle.rules.specs.declared.range.RecordRange.{RecordRange}
use Rattle.rules.specs.Kind
use Rattle.rules.specs.Record.{is}
use Rattle.rules.specs.Rule.{Found}
use Rattle.rules.specs.Annotations.{annotations_of, annotation_violations, combined_violations, duplicate_annotations, annotations_violations}
use Rattle.names.specs.declared.context.ValidationContext.{ValidationContext}
use Rattle.names.specs.Known.{context_in, records_in}
use Rattle.names.specs.View.{view_at}
use Rattle.diagnostic.specs.declared.violations.Violations.{Violations}
use Rattle.diagnostic.specs.Violations.{Adds}
use Rattle.diagnostic.proofs.Added.{adds_then}
use Rattle.annotations.specs.AnnotationAt.{annotation_at}
use Rattle.annotations.specs.Each.{each_from}
use Rattle.types.proofs.Left.{Leaves, leaves_rest, leaves_none}
use Rattle.annotations.proofs.Views.{annotations-next, annotations-other, annotations-none}

module _ (context : ValidationContext) (ty : RecordRange) (e : ℕ) (old : Violations) (all : List (Found Span)) where
  abbrev left : ℕ → List (Found Span)
  left i = each_from context ty i e

  -- a turn of the loop, at an annotation and at another record
  pub each-found :
      (mid new : Violations) (i : ℕ) (b : Bool) → i < e → b ≡ is Kind.Annotation (view_at context.sheet.now i) → b ≡ true → Leaves old mid all (left i) →
      Adds mid new (annotation_violations (context_in context) (records_in context ty) (annotation_at context.sheet.now i e)) → Leaves old new all (left (i + 1))
  unfolding each_from flat_map
  each-found mid new i b h hb t before here =
      leaves_rest old mid new all _ _ _ (rw (annotations-next context.sheet.now i e h (sym hb ∙ t)) at before) refl here

  pub each-other :
      (mid : Violations) (i : ℕ) (b : Bool) → i < e → b ≡ is Kind.Annotation (view_at context.sheet.now i) → b ≡ false → Leaves old mid all (left i) →
      Leaves old mid all (left (i + 1))
  unfolding each_from flat_map
  each-other mid i b h hb t before = rw (annotations-other context.sheet.now i e h (sym hb ∙ t)) at before

  pub each-end : (now : Violations) (i : ℕ) → e ≤ i → Leaves old now all (left i) → Adds old now all
  unfolding each_from flat_map
  each-end now i h before = leaves_none old now all _ (rw (annotations-none context.sheet.now i e h) at before) refl

-- the three parts in the definition's order
pub field_found :
    (context : ValidationContext) (annotations ty : RecordRange) (old one two new : Violations) →
    Adds old one (combined_violations (context_in context) (annotations_of (records_in context annotations))) →
    Adds one two (each_from context ty annotations.start annotations.end) →
    Adds two new (duplicate_annotations (context_in context) [] (annotations_of (records_in context annotations))) →
    Adds old new (annotations_violations (context_in context) (records_in context ty) (records_in context annotations))
unfolding annotations_violations each_from
field_found context annotations ty old one two new h₁ h₂ h₃ = adds_then old two new _ _ (adds_then old one two _ _ h₁ h₂) h₃
