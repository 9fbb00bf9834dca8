-- Two rules want two annotations: where none stands after the first record, they find nothing.
use Prim.Native.Nat.{ℕ, zero, suc, ◌+◌, ◌-◌, ◌≤◌, ◌<◌}
use mathlib.Core.Path.{◌≡◌, refl, ◌∙◌}
use mathlib.Core.Bool.{Bool, true, false, true≢false, and-false}
use mathlib.Core.List.{List, [], ◌∷◌, flat_map}
use native.Mathlib.Numerals.{add-one}
use native.Mathlib.Omega.{arith}
use lib.Dec.{leb, ltb, eqb}
use borrow.Author.Tests.{eqb-true, leb-true, leb-false, ltb-true, ltb-false}
use Rattle.rules.specs.declared.span.Span.{Span}
use Rattle.rules.specs.Words.{any_of, select, Item}
use Rattle.rules.specs.Kind
use Rattle.rules.specs.Record.{Rec, is}
use Rattle.rules.specs.Context.{ValidationContext, varint}
use Rattle.rules.specs.Rule.{Found}
use Rattle.rules.specs.Annotations.{annotations_of, combined_violations, duplicate_annotations}
use Rattle.names.specs.View.{view_at, view_of}
use Rattle.diagnostic.specs.declared.violations.Violations.{Violations}
use Rattle.diagnostic.specs.Violations.{Adds}
use Rattle.diagnostic.proofs.Added.{adds_none}
use Rattle.annotations.specs.AnnotationAt.{annotation_at, NoneAfter}
use Rattle.lists.proofs.Asked.{SomeFrom}
use Rattle.annotations.proofs.Views.{annotations-next, annotations-other, annotations-none}

-- no record after the first is an annotation
module _ (sheet : List ℕ) where
  none-among :
      (n i e : ℕ) → i + n ≡ e → ((k : ℕ) → i ≤ k → k < e → is Kind.Annotation (view_at sheet k) ≡ false) → annotations_of (view_of sheet i e) ≡ []
  none-among zero i e h none = annotations-none sheet i e (omega arith)
  none-among (suc n) i e h none =
      annotations-other sheet i e (omega arith) (none i (omega arith) (omega arith)) ∙ none-among n (i + 1) e (omega arith) (λ k l. none k (omega arith))

  pub none-after :
      (a e i f : ℕ) (r : Bool) → ((s : List ℕ) → view_of s i f ≡ view_of s (suc a) e) → SomeFrom (λ k. is Kind.Annotation (view_at sheet k)) i f r →
      r ≡ false → NoneAfter sheet a e
  unfolding NoneAfter
  none-after a e i f true same some h = absurd (true≢false h)
  none-after a e i f false same none h = rw (add-one, ← same sheet) (by (leb f i) refl)
    where
      by : (b : Bool) → leb f i ≡ b → annotations_of (view_of sheet i f) ≡ []
      by true t = annotations-none sheet i f (leb-true f i t)
      by false t = let lt : i < f = leb-false f i t in none-among (f - i) i f (omega arith) none

-- one annotation is neither two words, nor met before
module _ (ctx : ValidationContext ℕ Span) where
  one-combined : (x : Item (Rec ℕ Span)) → combined_violations ctx (x ∷ []) ≡ []
  unfolding combined_violations any_of select flat_map
  one-combined x = by (eqb (ctx.word x.head.name) varint) refl
    where
      by : (b : Bool) → eqb (ctx.word x.head.name) varint ≡ b → combined_violations ctx (x ∷ []) ≡ []
      by true h = rw (eqb-true (ctx.word x.head.name) varint h)
      by false h = rw h

  one-duplicate : (x : Item (Rec ℕ Span)) → duplicate_annotations ctx [] (x ∷ []) ≡ []
  unfolding duplicate_annotations any_of
  one-duplicate x = rw and-false

  module _ (sheet : List ℕ) (a e : ℕ) (vs : Violations) (none : NoneAfter sheet a e) where
    at_most_one : (f : List (Item (Rec ℕ Span)) → List (Found Span)) → f [] ≡ [] → ((x : Item (Rec ℕ Span)) → f (x ∷ []) ≡ []) → f (annotations_of (view_of sheet a e)) ≡ []
    unfolding NoneAfter
    at_most_one f empty one = by (ltb a e) refl (is Kind.Annotation (view_at sheet a)) refl
      where
        by : (some : Bool) → ltb a e ≡ some → (here : Bool) → is Kind.Annotation (view_at sheet a) ≡ here → f (annotations_of (view_of sheet a e)) ≡ []
        by true h true t = rw (annotations-next sheet a e (ltb-true a e h) t, none) (one (annotation_at sheet a e))
        by true h false t = rw (annotations-other sheet a e (ltb-true a e h) t, none) empty
        by false h here t = rw (annotations-none sheet a e (ltb-false a e h)) empty

    pub single-combined : Adds vs vs (combined_violations ctx (annotations_of (view_of sheet a e)))
    unfolding combined_violations any_of
    single-combined = rw (at_most_one (combined_violations ctx) refl one-combined) (adds_none vs)

    pub single-duplicates : Adds vs vs (duplicate_annotations ctx [] (annotations_of (view_of sheet a e)))
    unfolding duplicate_annotations
    single-duplicates = rw (at_most_one (duplicate_annotations ctx []) refl one-duplicate) (adds_none vs)
