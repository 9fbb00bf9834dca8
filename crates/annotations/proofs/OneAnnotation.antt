-- Rules 14 to 21: an annotation has one word, so it breaks the rules of that word alone.
use Rattle.std.proofs.Common.{ℕ, ◌≤◌, ◌≡◌, refl, sym, false, List, [], ◌++◌, append-nil, arith, eqb, Some, None}
use Rattle.rules.specs.declared.span.Span.{Span}
use Rattle.rules.specs.Record.{Rec}
use Rattle.rules.specs.Rule.{Found}
use Rattle.rules.specs.Annotations.{deprecated_violations, annotation_violations}
use Rattle.names.specs.Codes.{last_word}
use Rattle.names.specs.View.{view_at, view_of, context_by, entry_of, code_part}
use Rattle.diagnostic.specs.declared.violations.Violations.{Violations}
use Rattle.diagnostic.specs.Violations.{Adds}
use Rattle.diagnostic.proofs.Added.{adds_none, adds_then}
use Rattle.names.specs.declared.words.Word.{Word}
use Rattle.names.specs.declared.words.Word.TheVariants.{Varint, Zigzag, Delta, Limit, Deprecated, Doc, Reason, Blank}
use Rattle.annotations.specs.AnnotationAt.{annotation_at}
use Rattle.annotations.specs.LimitViolations.{limit_violations}
use Rattle.annotations.specs.Target.{target_violations}
use Rattle.names.specs.WordOf.{word_of, code_of}
use Rattle.annotations.proofs.WordCodes.{word-other, coded, uncoded}

module _ (table sheet : List ℕ) (i e a z : ℕ) where
  -- what is found at the annotation
  abbrev all : List (Found Span)
  all = annotation_violations (context_by table sheet) (view_of sheet a z) (annotation_at sheet i e)

  -- what is found at its arguments, by its word
  abbrev pub at_arguments : Word → List (Found Span)
  at_arguments Varint = []
  at_arguments Zigzag = []
  at_arguments Delta = []
  at_arguments Limit = limit_violations (context_by table sheet) (view_of sheet a z) (annotation_at sheet i e)
  at_arguments Deprecated = deprecated_violations (context_by table sheet) (annotation_at sheet i e)
  at_arguments Doc = []
  at_arguments Reason = []
  at_arguments Blank = []

  by-word :
      (w : Word) → word_of (entry_of code_part table i) ≡ Some w →
      all ≡ target_violations w (view_of sheet a z) (view_at sheet i).place ++ at_arguments w
  unfolding annotation_violations annotation_at context_by entry_of view_at
  by-word Varint h = rw (coded _ Varint h) (simp append-nil)
  by-word Zigzag h = rw (coded _ Zigzag h) (simp append-nil)
  by-word Delta h = rw (coded _ Delta h) (simp append-nil)
  by-word Limit h = rw (coded _ Limit h) (simp append-nil)
  by-word Deprecated h = rw (coded _ Deprecated h)
  by-word Doc h = rw (coded _ Doc h)
  by-word Reason h = rw (coded _ Reason h)
  by-word Blank h = rw (coded _ Blank h)

  -- a name that is no word
  not-word : (w : Word) → None ≡ word_of (entry_of code_part table i) → 1 ≤ code_of w → code_of w ≤ last_word → eqb ((context_by table sheet).word i) (code_of w) ≡ false
  not-word w h f t = word-other table sheet i (code_of w) f t _ refl (uncoded _ w (sym h))

  pub no_word : (vs : Violations) → None ≡ word_of (entry_of code_part table i) → Adds vs vs all
  unfolding annotation_violations annotation_at view_at
  no_word vs h =
      rw (not-word Varint h (omega arith) (omega arith), not-word Zigzag h (omega arith) (omega arith), not-word Delta h (omega arith) (omega arith))
      (rw (not-word Limit h (omega arith) (omega arith), not-word Deprecated h (omega arith) (omega arith)) (adds_none vs))

  -- what is found for a word, at the annotation and then at its arguments
  pub word_found :
      (w : Word) (old mid new : Violations) → Some w ≡ word_of (entry_of code_part table i) →
      Adds old mid (target_violations w (view_of sheet a z) (view_at sheet i).place) → Adds mid new (at_arguments w) → Adds old new all
  word_found w old mid new h target arguments = rw (by-word w (sym h)) (adds_then old mid new _ _ target arguments)

  pub no_arguments : (w : Word) (vs : Violations) → (w ≡ Limit → ⊥) → (w ≡ Deprecated → ⊥) → Adds vs vs (at_arguments w)
  no_arguments Varint vs h₁ h₂ = adds_none vs
  no_arguments Zigzag vs h₁ h₂ = adds_none vs
  no_arguments Delta vs h₁ h₂ = adds_none vs
  no_arguments Limit vs h₁ h₂ = absurd (h₁ refl)
  no_arguments Deprecated vs h₁ h₂ = absurd (h₂ refl)
  no_arguments Doc vs h₁ h₂ = adds_none vs
  no_arguments Reason vs h₁ h₂ = adds_none vs
  no_arguments Blank vs h₁ h₂ = adds_none vs

-- the other words have no rule at the annotation
pub no_target :
    (w : Word) (ty : List (Rec ℕ Span)) (place : Span) (vs : Violations) → (w ≡ Varint → ⊥) → (w ≡ Zigzag → ⊥) → (w ≡ Delta → ⊥) → (w ≡ Limit → ⊥) →
    Adds vs vs (target_violations w ty place)
no_target Varint ty place vs h₁ h₂ h₃ h₄ = absurd (h₁ refl)
no_target Zigzag ty place vs h₁ h₂ h₃ h₄ = absurd (h₂ refl)
no_target Delta ty place vs h₁ h₂ h₃ h₄ = absurd (h₃ refl)
no_target Limit ty place vs h₁ h₂ h₃ h₄ = absurd (h₄ refl)
no_target Deprecated ty place vs h₁ h₂ h₃ h₄ = adds_none vs
no_target Doc ty place vs h₁ h₂ h₃ h₄ = adds_none vs
no_target Reason ty place vs h₁ h₂ h₃ h₄ = adds_none vs
no_target Blank ty place vs h₁ h₂ h₃ h₄ = adds_none vs
