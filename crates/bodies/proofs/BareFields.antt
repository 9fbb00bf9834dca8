-- A bare field has neither annotations nor a condition, and so what is wrong with it is what is wrong with the name of its type, if that has one.
use Rattle.std.proofs.Common.{◌≡◌, ℕ, ◌+◌, ◌≤◌, List, sym, ◌∙◌, arith}
use Rattle.rules.specs.declared.span.Span.{Span}
use Rattle.rules.specs.Kind
use Rattle.rules.specs.Record.{record_bytes, kind_in}
use Rattle.rules.specs.Context.{ValidationContext}
use Rattle.rules.specs.Types.{type_violations}
use Rattle.rules.specs.Bodies.{field_violations}
use Rattle.names.specs.View.{view_at, view_of}
use Rattle.diagnostic.specs.declared.violations.Violations.{Violations}
use Rattle.diagnostic.specs.Violations.{Adds}
use Rattle.diagnostic.proofs.Added.{adds_none}
use Rattle.types.specs.Own.{named_found}
use Rattle.rules.proofs.Taken.{within-true}
use Rattle.types.proofs.Views.{view-cons}
use Rattle.types.proofs.Walk.{type-plain, type-named}
use Rattle.bodies.specs.Parts.{Bare}
use Rattle.bodies.proofs.FieldEnds.{bare_parts, bare_end}
use Rattle.bodies.proofs.FieldParts.{annotations_none, condition_none, field_added}

module _ (ctx : ValidationContext ℕ Span) (sheet : List ℕ) (a e : ℕ) (bare : Bare sheet a e) where
  -- it is as bare with nothing behind it
  alone : Bare sheet a (a + 1)
  unfolding Bare
  alone = (omega arith, bare.1, λ lt. absurd (omega arith))

  bare_type :
      (old new : Violations) → Adds old new (type_violations ctx (view_of sheet a (a + 1))) → Adds old new (field_violations ctx (view_of sheet a (a + 1)))
  bare_type old new added =
      field_added ctx sheet (bare_parts a) (bare_end sheet a (a + 1) alone).1 old new new new added
      (annotations_none ctx (view_of sheet a (a + 1)) sheet a a new (omega arith))
      (condition_none ctx (view_of sheet a (a + 1)) sheet (a + 1) (a + 1) new (omega arith))

  pub bare_named :
      (old new : Violations) (kind : ℕ) → kind ≡ kind_in (record_bytes sheet a) → kind ≡ Kind.Named → Adds old new (named_found ctx (view_at sheet a)) →
      Adds old new (field_violations ctx (view_of sheet a (a + 1)))
  unfolding view_at
  bare_named old new kind hk named added =
      bare_type old new
      (rw (view-cons sheet a (a + 1) (omega arith), type-named ctx (view_at sheet a) (view_of sheet (a + 1) (a + 1)) (sym hk ∙ named)) added)

  pub bare_plain :
      (old : Violations) (kind : ℕ) → kind ≡ kind_in (record_bytes sheet a) → (kind ≡ Kind.Named → ⊥) → Adds old old (field_violations ctx (view_of sheet a (a + 1)))
  unfolding Bare view_at
  bare_plain old kind hk other =
      let range : (Kind.Primitive ≤ kind_in (record_bytes sheet a)) × (kind_in (record_bytes sheet a) ≤ Kind.Named) =
      within-true Kind.Primitive Kind.Named (kind_in (record_bytes sheet a)) bare.1 in
      bare_type old old
      (rw (view-cons sheet a (a + 1) (omega arith), type-plain ctx (view_at sheet a) (view_of sheet (a + 1) (a + 1)) range.0 (omega (arith, range.1)))
      (adds_none old))
