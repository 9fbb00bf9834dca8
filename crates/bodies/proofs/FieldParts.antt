-- A field by its parts: the annotations end where the type begins, and the type where the condition does.
use Prim.Native.Nat.{ℕ, zero, suc, ◌+◌, ◌-◌, ◌<◌, ◌≤◌}
use mathlib.Core.Path.{◌≡◌, sym, ◌∙◌}
use mathlib.Core.List.{List, flat_map}
use native.Mathlib.Omega.{arith}
use Rattle.rules.specs.declared.span.Span.{Span}
use Rattle.rules.specs.Record.{Rec}
use Rattle.rules.specs.Context.{ValidationContext}
use Rattle.rules.specs.Words.{any_of, items}
use Rattle.rules.specs.Types.{type_violations}
use Rattle.rules.specs.Annotations.{combined_violations, duplicate_annotations, annotations_violations}
use Rattle.rules.specs.Conditions.{condition_violations}
use Rattle.rules.specs.Bodies.{field_violations}
use Rattle.names.specs.View.{view_at, view_of}
use Rattle.types.proofs.Views.{view-cons, view-none}
use Rattle.types.proofs.Walk.{optional-type}
use Rattle.conditions.proofs.WholeCondition.{optional-condition}
use Rattle.diagnostic.specs.declared.violations.Violations.{Violations}
use Rattle.diagnostic.specs.Violations.{Adds}
use Rattle.diagnostic.proofs.Added.{adds_none, adds_then}
use Rattle.bodies.specs.declared.field.FieldParts.{FieldParts}
use Rattle.bodies.specs.Runs.{EndsAt, AllIn}
use Rattle.bodies.specs.Parts.{OptionalsTo, PartsAt}

-- where there are no annotations nothing is found, and where there is no condition
module _ (ctx : ValidationContext ℕ Span) (ty : List (Rec ℕ Span)) (sheet : List ℕ) (a e : ℕ) (old : Violations) (none : e ≤ a) where
  pub annotations_none : Adds old old (annotations_violations ctx ty (view_of sheet a e))
  unfolding annotations_violations combined_violations duplicate_annotations flat_map items any_of
  annotations_none = rw (view-none sheet a e none) (adds_none old)

  pub condition_none : Adds old old (condition_violations ctx ty (view_of sheet a e))
  unfolding condition_violations
  condition_none = rw (view-none sheet a e none) (adds_none old)

-- what no record of a part changes is the same behind the part
by-records : {A : Type 0} (f : List (Rec ℕ Span) → A) (sheet : List ℕ) (e n a : ℕ) →
    ((j : ℕ) → a ≤ j → j < a + n → f (view_of sheet (j + 1) e) ≡ f (view_of sheet j e)) → f (view_of sheet (a + n) e) ≡ f (view_of sheet a e)
by-records f sheet e zero a h = let same : a + 0 ≡ a = omega arith in rw same
by-records f sheet e (suc n) a h =
    let next : a + suc n ≡ a + n + 1 = omega arith in
    rw next (h (a + n) (omega arith) (omega arith) ∙ by-records f sheet e n a (λ j l lt. h j l (omega arith)))

-- the rules of types find nothing at optionals, and those of conditions find at the last of them what they find at all
module _ (ctx : ValidationContext ℕ Span) (sheet : List ℕ) (a e behind : ℕ) (optionals : OptionalsTo sheet a e behind) where
  type-behind : type_violations ctx (view_of sheet behind e) ≡ type_violations ctx (view_of sheet a e)
  unfolding OptionalsTo AllIn
  type-behind =
      let place : a + (behind - a) ≡ behind = omega (arith, optionals.0) in
      rw place at (by-records (type_violations ctx) sheet e (behind - a) a
      (λ j l lt. rw (view-cons sheet j e (omega (arith, optionals.1)))
      (sym (optional-type ctx (view_at sheet j) (view_of sheet (j + 1) e) (optionals.2 j l (omega (arith, optionals.0)))))))

  condition-behind : (cs : List (Rec ℕ Span)) (last : ℕ) → (a ≤ last) × (a < last → last + 1 ≡ behind) →
      condition_violations ctx (view_of sheet last e) cs ≡ condition_violations ctx (view_of sheet a e) cs
  unfolding OptionalsTo AllIn
  condition-behind cs last h =
      let place : a + (last - a) ≡ last = omega (arith, h.0) in
      rw place at (by-records (λ ty. condition_violations ctx ty cs) sheet e (last - a) a step)
    where
      step : (j : ℕ) → a ≤ j → j < a + (last - a) → condition_violations ctx (view_of sheet (j + 1) e) cs ≡ condition_violations ctx (view_of sheet j e) cs
      step j l lt =
          let end : last + 1 ≡ behind = h.1 (omega arith) in
          let second = view-cons sheet (j + 1) e (omega (arith, optionals.1)) in
          rw (view-cons sheet j e (omega (arith, optionals.1)), second)
          (sym (optional-condition ctx (view_at sheet j) (view_at sheet (j + 1)) (view_of sheet (j + 1 + 1) e) (optionals.2 j l (omega arith)) (optionals.2 (j + 1) (omega arith) (omega arith)) cs))

pub condition_added :
    (ctx : ValidationContext ℕ Span) (sheet : List ℕ) (ta behind te last : ℕ) (cs : List (Rec ℕ Span)) (old new : Violations) → OptionalsTo sheet ta te behind →
    (ta ≤ last) × (ta < last → last + 1 ≡ behind) → Adds old new (condition_violations ctx (view_of sheet last te) cs) →
    Adds old new (condition_violations ctx (view_of sheet ta te) cs)
condition_added ctx sheet ta behind te last cs old new optionals h added = rw (condition-behind ctx sheet ta te behind optionals cs last h) at added

module _ (ctx : ValidationContext ℕ Span) (sheet : List ℕ) (parts : FieldParts) (at : PartsAt sheet parts) where
  pub parts_optionals : OptionalsTo sheet parts.ty.start parts.ty.end parts.behind
  unfolding PartsAt
  parts_optionals = at.4

  pub field_added :
      (old first second new : Violations) → Adds old first (type_violations ctx (view_of sheet parts.behind parts.ty.end)) →
      Adds first second (annotations_violations ctx (view_of sheet parts.ty.start parts.ty.end) (view_of sheet parts.annotations.start parts.annotations.end)) →
      Adds second new (condition_violations ctx (view_of sheet parts.ty.start parts.ty.end) (view_of sheet parts.condition.start parts.condition.end)) →
      Adds old new (field_violations ctx (view_of sheet parts.annotations.start parts.condition.end))
  unfolding PartsAt EndsAt field_violations
  field_added old first second new type annotations condition =
      let behind = type-behind ctx sheet parts.ty.start parts.ty.end parts.behind at.4 in
      rw (← at.2.0, ← at.2.1, ← at.3.0, ← at.3.1)
      (adds_then old second new _ _ (adds_then old first second _ _ (rw behind at type) (rw at.0 at annotations)) (rw at.1 at condition))
