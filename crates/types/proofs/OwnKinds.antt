-- The rules of one type are those of its kind: the tests of the other kinds fail.
use Rattle.std.proofs.Common.{◌≡◌, ℕ, ◌<◌, ◌≤◌, Bool, true, false, ◌&&◌, List, [], eqb, refl, sym, ◌∙◌, append-nil, arith, ne_eqb, eqb-true}
use Rattle.std.proofs.lemmas.Bool.{lt-leb}
use mathlib.Core.Bool.{and-false}
use Rattle.rules.specs.declared.span.Span.{Span}
use Rattle.rules.specs.Words.{within, front}
use Rattle.rules.proofs.Taken.{within-intro, within-false}
use Rattle.rules.specs.Kind
use Rattle.rules.specs.Record.{Rec, is, record_bytes, kind_in, span_in, value_in}
use Rattle.rules.specs.Context.{ValidationContext}
use Rattle.rules.specs.Types.{key_violations, element_violations, bit_name_violations, own_type_violations}
use Rattle.rules.specs.Rule.{found_if}
use Rattle.diagnostic.specs.declared.violations.Violations.{Violations}
use Rattle.diagnostic.specs.Violations.{Adds}
use Rattle.diagnostic.proofs.Added.{adds_none}
use Rattle.names.specs.View.{view_at}
use Rattle.types.specs.Own.{named_found}

pub below : (low high n : ℕ) → n < low → within low high n ≡ false
below low high n h = rw (lt-leb low n h)

pub above : (low high n : ℕ) → high < n → within low high n ≡ false
above low high n h = rw (lt-leb n high h, and-false)

-- the rules that are left for each kind
module _ (ctx : ValidationContext ℕ Span) (t : Rec ℕ Span) (rs : List (Rec ℕ Span)) where
  pub own-named : t.kind ≡ Kind.Named → own_type_violations ctx t rs ≡ named_found ctx t
  unfolding own_type_violations named_found
  own-named h = rw (own_type_violations, h) (simp append-nil)

  own-keyed : Kind.Set ≤ t.kind → t.kind ≤ Kind.Map → own_type_violations ctx t rs ≡ key_violations ctx rs
  unfolding own_type_violations
  own-keyed least most =
      rw (
        own_type_violations,
        within-intro Kind.Set Kind.Map t.kind least most,
        ne_eqb t.kind Kind.Named (λ e. omega arith),
        ne_eqb t.kind Kind.FixedArray (λ e. omega arith),
        ne_eqb t.kind Kind.BitsInline (λ e. omega arith),
        below Kind.Vec2 Kind.Mat4 t.kind (omega arith),
      )
      (simp append-nil)

  own-geometric : Kind.Vec2 ≤ t.kind → t.kind ≤ Kind.Mat4 → own_type_violations ctx t rs ≡ element_violations ctx rs
  unfolding own_type_violations
  own-geometric least most =
      rw (
        own_type_violations,
        within-intro Kind.Vec2 Kind.Mat4 t.kind least most,
        ne_eqb t.kind Kind.Named (λ e. omega arith),
        ne_eqb t.kind Kind.FixedArray (λ e. omega arith),
        ne_eqb t.kind Kind.BitsInline (λ e. omega arith),
        above Kind.Set Kind.Map t.kind (omega arith),
      )
      (simp append-nil)

  own-bits : t.kind ≡ Kind.BitsInline → own_type_violations ctx t rs ≡ bit_name_violations ctx t.place (front (is Kind.BitName) rs)
  unfolding own_type_violations
  own-bits h = rw (own_type_violations, h)

  own-fixed : t.kind ≡ Kind.FixedArray → own_type_violations ctx t rs ≡ found_if 9 (eqb t.value 0) t.place
  unfolding own_type_violations
  own-fixed h = rw (own_type_violations, h) (simp append-nil)

  -- no other kind has rules, nor has a fixed array with elements
  pub own-none :
      (t.kind ≡ Kind.Named → ⊥) → (t.kind ≡ Kind.FixedArray → t.value ≡ 0 → ⊥) → (Kind.Set ≤ t.kind → t.kind ≤ Kind.Map → ⊥) →
      (Kind.Vec2 ≤ t.kind → t.kind ≤ Kind.Mat4 → ⊥) → (t.kind ≡ Kind.BitsInline → ⊥) →
      own_type_violations ctx t rs ≡ []
  unfolding own_type_violations
  own-none named fixed keyed geometric bits =
      rw (
        own_type_violations,
        ne_eqb t.kind Kind.Named named,
        within-false Kind.Set Kind.Map t.kind keyed,
        within-false Kind.Vec2 Kind.Mat4 t.kind geometric,
        ne_eqb t.kind Kind.BitsInline bits,
        no-elements (eqb t.kind Kind.FixedArray) (eqb t.value 0) refl refl,
      )
    where
      no-elements : (array empty : Bool) → eqb t.kind Kind.FixedArray ≡ array → eqb t.value 0 ≡ empty → (eqb t.kind Kind.FixedArray && eqb t.value 0) ≡ false
      no-elements true true a z = absurd (fixed (eqb-true _ _ a) (eqb-true _ _ z))
      no-elements true false a z = rw (a, z)
      no-elements false empty a z = rw a

-- so what those rules add is what the type's own rules add
module _ (ctx : ValidationContext ℕ Span) (sheet : List ℕ) (i : ℕ) (rs : List (Rec ℕ Span)) (old new : Violations) (k : ℕ) (kind : k ≡ kind_in (record_bytes sheet i)) where
  pub adds_named : k ≡ Kind.Named → Adds old new (named_found ctx (view_at sheet i)) → Adds old new (own_type_violations ctx (view_at sheet i) rs)
  unfolding view_at
  adds_named h adds = rw (own-named ctx (view_at sheet i) rs (sym kind ∙ h)) adds

  pub adds_keyed : Kind.Set ≤ k → k ≤ Kind.Map → Adds old new (key_violations ctx rs) → Adds old new (own_type_violations ctx (view_at sheet i) rs)
  unfolding view_at
  adds_keyed least most adds = rw (own-keyed ctx (view_at sheet i) rs (rw kind at least) (rw kind at most)) adds

  pub adds_geometric : Kind.Vec2 ≤ k → k ≤ Kind.Mat4 → Adds old new (element_violations ctx rs) → Adds old new (own_type_violations ctx (view_at sheet i) rs)
  unfolding view_at
  adds_geometric least most adds = rw (own-geometric ctx (view_at sheet i) rs (rw kind at least) (rw kind at most)) adds

  pub adds_bits : k ≡ Kind.BitsInline → Adds old new (bit_name_violations ctx (view_at sheet i).place (front (is Kind.BitName) rs)) → Adds old new (own_type_violations ctx (view_at sheet i) rs)
  unfolding view_at
  adds_bits h adds = rw (own-bits ctx (view_at sheet i) rs (sym kind ∙ h)) adds

  pub adds_fixed :
      (n : ℕ) → k ≡ Kind.FixedArray → n ≡ value_in (record_bytes sheet i) → Adds old new (found_if 9 (eqb n 0) (span_in (record_bytes sheet i))) →
      Adds old new (own_type_violations ctx (view_at sheet i) rs)
  unfolding view_at
  adds_fixed n h read adds = rw (own-fixed ctx (view_at sheet i) rs (sym kind ∙ h), ← read) adds

pub adds_no_rule :
    (ctx : ValidationContext ℕ Span) (sheet : List ℕ) (i : ℕ) (rs : List (Rec ℕ Span)) (vs : Violations) (k : ℕ) → k ≡ kind_in (record_bytes sheet i) →
    (k ≡ Kind.Named → ⊥) → (k ≡ Kind.FixedArray → ⊥) → (Kind.Set ≤ k → k ≤ Kind.Map → ⊥) → (Kind.Vec2 ≤ k → k ≤ Kind.Mat4 → ⊥) → (k ≡ Kind.BitsInline → ⊥) →
    Adds vs vs (own_type_violations ctx (view_at sheet i) rs)
unfolding view_at
adds_no_rule ctx sheet i rs vs k kind named fixed keyed geometric bits =
    rw (own-none ctx (view_at sheet i) rs (rw kind at named) (λ e z. fixed (kind ∙ e)) (rw kind at keyed) (rw kind at geometric) (rw kind at bits)) (adds_none vs)
