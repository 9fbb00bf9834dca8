-- A record that is passed has no rule, and its one part, if it has one, takes its place among the types that are due.
use Rattle.std.proofs.Common.{◌≡◌, ℕ, ◌≤◌, Bool, true, false, not, ◌&&◌, ◌||◌, List, [], ◌∷◌, eqb, refl, sym, ◌∙◌, arith, ne_eqb}
use mathlib.Core.Bool.{and-true}
use native.Mathlib.Decide.{ℕ_discrete}
use Rattle.rules.specs.declared.span.Span.{Span}
use Rattle.rules.specs.Words.{within}
use Rattle.rules.specs.Kind
use Rattle.rules.specs.Record.{Rec, is, record_bytes, kind_in}
use Rattle.rules.specs.Context.{ValidationContext}
use Rattle.rules.specs.Types.{own_type_violations}
use Rattle.names.specs.View.{view_at}
use Rattle.types.specs.Due.{stack_after, is_passed}
use Rattle.rules.proofs.Taken.{within-true}
use Rattle.types.proofs.OwnKinds.{own-none}

module _ (t : Rec ℕ Span) where
  passed-fixed : t.kind ≡ Kind.FixedArray → is_passed t ≡ not (eqb t.value 0)
  unfolding is_passed
  passed-fixed h = rw (is_passed, h)

  passed-other : (t.kind ≡ Kind.FixedArray → ⊥) → is_passed t ≡ (is Kind.BitName t || within Kind.Optional Kind.Array t.kind)
  unfolding is_passed
  passed-other h = rw (is_passed, ne_eqb t.kind Kind.FixedArray h)

  pub passed-optional : t.kind ≡ Kind.Optional → is_passed t ≡ true
  passed-optional h = passed-other (λ q. omega arith) ∙ rw h

  passed-bit : t.kind ≡ Kind.BitName → is_passed t ≡ true
  passed-bit h = passed-other (λ q. omega arith) ∙ rw h

  -- a fixed array that is passed has elements
  pub passed-elements : is_passed t ≡ true → t.kind ≡ Kind.FixedArray → t.value ≡ 0 → ⊥
  passed-elements passed fixed empty =
      let none : is_passed t ≡ false = passed-fixed fixed ∙ rw empty in
      cc

  -- and any other record that is passed but no bit name has one part
  pub passed-wrapped : is_passed t ≡ true → (t.kind ≡ Kind.BitName → ⊥) → (Kind.Optional ≤ t.kind) × (t.kind ≤ Kind.FixedArray)
  passed-wrapped passed bit = by (ℕ_discrete t.kind Kind.FixedArray)
    where
      by : Dec (t.kind ≡ Kind.FixedArray) → (Kind.Optional ≤ t.kind) × (t.kind ≤ Kind.FixedArray)
      by (yes fixed) = (omega arith, omega arith)
      by (no other) =
          let kinds : (is Kind.BitName t || within Kind.Optional Kind.Array t.kind) ≡ true = sym (passed-other other) ∙ passed in
          let range = within-true Kind.Optional Kind.Array t.kind (rw (ne_eqb t.kind Kind.BitName bit) at kinds) in
          (range.0, omega arith)

-- a record that is not passed is no bit name
pub no_bit : (sheet : List ℕ) (i : ℕ) → is_passed (view_at sheet i) ≡ false → kind_in (record_bytes sheet i) ≡ Kind.BitName → ⊥
unfolding view_at
no_bit sheet i left bit =
    let passed = passed-bit (view_at sheet i) bit in
    cc

-- a type with one part, which is checked where the type is, leaves the tests as they are
one-part : (test : Bool) (tests : List Bool) (k : ℕ) → stack_after (test ∷ tests) k ≡ (test && true) ∷ tests → stack_after (test ∷ tests) k ≡ test ∷ tests
one-part test tests k after = after ∙ rw (and-true test)

pub wrapped-stack : (tests : List Bool) (k : ℕ) → Kind.Optional ≤ k → k ≤ Kind.FixedArray → stack_after tests k ≡ tests
unfolding stack_after Kind.parts_of
wrapped-stack [] k least most = refl
wrapped-stack (test ∷ tests) k least most = one-part test tests k (by (ℕ_discrete k Kind.Optional) (ℕ_discrete k Kind.Array))
  where
    by : Dec (k ≡ Kind.Optional) → Dec (k ≡ Kind.Array) → stack_after (test ∷ tests) k ≡ (test && true) ∷ tests
    by (yes h) other = rw h
    by (no h) (yes h') = rw h'
    by (no h) (no h') =
        let last : k ≡ Kind.FixedArray = omega arith in
        rw last

-- no rule is asked of it
pub wrapped-none :
    (ctx : ValidationContext ℕ Span) (t : Rec ℕ Span) (rs : List (Rec ℕ Span)) → Kind.Optional ≤ t.kind → t.kind ≤ Kind.FixedArray →
    (t.kind ≡ Kind.FixedArray → t.value ≡ 0 → ⊥) → own_type_violations ctx t rs ≡ []
wrapped-none ctx t rs least most elements =
    own-none ctx t rs (λ e. omega arith) elements (λ l m. omega arith) (λ l m. omega arith) (λ e. omega arith)
