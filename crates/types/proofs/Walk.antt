-- The types of a type are walked record by record: what is found at a record comes first, and then what is found with the tests after it.
use Rattle.std.proofs.Common.{◌≡◌, ℕ, ◌+◌, ◌<◌, ◌≤◌, Bool, true, false, ◌&&◌, List, [], ◌∷◌, ◌++◌, eqb, refl, sym, ◌∙◌, append-nil, arith, ne_eqb, eqb-true, Option, Some}
use native.Mathlib.Decide.{ℕ_discrete}
use Rattle.rules.specs.declared.span.Span.{Span}
use Rattle.rules.specs.declared.range.RecordRange.{RecordRange}
use Rattle.rules.specs.Range.{first_of}
use Rattle.rules.specs.Words.{only_if}
use Rattle.rules.specs.Kind
use Rattle.rules.specs.Record.{Rec, is, record_bytes, kind_in}
use Rattle.rules.specs.Context.{ValidationContext}
use Rattle.rules.specs.Types.{own_type_violations, types_violations, type_violations}
use Rattle.rules.specs.Rule.{Found}
use Rattle.diagnostic.specs.declared.violations.Violations.{Violations}
use Rattle.diagnostic.specs.Violations.{Adds}
use Rattle.names.specs.View.{view_at, view_of}
use Rattle.types.specs.declared.field_type.Due.{Due}
use Rattle.types.specs.Own.{named_found}
use Rattle.types.specs.Due.{stack_of, stack_after, is_passed, is_checked}
use Rattle.types.proofs.Left.{Leaves, leaves_rest, leaves_none}
use Rattle.std.proofs.lemmas.Bool.{and_parts}
use Rattle.types.proofs.OwnKinds.{own-named, own-none}
use Rattle.types.proofs.Passed.{passed-optional, no_bit, passed-elements, passed-wrapped, wrapped-stack, wrapped-none}
use Rattle.types.proofs.Stack.{after-leaf}
use Rattle.types.proofs.Views.{view-cons, view-none, view_first}

module _ (ctx : ValidationContext ℕ Span) where
  -- where nothing is due, or no record is left, nothing is found
  nothing-due : (rs : List (Rec ℕ Span)) → types_violations ctx [] rs ≡ []
  unfolding types_violations
  nothing-due [] = refl
  nothing-due (t ∷ rs) = refl

  nothing_left : (tests : List Bool) → types_violations ctx tests [] ≡ []
  unfolding types_violations
  nothing_left [] = refl
  nothing_left (test ∷ tests) = refl

  -- at a bit name, and at a type
  at-bit : (tests : List Bool) (t : Rec ℕ Span) (rs : List (Rec ℕ Span)) → t.kind ≡ Kind.BitName → types_violations ctx tests (t ∷ rs) ≡ types_violations ctx tests rs
  unfolding types_violations
  at-bit [] t rs h = sym (nothing-due rs)
  at-bit (test ∷ tests) t rs h = rw (types_violations, h)

  at-type :
      (tests : List Bool) (t : Rec ℕ Span) (rs : List (Rec ℕ Span)) → (t.kind ≡ Kind.BitName → ⊥) →
      types_violations ctx tests (t ∷ rs) ≡ only_if (is_checked tests) (own_type_violations ctx t rs) ++ types_violations ctx (stack_after tests t.kind) rs
  unfolding types_violations stack_after
  at-type [] t rs h = sym (nothing-due rs)
  at-type (test ∷ tests) t rs h = rw (types_violations, stack_after, ne_eqb t.kind Kind.BitName h)

  -- at a type without rules
  at-none :
      (tests : List Bool) (t : Rec ℕ Span) (rs : List (Rec ℕ Span)) → (t.kind ≡ Kind.BitName → ⊥) → own_type_violations ctx t rs ≡ [] →
      types_violations ctx tests (t ∷ rs) ≡ types_violations ctx (stack_after tests t.kind) rs
  at-none tests t rs h none = at-type tests t rs h ∙ rw none (by (is_checked tests))
    where
      by : (b : Bool) → only_if b [] ++ types_violations ctx (stack_after tests t.kind) rs ≡ types_violations ctx (stack_after tests t.kind) rs
      by true = refl
      by false = refl

  -- at a record that is passed
  at-passed : (tests : List Bool) (t : Rec ℕ Span) (rs : List (Rec ℕ Span)) → is_passed t ≡ true → types_violations ctx tests (t ∷ rs) ≡ types_violations ctx tests rs
  at-passed tests t rs passed = by (ℕ_discrete t.kind Kind.BitName)
    where
      by : Dec (t.kind ≡ Kind.BitName) → types_violations ctx tests (t ∷ rs) ≡ types_violations ctx tests rs
      by (yes bit) = at-bit tests t rs bit
      by (no bit) =
          let kinds = passed-wrapped t passed bit in
          at-none tests t rs bit (wrapped-none ctx t rs kinds.0 kinds.1 (passed-elements t passed)) ∙ rw (wrapped-stack tests t.kind kinds.0 kinds.1)

  -- an optional adds nothing to what is found in the type within it
  pub optional-type : (t : Rec ℕ Span) (rs : List (Rec ℕ Span)) → is Kind.Optional t ≡ true → type_violations ctx (t ∷ rs) ≡ type_violations ctx rs
  optional-type t rs h = at-passed (true ∷ []) t rs (passed-optional t (eqb-true t.kind Kind.Optional h))

-- a type of a kind before generic is all there is: nothing is found at a plain one, and the rules of its name at one that names something
module _ (ctx : ValidationContext ℕ Span) where
  pub type-none : type_violations ctx [] ≡ []
  type-none = nothing_left ctx (true ∷ [])

  module _ (t : Rec ℕ Span) (rs : List (Rec ℕ Span)) where
    pub type-plain : Kind.Primitive ≤ t.kind → t.kind ≤ Kind.Semantic → type_violations ctx (t ∷ rs) ≡ []
    type-plain least most =
        let bit : t.kind ≡ Kind.BitName → ⊥ = λ q. omega arith in
        at-none ctx (true ∷ []) t rs bit (own-none ctx t rs (λ q. omega arith) (λ q z. omega arith) (λ l m. omega arith) (λ l m. omega arith) (λ q. omega arith))
        ∙ rw (after-leaf t.kind bit (omega arith), nothing-due ctx rs)

    pub type-named : t.kind ≡ Kind.Named → type_violations ctx (t ∷ rs) ≡ named_found ctx t
    type-named named =
        let bit : t.kind ≡ Kind.BitName → ⊥ = λ q. omega arith in
        at-type ctx (true ∷ []) t rs bit ∙ rw (after-leaf t.kind bit (omega arith), nothing-due ctx rs, own-named ctx t rs named, append-nil)

-- so what the rules of its name add there is what is added in all
pub adds_named_alone :
    (ctx : ValidationContext ℕ Span) (sheet : List ℕ) (range : RecordRange) (old new : Violations) (found : Option ℕ) (i k : ℕ) → found ≡ first_of range → found ≡ Some i →
    k ≡ kind_in (record_bytes sheet i) → k ≡ Kind.Named → Adds old new (named_found ctx (view_at sheet i)) →
    Adds old new (type_violations ctx (view_of sheet range.start range.end))
unfolding view_at
adds_named_alone ctx sheet range old new found i k read first kind named adds =
    rw (view_first sheet range i (sym read ∙ first), type-named ctx (view_at sheet i) (view_of sheet (i + 1) range.end) (sym kind ∙ named)) adds

module _ (ctx : ValidationContext ℕ Span) (sheet : List ℕ) (e : ℕ) (old : Violations) (all : List (Found Span)) where
  -- what is left to add is what is found from record i on with those tests
  abbrev pub TypesLeft : ℕ → List Bool → Violations → Type 0
  TypesLeft i tests now = Leaves old now all (types_violations ctx tests (view_of sheet i e))

  module _ (i : ℕ) (tests : List Bool) (now : Violations) (left : TypesLeft i tests now) where
    pub types_passed : i < e → is_passed (view_at sheet i) ≡ true → TypesLeft (i + 1) tests now
    types_passed h passed = rw (view-cons sheet i e h, at-passed ctx tests (view_at sheet i) (view_of sheet (i + 1) e) passed) at left

    pub types_told :
        (new : Violations) → i < e → is_passed (view_at sheet i) ≡ false →
        Adds now new (only_if (is_checked tests) (own_type_violations ctx (view_at sheet i) (view_of sheet (i + 1) e))) →
        TypesLeft (i + 1) (stack_after tests (kind_in (record_bytes sheet i))) new
    unfolding view_at
    types_told new h passed adds =
        leaves_rest old now new all _ _ _ left
        (rw (view-cons sheet i e h) (at-type ctx tests (view_at sheet i) (view_of sheet (i + 1) e) (no_bit sheet i passed)))
        adds

    pub types_end : e ≤ i → Adds old now all
    types_end h = leaves_none old now all _ left (rw (view-none sheet i e h) (nothing_left ctx tests))

    pub types_done : (due : Due) → stack_of due ≡ tests → (eqb due.skipped 0 && eqb due.checked 0) ≡ true → Adds old now all
    unfolding stack_of
    types_done due same done =
        let none = and_parts (eqb due.skipped 0) (eqb due.checked 0) done in
        leaves_none old now all _ left (rw (← same, eqb-true due.skipped 0 none.0, eqb-true due.checked 0 none.1) (nothing-due ctx (view_of sheet i e)))

pub ruleset types_rules = (types_passed, types_end, no_bit)
