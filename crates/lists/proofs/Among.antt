-- Whether a record of a kind has a number is whether the number is a value of the records of that kind, in either order.
use Prim.Native.Nat.{ℕ, zero, suc, ◌+◌, ◌-◌, ◌≤◌, ◌<◌}
use native.Mathlib.Omega.{arith}
use native.Mathlib.Decide.{ℕ_discrete}
use mathlib.Core.Path.{◌≡◌, refl, sym, ap, ◌∙◌}
use mathlib.Core.Bool.{Bool, true, false, ◌&&◌, ◌||◌, or-true}
use mathlib.Core.List.{List, [], ◌∷◌, ◌++◌}
use lib.Dec.{eqb}
use Rattle.rules.specs.declared.span.Span.{Span}
use Rattle.rules.specs.Words.{only_if, any_of, member, select}
use Rattle.rules.specs.Record.{Rec, is}
use Rattle.names.specs.View.{view_at, view_from, view_of}
use Rattle.lists.proofs.Asked.{SomeFrom}
use Rattle.lists.specs.Earlier.{values_of, earlier, values_before, has_value}
use Rattle.lists.proofs.Passing.{values}

-- the first of the records, or one of those after it
member-first :
    (x : ℕ) (b : Bool) (r : Rec ℕ Span) (rs : List (Rec ℕ Span)) → member x (values (only_if b (r ∷ []) ++ rs)) ≡ ((b && eqb x r.value) || member x (values rs))
unfolding any_of
member-first x true r rs = refl
member-first x false r rs = refl

module _ (sheet : List ℕ) (kind x : ℕ) where
  -- record a, and other records of the kind
  here-or : (a : ℕ) (rs : List (Rec ℕ Span)) → member x (values (only_if (is kind (view_at sheet a)) (view_at sheet a ∷ []) ++ rs)) ≡ (has_value kind sheet x a || member x (values rs))
  unfolding view_at has_value
  here-or a rs = member-first x (is kind (view_at sheet a)) (view_at sheet a) rs

  here-yes : (a : ℕ) (rs : List (Rec ℕ Span)) → has_value kind sheet x a ≡ true → true ≡ member x (values (only_if (is kind (view_at sheet a)) (view_at sheet a ∷ []) ++ rs))
  here-yes a rs h = sym (here-or a rs ∙ ap (λ b. b || member x (values rs)) h)

  here-no :
      (a : ℕ) (rs : List (Rec ℕ Span)) → has_value kind sheet x a ≡ false →
      member x (values rs) ≡ member x (values (only_if (is kind (view_at sheet a)) (view_at sheet a ∷ []) ++ rs))
  here-no a rs h = sym (here-or a rs ∙ ap (λ b. b || member x (values rs)) h)

  here-later :
      (a : ℕ) (rs : List (Rec ℕ Span)) → true ≡ member x (values rs) →
      true ≡ member x (values (only_if (is kind (view_at sheet a)) (view_at sheet a ∷ []) ++ rs))
  here-later a rs h = sym (here-or a rs ∙ ap (λ b. has_value kind sheet x a || b) (sym h) ∙ or-true (has_value kind sheet x a))

  some-of : (n a i : ℕ) → a ≤ i → i < a + n → has_value kind sheet x i ≡ true → true ≡ member x (values_of kind (view_from sheet a n))
  unfolding view_from values_of select
  some-of zero a i l h t = absurd (omega arith)
  some-of (suc n) a i l h t = by (λ m. some-of n (suc a) i m (omega arith) t) (ℕ_discrete i a)
    where
      by :
          (suc a ≤ i → true ≡ member x (values_of kind (view_from sheet (suc a) n))) → Dec (i ≡ a) →
          true ≡ member x (values_of kind (view_from sheet a (suc n)))
      by later (yes same) = here-yes a (select (is kind) (view_from sheet (suc a) n)) (ap (has_value kind sheet x) (sym same) ∙ t)
      by later (no differ) = here-later a (select (is kind) (view_from sheet (suc a) n)) (later (omega arith))

  none-of : (n a : ℕ) → ((i : ℕ) → a ≤ i → i < a + n → has_value kind sheet x i ≡ false) → false ≡ member x (values_of kind (view_from sheet a n))
  unfolding view_from values_of select any_of
  none-of zero a all = refl
  none-of (suc n) a all =
      none-of n (suc a) (λ i l h. all i (omega arith) (omega arith))
      ∙ here-no a (select (is kind) (view_from sheet (suc a) n)) (all a (omega arith) (omega arith))

  some-before : (n a i : ℕ) → a ≤ i → i < a + n → has_value kind sheet x i ≡ true → true ≡ member x (values (earlier kind sheet a n))
  unfolding earlier
  some-before zero a i l h t = absurd (omega arith)
  some-before (suc n) a i l h t = by (λ m. some-before n a i l m t) (ℕ_discrete i (a + n))
    where
      by : (i < a + n → true ≡ member x (values (earlier kind sheet a n))) → Dec (i ≡ a + n) → true ≡ member x (values (earlier kind sheet a (suc n)))
      by before (yes same) = here-yes (a + n) (earlier kind sheet a n) (ap (has_value kind sheet x) (sym same) ∙ t)
      by before (no differ) = here-later (a + n) (earlier kind sheet a n) (before (omega arith))

  none-before : (n a : ℕ) → ((i : ℕ) → a ≤ i → i < a + n → has_value kind sheet x i ≡ false) → false ≡ member x (values (earlier kind sheet a n))
  unfolding earlier any_of
  none-before zero a all = refl
  none-before (suc n) a all =
      none-before n a (λ i l h. all i l (omega arith)) ∙ here-no (a + n) (earlier kind sheet a n) (all (a + n) (omega arith) (omega arith))

  module _ (a e : ℕ) where
    pub among-values : (found : Bool) → SomeFrom (has_value kind sheet x) a e found → found ≡ member x (values_of kind (view_of sheet a e))
    among-values true s = some-of (e - a) a s.0 s.1 (omega (arith, s.1, s.2)) s.3
    among-values false none = none-of (e - a) a (λ i l k. none i l (omega arith))

    pub among-before : (found : Bool) → SomeFrom (has_value kind sheet x) a e found → found ≡ member x (values_before kind sheet a e)
    among-before true s = some-before (e - a) a s.0 s.1 (omega (arith, s.1, s.2)) s.3
    among-before false none = none-before (e - a) a (λ i l k. none i l (omega arith))
