-- The records before the first that is no optional are optionals, and are passed over.
use Rattle.std.proofs.Common.{◌≡◌, ℕ, zero, suc, ◌+◌, ◌-◌, ◌<◌, ◌≤◌, Bool, true, false, List, ◌∷◌, refl, sym, ◌∙◌, leb, leb-true, leb-false, arith, eq-eqb, ne_eqb, Option, Some, None, MatchOption}
use Rattle.std.specs.Option.{unwrap_or}
use Rattle.rules.specs.Words.{rest}
use Rattle.rules.specs.Kind
use Rattle.rules.specs.Record.{is, record_bytes, kind_in}
use Rattle.names.specs.View.{view_at, view_of}
use Rattle.types.proofs.Views.{view-cons, view-none}

module _ {A : Type 0} (p : A → Bool) (x : A) (xs : List A) where
  rest-passed : p x ≡ true → rest p (x ∷ xs) ≡ rest p xs
  unfolding rest
  rest-passed h = rw (rest, h)

  rest-stopped : p x ≡ false → rest p (x ∷ xs) ≡ x ∷ xs
  unfolding rest
  rest-stopped h = rw (rest, h)

abbrev pub IsOptional : List ℕ → ℕ → Type 0
IsOptional sheet i = kind_in (record_bytes sheet i) ≡ Kind.Optional

module _ (sheet : List ℕ) (e : ℕ) where
  passed-over : (n a i : ℕ) → a + n ≡ i → i ≤ e → ((k : ℕ) → a ≤ k → k < i → IsOptional sheet k) → rest (is Kind.Optional) (view_of sheet a e) ≡ rest (is Kind.Optional) (view_of sheet i e)
  unfolding view_at
  passed-over zero a i sum h optional =
      let same : a ≡ i = omega arith in
      rw same
  passed-over (suc n) a i sum h optional =
      rw (view-cons sheet a e (omega arith), rest-passed (is Kind.Optional) (view_at sheet a) (view_of sheet (a + 1) e) (eq-eqb _ _ (optional a (omega arith) (omega arith))))
      (passed-over n (a + 1) i (omega arith) h (λ k least most. optional k (omega arith) most))

  all-passed : (a : ℕ) → (empty : Bool) → leb e a ≡ empty → ((k : ℕ) → a ≤ k → k < e → IsOptional sheet k) → rest (is Kind.Optional) (view_of sheet a e) ≡ rest (is Kind.Optional) (view_of sheet e e)
  all-passed a true h all = rw (view-none sheet a e (leb-true _ _ h), view-none sheet e e (omega arith))
  all-passed a false h all =
      let order : a < e = leb-false _ _ h in
      passed-over (e - a) a e (omega arith) (omega arith) all

  pub behind-found :
      (a : ℕ) (found : Option ℕ) →
      MatchOption found ((k : ℕ) → a ≤ k → k < e → IsOptional sheet k)
      (λ i. (a ≤ i) × (i < e) × (IsOptional sheet i → ⊥) × ((k : ℕ) → a ≤ k → k < i → IsOptional sheet k)) →
      view_of sheet (unwrap_or found e) e ≡ rest (is Kind.Optional) (view_of sheet a e)
  unfolding view_at rest
  behind-found a None all =
      let none = view-none sheet e e (omega arith) in
      none ∙ sym (all-passed a (leb e a) refl all ∙ rw none)
  behind-found a (Some i) (least, most, other, all) =
      sym (passed-over (i - a) a i (omega arith) (omega arith) all
      ∙ rw (view-cons sheet i e most) (rest-stopped (is Kind.Optional) (view_at sheet i) (view_of sheet (i + 1) e) (ne_eqb _ _ other)))
