-- The first place at which a test passes is one at which it passes, and there is one wherever the test passes somewhere.
use Prim.Native.Nat.{ℕ, zero, suc, ◌<◌}
use native.Mathlib.Omega.{arith}
use mathlib.Core.Path.{◌≡◌, refl, sym, ap, ◌∙◌}
use mathlib.Core.Bool.{Bool, true, false, not, ◌||◌}
use mathlib.Core.List.{List, [], ◌∷◌}
use lib.ListN.{length, get_or}
use lib.Dec.{eqb}
use borrow.Author.Tests.{ne_eqb}
use Rattle.rules.specs.Words.{any_of}
use Rattle.rules.proofs.Every.{Every, every-nil, every-cons}
use Rattle.names.specs.NameTable.{place_of}

-- a place in the list behind the first element
abbrev pub one_on : ℕ → ℕ
one_on zero = 0
one_on (suc n) = suc (suc n)

module _ {A : Type 0} where
  -- tests that say the same of each element
  pub place_same : (p q : A → Bool) {xs : List A} → Every (λ x. p x ≡ q x) xs → place_of p xs ≡ place_of q xs
  unfolding place_of
  place_same p q every-nil = refl
  place_same p q (every-cons e es) = λ i. elim (e i) as (λ b. ℕ) [ true ↦ 1 | false ↦ one_on (place_same p q es i) ]

  -- a test that no element passes
  pub place-never : (p : A → Bool) → ((x : A) → p x ≡ false) → (xs : List A) → place_of p xs ≡ 0
  unfolding place_of
  place-never p h [] = refl
  place-never p h (x ∷ xs) = λ i. elim (h x i) as (λ b. ℕ) [ true ↦ 1 | false ↦ one_on (place-never p h xs i) ]

  -- a place that is not 0 says that some element passes
  pub any_place : (p : A → Bool) (xs : List A) → any_of p xs ≡ not (eqb (place_of p xs) 0)
  unfolding any_of place_of
  any_place p [] = refl
  any_place p (x ∷ xs) = go (p x) (place_of p xs) (any_place p xs)
    where
      go : (b : Bool) (m : ℕ) → any_of p xs ≡ not (eqb m 0) → (b || any_of p xs) ≡ not (eqb (elim b as (λ c. ℕ) [ true ↦ 1 | false ↦ one_on m ]) 0)
      go true m e = refl
      go false zero e = e
      go false (suc m) e = e ∙ ap not (ne_eqb (suc m) 0 (λ z. omega arith) ∙ sym (ne_eqb (suc (suc m)) 0 (λ z. omega arith)))

  module _ (p : A → Bool) (d : A) where
    pub place-passes : (xs : List A) (n : ℕ) → place_of p xs ≡ suc n → (n < length xs) × (p (get_or xs n d) ≡ true)
    unfolding place_of
    place-passes [] n h = absurd (omega arith)
    place-passes (x ∷ xs) n h = go (p x) (place_of p xs) n refl h (place-passes xs)
      where
        go :
            (b : Bool) (m k : ℕ) →
            p x ≡ b →
            ◌≡◌ {A = ℕ} (elim b [ true ↦ 1 | false ↦ one_on m ]) (suc k) →
            ((j : ℕ) → m ≡ suc j → (j < length xs) × (p (get_or xs j d) ≡ true)) →
            (k < suc (length xs)) × (p (get_or (x ∷ xs) k d) ≡ true)
        go true m zero e g ih = (omega arith, e)
        go true m (suc k) e g ih = absurd (omega arith)
        go false zero k e g ih = absurd (omega arith)
        go false (suc m) zero e g ih = absurd (omega arith)
        go false (suc m) (suc k) e g ih = let found = ih k (omega arith) in (omega arith, found.1)

    pub place_none : (xs : List A) (i : ℕ) → place_of p xs ≡ 0 → i < length xs → p (get_or xs i d) ≡ false
    unfolding place_of
    place_none [] i e h = absurd (omega arith)
    place_none (x ∷ xs) i e h = go (p x) (place_of p xs) i refl e h (place_none xs)
      where
        go :
            (b : Bool) (m k : ℕ) →
            p x ≡ b →
            ◌≡◌ {A = ℕ} (elim b [ true ↦ 1 | false ↦ one_on m ]) 0 →
            k < suc (length xs) →
            ((j : ℕ) → m ≡ 0 → j < length xs → p (get_or xs j d) ≡ false) →
            p (get_or (x ∷ xs) k d) ≡ false
        go true m k f g l ih = absurd (omega arith)
        go false zero zero f g l ih = f
        go false zero (suc k) f g l ih = ih k refl (omega arith)
        go false (suc m) k f g l ih = absurd (omega arith)

    pub place-before : (xs : List A) (n : ℕ) → place_of p xs ≡ suc n → (i : ℕ) → i < n → p (get_or xs i d) ≡ false
    unfolding place_of
    place-before [] n e i h = absurd (omega arith)
    place-before (x ∷ xs) n e i h = go (p x) (place_of p xs) n i refl e h (place-before xs)
      where
        go :
            (b : Bool) (m k j : ℕ) →
            p x ≡ b →
            ◌≡◌ {A = ℕ} (elim b [ true ↦ 1 | false ↦ one_on m ]) (suc k) →
            j < k →
            ((k : ℕ) → m ≡ suc k → (j : ℕ) → j < k → p (get_or xs j d) ≡ false) →
            p (get_or (x ∷ xs) j d) ≡ false
        go true m k j f g l ih = absurd (omega arith)
        go false zero k j f g l ih = absurd (omega arith)
        go false (suc m) k zero f g l ih = f
        go false (suc m) k (suc j) f g l ih = ih m refl j (omega arith)
