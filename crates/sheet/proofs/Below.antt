-- A rule of every number below a bound, by one test that antt computes: it asks the numbers one after the other, from the bound down.
use Prim.Native.Nat.{ℕ, zero, suc, ◌<◌}
use mathlib.Core.Path.{◌≡◌, refl, subst⁻¹}
use mathlib.Core.Bool.{Bool, true, false, ◌&&◌}
use native.Mathlib.Omega.{arith}
use lib.Dec.{T, eqb}
use borrow.Author.Tests.{eqb-true, eqb-false}

-- the test passes at each number below n
unfoldable pub passes_below : ℕ → (ℕ → Bool) → Bool
passes_below zero test = true
passes_below (suc n) test = test n && passes_below n test

pub first_passes : (a b : Bool) → T (a && b) → T a
first_passes true b t = tt
first_passes false b t = t

pub second-passes : (a b : Bool) → T (a && b) → T b
second-passes true b t = t
second-passes false b t = absurd t

decided : (P : Type 0) (k n : ℕ) (same : Bool) → eqb k n ≡ same → k < suc n → (k ≡ n → P) → (k < n → P) → P
decided P k n true e h last below = last (eqb-true k n e)
decided P k n false e h last below =
    let differs : k ≡ n → ⊥ = eqb-false k n e in
    below (omega arith)

-- so it passes at any of them
pub passes_at : (n : ℕ) (test : ℕ → Bool) → T (passes_below n test) → (k : ℕ) → k < n → T (test k)
unfolding passes_below
passes_at zero test t k h = absurd (omega arith)
passes_at (suc n) test t k h =
    decided (T (test k)) k n (eqb k n) refl h
    (λ e. subst⁻¹ (λ (m : ℕ). T (test m)) e (first_passes (test n) (passes_below n test) t))
    (λ l. passes_at n test (second-passes (test n) (passes_below n test) t) k l)
