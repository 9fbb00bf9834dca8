-- A walk over a list from its start: what passed among the first j elements is counted, the rest is counted from element j on.
use Prim.Native.Nat.{ℕ, ◌+◌}
use mathlib.Core.Path.{◌≡◌}
use mathlib.Core.Bool.{Bool, true, false}
use mathlib.Core.List.{List, [], ◌∷◌}
use native.Mathlib.Omega.{arith}
use lib.ListN.{length, drop, length-append}
use Rattle.rules.specs.Words.{number_if, only_if, select}

module _ {A : Type 0} (p : A → Bool) (xs : List A) (j n : ℕ)
    (before : length (select p xs) ≡ n + length (select p (drop j xs))) where
  pub count_next : (x : A) (rest : List A) → drop j xs ≡ x ∷ rest → length (select p xs) ≡ n + number_if (p x) 1 + length (select p rest)
  unfolding select
  count_next x rest e = rw (before, e, length-append) (one (p x) x rest)
    where
      one : (b : Bool) (x : A) (rest : List A) → n + (length (only_if b (x ∷ [])) + length (select p rest)) ≡ n + number_if b 1 + length (select p rest)
      one true x rest = omega arith
      one false x rest = omega arith

  pub count_none : drop j xs ≡ [] → n ≡ length (select p xs)
  unfolding select
  count_none e = rw (before, e) (omega arith)
