-- Lists by parts: what is mapped to lists or selected from two lists in a row is what each of them gives, in a row.
use Prim.Native.Nat.{ℕ, ◌*◌, ◌≤◌}
use mathlib.Core.Path.{◌≡◌, refl}
use mathlib.Core.Bool.{Bool, true, false}
use mathlib.Core.List.{List, [], ◌∷◌, ◌++◌, append_assoc, flat_map}
use native.Mathlib.Omega.{arith}
use lib.ListN.{length, length-append}
use Rattle.rules.specs.Words.{only_if, select}

module _ {A : Type 0} where
  pub flat_map-append : {B : Type 0} (f : A → List B) (xs ys : List A) → flat_map f (xs ++ ys) ≡ flat_map f xs ++ flat_map f ys
  unfolding flat_map
  flat_map-append f [] ys = refl
  flat_map-append f (x ∷ xs) ys = rw (flat_map-append f xs ys, append_assoc)

  -- lists of one length each
  pub length-flat_map :
      {B : Type 0} (f : A → List B) (n : ℕ) → ((x : A) → length (f x) ≡ n) →
      (xs : List A) → length (flat_map f xs) ≡ n * length xs
  unfolding flat_map
  length-flat_map f n each [] = omega arith
  length-flat_map f n each (x ∷ xs) = omega (arith, length-append (f x) (flat_map f xs), each x, length-flat_map f n each xs)

  pub select-append : (p : A → Bool) (xs ys : List A) → select p (xs ++ ys) ≡ select p xs ++ select p ys
  unfolding select
  select-append p [] ys = refl
  select-append p (x ∷ xs) ys = rw (select-append p xs ys, append_assoc)

  pub length-select : (p : A → Bool) (xs : List A) → length (select p xs) ≤ length xs
  unfolding select
  length-select p [] = omega arith
  length-select p (x ∷ xs) = at_most (p x) (length-select p xs)
    where
      at_most : (b : Bool) → length (select p xs) ≤ length xs → length (only_if b (x ∷ []) ++ select p xs) ≤ length (x ∷ xs)
      at_most true h = omega arith
      at_most false h = omega arith
