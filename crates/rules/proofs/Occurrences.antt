-- How many elements pass a test is a sum over the parts of the list, and whether one does is an or over them.
use Prim.Native.Nat.{◌+◌}
use native.Mathlib.Omega.{arith}
use mathlib.Core.Path.{◌≡◌, refl, ap, ◌∙◌, sym}
use mathlib.Core.Bool.{Bool, true, false, ◌||◌}
use mathlib.Core.List.{List, [], ◌∷◌, ◌++◌, map, flat_map}
use lib.ListN.{length}
use Rattle.rules.specs.Words.{only_if, number_if, any_of, select}
use Rattle.rules.specs.Items.{occurrences}
use Rattle.rules.proofs.Lists.{any_of-append}

module _ {A : Type 0} where
  pub occurrences-cons : (p : A → Bool) (x : A) (xs : List A) → occurrences p (x ∷ xs) ≡ number_if (p x) 1 + occurrences p xs
  unfolding occurrences select
  occurrences-cons p x xs = by-test (p x)
    where
      by-test : (b : Bool) → length (only_if b (x ∷ []) ++ select p xs) ≡ number_if b 1 + length (select p xs)
      by-test true = omega arith
      by-test false = omega arith

  pub occurrences-append : (p : A → Bool) (xs ys : List A) → occurrences p (xs ++ ys) ≡ occurrences p xs + occurrences p ys
  unfolding occurrences select
  occurrences-append p [] ys = omega arith
  occurrences-append p (x ∷ xs) ys = rw (occurrences-cons p x (xs ++ ys), occurrences-cons p x xs, occurrences-append p xs ys) (omega arith)

module _ {A B : Type 0} where
  pub occurrences-map : (f : A → B) (p : B → Bool) (xs : List A) → occurrences p (map f xs) ≡ occurrences (λ x. p (f x)) xs
  unfolding occurrences select
  occurrences-map f p [] = refl
  occurrences-map f p (x ∷ xs) =
      occurrences-cons p (f x) (map f xs) ∙ ap (λ n. number_if (p (f x)) 1 + n) (occurrences-map f p xs) ∙ sym (occurrences-cons (λ y. p (f y)) x xs)

  pub any-flat_map : (f : A → List B) (p : B → Bool) (xs : List A) → any_of p (flat_map f xs) ≡ any_of (λ x. any_of p (f x)) xs
  unfolding any_of flat_map
  any-flat_map f p [] = refl
  any-flat_map f p (x ∷ xs) = rw (any_of-append p (f x) (flat_map f xs)) (ap (λ b. any_of p (f x) || b) (any-flat_map f p xs))
