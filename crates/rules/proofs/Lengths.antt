-- How long the shared words make a list: a test costs one where it passes, tests for different numbers pass at most once, and a list is
-- as long as the parts it is cut into.
use Prim.Native.Nat.{ℕ, suc, ◌+◌, ◌*◌, ◌≤◌, zero-le}
use native.Mathlib.Nat.{le_refl}
use native.Mathlib.Omega.{arith}
use mathlib.Core.Path.{◌≡◌, refl, sym, ap, ◌∙◌}
use mathlib.Core.Bool.{Bool, true, false, not, ◌&&◌, ◌||◌}
use mathlib.Core.List.{List, [], ◌∷◌, map, flat_map}
use lib.ListN.{length, length-append, length-take, take}
use lib.Dec.{leb, eqb, ltb}
use borrow.Author.Tests.{ltb-true, leb-true, eqb-true, lt-ltb}
use Rattle.std.proofs.lemmas.Bool.{and_parts}
use Rattle.rules.specs.Words.{within, number_if, only_if, front, rest, Item, items}
use Rattle.rules.specs.Items.{sum_of}
use Rattle.rules.proofs.Lists.{front_rest}

-- 1 where the test passes
abbrev pub one : Bool → ℕ
one b = number_if b 1

-- 1 where the number is below the other
abbrev pub below : ℕ → ℕ → ℕ
below x k = one (ltb x k)

pub one-bound : (b : Bool) → one b ≤ 1
one-bound true = le_refl 1
one-bound false = zero-le

pub one-and-left : (a b : Bool) → one (a && b) ≤ one a
one-and-left true b = one-bound b
one-and-left false b = zero-le

one-and-right : (a b : Bool) → one (a && b) ≤ one b
one-and-right true b = le_refl _
one-and-right false b = zero-le

pub one-or : (a b : Bool) → one (a || b) ≤ one a + one b
one-or true b = omega arith
one-or false b = omega arith

pub one-not : (b : Bool) → one (not b) + one b ≡ 1
one-not true = refl
one-not false = refl

pub number_if-le : (b : Bool) (n : ℕ) → number_if b n ≤ n
number_if-le true n = le_refl n
number_if-le false n = zero-le

-- a number of at most k + m, where the test passes
pub number_if-bound : (k m : ℕ) (b : Bool) (n : ℕ) → n ≤ k + m → number_if b n ≤ k * one b + m
number_if-bound k m true n h = omega arith
number_if-bound k m false n h = zero-le

-- two tests that never both pass, each of which needs a third
pub one_apart : (a b c : Bool) → (a ≡ true → b ≡ true → ⊥) → (a ≡ true → c ≡ true) → (b ≡ true → c ≡ true) →
    one a + one b ≤ one c
one_apart true true c h f g = absurd (h refl refl)
one_apart true false c h f g = rw (f refl) (omega arith)
one_apart false true c h f g = rw (g refl) (omega arith)
one_apart false false c h f g = omega arith

-- a number is below one, or within the range that follows, or neither
pub one-within : (x j low high : ℕ) → j ≤ low → low ≤ high → below x j + one (within low high x) ≤ below x (suc high)
one-within x j low high h g =
    one_apart
    (ltb x j)
    (within low high x)
    (ltb x (suc high))
    (λ p q. omega (arith, ltb-true x j p, leb-true low x (and_parts _ _ q).0))
    (λ p. lt-ltb x (suc high) (omega (arith, ltb-true x j p)))
    (λ q. lt-ltb x (suc high) (omega (arith, leb-true x high (and_parts (leb low x) _ q).1)))

pub one-eqb : (x j k : ℕ) → j ≤ k → below x j + one (eqb x k) ≤ below x (suc k)
one-eqb x j k h =
    one_apart
    (ltb x j)
    (eqb x k)
    (ltb x (suc k))
    (λ p q. omega (arith, ltb-true x j p, eqb-true x k q))
    (λ p. lt-ltb x (suc k) (omega (arith, ltb-true x j p)))
    (λ q. lt-ltb x (suc k) (omega (arith, eqb-true x k q)))

-- the same among other tests
pub one_at : (x j k : ℕ) (a b : Bool) → j ≤ k → below x j + one (a && eqb x k && b) ≤ below x (suc k)
one_at x j k a b h = omega (arith, one-and-left (a && eqb x k) b, one-and-right a (eqb x k), one-eqb x j k h)

module _ {A : Type 0} where
  pub length-only_if : (b : Bool) (xs : List A) → length (only_if b xs) ≡ number_if b (length xs)
  length-only_if true xs = refl
  length-only_if false xs = refl

  pub only_if-bound : (b : Bool) (xs : List A) → length (only_if b xs) ≤ length xs
  only_if-bound b xs = rw length-only_if (number_if-le b (length xs))

  pub take_bound : (n : ℕ) (xs : List A) → (length (take n xs) ≤ n) × (length (take n xs) ≤ length xs)
  take_bound n xs = rw length-take (omega arith)

  -- a list is as long as its front and its rest
  pub front-rest-length : (p : A → Bool) (xs : List A) → length (front p xs) + length (rest p xs) ≡ length xs
  front-rest-length p xs = sym (length-append (front p xs) (rest p xs)) ∙ ap length (front_rest p xs)

  -- the records of an item
  abbrev pub size : Item A → ℕ
  size it = suc (length it.rest)

  pub size-bound : (its : List (Item A)) → length its ≤ sum_of (map size its)
  unfolding sum_of
  size-bound [] = zero-le
  size-bound (it ∷ its) = omega (arith, size-bound its)

  -- the items hold what does not stand before the first
  pub items-size : (start : A → Bool) (xs : List A) →
      length (front (λ x. not (start x)) xs) + sum_of (map size (items start xs)) ≡ length xs
  unfolding front items sum_of
  items-size start [] = refl
  items-size start (x ∷ xs) = go (start x) refl (items-size start xs)
    where
      go : (b : Bool) → start x ≡ b → length (front (λ x. not (start x)) xs) + sum_of (map size (items start xs)) ≡ length xs →
          length (front (λ x. not (start x)) (x ∷ xs)) + sum_of (map size (items start (x ∷ xs))) ≡ suc (length xs)
      go true e h = rw (e, front, items) (omega arith)
      go false e h = rw (e, front, items) (omega arith)

module _ {A B : Type 0} where
  -- elements that give at most their weight each
  pub flat_map-bound : (w : A → ℕ) (f : A → List B) → ((x : A) → length (f x) ≤ w x) → (xs : List A) →
      length (flat_map f xs) ≤ sum_of (map w xs)
  unfolding flat_map sum_of
  flat_map-bound w f h [] = zero-le
  flat_map-bound w f h (x ∷ xs) = rw length-append (omega (arith, h x, flat_map-bound w f h xs))

  -- elements that give at most one each
  pub flat_map-one : (f : A → List B) → ((x : A) → length (f x) ≤ 1) → (xs : List A) → length (flat_map f xs) ≤ length xs
  unfolding flat_map
  flat_map-one f h [] = zero-le
  flat_map-one f h (x ∷ xs) = rw length-append (omega (arith, h x, flat_map-one f h xs))
