-- Counting distinct numbers from the left or from the right is the same: a number that stands first adds one to the numbers that are left
-- when all its places are taken out.
use Prim.Native.Nat.{ℕ, suc, ◌+◌}
use native.Mathlib.Nat.{zero-add}
use native.Mathlib.Omega.{arith}
use mathlib.Core.Path.{◌≡◌, refl, sym, ap, ap₂, ◌∙◌}
use mathlib.Core.Bool.{Bool, true, false, not, ◌&&◌, ◌||◌}
use mathlib.Core.List.{List, [], ◌∷◌, ◌++◌}
use lib.Dec.{eqb}
use borrow.Author.Tests.{eqb-true, eqb-false}
use Rattle.rules.specs.Words.{only_if, any_of, select, member}
use Rattle.rules.specs.Items.{distinct}
use Rattle.rules.proofs.Lengths.{one}

module _ {A : Type 0} where
  -- tests that agree select the same
  select-same : {p q : A → Bool} → ((x : A) → p x ≡ q x) → (xs : List A) → select p xs ≡ select q xs
  unfolding select
  select-same h [] = refl
  select-same {p} {q} h (x ∷ xs) = ap₂ (λ b ys. only_if b (x ∷ []) ++ ys) (h x) (select-same h xs)

  -- one test after the other
  select-twice : (p q : A → Bool) (xs : List A) → select q (select p xs) ≡ select (λ x. q x && p x) xs
  unfolding select
  select-twice p q [] = refl
  select-twice p q (x ∷ xs) = go (p x) (q x) refl refl (select-twice p q xs)
    where
      go : (a b : Bool) → p x ≡ a → q x ≡ b → select q (select p xs) ≡ select (λ x. q x && p x) xs →
          select q (select p (x ∷ xs)) ≡ select (λ x. q x && p x) (x ∷ xs)
      go true true e f h = rw (e, f, select) (ap (λ ys. x ∷ ys) h)
      go true false e f h = rw (e, f, select) h
      go false true e f h = rw (e, f, select) h
      go false false e f h = rw (e, f, select) h

-- a number that passes the test is kept
member-select : (p : ℕ → Bool) (x : ℕ) → p x ≡ true → (xs : List ℕ) → member x (select p xs) ≡ member x xs
unfolding select any_of
member-select p x h [] = refl
member-select p x h (y ∷ ys) = go (p y) (eqb x y) refl refl (member-select p x h ys)
  where
    go : (a b : Bool) → p y ≡ a → eqb x y ≡ b → member x (select p ys) ≡ member x ys → member x (select p (y ∷ ys)) ≡ member x (y ∷ ys)
    go true b e f ih = rw (e, f, select) (ap (λ c. b || c) ih)
    go false true e f ih = cc (eqb-true x y f)
    go false false e f ih = rw (e, f, select) ih

eqb-flip : (m n : ℕ) → eqb m n ≡ eqb n m
eqb-flip m n = go (eqb m n) (eqb n m) refl refl
  where
    go : (a b : Bool) → eqb m n ≡ a → eqb n m ≡ b → a ≡ b
    go true true e f = refl
    go true false e f = absurd (eqb-false n m f (sym (eqb-true m n e)))
    go false true e f = absurd (eqb-false m n e (sym (eqb-true n m f)))
    go false false e f = refl

distinct-step : (n : ℕ) (ns : List ℕ) → distinct (n ∷ ns) ≡ one (not (member n ns)) + distinct ns
unfolding distinct
distinct-step n ns = go (member n ns)
  where
    go : (b : Bool) → (elim b as (λ x. ℕ) [ true ↦ 0 | false ↦ 1 ]) + distinct ns ≡ one (not b) + distinct ns
    go true = refl
    go false = refl

-- a number is counted once, and then what is left without it
distinct_cons : (n : ℕ) (xs : List ℕ) → distinct (n ∷ xs) ≡ suc (distinct (select (λ o. not (eqb o n)) xs))
unfolding select any_of
distinct_cons n [] = omega (arith, distinct-step n [])
distinct_cons n (x ∷ xs) = go (eqb x n) refl (distinct_cons n xs)
  where
    go : (b : Bool) → eqb x n ≡ b → distinct (n ∷ xs) ≡ suc (distinct (select (λ o. not (eqb o n)) xs)) →
        distinct (n ∷ x ∷ xs) ≡ suc (distinct (select (λ o. not (eqb o n)) (x ∷ xs)))
    go true e ih = rw (distinct-step n (x ∷ xs), eqb-flip n x, e, zero-add) (ap (λ m. distinct (m ∷ xs)) (eqb-true x n e) ∙ ih)
    go false e ih =
        let left = select (λ o. not (eqb o n)) xs in
        rw
        (distinct-step n (x ∷ xs), eqb-flip n x, e)
        (omega (
          arith,
          distinct-step n xs,
          distinct-step x xs,
          distinct-step x left,
          ap (λ b. one (not b)) (member-select (λ o. not (eqb o n)) x (ap not e) xs),
        ))

not-or : (a b : Bool) → (not a && not b) ≡ not (a || b)
not-or true b = refl
not-or false b = refl

-- a number that stands in the list alters nothing in front of it
member-again : (n : ℕ) (ns : List ℕ) → member n ns ≡ true → (o : ℕ) → member o ns ≡ (eqb o n || member o ns)
member-again n ns h o = go (eqb o n) refl
  where
    go : (b : Bool) → eqb o n ≡ b → member o ns ≡ (b || member o ns)
    go true e = rw (eqb-true o n e) h
    go false e = refl

-- the numbers that are not in the other list
abbrev pub fresh : List ℕ → List ℕ → List ℕ
fresh met = select (λ o. not (member o met))

-- the first number adds one where it is fresh, and is not fresh after that
pub distinct-fresh : (met : List ℕ) (n : ℕ) (ns : List ℕ) →
    distinct (fresh met (n ∷ ns)) ≡ one (not (member n met)) + distinct (fresh (n ∷ met) ns)
unfolding select any_of
distinct-fresh met n ns = go (member n met) refl
  where
    go : (b : Bool) → member n met ≡ b → distinct (fresh met (n ∷ ns)) ≡ one (not (member n met)) + distinct (fresh (n ∷ met) ns)
    go true e = rw (e, zero-add) (ap distinct (select-same (λ o. ap not (member-again n met e o)) ns))
    go false e =
        let others =
        select-twice (λ o. not (member o met)) (λ o. not (eqb o n)) ns
        ∙ select-same (λ o. not-or (eqb o n) (member o met)) ns in
        rw e (omega (arith, distinct_cons n (fresh met ns), ap distinct others))
