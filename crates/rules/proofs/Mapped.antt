-- The words on a mapped list look at its elements through the tests alone, so they are the words on the list itself, with the tests mapped
-- back.
use Prim.Native.Nat.{ℕ, zero, suc}
use mathlib.Core.Path.{◌≡◌, refl, ap, ap₂}
use mathlib.Core.Bool.{Bool, true, false, not, ◌||◌}
use mathlib.Core.List.{List, [], ◌∷◌, ◌++◌, map, flat_map}
use lib.ListN.{take}
use Rattle.rules.specs.Words.{only_if, first_is, any_of, select, front, rest, Item, items}
use Rattle.rules.proofs.Every.{Every, every-nil, every-cons}

-- the piece with its elements mapped
abbrev pub map_item : {A B : Type 0} → (A → B) → Item A → Item B
map_item f it = record { head = f it.head; rest = map f it.rest }

module _ {A B : Type 0} (f : A → B) where
  pub take-map : (n : ℕ) (xs : List A) → take n (map f xs) ≡ map f (take n xs)
  take-map zero xs = refl
  take-map (suc n) [] = refl
  take-map (suc n) (x ∷ xs) = ap (f x ∷◌) (take-map n xs)

  pub first_is-map : (p : B → Bool) (xs : List A) → first_is p (map f xs) ≡ first_is (λ x. p (f x)) xs
  first_is-map p [] = refl
  first_is-map p (x ∷ xs) = refl

  pub front-map : (p : B → Bool) (xs : List A) → front p (map f xs) ≡ map f (front (λ x. p (f x)) xs)
  unfolding front
  front-map p [] = refl
  front-map p (x ∷ xs) = go (p (f x)) (front-map p xs)
    where
      go :
          (b : Bool) →
          front p (map f xs) ≡ map f (front (λ y. p (f y)) xs) →
          ◌≡◌ {A = List B} (elim b [ true ↦ f x ∷ front p (map f xs) | false ↦ [] ])
          (map f (elim b [ true ↦ x ∷ front (λ y. p (f y)) xs | false ↦ [] ]))
      go true e = ap (f x ∷◌) e
      go false e = refl

  pub rest-map : (p : B → Bool) (xs : List A) → rest p (map f xs) ≡ map f (rest (λ x. p (f x)) xs)
  unfolding rest
  rest-map p [] = refl
  rest-map p (x ∷ xs) = go (p (f x)) (rest-map p xs)
    where
      go :
          (b : Bool) →
          rest p (map f xs) ≡ map f (rest (λ y. p (f y)) xs) →
          ◌≡◌ {A = List B} (elim b [ true ↦ rest p (map f xs) | false ↦ f x ∷ map f xs ])
          (map f (elim b [ true ↦ rest (λ y. p (f y)) xs | false ↦ x ∷ xs ]))
      go true e = e
      go false e = refl

  pub items_map : (start : B → Bool) (xs : List A) → items start (map f xs) ≡ map (map_item f) (items (λ x. start (f x)) xs)
  unfolding items
  items_map start [] = refl
  items_map start (x ∷ xs) = go (start (f x)) _ _ (front-map (λ y. not (start y)) xs) (items_map start xs)
    where
      piece : List A → Item A
      piece ys = record { head = x; rest = ys }

      go :
          (b : Bool) (ys : List A) (zs : List B) →
          zs ≡ map f ys →
          items start (map f xs) ≡ map (map_item f) (items (λ y. start (f y)) xs) →
          ◌≡◌ {A = List (Item B)}
          (elim b [ true ↦ record { head = f x; rest = zs } ∷ items start (map f xs) | false ↦ items start (map f xs) ])
          (map (map_item f) (elim b [ true ↦ piece ys ∷ items (λ y. start (f y)) xs | false ↦ items (λ y. start (f y)) xs ]))
      go true ys zs d e = λ i. record { head = f x; rest = d i } ∷ e i
      go false ys zs d e = e

  pub flat_map-map : {C : Type 0} (h : B → List C) (xs : List A) → flat_map h (map f xs) ≡ flat_map (λ x. h (f x)) xs
  unfolding flat_map
  flat_map-map h [] = refl
  flat_map-map h (x ∷ xs) = ap (h (f x) ++◌) (flat_map-map h xs)

  -- where two tests, or two functions, say the same of each element
  pub any_same : (p : B → Bool) (q : A → Bool) {xs : List A} → Every (λ x. p (f x) ≡ q x) xs → any_of p (map f xs) ≡ any_of q xs
  unfolding any_of
  any_same p q every-nil = refl
  any_same p q (every-cons e es) = ap₂ ◌||◌ e (any_same p q es)

  pub select-same :
      (p : B → Bool) (q : A → Bool) {xs : List A} → Every (λ x. p (f x) ≡ q x) xs → select p (map f xs) ≡ map f (select q xs)
  unfolding select
  select-same p q every-nil = refl
  select-same p q (every-cons {x} {xs} e es) = rw e (go (q x) (select-same p q es))
    where
      go :
          (b : Bool) →
          select p (map f xs) ≡ map f (select q xs) →
          only_if b (f x ∷ []) ++ select p (map f xs) ≡ map f (only_if b (x ∷ []) ++ select q xs)
      go true d = ap (f x ∷◌) d
      go false d = d

  pub flat_map-same :
      {C : Type 0} (h : B → List C) (k : A → List C) {xs : List A} → Every (λ x. h (f x) ≡ k x) xs → flat_map h (map f xs) ≡ flat_map k xs
  unfolding flat_map
  flat_map-same h k every-nil = refl
  flat_map-same h k (every-cons e es) = ap₂ ◌++◌ e (flat_map-same h k es)
