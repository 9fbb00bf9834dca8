-- What holds of every element of a list holds of every element of the lists that are made of its elements.
use Prim.Native.Nat.{ℕ, zero, suc, ◌<◌}
use native.Mathlib.Omega.{arith}
use mathlib.Core.Path.{◌≡◌, refl}
use mathlib.Core.Bool.{Bool, true, false, not}
use mathlib.Core.List.{List, [], ◌∷◌, ◌++◌, map, flat_map}
use lib.ListN.{length, get_or, take, drop}
use Rattle.rules.specs.Words.{only_if, select, front, rest, Item, items}

pub data Every {A : Type 0} (Q : A → Type 0) : List A → Type 0 where
  every-nil : Every Q []
  every-cons : {x : A} {xs : List A} → Q x → Every Q xs → Every Q (x ∷ xs)

module _ {A : Type 0} {Q : A → Type 0} where
  pub every_one : {x : A} → Q x → Every Q (x ∷ [])
  every_one q = every-cons q every-nil

  pub every_append : {xs ys : List A} → Every Q xs → Every Q ys → Every Q (xs ++ ys)
  every_append every-nil g = g
  every_append (every-cons q h) g = every-cons q (every_append h g)

  pub every-only_if : (b : Bool) {xs : List A} → Every Q xs → Every Q (only_if b xs)
  every-only_if true h = h
  every-only_if false h = every-nil

  pub every_take : (n : ℕ) {xs : List A} → Every Q xs → Every Q (take n xs)
  every_take zero h = every-nil
  every_take (suc n) every-nil = every-nil
  every_take (suc n) (every-cons q h) = every-cons q (every_take n h)

  pub every_drop : (n : ℕ) {xs : List A} → Every Q xs → Every Q (drop n xs)
  every_drop zero h = h
  every_drop (suc n) every-nil = every-nil
  every_drop (suc n) (every-cons q h) = every_drop n h

  pub every-select : (p : A → Bool) {xs : List A} → Every Q xs → Every Q (select p xs)
  unfolding select
  every-select p every-nil = every-nil
  every-select p (every-cons {x} q h) = every_append (every-only_if (p x) (every_one q)) (every-select p h)

  pub every_front : (p : A → Bool) {xs : List A} → Every Q xs → Every Q (front p xs)
  unfolding front
  every_front p every-nil = every-nil
  every_front p (every-cons {x} {xs} q h) = go (p x) (every_front p h)
    where
      go : (b : Bool) → Every Q (front p xs) → Every Q (elim b [ true ↦ x ∷ front p xs | false ↦ [] ])
      go true g = every-cons q g
      go false g = every-nil

  pub every_rest : (p : A → Bool) {xs : List A} → Every Q xs → Every Q (rest p xs)
  unfolding rest
  every_rest p every-nil = every-nil
  every_rest p (every-cons {x} {xs} q h) = go (p x) (every_rest p h)
    where
      go : (b : Bool) → Every Q (rest p xs) → Every Q (elim b [ true ↦ rest p xs | false ↦ x ∷ xs ])
      go true g = g
      go false g = every-cons q h

  pub every-at : {xs : List A} → Every Q xs → (d : A) (i : ℕ) → i < length xs → Q (get_or xs i d)
  every-at every-nil d i h = absurd (omega arith)
  every-at (every-cons q qs) d zero h = q
  every-at (every-cons q qs) d (suc i) h = every-at qs d i (omega arith)

  -- every element is one that some number picks
  pub every-get_d : (d : A) (xs : List A) → ((i : ℕ) → Q (get_or xs i d)) → Every Q xs
  every-get_d d [] h = every-nil
  every-get_d d (x ∷ xs) h = every-cons (h 0) (every-get_d d xs (λ i. h (suc i)))

-- the head and the records after it
pub record EveryOf {A : Type 0} (Q : A → Type 0) (it : Item A) : Type 0 where
  pub head : Q it.head
  pub rest : Every Q it.rest

module _ {A : Type 0} {Q : A → Type 0} {R : Item A → Type 0} where
  -- every head passes the test
  pub every-items-as :
      (p : A → Bool) → ((it : Item A) → p it.head ≡ true → EveryOf Q it → R it) → {xs : List A} → Every Q xs → Every R (items p xs)
  unfolding items
  every-items-as p g every-nil = every-nil
  every-items-as p g (every-cons {x} {xs} q h) = go (p x) refl (every-items-as p g h)
    where
      go : (b : Bool) → p x ≡ b → Every R (items p xs)
          → Every R (elim b [ true ↦ record { head = x; rest = front (λ y. not (p y)) xs } ∷ items p xs | false ↦ items p xs ])
      go true e k = every-cons (g _ e (record { head = q; rest = every_front (λ y. not (p y)) h })) k
      go false e k = k

module _ {A : Type 0} {Q : A → Type 0} where
  pub every_items : (p : A → Bool) {xs : List A} → Every Q xs → Every (EveryOf Q) (items p xs)
  every_items p = every-items-as p (λ it e h. h)

module _ {A : Type 0} {Q R : A → Type 0} where
  pub every-as : ((x : A) → Q x → R x) → {xs : List A} → Every Q xs → Every R xs
  every-as g every-nil = every-nil
  every-as g (every-cons {x} q h) = every-cons (g x q) (every-as g h)

  -- every element of a front passes the test
  pub every-front-as : (p : A → Bool) → ((x : A) → p x ≡ true → Q x → R x) → {xs : List A} → Every Q xs → Every R (front p xs)
  unfolding front
  every-front-as p g every-nil = every-nil
  every-front-as p g (every-cons {x} {xs} q h) = go (p x) refl (every-front-as p g h)
    where
      go : (b : Bool) → p x ≡ b → Every R (front p xs) → Every R (elim b [ true ↦ x ∷ front p xs | false ↦ [] ])
      go true e k = every-cons (g x e q) k
      go false e k = every-nil

module _ {A B : Type 0} {Q : A → Type 0} {R : B → Type 0} where
  pub every_map : (f : A → B) → ((x : A) → Q x → R (f x)) → {xs : List A} → Every Q xs → Every R (map f xs)
  every_map f g every-nil = every-nil
  every_map f g (every-cons {x} q h) = every-cons (g x q) (every_map f g h)

  pub every-flat_map : (f : A → List B) → ((x : A) → Q x → Every R (f x)) → {xs : List A} → Every Q xs → Every R (flat_map f xs)
  unfolding flat_map
  every-flat_map f g every-nil = every-nil
  every-flat_map f g (every-cons {x} q h) = every_append (g x q) (every-flat_map f g h)
