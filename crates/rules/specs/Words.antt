-- Words on numbers and lists that the definitions share, none of which knows of a sheet.
use Rattle.std.specs.Prelude.{ℕ, zero, suc, ◌+◌, ◌*◌, ◌/◌, ◌%◌, Bool, true, false, not, ◌&&◌, ◌||◌, List, [], ◌∷◌, ◌++◌, leb, eqb}
use Rattle.std.proofs.Math.Option.{Option, some, none}

-- a number from `low` to `high`
abbrev pub within : ℕ → ℕ → ℕ → Bool
within low high n = leb low n && leb n high

-- the number, or 0 where the test failed
abbrev pub number_if : Bool → ℕ → ℕ
number_if true n = n
number_if false n = 0

module _ {A : Type 0} where
  -- the list, or nothing where the test failed
  abbrev pub only_if : Bool → List A → List A
  only_if true xs = xs
  only_if false xs = []

  -- the first element, if there is one
  abbrev pub first : List A → Option A
  first [] = none
  first (x ∷ xs) = some x

  -- there is a first element, and it passes the test
  abbrev pub first_is : (A → Bool) → List A → Bool
  first_is p [] = false
  first_is p (x ∷ xs) = p x

  -- some element passes the test
  unfoldable pub any_of : (A → Bool) → List A → Bool
  any_of p [] = false
  any_of p (x ∷ xs) = p x || any_of p xs

  -- the elements that pass the test
  unfoldable pub select : (A → Bool) → List A → List A
  select p [] = []
  select p (x ∷ xs) = only_if (p x) (x ∷ []) ++ select p xs

  -- the elements before the first that fails the test
  unfoldable pub front : (A → Bool) → List A → List A
  front p [] = []
  front p (x ∷ xs) = elim (p x) [ true ↦ x ∷ front p xs | false ↦ [] ]

  -- the first element that fails the test, and all after it
  unfoldable pub rest : (A → Bool) → List A → List A
  rest p [] = []
  rest p (x ∷ xs) = elim (p x) [ true ↦ rest p xs | false ↦ x ∷ xs ]

-- a piece of a list: the element that it begins with, and those up to the next beginning
pub record Item (A : Type 0) : Type 0 where
  pub head : A
  pub rest : List A

module _ {A : Type 0} where
  -- the pieces of a list, each beginning at an element that passes the test; what stands before the first is in none
  unfoldable pub items : (A → Bool) → List A → List (Item A)
  items start [] = []
  items start (x ∷ xs) =
      elim (start x) [
        | true ↦ record { head = x; rest = front (λ y. not (start y)) xs } ∷ items start xs
        | false ↦ items start xs
      ]

-- the number stands in the list
abbrev pub member : ℕ → List ℕ → Bool
member n = any_of (eqb n)

-- the number beside the key, or 0 where the key is not there
unfoldable pub look_up : ℕ → List (ℕ × ℕ) → ℕ
look_up key [] = 0
look_up key (p ∷ ps) = elim (eqb key p.0) [ true ↦ p.1 | false ↦ look_up key ps ]

-- the lists have the same numbers at the same places
unfoldable pub same_bytes : List ℕ → List ℕ → Bool
same_bytes [] [] = true
same_bytes [] (y ∷ ys) = false
same_bytes (x ∷ xs) [] = false
same_bytes (x ∷ xs) (y ∷ ys) = eqb x y && same_bytes xs ys

-- the number that bytes stand for, little-endian
unfoldable pub number : List ℕ → ℕ
number [] = 0
number (b ∷ bs) = b + 256 * number bs

-- the first n bytes of a number, little-endian
unfoldable pub bytes : ℕ → ℕ → List ℕ
bytes zero x = []
bytes (suc n) x = x % 256 ∷ bytes n (x / 256)
