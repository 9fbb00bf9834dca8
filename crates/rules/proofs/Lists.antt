-- Lists that a test cuts: the test of an element says whether it goes on with what stands before it or begins a piece of its own.
use mathlib.Core.Path.{◌≡◌, refl, ap, sym, ◌∙◌}
use mathlib.Core.Bool.{Bool, true, false, not, ◌&&◌, ◌||◌, true≢false, and_assoc}
use mathlib.Core.List.{List, [], ◌∷◌, ◌++◌}
use Rattle.std.proofs.lemmas.Bool.{and_parts, or_parts}
use Rattle.rules.specs.Words.{any_of, select, only_if, front, rest, items}
use Rattle.rules.proofs.Every.{Every, every-nil, every-cons}

-- three tests in another order
pub or_swap : (a b c : Bool) → (a || (b || c)) ≡ (b || (a || c))
or_swap true true c = refl
or_swap true false c = refl
or_swap false b c = refl

module _ {A : Type 0} where
  -- there is no element
  abbrev pub is_nil : List A → Bool
  is_nil [] = true
  is_nil (x ∷ xs) = false

  pub nil-of : (xs : List A) → is_nil xs ≡ true → xs ≡ []
  nil-of [] h = refl
  nil-of (x ∷ xs) h = absurd (true≢false (sym h))

  pub any_of-append : (p : A → Bool) (xs ys : List A) → any_of p (xs ++ ys) ≡ (any_of p xs || any_of p ys)
  unfolding any_of
  any_of-append p [] ys = refl
  any_of-append p (x ∷ xs) ys = go (p x) (any_of-append p xs ys)
    where
      go : (b : Bool) → any_of p (xs ++ ys) ≡ (any_of p xs || any_of p ys) → (b || any_of p (xs ++ ys)) ≡ ((b || any_of p xs) || any_of p ys)
      go true h = refl
      go false h = h

  -- every element passes the test
  unfoldable pub all_of : (A → Bool) → List A → Bool
  all_of p [] = true
  all_of p (x ∷ xs) = p x && all_of p xs

  pub all_of-append : (p : A → Bool) (xs ys : List A) → all_of p (xs ++ ys) ≡ (all_of p xs && all_of p ys)
  unfolding all_of
  all_of-append p [] ys = refl
  all_of-append p (x ∷ xs) ys = ap (λ b. p x && b) (all_of-append p xs ys) ∙ sym (and_assoc (p x) _ _)

  -- where no element passes a test, none passes a stronger one
  pub none_of-weaker : (p q : A → Bool) → ((x : A) → p x ≡ false → q x ≡ false) → (xs : List A) → any_of p xs ≡ false → any_of q xs ≡ false
  unfolding any_of
  none_of-weaker p q w [] h = refl
  none_of-weaker p q w (x ∷ xs) h = rw (w x (or_parts (p x) _ h).0) (none_of-weaker p q w xs (or_parts (p x) _ h).1)

  pub none_of-false : (xs : List A) → any_of (λ x. false) xs ≡ false
  unfolding any_of
  none_of-false [] = refl
  none_of-false (x ∷ xs) = none_of-false xs

  pub none_of-and : (p q : A → Bool) (xs : List A) → any_of p xs ≡ false → any_of (λ x. p x && q x) xs ≡ false
  none_of-and p q = none_of-weaker p (λ x. p x && q x) (λ x e. rw e)

  -- elements that begin no piece stand before the first piece
  module _ (start : A → Bool) where
    pub front-past : (xs ys : List A) → any_of start xs ≡ false → front (λ x. not (start x)) (xs ++ ys) ≡ xs ++ front (λ x. not (start x)) ys
    unfolding any_of front
    front-past [] ys h = refl
    front-past (x ∷ xs) ys h = rw ((or_parts (start x) _ h).0, front) (ap (λ zs. x ∷ zs) (front-past xs ys (or_parts (start x) _ h).1))

    pub rest-past : (xs ys : List A) → any_of start xs ≡ false → rest (λ x. not (start x)) (xs ++ ys) ≡ rest (λ x. not (start x)) ys
    unfolding any_of rest
    rest-past [] ys h = refl
    rest-past (x ∷ xs) ys h = rw ((or_parts (start x) _ h).0, rest) (rest-past xs ys (or_parts (start x) _ h).1)

    pub items-past : (xs ys : List A) → any_of start xs ≡ false → items start (xs ++ ys) ≡ items start ys
    unfolding any_of items
    items-past [] ys h = refl
    items-past (x ∷ xs) ys h = rw ((or_parts (start x) _ h).0, items) (items-past xs ys (or_parts (start x) _ h).1)

  -- a list is its front and its rest
  pub front_rest : (p : A → Bool) (xs : List A) → front p xs ++ rest p xs ≡ xs
  unfolding front rest
  front_rest p [] = refl
  front_rest p (x ∷ xs) = go (p x) refl (front_rest p xs)
    where
      go : (b : Bool) → p x ≡ b → front p xs ++ rest p xs ≡ xs → front p (x ∷ xs) ++ rest p (x ∷ xs) ≡ x ∷ xs
      go true e ih = rw (e, front, rest) (ap (λ zs. x ∷ zs) ih)
      go false e ih = rw (e, front, rest)

  -- what passes a test may be known of every element
  pub every-passed : {P Q : A → Type 0} (p : A → Bool) → ((x : A) → p x ≡ true → P x → Q x) → {xs : List A}
      → all_of p xs ≡ true → Every P xs → Every Q xs
  unfolding all_of
  every-passed p f h every-nil = every-nil
  every-passed p f h (every-cons {x} {xs} k ks) =
      every-cons (f x (and_parts (p x) _ h).0 k) (every-passed p f (and_parts (p x) _ h).1 ks)

  pub all_of-same : {p q : A → Bool} {xs : List A} → Every (λ x. p x ≡ q x) xs → all_of p xs ≡ all_of q xs
  unfolding all_of
  all_of-same every-nil = refl
  all_of-same (every-cons e es) = rw (e, all_of-same es)

  -- no element of a front passes the test that ends it
  front-has : (start : A → Bool) (xs : List A) → any_of start (front (λ x. not (start x)) xs) ≡ false
  unfolding front any_of
  front-has start [] = refl
  front-has start (x ∷ xs) = go (start x) refl (front-has start xs)
    where
      go : (b : Bool) → start x ≡ b → any_of start (front (λ y. not (start y)) xs) ≡ false
          → any_of start (front (λ y. not (start y)) (x ∷ xs)) ≡ false
      go true e ih = rw (e, front)
      go false e ih = rw (e, front, e) ih

module _ {A : Type 0} where
  -- a piece begins where the test passes, and only there
  pub items-begin : (start : A → Bool) (xs : List A)
      → Every (λ it. (start it.head ≡ true) × (any_of start it.rest ≡ false)) (items start xs)
  unfolding items
  items-begin start [] = every-nil
  items-begin start (x ∷ xs) = go (start x) refl (items-begin start xs)
    where
      go : (b : Bool) → start x ≡ b → Every (λ it. (start it.head ≡ true) × (any_of start it.rest ≡ false)) (items start xs)
          → Every (λ it. (start it.head ≡ true) × (any_of start it.rest ≡ false)) (items start (x ∷ xs))
      go true e ih = rw (e, items) (every-cons (e, front-has start xs) ih)
      go false e ih = rw (e, items) ih

  -- where no element passes a test, none of the front does
  pub none_of-front : (p q : A → Bool) (xs : List A) → any_of p xs ≡ false → any_of p (front q xs) ≡ false
  unfolding any_of front
  none_of-front p q [] h = refl
  none_of-front p q (x ∷ xs) h = go (q x) refl (none_of-front p q xs (or_parts (p x) _ h).1)
    where
      go : (b : Bool) → q x ≡ b → any_of p (front q xs) ≡ false → any_of p (front q (x ∷ xs)) ≡ false
      go true e ih = rw (e, front, (or_parts (p x) _ h).0) ih
      go false e ih = rw (e, front)

  -- what passes no test may be left off behind an element
  pub any_of-before : (p : A → Bool) (xs ys : List A) (y : A) → any_of p ys ≡ false → any_of p (xs ++ (y ∷ ys)) ≡ any_of p (xs ++ (y ∷ []))
  unfolding any_of
  any_of-before p [] ys y h = rw h
  any_of-before p (x ∷ xs) ys y h = ap (λ b. p x || b) (any_of-before p xs ys y h)

  select-none : (p : A → Bool) (ys : List A) → any_of p ys ≡ false → select p ys ≡ []
  unfolding any_of select
  select-none p [] h = refl
  select-none p (y ∷ ys) h = rw (or_parts (p y) _ h).0 (select-none p ys (or_parts (p y) _ h).1)

  pub select-before : (p : A → Bool) (xs ys : List A) (y : A) → any_of p ys ≡ false → select p (xs ++ (y ∷ ys)) ≡ select p (xs ++ (y ∷ []))
  unfolding select
  select-before p [] ys y h = rw (select-none p ys h)
  select-before p (x ∷ xs) ys y h = ap (λ zs. only_if (p x) (x ∷ []) ++ zs) (select-before p xs ys y h)
