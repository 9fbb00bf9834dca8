-- A machine that reads a list: where a piece may begin only in a state that is done, and the state after its first element is that
-- element's own, a list is read to the end exactly if what stands before the pieces is, and each piece by itself.
use mathlib.Core.Path.{◌≡◌, refl, sym, ap, ◌∙◌}
use mathlib.Core.Bool.{Bool, true, false, not, ◌&&◌, ◌||◌, true≢false, and-true, and_assoc}
use mathlib.Core.List.{List, [], ◌∷◌}
use Rattle.std.proofs.lemmas.Bool.{or_parts}
use Rattle.rules.specs.Words.{any_of, front, Item, items}
use Rattle.rules.specs.Grammar.{Step, to, fault, lifted, guarded}
use Rattle.rules.proofs.Lists.{all_of}

module _ {S : Type 0} where
  pub to-inj : {s t : S} → to s ≡ to t → s ≡ t
  to-inj h = cc

  pub guarded-to : (b : Bool) (x : Step S) {t : S} → guarded b x ≡ to t → (b ≡ true) × (x ≡ to t)
  guarded-to true x h = (refl, h)
  guarded-to false x h = (cc, cc)

module _ {S U : Type 0} where
  pub lifted-to : (f : S → U) (x : Step S) {t : U} → lifted f x ≡ to t → (s : S) × (x ≡ to s) × (f s ≡ t)
  lifted-to f (to s) h = (s, refl, cc)
  lifted-to f (fault n) h = let z : true ≡ false = cc in absurd (true≢false z)

module _ {S A : Type 0} (step : S → A → Step S) (finished : S → Bool) where
  -- the list is read to the end from a state on
  unfoldable pub reads : S → List A → Bool
  reads s [] = finished s
  reads s (x ∷ xs) = elim (step s x) [ to t ↦ reads t xs | fault n ↦ false ]

  -- from a step on
  abbrev pub reads_on : Step S → List A → Bool
  reads_on n xs = elim n [ to t ↦ reads t xs | fault k ↦ false ]

  -- the machine begins a piece only where it is done, at an element that is allowed, and by that element alone
  module _ (start : A → Bool) (allowed : A → Bool) (enter : A → S)
      (begins : (s : S) (x : A) (xs : List A) → start x ≡ true
      → reads_on (step s x) xs ≡ (finished s && (allowed x && reads (enter x) xs))) where
    -- a piece is read to the end by itself
    abbrev reads_item : Item A → Bool
    reads_item it = allowed it.head && reads (enter it.head) it.rest

    pub reads-items : (s : S) (xs : List A)
        → reads s xs ≡ (reads s (front (λ x. not (start x)) xs) && all_of reads_item (items start xs))
    unfolding reads front items all_of
    reads-items s [] = sym (and-true (finished s))
    reads-items s (x ∷ xs) = go (start x) refl (λ t. reads-items t xs)
      where
        Split : Type 0
        Split = (t : S) → reads t xs ≡ (reads t (front (λ y. not (start y)) xs) && all_of reads_item (items start xs))

        on : (n : Step S) → Split → reads_on n xs ≡ (reads_on n (front (λ y. not (start y)) xs) && all_of reads_item (items start xs))
        on (to t) ih = ih t
        on (fault n) ih = refl

        go : (b : Bool) → start x ≡ b → Split
            → reads s (x ∷ xs) ≡ (reads s (front (λ y. not (start y)) (x ∷ xs)) && all_of reads_item (items start (x ∷ xs)))
        go true e ih =
            rw (e, front, items)
            (begins s x xs e ∙ rw (ih (enter x)) (ap (λ b. finished s && b) (sym (and_assoc (allowed x) _ _))))
        go false e ih = rw (e, front, items) (on (step s x) ih)

  -- where a list is read, its first element is taken
  pub reads_first : (s : S) (x : A) (xs : List A) → reads s (x ∷ xs) ≡ true → (t : S) × (step s x ≡ to t)
  unfolding reads
  reads_first s x xs h = go (step s x) h
    where
      go : (n : Step S) → reads_on n xs ≡ true → (t : S) × (n ≡ to t)
      go (to t) e = (t, refl)
      go (fault n) e = absurd (true≢false (sym e))

  -- a test that fails at each element that is taken fails on the whole list that is read
  pub reads-kinds : (Holds : S → Type 0) (bad : A → Bool)
      → ((s : S) (x : A) (t : S) → Holds s → step s x ≡ to t → (bad x ≡ false) × Holds t)
      → (s : S) (xs : List A) → Holds s → reads s xs ≡ true → any_of bad xs ≡ false
  unfolding reads any_of
  reads-kinds Holds bad h s [] k e = refl
  reads-kinds Holds bad h s (x ∷ xs) k e = go (step s x) refl e (λ t. reads-kinds Holds bad h t xs)
    where
      go : (n : Step S) → step s x ≡ n → reads_on n xs ≡ true → ((t : S) → Holds t → reads t xs ≡ true → any_of bad xs ≡ false)
          → (bad x || any_of bad xs) ≡ false
      go (to t) d r ih = let q = h s x t k d in rw q.0 (ih t q.1 r)
      go (fault n) d r ih = cc

module _ {S U A : Type 0} where
  -- a machine within a larger one reads what that one reads, on elements at which their steps are the same
  pub reads-lifted : (inner : S → A → Step S) (inner_done : S → Bool) (outer : U → A → Step U) (outer_done : U → Bool) (f : S → U)
      (bad : A → Bool)
      → ((s : S) (x : A) → bad x ≡ false → outer (f s) x ≡ lifted f (inner s x))
      → ((s : S) → outer_done (f s) ≡ inner_done s)
      → (s : S) (xs : List A) → any_of bad xs ≡ false → reads outer outer_done (f s) xs ≡ reads inner inner_done s xs
  unfolding reads any_of
  reads-lifted inner inner_done outer outer_done f bad same_step same_end s [] k = same_end s
  reads-lifted inner inner_done outer outer_done f bad same_step same_end s (x ∷ xs) k =
      rw (same_step s x (or_parts (bad x) _ k).0, reads)
      (go (inner s x) (λ t. reads-lifted inner inner_done outer outer_done f bad same_step same_end t xs (or_parts (bad x) _ k).1))
    where
      go : (n : Step S) → ((t : S) → reads outer outer_done (f t) xs ≡ reads inner inner_done t xs)
          → reads_on outer outer_done (lifted f n) xs ≡ reads_on inner inner_done n xs
      go (to t) ih = ih t
      go (fault n) ih = refl
