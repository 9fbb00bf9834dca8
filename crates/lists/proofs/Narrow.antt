-- The numbers that row 5 lets through: one that is let through is among them if it is among all.
use Prim.Native.Nat.{ℕ, ◌≤◌, ◌<◌}
use mathlib.Core.Path.{◌≡◌, refl, sym, ap, ◌∙◌}
use mathlib.Core.Bool.{Bool, true, false, ◌||◌}
use mathlib.Core.List.{List, [], ◌∷◌, ◌++◌}
use native.Mathlib.Omega.{arith}
use lib.Dec.{leb, eqb}
use borrow.Author.Tests.{le-leb, lt-leb, leb-false, ne_eqb}
use Rattle.rules.specs.Words.{only_if, any_of, member, select}
use Rattle.rules.specs.Refusals.{max_ordinal}
use Rattle.lists.specs.Seen.{narrow}

pub narrow-kept : (x : ℕ) (xs : List ℕ) → x ≤ 4294967295 → narrow (x ∷ xs) ≡ x ∷ narrow xs
unfolding select
narrow-kept x xs h = rw (le-leb x max_ordinal h)

pub narrow-out : (x : ℕ) (xs : List ℕ) → 4294967295 < x → narrow (x ∷ xs) ≡ narrow xs
unfolding select
narrow-out x xs h = rw (lt-leb x max_ordinal h)

pub narrow-member : (x : ℕ) (xs : List ℕ) → x ≤ 4294967295 → member x (narrow xs) ≡ member x xs
unfolding select any_of
narrow-member x [] h = refl
narrow-member x (y ∷ ys) h = go (narrow-member x ys h) (leb y max_ordinal) refl
  where
    go :
        member x (narrow ys) ≡ member x ys → (b : Bool) → leb y max_ordinal ≡ b →
        member x (only_if b (y ∷ []) ++ narrow ys) ≡ (eqb x y || member x ys)
    go later true t = ap (λ m. eqb x y || m) later
    go later false t = later ∙ ap (λ b. b || member x ys) (sym (ne_eqb x y (λ same. omega (arith, leb-false y max_ordinal t))))
