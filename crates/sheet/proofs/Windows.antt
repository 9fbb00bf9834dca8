-- Windows of a list: one more element, and two windows that meet. A test passes in the window of all indices just if no element fails it.
use Prim.Native.Nat.{ℕ, zero, suc, ◌+◌, ◌-◌, ◌≤◌, ◌<◌}
use mathlib.Core.Path.{◌≡◌, refl, ◌∙◌, sym}
use mathlib.Core.Bool.{Bool, true, false, not, ◌&&◌, ◌||◌, and-true, and-false, and_assoc}
use mathlib.Core.List.{List, [], ◌∷◌}
use native.Mathlib.Omega.{arith}
use lib.ListN.{length, get_or}
use Rattle.rules.specs.Words.{any_of}
use Rattle.sheet.specs.Window.{passes}

-- what both windows hold counts once
and-twice : (a b c : Bool) → (a && b && (b && c)) ≡ (a && (b && c))
and-twice true true c = refl
and-twice true false c = refl
and-twice false b c = refl

module _ (test : ℕ → Bool) where
  pub none-fails : (i : ℕ) → true ≡ passes test i 0
  unfolding passes
  none-fails i = refl

  -- a window behind a window
  pub split : (i m n : ℕ) → passes test i (m + n) ≡ (passes test i m && passes test (i + m) n)
  unfolding passes
  split i zero n =
      let same : i + 0 ≡ i = omega arith in
      let none : 0 + n ≡ n = omega arith in
      rw (same, none)
  split i (suc m) n =
      let next : i + suc m ≡ suc i + m = omega arith in
      let more : suc m + n ≡ suc (m + n) = omega arith in
      rw (more, next, split (suc i) m n, and_assoc)

  pub one_more : (i k : ℕ) (all here : Bool) → all ≡ passes test i k → here ≡ test (i + k) → (all && here) ≡ passes test i (k + 1)
  unfolding passes
  one_more i k all here a h = rw (split i k 1, ← a, ← h, and-true)

  overlap : (i m both n : ℕ) → (passes test i (m + both) && passes test (i + m) (both + n)) ≡ passes test i (m + (both + n))
  overlap i m both n = rw (split i m both, split (i + m) both n, split i m (both + n), split (i + m) both n, and-twice)

  pub window-done : (i k n : ℕ) (all : Bool) → all ≡ passes test i k → k ≤ n → n ≤ k → all ≡ passes test i n
  window-done i k n all a l g =
      let same : n ≡ k = omega arith in
      rw same a

  -- a window from the start, and one to the end that starts within it or at its end
  pub windows-meet : (last m n size : ℕ) (front back : Bool) → front ≡ passes test 0 m → back ≡ passes test last n → last + n ≡ size → last ≤ m → m ≤ size → (front && back) ≡ passes test 0 size
  windows-meet last m n size front back f b e l g =
      let start : 0 + last ≡ last = omega arith in
      let first : last + (m - last) ≡ m = omega arith in
      let second : (m - last) + (n - (m - last)) ≡ n = omega arith in
      rw (f, b, ← e) (rw (start, first, second) at (overlap 0 last (m - last) (n - (m - last))))

  pub window-fails : (i n size : ℕ) (window : Bool) → window ≡ passes test i n → window ≡ false → i + n ≤ size → false ≡ passes test 0 size
  window-fails i n size window w f l =
      let start : 0 + i ≡ i = omega arith in
      let whole : size ≡ i + (n + (size - (i + n))) = omega arith in
      rw (whole, split 0 i (n + (size - (i + n))), start, split i n (size - (i + n)), ← w, f, and-false)

  -- a walk by windows of n elements: those before i pass, and so do the last n
  pub record Walked (n size last i : ℕ) : Type 0 where
    pub some : 0 < n
    pub end : last + n ≡ size
    pub within : i ≤ size
    pub before : true ≡ passes test 0 i
    pub behind : true ≡ passes test last n

  module _ (n size last : ℕ) where
    pub walk-starts : (window : Bool) → window ≡ passes test last n → window ≡ true → 0 < n → last + n ≡ size → Walked n size last 0
    walk-starts window w t some end =
        record { some = some; end = end; within = omega arith; before = none-fails 0; behind = sym t ∙ w }

    module _ (i : ℕ) (walked : Walked n size last i) where
      -- one window more, which may be the last
      pub walk-goes-on : (window : Bool) → window ≡ passes test i n → window ≡ true → i + n ≤ size → Walked n size last (i + n)
      walk-goes-on window w t l =
          record {
            some = walked.some;
            end = walked.end;
            within = l;
            before = sym t ∙ windows-meet i i n (i + n) true window walked.before w refl (omega arith) (omega arith);
            behind = walked.behind;
          }

      pub walk_ends : last ≤ i → true ≡ passes test 0 size
      walk_ends l = windows-meet last i n size true true walked.before walked.behind walked.end l walked.within

-- the tests of a list without its first element
pub behind-first : (test : ℕ → Bool) (i n : ℕ) → passes test (suc i) n ≡ passes (λ j. test (suc j)) i n
unfolding passes
behind-first test i zero = refl
behind-first test i (suc n) = rw (behind-first test (suc i) n)

pub all-or-none : (a b : Bool) → (a && not b) ≡ not (not a || b)
all-or-none true b = refl
all-or-none false b = refl

pub none-fails-in : (test : ℕ → Bool) (xs : List ℕ) → passes (λ i. test (get_or xs i 0)) 0 (length xs) ≡ not (any_of (λ x. not (test x)) xs)
unfolding passes any_of
none-fails-in test [] = refl
none-fails-in test (x ∷ xs) =
    rw (behind-first (λ i. test (get_or (x ∷ xs) i 0)) 0 (length xs), none-fails-in test xs, all-or-none)
