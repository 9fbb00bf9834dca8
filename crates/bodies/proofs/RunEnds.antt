-- A run of records ends at the first record that is not of it: the records passed so far are the front of all, and what is left to pass is
-- cut as all are.
use Prim.Native.Nat.{ℕ, zero, suc, ◌+◌, ◌-◌, ◌*◌, ◌/◌, ◌<◌, ◌≤◌}
use mathlib.Core.Path.{◌≡◌, refl, sym, ap, ◌∙◌}
use mathlib.Core.Bool.{Bool, true, false, not, ◌&&◌, ◌||◌}
use mathlib.Core.List.{List, [], ◌∷◌, ◌++◌, append-nil, append_assoc}
use native.Mathlib.Decide.{ℕ_discrete}
use native.Mathlib.Omega.{arith}
use lib.Dec.{leb, ltb}
use borrow.Author.Tests.{leb-true, leb-false, not-true, not-false, lt-ltb, le-ltb}
use Rattle.std.specs.Prelude.{Option, Some, None, MatchOption}
use Rattle.std.specs.Option.{unwrap_or}
use Rattle.rules.specs.declared.span.Span.{Span}
use Rattle.rules.specs.Words.{within, first_is, front, rest}
use Rattle.rules.specs.Record.{Rec}
use Rattle.names.specs.View.{view_at, view_from, view_of}
use Rattle.types.proofs.Views.{view-cons, view-none}
use Rattle.bodies.specs.Runs.{EndsAt, AllIn, RunTo}

-- a number that is not between two bounds is under the one or over the other
under : (a b : ℕ) → ltb b a ≡ not (leb a b)
under a b = by (leb a b) refl
  where
    by : (t : Bool) → leb a b ≡ t → ltb b a ≡ not (leb a b)
    by true h = rw (h, le-ltb b a (leb-true a b h))
    by false h = rw (h, lt-ltb b a (leb-false a b h))

either : (p q : Bool) → (not p || not q) ≡ not (p && q)
either true q = refl
either false q = refl

pub outside : (low high n : ℕ) → (ltb n low || ltb high n) ≡ not (within low high n)
outside low high n = rw (under low n, under n high) (either (leb low n) (leb n high))

-- one record more
view-last : (sheet : List ℕ) (n a : ℕ) → view_from sheet a (suc n) ≡ view_from sheet a n ++ view_at sheet (a + n) ∷ []
unfolding view_from
view-last sheet zero a = let same : a + 0 ≡ a = omega arith in rw same
view-last sheet (suc n) a = let same : a + suc n ≡ suc a + n = omega arith in rw same (ap (λ rs. view_at sheet a ∷ rs) (view-last sheet n (suc a)))

-- the first of the others fails the test
rest-first : {A : Type 0} (p : A → Bool) (xs : List A) → first_is p (rest p xs) ≡ false
unfolding rest
rest-first p [] = refl
rest-first p (x ∷ xs) = by (rest-first p xs) (p x) refl
  where
    by : first_is p (rest p xs) ≡ false → (test : Bool) → p x ≡ test → first_is p (rest p (x ∷ xs)) ≡ false
    by later true h = rw (rest, h) later
    by later false h = rw (rest, h) h

-- the record where a run ends is not of it
pub ends-out : (p : Rec ℕ Span → Bool) (sheet : List ℕ) (a e r : ℕ) → EndsAt p sheet a e r → r < e → p (view_at sheet r) ≡ false
unfolding EndsAt
ends-out p sheet a e r ends h = ap (first_is p) (sym (view-cons sheet r e h) ∙ ends.1) ∙ rest-first p (view_of sheet a e)

module _ (p : Rec ℕ Span → Bool) (sheet : List ℕ) (a : ℕ) where
  -- records that pass by fours
  abbrev Four : ℕ → Type 0
  Four k = AllIn p sheet (a + 4 * k) (a + 4 * k + 4)

  all_fours : (n : ℕ) → ((k : ℕ) → 0 ≤ k → k < n → Four k) → AllIn p sheet a (a + 4 * n)
  unfolding AllIn
  all_fours n each = λ j l lt. each ((j - a) / 4) (omega arith) (omega arith) j (omega arith) (omega arith)

  pub fours_found :
      (e : ℕ) (found : Option ℕ) → a ≤ e → let n = (e - a) / 4 in
      MatchOption found ((k : ℕ) → 0 ≤ k → k < n → Four k) (λ r. (0 ≤ r) × (r < n) × Unit {0} × ((k : ℕ) → 0 ≤ k → k < r → Four k)) →
      (a + 4 * unwrap_or found n ≤ e) × AllIn p sheet a (a + 4 * unwrap_or found n)
  fours_found e None order each = (omega arith, all_fours ((e - a) / 4) each)
  fours_found e (Some r) order (least, most, here, each) = (omega arith, all_fours r each)

module _ (p : Rec ℕ Span → Bool) (sheet : List ℕ) (a e : ℕ) where
  -- the records from a up to i are of the run, and so what follows them is cut where all are
  pub record Passed (i : ℕ) : Type 0 where
    pub least : a ≤ i
    pub most : i - a ≤ e - a
    pub before : front p (view_of sheet a e) ≡ view_of sheet a i ++ front p (view_of sheet i e)
    pub after : rest p (view_of sheet a e) ≡ rest p (view_of sheet i e)
    pub all : AllIn p sheet a i

  pub none_passed : Passed a
  unfolding view_from AllIn
  none_passed =
      let none : a - a ≡ 0 = omega arith in
      record { least = omega arith; most = omega arith; before = rw none; after = refl; all = λ j l h. absurd (omega arith) }

  module _ (i : ℕ) (passed : Passed i) where
    pub passed-next : (here : Bool) → i < e → here ≡ p (view_at sheet i) → not here ≡ false → Passed (i + 1)
    unfolding front rest AllIn
    passed-next here h read one =
        let size : i + 1 - a ≡ suc (i - a) = omega arith in
        let place : a + (i - a) ≡ i = omega arith in
        let last : view_of sheet a (i + 1) ≡ view_of sheet a i ++ view_at sheet i ∷ [] = rw (size, view-last sheet (i - a) a, place) in
        let cons = view-cons sheet i e h in
        let of : p (view_at sheet i) ≡ true = sym read ∙ not-false here one in
        record {
          least = omega arith;
          most = omega arith;
          before = passed.before ∙ rw (cons, of, front, last, append_assoc);
          after = passed.after ∙ rw (cons, of, rest);
          all = λ j l lt. further of j l lt (ℕ_discrete j i);
        }
      where
        further : p (view_at sheet i) ≡ true → (j : ℕ) → a ≤ j → j < i + 1 → Dec (j ≡ i) → p (view_at sheet j) ≡ true
        further of j l lt (yes same) = rw same of
        further of j l lt (no differ) = passed.all j l (omega arith)

    pub passed-end : (here : Bool) → i < e → here ≡ p (view_at sheet i) → not here ≡ true → RunTo p sheet a e i
    unfolding EndsAt front rest
    passed-end here h read one =
        let cons = view-cons sheet i e h in
        let of : p (view_at sheet i) ≡ false = sym read ∙ not-true here one in (
          (sym (passed.before ∙ rw (cons, of, front, append-nil)), sym (passed.after ∙ rw (cons, of, rest))),
          omega arith,
          λ le. passed.least,
          passed.all,
        )

    pub passed-all : e ≤ i → RunTo p sheet a e e
    unfolding EndsAt front rest AllIn
    passed-all h =
        let size : i - a ≡ e - a = omega arith in
        let none = view-none sheet i e h in (
          (
            sym (passed.before ∙ rw (none, size, append-nil)),
            view-none sheet e e (omega arith) ∙ sym (passed.after ∙ rw none),
          ),
          omega arith,
          λ le. le,
          λ j l lt. passed.all j l (omega arith),
        )

  -- records further on that are of the run
  passed-by : (i n : ℕ) → Passed i → i + n ≤ e → AllIn p sheet i (i + n) → Passed (i + n)
  unfolding AllIn
  passed-by i zero passed h all = let none : i + 0 ≡ i = omega arith in rw none passed
  passed-by i (suc n) passed h all =
      let more : i + suc n ≡ i + n + 1 = omega arith in
      rw more
      (passed-next (i + n) (passed-by i n passed (omega arith) (λ j l lt. all j l (omega arith))) true (omega arith)
      (sym (all (i + n) (omega arith) (omega arith))) refl)

  pub passed_to : (i j : ℕ) → Passed i → i ≤ j → j ≤ e → AllIn p sheet i j → Passed j
  passed_to i j passed least most all =
      let last : i + (j - i) ≡ j = omega arith in
      rw last at (passed-by i (j - i) passed (omega arith) (rw (sym last) at all))

  pub passed-out : (r : ℕ) → Passed r → r ≤ e → (r < e → p (view_at sheet r) ≡ false) → RunTo p sheet a e r
  passed-out r passed most out = by (ℕ_discrete r e)
    where
      by : Dec (r ≡ e) → RunTo p sheet a e r
      by (yes same) = rw same (passed-all r passed (omega arith))
      by (no differ) = let h : r < e = omega arith in passed-end r passed false h (sym (out h)) refl

  -- a run goes on behind records of it
  pub run_on : (m r : ℕ) → a ≤ m → m ≤ e → AllIn p sheet a m → EndsAt p sheet m e r × (r ≤ e) × (m ≤ e → m ≤ r) × AllIn p sheet m r → RunTo p sheet a e r
  run_on m r least most all run =
      passed-out r
      (passed_to m r (passed_to a m none_passed least most all) (run.2 most) run.1 run.3)
      run.1 (ends-out p sheet m e r run.0)
