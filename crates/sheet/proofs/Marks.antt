-- The marks of a name's bytes. A table has the mark of each byte if a test at its 256 entries says so; then it says of bytes and names what
-- the rules say, since a mark is 3 just for a byte that may start a name and odd just for one that may go on. For any numbers in the table,
-- a byte that may start a name may go on in it.
use Prim.Native.Nat.{ℕ, ◌+◌, ◌-◌, ◌%◌, ◌≤◌}
use mathlib.Core.Path.{◌≡◌, refl, ◌∙◌, sym}
use mathlib.Core.Bool.{Bool, true, false, not, ◌&&◌, ◌||◌, and-false, or-true}
use mathlib.Core.List.{List, [], ◌∷◌}
use native.Mathlib.Omega.{arith}
use lib.Dec.{T, eqb, ltb, eqb→eq}
use lib.ListN.{length, get_or, get_or-eq_default}
use borrow.Author.Tests.{ltb-true, ltb-false, lt-leb, ne_eqb, eqb-true}
use Rattle.std.specs.List.{list_all}
use Rattle.rules.specs.Words.{number_if, within, any_of}
use Rattle.rules.specs.Context.{starts_name, continues_name, valid_field_name}
use Rattle.sheet.specs.Window.{passes}
use Rattle.sheet.specs.Mark.{name_mark, HasMarks, starts_by, continues_by, continues_at, continue_by, valid_by}
use Rattle.sheet.proofs.Below.{passes_below, first_passes, second-passes, passes_at}
use Rattle.sheet.proofs.Windows.{split, windows-meet, none-fails-in, all-or-none}

-- the test of a table: each of its entries is the mark of its byte
unfoldable pub marks_bytes : List ℕ → Bool
marks_bytes marks = eqb (length marks) 256 && passes_below 256 (λ k. eqb (get_or marks k 0) (name_mark k))

-- no number past the last byte has a mark
no-mark : (b : ℕ) → 256 ≤ b → 0 ≡ name_mark b
unfolding name_mark
no-mark b h =
    let small = lt-leb b 122 (omega arith) in
    let capital = lt-leb b 90 (omega arith) in
    let digit = lt-leb b 57 (omega arith) in
    let line = ne_eqb b 95 (λ e. omega arith) in
    simp (small, capital, digit, line, and-false)

-- so the table has the marks
pub has-marks : (marks : List ℕ) → T (marks_bytes marks) → HasMarks marks
unfolding marks_bytes HasMarks
has-marks marks t b = decided (ltb b 256) refl
  where
    test : ℕ → Bool
    test k = eqb (get_or marks k 0) (name_mark k)

    size : length marks ≡ 256
    size = eqb→eq (length marks) 256 (first_passes (eqb (length marks) 256) (passes_below 256 test) t)

    decided : (below : Bool) → ltb b 256 ≡ below → get_or marks b 0 ≡ name_mark b
    decided true e = eqb→eq (get_or marks b 0) (name_mark b) (passes_at 256 test (second-passes (eqb (length marks) 256) (passes_below 256 test) t) b (ltb-true b 256 e))
    decided false e =
        let past = ltb-false b 256 e in
        get_or-eq_default marks 0 (omega (arith, size)) ∙ no-mark b past

-- what a mark says of its byte: `a` stands for small letters, `u` for capitals, `d` for digits, `e` for `_`
no_start : (continues : Bool) → eqb (0 + number_if continues 1) 3 ≡ false
no_start true = refl
no_start false = refl

marked_start : (a u d e : Bool) → eqb (number_if (a || e) 2 + number_if (a || u || d || e) 1) 3 ≡ (a || e)
marked_start true u d e = refl
marked_start false u d true = rw or-true
marked_start false u d false = no_start (u || d || false)

marked_next : (starts continues : Bool) → eqb ((number_if starts 2 + number_if continues 1) % 2) 1 ≡ continues
marked_next true true = refl
marked_next true false = refl
marked_next false true = refl
marked_next false false = refl

module _ (marks : List ℕ) where
  -- a table that has the marks says what the rules say
  module _ (rule : HasMarks marks) where
    starts_by_lem : (b : ℕ) → starts_by marks b ≡ starts_name b
    unfolding starts_by HasMarks name_mark
    starts_by_lem b = rw (rule b) (marked_start (within 97 122 b) (within 65 90 b) (within 48 57 b) (eqb b 95))

    continues-by : (b : ℕ) → continues_by marks b ≡ continues_name b
    unfolding continues_by HasMarks name_mark
    continues-by b = rw (rule b) (marked_next (starts_name b) (continues_name b))

    continue-by : (bytes : List ℕ) → continue_by marks bytes ≡ not (any_of (λ b. not (continues_name b)) bytes)
    unfolding continue_by
    continue-by bytes = simp continues-by

    pub valid-by : (name : List ℕ) (valid : Bool) → valid ≡ valid_by marks name → valid ≡ valid_field_name name
    unfolding valid_by valid_field_name
    valid-by [] valid h = h
    valid-by (b ∷ bs) valid h = h ∙ rw (starts_by_lem b, continue-by bs)

  start-continues : (b : ℕ) → starts_by marks b ≡ true → continues_by marks b ≡ true
  unfolding starts_by continues_by
  start-continues b h = rw (eqb-true (get_or marks b 0) 3 h)

  pub bad-start : (name : List ℕ) (first : Bool) → first ≡ starts_by marks (get_or name 0 0) → first ≡ false → false ≡ valid_by marks name
  unfolding valid_by
  bad-start [] first h f = refl
  bad-start (b ∷ bs) first h f = rw (sym h ∙ f)

  pub good_start : (name : List ℕ) (first all : Bool) → (length name ≡ 0 → ⊥) → first ≡ starts_by marks (get_or name 0 0) → first ≡ true → all ≡ continue_by marks name → all ≡ valid_by marks name
  unfolding valid_by continue_by any_of
  good_start [] first all n h t a = absurd (n refl)
  good_start (b ∷ bs) first all n h t a =
      let start : starts_by marks b ≡ true = sym h ∙ t in
      a ∙ rw (start, start-continues b start)

  pub all_continue : (bytes : List ℕ) → list_all (continues_by marks) bytes ≡ continue_by marks bytes
  unfolding continue_by any_of
  all_continue [] = refl
  all_continue (b ∷ bytes) = rw (all_continue bytes) (all-or-none (continues_by marks b) _)

  -- eight bytes are four and four
  module _ (text : List ℕ) (at : ℕ) where
    pub eight-pass :
        (a b : Bool) → a ≡ passes (continues_at marks text) at 4 → b ≡ passes (continues_at marks text) (at + 4) 4 → (a && b) ≡ passes (continues_at marks text) at 8
    eight-pass a b ha hb = rw (ha, hb) (sym (split (continues_at marks text) at 4 4))

  -- the bytes at both ends, which may share some
  pub ends-continue :
      (text : List ℕ) (n : ℕ) (front back : Bool) → n ≤ length text → length text ≤ n + n → front ≡ passes (continues_at marks text) 0 n →
      back ≡ passes (continues_at marks text) (length text - n) n → (front && back) ≡ continue_by marks text
  unfolding continue_by
  ends-continue text n front back few most f b =
      windows-meet (continues_at marks text) (length text - n) n n (length text) front back f b (omega arith) (omega arith) few ∙ none-fails-in (continues_by marks) text

-- what the windows and the table say of a whole text
pub ruleset marks = (eight-pass, valid-by)
