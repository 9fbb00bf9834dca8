-- The list of a table's parts: a store into it is a store into the part that has the place.
use Prim.Native.Nat.{ℕ, zero, suc, ◌+◌, ◌<◌, ◌≤◌}
use native.Mathlib.Nat.{zero-add}
use native.Mathlib.Omega.{arith}
use mathlib.Core.Path.{◌≡◌, ◌∙◌, sym, ap}
use mathlib.Core.List.{List, ◌++◌}
use lib.ListN.{length, get_or, take, set, length-set, get_or-append}
use lib.Seq.{take-append_seam, get_or-append-add, get_or-take, length-take-le}
use Rattle.std.proofs.lemmas.List.{set-append_left, set-append_right, length-append}
use Rattle.rules.specs.Refusals.{max_records}
use Rattle.names.specs.Notes.{set_first, Silent}
use Rattle.names.specs.View.{declarations_from, imports_from, targets_from, totals_from}

-- a number of a list that stands behind another
past : (p l : List ℕ) (n i v : ℕ) → length p ≡ n → set (p ++ l) (n + i) v ≡ p ++ set l i v
past p l n i v h = set-append_right p l n (n + i) v h (omega arith) ∙ ap (λ k. p ++ set l k v) (omega arith)

read_past : (p l : List ℕ) (n i : ℕ) → length p ≡ n → get_or (p ++ l) (n + i) 0 ≡ get_or l i 0
read_past p l n i h = rw (← h) (get_or-append-add p l i 0)

module _ (a b c d e f : List ℕ) where
  first_two : length (a ++ b) ≡ length a + length b
  first_two = length-append a b

  first_three : length (a ++ b ++ c) ≡ length a + length b + length c
  first_three = length-append (a ++ b) c ∙ ap (◌+ length c) first_two

  first_four : length (a ++ b ++ c ++ d) ≡ length a + length b + length c + length d
  first_four = length-append (a ++ b ++ c) d ∙ ap (◌+ length d) first_three

  first_five : length (a ++ b ++ c ++ d ++ e) ≡ length a + length b + length c + length d + length e
  first_five = length-append (a ++ b ++ c ++ d) e ∙ ap (◌+ length e) first_four

  pub stored_first : (i v : ℕ) → i < length a → set (a ++ b ++ c ++ d ++ e ++ f) (0 + i) v ≡ set a i v ++ b ++ c ++ d ++ e ++ f
  stored_first i v h =
      rw (
        zero-add i,
        set-append_left (a ++ b ++ c ++ d ++ e) f i v (omega (arith, first_five)),
        set-append_left (a ++ b ++ c ++ d) e i v (omega (arith, first_four)),
        set-append_left (a ++ b ++ c) d i v (omega (arith, first_three)),
        set-append_left (a ++ b) c i v (omega (arith, first_two)),
        set-append_left a b i v h,
      )

  stored_second : (i v : ℕ) → length a ≡ max_records → i < length b → set (a ++ b ++ c ++ d ++ e ++ f) (declarations_from + i) v ≡ a ++ set b i v ++ c ++ d ++ e ++ f
  stored_second i v la h =
      rw (
        set-append_left (a ++ b ++ c ++ d ++ e) f (declarations_from + i) v (omega (arith, first_five, la)),
        set-append_left (a ++ b ++ c ++ d) e (declarations_from + i) v (omega (arith, first_four, la)),
        set-append_left (a ++ b ++ c) d (declarations_from + i) v (omega (arith, first_three, la)),
        set-append_left (a ++ b) c (declarations_from + i) v (omega (arith, first_two, la)),
        past a b max_records i v la,
      )

  pub stored_third : (i v : ℕ) → length a ≡ max_records → length b ≡ max_records → i < length c → set (a ++ b ++ c ++ d ++ e ++ f) (imports_from + i) v ≡ a ++ b ++ set c i v ++ d ++ e ++ f
  stored_third i v la lb h =
      rw (
        set-append_left (a ++ b ++ c ++ d ++ e) f (imports_from + i) v (omega (arith, first_five, la, lb)),
        set-append_left (a ++ b ++ c ++ d) e (imports_from + i) v (omega (arith, first_four, la, lb)),
        set-append_left (a ++ b ++ c) d (imports_from + i) v (omega (arith, first_three, la, lb)),
        past (a ++ b) c imports_from i v (omega (arith, first_two, la, lb)),
      )

  pub stored_fourth :
      (i v : ℕ) → length a ≡ max_records → length b ≡ max_records → length c ≡ max_records → i < length d →
      set (a ++ b ++ c ++ d ++ e ++ f) (targets_from + i) v ≡ a ++ b ++ c ++ set d i v ++ e ++ f
  stored_fourth i v la lb lc h =
      rw (
        set-append_left (a ++ b ++ c ++ d ++ e) f (targets_from + i) v (omega (arith, first_five, la, lb, lc)),
        set-append_left (a ++ b ++ c ++ d) e (targets_from + i) v (omega (arith, first_four, la, lb, lc)),
        past (a ++ b ++ c) d targets_from i v (omega (arith, first_three, la, lb, lc)),
      )

  -- all but the last numbers
  pub front :
      length a ≡ max_records → length b ≡ max_records → length c ≡ max_records → length d ≡ max_records → length e ≡ max_records →
      take totals_from (a ++ b ++ c ++ d ++ e ++ f) ≡ a ++ b ++ c ++ d ++ e
  front la lb lc ld le =
      let five : length (a ++ b ++ c ++ d ++ e) ≡ totals_from = omega (arith, first_five, la, lb, lc, ld, le) in
      rw (← five) (take-append_seam (a ++ b ++ c ++ d ++ e) f)

  -- what is read
  read_second : (i : ℕ) → length a ≡ max_records → i < length b → get_or (a ++ b ++ c ++ d ++ e ++ f) (declarations_from + i) 0 ≡ get_or b i 0
  read_second i la h =
      rw (
        get_or-append (a ++ b ++ c ++ d ++ e) f 0 (declarations_from + i) (omega (arith, first_five, la)),
        get_or-append (a ++ b ++ c ++ d) e 0 (declarations_from + i) (omega (arith, first_four, la)),
        get_or-append (a ++ b ++ c) d 0 (declarations_from + i) (omega (arith, first_three, la)),
        get_or-append (a ++ b) c 0 (declarations_from + i) (omega (arith, first_two, la)),
        read_past a b max_records i la,
      )

  read_third : (i : ℕ) → length a ≡ max_records → length b ≡ max_records → i < length c → get_or (a ++ b ++ c ++ d ++ e ++ f) (imports_from + i) 0 ≡ get_or c i 0
  read_third i la lb h =
      rw (
        get_or-append (a ++ b ++ c ++ d ++ e) f 0 (imports_from + i) (omega (arith, first_five, la, lb)),
        get_or-append (a ++ b ++ c ++ d) e 0 (imports_from + i) (omega (arith, first_four, la, lb)),
        get_or-append (a ++ b ++ c) d 0 (imports_from + i) (omega (arith, first_three, la, lb)),
        read_past (a ++ b) c imports_from i (omega (arith, first_two, la, lb)),
      )

-- a number of the second part and one of the third, stored at another place of their parts
pub copied :
    (a b c d e f t : List ℕ) (i id : ℕ) → a ++ b ++ c ++ d ++ e ++ f ≡ t → length a ≡ max_records → length b ≡ max_records → i < length b → id < length b → i < length c → id < length c →
    a ++ set b i (get_or b id 0) ++ set c i (get_or c id 0) ++ d ++ e ++ f ≡ set (set t (declarations_from + i) (get_or t (declarations_from + id) 0)) (imports_from + i) (get_or t (imports_from + id) 0)
copied a b c d e f t i id whole la lb hi hid ki kid =
    rw (
      ← whole,
      read_second a b c d e f id la hid,
      read_third a b c d e f id la lb kid,
      stored_second a b c d e f i (get_or b id 0) la hi,
      stored_third a (set b i (get_or b id 0)) c d e f i (get_or c id 0) la (length-set b i (get_or b id 0) ∙ lb) ki,
    )

-- a number of the second part, stored where there is 0
pub stored_there :
    (a b c d e f t : List ℕ) (i v : ℕ) → a ++ b ++ c ++ d ++ e ++ f ≡ t → length a ≡ max_records → i < length b → get_or b i 0 ≡ 0 →
    a ++ set b i v ++ c ++ d ++ e ++ f ≡ set_first t (declarations_from + i) v
unfolding set_first
stored_there a b c d e f t i v whole la h none =
    rw (← whole) (there (get_or (a ++ b ++ c ++ d ++ e ++ f) (declarations_from + i) 0) (read_second a b c d e f i la h ∙ none))
  where
    there :
        (n : ℕ) → n ≡ 0 →
        a ++ set b i v ++ c ++ d ++ e ++ f
        ≡ elim n [ zero ↦ set (a ++ b ++ c ++ d ++ e ++ f) (declarations_from + i) v | suc m ↦ a ++ b ++ c ++ d ++ e ++ f ]
    there zero e0 = sym (stored_second a b c d e f i v la h)
    there (suc n) e0 = absurd (omega arith)

-- nothing is noted where each number is 0
pub silent_all :
    (a b c d e f t : List ℕ) (n : ℕ) → a ++ b ++ c ++ d ++ e ++ f ≡ t → length a ≡ max_records → length b ≡ max_records → length c ≡ max_records → n ≤ max_records →
    ((k : ℕ) → k < length (take n b) → get_or (take n b) k 0 ≡ 0) → ((k : ℕ) → k < length (take n c) → get_or (take n c) k 0 ≡ 0) → Silent t n
unfolding Silent
silent_all a b c d e f t n whole la lb lc few db dc k h =
    rw (← whole) (
      read_second a b c d e f k la (omega arith) ∙ sym (get_or-take n b k 0 h) ∙ db k (rw (length-take-le n b (omega arith)) h),
      read_third a b c d e f k la lb (omega arith) ∙ sym (get_or-take n c k 0 h) ∙ dc k (rw (length-take-le n c (omega arith)) h),
    )
