-- What a store changes: one number of one part of the table.
use Prim.Native.Nat.{ℕ, zero, suc, ◌+◌, ◌≤◌, ◌<◌}
use native.Mathlib.Decide.{ℕ_discrete}
use native.Mathlib.Numerals.{add-one}
use native.Mathlib.Omega.{arith}
use mathlib.Core.Path.{◌≡◌, refl, ◌∙◌, sym, ap}
use mathlib.Core.List.{List, [], ◌∷◌, ◌++◌}
use lib.ListN.{length, get_or, take, drop, set, length-take, length-drop, get_or-eq_default}
use lib.Seq.{get_or-take, get_or-drop, get_or-set_same, get_or-set_other, take-add, take-nil, ext_get_or}
use Rattle.rules.specs.Refusals.{max_records}
use Rattle.names.specs.Notes.{Part}

module _ {p : ℕ} {f g : ℕ → ℕ} {t : List ℕ} (before : Part p f t) where
  -- a part whose numbers are called otherwise
  pub part_same : ((k : ℕ) → k < max_records → f k ≡ g k) → Part p g t
  part_same e = record { at = λ k h. before.at k h ∙ e k h }

  -- a store into the part
  pub part-set :
      (j v : ℕ) → p + j < length t → ((k : ℕ) → k < max_records → (j ≡ k → ⊥) → f k ≡ g k) → v ≡ g j → Part p g (set t (p + j) v)
  part-set j v room e here = record { at = λ k h. at k h (ℕ_discrete j k) }
    where
      at : (k : ℕ) → k < max_records → Dec (j ≡ k) → get_or (set t (p + j) v) (p + k) 0 ≡ g k
      at k h (yes same) =
          ap (λ (n : ℕ). get_or (set t (p + j) v) (p + n) 0) (sym same) ∙ get_or-set_same t (p + j) v 0 room ∙ here ∙ ap g same
      at k h (no differ) =
          get_or-set_other t (p + j) (p + k) v 0 (λ same. differ (omega arith)) ∙ before.at k h ∙ e k h differ

-- a store elsewhere
module _ {p : ℕ} {f : ℕ → ℕ} {t : List ℕ} (before : Part p f t) where
  pub part-behind : (q v : ℕ) → p + max_records ≤ q → Part p f (set t q v)
  part-behind q v h = record { at = λ k l. get_or-set_other t q (p + k) v 0 (λ same. omega arith) ∙ before.at k l }

  pub part-ahead : (q v : ℕ) → q < p → Part p f (set t q v)
  part-ahead q v h = record { at = λ k l. get_or-set_other t q (p + k) v 0 (λ same. omega arith) ∙ before.at k l }

-- the first i numbers of a list, and 0 past them, and one number more
pub taken_here : (l : List ℕ) (i : ℕ) → get_or (take (i + 1) l) i 0 ≡ get_or l i 0
taken_here l i = get_or-take (i + 1) l i 0 (omega arith)

pub taken_next : (l : List ℕ) (i k : ℕ) → (i ≡ k → ⊥) → get_or (take i l) k 0 ≡ get_or (take (i + 1) l) k 0
taken_next l i k n = rw (add-one i) (go l i k n)
  where
    go : (l : List ℕ) (i k : ℕ) → (i ≡ k → ⊥) → get_or (take i l) k 0 ≡ get_or (take (suc i) l) k 0
    go [] i k n = rw (take-nil i)
    go (x ∷ l) zero zero n = absurd (n refl)
    go (x ∷ l) zero (suc k) n = refl
    go (x ∷ l) (suc i) zero n = refl
    go (x ∷ l) (suc i) (suc k) n = go l i k (λ e. n (ap suc e))

-- a number that is 0 need not be stored
pub taken-zero : (l : List ℕ) (i k : ℕ) → get_or l i 0 ≡ 0 → get_or (take i l) k 0 ≡ get_or (take (i + 1) l) k 0
taken-zero l i k e = go (ℕ_discrete i k)
  where
    go : Dec (i ≡ k) → get_or (take i l) k 0 ≡ get_or (take (i + 1) l) k 0
    go (no n) = taken_next l i k n
    go (yes same) =
        let short : length (take i l) ≤ k = rw length-take (omega arith) in
        get_or-eq_default (take i l) 0 short ∙ sym (rw (← same) (taken_here l i ∙ e))

-- all numbers that are not 0 are taken
pub taken-all : (l : List ℕ) (i k : ℕ) → ((j : ℕ) → i ≤ j → get_or l j 0 ≡ 0) → get_or (take i l) k 0 ≡ get_or l k 0
taken-all [] zero k e = refl
taken-all [] (suc i) k e = refl
taken-all (x ∷ l) zero k e = sym (e k (omega arith))
taken-all (x ∷ l) (suc i) zero e = refl
taken-all (x ∷ l) (suc i) (suc k) e = taken-all l i k (λ j h. e (suc j) (omega arith))

-- a part whose numbers are those of a list is the list
pub part-whole :
    (p : ℕ) (part t : List ℕ) → length part ≡ max_records → p + max_records ≤ length t → Part p (λ k. get_or part k 0) t → take (p + max_records) t ≡ take p t ++ part
part-whole p part t l room has = take-add p max_records t ∙ ap (take p t ++◌) (ext_get_or 0 (take max_records (drop p t)) part same entries)
  where
    size : length (take max_records (drop p t)) ≡ max_records
    size = rw (length-take, length-drop) (omega arith)

    same : length (take max_records (drop p t)) ≡ length part
    same = size ∙ sym l

    entries : (i : ℕ) → i < length (take max_records (drop p t)) → get_or (take max_records (drop p t)) i 0 ≡ get_or part i 0
    entries i h =
        let inside : i < max_records = rw size at h in
        get_or-take max_records (drop p t) i 0 inside ∙ get_or-drop p t i 0 ∙ has.at i inside
