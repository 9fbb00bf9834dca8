-- A count over a list that is made element by element, or that stands in bytes, is the count that a walk over the indices finds.
use Prim.Native.Nat.{ℕ, zero, suc, ◌+◌, ◌*◌, ◌/◌, ◌<◌}
use mathlib.Core.Path.{◌≡◌, refl, ap}
use mathlib.Core.Bool.{Bool, true, false, cond, ◌&&◌}
use mathlib.Core.List.{List, [], ◌∷◌, ◌++◌, map}
use native.Mathlib.Omega.{arith}
use lib.ListN.{length, get_or, take, drop, length-append}
use lib.Seq.{drop-drop}
use lib.Dec.{eqb}
use Rattle.std.specs.List.{filter, range_with_len}
use Rattle.rules.specs.Words.{only_if, select}
use Rattle.rules.specs.Record.{record_size, is_of, kind_in, sub_in, record_bytes, pieces, records, decode}
use Rattle.recorded.specs.Replay.{records_of}

-- one element more
pub count_more :
    {A : Type 0} (p : A → Bool) (xs : List A) (i : ℕ) (d : A) → i < length xs →
    length (select p (take (i + 1) xs)) ≡ length (select p (take i xs)) + cond (p (get_or xs i d)) 1 0
unfolding select
count_more p [] i d h = absurd (omega arith)
count_more p (x ∷ xs) zero d h = one (p x)
  where
    one : (b : Bool) → length (only_if b (x ∷ []) ++ []) ≡ 0 + cond b 1 0
    one true = refl
    one false = refl
count_more p (x ∷ xs) (suc i) d h =
    let next : suc i + 1 ≡ suc (i + 1) = omega arith in
    rw next (simp (length-append, count_more p xs i d (omega arith)) (omega arith))

-- the records of a kind and a sub, by their indices
module _ (kind sub : ℕ) (sheet : List ℕ) where
  abbrev pub test : ℕ → Bool
  test i = eqb (kind_in (record_bytes sheet i)) kind && eqb (sub_in (record_bytes sheet i)) sub

  counted_from :
      (n i : ℕ) →
      length (filter test (range_with_len i n)) ≡ length (select (is_of kind sub) (map (decode []) (pieces n (drop (record_size * i) sheet))))
  unfolding select pieces decode
  counted_from zero i = refl
  counted_from (suc n) i =
      let next : record_size * i + record_size ≡ record_size * (i + 1) = omega arith in
      rw (drop-drop record_size (record_size * i) sheet, next) (one (test i) _ _ _ (counted_from n (i + 1)))
    where
      one :
          {A : Type 0} (b : Bool) (x : A) (is : List ℕ) (xs : List A) → length is ≡ length xs →
          length (cond b (i ∷ is) is) ≡ length (only_if b (x ∷ []) ++ xs)
      one true x is xs e = ap suc e
      one false x is xs e = e

  pub counted : length (filter test (range_with_len 0 (length sheet / record_size))) ≡ records_of kind sub sheet
  unfolding records_of records
  counted = counted_from (length sheet / record_size) 0
