-- Two buffers of one length are the same just if their bytes agree at each index.
use Prim.Native.Nat.{ℕ, zero, suc, ◌+◌}
use mathlib.Core.Path.{◌≡◌, refl, ap, subst}
use mathlib.Core.Bool.{Bool, ◌&&◌}
use mathlib.Core.List.{List}
use native.Mathlib.Omega.{arith}
use native.Mathlib.Numerals.{add-one}
use lib.ListN.{length, get_or, drop, drop_of_length-le}
use lib.Seq.{drop-cons}
use lib.Dec.{eqb}
use Rattle.std.specs.List.{list_all, range_with_len}
use Rattle.rules.specs.Words.{same_bytes}

same_from :
    (a b : List ℕ) (n i : ℕ) → length a ≡ i + n → length b ≡ i + n →
    list_all (λ k. eqb (get_or a k 0) (get_or b k 0)) (range_with_len i n) ≡ same_bytes (drop i a) (drop i b)
unfolding same_bytes
same_from a b zero i ha hb = rw (drop_of_length-le a {i = i} (omega arith), drop_of_length-le b {i = i} (omega arith)) refl
same_from a b (suc n) i ha hb =
    let same : ℕ → Bool = λ k. eqb (get_or a k 0) (get_or b k 0) in
    let behind : list_all same (range_with_len (i + 1) n) ≡ same_bytes (drop (suc i) a) (drop (suc i) b)
    = subst (λ j. list_all same (range_with_len (i + 1) n) ≡ same_bytes (drop j a) (drop j b)) (add-one i) (same_from a b n (i + 1) (omega arith) (omega arith)) in
    rw (drop-cons a i 0 (omega arith), drop-cons b i 0 (omega arith)) (ap (λ r. same i && r) behind)

pub same_all :
    (a b : List ℕ) → length a ≡ length b →
    list_all (λ k. eqb (get_or a k 0) (get_or b k 0)) (range_with_len 0 (length b)) ≡ same_bytes a b
same_all a b e = same_from a b (length b) 0 (omega arith) (omega arith)
