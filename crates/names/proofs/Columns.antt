-- A part of the table has 1024 numbers: number i is worked out from element i, and is 0 where there is none.
use Prim.Native.Nat.{ℕ, zero, suc, ◌+◌, ◌≤◌, ◌<◌}
use mathlib.Core.Path.{◌≡◌, refl, ◌∙◌, ap}
use mathlib.Core.List.{List, [], ◌∷◌, ◌++◌}
use native.Mathlib.Nat.{add-zero, zero-add}
use native.Mathlib.Omega.{arith}
use lib.ListN.{length, get_or, take, replicate, length-take, length-append, length-replicate, get_or-append}
use lib.Seq.{get_or-take}
use Rattle.rules.specs.Words.{number_if}
use Rattle.rules.specs.Refusals.{max_records}
use Rattle.names.specs.NameTable.{numbered, column, is_named, id_in, declaration_in, import_in, target_in, code_of}
use Rattle.names.specs.Parts.{known, ids, declarations, imported, targets, codes}

module _ {A : Type 0} (f : ℕ → A → ℕ) where
  length-numbered : (i : ℕ) (xs : List A) → length (numbered f i xs) ≡ length xs
  unfolding numbered
  length-numbered i [] = refl
  length-numbered i (x ∷ xs) = ap suc (length-numbered (suc i) xs)

  numbered-at : (i k : ℕ) (xs : List A) (d : A) → k < length xs → get_or (numbered f i xs) k 0 ≡ f (i + k) (get_or xs k d)
  unfolding numbered
  numbered-at i k [] d h = absurd (omega arith)
  numbered-at i zero (x ∷ xs) d h = rw add-zero
  numbered-at i (suc k) (x ∷ xs) d h =
      let next : suc i + k ≡ i + suc k = omega arith in
      numbered-at (suc i) k xs d (omega arith) ∙ rw next

pub zeros-at : (m k : ℕ) → ◌≡◌ {A = ℕ} (get_or (replicate m 0) k 0) 0
zeros-at zero k = refl
zeros-at (suc m) zero = refl
zeros-at (suc m) (suc k) = zeros-at m k

zeros-behind : (l : List ℕ) (m k : ℕ) → length l ≤ k → get_or (l ++ replicate m 0) k 0 ≡ 0
zeros-behind [] m k h = zeros-at m k
zeros-behind (x ∷ l) m zero h = absurd (omega arith)
zeros-behind (x ∷ l) m (suc k) h = zeros-behind l m k (omega arith)

zero-in-front : (n : ℕ) (l : List ℕ) (k : ℕ) → get_or l k 0 ≡ 0 → get_or (take n l) k 0 ≡ 0
zero-in-front zero l k h = refl
zero-in-front (suc n) [] k h = refl
zero-in-front (suc n) (x ∷ l) zero h = h
zero-in-front (suc n) (x ∷ l) (suc k) h = zero-in-front n l k h

-- a list with zeros behind it, cut at n
padded : ℕ → List ℕ → List ℕ
padded n l = take n (l ++ replicate n 0)

length-padded : (n : ℕ) (l : List ℕ) → length (padded n l) ≡ n
unfolding padded
length-padded n l = rw (length-take, length-append, length-replicate) (omega arith)

padded-at : (n : ℕ) (l : List ℕ) (k : ℕ) → k < n → k < length l → get_or (padded n l) k 0 ≡ get_or l k 0
unfolding padded
padded-at n l k h g = get_or-take n (l ++ replicate n 0) k 0 h ∙ get_or-append l (replicate n 0) 0 k g

padded-behind : (n : ℕ) (l : List ℕ) (k : ℕ) → length l ≤ k → get_or (padded n l) k 0 ≡ 0
unfolding padded
padded-behind n l k h = zero-in-front n (l ++ replicate n 0) k (zeros-behind l n k h)

module _ {A : Type 0} (f : ℕ → A → ℕ) (xs : List A) where
  pub length-column : length (column f xs) ≡ max_records
  unfolding column padded
  length-column = length-padded max_records (numbered f 0 xs)

  pub column-at : (k : ℕ) (d : A) → k < max_records → k < length xs → get_or (column f xs) k 0 ≡ f k (get_or xs k d)
  unfolding column padded
  column-at k d h g =
      padded-at max_records (numbered f 0 xs) k h (rw length-numbered g)
      ∙ numbered-at f 0 k xs d g ∙ rw zero-add

  pub column-past : (k : ℕ) → length xs ≤ k → get_or (column f xs) k 0 ≡ 0
  unfolding column padded
  column-past k h = padded-behind max_records (numbered f 0 xs) k (rw length-numbered h)

-- so has each part of a sheet's table
module _ (sheet names : List ℕ) where
  pub length_ids : length (ids sheet names) ≡ max_records
  unfolding ids
  length_ids = length-column (id_in (known sheet names)) (known sheet names)

  pub length-declarations : length (declarations sheet names) ≡ max_records
  unfolding declarations
  length-declarations = length-column (λ i r. declaration_in (known sheet names) r) (known sheet names)

  pub length-imported : length (imported sheet names) ≡ max_records
  unfolding imported
  length-imported = length-column (λ i r. import_in (known sheet names) r) (known sheet names)

  pub length-targets : length (targets sheet names) ≡ max_records
  unfolding targets
  length-targets = length-column (λ i r. target_in (known sheet names) r) (known sheet names)

  pub length-codes : length (codes sheet names) ≡ max_records
  unfolding codes
  length-codes = length-column (λ i r. number_if (is_named r) (code_of r.kind r.name)) (known sheet names)
