-- The first records of a range are a shorter range.
use Rattle.std.proofs.Common.{◌≡◌, ℕ, zero, suc, min, List, ◌∷◌, take, ap}
use native.Mathlib.Numerals.{unary_clauses}
use Rattle.names.specs.View.{view_at, view_from}

pub first_records : (sheet : List ℕ) (n i k : ℕ) → take n (view_from sheet i k) ≡ view_from sheet i (min n k)
unfolding view_from
first_records sheet zero i k = simp unary_clauses
first_records sheet (suc n) i zero = simp unary_clauses
first_records sheet (suc n) i (suc k) = simp unary_clauses (ap (λ rs. view_at sheet i ∷ rs) (first_records sheet n (suc i) k))
