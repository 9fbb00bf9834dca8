-- The records of a view, one at a time: the first record and those after it, or none where the view is empty.
use Rattle.std.proofs.Common.{◌≡◌, ℕ, suc, ◌+◌, ◌-◌, ◌<◌, ◌≤◌, List, [], ◌∷◌, arith, add-one}
use Rattle.names.specs.View.{view_at, view_from, view_of}

module _ (sheet : List ℕ) (i e : ℕ) where
  pub view-cons : i < e → view_of sheet i e ≡ view_at sheet i ∷ view_of sheet (i + 1) e
  unfolding view_from
  view-cons h =
      let size : e - i ≡ suc (e - (i + 1)) = omega arith in
      rw (size, add-one)

  pub view-none : e ≤ i → view_of sheet i e ≡ []
  unfolding view_from
  view-none h =
      let size : e - i ≡ 0 = omega arith in
      rw size
