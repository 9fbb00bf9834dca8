-- The printed example prints document 01's two lines, by computation.
use mathlib.Core.Path.{◌≡◌, refl}
use mathlib.Core.List.{[], ◌∷◌, map}
use Rattle.rules.specs.Printed.{printed}
use Rattle.rules.specs.Table.{printed_example}
use Rattle.rules.proofs.Computed.{computed}

-- `16 E 12 1` and `total 1 errors 1`
pub example-printed : map (λ c. printed c.sheet c.names) printed_example ≡ (49 ∷ 54 ∷ 32 ∷ 69 ∷ 32 ∷ 49 ∷ 50 ∷ 32 ∷ 49 ∷ 10 ∷ 116 ∷ 111 ∷ 116 ∷ 97 ∷ 108 ∷ 32 ∷ 49 ∷ 32 ∷ 101 ∷ 114 ∷ 114 ∷ 111 ∷ 114 ∷ 115 ∷ 32 ∷ 49 ∷ 10 ∷ []) ∷ []
unfolding computed
example-printed = refl
