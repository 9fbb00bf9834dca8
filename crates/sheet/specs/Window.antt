-- A window of a list: some elements in a row, tested by their indices.
use Rattle.std.specs.Prelude.{ℕ, zero, suc, Bool, true, ◌&&◌}

-- the test passes at each of the n indices from i on
unfoldable pub passes : (ℕ → Bool) → ℕ → ℕ → Bool
passes test i zero = true
passes test i (suc n) = test i && passes test (suc i) n
