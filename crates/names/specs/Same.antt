-- Two names compared byte by byte.
use Rattle.std.specs.Prelude.{ℕ, Bool, List, eqb, get_or}

-- the bytes at that index are the same
unfoldable pub same_at : List ℕ → List ℕ → ℕ → Bool
same_at a b i = eqb (get_or a i 0) (get_or b i 0)
