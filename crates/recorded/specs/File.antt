-- The numbers of a file of cases, and how it starts. Assumes nothing.
use Rattle.std.specs.Prelude.{ℕ, ◌+◌, ◌*◌, Bool, false, cond, List, [], ◌∷◌, eqb, get_or}

-- the number in four bytes, the lowest byte first
unfoldable pub number_of : List ℕ → ℕ
number_of b = get_or b 0 0 + 256 * (get_or b 1 0 + 256 * (get_or b 2 0 + 256 * get_or b 3 0))

-- the file starts with the eight bytes `cases 1` and a line end, here as two numbers
unfoldable pub is_magic : ℕ → ℕ → Bool
is_magic first second =
    cond (eqb first (number_of (99 ∷ 97 ∷ 115 ∷ 101 ∷ [])))
    (eqb second (number_of (115 ∷ 32 ∷ 49 ∷ 10 ∷ [])))
    false
