-- The marks of a name's bytes: a mark is 2 if the byte may start a name, and 1 more if it may go on in one. A table has the mark of each
-- byte. What a table says of a name is defined for any numbers in it.
use Rattle.std.specs.Prelude.{ℕ, ◌+◌, ◌%◌, ◌≡◌, Bool, false, not, ◌&&◌, List, [], ◌∷◌, eqb, get_or}
use Rattle.rules.specs.Words.{number_if, any_of}
use Rattle.rules.specs.Context.{starts_name, continues_name}

unfoldable pub name_mark : ℕ → ℕ
name_mark b = number_if (starts_name b) 2 + number_if (continues_name b) 1

-- the range rule of a table: its entry at each byte is the byte's mark, and past the last byte there is none
unfoldable pub HasMarks : List ℕ → Type 0
HasMarks marks = (b : ℕ) → get_or marks b 0 ≡ name_mark b

-- by the table, the byte may start a name
unfoldable pub starts_by : List ℕ → ℕ → Bool
starts_by marks b = eqb (get_or marks b 0) 3

-- by the table, the byte may go on in a name
unfoldable pub continues_by : List ℕ → ℕ → Bool
continues_by marks b = eqb (get_or marks b 0 % 2) 1

-- by the table, the byte at that index may go on in a name
abbrev pub continues_at : List ℕ → List ℕ → ℕ → Bool
continues_at marks bytes i = continues_by marks (get_or bytes i 0)

-- by the table, each of the bytes may go on in a name
unfoldable pub continue_by : List ℕ → List ℕ → Bool
continue_by marks bytes = not (any_of (λ b. not (continues_by marks b)) bytes)

-- by the table, a bit may have the name
unfoldable pub valid_by : List ℕ → List ℕ → Bool
valid_by marks [] = false
valid_by marks (b ∷ bs) = starts_by marks b && continue_by marks bs
