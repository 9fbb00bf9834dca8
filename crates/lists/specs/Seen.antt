-- The numbers already met, the latest first, and the marks beside them.
use Rattle.std.specs.Prelude.{ℕ, zero, suc, ◌+◌, ◌-◌, ◌%◌, ◌≤◌, ◌<◌, ◌≡◌, Bool, true, false, List, [], ◌∷◌, length, get_or, leb}
use Rattle.rules.specs.Words.{select}
use Rattle.rules.specs.Record.{is}
use Rattle.rules.specs.Refusals.{max_ordinal}
use Rattle.names.specs.View.{view_of}
use Rattle.lists.specs.Earlier.{values_of, values_before}

-- n numbers of an array from place a on, the last of them first
unfoldable pub latest : List ℕ → ℕ → ℕ → List ℕ
latest numbers a zero = []
latest numbers a (suc n) = get_or numbers (a + n) 0 ∷ latest numbers a n

-- the numbers that row 5 lets through
abbrev pub narrow : List ℕ → List ℕ
narrow = select (λ n. leb n max_ordinal)

-- each of the first n numbers has its mark
unfoldable pub Marked : List ℕ → List Bool → ℕ → Type 0
Marked numbers marks n = (j : ℕ) → j < n → get_or marks (get_or numbers j 0 % 1021) false ≡ true

-- in a list at records a up to e, the numbers kept before record i: the ordinals of all tombstones, and then those of the items of that kind before it, of
-- each those that row 5 lets through
abbrev pub Kept : ℕ → ℕ → List ℕ → ℕ → ℕ → ℕ → List ℕ → ℕ → ℕ → Type 0
Kept kind tombstone sheet a e tombstones numbers len i =
    (a ≤ i)
    × (i < e)
    × (tombstones ≤ len)
    × (len < 1024)
    × (latest numbers 0 tombstones ≡ narrow (values_of tombstone (view_of sheet a e)))
    × (latest numbers tombstones (len - tombstones) ≡ narrow (values_before kind sheet a i))

-- a list at records a up to e whose items are of that kind
module _ (kind tombstone : ℕ) (sheet : List ℕ) (a e tombstones : ℕ) (numbers : List ℕ) (marks : List Bool) where
  -- the numbers kept are the ordinals of all tombstones, and then those of the items before record i, of each those that row 5 lets through; they have
  -- their marks, and there is room for those still to come
  abbrev pub Known : ℕ → ℕ → Type 0
  Known len i =
      (length numbers ≡ 1024)
      × (length marks ≡ 1021)
      × (a ≤ i)
      × (tombstones ≤ len)
      × (len + length (select (is kind) (view_of sheet i e)) ≤ 1024)
      × (latest numbers 0 tombstones ≡ narrow (values_of tombstone (view_of sheet a e)))
      × (latest numbers tombstones (len - tombstones) ≡ narrow (values_before kind sheet a i))
      × Marked numbers marks len
