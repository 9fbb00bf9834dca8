-- Records by their keys, in slots: a slot has the place behind the last record whose key falls into it.
use Rattle.std.specs.Prelude.{ℕ, zero, suc, ◌+◌, ◌-◌, ◌%◌, ◌≤◌, ◌<◌, ◌≡◌, Bool, true, false, ◌&&◌, ◌||◌, List, length, get_or, eqb}
use Rattle.rules.specs.Refusals.{max_records}

module _ (on : ℕ → Bool) (key : ℕ → ℕ) (a : ℕ) where
  -- of n records from record a on, one that is on has the key
  unfoldable pub has_key : ℕ → ℕ → Bool
  has_key v zero = false
  has_key v (suc n) = (on (a + n) && eqb v (key (a + n))) || has_key v n

  -- q is the place behind the last record from a up to i that is on and has its key in slot b; it is not behind a where there is none
  abbrev pub Behind : ℕ → ℕ → ℕ → Type 0
  Behind q b i =
      (q ≤ i)
      × ((j : ℕ) → a ≤ j → q ≤ j → j < i → on j ≡ true → key j % max_records ≡ b → ⊥)
      × (a < q → (on (q - 1) ≡ true) × (key (q - 1) % max_records ≡ b))

  -- the records from a up to i that are on are in the slots
  unfoldable pub Slotted : List ℕ → ℕ → Type 0
  Slotted slots i = (length slots ≡ max_records) × ((b : ℕ) → Behind (get_or slots b 0) b i)

-- no slot is behind a, so that the slots have no record from a on
unfoldable pub Ready : List ℕ → ℕ → Type 0
Ready slots a = (length slots ≡ max_records) × ((b : ℕ) → get_or slots b 0 ≤ a)
