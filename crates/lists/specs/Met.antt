-- The names that the records of a list have.
use Rattle.std.specs.Prelude.{ℕ, ◌-◌, ◌^◌, ◌<◌, ◌≡◌, Bool, List}
use Rattle.rules.specs.Record.{is}
use Rattle.names.specs.View.{view_at, entry_of, id_part}
use Rattle.lists.specs.Slots.{has_key}

-- record i is of the kind
abbrev pub of_kind : ℕ → List ℕ → ℕ → Bool
of_kind kind sheet i = is kind (view_at sheet i)

-- the records that a name is looked for among: those of a kind from record `start` on, whose names the table tells apart
pub record Row : Type 0 where
  pub sheet : List ℕ
  pub table : List ℕ
  pub kind : ℕ
  pub start : ℕ

-- one of them before record i has the name of record i
abbrev pub is_met : Row → ℕ → Bool
is_met row i =
    has_key (of_kind row.kind row.sheet) (entry_of id_part row.table) row.start (entry_of id_part row.table i) (i - row.start)

-- a test tells of each record whether its name is met among the records of a row, which the test's calls leave as they are
abbrev pub Tells : {F : Type 0} → (F → ℕ → Bool → F → Type 0) → (F → Row) → Type 0
Tells {F} step row = (f : F) (i : ℕ) (met : Bool) (g : F) → i < 2 ^ 64 → step f i met g → (met ≡ is_met (row f) i) × (row g ≡ row f)
