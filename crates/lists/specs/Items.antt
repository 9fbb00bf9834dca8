-- Lists of items: what is asked of the ordinal of one.
use Rattle.std.specs.Prelude.{ℕ, ◌<◌, ◌≡◌, Bool, true, false, List}
use Rattle.rules.specs.declared.range.RecordRange.{RecordRange}
use Rattle.rules.specs.Words.{member}
use Rattle.rules.specs.Kind
use Rattle.rules.specs.Record.{is, kind_in, record_bytes}
use Rattle.names.specs.View.{view_at, view_of}
use Rattle.lists.specs.Earlier.{values_of, values_before}

-- a list of items: those of a kind among the records of a sheet from `start` up to `end`, and its tombstones, which are of another
pub record Items : Type 0 where
  pub sheet : List ℕ
  pub start : ℕ
  pub end : ℕ
  pub item : ℕ
  pub tombstone : ℕ

-- that of the records of a range
abbrev pub listed : List ℕ → RecordRange → ℕ → ℕ → Items
listed sheet range item tombstone = record { sheet = sheet; start = range.start; end = range.end; item = item; tombstone = tombstone }

-- record i is an item of the list, and has an ordinal
abbrev pub IsItem : Items → ℕ → Type 0
IsItem list i =
    (i < list.end)
    × (is list.item (view_at list.sheet i) ≡ true)
    × (Kind.has_ordinal (kind_in (record_bytes list.sheet i)) ≡ true)

-- it is none
abbrev pub IsOther : Items → ℕ → Type 0
IsOther list i = i < list.end → is list.item (view_at list.sheet i) ≡ false

-- a tombstone of the list has the ordinal
abbrev pub tombstoned_in : Items → ℕ → Bool
tombstoned_in list ordinal = member ordinal (values_of list.tombstone (view_of list.sheet list.start list.end))

-- an item of the list before record i has it
abbrev pub met_before : Items → ℕ → ℕ → Bool
met_before list i ordinal = member ordinal (values_before list.item list.sheet list.start i)
