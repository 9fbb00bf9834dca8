-- The records of a kind, by their names.
use Rattle.std.specs.Prelude.{ℕ, ◌-◌, Bool, ◌&&◌, List, eqb}
use Rattle.names.specs.Known.{numbers_of}
use Rattle.names.specs.View.{entry_of, id_part}
use Rattle.lists.specs.declared.named.NamedRecords.{NamedRecords}
use Rattle.lists.specs.Met.{Row, of_kind}
use Rattle.lists.specs.Slots.{has_key, Slotted}

module _ (records : NamedRecords) where
  -- record j is of the kind and has that name
  unfoldable pub names_at : ℕ → ℕ → Bool
  names_at id j = of_kind records.kind records.context.sheet.now j && eqb id (entry_of id_part (numbers_of records.context) j)

  -- one of them before record i has that name
  abbrev pub has_name : ℕ → ℕ → Bool
  has_name id i =
      has_key (of_kind records.kind records.context.sheet.now) (entry_of id_part (numbers_of records.context)) records.start id (i - records.start)

  -- the names of those before record i are in the slots
  abbrev pub HasNames : List ℕ → ℕ → Type 0
  HasNames slots i = Slotted (of_kind records.kind records.context.sheet.now) (entry_of id_part (numbers_of records.context)) records.start slots i

  -- what they are looked up by
  abbrev pub row_of : Row
  row_of = record { sheet = records.context.sheet.now; table = numbers_of records.context; kind = records.kind; start = records.start }
