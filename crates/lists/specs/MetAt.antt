-- What is told of an item of a list.
use Rattle.std.specs.Prelude.{ℕ, ◌≡◌}
use Rattle.rules.specs.Record.{value_in, record_bytes}
use Rattle.lists.specs.declared.items.MetItem.{MetItem}
use Rattle.lists.specs.Items.{Items, tombstoned_in, met_before}

-- that is record i, and what was met of its ordinal
pub record MetAt (list : Items) (i : ℕ) (item : MetItem) : Type 0 where
  pub sheet : item.sheet.now ≡ list.sheet
  pub index : item.index ≡ i
  pub tombstoned : item.meeting.tombstoned ≡ tombstoned_in list (value_in (record_bytes list.sheet i))
  pub met : item.meeting.met ≡ met_before list i (value_in (record_bytes list.sheet i))
