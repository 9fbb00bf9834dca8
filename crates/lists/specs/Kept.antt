-- What is kept of a list.
use Rattle.std.specs.Prelude.{ℕ, List}
use Rattle.lists.specs.declared.list.ItemList.{ItemList}
use Rattle.lists.specs.declared.numbers.Numbers.{Numbers}
use Rattle.lists.specs.Items.{Items, listed}
use Rattle.lists.specs.Seen.{Known}

-- the sheet of a list, and its first record and its end
abbrev pub sheet_of : ItemList → List ℕ
sheet_of list = list.records.context.sheet.now

abbrev pub start_of : ItemList → ℕ
start_of list = list.records.range.start

abbrev pub end_of : ItemList → ℕ
end_of list = list.records.range.end

-- the list, as it is asked
abbrev pub items_of : ItemList → Items
items_of list = listed (sheet_of list) list.records.range list.item list.tombstone

-- the numbers that are kept before record i
abbrev pub KnownBefore : ItemList → Numbers → ℕ → Type 0
KnownBefore list numbers i =
    Known list.item list.tombstone (sheet_of list) (start_of list) (end_of list) numbers.tombstones numbers.ordinals numbers.marks numbers.len i
