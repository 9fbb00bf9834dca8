-- A number that is kept is the latest of those kept before the next record.
use Prim.Native.Nat.{ℕ, ◌+◌, ◌%◌, ◌≤◌}
use mathlib.Core.Path.{◌≡◌}
use mathlib.Core.Bool.{true}
use lib.ListN.{set}
use Rattle.rules.specs.Record.{value_in, record_bytes}
use Rattle.lists.specs.declared.list.ItemList.{ItemList}
use Rattle.lists.specs.declared.numbers.Numbers.{Numbers}
use Rattle.lists.specs.Items.{IsItem}
use Rattle.lists.specs.Kept.{sheet_of, start_of, end_of, items_of, KnownBefore}
use Rattle.lists.proofs.Passing.{known-kept}

pub kept-known :
    (list : ItemList) (old new : Numbers) (i ordinal number : ℕ) → IsItem (items_of list) i → ordinal ≡ value_in (record_bytes (sheet_of list) i) → KnownBefore list old i →
    ordinal ≤ 4294967295 → number ≡ ordinal → new.ordinals ≡ set old.ordinals old.len number → new.marks ≡ set old.marks (number % 1021) true →
    new.tombstones ≡ old.tombstones → new.len ≡ old.len + 1 → KnownBefore list new (i + 1)
kept-known list old new i ordinal number item read known small hn ordinals marks tombstones len =
    rw (ordinals, marks, tombstones, len)
    (known-kept list.item list.tombstone (sheet_of list) (start_of list) (end_of list) old.tombstones old.ordinals old.marks old.len i ordinal item.0 item.1
    read known number small hn)
