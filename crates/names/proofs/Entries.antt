-- An entry of the table is the number at its place, and 0 past the last record.
use Prim.Native.Nat.{ℕ, ◌+◌, ◌*◌, ◌<◌, ◌≤◌}
use mathlib.Core.Path.{◌≡◌}
use mathlib.Core.List.{List}
use lib.ListN.{get_or}
use borrow.Author.Tests.{lt-ltb, le-ltb}
use Rattle.rules.specs.Refusals.{max_records}
use Rattle.names.specs.View.{entry_of}

pub entry_in : (part i : ℕ) (table : List ℕ) → i < max_records → get_or table (part * max_records + i) 0 ≡ entry_of part table i
unfolding entry_of
entry_in part i table h = rw (lt-ltb i max_records h)

pub entry-out : (part i : ℕ) (table : List ℕ) → max_records ≤ i → 0 ≡ entry_of part table i
unfolding entry_of
entry-out part i table h = rw (le-ltb i max_records h)
