-- The records that the table is about, one by one: record j of them is what its bytes decode to, since they are the first of all records.
use Prim.Native.Nat.{ℕ, ◌+◌, ◌/◌, ◌≤◌, ◌<◌, min}
use mathlib.Core.Path.{◌≡◌, ◌∙◌}
use mathlib.Core.List.{List, [], ◌∷◌}
use native.Mathlib.Nat.{min-le_left, min-le_right}
use native.Mathlib.Numerals.{add-one}
use native.Mathlib.Omega.{arith}
use lib.ListN.{length, get_or, drop, length-take, drop_of_length-le}
use lib.Seq.{drop-cons, get_or-take}
use Rattle.rules.specs.declared.span.Span.{Span}
use Rattle.rules.specs.Record.{Rec, records}
use Rattle.rules.specs.Refusals.{max_records}
use Rattle.rules.proofs.Records.{length-records, records-at}
use Rattle.names.specs.Parts.{known, known_count, record_of}

pub known-few : (sheet : List ℕ) → known_count sheet ≤ max_records
unfolding known_count
known-few sheet = min-le_left max_records (length sheet / 32)

pub known_bounds : (sheet : List ℕ) → (known_count sheet ≤ max_records) × (known_count sheet ≤ length sheet / 32)
unfolding known_count
known_bounds sheet = (min-le_left max_records (length sheet / 32), min-le_right max_records (length sheet / 32))

module _ (sheet names : List ℕ) where
  pub length-known : length (known sheet names) ≡ known_count sheet
  unfolding known known_count
  length-known = rw (length-take, length-records)

  pub known_at : (j : ℕ) (d : Rec (List ℕ) Span) → j < known_count sheet → get_or (known sheet names) j d ≡ record_of sheet names j
  unfolding known known_count record_of
  known_at j d h =
      let few : min max_records (length sheet / 32) ≤ max_records = known-few sheet in
      let whole : min max_records (length sheet / 32) ≤ length sheet / 32 = min-le_right max_records (length sheet / 32) in
      get_or-take max_records (records sheet names) j d (omega arith) ∙ records-at sheet names j d (omega arith)

  pub known-drop : (j : ℕ) → j < known_count sheet → drop j (known sheet names) ≡ record_of sheet names j ∷ drop (j + 1) (known sheet names)
  known-drop j h =
      let d : Rec (List ℕ) Span = record_of sheet names 0 in
      rw (drop-cons (known sheet names) j d (rw length-known h), known_at j d h, add-one)

  pub known-end : (j : ℕ) → known_count sheet ≤ j → drop j (known sheet names) ≡ []
  known-end j h = drop_of_length-le (known sheet names) {i = j} (rw length-known h)
