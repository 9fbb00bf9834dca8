-- Sheets on which six mistakes in the rules would make demand 3 false, computed: each of the mistakes changes one of these numbers.
use Prim.Native.Nat.{ℕ}
use mathlib.Core.Path.{◌≡◌, refl}
use mathlib.Core.List.{List, ◌++◌}
use Rattle.rules.specs.Sub
use Rattle.rules.specs.Record.{records}
use Rattle.rules.specs.Rule.{OrdinalDuplicate, OrdinalReusedAfterRemoved, FieldNameDuplicate, EnumBackingTooNarrow}
use Rattle.rules.specs.Answer.{full_list}
use Rattle.rules.specs.Items.{fields_in, field_lists, items_of, untombstoned, distinct, distinct_untombstoned, sum_of, occurrences, is_like, is_in_class}
use Rattle.rules.proofs.Computed.{computed}
use Rattle.rules.proofs.SmallSheets.{abcd, head_of, field, field_tombstone, variant, backing}

-- two sheets that are the same but for the order of their items, with so many errors of a class each
abbrev Alike : List ℕ → List ℕ → ℕ → ℕ → Type 0
Alike sheet sheet' class n =
    (occurrences (is_like class 0) (full_list sheet abcd) ≡ n) × (occurrences (is_like class 0) (full_list sheet' abcd) ≡ n)

-- a sheet with so many fields, distinct untombstoned ordinals, and violations of the two classes
abbrev Counts : List ℕ → ℕ → ℕ → ℕ → Type 0
Counts sheet fields ordinals violations =
    (fields_in (records sheet abcd) ≡ fields)
    × (distinct_untombstoned (records sheet abcd) ≡ ordinals)
    × (occurrences (is_in_class OrdinalDuplicate) (full_list sheet abcd) ≡ violations)

abbrev message : List ℕ
message = head_of Sub.MessageHead

-- tombstones gathered only up to the field: no 16 where the tombstone comes last
pub late-tombstone : Alike (message ++ field 2 0 7 ++ field_tombstone 4 7) (message ++ field_tombstone 4 7 ++ field 2 0 7) OrdinalReusedAfterRemoved 1
unfolding computed occurrences
late-tombstone = (refl, refl)

-- a 65536 kept out of the duplicate set: 2 fields, 1 ordinal, and no 14
pub great-ordinals : Counts (message ++ field 2 0 65536 ++ field 4 1 65536) 2 1 1
unfolding computed fields_in field_lists items_of untombstoned distinct sum_of occurrences
great-ordinals = (refl, refl, refl)

-- 14 given beside 16: 2 fields, no ordinal, and three violations
pub buried-twice : Counts (message ++ field 2 0 7 ++ field 4 1 7 ++ field_tombstone 6 7) 2 0 2
unfolding computed fields_in field_lists items_of untombstoned distinct sum_of occurrences
buried-twice = (refl, refl, refl)

-- a name compared with the field just before only: no 13 where another field stands between
pub name-between : Alike (message ++ field 2 0 1 ++ field 4 1 2 ++ field 6 0 3) (message ++ field 2 0 1 ++ field 6 0 3 ++ field 4 1 2) FieldNameDuplicate 1
unfolding computed occurrences
name-between = (refl, refl)

-- rule 33 by the last variant: no 36 where a smaller ordinal comes last
pub great-first : Alike
    (head_of Sub.EnumHead ++ backing 2 ++ variant 3 0 256 ++ variant 4 1 1)
    (head_of Sub.EnumHead ++ backing 2 ++ variant 4 1 1 ++ variant 3 0 256)
    EnumBackingTooNarrow
    1
unfolding computed occurrences
great-first = (refl, refl)

-- seen numbers not cleared between variants: 2 fields, 2 ordinals, and a 14
pub next_variant : Counts (head_of Sub.UnionHead ++ variant 2 0 1 ++ field 3 0 5 ++ variant 5 1 2 ++ field 6 0 5) 2 2 0
unfolding computed fields_in field_lists items_of untombstoned distinct sum_of occurrences
next_variant = (refl, refl, refl)
