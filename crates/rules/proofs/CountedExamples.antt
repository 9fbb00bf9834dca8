-- The count of fields at two unions, by computation: with repeated and tombstoned ordinals, and with one ordinal in both variants.
use Prim.Native.Nat.{ℕ}
use mathlib.Core.Path.{◌≡◌, refl}
use mathlib.Core.Bool.{true}
use mathlib.Core.List.{List, ◌++◌}
use Rattle.rules.specs.Sub
use Rattle.rules.specs.Record.{records}
use Rattle.rules.specs.Rule.{OrdinalDuplicate}
use Rattle.rules.specs.Answer.{full_list, is_accepted}
use Rattle.rules.specs.Items.{fields_in, field_lists, items_of, untombstoned, distinct, distinct_untombstoned, sum_of, occurrences, is_in_class}
use Rattle.rules.proofs.Computed.{computed}
use Rattle.rules.proofs.SmallSheets.{abcd, head_of, field, field_tombstone, variant}

-- the first variant has fields 5, 5 and 6 and tombstone 6, the second fields 5 and 5
abbrev repeating : List ℕ
repeating =
    head_of Sub.UnionHead
    ++ variant 2 0 1
    ++ field 3 0 5
    ++ field 5 1 5
    ++ field 7 2 6
    ++ field_tombstone 9 6
    ++ variant 10 1 2
    ++ field 11 0 5
    ++ field 13 1 5

-- two variants with a field 5 each
abbrev shared : List ℕ
shared = head_of Sub.UnionHead ++ variant 2 0 1 ++ field 3 0 5 ++ variant 5 1 2 ++ field 6 0 5

-- the sheet is accepted, and has so many fields, distinct untombstoned ordinals, and violations of the two classes
abbrev Counts : List ℕ → ℕ → ℕ → ℕ → Type 0
Counts sheet fields ordinals violations =
    (is_accepted sheet abcd ≡ true)
    × (fields_in (records sheet abcd) ≡ fields)
    × (distinct_untombstoned (records sheet abcd) ≡ ordinals)
    × (occurrences (is_in_class OrdinalDuplicate) (full_list sheet abcd) ≡ violations)

-- 5 is 2 and 3; and an ordinal met in one variant is not met in the next: 2 is 2 and 0
pub two-unions : Counts repeating 5 2 3 × Counts shared 2 2 0
unfolding computed fields_in field_lists items_of untombstoned distinct sum_of occurrences
two-unions = ((refl, refl, refl, refl), (refl, refl, refl, refl))
