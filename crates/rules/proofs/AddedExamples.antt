-- Small sheets on which the definitions of added and reordered items are computed: that they hold where they are meant to and do not
-- where an item is not left whole, and what the theorems on counts cannot say more sharply.
use Prim.Native.Nat.{ℕ}
use mathlib.Core.Path.{◌≡◌, refl, sym}
use mathlib.Core.Bool.{Bool, true, false, ◌&&◌, true≢false}
use mathlib.Core.List.{List, [], ◌∷◌, ◌++◌}
use lib.Dec.{eqb}
use Rattle.rules.specs.Words.{any_of, Item}
use Rattle.rules.specs.Kind
use Rattle.rules.specs.Sub
use Rattle.rules.specs.Record.{Rec, records}
use Rattle.rules.specs.Bodies.{field_items}
use Rattle.rules.specs.Answer.{is_accepted, full_list}
use Rattle.rules.specs.Items.{Added, added-nil, keep, new, swap, FieldsAdded, SameButAdded, SameButOrder, lead_of, items_of, occurrences, is_like}
use Rattle.rules.specs.Table.{rec, ordinal_at, error}
use Rattle.rules.proofs.Added.{added-any}
use Rattle.rules.proofs.Computed.{computed}
use Rattle.rules.proofs.SmallSheets.{abcd, ba, head_of, field, field_tombstone, variant, tombstone, backing}

abbrev message : List ℕ
message = head_of Sub.MessageHead

abbrev union : List ℕ
union = head_of Sub.UnionHead

-- two fields, and items before, between and after them
abbrev plain : List ℕ
plain = message ++ field 2 0 7 ++ field 4 1 8

abbrev longer : List ℕ
longer = message ++ field_tombstone 6 9 ++ field 2 0 7 ++ field 7 2 7 ++ field 4 1 8 ++ rec 9 Kind.Invariant 0 0 0 0

-- a variant with a field, and with one more, before another variant
abbrev narrow : List ℕ
narrow = union ++ variant 2 0 1 ++ field 3 0 7

abbrev wide : List ℕ
wide = union ++ variant 2 0 1 ++ field 5 1 7 ++ field 3 0 7 ++ variant 7 1 2

-- a variant of an enum behind a backing, and a tombstone before it and a variant after it
abbrev backed : List ℕ
backed = head_of Sub.EnumHead ++ backing 2 ++ variant 3 0 1

abbrev backed_longer : List ℕ
backed_longer = head_of Sub.EnumHead ++ backing 2 ++ tombstone 4 9 ++ variant 3 0 1 ++ variant 5 1 2

-- two bits, and items before, between and after them
abbrev bits : List ℕ
bits = head_of Sub.FlagsHead ++ variant 2 0 1 ++ variant 3 1 2

abbrev more_bits : List ℕ
more_bits = head_of Sub.FlagsHead ++ variant 4 2 3 ++ variant 2 0 1 ++ variant 5 3 4 ++ variant 3 1 2 ++ tombstone 6 9

-- a field; and the same behind another, in a sheet whose names text has its name elsewhere
abbrev named : List ℕ
named = message ++ field 2 0 1

abbrev named_elsewhere : List ℕ
named_elsewhere = message ++ field 4 2 2 ++ field 2 3 1

-- the same variant with one field more, and behind it a variant with fields of its own
abbrev fields_and_variants : List ℕ
fields_and_variants = union ++ variant 2 0 1 ++ field 3 0 7 ++ field 5 1 8 ++ variant 7 1 2 ++ field 8 0 7 ++ field_tombstone 10 9

-- a variant with two fields, and with another variant between them
abbrev joined : List ℕ
joined = union ++ variant 2 0 1 ++ field 3 0 7 ++ field 5 1 8

abbrev parted : List ℕ
parted = union ++ variant 2 0 1 ++ field 3 0 7 ++ variant 7 1 2 ++ field 5 1 8

-- two fields at one ordinal, over the greatest; the same with a tombstone of it; the same in the other order
abbrev twice : List ℕ
twice = message ++ field 2 0 65536 ++ field 4 1 65536

abbrev buried : List ℕ
buried = message ++ field 2 0 65536 ++ field 4 1 65536 ++ field_tombstone 6 65536

abbrev turned : List ℕ
turned = message ++ field 4 1 65536 ++ field 2 0 65536

accepted :
    (is_accepted plain abcd ≡ true)
    × (is_accepted longer abcd ≡ true)
    × (is_accepted narrow abcd ≡ true)
    × (is_accepted wide abcd ≡ true)
    × (is_accepted backed abcd ≡ true)
    × (is_accepted backed_longer abcd ≡ true)
    × (is_accepted bits abcd ≡ true)
    × (is_accepted more_bits abcd ≡ true)
    × (is_accepted named abcd ≡ true)
    × (is_accepted named_elsewhere ba ≡ true)
    × (is_accepted fields_and_variants abcd ≡ true)
    × (is_accepted joined abcd ≡ true)
    × (is_accepted parted abcd ≡ true)
    × (is_accepted twice abcd ≡ true)
    × (is_accepted buried abcd ≡ true)
    × (is_accepted turned abcd ≡ true)
unfolding computed
accepted = (refl, refl, refl, refl, refl, refl, refl, refl, refl, refl, refl, refl, refl, refl, refl, refl)

none-added : {A : Type 0} (xs : List A) → Added ◌≡◌ xs xs
none-added [] = added-nil
none-added (x ∷ xs) = keep refl (none-added xs)

and_more : (b c d : Bool) → (c ≡ true → d ≡ true) → (b && c) ≡ true → (b && d) ≡ true
and_more true c d h e = h e
and_more false c d h e = e

-- an item that is the same
whole : {N P : Type 0} {it : Item (Rec N P)} → FieldsAdded it it
whole {it} = record { head = refl; lead = refl; fields = none-added (field_items it.rest) }

before-between-after : SameButAdded (records plain abcd) (records longer abcd)
unfolding computed lead_of items_of
before-between-after = record { lead = refl; added = new (keep whole (new (keep whole (new added-nil)))) }

in-a-variant : SameButAdded (records narrow abcd) (records wide abcd)
unfolding computed lead_of items_of
in-a-variant =
    record { lead = refl; added = keep (record { head = refl; lead = refl; fields = new (keep refl added-nil) }) (new added-nil) }

behind-a-backing : SameButAdded (records backed abcd) (records backed_longer abcd)
unfolding computed lead_of items_of
behind-a-backing = record { lead = refl; added = new (keep whole (new added-nil)) }

in-flags : SameButAdded (records bits abcd) (records more_bits abcd)
unfolding computed lead_of items_of
in-flags = record { lead = refl; added = new (keep whole (new (keep whole (new added-nil)))) }

-- a kept name has the same bytes, wherever they stand
in-another-names-text : SameButAdded (records named abcd) (records named_elsewhere ba)
unfolding computed lead_of items_of
in-another-names-text = record { lead = refl; added = new (keep whole added-nil) }

-- a field among a variant's, and a variant with its fields, at once
field-and-variant : SameButAdded (records narrow abcd) (records fields_and_variants abcd)
unfolding computed lead_of items_of
field-and-variant =
    record { lead = refl; added = keep (record { head = refl; lead = refl; fields = keep refl (new added-nil) }) (new added-nil) }

-- A variant put among a variant's fields takes those behind it away, so that the old variant is not left whole.
abbrev is_joined : {N P : Type 0} → Item (Rec N P) → Bool
is_joined it = eqb it.head.value 1 && any_of (λ f. eqb f.head.value 8) (field_items it.rest)

stays_joined : {N P : Type 0} (a b : Item (Rec N P)) → FieldsAdded a b → is_joined a ≡ true → is_joined b ≡ true
stays_joined a b m e =
    and_more (eqb b.head.value 1) _ _ (added-any (λ f. eqb f.head.value 8) (λ f g e h. rw e at h) m.fields) (rw m.head at e)

variant-among-fields : SameButAdded (records joined abcd) (records parted abcd) → ⊥
unfolding computed lead_of items_of
variant-among-fields same = true≢false (sym (added-any is_joined stays_joined same.added refl))

with-tombstone : SameButAdded (records twice abcd) (records buried abcd)
unfolding computed lead_of items_of
with-tombstone = record { lead = refl; added = keep whole (keep whole (new added-nil)) }

other-order : SameButOrder (records twice abcd) (records turned abcd)
unfolding computed lead_of items_of
other-order = record { lead = refl; moved = swap }

-- Of OrdinalDuplicate alone there are fewer after a tombstone is added; and in another order the list is in another order, and its
-- violations are found at other items.
limits :
    (full_list twice abcd ≡ error 15 (ordinal_at 2) ∷ error 15 (ordinal_at 4) ∷ error 14 (ordinal_at 4) ∷ [])
    × (full_list buried abcd
    ≡ error 15 (ordinal_at 2) ∷ error 16 (ordinal_at 2) ∷ error 15 (ordinal_at 4) ∷ error 16 (ordinal_at 4) ∷ [])
    × (full_list turned abcd ≡ error 15 (ordinal_at 4) ∷ error 15 (ordinal_at 2) ∷ error 14 (ordinal_at 2) ∷ [])
    × (occurrences (is_like 14 0) (full_list twice abcd) ≡ 1)
    × (occurrences (is_like 14 0) (full_list buried abcd) ≡ 0)
unfolding computed occurrences
limits = (refl, refl, refl, refl, refl)
