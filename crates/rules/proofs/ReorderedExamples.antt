-- Sheets that are the same but for the order of their items, computed: one for each body with items, one whose names text is laid out
-- anew, and one whose variant's fields are moved; and the limit, two sheets that differ in where half an item stands, which are not.
use Prim.Native.Nat.{ℕ}
use mathlib.Core.Path.{◌≡◌, refl, ap₂}
use mathlib.Core.Bool.{true, false, true≢false}
use mathlib.Core.List.{List, [], ◌∷◌, ◌++◌, flatten}
use lib.ListN.{length}
use lib.Dec.{eqb}
use Rattle.rules.specs.declared.span.Span.{Span}
use Rattle.rules.specs.Words.{Item}
use Rattle.rules.specs.Kind
use Rattle.rules.specs.Sub
use Rattle.rules.specs.Bodies.{field_items}
use Rattle.rules.specs.Record.{Rec, records}
use Rattle.rules.specs.Answer.{is_accepted}
use Rattle.rules.specs.Items.{moved-nil, stay, swap, and_then, FieldsMoved, field_lead, SameButOrder, lead_of, items_of}
use Rattle.rules.specs.Table.{rec}
use Rattle.rules.proofs.Computed.{computed}
use Rattle.rules.proofs.Lists.{all_of}
use Rattle.rules.proofs.Reordered.{moved-all_of}
use Rattle.rules.proofs.SmallSheets.{abcd, ba, head_of, u8, field, field_tombstone, variant, tombstone, backing}

-- the two sheets are accepted, each with its names text, and are the same but for the order of items
pub record Reordering (sheet sheet' : List (List ℕ)) (names names' : List ℕ) : Type 0 where
  pub same : SameButOrder (records (flatten sheet) names) (records (flatten sheet') names')
  pub accepted : is_accepted (flatten sheet) names ≡ true
  pub again : is_accepted (flatten sheet') names' ≡ true

-- an item that stays as it is
whole : (it : Item (Rec (List ℕ) Span)) → field_items it.rest ≡ [] → FieldsMoved it it
whole it e = record { head = refl; lead = refl; fields = rw e moved-nil }

-- Half an item: the annotation of one field goes to the other. Both sheets are accepted, and are not the same but for the order of items:
-- in the first, each field's ordinal is the number of its records, in the second not.
abbrev annotation : List ℕ
annotation = rec 3 Kind.Annotation 0 1 0 0

abbrev kept : List (List ℕ)
kept = head_of Sub.MessageHead ∷ rec 2 Kind.Field 0 1 0 2 ∷ annotation ∷ u8 4 ∷ rec 5 Kind.Field 0 1 1 1 ∷ u8 6 ∷ []

abbrev torn : List (List ℕ)
torn = head_of Sub.MessageHead ∷ rec 2 Kind.Field 0 1 0 2 ∷ u8 4 ∷ rec 5 Kind.Field 0 1 1 1 ∷ annotation ∷ u8 6 ∷ []

pub record HalfMoved : Type 0 where
  pub accepted : is_accepted (flatten kept) abcd ≡ true
  pub again : is_accepted (flatten torn) abcd ≡ true
  pub other : SameButOrder (records (flatten kept) abcd) (records (flatten torn) abcd) → ⊥

-- A byte more leaves the records as they are, and the sheet is refused by row 1: the lengths have to be the same.
pub record Longer : Type 0 where
  pub same : SameButOrder (records (flatten kept) abcd) (records (flatten kept ++ (0 ∷ [])) abcd)
  pub refused : is_accepted (flatten kept ++ (0 ∷ [])) abcd ≡ false

pub record Examples : Type 0 where
  -- a field, with its type, and a tombstone change places
  pub message : Reordering
      (head_of Sub.MessageHead ∷ field 2 0 1 ∷ field_tombstone 4 5 ∷ [])
      (head_of Sub.MessageHead ∷ field_tombstone 4 5 ∷ field 2 0 1 ∷ [])
      abcd
      abcd
  -- a variant and a tombstone, behind a backing
  pub enum : Reordering
      (head_of Sub.EnumHead ∷ backing 2 ∷ variant 3 0 1 ∷ tombstone 4 5 ∷ [])
      (head_of Sub.EnumHead ∷ backing 2 ∷ tombstone 4 5 ∷ variant 3 0 1 ∷ [])
      abcd
      abcd
  -- the third bit comes first
  pub flags : Reordering
      (head_of Sub.FlagsHead ∷ variant 2 0 1 ∷ variant 3 1 2 ∷ variant 4 1 3 ∷ [])
      (head_of Sub.FlagsHead ∷ variant 4 1 3 ∷ variant 2 0 1 ∷ variant 3 1 2 ∷ [])
      abcd
      abcd
  -- a variant with its field, and a tombstone
  pub union : Reordering
      (head_of Sub.UnionHead ∷ variant 2 0 1 ∷ field 3 1 1 ∷ tombstone 5 5 ∷ [])
      (head_of Sub.UnionHead ∷ tombstone 5 5 ∷ variant 2 0 1 ∷ field 3 1 1 ∷ [])
      abcd
      abcd
  -- the fields of one variant, the other left as it is
  pub fields : Reordering
      (head_of Sub.UnionHead ∷ variant 2 0 1 ∷ field 3 0 1 ∷ field 5 1 2 ∷ variant 7 1 2 ∷ [])
      (head_of Sub.UnionHead ∷ variant 2 0 1 ∷ field 5 1 2 ∷ field 3 0 1 ∷ variant 7 1 2 ∷ [])
      abcd
      abcd
  -- two fields, whose names stand elsewhere in another names text
  pub names : Reordering
      (head_of Sub.MessageHead ∷ field 2 0 1 ∷ field 4 1 2 ∷ [])
      (head_of Sub.MessageHead ∷ field 4 2 2 ∷ field 2 3 1 ∷ [])
      abcd
      ba
  pub half : HalfMoved
  pub longer : Longer

pub examples : Examples
unfolding computed lead_of items_of all_of
examples =
    record {
      message = record { same = record { lead = refl; moved = swap }; accepted = refl; again = refl };
      enum = record { same = record { lead = refl; moved = swap }; accepted = refl; again = refl };
      flags = record { same = record { lead = refl; moved = and_then (stay (whole _ refl) swap) swap }; accepted = refl; again = refl };
      union = record { same = record { lead = refl; moved = swap }; accepted = refl; again = refl };
      fields = record {
        same = record { lead = refl; moved = stay (record { head = refl; lead = refl; fields = swap }) (stay (whole _ refl) moved-nil) };
        accepted = refl;
        again = refl;
      };
      names = record { same = record { lead = refl; moved = swap }; accepted = refl; again = refl };
      half = record {
        accepted = refl;
        again = refl;
        other = λ s.
            true≢false
            (moved-all_of (λ it. eqb (length (field_lead it)) it.head.value)
            (λ a b m. ap₂ (λ lead h. eqb (length lead) h.value) m.lead m.head)
            s.moved);
      };
      longer = record { same = record { lead = refl; moved = stay (whole _ refl) (stay (whole _ refl) moved-nil) }; refused = refl };
    }
