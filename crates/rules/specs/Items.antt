-- The items of a sheet, found by the kinds of its records alone, and what "the same but for the order of items" and "the same but for
-- added items" mean.
use Rattle.std.specs.Prelude.{ℕ, ◌+◌, ◌≡◌, Bool, true, false, not, ◌&&◌, List, [], ◌∷◌, map, length, eqb}
use Rattle.rules.specs.declared.violation.Violation.{Violation}
use Rattle.rules.specs.Words.{select, front, rest, member, Item, items}
use Rattle.rules.specs.Kind
use Rattle.rules.specs.Record.{Rec, is}
use Rattle.rules.specs.Head.{Body, message_body, union_body, newtype_body, body_of}
use Rattle.rules.specs.Grammar.{starts_field_item, starts_item}
use Rattle.rules.specs.Rule.{OrdinalDuplicate, OrdinalReusedAfterRemoved}
use Rattle.rules.specs.Bodies.{field_items, slots, used_ordinals, retired_ordinals}

module _ {A : Type 0} where
  -- "in any other order": the elements of one list are related to those of the other, one to one
  pub data Moved (R : A → A → Type 0) : List A → List A → Type 0 where
    moved-nil : Moved R [] []
    stay : {a b : A} {xs ys : List A} → R a b → Moved R xs ys → Moved R (a ∷ xs) (b ∷ ys)
    swap : {a b : A} {xs : List A} → Moved R (a ∷ b ∷ xs) (b ∷ a ∷ xs)
    and_then : {xs ys zs : List A} → Moved R xs ys → Moved R ys zs → Moved R xs zs

  -- "before, between or after the old ones": each element of one list is related to one of the other, in their order
  pub data Added (R : A → A → Type 0) : List A → List A → Type 0 where
    added-nil : Added R [] []
    keep : {a b : A} {xs ys : List A} → R a b → Added R xs ys → Added R (a ∷ xs) (b ∷ ys)
    new : {b : A} {xs ys : List A} → Added R xs ys → Added R xs (b ∷ ys)

module _ {N P : Type 0} where
  -- "An item is a 11 or 14 with all that belongs to it, or a 12, 13 or 15; a backing is none. A union body's items are its 14s and 15s":
  -- the record begins an item of such a body
  abbrev pub starts_in : Body → Rec N P → Bool
  starts_in message_body r = starts_field_item r
  starts_in body r = starts_item r

  -- the body of the declaration that begins at the first of the records; where there is none, a newtype's, which has no items
  abbrev pub first_body : List (Rec N P) → Body
  first_body [] = newtype_body
  first_body (h ∷ rs) = body_of h.sub

  -- the body of a sheet
  abbrev pub sheet_body : List (Rec N P) → Body
  sheet_body rs = first_body (rest (λ r. not (is Kind.Head r)) rs)

  -- what stands before the items: the context, the head and a backing
  unfoldable pub lead_of : List (Rec N P) → List (Rec N P)
  lead_of rs = front (λ r. not (starts_in (sheet_body rs) r)) rs

  -- the items of the body
  unfoldable pub items_of : List (Rec N P) → List (Item (Rec N P))
  items_of rs = items (starts_in (sheet_body rs)) rs

  -- "a variant's 11, 12, 13 are the items of that variant's fields": what stands before them in an item
  abbrev pub field_lead : Item (Rec N P) → List (Rec N P)
  field_lead it = front (λ r. not (starts_field_item r)) it.rest

  -- An item moved whole, but for the order of the items of its own fields; only a union's variants have such. A record that is equal
  -- is kept, and its name with it: "A kept name has the same bytes".
  pub record FieldsMoved (a b : Item (Rec N P)) : Type 0 where
    pub head : a.head ≡ b.head
    pub lead : field_lead a ≡ field_lead b
    pub fields : Moved ◌≡◌ (field_items a.rest) (field_items b.rest)

  -- an item left whole, but for items added to its own fields
  pub record FieldsAdded (a b : Item (Rec N P)) : Type 0 where
    pub head : a.head ≡ b.head
    pub lead : field_lead a ≡ field_lead b
    pub fields : Added ◌≡◌ (field_items a.rest) (field_items b.rest)

  -- the items of the body, or of its variants' fields, in any other order, "all other records and every name kept and each item moved whole"
  pub record SameButOrder (rs rs' : List (Rec N P)) : Type 0 where
    pub lead : lead_of rs ≡ lead_of rs'
    pub moved : Moved FieldsMoved (items_of rs) (items_of rs')

  -- any items added, "all other records and their names kept and every old item left whole in its list"
  pub record SameButAdded (rs rs' : List (Rec N P)) : Type 0 where
    pub lead : lead_of rs ≡ lead_of rs'
    pub added : Added FieldsAdded (items_of rs) (items_of rs')

  -- "A field list is a message body or one variant's fields": those of a body with such items
  abbrev pub field_lists_in : Body → List (Item (Rec N P)) → List (List (Item (Rec N P)))
  field_lists_in message_body its = its ∷ []
  field_lists_in union_body its = map (λ it. field_items it.rest) (select (λ it. is Kind.Variant it.head) its)
  field_lists_in body its = []

  -- the field lists of a sheet
  unfoldable pub field_lists : List (Rec N P) → List (List (Item (Rec N P)))
  field_lists rs = field_lists_in (sheet_body rs) (items_of rs)

  -- "its untombstoned ordinals are those of its fields that none of its 12s has"
  unfoldable pub untombstoned : List (Item (Rec N P)) → List ℕ
  untombstoned its = select (λ o. not (member o (retired_ordinals (slots its)))) (used_ordinals (slots its))

  -- the fields of a sheet
  unfoldable pub fields_in : List (Rec N P) → ℕ
  fields_in rs = length (select (is Kind.Field) rs)

-- how many numbers of a list are distinct: each is counted where it stands last
unfoldable pub distinct : List ℕ → ℕ
distinct [] = 0
distinct (n ∷ ns) = (elim (member n ns) [ true ↦ 0 | false ↦ 1 ]) + distinct ns

unfoldable pub sum_of : List ℕ → ℕ
sum_of [] = 0
sum_of (n ∷ ns) = n + sum_of ns

-- the distinct untombstoned ordinals, counted per field list and summed
abbrev pub distinct_untombstoned : {N P : Type 0} → List (Rec N P) → ℕ
distinct_untombstoned rs = sum_of (map (λ its. distinct (untombstoned its)) (field_lists rs))

-- how many elements of a list pass the test
unfoldable pub occurrences : {A : Type 0} → (A → Bool) → List A → ℕ
occurrences p xs = length (select p xs)

-- a violation of that class and severity
abbrev pub is_like : ℕ → ℕ → Violation → Bool
is_like class severity v = eqb v.class class && eqb v.severity severity

-- a violation of that class, where OrdinalDuplicate and OrdinalReusedAfterRemoved are counted together, as OrdinalDuplicate
abbrev pub is_in_class : ℕ → Violation → Bool
is_in_class class v = eqb (elim (eqb v.class OrdinalReusedAfterRemoved) [ true ↦ OrdinalDuplicate | false ↦ v.class ]) class
