-- The five bodies: rules 1 to 5 and 31 to 38 (`check_message_body`, `check_message`, `check_enum`, `check_flags`, `check_union`,
-- `check_newtype`), and the full list.
use Rattle.std.specs.Prelude.{ℕ, Bool, true, false, not, ◌&&◌, ◌||◌, ltb}
use mathlib.Core.List.{List, [], ◌∷◌, ◌++◌, flat_map}
use Rattle.rules.specs.Words.{within, only_if, any_of, select, front, rest, member, look_up, Item, items}
use Rattle.rules.specs.Kind
use Rattle.rules.specs.Sub
use Rattle.rules.specs.Record.{Rec, is}
use Rattle.rules.specs.Context.{ValidationContext, declared_as}
use Rattle.rules.specs.Head.{Body, message_body, enum_body, flags_body, union_body, newtype_body, body_of}
use Rattle.rules.specs.Grammar.{starts_field_item, starts_item}
use Rattle.rules.specs.Rule.{Found, found_if}
use Rattle.rules.specs.Types.{type_violations}
use Rattle.rules.specs.Annotations.{annotations_violations}
use Rattle.rules.specs.Conditions.{condition_violations}

-- what an item says of an ordinal: a field, variant or bit has it, or a tombstone does
pub data Slot : Type 0 where
  used retired : ℕ → Slot

abbrev pub used_ordinal : Slot → List ℕ
used_ordinal (used n) = n ∷ []
used_ordinal (retired n) = []

abbrev pub retired_ordinal : Slot → List ℕ
retired_ordinal (used n) = []
retired_ordinal (retired n) = n ∷ []

-- the ordinals in use, and the tombstoned ones
abbrev pub used_ordinals : List Slot → List ℕ
used_ordinals = flat_map used_ordinal

abbrev pub retired_ordinals : List Slot → List ℕ
retired_ordinals = flat_map retired_ordinal

-- rules 2, 31 and 35: the greatest ordinal of a field or a variant
abbrev pub max_field_ordinal : ℕ
max_field_ordinal = 65535

-- rule 33: the greatest ordinal that a backing holds, U8 to U64,
abbrev pub max_u8_backing : ℕ
max_u8_backing = 255

abbrev pub max_u16_backing : ℕ
max_u16_backing = 65535

abbrev pub max_u32_backing : ℕ
max_u32_backing = 4294967295

abbrev pub max_u64_backing : ℕ
max_u64_backing = 18446744073709551615

-- and the same by the backing's sub
abbrev pub backing_max : ℕ → ℕ
backing_max sub = look_up sub ((0, max_u8_backing) ∷ (1, max_u16_backing) ∷ (2, max_u32_backing) ∷ (3, max_u64_backing) ∷ [])

-- rule 34: the greatest position of a bit
abbrev pub max_bit : ℕ
max_bit = 63

-- What the ordinals and names of a body break: the greatest ordinal, and the rules for one over it, for one that is tombstoned anywhere
-- in the list, else for one that an earlier item has, and for a name that an earlier item has
pub record Scheme : Type 0 where
  pub greatest : ℕ
  pub over : List ℕ
  pub tombstoned : List ℕ
  pub repeated : List ℕ
  pub renamed : List ℕ

abbrev pub field_scheme : Scheme
field_scheme = record { greatest = max_field_ordinal; over = 2 ∷ []; tombstoned = 3 ∷ []; repeated = 4 ∷ []; renamed = 5 ∷ [] }

abbrev pub enum_scheme : Scheme
enum_scheme = record { greatest = max_field_ordinal; over = 31 ∷ []; tombstoned = 32 ∷ []; repeated = 32 ∷ []; renamed = [] }

abbrev pub flags_scheme : Scheme
flags_scheme = record { greatest = max_bit; over = 34 ∷ []; tombstoned = []; repeated = []; renamed = [] }

abbrev pub union_scheme : Scheme
union_scheme = record { greatest = max_field_ordinal; over = 35 ∷ []; tombstoned = 36 ∷ []; repeated = 36 ∷ []; renamed = [] }

module _ {P : Type 0} where
  -- the rules are broken at the place if the test says so
  abbrev pub found_all : List ℕ → Bool → P → List (Found P)
  found_all rules bad place = flat_map (λ rule. found_if rule bad place) rules

module _ {N P : Type 0} where
  -- a field, a variant or a bit: an item that has an ordinal in use
  abbrev pub is_member : Rec N P → Bool
  is_member r = is Kind.Field r || is Kind.Variant r

  abbrev pub is_tombstone : Rec N P → Bool
  is_tombstone r = is Kind.FieldTombstone r || is Kind.Tombstone r

  -- what the items of a list say of ordinals, in order
  abbrev pub slot_of : Item (Rec N P) → List Slot
  slot_of it = only_if (is_member it.head) (used it.head.value ∷ []) ++ only_if (is_tombstone it.head) (retired it.head.value ∷ [])

  abbrev pub slots : List (Item (Rec N P)) → List Slot
  slots = flat_map slot_of

  -- the items of a field list: a message body's, or those of a variant's fields
  abbrev pub field_items : List (Rec N P) → List (Item (Rec N P))
  field_items = items starts_field_item

  -- the items of an enum, flags or union body
  abbrev pub body_items : List (Rec N P) → List (Item (Rec N P))
  body_items = items starts_item

  -- the parts of a field, by their kinds: its annotations with their arguments, its type with its bit names, its condition
  abbrev pub in_annotations : Rec N P → Bool
  in_annotations r = within Kind.Annotation Kind.Argument r.kind

  abbrev pub in_type : Rec N P → Bool
  in_type r = is Kind.BitName r || Kind.is_type r.kind

  abbrev pub annotation_part : List (Rec N P) → List (Rec N P)
  annotation_part = front in_annotations

  abbrev pub type_part : List (Rec N P) → List (Rec N P)
  type_part rs = front in_type (rest in_annotations rs)

  abbrev pub condition_part : List (Rec N P) → List (Rec N P)
  condition_part rs = rest in_type (rest in_annotations rs)

module _ {N P : Type 0} (ctx : ValidationContext N P) where
  -- The rules of a scheme at a field, variant or bit of a list with those tombstoned ordinals, after items with those ordinals and names
  unfoldable pub member_violations : Scheme → List ℕ → List ℕ → List N → Rec N P → List (Found P)
  member_violations s gone met names r =
      found_all s.over (ltb s.greatest r.value) r.ordinal_place
      ++ found_all s.tombstoned (member r.value gone) r.ordinal_place
      ++ found_all s.repeated (not (member r.value gone) && member r.value met) r.ordinal_place
      ++ found_all s.renamed (any_of (ctx.same r.name) names) r.place

  -- the rules of a scheme along items, each followed by the violations of its own
  unfoldable pub items_violations : Scheme → (Item (Rec N P) → List (Found P)) → List ℕ → List ℕ → List N → List (Item (Rec N P)) → List (Found P)
  items_violations s own gone met names [] = []
  items_violations s own gone met names (it ∷ its) =
      elim (is_member it.head) [
        | true ↦ member_violations s gone met names it.head
            ++ own it
            ++ items_violations s own gone (it.head.value ∷ met) (it.head.name ∷ names) its
        | false ↦ own it ++ items_violations s own gone met names its
      ]

  abbrev pub list_violations : Scheme → (Item (Rec N P) → List (Found P)) → List (Item (Rec N P)) → List (Found P)
  list_violations s own its = items_violations s own (retired_ordinals (slots its)) [] [] its

  -- rules 6 to 30 of a field: "type, annotations, condition"
  unfoldable pub field_violations : List (Rec N P) → List (Found P)
  field_violations rs =
      type_violations ctx (type_part rs)
      ++ annotations_violations ctx (type_part rs) (annotation_part rs)
      ++ condition_violations ctx (type_part rs) (condition_part rs)

  -- an item of a field list by itself: rule 1 at an invariant, rules 6 to 30 of a field
  unfoldable pub field_item_violations : Item (Rec N P) → List (Found P)
  field_item_violations it =
      found_if 1 (is Kind.Invariant it.head) it.head.place ++ only_if (is Kind.Field it.head) (field_violations it.rest)

  -- a field list (`check_message_body`): rules 1 to 30
  unfoldable pub field_list_violations : List (Rec N P) → List (Found P)
  field_list_violations rs = list_violations field_scheme field_item_violations (field_items rs)

  -- rule 33, at the backing
  abbrev pub backing_violations : List (Rec N P) → List (Found P)
  backing_violations body =
      flat_map
      (λ b. found_if 33 (any_of (ltb (backing_max b.sub)) (used_ordinals (slots (body_items body)))) b.place)
      (select (is Kind.Backing) body)

  -- rules 31 to 33
  unfoldable pub enum_violations : List (Rec N P) → List (Found P)
  enum_violations body = list_violations enum_scheme (λ it. []) (body_items body) ++ backing_violations body

  -- rule 34
  unfoldable pub flags_violations : List (Rec N P) → List (Found P)
  flags_violations body = list_violations flags_scheme (λ it. []) (body_items body)

  -- rules 35 and 36; "then the variant's fields"
  unfoldable pub union_violations : List (Rec N P) → List (Found P)
  union_violations body =
      list_violations union_scheme (λ it. only_if (is Kind.Variant it.head) (field_list_violations it.rest)) (body_items body)

  -- rules 37 and 38, at the inner type
  unfoldable pub newtype_violations : List (Rec N P) → List (Found P)
  newtype_violations [] = []
  newtype_violations (t ∷ rs) =
      found_if 37 (is Kind.Named t && declared_as ctx Sub.Newtype t.name) t.place
      ++ found_if 38 (is Kind.Named t && declared_as ctx Sub.Config t.name) t.place

  -- the violations of the records of a body
  unfoldable pub body_violations : Body → List (Rec N P) → List (Found P)
  body_violations message_body rs = field_list_violations rs
  body_violations enum_body rs = enum_violations rs
  body_violations flags_body rs = flags_violations rs
  body_violations union_body rs = union_violations rs
  body_violations newtype_body rs = newtype_violations rs

  -- the violations of the declaration that begins at the first of the records
  abbrev pub declaration_violations : List (Rec N P) → List (Found P)
  declaration_violations [] = []
  declaration_violations (h ∷ rs) = body_violations (body_of h.sub) rs

  -- the violations of a sheet's records: those of what begins at its head
  unfoldable pub violations_of : List (Rec N P) → List (Found P)
  violations_of rs = declaration_violations (rest (λ r. not (is Kind.Head r)) rs)
