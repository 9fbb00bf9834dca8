-- Every rule is found at a place of a record that it looks at, so what holds of the places of the records holds of those of the full list.
use Prim.Native.Nat.{ℕ}
use mathlib.Core.Bool.{Bool, true, false, not, ◌&&◌}
use mathlib.Core.List.{List, [], ◌∷◌, ◌++◌, map, flat_map}
use lib.ListN.{length}
use Rattle.rules.specs.Words.{only_if, any_of, Item}
use Rattle.rules.specs.Kind
use Rattle.rules.specs.Record.{Rec, is}
use Rattle.rules.specs.Head.{Body, message_body, enum_body, flags_body, union_body, newtype_body, body_of}
use Rattle.rules.specs.Context.{ValidationContext, varint, zigzag}
use Rattle.rules.specs.Rule.{Found, found_if}
use Rattle.rules.specs.Types.{checked_parts, key_violations, element_violations, bit_name_violations, own_type_violations, types_violations}
use Rattle.rules.specs.Annotations.{is_word, annotation_violations, combined_violations, duplicate_annotations, annotations_violations}
use Rattle.rules.specs.Conditions.{Literals, operand_violations, own_condition_violations, condition_violations}
use Rattle.rules.specs.Bodies.{Scheme, found_all, is_member, member_violations, items_violations, field_violations, field_item_violations}
use Rattle.rules.specs.Bodies.{field_list_violations, backing_violations, enum_violations, flags_violations, union_violations}
use Rattle.rules.specs.Bodies.{newtype_violations, body_violations, declaration_violations, violations_of}
use Rattle.rules.proofs.Every.{Every, every-nil, every-cons, every_one, every_append, every-only_if, every_take, every-select}
use Rattle.rules.proofs.Every.{every_front, every_rest, EveryOf, every_items, every-flat_map}

-- the places of a record
pub record Placed {N P : Type 0} (Q : P → Type 0) (r : Rec N P) : Type 0 where
  pub place : Q r.place
  pub ordinal_place : Q r.ordinal_place

-- the place of a violation
pub record At {P : Type 0} (Q : P → Type 0) (f : Found P) : Type 0 where
  pub place : Q f.place

module _ {P : Type 0} (Q : P → Type 0) where
  found-if : (n : ℕ) (b : Bool) (place : P) → Q place → Every (At Q) (found_if n b place)
  found-if n b place q = every-only_if b (every_one (record { place = q }))

  found_all_lem : (ns : List ℕ) (b : Bool) (place : P) → Q place → Every (At Q) (found_all ns b place)
  unfolding flat_map
  found_all_lem [] b place q = every-nil
  found_all_lem (n ∷ ns) b place q = every_append (found-if n b place q) (found_all_lem ns b place q)

ruleset parts = (found-if, found_all_lem, every-nil, every_append, every-only_if, every_front, every_rest, every_items, every-flat_map)

module _ {N P : Type 0} (Q : P → Type 0) (ctx : ValidationContext N P) where
  key-places : {rs : List (Rec N P)} → Every (Placed Q) rs → Every (At Q) (key_violations ctx rs)
  key-places every-nil = every-nil
  key-places (every-cons q h) = search parts

  element-places : {rs : List (Rec N P)} → Every (Placed Q) rs → Every (At Q) (element_violations ctx rs)
  element-places every-nil = every-nil
  element-places (every-cons q h) = search parts

  bit-name-places : (place : P) {bits : List (Rec N P)} → Q place → Every (Placed Q) bits → Every (At Q) (bit_name_violations ctx place bits)
  bit-name-places place q every-nil = found-if Q 11 true place q
  bit-name-places place q (every-cons r h) = every-flat_map _ (λ bit p. search parts) (every-cons r h)

  own-type-places : {t : Rec N P} {rs : List (Rec N P)} → Placed Q t → Every (Placed Q) rs → Every (At Q) (own_type_violations ctx t rs)
  unfolding own_type_violations
  own-type-places {t} {rs} q h = search (parts, key-places, element-places, bit-name-places) depth 12

  types-places : (due : List Bool) {rs : List (Rec N P)} → Every (Placed Q) rs → Every (At Q) (types_violations ctx due rs)
  unfolding types_violations
  types-places due every-nil = every-nil
  types-places [] (every-cons q h) = every-nil
  types-places (checked ∷ due) (every-cons {x = t} {xs = rs} q h) =
      go (is Kind.BitName t) (types-places (checked ∷ due) h)
      (types-places (map (λ part. checked && part) (checked_parts t.kind) ++ due) h)
    where
      go : (b : Bool) {xs ys : List (Found P)} → Every (At Q) xs → Every (At Q) ys
          → Every (At Q) (elim b [ true ↦ xs | false ↦ only_if checked (own_type_violations ctx t rs) ++ ys ])
      go true g h' = g
      go false g h' = every_append (every-only_if checked (own-type-places q h)) h'

  annotation-places : (ty : List (Rec N P)) (a : Item (Rec N P)) → EveryOf (Placed Q) a → Every (At Q) (annotation_violations ctx ty a)
  unfolding annotation_violations
  annotation-places ty a h = search parts depth 12

  combined-places : {anns : List (Item (Rec N P))} → Every (EveryOf (Placed Q)) anns → Every (At Q) (combined_violations ctx anns)
  unfolding combined_violations
  combined-places {anns} h =
      every-only_if (any_of (is_word ctx varint) anns)
      (every-flat_map _ (λ a q. found-if Q 13 true a.head.place q.head.place) (every_take 1 (every-select (is_word ctx zigzag) h)))

  duplicate-places : (names : List N) {anns : List (Item (Rec N P))} → Every (EveryOf (Placed Q)) anns
      → Every (At Q) (duplicate_annotations ctx names anns)
  unfolding duplicate_annotations
  duplicate-places names every-nil = every-nil
  duplicate-places names (every-cons {x = a} q h) =
      let g = duplicate-places (a.head.name ∷ names) h in
      search parts

  annotations-places : (ty : List (Rec N P)) {rs : List (Rec N P)} → Every (Placed Q) rs → Every (At Q) (annotations_violations ctx ty rs)
  unfolding annotations_violations
  annotations-places ty h =
      let g = every_items (is Kind.Annotation) h in
      search (parts, annotation-places, combined-places, duplicate-places) depth 12

  operand-places : (takes : Literals) (o : Rec N P) → Placed Q o → Every (At Q) (operand_violations ctx takes o)
  unfolding operand_violations
  operand-places takes o q = search parts depth 12

  own-condition-places : (ty : List (Rec N P)) {c : Rec N P} {rs : List (Rec N P)} → Placed Q c → Every (Placed Q) rs
      → Every (At Q) (own_condition_violations ctx ty c rs)
  unfolding own_condition_violations
  own-condition-places ty {c} q h = let g = every_take (length (Kind.parts_of c.kind)) h in search (parts, operand-places) depth 12

  condition-places : (ty : List (Rec N P)) {rs : List (Rec N P)} → Every (Placed Q) rs → Every (At Q) (condition_violations ctx ty rs)
  unfolding condition_violations
  condition-places ty every-nil = every-nil
  condition-places ty (every-cons q h) = every_append (own-condition-places ty q h) (condition-places ty h)

  member-places : (s : Scheme) (gone met : List ℕ) (names : List N) {r : Rec N P} → Placed Q r
      → Every (At Q) (member_violations ctx s gone met names r)
  unfolding member_violations
  member-places s gone met names q = search parts depth 12

  items-places : (s : Scheme) (own : Item (Rec N P) → List (Found P))
      → ((it : Item (Rec N P)) → EveryOf (Placed Q) it → Every (At Q) (own it))
      → (gone met : List ℕ) (names : List N) {its : List (Item (Rec N P))} → Every (EveryOf (Placed Q)) its
      → Every (At Q) (items_violations ctx s own gone met names its)
  unfolding items_violations
  items-places s own f gone met names every-nil = every-nil
  items-places s own f gone met names (every-cons {x = it} q h) =
      go (is_member it.head) (items-places s own f gone (it.head.value ∷ met) (it.head.name ∷ names) h)
      (items-places s own f gone met names h)
    where
      go : (b : Bool) {xs ys : List (Found P)} → Every (At Q) xs → Every (At Q) ys
          → Every (At Q) (elim b [ true ↦ member_violations ctx s gone met names it.head ++ own it ++ xs | false ↦ own it ++ ys ])
      go true g h' = every_append (every_append (member-places s gone met names q.head) (f it q)) g
      go false g h' = every_append (f it q) h'

  field-places : {rs : List (Rec N P)} → Every (Placed Q) rs → Every (At Q) (field_violations ctx rs)
  unfolding field_violations
  field-places h = search (parts, types-places, annotations-places, condition-places) depth 12

  field-item-places : (it : Item (Rec N P)) → EveryOf (Placed Q) it → Every (At Q) (field_item_violations ctx it)
  unfolding field_item_violations
  field-item-places it h = search (parts, field-places)

  field-list-places : {rs : List (Rec N P)} → Every (Placed Q) rs → Every (At Q) (field_list_violations ctx rs)
  unfolding field_list_violations
  field-list-places h = search (parts, items-places, field-item-places)

  backing-places : {body : List (Rec N P)} → Every (Placed Q) body → Every (At Q) (backing_violations ctx body)
  backing-places h = every-flat_map _ (λ b q. search parts) (every-select (is Kind.Backing) h)

  variant-places : (it : Item (Rec N P)) → EveryOf (Placed Q) it
      → Every (At Q) (only_if (is Kind.Variant it.head) (field_list_violations ctx it.rest))
  variant-places it h = search (parts, field-list-places)

  newtype-places : {body : List (Rec N P)} → Every (Placed Q) body → Every (At Q) (newtype_violations ctx body)
  unfolding newtype_violations
  newtype-places every-nil = every-nil
  newtype-places (every-cons q h) = search parts

  body-places : (b : Body) {rs : List (Rec N P)} → Every (Placed Q) rs → Every (At Q) (body_violations ctx b rs)
  unfolding body_violations enum_violations flags_violations union_violations
  body-places message_body h = field-list-places h
  body-places enum_body h = search (parts, items-places, backing-places)
  body-places flags_body h = search (parts, items-places)
  body-places union_body h = search (parts, items-places, variant-places)
  body-places newtype_body h = newtype-places h

  declaration-places : {rs : List (Rec N P)} → Every (Placed Q) rs → Every (At Q) (declaration_violations ctx rs)
  declaration-places every-nil = every-nil
  declaration-places (every-cons {x = head} q h) = body-places (body_of head.sub) h

  -- what holds of the places of the records holds of the places of the full list
  pub violation-places : {rs : List (Rec N P)} → Every (Placed Q) rs → Every (At Q) (violations_of ctx rs)
  unfolding violations_of
  violation-places h = declaration-places (every_rest (λ r. not (is Kind.Head r)) h)
