-- Of the two classes that count as a repeated ordinal are rules 3 and 4 alone: every other part of a list is made of other rules, whose
-- classes are computed.
use Prim.Native.Nat.{ℕ, ◌+◌}
use native.Mathlib.Omega.{arith}
use mathlib.Core.Path.{◌≡◌, refl, ◌∙◌}
use mathlib.Core.Bool.{Bool, true, false, ◌&&◌}
use mathlib.Core.List.{List, [], ◌∷◌, ◌++◌, map, flat_map, append-nil}
use lib.Dec.{eqb, ltb}
use Rattle.rules.specs.Words.{only_if, number_if, any_of, select, Item}
use Rattle.rules.specs.Kind
use Rattle.rules.specs.Record.{Rec, is}
use Rattle.rules.specs.Context.{ValidationContext}
use Rattle.rules.specs.Rule.{Found, found_if, class_of, rule_row, OrdinalDuplicate, OrdinalReusedAfterRemoved}
use Rattle.rules.specs.Types.{own_type_violations, types_violations, checked_parts, key_violations, element_violations, bit_name_violations}
use Rattle.rules.specs.Annotations.{annotation_violations, combined_violations, duplicate_annotations, annotations_violations, limit_value_violations}
use Rattle.rules.specs.Conditions.{Literals, literals_of, length_literals, operand_violations, own_condition_violations, condition_violations}
use Rattle.rules.specs.Bodies.{is_member, slots, used_ordinals, retired_ordinals, body_items, backing_max, Scheme, enum_scheme, flags_scheme, union_scheme, member_violations, items_violations, field_violations, field_item_violations, field_list_violations, enum_violations, flags_violations, union_violations, newtype_violations}
use Rattle.rules.specs.Items.{sum_of, occurrences}
use Rattle.rules.proofs.Occurrences.{occurrences-append}
use Rattle.rules.proofs.ItemCounts.{by_rule, rule_tally}
use Rattle.rules.proofs.Lengths.{one, length-only_if}

-- the rule is of class OrdinalDuplicate or OrdinalReusedAfterRemoved
unfoldable pub is_repeat : ℕ → Bool
is_repeat rule =
    eqb (elim (eqb (class_of rule) OrdinalReusedAfterRemoved) [ true ↦ OrdinalDuplicate | false ↦ class_of rule ]) OrdinalDuplicate

pub number_if-zero : (b : Bool) → number_if b 0 ≡ 0
number_if-zero true = refl
number_if-zero false = refl

module _ {P : Type 0} where
  -- how many of the violations tell of a repeated ordinal
  unfoldable pub repeats : List (Found P) → ℕ
  repeats = rule_tally is_repeat

  pub repeats-append : (xs ys : List (Found P)) → repeats (xs ++ ys) ≡ repeats xs + repeats ys
  unfolding repeats
  repeats-append = occurrences-append (by_rule is_repeat)

  pub repeats-only_if : (b : Bool) (xs : List (Found P)) → repeats (only_if b xs) ≡ number_if b (repeats xs)
  unfolding repeats occurrences select
  repeats-only_if true xs = refl
  repeats-only_if false xs = refl

  pub repeats-one : (rule : ℕ) (place : P) → repeats (record { rule = rule; place = place } ∷ []) ≡ one (is_repeat rule)
  unfolding repeats occurrences select
  repeats-one rule place = rw (append-nil, length-only_if)

pub repeats-nil : (P : Type 0) → repeats {P = P} [] ≡ 0
unfolding repeats occurrences select
repeats-nil P = refl

-- parts without any have none together
repeats-flat_map : {A P : Type 0} (f : A → List (Found P)) → ((x : A) → repeats (f x) ≡ 0) → (xs : List A) →
    repeats (flat_map f xs) ≡ 0
unfolding flat_map
repeats-flat_map {A} {P} f h [] = repeats-nil P
repeats-flat_map f h (x ∷ xs) = rw repeats-append (omega (arith, h x, repeats-flat_map f h xs))

-- what computes the repeats of a list of rules and tests
pub ruleset counting = (repeats-append, repeats-only_if, repeats-one, repeats-nil, number_if-zero)

module _ {N P : Type 0} (ctx : ValidationContext N P) where
  -- a field by itself has none
  key-quiet : (rs : List (Rec N P)) → repeats (key_violations ctx rs) ≡ 0
  unfolding is_repeat rule_row
  key-quiet [] = repeats-nil P
  key-quiet (key ∷ rs) = simp counting

  element-quiet : (rs : List (Rec N P)) → repeats (element_violations ctx rs) ≡ 0
  unfolding is_repeat rule_row
  element-quiet [] = repeats-nil P
  element-quiet (element ∷ rs) = simp counting

  bit-names-quiet : (place : P) (bs : List (Rec N P)) → repeats (bit_name_violations ctx place bs) ≡ 0
  unfolding is_repeat rule_row
  bit-names-quiet place [] = simp counting
  bit-names-quiet place (b ∷ bs) = repeats-flat_map _ (λ bit. simp counting) (b ∷ bs)

  own-type-quiet : (t : Rec N P) (rs : List (Rec N P)) → repeats (own_type_violations ctx t rs) ≡ 0
  unfolding own_type_violations is_repeat rule_row
  own-type-quiet t rs = simp (counting, key-quiet, element-quiet, bit-names-quiet)

  types-quiet : (due : List Bool) (rs : List (Rec N P)) → repeats (types_violations ctx due rs) ≡ 0
  unfolding types_violations
  types-quiet due [] = repeats-nil P
  types-quiet [] (t ∷ rs) = repeats-nil P
  types-quiet (checked ∷ due) (t ∷ rs) = go (is Kind.BitName t) refl (λ due'. types-quiet due' rs)
    where
      go : (b : Bool) → is Kind.BitName t ≡ b → ((due' : List Bool) → repeats (types_violations ctx due' rs) ≡ 0) →
          repeats (types_violations ctx (checked ∷ due) (t ∷ rs)) ≡ 0
      go true e later = rw (e, types_violations) (later (checked ∷ due))
      go false e later =
          rw
          (e, types_violations, repeats-append, repeats-only_if, own-type-quiet, number_if-zero)
          (omega (arith, later (map (λ part. checked && part) (checked_parts t.kind) ++ due)))

  limit-value-quiet : (ty : List (Rec N P)) (place : P) (argument : Rec N P) → repeats (limit_value_violations ctx ty place argument) ≡ 0
  unfolding is_repeat rule_row
  limit-value-quiet ty place argument = simp counting

  annotation-quiet : (ty : List (Rec N P)) (a : Item (Rec N P)) → repeats (annotation_violations ctx ty a) ≡ 0
  unfolding annotation_violations is_repeat rule_row
  annotation-quiet ty a =
      simp (counting, repeats-flat_map (limit_value_violations ctx ty a.head.place) (limit-value-quiet ty a.head.place))

  combined-quiet : (anns : List (Item (Rec N P))) → repeats (combined_violations ctx anns) ≡ 0
  unfolding combined_violations is_repeat rule_row
  combined-quiet anns = simp (counting, repeats-flat_map (λ (a : Item (Rec N P)). found_if 13 true a.head.place) (λ a. simp counting))

  duplicate-annotations-quiet : (names : List N) (anns : List (Item (Rec N P))) → repeats (duplicate_annotations ctx names anns) ≡ 0
  unfolding duplicate_annotations is_repeat rule_row
  duplicate-annotations-quiet names [] = repeats-nil P
  duplicate-annotations-quiet names (a ∷ anns) = simp counting (omega (arith, duplicate-annotations-quiet (a.head.name ∷ names) anns))

  annotations-quiet : (ty rs : List (Rec N P)) → repeats (annotations_violations ctx ty rs) ≡ 0
  unfolding annotations_violations
  annotations-quiet ty rs =
      simp (repeats-append, combined-quiet, repeats-flat_map (annotation_violations ctx ty) (annotation-quiet ty), duplicate-annotations-quiet)

  operand-quiet : (takes : Literals) (o : Rec N P) → repeats (operand_violations ctx takes o) ≡ 0
  unfolding operand_violations is_repeat rule_row
  operand-quiet takes o = simp counting

  own-condition-quiet : (ty : List (Rec N P)) (c : Rec N P) (rs : List (Rec N P)) → repeats (own_condition_violations ctx ty c rs) ≡ 0
  unfolding own_condition_violations is_repeat rule_row
  own-condition-quiet ty c rs =
      simp (
        counting,
        repeats-flat_map (operand_violations ctx (literals_of ty)) (operand-quiet (literals_of ty)),
        repeats-flat_map (operand_violations ctx length_literals) (operand-quiet length_literals),
      )

  condition-quiet : (ty rs : List (Rec N P)) → repeats (condition_violations ctx ty rs) ≡ 0
  unfolding condition_violations
  condition-quiet ty [] = repeats-nil P
  condition-quiet ty (c ∷ rs) = rw (repeats-append, own-condition-quiet) (omega (arith, condition-quiet ty rs))

  -- an item of a field list by itself has none
  pub field-item-quiet : (it : Item (Rec N P)) → repeats (field_item_violations ctx it) ≡ 0
  unfolding field_item_violations field_violations is_repeat rule_row
  field-item-quiet it = simp (counting, types-quiet, annotations-quiet, condition-quiet)

  -- a body whose own rules tell of no repeated ordinal: what its items have by themselves
  items-repeats : (s : Scheme) (own : Item (Rec N P) → List (Found P)) (gone : List ℕ) →
      ((met : List ℕ) (names : List N) (r : Rec N P) → repeats (member_violations ctx s gone met names r) ≡ 0) →
      (met : List ℕ) (names : List N) (its : List (Item (Rec N P))) →
      repeats (items_violations ctx s own gone met names its) ≡ sum_of (map (λ it. repeats (own it)) its)
  unfolding items_violations sum_of
  items-repeats s own gone h met names [] = repeats-nil P
  items-repeats s own gone h met names (it ∷ its) =
      go (is_member it.head) refl (λ met' names'. items-repeats s own gone h met' names' its)
    where
      go : (b : Bool) → is_member it.head ≡ b →
          ((met' : List ℕ) (names' : List N) →
          repeats (items_violations ctx s own gone met' names' its) ≡ sum_of (map (λ it. repeats (own it)) its)) →
          repeats (items_violations ctx s own gone met names (it ∷ its)) ≡ repeats (own it) + sum_of (map (λ it. repeats (own it)) its)
      go true e later =
          rw
          (e, items_violations, repeats-append, repeats-append)
          (omega (arith, h met names it.head, later (it.head.value ∷ met) (it.head.name ∷ names)))
      go false e later = rw (e, items_violations, repeats-append) (omega (arith, later met names))

  bare-repeats : (its : List (Item (Rec N P))) → sum_of (map (λ it. repeats {P = P} []) its) ≡ 0
  unfolding sum_of
  bare-repeats [] = refl
  bare-repeats (it ∷ its) = omega (arith, repeats-nil P, bare-repeats its)

  -- enum, flags and newtypes have none
  pub enum-quiet : (body : List (Rec N P)) → repeats (enum_violations ctx body) ≡ 0
  unfolding enum_violations member_violations flat_map is_repeat rule_row
  enum-quiet body =
      rw
      repeats-append
      (omega (
        arith,
        items-repeats enum_scheme (λ it. []) (retired_ordinals (slots (body_items body))) (λ met names r. simp counting) [] [] (body_items body),
        bare-repeats (body_items body),
        repeats-flat_map
            (λ (b : Rec N P). found_if 33 (any_of (ltb (backing_max b.sub)) (used_ordinals (slots (body_items body)))) b.place)
            (λ b. simp counting)
            (select (is Kind.Backing) body),
      ))

  pub flags-quiet : (body : List (Rec N P)) → repeats (flags_violations ctx body) ≡ 0
  unfolding flags_violations member_violations flat_map is_repeat rule_row
  flags-quiet body =
      items-repeats flags_scheme (λ it. []) _ (λ met names r. simp counting) [] [] (body_items body) ∙ bare-repeats (body_items body)

  pub newtype-quiet : (body : List (Rec N P)) → repeats (newtype_violations ctx body) ≡ 0
  unfolding newtype_violations is_repeat rule_row
  newtype-quiet [] = repeats-nil P
  newtype-quiet (t ∷ rs) = simp counting

  -- a union has those of its variants' fields
  abbrev pub variant_repeats : Item (Rec N P) → ℕ
  variant_repeats it = repeats (only_if (is Kind.Variant it.head) (field_list_violations ctx it.rest))

  pub union-repeats : (body : List (Rec N P)) → repeats (union_violations ctx body) ≡ sum_of (map variant_repeats (body_items body))
  unfolding union_violations member_violations flat_map is_repeat rule_row
  union-repeats body = items-repeats union_scheme _ _ (λ met names r. simp counting) [] [] (body_items body)
