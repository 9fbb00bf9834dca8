-- Each field of a list is met for the first time, or tombstoned, or met before: the first are the distinct untombstoned ordinals, rule 3
-- tells of the second and rule 4 of the third.
use Prim.Native.Nat.{ℕ, ◌+◌}
use native.Mathlib.Nat.{zero-add}
use native.Mathlib.Omega.{arith}
use mathlib.Core.Path.{◌≡◌, refl, sym, ap, ◌∙◌}
use mathlib.Core.Bool.{Bool, true, false, not, ◌&&◌, ◌||◌, or-false}
use mathlib.Core.List.{List, [], ◌∷◌, ◌++◌, flat_map}
use lib.ListN.{length, length-append}
use borrow.Author.Tests.{ne_eqb}
use Rattle.rules.specs.Words.{only_if, select, front, member, Item, items}
use Rattle.rules.specs.Kind
use Rattle.rules.specs.Record.{Rec, is}
use Rattle.rules.specs.Context.{ValidationContext}
use Rattle.rules.specs.Grammar.{starts_field_item}
use Rattle.rules.specs.Rule.{rule_row}
use Rattle.rules.specs.Bodies.{used, retired, used_ordinal, used_ordinals, retired_ordinals, is_member, is_tombstone, slot_of, slots, field_items, field_scheme, member_violations, items_violations, field_item_violations, field_list_violations}
use Rattle.rules.specs.Items.{distinct, untombstoned, fields_in}
use Rattle.rules.proofs.Joined.{flat_map-append}
use Rattle.rules.proofs.Lists.{any_of-append}
use Rattle.rules.proofs.Taken.{within-true, outside-is}
use Rattle.rules.proofs.Lengths.{one, one-not, length-only_if}
use Rattle.rules.proofs.Distinct.{fresh, distinct-fresh}
use Rattle.rules.proofs.Repeats.{is_repeat, repeats, repeats-append, repeats-nil, counting, field-item-quiet}

one-either : (a b : Bool) → one a + one (not a && b) ≡ one (b || a)
one-either true true = refl
one-either true false = refl
one-either false true = refl
one-either false false = refl

module _ {N P : Type 0} where
  -- the ordinals in use are those of the fields, variants and bits
  used-cons : (it : Item (Rec N P)) (its : List (Item (Rec N P))) →
      used_ordinals (slots (it ∷ its)) ≡ only_if (is_member it.head) (it.head.value ∷ []) ++ used_ordinals (slots its)
  unfolding flat_map
  used-cons it its =
      flat_map-append used_ordinal (slot_of it) (slots its)
      ∙ ap (λ ns. ns ++ used_ordinals (slots its)) (go (is_member it.head) (is_tombstone it.head) it.head.value)
    where
      go : (a b : Bool) (n : ℕ) → used_ordinals (only_if a (used n ∷ []) ++ only_if b (retired n ∷ [])) ≡ only_if a (n ∷ [])
      go true true n = refl
      go true false n = refl
      go false true n = refl
      go false false n = refl

  used-length : (it : Item (Rec N P)) (its : List (Item (Rec N P))) →
      length (used_ordinals (slots (it ∷ its))) ≡ one (is_member it.head) + length (used_ordinals (slots its))
  used-length it its = rw (used-cons it its, length-append, length-only_if)

  pub fields-cons : (r : Rec N P) (rs : List (Rec N P)) → fields_in (r ∷ rs) ≡ one (is Kind.Field r) + fields_in rs
  unfolding fields_in select
  fields-cons r rs = rw (length-append, length-only_if)

  -- in a field list those are its fields
  used-fields : (rs : List (Rec N P)) → length (used_ordinals (slots (field_items rs))) ≡ fields_in rs
  unfolding items fields_in select flat_map
  used-fields [] = refl
  used-fields (r ∷ rs) = go (starts_field_item r) refl (used-fields rs)
    where
      go : (b : Bool) → starts_field_item r ≡ b → length (used_ordinals (slots (field_items rs))) ≡ fields_in rs →
          length (used_ordinals (slots (field_items (r ∷ rs)))) ≡ fields_in (r ∷ rs)
      go true e later =
          let k = within-true 11 13 r.kind e in
          let other : is Kind.Variant r ≡ false = ne_eqb r.kind 14 (λ q. omega arith) in
          let it : Item (Rec N P) = record { head = r; rest = front (λ y. not (starts_field_item y)) rs } in
          rw (e, items) (used-length it (field_items rs) ∙ rw (other, or-false, later) (sym (fields-cons r rs)))
      go false e later = rw (e, items) (later ∙ rw (fields-cons r rs, outside-is 11 13 11 r.kind refl e, zero-add))

module _ {N P : Type 0} (ctx : ValidationContext N P) where
  -- rules 3 and 4 together tell of an ordinal that is tombstoned or met before
  member-repeats : (gone met : List ℕ) (names : List N) (r : Rec N P) →
      repeats (member_violations ctx field_scheme gone met names r) ≡ one (member r.value (met ++ gone))
  unfolding member_violations flat_map is_repeat rule_row
  member-repeats gone met names r =
      simp counting (rw any_of-append (omega (arith, one-either (member r.value gone) (member r.value met))))

  -- the items are counted, after items with those ordinals and names
  abbrev ItemsCounted : List ℕ → List ℕ → List N → List (Item (Rec N P)) → Type 0
  ItemsCounted gone met names its =
      length (used_ordinals (slots its))
      ≡ distinct (fresh (met ++ gone) (used_ordinals (slots its)))
      + repeats (items_violations ctx field_scheme (field_item_violations ctx) gone met names its)

  items-counted : (gone met : List ℕ) (names : List N) (its : List (Item (Rec N P))) → ItemsCounted gone met names its
  unfolding items_violations flat_map select distinct
  items-counted gone met names [] = sym (repeats-nil P) ∙ sym (zero-add _)
  items-counted gone met names (it ∷ its) =
      go (is_member it.head) refl (λ met' names'. items-counted gone met' names' its)
    where
      go : (b : Bool) → is_member it.head ≡ b → ((met' : List ℕ) (names' : List N) → ItemsCounted gone met' names' its) →
          ItemsCounted gone met names (it ∷ its)
      go true e later =
          rw
          (used-cons it its, e, items_violations, repeats-append, repeats-append, member-repeats, field-item-quiet)
          (omega (
            arith,
            distinct-fresh (met ++ gone) it.head.value (used_ordinals (slots its)),
            one-not (member it.head.value (met ++ gone)),
            later (it.head.value ∷ met) (it.head.name ∷ names),
          ))
      go false e later = rw (used-cons it its, e, items_violations, repeats-append, field-item-quiet, zero-add) (later met names)

  -- the fields of a list are its distinct untombstoned ordinals and what rules 3 and 4 tell of
  pub list_counted : (rs : List (Rec N P)) → fields_in rs ≡ distinct (untombstoned (field_items rs)) + repeats (field_list_violations ctx rs)
  unfolding untombstoned field_list_violations
  list_counted rs = sym (used-fields rs) ∙ items-counted (retired_ordinals (slots (field_items rs))) [] [] (field_items rs)
