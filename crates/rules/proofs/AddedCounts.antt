-- Kept items are counted again and added items only add, and the rest of the sheet is the same.
use Prim.Native.Nat.{ℕ, ◌≤◌}
use native.Mathlib.Omega.{arith}
use mathlib.Core.Path.{◌≡◌, refl, ap, ◌∙◌, sym}
use mathlib.Core.Bool.{Bool, true, false}
use mathlib.Core.List.{List, [], ◌∷◌, flat_map}
use lib.Dec.{eqb, ltb}
use Rattle.rules.specs.Words.{only_if, select, any_of, items}
use Rattle.rules.specs.Kind
use Rattle.rules.specs.Record.{Rec, is, records}
use Rattle.rules.specs.Head.{Body, message_body, enum_body, flags_body, union_body, newtype_body}
use Rattle.rules.specs.Context.{ValidationContext}
use Rattle.rules.specs.Rule.{Found, found_if, rule_row, OrdinalDuplicate, OrdinalReusedAfterRemoved}
use Rattle.rules.specs.Bodies.{field_scheme, enum_scheme, flags_scheme, union_scheme, backing_max, used_ordinal, used_ordinals, slots, field_items, body_items, field_item_violations, field_list_violations, backing_violations, enum_violations, flags_violations, union_violations, body_violations}
use Rattle.rules.specs.Answer.{is_accepted, full_list}
use Rattle.rules.specs.Items.{starts_in, Added, FieldsAdded, SameButAdded, occurrences, is_in_class}
use Rattle.rules.proofs.Occurrences.{occurrences-cons, occurrences-append}
use Rattle.rules.proofs.ItemCounts.{by_rule, rule_tally, found-tally}
use Rattle.rules.proofs.Cut.{cut_item, field_items-cut}
use Rattle.rules.proofs.Added.{number-le, added-map, added-slots, added-list}
use Rattle.rules.proofs.SameLead.{SameBesideItems}
use Rattle.rules.proofs.SheetCounts.{of_rule, BodiesCompare, sheets-compare}

module _ {N P : Type 0} where
  -- the items of a message body are kept whole
  whole-added : (xs ys : List (Rec N P)) → Added FieldsAdded (field_items xs) (field_items ys) → Added ◌≡◌ (field_items xs) (field_items ys)
  whole-added xs ys m =
      rw (field_items-cut xs, field_items-cut ys) at (added-map {S = ◌≡◌} cut_item (λ a b r i. record { head = r.head i; rest = r.lead i }) m)

-- a test of rules that counts rules 3 and 4 alike
module _ {N P : Type 0} (ctx : ValidationContext N P) (p : ℕ → Bool) (alike : p 3 ≡ p 4) where
  only-le : (b : Bool) (xs ys : List (Found P)) → rule_tally p xs ≤ rule_tally p ys → rule_tally p (only_if b xs) ≤ rule_tally p (only_if b ys)
  only-le true xs ys e = e
  only-le false xs ys e = omega arith

  field-list-added :
      (xs ys : List (Rec N P)) →
      Added ◌≡◌ (field_items xs) (field_items ys) → rule_tally p (field_list_violations ctx xs) ≤ rule_tally p (field_list_violations ctx ys)
  unfolding field_list_violations
  field-list-added xs ys m =
      added-list
      (λ a b r. ap (λ it. it.head) r)
      ctx
      p
      field_scheme
      (occurrences-cons p 3 [] ∙ rw alike (sym (occurrences-cons p 4 [])))
      (field_item_violations ctx)
      (λ a b r. rw r (omega arith))
      m

  found-le :
      (rule : ℕ) (bad bad' : Bool) (place : P) →
      (bad ≡ true → bad' ≡ true) → rule_tally p (found_if rule bad place) ≤ rule_tally p (found_if rule bad' place)
  found-le rule bad bad' place h = rw (found-tally p rule bad place, found-tally p rule bad' place) (number-le bad bad' _ h)

  flat_map-le :
      {A : Type 0} (f g : A → List (Found P)) → ((x : A) → rule_tally p (f x) ≤ rule_tally p (g x)) →
      (xs : List A) → rule_tally p (flat_map f xs) ≤ rule_tally p (flat_map g xs)
  unfolding flat_map
  flat_map-le f g h [] = omega arith
  flat_map-le f g h (x ∷ xs) =
      let first = h x in
      let others = flat_map-le f g h xs in
      rw (occurrences-append (by_rule p) (f x) (flat_map f xs), occurrences-append (by_rule p) (g x) (flat_map g xs)) (omega arith)

  backing-added :
      (xs ys : List (Rec N P)) →
      select (is Kind.Backing) xs ≡ select (is Kind.Backing) ys →
      Added FieldsAdded (body_items xs) (body_items ys) →
      rule_tally p (backing_violations ctx xs) ≤ rule_tally p (backing_violations ctx ys)
  backing-added xs ys e m = rw e (flat_map-le (broken xs) (broken ys) less (select (is Kind.Backing) ys))
    where
      broken : List (Rec N P) → Rec N P → List (Found P)
      broken body b = found_if 33 (any_of (ltb (backing_max b.sub)) (used_ordinals (slots (body_items body)))) b.place

      less : (b : Rec N P) → rule_tally p (broken xs b) ≤ rule_tally p (broken ys b)
      less b = found-le 33 _ _ b.place (added-slots (λ a b r. r.head) used_ordinal (ltb (backing_max b.sub)) m)

  body-added :
      (b : Body) (xs ys : List (Rec N P)) →
      Added FieldsAdded (items (starts_in b) xs) (items (starts_in b) ys) →
      SameBesideItems b xs ys →
      rule_tally p (body_violations ctx b xs) ≤ rule_tally p (body_violations ctx b ys)
  unfolding body_violations enum_violations flags_violations union_violations
  body-added message_body xs ys m beside = field-list-added xs ys (whole-added xs ys m)
  body-added enum_body xs ys m beside =
      let own = added-list (λ a b r. r.head) ctx p enum_scheme refl (λ it. []) (λ a b r. omega arith) m in
      let backing = backing-added xs ys beside m in
      simp occurrences-append (omega arith)
  body-added flags_body xs ys m beside =
      added-list (λ a b r. r.head) ctx p flags_scheme refl (λ it. []) (λ a b r. omega arith) m
  body-added union_body xs ys m beside =
      added-list
      (λ a b r. r.head)
      ctx
      p
      union_scheme
      refl
      (λ it. only_if (is Kind.Variant it.head) (field_list_violations ctx it.rest))
      (λ a b r. rw r.head (only-le (is Kind.Variant b.head) _ _ (field-list-added a.rest b.rest r.fields)))
      m
  body-added newtype_body xs ys m beside = rw beside (omega arith)

-- items added to a body, or to its variants' fields: of each class there are no fewer violations, where OrdinalDuplicate and
-- OrdinalReusedAfterRemoved are counted together
pub added-counts :
    (sheet names sheet' names' : List ℕ) →
    is_accepted sheet names ≡ true →
    is_accepted sheet' names' ≡ true →
    SameButAdded (records sheet names) (records sheet' names') →
    (class : ℕ) →
    occurrences (is_in_class class) (full_list sheet names) ≤ occurrences (is_in_class class) (full_list sheet' names')
unfolding rule_row
added-counts sheet names sheet' names' ok ok' same class =
    let together : ℕ → ℕ = λ c. elim (eqb c OrdinalReusedAfterRemoved) [ true ↦ OrdinalDuplicate | false ↦ c ] in
    let in_class : ℕ → ℕ → Bool = λ c s. eqb (together c) class in
    let bodies : BodiesCompare in_class ◌≤◌ (Added FieldsAdded) = λ ctx e. body-added ctx (of_rule in_class) refl in
    sheets-compare in_class ◌≤◌ (Added FieldsAdded) bodies sheet names sheet' names' ok ok' same.lead same.added
