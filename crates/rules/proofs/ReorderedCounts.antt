-- Reordered items are counted alike in their list, and the rest of the sheet is the same.
use Prim.Native.Nat.{ℕ}
use mathlib.Core.Path.{◌≡◌, refl, ap, ap₂, fun_ext}
use mathlib.Core.Bool.{Bool, true, false, ◌&&◌}
use mathlib.Core.List.{List, [], flat_map}
use lib.Dec.{eqb, ltb}
use Rattle.rules.specs.Words.{only_if, select, any_of, items}
use Rattle.rules.specs.Kind
use Rattle.rules.specs.Record.{Rec, is, records}
use Rattle.rules.specs.Head.{Body, message_body, enum_body, flags_body, union_body, newtype_body}
use Rattle.rules.specs.Context.{ValidationContext}
use Rattle.rules.specs.Rule.{Found, found_if}
use Rattle.rules.specs.Bodies.{field_scheme, enum_scheme, flags_scheme, union_scheme, backing_max, used_ordinal, used_ordinals, slots, field_items, body_items, field_item_violations, field_list_violations, backing_violations, enum_violations, flags_violations, union_violations, newtype_violations, body_violations}
use Rattle.rules.specs.Answer.{is_accepted, full_list}
use Rattle.rules.specs.Items.{starts_in, Moved, FieldsMoved, SameButOrder, occurrences, is_like}
use Rattle.rules.proofs.Occurrences.{occurrences-append}
use Rattle.rules.proofs.ItemCounts.{rule_tally}
use Rattle.rules.proofs.Cut.{cut_item, field_items-cut}
use Rattle.rules.proofs.SameLead.{SameBesideItems}
use Rattle.rules.proofs.SheetCounts.{of_rule, BodiesCompare, sheets-compare}
use Rattle.rules.proofs.Moved.{Tells, same_bytes-tells, moved-map, moved-slots, moved-list}

module _ {N P : Type 0} where
  -- the items of a message body move whole
  whole-moved : (xs ys : List (Rec N P)) → Moved FieldsMoved (field_items xs) (field_items ys) → Moved ◌≡◌ (field_items xs) (field_items ys)
  whole-moved xs ys m =
      rw (field_items-cut xs, field_items-cut ys) at (moved-map {S = ◌≡◌} cut_item (λ a b r i. record { head = r.head i; rest = r.lead i }) m)

module _ {N P : Type 0} (ctx : ValidationContext N P) (tells : Tells ctx.same) (p : ℕ → Bool) where
  only-alike : (b : Bool) (xs ys : List (Found P)) → rule_tally p xs ≡ rule_tally p ys → rule_tally p (only_if b xs) ≡ rule_tally p (only_if b ys)
  only-alike true xs ys e = e
  only-alike false xs ys e = refl

  field-list-moved :
      (xs ys : List (Rec N P)) →
      Moved ◌≡◌ (field_items xs) (field_items ys) → rule_tally p (field_list_violations ctx xs) ≡ rule_tally p (field_list_violations ctx ys)
  unfolding field_list_violations
  field-list-moved xs ys m =
      moved-list
      (λ a b r. ap (λ it. it.head) r)
      ctx
      tells
      p
      field_scheme
      (field_item_violations ctx)
      (λ a b r. ap (λ it. rule_tally p (field_item_violations ctx it)) r)
      m

  backing-moved :
      (xs ys : List (Rec N P)) →
      select (is Kind.Backing) xs ≡ select (is Kind.Backing) ys →
      Moved FieldsMoved (body_items xs) (body_items ys) →
      backing_violations ctx xs ≡ backing_violations ctx ys
  backing-moved xs ys e m = ap₂ flat_map (fun_ext (λ b. ap (λ bad. found_if 33 bad b.place) (alike b))) e
    where
      alike :
          (b : Rec N P) →
          any_of (ltb (backing_max b.sub)) (used_ordinals (slots (body_items xs)))
          ≡ any_of (ltb (backing_max b.sub)) (used_ordinals (slots (body_items ys)))
      alike b = moved-slots (λ a b r. r.head) used_ordinal (ltb (backing_max b.sub)) m

  body-moved :
      (b : Body) (xs ys : List (Rec N P)) →
      Moved FieldsMoved (items (starts_in b) xs) (items (starts_in b) ys) →
      SameBesideItems b xs ys →
      rule_tally p (body_violations ctx b xs) ≡ rule_tally p (body_violations ctx b ys)
  unfolding body_violations enum_violations flags_violations union_violations
  body-moved message_body xs ys m beside = field-list-moved xs ys (whole-moved xs ys m)
  body-moved enum_body xs ys m beside =
      let own = moved-list (λ a b r. r.head) ctx tells p enum_scheme (λ it. []) (λ a b r. refl) m in
      simp (occurrences-append, own, backing-moved xs ys beside m)
  body-moved flags_body xs ys m beside =
      moved-list (λ a b r. r.head) ctx tells p flags_scheme (λ it. []) (λ a b r. refl) m
  body-moved union_body xs ys m beside =
      moved-list
      (λ a b r. r.head)
      ctx
      tells
      p
      union_scheme
      (λ it. only_if (is Kind.Variant it.head) (field_list_violations ctx it.rest))
      (λ a b r. rw r.head (only-alike (is Kind.Variant b.head) _ _ (field-list-moved a.rest b.rest r.fields)))
      m
  body-moved newtype_body xs ys m beside = ap (λ rs. rule_tally p (newtype_violations ctx rs)) beside

-- the items of a body, or of its variants' fields, in any other order: every violation occurs equally often
pub reordered-counts :
    (sheet names sheet' names' : List ℕ) →
    is_accepted sheet names ≡ true →
    is_accepted sheet' names' ≡ true →
    SameButOrder (records sheet names) (records sheet' names') →
    (class severity : ℕ) →
    occurrences (is_like class severity) (full_list sheet names) ≡ occurrences (is_like class severity) (full_list sheet' names')
reordered-counts sheet names sheet' names' ok ok' same class severity =
    let like : ℕ → ℕ → Bool = λ c s. eqb c class && eqb s severity in
    let bodies : BodiesCompare like ◌≡◌ (Moved FieldsMoved) = λ ctx e. body-moved ctx (rw e same_bytes-tells) (of_rule like) in
    sheets-compare like ◌≡◌ (Moved FieldsMoved) bodies sheet names sheet' names' ok ok' same.lead same.moved
