-- No record answers for more than three violations: a member of a list breaks at most three rules of its list, and the records of a field
-- at most three each.
use Prim.Native.Nat.{ℕ, suc, ◌+◌, ◌*◌, ◌≤◌, zero-le, max}
use native.Mathlib.Nat.{le_refl, le_trans, mul-add, mul-le-mul_left}
use native.Mathlib.Omega.{arith}
use mathlib.Core.Path.{◌≡◌, refl, ap}
use mathlib.Core.Bool.{Bool, true, false, not, ◌&&◌}
use mathlib.Core.List.{List, [], ◌∷◌, map, flat_map}
use lib.ListN.{length, length-append, length-map}
use lib.Dec.{eqb, ltb}
use Rattle.rules.specs.Words.{number_if, only_if, any_of, member, select, rest, Item, items}
use Rattle.rules.specs.Kind
use Rattle.rules.specs.Sub
use Rattle.rules.specs.Record.{Rec, is, records}
use Rattle.rules.specs.Head.{Body, message_body, enum_body, flags_body, union_body, newtype_body, body_of}
use Rattle.rules.specs.Context.{ValidationContext, declared_as, context_of}
use Rattle.rules.specs.Grammar.{starts_field_item, starts_item}
use Rattle.rules.specs.Rule.{Found, found_if}
use Rattle.rules.specs.Bodies.{list_violations, declaration_violations, used_ordinals, backing_max, slots, retired_ordinals, Scheme, field_scheme, enum_scheme, flags_scheme, union_scheme, is_member, body_items, found_all, member_violations, items_violations, field_violations, field_item_violations, field_list_violations, enum_violations, flags_violations, union_violations, newtype_violations, body_violations, violations_of}
use Rattle.rules.specs.Answer.{found_in, full_list, most_per_record, max_total, is_accepted}
use Rattle.rules.specs.Buffer.{violation_size, max_list_size}
use Rattle.rules.specs.Items.{sum_of}
use Rattle.rules.proofs.Records.{length-records}
use Rattle.rules.proofs.Joined.{length-select}
use Rattle.rules.proofs.AcceptedSheet.{accepted-length}
use Rattle.rules.proofs.Lengths.{one, one-bound, one-or, one-eqb, number_if-le, length-only_if, only_if-bound, front-rest-length, size, items-size, flat_map-one}
use Rattle.rules.proofs.FieldBound.{field_bound}

-- as many as there are rules, where the test says so
found_all-length : {P : Type 0} (rules : List ℕ) (bad : Bool) (place : P) → length (found_all rules bad place) ≡ number_if bad (length rules)
unfolding flat_map
found_all-length [] true place = refl
found_all-length [] false place = refl
found_all-length (rule ∷ rules) true place = ap suc (found_all-length rules true place)
found_all-length (rule ∷ rules) false place = found_all-length rules false place

one_of_two : (m n : ℕ) (a b : Bool) → number_if a m + number_if (not a && b) n ≤ max m n
one_of_two m n true b = omega arith
one_of_two m n false true = omega arith
one_of_two m n false false = omega arith

module _ {N P : Type 0} (ctx : ValidationContext N P) where
  -- the rules of a scheme at a member: no ordinal is both tombstoned and repeated
  member-bound : (s : Scheme) (gone met : List ℕ) (names : List N) (r : Rec N P) →
      length (member_violations ctx s gone met names r)
      ≤ length s.over + max (length s.tombstoned) (length s.repeated) + length s.renamed
  unfolding member_violations
  member-bound s gone met names r =
      simp
      (length-append, found_all-length)
      (omega (
        arith,
        number_if-le (ltb s.greatest r.value) (length s.over),
        one_of_two (length s.tombstoned) (length s.repeated) (member r.value gone) (member r.value met),
        number_if-le (any_of (ctx.same r.name) names) (length s.renamed),
      ))

  -- items of which a member breaks at most m rules of the list, and which break few by themselves
  items-bound : (m n : ℕ) (s : Scheme) (own : Item (Rec N P) → List (Found P)) (gone : List ℕ) →
      ((met : List ℕ) (names : List N) (r : Rec N P) → length (member_violations ctx s gone met names r) ≤ m) →
      ((it : Item (Rec N P)) → m * one (is_member it.head) + length (own it) ≤ n * size it) →
      (met : List ℕ) (names : List N) (its : List (Item (Rec N P))) →
      length (items_violations ctx s own gone met names its) ≤ n * sum_of (map size its)
  unfolding items_violations sum_of
  items-bound m n s own gone h g met names [] = zero-le
  items-bound m n s own gone h g met names (it ∷ its) =
      rw mul-add (go (is_member it.head) refl (g it) (λ met' names'. items-bound m n s own gone h g met' names' its))
    where
      go : (b : Bool) → is_member it.head ≡ b →
          m * one (is_member it.head) + length (own it) ≤ n * size it →
          ((met' : List ℕ) (names' : List N) → length (items_violations ctx s own gone met' names' its) ≤ n * sum_of (map size its)) →
          length (items_violations ctx s own gone met names (it ∷ its)) ≤ n * size it + n * sum_of (map size its)
      go true e f later =
          rw
          (e, items_violations, length-append, length-append)
          (omega (arith, rw e at f, h met names it.head, later (it.head.value ∷ met) (it.head.name ∷ names)))
      go false e f later = rw (e, items_violations, length-append) (omega (arith, later met names))

  -- a list cut into such items
  list-bound : (m n : ℕ) (s : Scheme) (own : Item (Rec N P) → List (Found P)) →
      length s.over + max (length s.tombstoned) (length s.repeated) + length s.renamed ≤ m →
      ((it : Item (Rec N P)) → m * one (is_member it.head) + length (own it) ≤ n * size it) →
      (start : Rec N P → Bool) (rs : List (Rec N P)) → length (list_violations ctx s own (items start rs)) ≤ n * length rs
  list-bound m n s own h g start rs =
      let its = items start rs in
      let gone = retired_ordinals (slots its) in
      le_trans
      (items-bound m n s own gone (λ met names r. le_trans (member-bound s gone met names r) h) g [] [] its)
      (mul-le-mul_left n (omega (arith, items-size start rs)))

  -- an item of a field list: an invariant breaks one rule and is no member
  field-item-bound : (it : Item (Rec N P)) → 3 * one (is_member it.head) + length (field_item_violations ctx it) ≤ most_per_record * size it
  unfolding field_item_violations
  field-item-bound it =
      let k = it.head.kind in
      simp
      (length-append, length-only_if)
      (omega (
        arith,
        one-or (eqb k Kind.Field) (eqb k Kind.Variant),
        one-eqb k 0 Kind.Field zero-le,
        one-eqb k Kind.FieldTombstone Kind.Invariant (omega arith),
        one-eqb k Kind.Variant Kind.Variant (le_refl _),
        one-bound (ltb k Kind.Tombstone),
        number_if-le (is Kind.Field it.head) (length (field_violations ctx it.rest)),
        field_bound ctx it.rest,
      ))

  field-list-bound : (rs : List (Rec N P)) → length (field_list_violations ctx rs) ≤ most_per_record * length rs
  unfolding field_list_violations
  field-list-bound = list-bound 3 3 field_scheme (field_item_violations ctx) (le_refl 3) field-item-bound starts_field_item

  -- a variant breaks two rules, and its fields theirs
  variant-bound : (it : Item (Rec N P)) →
      2 * one (is_member it.head) + length (only_if (is Kind.Variant it.head) (field_list_violations ctx it.rest)) ≤ most_per_record * size it
  variant-bound it =
      omega (
        arith,
        one-bound (is_member it.head),
        only_if-bound (is Kind.Variant it.head) (field_list_violations ctx it.rest),
        field-list-bound it.rest,
      )

  -- a variant of an enum or a bit of flags breaks two rules, and has nothing of its own
  bare-bound : (it : Item (Rec N P)) → 2 * one (is_member it.head) + 0 ≤ 2 * size it
  bare-bound it = omega (arith, one-bound (is_member it.head))

  enum-bound : (body : List (Rec N P)) → length (enum_violations ctx body) ≤ most_per_record * length body
  unfolding enum_violations
  enum-bound body =
      rw
      length-append
      (omega (
        arith,
        list-bound 2 2 enum_scheme (λ it. []) (le_refl 2) bare-bound starts_item body,
        flat_map-one
            (λ b. found_if 33 (any_of (ltb (backing_max b.sub)) (used_ordinals (slots (body_items body)))) b.place)
            (λ b. only_if-bound (any_of (ltb (backing_max b.sub)) (used_ordinals (slots (body_items body)))) _)
            (select (is Kind.Backing) body),
        length-select (is Kind.Backing) body,
      ))

  flags-bound : (body : List (Rec N P)) → length (flags_violations ctx body) ≤ most_per_record * length body
  unfolding flags_violations
  flags-bound body = omega (arith, list-bound 2 2 flags_scheme (λ it. []) (omega arith) bare-bound starts_item body)

  union-bound : (body : List (Rec N P)) → length (union_violations ctx body) ≤ most_per_record * length body
  unfolding union_violations
  union-bound = list-bound 2 3 union_scheme _ (le_refl 2) variant-bound starts_item

  newtype-bound : (body : List (Rec N P)) → length (newtype_violations ctx body) ≤ most_per_record * length body
  unfolding newtype_violations
  newtype-bound [] = zero-le
  newtype-bound (t ∷ rs) =
      simp
      (length-append, length-only_if)
      (omega (
        arith,
        one-bound (is Kind.Named t && declared_as ctx Sub.Newtype t.name),
        one-bound (is Kind.Named t && declared_as ctx Sub.Config t.name),
      ))

  body-bound : (b : Body) (rs : List (Rec N P)) → length (body_violations ctx b rs) ≤ most_per_record * length rs
  unfolding body_violations
  body-bound message_body = field-list-bound
  body-bound enum_body = enum-bound
  body-bound flags_body = flags-bound
  body-bound union_body = union-bound
  body-bound newtype_body = newtype-bound

  violations-bound : (rs : List (Rec N P)) → length (violations_of ctx rs) ≤ most_per_record * length rs
  unfolding violations_of
  violations-bound rs = go (rest (λ r. not (is Kind.Head r)) rs) (omega (arith, front-rest-length (λ r. not (is Kind.Head r)) rs))
    where
      go : (own : List (Rec N P)) → length own ≤ length rs → length (declaration_violations ctx own) ≤ most_per_record * length rs
      go [] h = zero-le
      go (head ∷ body) h = omega (arith, body-bound (body_of head.sub) body)

-- the total is at most three times the records
pub total-bound : (sheet names : List ℕ) → length (full_list sheet names) ≤ most_per_record * length (records sheet names)
unfolding full_list found_in
total-bound sheet names = rw length-map (violations-bound (context_of (records sheet names)) (records sheet names))

-- so the total of an accepted sheet is at most that for the records of the longest,
pub accepted-total : (sheet names : List ℕ) → is_accepted sheet names ≡ true → length (full_list sheet names) ≤ max_total
accepted-total sheet names h =
    omega (
      arith,
      total-bound sheet names,
      length-records sheet names,
      accepted-length sheet names h,
    )

-- and a buffer for so many holds its list
pub list-fits : (sheet names : List ℕ) → is_accepted sheet names ≡ true → violation_size * length (full_list sheet names) ≤ max_list_size
list-fits sheet names h = mul-le-mul_left violation_size (accepted-total sheet names h)
