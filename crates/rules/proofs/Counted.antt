-- The fields of an accepted sheet stand in its field lists, and each list is counted by itself: the other bodies have no fields, and no
-- other rule is of the two classes.
use Prim.Native.Nat.{ℕ, ◌+◌, ◌≤◌}
use native.Mathlib.Nat.{zero-add}
use native.Mathlib.Omega.{arith}
use mathlib.Core.Path.{◌≡◌, refl, ap, ap₂, ◌∙◌}
use mathlib.Core.Bool.{Bool, true, false, not, ◌||◌}
use mathlib.Core.Logic.{inl, inr}
use mathlib.Core.List.{List, [], ◌∷◌, map}
use lib.ListN.{length-append}
use borrow.Author.Tests.{eqb-true, ne_eqb, not-false}
use Rattle.std.proofs.lemmas.Bool.{or_cases, or_parts}
use Rattle.rules.specs.declared.span.Span.{Span}
use Rattle.rules.specs.Words.{within, any_of, select, front, same_bytes, Item, items}
use Rattle.rules.specs.Kind
use Rattle.rules.specs.Record.{Rec, is, records}
use Rattle.rules.specs.Head.{Body, message_body, enum_body, flags_body, union_body, newtype_body, body_of}
use Rattle.rules.specs.Context.{ValidationContext, context_of}
use Rattle.rules.specs.Grammar.{start, starts_item}
use Rattle.rules.specs.Rule.{Found, violation, OrdinalDuplicate}
use Rattle.rules.specs.Bodies.{body_items, body_violations, declaration_violations, violations_of}
use Rattle.rules.specs.Answer.{found_in, full_list, is_accepted}
use Rattle.rules.specs.Items.{starts_in, field_lists_in, sum_of, distinct, untombstoned, fields_in, field_lists, distinct_untombstoned, occurrences, is_in_class}
use Rattle.rules.proofs.Joined.{select-append}
use Rattle.rules.proofs.Every.{Every, every-nil, every-cons}
use Rattle.rules.proofs.Lists.{none_of-weaker}
use Rattle.rules.proofs.Taken.{within-true, outside-is}
use Rattle.rules.proofs.Accepted.{Parts, accepted-parts}
use Rattle.rules.proofs.Lead.{from-head, body-from-head, items-from-head}
use Rattle.rules.proofs.BodyKinds.{EnumBody, FlagsBody, NewtypeBody, UnionItem, BodyHas, accepted-body}
use Rattle.rules.proofs.AcceptedSheet.{accepted-clean}
use Rattle.rules.proofs.Lengths.{one}
use Rattle.rules.proofs.Occurrences.{occurrences-map}
use Rattle.rules.proofs.Repeats.{is_repeat, repeats, repeats-nil, enum-quiet, flags-quiet, newtype-quiet, variant_repeats, union-repeats}
use Rattle.rules.proofs.FieldListCounted.{fields-cons, list_counted}

no_fields : (N P : Type 0) → fields_in {N = N} {P = P} [] ≡ 0
unfolding fields_in select
no_fields N P = refl

module _ {N P : Type 0} where
  fields-none : (rs : List (Rec N P)) → any_of (is Kind.Field) rs ≡ false → fields_in rs ≡ 0
  unfolding any_of
  fields-none [] h = no_fields N P
  fields-none (r ∷ rs) h =
      fields-cons r rs ∙ rw ((or_parts (is Kind.Field r) _ h).0, zero-add) (fields-none rs (or_parts (is Kind.Field r) _ h).1)

  -- records of other kinds
  fields-other : (p : Rec N P → Bool) → ((r : Rec N P) → p r ≡ true → 12 ≤ r.kind) → (rs : List (Rec N P)) →
      any_of (λ r. not (p r)) rs ≡ false → fields_in rs ≡ 0
  fields-other p h rs k =
      fields-none rs
      (none_of-weaker (λ r. not (p r)) (is Kind.Field) (λ r e. ne_eqb r.kind 11 (λ q. omega (arith, h r (not-false (p r) e)))) rs k)

  enum_fields : (rs : List (Rec N P)) → EnumBody rs → fields_in rs ≡ 0
  enum_fields rs b =
      fields-other (λ r. within Kind.Variant Kind.Backing r.kind) (λ r q. omega (arith, within-true 14 16 r.kind q)) rs b.kinds

  flags-fields : (rs : List (Rec N P)) → FlagsBody rs → fields_in rs ≡ 0
  flags-fields rs b = fields-other starts_item (λ r q. omega (arith, within-true 14 15 r.kind q)) rs b.kinds

  newtype-fields : (rs : List (Rec N P)) → NewtypeBody rs → fields_in rs ≡ 0
  newtype-fields rs b = fields-other (λ r. is Kind.BitName r || Kind.is_type r.kind) kind rs b.kinds
    where
      kind : (r : Rec N P) → (is Kind.BitName r || Kind.is_type r.kind) ≡ true → 12 ≤ r.kind
      kind r h =
          elim (or_cases (is Kind.BitName r) (Kind.is_type r.kind) h) [
            | inl e ↦ omega (arith, eqb-true r.kind 22 e)
            | inr e ↦ omega (arith, within-true 30 48 r.kind e)
          ]

  -- the fields of a union stand before its items, or in one
  abbrev ItemsFields : List (Rec N P) → Type 0
  ItemsFields rs = fields_in rs ≡ fields_in (front (λ r. not (starts_item r)) rs) + sum_of (map (λ it. fields_in it.rest) (body_items rs))

  items-fields : (rs : List (Rec N P)) → ItemsFields rs
  unfolding front items sum_of fields_in select
  items-fields [] = refl
  items-fields (r ∷ rs) = go (starts_item r) refl (items-fields rs)
    where
      go : (b : Bool) → starts_item r ≡ b → ItemsFields rs → ItemsFields (r ∷ rs)
      go true e later =
          let k = within-true 14 15 r.kind e in
          let other : is Kind.Field r ≡ false = ne_eqb r.kind 11 (λ q. omega arith) in
          rw (e, front, items) (omega (arith, fields-cons r rs, ap one other))
      go false e later =
          rw (e, front, items) (omega (arith, fields-cons r rs, fields-cons r (front (λ r. not (starts_item r)) rs)))

  -- the distinct untombstoned ordinals of field lists
  abbrev distinct_in : List (List (Item (Rec N P))) → ℕ
  distinct_in lists = sum_of (map (λ its. distinct (untombstoned its)) lists)

  -- the field lists of a body
  abbrev lists_in : Body → List (Rec N P) → List (List (Item (Rec N P)))
  lists_in b rs = field_lists_in b (items (starts_in b) rs)

  module _ (same : N → N → Bool) (rs : List (Rec N P)) (p : Parts same start [] 0 rs) where
    -- the fields stand in the body
    fields-of-body : fields_in rs ≡ fields_in p.body
    unfolding fields_in
    fields-of-body =
        let other : is Kind.Field p.head ≡ false = rw (eqb-true p.head.kind 10 p.head_kind) in
        ap fields_in p.split
        ∙ rw
        (select-append, length-append)
        (omega (
          arith,
          fields-none p.before (none_of-weaker _ (is Kind.Field) (λ r. outside-is 10 16 11 r.kind refl) p.before p.before_kinds),
          fields-cons p.head p.body,
          ap one other,
        ))

    -- and so do the field lists
    lists-of-body : field_lists rs ≡ lists_in (body_of p.head.sub) p.body
    unfolding field_lists
    lists-of-body =
        ap field_lists p.split
        ∙ ap₂ field_lists_in
        (body-from-head p.before p.head p.body p.head_kind p.before_kinds)
        (items-from-head p.before p.head p.body p.head_kind p.before_kinds)

module _ {N P : Type 0} (ctx : ValidationContext N P) where
  -- each variant's fields are a list of their own
  abbrev VariantsCounted : List (Item (Rec N P)) → Type 0
  VariantsCounted its = sum_of (map (λ it. fields_in it.rest) its) ≡ distinct_in (field_lists_in union_body its) + sum_of (map (variant_repeats ctx) its)

  variants-counted : {its : List (Item (Rec N P))} → Every UnionItem its → VariantsCounted its
  unfolding sum_of select
  variants-counted every-nil = refl
  variants-counted (every-cons {x = it} {xs = its} u us) = go (is Kind.Variant it.head) refl (variants-counted us)
    where
      go : (b : Bool) → is Kind.Variant it.head ≡ b → VariantsCounted its → VariantsCounted (it ∷ its)
      go true e later = rw (e, select) (omega (arith, list_counted ctx it.rest))
      go false e later =
          let empty : fields_in it.rest ≡ 0 = rw (u.alone e) (no_fields N P) in
          rw (e, select) (omega (arith, repeats-nil P))

  -- the fields of a body are its distinct ordinals, or are told as repeats
  BodyCounted : Body → List (Rec N P) → Type 0
  BodyCounted b rs = fields_in rs ≡ distinct_in (lists_in b rs) + repeats (body_violations ctx b rs)

  -- a body with neither fields nor lists nor repeats
  bare-counted : (b : Body) (rs : List (Rec N P)) → fields_in rs ≡ 0 → lists_in b rs ≡ [] → repeats (body_violations ctx b rs) ≡ 0
      → BodyCounted b rs
  unfolding BodyCounted sum_of
  bare-counted b rs f l q = rw l (omega arith)

  body-counted : (b : Body) (rs : List (Rec N P)) → BodyHas b rs → BodyCounted b rs
  unfolding BodyCounted body_violations sum_of
  body-counted message_body rs has = omega (arith, list_counted ctx rs)
  body-counted enum_body rs has = bare-counted enum_body rs (enum_fields rs has) refl (enum-quiet ctx rs)
  body-counted flags_body rs has = bare-counted flags_body rs (flags-fields rs has) refl (flags-quiet ctx rs)
  body-counted union_body rs has =
      omega (arith, items-fields rs, ap fields_in has.begins, no_fields N P, variants-counted has.items, union-repeats ctx rs)
  body-counted newtype_body rs has = bare-counted newtype_body rs (newtype-fields rs has) refl (newtype-quiet ctx rs)

  module _ (same : N → N → Bool) (rs : List (Rec N P)) (p : Parts same start [] 0 rs) where
    violations-of-body : violations_of ctx rs ≡ body_violations ctx (body_of p.head.sub) p.body
    unfolding violations_of
    violations-of-body =
        ap (violations_of ctx) p.split
        ∙ ap (declaration_violations ctx) (from-head p.before p.head p.body p.head_kind p.before_kinds)

    parts-counted : fields_in rs ≡ distinct_untombstoned rs + repeats (violations_of ctx rs)
    unfolding BodyCounted
    parts-counted =
        omega (
          arith,
          fields-of-body same rs p,
          ap distinct_in (lists-of-body same rs p),
          ap repeats violations-of-body,
          body-counted (body_of p.head.sub) p.body (accepted-body p),
        )

-- the violations that tell of a repeated ordinal are those of the two classes
class-repeats : (fs : List (Found Span)) → occurrences (is_in_class OrdinalDuplicate) (map violation fs) ≡ repeats fs
unfolding repeats is_repeat
class-repeats = occurrences-map violation (is_in_class OrdinalDuplicate)

-- every field of an accepted sheet is a distinct untombstoned ordinal of its list, or has a violation of one of the two classes
pub counted : (sheet names : List ℕ) → is_accepted sheet names ≡ true →
    fields_in (records sheet names) ≡ distinct_untombstoned (records sheet names) + occurrences (is_in_class OrdinalDuplicate) (full_list sheet names)
unfolding full_list found_in
counted sheet names h =
    let rs = records sheet names in
    rw class-repeats (parts-counted (context_of rs) same_bytes rs (accepted-parts same_bytes rs (accepted-clean sheet names h)))
