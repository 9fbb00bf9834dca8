-- The rules of a field list compare the names of its fields, which have good ones; no other body's rules look at the names of its items. The rest is
-- left to the rules of fields. So records under other names break the same rules at the same places.
use Prim.Native.Nat.{ℕ}
use mathlib.Core.Path.{◌≡◌, refl, sym, ap, ap₂, ◌∙◌}
use mathlib.Core.Bool.{Bool, true, false, not, ◌&&◌, ◌||◌, true≢false}
use mathlib.Core.List.{List, [], ◌∷◌, ◌++◌, map, flat_map}
use lib.Dec.{ltb}
use borrow.Author.Tests.{eqb-true}
use Rattle.rules.specs.Words.{only_if, any_of, select, member, Item, items}
use Rattle.rules.specs.Kind
use Rattle.rules.specs.Sub
use Rattle.rules.specs.Record.{Rec, is}
use Rattle.rules.specs.Head.{Body, message_body, enum_body, flags_body, union_body, newtype_body, body_of}
use Rattle.rules.specs.Asked.{is_compared}
use Rattle.rules.specs.Context.{ValidationContext, declared_as}
use Rattle.rules.specs.Grammar.{starts_field_item, starts_item}
use Rattle.rules.specs.Rule.{Found, found_if}
use Rattle.rules.specs.Bodies.{Scheme, found_all, is_member, slot_of, slots, retired_ordinals, member_violations, items_violations, list_violations}
use Rattle.rules.specs.Bodies.{field_scheme, enum_scheme, flags_scheme, union_scheme, field_item_violations, field_list_violations}
use Rattle.rules.specs.Bodies.{backing_max, used_ordinals, body_items, backing_violations, enum_violations, flags_violations, union_violations, newtype_violations, body_violations, declaration_violations, violations_of}
use Rattle.rules.proofs.Every.{Every, EveryOf, every-nil, every-cons, every_rest, every-items-as, every-as}
use Rattle.rules.proofs.Mapped.{map_item, rest-map, items_map, select-same, flat_map-map}
use Rattle.rules.proofs.Renamed.{renamed, WellNamed, Alike, named, as-renamed, named-renamed, met-renamed}
use Rattle.rules.proofs.RenamedFields.{field-renamed}

-- rules that there are
abbrev is_ruled : List ℕ → Bool
is_ruled [] = false
is_ruled (rule ∷ rules) = true

-- a member that starts an item of a field list is a field
field-member : {N P : Type 0} (r : Rec N P) → starts_field_item r ≡ true → is_member r ≡ true → is Kind.Field r ≡ true
field-member r starts h = go (is Kind.Field r) refl h
  where
    go : (b : Bool) → is Kind.Field r ≡ b → (b || is Kind.Variant r) ≡ true → is Kind.Field r ≡ true
    go true e h' = e
    go false e h' = absurd (true≢false (sym starts ∙ rw (eqb-true r.kind Kind.Variant h')))

module _ {M N P : Type 0} {g : M → N} {Good Worded Spelled : M → Type 0} {ctx : ValidationContext N P} {ctx' : ValidationContext M P}
    (alike : Alike g Good Worded Spelled ctx ctx') where
  -- names that rules compare, if there are any, are met under other names just if they are met
  names-renamed :
      (rules : List ℕ) (place : P) (m : M) {names : List M} → (is_ruled rules ≡ true → Good m) → Every (λ k. is_ruled rules ≡ true → Good k) names →
      found_all rules (any_of (ctx.same (g m)) (map g names)) place ≡ found_all rules (any_of (ctx'.same m) names) place
  unfolding flat_map
  names-renamed [] place m good hs = refl
  names-renamed (rule ∷ rules) place m good hs =
      ap (λ met. found_all (rule ∷ rules) met place) (met-renamed alike m (good refl) (every-as (λ k h. h refl) hs))

  -- the rules of a scheme at an item
  member-renamed :
      (s : Scheme) (gone met : List ℕ) {names : List M} (r : Rec M P) → Every (λ k. is_ruled s.renamed ≡ true → Good k) names →
      (is_ruled s.renamed ≡ true → Good r.name) →
      member_violations ctx s gone met (map g names) (renamed g r) ≡ member_violations ctx' s gone met names r
  unfolding member_violations
  member-renamed s gone met {names} r hs good =
      λ i. found_all s.over (ltb s.greatest r.value) r.ordinal_place
      ++ found_all s.tombstoned (member r.value gone) r.ordinal_place
      ++ found_all s.repeated (not (member r.value gone) && member r.value met) r.ordinal_place
      ++ names-renamed s.renamed r.place r.name good hs i

  -- what the items say of ordinals
  slots-renamed : (its : List (Item (Rec M P))) → slots (map (map_item (renamed g)) its) ≡ slots its
  slots-renamed = flat_map-map (map_item (renamed g)) slot_of

  module _ (s : Scheme) (own : Item (Rec N P) → List (Found P)) (own' : Item (Rec M P) → List (Found P)) where
    -- the item by itself breaks the same rules, and a name that the scheme's rules compare is a good one
    record SameItem (it : Item (Rec M P)) : Type 0 where
      good : is_member it.head ≡ true → is_ruled s.renamed ≡ true → Good it.head.name
      alone : own (map_item (renamed g) it) ≡ own' it

    items-renamed :
        (gone met : List ℕ) {names : List M} {its : List (Item (Rec M P))} → Every (λ k. is_ruled s.renamed ≡ true → Good k) names → Every SameItem its →
        items_violations ctx s own gone met (map g names) (map (map_item (renamed g)) its) ≡ items_violations ctx' s own' gone met names its
    unfolding items_violations
    items-renamed gone met hs every-nil = refl
    items-renamed gone met {names} hs (every-cons {x = it} {xs = its} h hits) =
        choice (is_member it.head) _ _ _ _
        (λ e. let good = h.good e in
        λ i. member-renamed s gone met it.head hs good i
        ++ h.alone i
        ++ items-renamed gone (it.head.value ∷ met) (every-cons good hs) hits i)
        (ap₂ ◌++◌ h.alone (items-renamed gone met hs hits))
      where
        choice : (b : Bool) (x x' y y' : List (Found P)) → (b ≡ true → x ≡ x') → y ≡ y' →
            ◌≡◌ {A = List (Found P)} (elim b [ true ↦ x | false ↦ y ]) (elim b [ true ↦ x' | false ↦ y' ])
        choice true x x' y y' d e = d refl
        choice false x x' y y' d e = e

    list-renamed :
        {its : List (Item (Rec M P))} → Every SameItem its →
        list_violations ctx s own (map (map_item (renamed g)) its) ≡ list_violations ctx' s own' its
    list-renamed {its} h =
        ap (λ said. items_violations ctx s own (retired_ordinals said) [] [] (map (map_item (renamed g)) its)) (slots-renamed its)
        ∙ items-renamed (retired_ordinals (slots its)) [] every-nil h

  field-item-renamed :
      (it : Item (Rec M P)) → EveryOf (WellNamed Good Worded Spelled) it →
      field_item_violations ctx (map_item (renamed g) it) ≡ field_item_violations ctx' it
  unfolding field_item_violations
  field-item-renamed it h =
      ap (λ vs. found_if 1 (is Kind.Invariant it.head) it.head.place ++ only_if (is Kind.Field it.head) vs)
      (field-renamed alike h.rest)

  -- the items of a body
  body-items-renamed :
      (s : Scheme) (own : Item (Rec N P) → List (Found P)) (own' : Item (Rec M P) → List (Found P)) (start : Rec N P → Bool) →
      ((it : Item (Rec M P)) → EveryOf (WellNamed Good Worded Spelled) it → own (map_item (renamed g) it) ≡ own' it) →
      ((r : Rec M P) → start (renamed g r) ≡ true → WellNamed Good Worded Spelled r → is_member r ≡ true → is_ruled s.renamed ≡ true → Good r.name) →
      {rs : List (Rec M P)} → Every (WellNamed Good Worded Spelled) rs →
      list_violations ctx s own (items start (map (renamed g) rs)) ≡ list_violations ctx' s own' (items (λ r. start (renamed g r)) rs)
  body-items-renamed s own own' start alone good {rs} h =
      ap (list_violations ctx s own) (items_map (renamed g) start rs)
      ∙ list-renamed s own own'
      (every-items-as (λ r. start (renamed g r)) (λ it e w. record { good = good it.head e w.head; alone = alone it w }) h)

  -- the names of the members are not compared
  unruled : (r : Rec M P) → WellNamed Good Worded Spelled r → is_member r ≡ true → false ≡ true → Good r.name
  unruled r w h e = absurd (true≢false (sym e))

  fields_renamed :
      {rs : List (Rec M P)} → Every (WellNamed Good Worded Spelled) rs →
      field_list_violations ctx (map (renamed g) rs) ≡ field_list_violations ctx' rs
  unfolding field_list_violations any_of
  fields_renamed =
      body-items-renamed field_scheme _ _ starts_field_item field-item-renamed
      (λ r starts w h ruled. w.good (named is_compared Kind.Field refl refl r (field-member r starts h)))

  backing-renamed :
      {body : List (Rec M P)} → Every (WellNamed Good Worded Spelled) body →
      backing_violations ctx (map (renamed g) body) ≡ backing_violations ctx' body
  backing-renamed {body} h =
      let said = ap slots (items_map (renamed g) starts_item body) ∙ slots-renamed (body_items body) in
      let backings = select-same (renamed g) (is Kind.Backing) (is Kind.Backing) (every-as (λ r w. refl) h) in
      (λ i. flat_map (λ b. found_if 33 (any_of (ltb (backing_max b.sub)) (used_ordinals (said i))) b.place) (backings i))
      ∙ flat_map-map (renamed g)
      (λ b. found_if 33 (any_of (ltb (backing_max b.sub)) (used_ordinals (slots (body_items body)))) b.place)
      (select (is Kind.Backing) body)

  enum-renamed :
      {body : List (Rec M P)} → Every (WellNamed Good Worded Spelled) body →
      enum_violations ctx (map (renamed g) body) ≡ enum_violations ctx' body
  unfolding enum_violations
  enum-renamed {body} h =
      ap₂ ◌++◌
      (body-items-renamed enum_scheme (λ it. []) (λ it. []) starts_item (λ it w. refl) (λ r starts. unruled r) h)
      (backing-renamed h)

  flags-renamed :
      {body : List (Rec M P)} → Every (WellNamed Good Worded Spelled) body →
      flags_violations ctx (map (renamed g) body) ≡ flags_violations ctx' body
  unfolding flags_violations
  flags-renamed = body-items-renamed flags_scheme (λ it. []) (λ it. []) starts_item (λ it w. refl) (λ r starts. unruled r)

  union-renamed :
      {body : List (Rec M P)} → Every (WellNamed Good Worded Spelled) body →
      union_violations ctx (map (renamed g) body) ≡ union_violations ctx' body
  unfolding union_violations
  union-renamed =
      body-items-renamed union_scheme _ _ starts_item (λ it w. ap (only_if (is Kind.Variant it.head)) (fields_renamed w.rest))
      (λ r starts. unruled r)

  newtype-renamed :
      {body : List (Rec M P)} → Every (WellNamed Good Worded Spelled) body →
      newtype_violations ctx (map (renamed g) body) ≡ newtype_violations ctx' body
  unfolding newtype_violations
  newtype-renamed every-nil = refl
  newtype-renamed (every-cons {x = t} w h) =
      λ i. found_if 37 (declared Sub.Newtype i) t.place ++ found_if 38 (declared Sub.Config i) t.place
    where
      declared : (sub : ℕ) → (is Kind.Named t && declared_as ctx sub (g t.name)) ≡ (is Kind.Named t && declared_as ctx' sub t.name)
      declared sub = named-renamed alike t w (declared_as ctx sub) (declared_as ctx' sub) (as-renamed alike sub)

  body-renamed :
      (b : Body) {rs : List (Rec M P)} → Every (WellNamed Good Worded Spelled) rs →
      body_violations ctx b (map (renamed g) rs) ≡ body_violations ctx' b rs
  unfolding body_violations
  body-renamed message_body h = fields_renamed h
  body-renamed enum_body h = enum-renamed h
  body-renamed flags_body h = flags-renamed h
  body-renamed union_body h = union-renamed h
  body-renamed newtype_body h = newtype-renamed h

  declaration-renamed :
      {rs : List (Rec M P)} → Every (WellNamed Good Worded Spelled) rs →
      declaration_violations ctx (map (renamed g) rs) ≡ declaration_violations ctx' rs
  declaration-renamed every-nil = refl
  declaration-renamed (every-cons {x = head} w h) = body-renamed (body_of head.sub) h

  -- well named records break the same rules at the same places under their other names
  pub violations-renamed :
      {rs : List (Rec M P)} → Every (WellNamed Good Worded Spelled) rs →
      violations_of ctx (map (renamed g) rs) ≡ violations_of ctx' rs
  unfolding violations_of
  violations-renamed {rs} h =
      rw (rest-map (renamed g) (λ r. not (is Kind.Head r)) rs) (declaration-renamed (every_rest (λ r. not (is Kind.Head r)) h))
