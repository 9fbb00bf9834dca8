-- The variants of an enum or a union: what is known before each record, and what is still to add.
use Prim.Native.Nat.{ℕ, ◌+◌, ◌-◌, ◌≤◌, ◌<◌}
use native.Mathlib.Omega.{arith}
use mathlib.Core.Path.{◌≡◌, refl, sym, ap, ap₂, ◌∙◌}
use mathlib.Core.Bool.{Bool, true, false, not, ◌&&◌}
use mathlib.Core.List.{List, [], ◌++◌, flat_map}
use borrow.Author.Tests.{eqb-true}
use Rattle.rules.specs.declared.span.Span.{Span}
use Rattle.rules.specs.Words.{only_if, any_of, member, front, Item, items}
use Rattle.rules.specs.Kind
use Rattle.rules.specs.Record.{Rec, is, kind_in, value_in, record_bytes}
use Rattle.rules.specs.Context.{ValidationContext}
use Rattle.rules.specs.Grammar.{starts_item}
use Rattle.rules.specs.Rule.{Found}
use Rattle.rules.specs.Bodies.{is_member, items_violations, list_violations, body_items}
use Rattle.names.specs.View.{view_at, view_of}
use Rattle.names.specs.Known.{context_in, records_in}
use Rattle.diagnostic.specs.declared.violations.Violations.{Violations}
use Rattle.diagnostic.specs.Violations.{Adds}
use Rattle.diagnostic.proofs.Added.{adds_then}
use Rattle.types.proofs.Left.{Leaves, leaves_all, leaves_rest, leaves_none}
use Rattle.lists.specs.declared.ordinal.OrdinalRules.{OrdinalRules}
use Rattle.lists.specs.declared.whole.WholeRecords.{WholeRecords}
use Rattle.lists.specs.declared.items.MetItem.{MetItem}
use Rattle.lists.specs.Items.{Items, listed, IsItem, IsOther}
use Rattle.lists.specs.MetAt.{MetAt}
use Rattle.lists.specs.Earlier.{earlier}
use Rattle.bodies.specs.Runs.{in_item}
use Rattle.lists.specs.Ordinal.{scheme_of, member_found}
use Rattle.bodies.specs.VariantParts.{at_variant}
use Rattle.bodies.proofs.BodyItems.{item-member}
use Rattle.lists.proofs.Passing.{values, gone, before}
use Rattle.bodies.proofs.Turns.{names_of, left, turn-member, turn-other, turn-inner, turn-none}
use Rattle.bodies.proofs.Retired.{retired-items}
use Rattle.bodies.proofs.FieldTurns.{member-tests}

-- the kinds of a body
variant-starts : (r : Rec ℕ Span) → is Kind.Variant r ≡ true → starts_item r ≡ true
variant-starts r t = let k : r.kind ≡ Kind.Variant = eqb-true r.kind Kind.Variant t in rw k

variant-member : (r : Rec ℕ Span) → is Kind.Variant r ≡ true → is_member r ≡ true
variant-member r t = let k : r.kind ≡ Kind.Variant = eqb-true r.kind Kind.Variant t in rw k

module _ (body : WholeRecords) where
  abbrev sheet : List ℕ
  sheet = body.context.sheet.now

  abbrev a : ℕ
  a = body.range.start

  abbrev e : ℕ
  e = body.range.end

  abbrev at : ℕ → Rec ℕ Span
  at i = view_at sheet i

  -- the list of the body's variants
  abbrev pub variants_of : Items
  variants_of = listed sheet body.range Kind.Variant Kind.Tombstone

  -- before record i of the body
  pub record VariantsKnown (seen : Items) (i : ℕ) : Type 0 where
    pub list : seen ≡ variants_of
    pub least : a ≤ i
    pub most : i ≤ e

  module _ (rules : OrdinalRules) (parts : List (Rec ℕ Span) → List (Found Span)) where
    abbrev ctx : ValidationContext ℕ Span
    ctx = context_in body.context

    abbrev own : Item (Rec ℕ Span) → List (Found Span)
    own = at_variant parts

    abbrev tombs : List ℕ
    tombs = gone Kind.Variant Kind.Tombstone sheet a e

    abbrev variants : ℕ → List (Rec ℕ Span)
    variants i = before Kind.Variant Kind.Tombstone sheet a e i

    abbrev behind : ℕ → List (Rec ℕ Span)
    behind i = front in_item (view_of sheet (i + 1) e)

    -- what is found at the variants, and what is left to find from record i on
    abbrev pub variants_found : List (Found Span)
    variants_found = list_violations ctx (scheme_of rules) own (body_items (view_of sheet a e))

    abbrev pub variants_left : ℕ → List (Found Span)
    variants_left i = left ctx (scheme_of rules) own starts_item Kind.Variant sheet a e tombs i

    -- at the first record all is left
    pub left_first : (vs : Violations) → Leaves vs vs variants_found (variants_left a)
    unfolding earlier
    left_first vs =
        let none : a - a ≡ 0 = omega arith in
        let same : variants_left a ≡ variants_found =
        rw none (ap (λ xs. items_violations ctx (scheme_of rules) own xs [] [] (items starts_item (view_of sheet a e))) (sym (retired-items (view_of sheet a e)))) in
        rw (← same) (leaves_all vs (variants_left a))

    module _ (old now : Violations) (i : ℕ) (leaves : Leaves old now variants_found (variants_left i)) where
      -- at the end nothing is
      pub left_none : e ≤ i → Adds old now variants_found
      left_none h = leaves_none old now _ _ leaves (turn-none ctx (scheme_of rules) own starts_item Kind.Variant sheet a e tombs i h)

      module _ (seen : Items) (k : VariantsKnown seen i) (h : i < e) where
        -- a record that is no variant
        pub left_other : IsOther seen i → Leaves old now variants_found (variants_left (i + 1))
        left_other other = rw (go (starts_item (at i)) refl) at leaves
          where
            t : is Kind.Variant (at i) ≡ false
            t = (rw k.list at other) h

            go : (b : Bool) → starts_item (at i) ≡ b → variants_left i ≡ variants_left (i + 1)
            go true st =
                turn-other ctx (scheme_of rules) own starts_item Kind.Variant sheet a e tombs i k.least h st (item-member (at i) st ∙ t) t
                ∙ ap (λ b. only_if b (parts (behind i)) ++ variants_left (i + 1)) t
            go false st = turn-inner ctx (scheme_of rules) own starts_item Kind.Variant sheet a e tombs i k.least h st t

        -- no name is asked for
        names-free : (tombstoned met b c : Bool) (r : Rec ℕ Span) → member_found (scheme_of rules) tombstoned met b r ≡ member_found (scheme_of rules) tombstoned met c r
        unfolding member_found flat_map
        names-free tombstoned met b c r = refl

        -- a variant
        pub left_variant :
            (m : MetItem) (rest : WholeRecords) (mid new : Violations) → IsItem seen i → MetAt seen i m →
            rest.range ≡ record { start = i + 1; end = e } → rest.context ≡ body.context →
            Adds now mid (member_found (scheme_of rules) m.meeting.tombstoned m.meeting.met false (view_at m.sheet.now m.index)) →
            Adds mid new (parts (front in_item (records_in rest.context rest.range))) → Leaves old new variants_found (variants_left (i + 1))
        unfolding view_at
        left_variant m rest mid new variant told hr hc ordinal found =
            let test : is Kind.Variant (at i) ≡ true = (rw k.list at variant).1 in
            let gone : Bool = m.meeting.tombstoned in
            let again : Bool = any_of (ctx.same (at i).name) (names_of (variants i)) in
            let dead : gone ≡ member (value_in (record_bytes sheet i)) tombs = rw k.list at told.tombstoned in
            let met : m.meeting.met ≡ member (value_in (record_bytes sheet i)) (values (variants i)) = rw k.list at told.met in
            let here : List (Found Span) = member_found (scheme_of rules) gone m.meeting.met false (at i) in
            leaves_rest old now new _ _ (here ++ parts (behind i)) _ leaves
            (turn-member ctx (scheme_of rules) own starts_item Kind.Variant sheet a e tombs i k.least h (variant-starts (at i) test) (variant-member (at i) test) test
            ∙ ap₂ (λ xs b. xs ++ only_if b (parts (behind i)) ++ variants_left (i + 1))
            (sym (names-free gone m.meeting.met false again (at i)
            ∙ member-tests ctx (scheme_of rules) tombs (values (variants i)) (names_of (variants i)) (at i) gone m.meeting.met again dead
            (ap₂ (λ g m. not g && m) dead met)
            refl))
            test)
            (adds_then now mid new here (parts (behind i)) (rw (told.sheet, k.list, told.index) at ordinal) (rw (hc, hr) at found))
