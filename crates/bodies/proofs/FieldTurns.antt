-- A field list, record by record.
use Prim.Native.Nat.{ℕ, ◌+◌, ◌≤◌, ◌<◌}
use native.Mathlib.Omega.{arith}
use mathlib.Core.Path.{◌≡◌, refl, sym, ap, ap₂, ◌∙◌}
use mathlib.Core.Bool.{Bool, true, false, not, ◌&&◌}
use mathlib.Core.List.{List, ◌++◌, append-nil}
use lib.Dec.{ltb}
use borrow.Author.Tests.{eqb-true, ne_eqb}
use Rattle.rules.specs.declared.span.Span.{Span}
use Rattle.rules.specs.Words.{only_if, any_of, member, front}
use Rattle.rules.specs.Kind
use Rattle.rules.specs.Record.{Rec, is}
use Rattle.rules.specs.Grammar.{starts_field_item}
use Rattle.rules.specs.Context.{ValidationContext}
use Rattle.rules.specs.Rule.{Found, found_if}
use Rattle.rules.specs.Bodies.{Scheme, field_scheme, found_all, is_member, member_violations, field_violations, field_item_violations}
use Rattle.rules.proofs.Taken.{within-true, outside-is}
use Rattle.names.specs.View.{view_at, view_of, context_by}
use Rattle.diagnostic.specs.declared.violations.Violations.{Violations}
use Rattle.diagnostic.specs.Violations.{Adds}
use Rattle.diagnostic.proofs.Added.{adds_then}
use Rattle.bodies.specs.Runs.{in_field, EndsAt}
use Rattle.lists.specs.Ordinal.{member_found}
use Rattle.bodies.specs.Items.{field_found}
use Rattle.lists.proofs.Passing.{values, before}
use Rattle.bodies.proofs.Turns.{names_of, left, turn-member, turn-other, turn-inner}

-- what the tests say is what the rules of a scheme ask
pub member-tests :
    (ctx : ValidationContext ℕ Span) (s : Scheme) (gone met names : List ℕ) (r : Rec ℕ Span) (tombstoned again renamed : Bool) →
    tombstoned ≡ member r.value gone → (not tombstoned && again) ≡ (not (member r.value gone) && member r.value met) →
    renamed ≡ any_of (ctx.same r.name) names →
    member_found s tombstoned again renamed r ≡ member_violations ctx s gone met names r
unfolding member_found member_violations
member-tests ctx s gone met names r tombstoned again renamed ht hm hn =
    λ i.
    found_all s.over (ltb s.greatest r.value) r.ordinal_place
    ++ found_all s.tombstoned (ht i) r.ordinal_place
    ++ found_all s.repeated (hm i) r.ordinal_place
    ++ found_all s.renamed (hn i) r.place

-- the kinds of a field list
field-starts : (r : Rec ℕ Span) → is Kind.Field r ≡ true → starts_field_item r ≡ true
field-starts r t = let k : r.kind ≡ 11 = eqb-true r.kind 11 t in rw k

field-member : (r : Rec ℕ Span) → is Kind.Field r ≡ true → is_member r ≡ true
field-member r t = let k : r.kind ≡ 11 = eqb-true r.kind 11 t in rw k

field_plain : (r : Rec ℕ Span) → is Kind.Field r ≡ true → is Kind.Invariant r ≡ false
field_plain r t = let k : r.kind ≡ 11 = eqb-true r.kind 11 t in rw k

other-member : (r : Rec ℕ Span) → starts_field_item r ≡ true → is Kind.Field r ≡ false → is_member r ≡ false
other-member r st t =
    let k = within-true Kind.Field Kind.Invariant r.kind st in
    rw (t, ne_eqb r.kind Kind.Variant (λ q. omega arith))

invariant-starts : (r : Rec ℕ Span) → starts_field_item r ≡ false → is Kind.Invariant r ≡ false
invariant-starts r st = outside-is Kind.Field Kind.Invariant Kind.Invariant r.kind refl st

pub field-not : (r : Rec ℕ Span) → starts_field_item r ≡ false → is Kind.Field r ≡ false
field-not r st = outside-is Kind.Field Kind.Invariant Kind.Field r.kind refl st

module _ (table sheet : List ℕ) (a e : ℕ) (gone : List ℕ) where
  abbrev ctx : ValidationContext ℕ Span
  ctx = context_by table sheet

  abbrev pub fields_before : ℕ → List (Rec ℕ Span)
  fields_before i = before 11 12 sheet a e i

  -- what is found from record i on
  unfoldable pub fields_left : ℕ → List (Found Span)
  fields_left i = left ctx field_scheme (field_item_violations ctx) starts_field_item 11 sheet a e gone i

  abbrev at : ℕ → Rec ℕ Span
  at i = view_at sheet i

  -- a record that is no field
  pub field-other :
      (i : ℕ) → a ≤ i → i < e → is Kind.Field (at i) ≡ false →
      fields_left i ≡ found_if 1 (is Kind.Invariant (at i)) (at i).place ++ fields_left (i + 1)
  unfolding fields_left field_item_violations
  field-other i le h t = go (starts_field_item (at i)) refl
    where
      go : (b : Bool) → starts_field_item (at i) ≡ b → fields_left i ≡ found_if 1 (is Kind.Invariant (at i)) (at i).place ++ fields_left (i + 1)
      go true st =
          turn-other ctx field_scheme (field_item_violations ctx) starts_field_item 11 sheet a e gone i le h st (other-member (at i) st t) t
          ∙ ap (λ fs. fs ++ fields_left (i + 1))
          (ap (λ b. found_if 1 (is Kind.Invariant (at i)) (at i).place ++ only_if b (field_violations ctx (front (λ r. not (starts_field_item r)) (view_of sheet (i + 1) e)))) t
          ∙ append-nil (found_if 1 (is Kind.Invariant (at i)) (at i).place))
      go false st =
          turn-inner ctx field_scheme (field_item_violations ctx) starts_field_item 11 sheet a e gone i le h st t
          ∙ sym (ap (λ b. found_if 1 b (at i).place ++ fields_left (i + 1)) (invariant-starts (at i) st))

  -- a field
  pub field-turn :
      (i end : ℕ) (tombstoned again renamed : Bool) → a ≤ i → i < e → is Kind.Field (at i) ≡ true → EndsAt in_field sheet (i + 1) e end →
      tombstoned ≡ member (at i).value gone →
      (not tombstoned && again) ≡ (not (member (at i).value gone) && member (at i).value (values (fields_before i))) →
      renamed ≡ any_of (ctx.same (at i).name) (names_of (fields_before i)) →
      fields_left i ≡ field_found table sheet i end tombstoned again renamed ++ fields_left (i + 1)
  unfolding fields_left field_item_violations field_found EndsAt
  field-turn i end tombstoned again renamed le h t ends ht hm hn =
      turn-member ctx field_scheme (field_item_violations ctx) starts_field_item 11 sheet a e gone i le h (field-starts (at i) t) (field-member (at i) t) t
      ∙ ap (λ fs. fs ++ fields_left (i + 1))
      (ap₂ ◌++◌ (sym (member-tests ctx field_scheme gone (values (fields_before i)) (names_of (fields_before i)) (at i) tombstoned again renamed ht hm hn))
      (ap₂ (λ (b c : Bool). found_if 1 b (at i).place ++ only_if c (field_violations ctx (front (λ r. not (starts_field_item r)) (view_of sheet (i + 1) e))))
      (field_plain (at i) t) t
      ∙ ap (field_violations ctx) (sym ends.0)))

  -- a record of a field's parts
  pub field-inner : (i : ℕ) → a ≤ i → i < e → starts_field_item (at i) ≡ false → fields_left i ≡ fields_left (i + 1)
  unfolding fields_left
  field-inner i le h st =
      turn-inner ctx field_scheme (field_item_violations ctx) starts_field_item 11 sheet a e gone i le h st (field-not (at i) st)

-- the ordinal and the name, and then the parts
pub item-found :
    (table sheet : List ℕ) (i end : ℕ) (tombstoned again renamed : Bool) (old mid now : Violations) →
    Adds old mid (member_found field_scheme tombstoned again renamed (view_at sheet i)) →
    Adds mid now (field_violations (context_by table sheet) (view_of sheet (i + 1) end)) →
    Adds old now (field_found table sheet i end tombstoned again renamed)
unfolding field_found
item-found table sheet i end tombstoned again renamed old mid now member parts = adds_then old mid now _ _ member parts
