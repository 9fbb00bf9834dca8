-- The tombstoned ordinals of a list are the values of its tombstones.
use Prim.Native.Nat.{ℕ}
use native.Mathlib.Omega.{arith}
use mathlib.Core.Path.{◌≡◌, refl, sym, ap, ap₂, ◌∙◌}
use mathlib.Core.Bool.{Bool, true, false, ◌||◌, or-false}
use mathlib.Core.List.{List, [], ◌∷◌, ◌++◌, flat_map}
use borrow.Author.Tests.{ne_eqb}
use Rattle.rules.specs.declared.span.Span.{Span}
use Rattle.rules.specs.Words.{only_if, select, items}
use Rattle.rules.specs.Kind
use Rattle.rules.specs.Record.{Rec, is}
use Rattle.rules.specs.Grammar.{starts_field_item, starts_item}
use Rattle.rules.specs.Bodies.{used, retired, retired_ordinal, retired_ordinals, is_member, is_tombstone, slots}
use Rattle.rules.proofs.Joined.{flat_map-append}
use Rattle.rules.proofs.Taken.{within-true, outside-is}
use Rattle.lists.specs.Earlier.{values_of}

-- an item's own
slot-retired : (m t : Bool) (v : ℕ) → flat_map retired_ordinal (only_if m (used v ∷ []) ++ only_if t (retired v ∷ [])) ≡ only_if t (v ∷ [])
unfolding flat_map
slot-retired true true v = refl
slot-retired true false v = refl
slot-retired false true v = refl
slot-retired false false v = refl

module _
    (start : Rec ℕ Span → Bool)
    (tomb : ℕ)
    (tombstone : (r : Rec ℕ Span) → start r ≡ true → is_tombstone r ≡ is tomb r)
    (other : (r : Rec ℕ Span) → start r ≡ false → is tomb r ≡ false)
  where
    values-cons : (r : Rec ℕ Span) (rs : List (Rec ℕ Span)) (b : Bool) → is tomb r ≡ b → values_of tomb (r ∷ rs) ≡ only_if b (r.value ∷ []) ++ values_of tomb rs
    unfolding values_of select
    values-cons r rs true t = rw (t, select)
    values-cons r rs false t = rw (t, select)

    retired-values : (rs : List (Rec ℕ Span)) → retired_ordinals (slots (items start rs)) ≡ values_of tomb rs
    unfolding items flat_map values_of select
    retired-values [] = refl
    retired-values (r ∷ rs) = go (retired-values rs) (start r) refl
      where
        go :
            retired_ordinals (slots (items start rs)) ≡ values_of tomb rs → (b : Bool) → start r ≡ b →
            retired_ordinals (slots (items start (r ∷ rs))) ≡ values_of tomb (r ∷ rs)
        go ih true st =
            rw (st, items)
            (flat_map-append retired_ordinal (only_if (is_member r) (used r.value ∷ []) ++ only_if (is_tombstone r) (retired r.value ∷ [])) (slots (items start rs))
            ∙ ap₂ ◌++◌ (slot-retired (is_member r) (is_tombstone r) r.value ∙ ap (λ b. only_if b (r.value ∷ [])) (tombstone r st)) ih)
            ∙ sym (values-cons r rs (is tomb r) refl)
        go ih false st = rw (st, items) ih ∙ sym (values-cons r rs false (other r st))

-- the tombstones of a field list
pub retired-fields : (rs : List (Rec ℕ Span)) → retired_ordinals (slots (items starts_field_item rs)) ≡ values_of Kind.FieldTombstone rs
retired-fields =
    retired-values starts_field_item Kind.FieldTombstone
    (λ r st.
    let k = within-true Kind.Field Kind.Invariant r.kind st in
    ap (λ b. is Kind.FieldTombstone r || b) (ne_eqb r.kind Kind.Tombstone (λ q. omega arith)) ∙ or-false (is Kind.FieldTombstone r))
    (λ r st. outside-is Kind.Field Kind.Invariant Kind.FieldTombstone r.kind refl st)

-- and those of another body
pub retired-items : (rs : List (Rec ℕ Span)) → retired_ordinals (slots (items starts_item rs)) ≡ values_of Kind.Tombstone rs
retired-items =
    retired-values starts_item Kind.Tombstone
    (λ r st.
    let k = within-true Kind.Variant Kind.Tombstone r.kind st in
    ap (λ b. b || is Kind.Tombstone r) (ne_eqb r.kind Kind.FieldTombstone (λ q. omega arith)))
    (λ r st. outside-is Kind.Variant Kind.Tombstone Kind.Tombstone r.kind refl st)
