-- Rule 33: a backing is too narrow if some variant's ordinal is over the greatest that it holds.
use Prim.Native.Nat.{ℕ, zero, suc, ◌+◌, ◌-◌, ◌<◌, ◌≤◌}
use mathlib.Core.Path.{◌≡◌, refl, sym, ap, subst, ◌∙◌}
use mathlib.Core.Bool.{Bool, true, false, not, ◌&&◌, ◌||◌, or-false, or-true}
use mathlib.Core.List.{List, [], ◌∷◌, ◌++◌, flat_map}
use native.Mathlib.Decide.{ℕ_discrete}
use native.Mathlib.Omega.{arith}
use lib.Dec.{eqb, leb, ltb}
use borrow.Author.Tests.{eq-eqb, ne_eqb, leb-true, leb-false}
use Rattle.rules.specs.declared.span.Span.{Span}
use Rattle.rules.specs.Words.{only_if, any_of, select, front, Item, items}
use Rattle.rules.specs.Kind
use Rattle.rules.specs.Record.{Rec, is, record_bytes, kind_in, sub_in, value_in, span_in}
use Rattle.rules.specs.Context.{ValidationContext}
use Rattle.rules.specs.Grammar.{starts_item}
use Rattle.rules.specs.Rule.{Found, found_if}
use Rattle.rules.specs.Bodies.{used, retired, used_ordinal, used_ordinals, is_member, is_tombstone, slots, body_items, backing_max, backing_violations, enum_scheme, list_violations, enum_violations}
use Rattle.rules.proofs.ItemCounts.{any-slots}
use Rattle.names.specs.View.{view_at, view_of}
use Rattle.diagnostic.specs.declared.violations.Violations.{Violations}
use Rattle.diagnostic.specs.Violations.{Adds}
use Rattle.diagnostic.proofs.Added.{adds_none, adds_then}
use Rattle.types.proofs.Views.{view-cons, view-none}
use Rattle.lists.proofs.Asked.{SomeFrom}
use Rattle.bodies.specs.Backing.{narrow_found, backings_from}
use Rattle.bodies.specs.VariantParts.{at_variant}
use Rattle.bodies.proofs.BodyItems.{item-member, no_item}

module _ (p : ℕ → Bool) where
  -- an item's ordinal passes the test if it is in use
  slot-used :
      (m t : Bool) (v : ℕ) →
      any_of (λ slot. any_of p (used_ordinal slot)) (only_if m (used v ∷ []) ++ only_if t (retired v ∷ [])) ≡ (m && p v)
  unfolding any_of
  slot-used true true v = simp or-false
  slot-used true false v = simp or-false
  slot-used false true v = refl
  slot-used false false v = refl

  -- some ordinal in use passes the test
  abbrev pub any_used : {N P : Type 0} → List (Rec N P) → Bool
  any_used rs = any_of p (used_ordinals (slots (body_items rs)))

  -- the first record's, or one of those after it
  used-next :
      {N P : Type 0} (r : Rec N P) (rs : List (Rec N P)) → any_used (r ∷ rs) ≡ ((is Kind.Variant r && p r.value) || any_used rs)
  unfolding any_of items
  used-next {N} {P} r rs = go (starts_item r) refl
    where
      go : (b : Bool) → starts_item r ≡ b → any_used (r ∷ rs) ≡ ((is Kind.Variant r && p r.value) || any_used rs)
      go true st =
          let it : Item (Rec N P) = record { head = r; rest = front (λ y. not (starts_item y)) rs } in
          rw (st, items)
          (any-slots used_ordinal p (it ∷ body_items rs)
          ∙ rw (slot-used (is_member r) (is_tombstone r) r.value, item-member r st, any-slots used_ordinal p (body_items rs)))
      go false st = rw (st, items, no_item r st)

-- whether an ordinal in use from record i on is over the greatest: some record is a variant that has such a one
module _ (sheet : List ℕ) (e max : ℕ) where
  abbrev over : ℕ → Bool
  over i = any_used (ltb max) (view_of sheet i e)

  -- a record is a variant whose ordinal is over it
  abbrev pub IsOver : ℕ → Bool
  IsOver i = eqb (kind_in (record_bytes sheet i)) Kind.Variant && ltb max (value_in (record_bytes sheet i))

  over-next : (i : ℕ) → i < e → over i ≡ (IsOver i || over (i + 1))
  unfolding view_at
  over-next i h = rw (view-cons sheet i e h) (used-next (ltb max) (view_at sheet i) (view_of sheet (i + 1) e))

  over_none : (i : ℕ) → e ≤ i → over i ≡ false
  unfolding any_of items flat_map
  over_none i h = rw (view-none sheet i e h)

  some-over : (n i k : ℕ) → i + n ≡ e → i ≤ k → k < e → IsOver k ≡ true → true ≡ over i
  some-over zero i k sum least most test = absurd (omega arith)
  some-over (suc n) i k sum least most test = by (λ later. some-over n (i + 1) k (omega arith) later most test) (ℕ_discrete i k)
    where
      by : (i + 1 ≤ k → true ≡ over (i + 1)) → Dec (i ≡ k) → true ≡ over i
      by later (yes same) = sym (over-next i (omega arith) ∙ ap (λ b. b || over (i + 1)) (ap IsOver same ∙ test))
      by later (no differ) = sym (over-next i (omega arith) ∙ ap (λ b. IsOver i || b) (sym (later (omega arith))) ∙ or-true (IsOver i))

  none-over : (n i : ℕ) → i + n ≡ e → ((k : ℕ) → i ≤ k → k < e → IsOver k ≡ false) → false ≡ over i
  none-over zero i sum none = sym (over_none i (omega arith))
  none-over (suc n) i sum none =
      none-over n (i + 1) (omega arith) (λ k least most. none k (omega arith) most)
      ∙ sym (over-next i (omega arith) ∙ ap (λ b. b || over (i + 1)) (none i (omega arith) (omega arith)))

  pub over_found : (i : ℕ) (found : Bool) → SomeFrom IsOver i e found → found ≡ over i
  over_found i true some = some-over (e - i) i some.0 (omega (arith, some.1, some.2)) some.1 some.2 some.3
  over_found i false none = by (leb i e) refl
    where
      by : (order : Bool) → leb i e ≡ order → false ≡ over i
      by true h = none-over (e - i) i (omega (arith, leb-true i e h)) none
      by false h = sym (over_none i (omega (arith, leb-false i e h)))

-- the rule at one record
module _ (sheet : List ℕ) (i a e k : ℕ) (old : Violations) (kind : k ≡ kind_in (record_bytes sheet i)) where
  pub no-backing : (k ≡ Kind.Backing → ⊥) → Adds old old (narrow_found (view_of sheet a e) (view_at sheet i))
  unfolding view_at narrow_found
  no-backing h = rw (narrow_found, ← kind, ne_eqb k Kind.Backing h) (adds_none old)

  pub rule-33 :
      (sub max : ℕ) (bad : Bool) (now : Violations) → k ≡ Kind.Backing → sub ≡ sub_in (record_bytes sheet i) → max ≡ backing_max sub →
      bad ≡ any_used (ltb max) (view_of sheet a e) → Adds old now (found_if 33 bad (span_in (record_bytes sheet i))) →
      Adds old now (narrow_found (view_of sheet a e) (view_at sheet i))
  unfolding view_at narrow_found
  rule-33 sub max bad now h read greatest test told = rw (narrow_found, ← kind, eq-eqb k Kind.Backing h, ← read, ← greatest, ← test) told

-- what is found at the records that pass a test is found record by record
flat_map-select :
    {A B : Type 0} (p : A → Bool) (f : A → List B) (xs : List A) → flat_map f (select p xs) ≡ flat_map (λ x. only_if (p x) (f x)) xs
unfolding flat_map select
flat_map-select p f [] = refl
flat_map-select p f (x ∷ xs) = go (p x) (flat_map-select p f xs)
  where
    go :
        (b : Bool) → flat_map f (select p xs) ≡ flat_map (λ x. only_if (p x) (f x)) xs →
        flat_map f (only_if b (x ∷ []) ++ select p xs) ≡ only_if b (f x) ++ flat_map (λ x. only_if (p x) (f x)) xs
    go true later = ap (λ ys. f x ++ ys) later
    go false later = later

-- the rule of a whole enum
backings-all : {N P : Type 0} (ctx : ValidationContext N P) (body : List (Rec N P)) → backing_violations ctx body ≡ backings_from body body
unfolding narrow_found
backings-all ctx body = flat_map-select (is Kind.Backing) _ body

-- nothing is found by a variant's parts
no-parts : {P : Type 0} (variant : Bool) → ◌≡◌ {A = List (Found P)} (only_if variant []) []
no-parts true = refl
no-parts false = refl

-- the variants, and then the backing
pub enum-found :
    (ctx : ValidationContext ℕ Span) (body : List (Rec ℕ Span)) (old mid now : Violations) →
    Adds old mid (list_violations ctx enum_scheme (at_variant (λ rs. [])) (body_items body)) → Adds mid now (backings_from body body) →
    Adds old now (enum_violations ctx body)
unfolding enum_violations
enum-found ctx body old mid now variants backings =
    let own : ◌≡◌ {A = Item (Rec ℕ Span) → List (Found Span)} (at_variant (λ rs. [])) (λ it. []) = λ i it. no-parts (is Kind.Variant it.head) i in
    adds_then _ _ _ _ _ (subst (λ (f : Item (Rec ℕ Span) → List (Found Span)). Adds old mid (list_violations ctx enum_scheme f (body_items body))) own variants)
    (rw (backings-all ctx body) backings)
