-- Which kinds each state of the grammar takes: read off its step, by the tests that it makes.
use Prim.Native.Nat.{ℕ, suc, ◌≤◌}
use mathlib.Core.Path.{◌≡◌, refl, sym, ◌∙◌}
use mathlib.Core.Bool.{Bool, true, false, not, ◌&&◌, ◌||◌, true≢false}
use mathlib.Core.Logic.{inl, inr}
use mathlib.Core.List.{List, [], ◌∷◌, ◌++◌, map}
use native.Mathlib.Omega.{arith}
use lib.Dec.{leb, ltb, eqb}
use borrow.Author.Tests.{leb-true, le-leb, eqb-true, ne_eqb}
use Rattle.std.proofs.lemmas.Bool.{and_parts, or_cases}
use Rattle.rules.specs.Words.{within, only_if}
use Rattle.rules.specs.Kind
use Rattle.rules.specs.Kind.{Part, type, condition, operand}
use Rattle.rules.specs.Record.{Rec, is}
use Rattle.rules.specs.Grammar.{to, Due, TypeState, FieldState, annotations, typed, conditioned, type_due, due_at, max_depth, none_due, backing_may_come, items, in_union_item, FieldListState, between, field, UnionState, outside, variant, EnumState, part_step, type_step, field_step, field_list_step, starts_field_item, starts_item, in_field_item, enum_step, union_step}
use Rattle.rules.proofs.Lists.{all_of, all_of-append}
use Rattle.rules.proofs.Machine.{to-inj, guarded-to, lifted-to}

-- a number from low to high, as facts
pub within-true : (low high n : ℕ) → within low high n ≡ true → (low ≤ n) × (n ≤ high)
within-true low high n h = (
  leb-true low n (and_parts (leb low n) (leb n high) h).0,
  leb-true n high (and_parts (leb low n) (leb n high) h).1,
)

pub within-intro : (low high n : ℕ) → low ≤ n → n ≤ high → within low high n ≡ true
within-intro low high n p q = rw (le-leb low n p, le-leb n high q)

-- a number that lies elsewhere
pub within-false : (low high n : ℕ) → (low ≤ n → n ≤ high → ⊥) → within low high n ≡ false
within-false low high n h = go (leb low n) (leb n high) refl refl
  where
    go : (a b : Bool) → leb low n ≡ a → leb n high ≡ b → (a && b) ≡ false
    go true true p q = absurd (h (leb-true low n p) (leb-true n high q))
    go true false p q = refl
    go false b p q = refl

-- a number outside is outside of what lies inside
pub narrower : (low high a b n : ℕ) → low ≤ a → b ≤ high → within low high n ≡ false → within a b n ≡ false
narrower low high a b n l u h =
    within-false a b n (λ p q. absurd (true≢false (sym (within-intro low high n (omega arith) (omega arith)) ∙ h)))

-- a number outside is none of those inside
pub outside-is : (low high j n : ℕ) → within low high j ≡ true → within low high n ≡ false → eqb n j ≡ false
outside-is low high j n p q = ne_eqb n j (λ e. absurd (true≢false (sym p ∙ (rw e at q))))

-- what a field list takes lies past the head, and is no record of another body
pub field_list-range : (k : ℕ) → (within Kind.Field Kind.Invariant k || leb Kind.Annotation k) ≡ true
    → (11 ≤ k) × (within Kind.Variant Kind.Backing k ≡ false)
field_list-range k h =
    elim (or_cases (within 11 13 k) (leb 20 k) h) [
      | inl e ↦ let w = within-true 11 13 k e in (omega arith, within-false 14 16 k (λ p q. omega arith))
      | inr e ↦ let w = leb-true 20 k e in (omega arith, within-false 14 16 k (λ p q. omega arith))
    ]

-- the parts of types and conditions, and the types, annotations and conditions of fields have the kinds from 20 on
part-from : (p : Part) (k : ℕ) → Kind.is_part p k ≡ true → 20 ≤ k
part-from type k h = let w = within-true 30 48 k h in omega arith
part-from condition k h = let w = within-true 50 56 k h in omega arith
part-from operand k h = let w = eqb-true k 60 h in omega arith

-- a type is due
abbrev pub is_type_due : Due → Bool
is_type_due d = elim d.part [ type ↦ true | condition ↦ false | operand ↦ false ]

-- the parts of a type are types
type-parts : (n k : ℕ) → Kind.is_type k ≡ true → all_of is_type_due (map (due_at n) (Kind.parts_of k)) ≡ true
unfolding Kind.parts_of all_of
type-parts n k h =
    let w = within-true 30 48 k h in
    rw (
      within-false 50 51 k (λ p q. omega arith),
      ne_eqb k 52 (λ q. omega arith),
      ne_eqb k 53 (λ q. omega arith),
      ne_eqb k 55 (λ q. omega arith),
      ne_eqb k 54 (λ q. omega arith),
      ne_eqb k 56 (λ q. omega arith),
    )
    (go (within Kind.Generic Kind.Set k || within Kind.Vec2 Kind.Mat4 k) (within Kind.Map Kind.Result k))
  where
    go : (a b : Bool) → all_of is_type_due (map (due_at n) (only_if a (type ∷ []) ++ only_if b (type ∷ type ∷ []) ++ [] ++ [] ++ [] ++ [])) ≡ true
    go true true = refl
    go true false = refl
    go false true = refl
    go false false = refl

module _ {N P : Type 0} where
  part-kind : (ds : List Due) (r : Rec N P) {es : List Due} → part_step ds r ≡ to es → 20 ≤ r.kind
  unfolding part_step
  part-kind [] r h = let z : true ≡ false = cc in absurd (true≢false z)
  part-kind (d ∷ ds) r h = go (Kind.is_part d.part r.kind) refl
    where
      go : (b : Bool) → Kind.is_part d.part r.kind ≡ b → 20 ≤ r.kind
      go true e = part-from d.part r.kind e
      go false e = let z : true ≡ false = cc (rw (e, part_step) at h) in absurd (true≢false z)

  -- where types alone are due, a type is taken, and types alone are due after it
  part_type : (ds : List Due) (r : Rec N P) {es : List Due} → all_of is_type_due ds ≡ true → part_step ds r ≡ to es
      → (Kind.is_type r.kind ≡ true) × (all_of is_type_due es ≡ true)
  unfolding part_step all_of
  part_type [] r a h = let z : true ≡ false = cc in absurd (true≢false z)
  part_type (d ∷ ds) r {es} a h = on d.part refl
    where
      go : d.part ≡ type → (b c : Bool) → Kind.is_type r.kind ≡ b → ltb max_depth d.depth ≡ c
          → (Kind.is_type r.kind ≡ true) × (all_of is_type_due es ≡ true)
      go q true true e f = let z : true ≡ false = cc (rw (q, e, f, part_step) at h) in absurd (true≢false z)
      go q true false e f = (
        e,
        rw (← (to-inj (rw (q, e, f, part_step) at h)), all_of-append is_type_due (map (due_at (suc d.depth)) (Kind.parts_of r.kind)) ds)
            (rw (type-parts (suc d.depth) r.kind e) (and_parts (is_type_due d) _ a).1),
      )
      go q false c e f = let z : true ≡ false = cc (rw (q, e, part_step) at h) in absurd (true≢false z)

      on : (p : Part) → d.part ≡ p → (Kind.is_type r.kind ≡ true) × (all_of is_type_due es ≡ true)
      on type q = go q (Kind.is_type r.kind) (ltb max_depth d.depth) refl refl
      on condition q = absurd (true≢false (sym (rw q at (and_parts (is_type_due d) _ a).0)))
      on operand q = absurd (true≢false (sym (rw q at (and_parts (is_type_due d) _ a).0)))

  -- so is a bit name
  pub type-type : (s : TypeState) (r : Rec N P) {t : TypeState} → all_of is_type_due s.due ≡ true → type_step s r ≡ to t
      → ((is Kind.BitName r || Kind.is_type r.kind) ≡ true) × (all_of is_type_due t.due ≡ true)
  unfolding type_step
  type-type s r {t} a h = go (is Kind.BitName r) refl
    where
      go : (b : Bool) → is Kind.BitName r ≡ b → ((is Kind.BitName r || Kind.is_type r.kind) ≡ true) × (all_of is_type_due t.due ≡ true)
      go true e = (rw e, rw (← (to-inj (guarded-to s.bits (to s) (rw (e, type_step) at h)).1)) a)
      go false e =
          let l = lifted-to _ (part_step s.due r) (rw (e, type_step) at h) in
          let k = part_type s.due r a l.1 in
          (rw e k.0, rw (← l.2) k.1)

  pub type-kind : (s : TypeState) (r : Rec N P) {t : TypeState} → type_step s r ≡ to t → 20 ≤ r.kind
  unfolding type_step
  type-kind s r h = go (is Kind.BitName r) refl
    where
      go : (b : Bool) → is Kind.BitName r ≡ b → 20 ≤ r.kind
      go true e = let k = eqb-true r.kind 22 e in omega arith
      go false e = part-kind s.due r (lifted-to _ (part_step s.due r) (rw (e, type_step) at h)).1

  field-kind : (s : FieldState) (r : Rec N P) {t : FieldState} → field_step s r ≡ to t → 20 ≤ r.kind
  unfolding field_step
  field-kind (annotations arguments) r h = go (is Kind.Annotation r) (is Kind.Argument r) refl refl
    where
      go : (a b : Bool) → is Kind.Annotation r ≡ a → is Kind.Argument r ≡ b → 20 ≤ r.kind
      go true b e d = let k = eqb-true r.kind 20 e in omega arith
      go false true e d = let k = eqb-true r.kind 21 d in omega arith
      go false false e d = type-kind type_due r (lifted-to typed (type_step type_due r) (rw (e, d, field_step) at h)).1
  field-kind (typed s) r h = go (none_due s.due && not (is Kind.BitName r)) refl
    where
      go : (b : Bool) → (none_due s.due && not (is Kind.BitName r)) ≡ b → 20 ≤ r.kind
      go true e =
          let ds = due_at 1 condition ∷ [] in
          part-kind ds r (lifted-to conditioned (part_step ds r) (rw (e, field_step) at h)).1
      go false e = type-kind s r (lifted-to typed (type_step s r) (rw (e, field_step) at h)).1
  field-kind (conditioned ds) r h = part-kind ds r (lifted-to conditioned (part_step ds r) h).1

  in-field-item : (s : FieldListState) (r : Rec N P) {t : FieldListState} → in_field_item s r ≡ to t → 20 ≤ r.kind
  in-field-item between r h = let z : true ≡ false = cc in absurd (true≢false z)
  in-field-item (field s) r h = field-kind s r (lifted-to field (field_step s r) h).1

  -- a field list takes the beginning of an item, or what belongs to one
  pub field_list-kind : (s : FieldListState) (r : Rec N P) {t : FieldListState} → field_list_step s r ≡ to t
      → (starts_field_item r || leb Kind.Annotation r.kind) ≡ true
  unfolding field_list_step
  field_list-kind s r h = go (starts_field_item r) refl
    where
      go : (b : Bool) → starts_field_item r ≡ b → (starts_field_item r || leb Kind.Annotation r.kind) ≡ true
      go true e = rw e
      go false e = rw e (le-leb 20 r.kind (in-field-item s r (rw (e, field_list_step) at h)))

  -- an enum takes a variant, a tombstone or a backing
  pub enum_kind : (s : EnumState) (r : Rec N P) {t : EnumState} → enum_step s r ≡ to t → within Kind.Variant Kind.Backing r.kind ≡ true
  unfolding enum_step
  enum_kind s r h = go (starts_item r) refl
    where
      go : (b : Bool) → starts_item r ≡ b → within Kind.Variant Kind.Backing r.kind ≡ true
      go true e = let k = within-true 14 15 r.kind e in within-intro 14 16 r.kind (omega arith) (omega arith)
      go false e =
          let g = guarded-to (backing_may_come s && is Kind.Backing r) (to items) (rw (e, enum_step) at h) in
          let k = eqb-true r.kind 16 (and_parts (backing_may_come s) (is Kind.Backing r) g.0).1 in
          within-intro 14 16 r.kind (omega arith) (omega arith)

  in-union-item : (s : UnionState) (r : Rec N P) {t : UnionState} → in_union_item s r ≡ to t
      → (starts_field_item r || leb Kind.Annotation r.kind) ≡ true
  in-union-item outside r h = cc
  in-union-item (variant s) r h = field_list-kind s r (lifted-to variant (field_list_step s r) h).1

  -- a union takes the beginning of an item, or what a field list takes
  pub union-kind : (s : UnionState) (r : Rec N P) {t : UnionState} → union_step s r ≡ to t
      → (starts_item r || (starts_field_item r || leb Kind.Annotation r.kind)) ≡ true
  unfolding union_step
  union-kind s r h = go (starts_item r) refl
    where
      go : (b : Bool) → starts_item r ≡ b → (starts_item r || (starts_field_item r || leb Kind.Annotation r.kind)) ≡ true
      go true e = rw e
      go false e = rw e (in-union-item s r (rw (e, union_step) at h))
