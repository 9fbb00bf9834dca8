-- The rows by which a record can be at fault: 3 to 5 by itself, 6 and 7 by the grammar, 8 by the names before it.
use Prim.Native.Nat.{ℕ, ◌≤◌}
use native.Mathlib.Omega.{arith}
use mathlib.Core.Bool.{Bool, true, false, not, ◌&&◌}
use mathlib.Core.List.{List, [], ◌∷◌, ◌++◌}
use mathlib.Core.Option.{Option, some, none}
use lib.Dec.{ltb}
use Rattle.rules.specs.Words.{only_if, first, any_of}
use Rattle.rules.specs.Kind
use Rattle.rules.specs.Record.{Rec, is}
use Rattle.rules.specs.Grammar.{Step, to, fault, lifted, guarded, max_depth, Due, none_due, TypeState, type_due, FieldState, annotations, typed, conditioned, FieldListState, between, field, field_list_done, EnumState, backing_may_come, UnionState, outside, variant, union_done, State, context, message, enum, flags, union, newtype, part_step, type_step, field_step, starts_field_item, in_field_item, field_list_step, starts_item, enum_step, in_union_item, union_step, starts_context_item, context_step, step}
use Rattle.rules.specs.Refusals.{is_unknown, is_cut, is_too_great, own_fault, record_step}

module _ {S : Type 0} where
  -- a step to a state, or a fault by one of the rows from `low` to `high`
  pub data ByRow (low high : ℕ) : Step S → Type 0 where
    on : {s : S} → ByRow low high (to s)
    by : (n : ℕ) → low ≤ n → n ≤ high → ByRow low high (fault n)

  row-6 : ByRow 6 7 (fault 6)
  row-6 = by 6 (omega arith) (omega arith)

  guarded-row : (b : Bool) {x : Step S} → ByRow 6 7 x → ByRow 6 7 (guarded b x)
  guarded-row true h = h
  guarded-row false h = row-6

  either-row : (b : Bool) {x y : Step S} → ByRow 6 7 x → ByRow 6 7 y → ByRow 6 7 (elim b [ true ↦ x | false ↦ y ])
  either-row true p q = p
  either-row false p q = q

lifted-row : {S U : Type 0} (f : S → U) {x : Step S} → ByRow 6 7 x → ByRow 6 7 (lifted f x)
lifted-row f on = on
lifted-row f (by n p q) = by n p q

-- no fault, or one by rows 3 to 5
data OwnRow : Option ℕ → Type 0 where
  none-own : OwnRow none
  own : (n : ℕ) → 3 ≤ n → n ≤ 5 → OwnRow (some n)

module _ {N P : Type 0} where
  part-row : (ds : List Due) (r : Rec N P) → ByRow 6 7 (part_step ds r)
  unfolding part_step
  part-row [] r = row-6
  part-row (d ∷ ds) r =
      either-row (Kind.is_part d.part r.kind) (either-row (ltb max_depth d.depth) (by 7 (omega arith) (omega arith)) on) row-6

  type_row : (s : TypeState) (r : Rec N P) → ByRow 6 7 (type_step s r)
  unfolding type_step
  type_row s r = either-row (is Kind.BitName r) (guarded-row s.bits on) (lifted-row _ (part-row s.due r))

  field_row : (s : FieldState) (r : Rec N P) → ByRow 6 7 (field_step s r)
  unfolding field_step
  field_row (annotations arguments) r =
      either-row (is Kind.Annotation r) on
      (either-row (is Kind.Argument r) (guarded-row arguments on) (lifted-row typed (type_row type_due r)))
  field_row (typed s) r =
      either-row (none_due s.due && not (is Kind.BitName r))
      (lifted-row conditioned (part-row _ r))
      (lifted-row typed (type_row s r))
  field_row (conditioned ds) r = lifted-row conditioned (part-row ds r)

  in-field-row : (s : FieldListState) (r : Rec N P) → ByRow 6 7 (in_field_item s r)
  in-field-row between r = row-6
  in-field-row (field s) r = lifted-row field (field_row s r)

  field-list-row : (s : FieldListState) (r : Rec N P) → ByRow 6 7 (field_list_step s r)
  unfolding field_list_step
  field-list-row s r = either-row (starts_field_item r) (guarded-row (field_list_done s) on) (in-field-row s r)

  enum_row : (s : EnumState) (r : Rec N P) → ByRow 6 7 (enum_step s r)
  unfolding enum_step
  enum_row s r = either-row (starts_item r) on (guarded-row (backing_may_come s && is Kind.Backing r) on)

  in-union-row : (s : UnionState) (r : Rec N P) → ByRow 6 7 (in_union_item s r)
  in-union-row outside r = row-6
  in-union-row (variant s) r = lifted-row variant (field-list-row s r)

  union-row : (s : UnionState) (r : Rec N P) → ByRow 6 7 (union_step s r)
  unfolding union_step
  union-row s r = either-row (starts_item r) (guarded-row (union_done s) on) (in-union-row s r)

  context-row : (s : TypeState) (r : Rec N P) → ByRow 6 7 (context_step s r)
  unfolding context_step
  context-row s r =
      either-row (starts_context_item r) (guarded-row (none_due s.due) on)
      (either-row (is Kind.Head r) (guarded-row (none_due s.due) on) (lifted-row context (type_row s r)))

  -- the grammar: rows 6 and 7
  step_row : (s : State) (r : Rec N P) → ByRow 6 7 (step s r)
  unfolding step
  step_row (context s) r = context-row s r
  step_row (message s) r = lifted-row message (field-list-row s r)
  step_row (enum s) r = lifted-row enum (enum_row s r)
  step_row flags r = guarded-row (starts_item r) on
  step_row (union s) r = lifted-row union (union-row s r)
  step_row (newtype s) r = lifted-row newtype (type_row s r)

  -- the record by itself: rows 3 to 5
  own_row : (r : Rec N P) → OwnRow (own_fault r)
  unfolding own_fault
  own_row r = go (is_unknown r) (is_cut r) (is_too_great r)
    where
      go : (a b c : Bool) → OwnRow (first (only_if a (3 ∷ []) ++ only_if b (4 ∷ []) ++ only_if c (5 ∷ [])))
      go true b c = own 3 (omega arith) (omega arith)
      go false true c = own 4 (omega arith) (omega arith)
      go false false true = own 5 (omega arith) (omega arith)
      go false false false = none-own

  -- both, and the names before it: rows 3 to 8
  pub record-row : (same : N → N → Bool) (s : State) (names : List N) (r : Rec N P) → ByRow 3 8 (record_step same s names r)
  unfolding record_step
  record-row same s names r = go (is Kind.Declaration r && any_of (same r.name) names) (own_row r) (step_row s r)
    where
      go : (b : Bool) {o : Option ℕ} {x : Step State} → OwnRow o → ByRow 6 7 x
          → ByRow {S = State} 3 8
          (elim o [
            | some n ↦ fault n
            | none ↦ elim x [ fault n ↦ fault n | to t ↦ elim b [ true ↦ fault 8 | false ↦ to t ] ]
          ])
      go b (own n p q) h = by n p (omega arith)
      go b none-own (by n p q) = by n (omega arith) (omega arith)
      go true none-own on = by 8 (omega arith) (omega arith)
      go false none-own on = on
