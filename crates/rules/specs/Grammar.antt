-- Which record may follow those before: "any 1, 2, 3; one 10; its body; the end". A machine: each state says whether the sheet may end
-- there, and takes the next record to a state, or finds it at fault by row 6 or row 7.
use Rattle.std.specs.Prelude.{ℕ, suc, Bool, true, false, not, ◌&&◌, List, [], ◌∷◌, ◌++◌, map, ltb}
use Rattle.rules.specs.Words.{within}
use Rattle.rules.specs.Kind
use Rattle.rules.specs.Kind.{Part, type, condition, operand}
use Rattle.rules.specs.Record.{Rec, is, is_renaming}
use Rattle.rules.specs.Head.{Body, message_body, enum_body, flags_body, union_body, newtype_body, body_of}

-- a step of the machine: to a state, or a fault by the number of its row
pub data Step (S : Type 0) : Type 0 where
  to : S → Step S
  fault : ℕ → Step S

-- row 7: the greatest depth
abbrev pub max_depth : ℕ
max_depth = 64

-- a part that is due, with its depth
pub record Due : Type 0 where
  pub part : Part
  pub depth : ℕ

abbrev pub due_at : ℕ → Part → Due
due_at depth part = record { part = part; depth = depth }

-- a type: whether a bit name may come next, and the parts that are due
pub record TypeState : Type 0 where
  pub bits : Bool
  pub due : List Due

-- a field: in its annotations, where an argument may follow or not; in its type; in its condition
pub data FieldState : Type 0 where
  annotations : Bool → FieldState
  typed : TypeState → FieldState
  conditioned : List Due → FieldState

-- a field list: between its items, or in a field
pub data FieldListState : Type 0 where
  between : FieldListState
  field : FieldState → FieldListState

-- an enum: before its backing, or past it
pub data EnumState : Type 0 where
  unbacked : EnumState
  items : EnumState

-- a union: before its first item or after a tombstone, or in a variant's fields
pub data UnionState : Type 0 where
  outside : UnionState
  variant : FieldListState → UnionState

-- a sheet: in the context, where a newtype's inner type may be due, or in one of the five bodies
pub data State : Type 0 where
  context : TypeState → State
  message : FieldListState → State
  enum : EnumState → State
  flags : State
  union : UnionState → State
  newtype : TypeState → State

-- nothing is due
abbrev pub none_due : List Due → Bool
none_due [] = true
none_due (d ∷ ds) = false

abbrev pub no_type : TypeState
no_type = record { bits = false; due = [] }

abbrev pub type_due : TypeState
type_due = record { bits = false; due = due_at 1 type ∷ [] }

-- a field, a field list, a union or a sheet may end
abbrev pub field_done : FieldState → Bool
field_done (annotations arguments) = false
field_done (typed s) = none_due s.due
field_done (conditioned ds) = none_due ds

abbrev pub field_list_done : FieldListState → Bool
field_list_done between = true
field_list_done (field s) = field_done s

abbrev pub union_done : UnionState → Bool
union_done outside = true
union_done (variant s) = field_list_done s

unfoldable pub done : State → Bool
done (context s) = false
done (message s) = field_list_done s
done (enum s) = true
done flags = true
done (union s) = union_done s
done (newtype s) = none_due s.due

abbrev pub backing_may_come : EnumState → Bool
backing_may_come unbacked = true
backing_may_come items = false

-- before the first record of a body
abbrev pub body_start : Body → State
body_start message_body = message between
body_start enum_body = enum unbacked
body_start flags_body = flags
body_start union_body = union outside
body_start newtype_body = newtype type_due

-- behind a head of that sub
unfoldable pub opened : ℕ → State
opened sub = body_start (body_of sub)

-- before the first record
abbrev pub start : State
start = context no_type

module _ {S U : Type 0} where
  -- the same step, with the state taken up into a larger one
  abbrev pub lifted : (S → U) → Step S → Step U
  lifted f (to s) = to (f s)
  lifted f (fault n) = fault n

module _ {S : Type 0} where
  -- row 6: the step where the test passes
  abbrev pub guarded : Bool → Step S → Step S
  guarded true s = s
  guarded false s = fault 6

module _ {N P : Type 0} where
  -- The record takes the place of the first part that is due, and its own parts are due before the others, one deeper.
  -- Row 6 where it is no such part, row 7 where it is one of depth 65.
  unfoldable pub part_step : List Due → Rec N P → Step (List Due)
  part_step [] r = fault 6
  part_step (d ∷ ds) r =
      elim (Kind.is_part d.part r.kind) [
        | true ↦ elim (ltb max_depth d.depth) [
          | true ↦ fault 7
          | false ↦ to (map (due_at (suc d.depth)) (Kind.parts_of r.kind) ++ ds)
        ]
        | false ↦ fault 6
      ]

  -- a type, in preorder; "48 before its bit names", which have no depth
  unfoldable pub type_step : TypeState → Rec N P → Step TypeState
  type_step s r =
      elim (is Kind.BitName r) [
        | true ↦ guarded s.bits (to s)
        | false ↦ lifted (λ ds. record { bits = is Kind.BitsInline r; due = ds }) (part_step s.due r)
      ]

  -- "A field is followed by its annotations (.., each before its arguments), one type, at most one condition"
  unfoldable pub field_step : FieldState → Rec N P → Step FieldState
  field_step (annotations arguments) r =
      elim (is Kind.Annotation r) [
        | true ↦ to (annotations true)
        | false ↦ elim (is Kind.Argument r) [
          | true ↦ guarded arguments (to (annotations true))
          | false ↦ lifted typed (type_step type_due r)
        ]
      ]
  field_step (typed s) r =
      elim (none_due s.due && not (is Kind.BitName r)) [
        | true ↦ lifted conditioned (part_step (due_at 1 condition ∷ []) r)
        | false ↦ lifted typed (type_step s r)
      ]
  field_step (conditioned ds) r = lifted conditioned (part_step ds r)

  -- the items of a field list begin with a 11, a 12 or a 13
  abbrev pub starts_field_item : Rec N P → Bool
  starts_field_item r = within Kind.Field Kind.Invariant r.kind

  abbrev pub field_item : Rec N P → FieldListState
  field_item r = elim (is Kind.Field r) [ true ↦ field (annotations false) | false ↦ between ]

  abbrev pub in_field_item : FieldListState → Rec N P → Step FieldListState
  in_field_item between r = fault 6
  in_field_item (field s) r = lifted field (field_step s r)

  unfoldable pub field_list_step : FieldListState → Rec N P → Step FieldListState
  field_list_step s r =
      elim (starts_field_item r) [ true ↦ guarded (field_list_done s) (to (field_item r)) | false ↦ in_field_item s r ]

  -- the items of the other bodies begin with a 14 or a 15
  abbrev pub starts_item : Rec N P → Bool
  starts_item r = within Kind.Variant Kind.Tombstone r.kind

  -- "enum at most one 16 first, then 14, 15"
  unfoldable pub enum_step : EnumState → Rec N P → Step EnumState
  enum_step s r = elim (starts_item r) [ true ↦ to items | false ↦ guarded (backing_may_come s && is Kind.Backing r) (to items) ]

  -- "union 14, 15, where 11, 12, 13 after a 14 are that variant's up to the next 14 or 15"
  abbrev pub union_item : Rec N P → UnionState
  union_item r = elim (is Kind.Variant r) [ true ↦ variant between | false ↦ outside ]

  abbrev pub in_union_item : UnionState → Rec N P → Step UnionState
  in_union_item outside r = fault 6
  in_union_item (variant s) r = lifted variant (field_list_step s r)

  unfoldable pub union_step : UnionState → Rec N P → Step UnionState
  union_step s r = elim (starts_item r) [ true ↦ guarded (union_done s) (to (union_item r)) | false ↦ in_union_item s r ]

  -- "A kind 1 of sub 4 is followed by its inner type"
  abbrev pub context_item : Rec N P → State
  context_item r = context (elim (is_renaming r) [ true ↦ type_due | false ↦ no_type ])

  abbrev pub starts_context_item : Rec N P → Bool
  starts_context_item r = within Kind.Declaration Kind.Wildcard r.kind

  unfoldable pub context_step : TypeState → Rec N P → Step State
  context_step s r =
      elim (starts_context_item r) [
        | true ↦ guarded (none_due s.due) (to (context_item r))
        | false ↦ elim (is Kind.Head r) [
          | true ↦ guarded (none_due s.due) (to (opened r.sub))
          | false ↦ lifted context (type_step s r)
        ]
      ]

  unfoldable pub step : State → Rec N P → Step State
  step (context s) r = context_step s r
  step (message s) r = lifted message (field_list_step s r)
  step (enum s) r = lifted enum (enum_step s r)
  step flags r = guarded (starts_item r) (to flags)
  step (union s) r = lifted union (union_step s r)
  step (newtype s) r = lifted newtype (type_step s r)
