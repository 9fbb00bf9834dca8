-- The states of the grammar, as the code holds them.
use Rattle.std.specs.Prelude.{ℕ, ◌≡◌, Bool, true, false, not, List, [], ◌∷◌, Result, Ok, Err, eqb}
use Rattle.rules.specs.Words.{within}
use Rattle.rules.specs.Kind
use Rattle.rules.specs.Kind.{condition}
use Rattle.rules.specs.Grammar as Grammar
use Rattle.rules.specs.Grammar.{Due, due_at, none_due, TypeState, FieldListState}
use Rattle.rules.specs.Answer.{number_of}
use Rattle.grammar.specs.declared.state.Body.{Body}
use Rattle.grammar.specs.declared.state.Item.{Item}
use Rattle.grammar.specs.declared.state.State.{State}
use Rattle.rules.specs.declared.answer.Refusal.{Refusal}

-- in a type, a bit name may come next
abbrev pub is_bits : Item → Bool
is_bits Item.Between = false
is_bits Item.Opened = false
is_bits Item.Annotated = false
is_bits Item.Typed = false
is_bits Item.BitNames = true
is_bits Item.Conditioned = false

abbrev pub type_item : Bool → Item
type_item true = Item.BitNames
type_item false = Item.Typed

abbrev pub type_with : Bool → List Due → TypeState
type_with bits ds = record { bits = bits; due = ds }

-- where in a field list the code stands
abbrev pub field_list_of : Item → List Due → FieldListState
field_list_of Item.Between ds = Grammar.between
field_list_of Item.Opened ds = Grammar.field (Grammar.annotations false)
field_list_of Item.Annotated ds = Grammar.field (Grammar.annotations true)
field_list_of Item.Typed ds = Grammar.field (Grammar.typed (type_with false ds))
field_list_of Item.BitNames ds = Grammar.field (Grammar.typed (type_with true ds))
field_list_of Item.Conditioned ds = Grammar.field (Grammar.conditioned ds)

-- the item that a record of the kind begins
abbrev pub begun_by : ℕ → Item
begun_by kind = elim (eqb kind Kind.Field) [ true ↦ Item.Opened | false ↦ Item.Between ]

abbrev pub condition_due : List Due
condition_due = due_at 1 condition ∷ []

-- where in a sheet
abbrev pub in_body : Body → Item → List Due → Grammar.State
in_body Body.Context item ds = Grammar.context (type_with (is_bits item) ds)
in_body Body.Message item ds = Grammar.message (field_list_of item ds)
in_body Body.Unbacked item ds = Grammar.enum Grammar.unbacked
in_body Body.Backed item ds = Grammar.enum Grammar.items
in_body Body.Flags item ds = Grammar.flags
in_body Body.Outside item ds = Grammar.union Grammar.outside
in_body Body.Variant item ds = Grammar.union (Grammar.variant (field_list_of item ds))
in_body Body.Newtype item ds = Grammar.newtype (type_with (is_bits item) ds)

-- in a body, in a type
abbrev pub type_in : Body → TypeState → Grammar.State
type_in body t = in_body body (type_item t.bits) t.due

-- a record of the kind is one of a field list
abbrev pub in_fields : Body → ℕ → Bool
in_fields Body.Context kind = false
in_fields Body.Message kind = true
in_fields Body.Unbacked kind = false
in_fields Body.Backed kind = false
in_fields Body.Flags kind = false
in_fields Body.Outside kind = false
in_fields Body.Variant kind = not (within Kind.Variant Kind.Tombstone kind)
in_fields Body.Newtype kind = false

-- the type of a message's field goes on with a type
pub record GoesOn (s : State) (ds : List Due) (kind : ℕ) : Type 0 where
  pub message : s.body ≡ Body.Message
  pub typed : s.item ≡ Item.Typed
  pub some : none_due ds ≡ false
  pub type : Kind.is_type kind ≡ true

unfoldable pub state_of : State → List Due → Grammar.State
state_of s ds = in_body s.body s.item ds

-- a step in a type, in a field list, and of the machine
abbrev pub typed_of : Result Item Refusal → List Due → Grammar.Step (Item × List Due)
typed_of (Ok item) ds = Grammar.to (item, ds)
typed_of (Err why) ds = Grammar.fault (number_of why)

abbrev pub item_step_of : Result Item Refusal → List Due → Grammar.Step FieldListState
item_step_of (Ok item) ds = Grammar.to (field_list_of item ds)
item_step_of (Err why) ds = Grammar.fault (number_of why)

abbrev pub step_of : Result (Unit {0}) Refusal → State → List Due → Grammar.Step Grammar.State
step_of (Ok taken) s ds = Grammar.to (state_of s ds)
step_of (Err why) s ds = Grammar.fault (number_of why)

-- before the first record
abbrev pub start_state : State
start_state = record { body = Body.Context; item = Item.Between }
