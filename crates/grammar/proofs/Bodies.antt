-- A step in a body is one of its field list, of its type or of its items.
use Prim.Native.Nat.{ℕ}
use native.Mathlib.Omega.{arith}
use mathlib.Core.Path.{◌≡◌, refl, sym, ap, ◌∙◌}
use mathlib.Core.Bool.{Bool, true, false, ◌&&◌, false≢true}
use mathlib.Core.List.{List, [], ◌∷◌}
use mathlib.Core.Logic.{◌⊎◌, inl, inr}
use lib.Dec.{leb, eqb}
use Rattle.std.proofs.lemmas.Bool.{and_parts}
use borrow.Author.Tests.{lt-leb, not-true, eqb-true}
use Rattle.rules.specs.Words.{within}
use Rattle.rules.specs.Kind
use Rattle.rules.specs.Grammar as Grammar
use Rattle.rules.specs.Grammar.{Due, TypeState, FieldListState, lifted, none_due, guarded, part_step, type_step, field_list_step, field_step, enum_step, union_step, step, field, typed}
use Rattle.rules.proofs.Taken.{within-true}
use Rattle.grammar.specs.declared.state.Body.{Body}
use Rattle.grammar.specs.declared.state.Item.{Item}
use Rattle.grammar.specs.declared.state.State.{State}
use Rattle.grammar.specs.Due.{bare}
use Rattle.grammar.specs.States.{is_bits, type_item, type_in, type_with, in_body, in_fields, field_list_of, state_of, GoesOn}
use Rattle.grammar.proofs.Items.{lifted_twice, part, typed_as, field_typed}
use Rattle.grammar.proofs.KindOnly.{list_kind, union_kind}

bits-item : (b : Bool) → is_bits (type_item b) ≡ b
bits-item true = refl
bits-item false = refl

pub type_in_context : (x : Grammar.Step TypeState) → lifted (type_in Body.Context) x ≡ lifted Grammar.context x
type_in_context (Grammar.to t) = rw (bits-item t.bits) refl
type_in_context (Grammar.fault n) = refl

pub type_in_newtype : (x : Grammar.Step TypeState) → lifted (type_in Body.Newtype) x ≡ lifted Grammar.newtype x
type_in_newtype (Grammar.to t) = rw (bits-item t.bits) refl
type_in_newtype (Grammar.fault n) = refl

-- a newtype's inner type, of the context or of the body
module _ (s : State) (ds : List Due) (kind : ℕ) (bits : Bool) (hb : bits ≡ is_bits s.item) where
  abbrev inner : Grammar.Step Grammar.State
  inner = lifted (type_in s.body) (type_step (type_with (is_bits s.item) ds) (bare kind 0))

  inner-part : (bits && eqb kind 22) ≡ false → lifted (λ (p : Item × List Due). in_body s.body p.0 p.1) (part ds kind) ≡ inner
  inner-part f = typed_as ds kind (type_in s.body) (in_body s.body) (λ b l. refl) (is_bits s.item) (ap (λ b. b && eqb kind 22) (sym hb) ∙ f)

  pub inner_fault : (n : ℕ) → (bits && eqb kind 22) ≡ false → Grammar.fault n ≡ part ds kind → Grammar.fault n ≡ inner
  inner_fault n f e = ap (lifted (λ (p : Item × List Due). in_body s.body p.0 p.1)) e ∙ inner-part f

  pub inner_taken : (item : Item) (after : List Due) → (bits && eqb kind 22) ≡ false → Grammar.to (item, after) ≡ part ds kind
      → Grammar.to (state_of (record { body = s.body; item = item }) after) ≡ inner
  unfolding state_of
  inner_taken item after f e = ap (lifted (λ (p : Item × List Due). in_body s.body p.0 p.1)) e ∙ inner-part f

  pub inner_bits : (bits && eqb kind 22) ≡ true → Grammar.to (state_of s ds) ≡ inner
  unfolding state_of type_step
  inner_bits t = go s.item (sym hb ∙ both.0) (eqb-true kind 22 both.1)
    where
      both : (bits ≡ true) × (eqb kind 22 ≡ true)
      both = and_parts bits (eqb kind 22) t

      go : (i : Item) → is_bits i ≡ true → kind ≡ 22 → Grammar.to (in_body s.body i ds) ≡ lifted (type_in s.body) (type_step (type_with (is_bits i) ds) (bare kind 0))
      go Item.Between h e = absurd (false≢true h)
      go Item.Opened h e = absurd (false≢true h)
      go Item.Annotated h e = absurd (false≢true h)
      go Item.Typed h e = absurd (false≢true h)
      go Item.BitNames h e = rw e refl
      go Item.Conditioned h e = absurd (false≢true h)

-- an item of an enum past its backing, or of flags
pub items_step : (s : State) (ds : List Due) (kind sub : ℕ) (x : Grammar.Step Grammar.State) → (s.body ≡ Body.Backed) ⊎ (s.body ≡ Body.Flags)
    → x ≡ guarded (within 14 15 kind) (Grammar.to (state_of s ds)) → x ≡ step (state_of s ds) (bare kind sub)
unfolding state_of step enum_step
items_step s ds kind sub x (inl e) h = h ∙ rw e (by (within 14 15 kind))
  where
    by : (b : Bool) → guarded b (Grammar.to (Grammar.enum Grammar.items)) ≡ lifted Grammar.enum (elim b [ true ↦ Grammar.to Grammar.items | false ↦ Grammar.fault 6 ])
    by true = refl
    by false = refl
items_step s ds kind sub x (inr e) h = h ∙ rw e refl

-- a step in a field list
abbrev in_list : Body → FieldListState → Grammar.State
in_list body s = elim body [ Body.Variant ↦ Grammar.union (Grammar.variant s) | _ ↦ Grammar.message s ]

module _ (kind sub : ℕ) where
  variant-step : (s : FieldListState) → within 14 15 kind ≡ false
      → step (Grammar.union (Grammar.variant s)) (bare kind sub) ≡ lifted (λ l. Grammar.union (Grammar.variant l)) (field_list_step s (bare kind 0))
  unfolding step union_step
  variant-step s f =
      rw (ap (λ x. lifted Grammar.union x) (union_kind (bare kind sub) (Grammar.variant s))) (
      rw (union_step, f) (lifted_twice Grammar.variant Grammar.union (field_list_step s (bare kind 0))))

  list-step : (body : Body) (item : Item) (ds : List Due) → in_fields body kind ≡ true
      → step (in_body body item ds) (bare kind sub) ≡ lifted (in_list body) (field_list_step (field_list_of item ds) (bare kind 0))
  unfolding step
  list-step Body.Context item ds t = absurd (false≢true t)
  list-step Body.Message item ds t = ap (lifted Grammar.message) (list_kind (bare kind sub) (field_list_of item ds))
  list-step Body.Unbacked item ds t = absurd (false≢true t)
  list-step Body.Backed item ds t = absurd (false≢true t)
  list-step Body.Flags item ds t = absurd (false≢true t)
  list-step Body.Outside item ds t = absurd (false≢true t)
  list-step Body.Variant item ds t = variant-step (field_list_of item ds) (not-true (within 14 15 kind) t)
  list-step Body.Newtype item ds t = absurd (false≢true t)

  list-body : (body : Body) (item : Item) (ds : List Due) → in_fields body kind ≡ true → in_list body (field_list_of item ds) ≡ in_body body item ds
  list-body Body.Context item ds t = absurd (false≢true t)
  list-body Body.Message item ds t = refl
  list-body Body.Unbacked item ds t = absurd (false≢true t)
  list-body Body.Backed item ds t = absurd (false≢true t)
  list-body Body.Flags item ds t = absurd (false≢true t)
  list-body Body.Outside item ds t = absurd (false≢true t)
  list-body Body.Variant item ds t = refl
  list-body Body.Newtype item ds t = absurd (false≢true t)

  module _ (s : State) (ds : List Due) (t : in_fields s.body kind ≡ true) where
    pub list_taken : (item : Item) (after : List Due) → Grammar.to (field_list_of item after) ≡ field_list_step (field_list_of s.item ds) (bare kind 0)
        → Grammar.to (state_of (record { body = s.body; item = item }) after) ≡ step (state_of s ds) (bare kind sub)
    unfolding state_of
    list_taken item after e =
        ap Grammar.to (sym (list-body s.body item after t)) ∙ ap (lifted (in_list s.body)) e ∙ sym (list-step s.body s.item ds t)

    pub list_fault : (n : ℕ) → Grammar.fault n ≡ field_list_step (field_list_of s.item ds) (bare kind 0) → Grammar.fault n ≡ step (state_of s ds) (bare kind sub)
    unfolding state_of
    list_fault n e = ap (lifted (in_list s.body)) e ∙ sym (list-step s.body s.item ds t)

-- the type of a message's field goes on with a type
typed-list : (ds : List Due) (kind : ℕ) → none_due ds ≡ false → Kind.is_type kind ≡ true
    → field_list_step (field (typed (type_with false ds))) (bare kind 0) ≡ lifted (λ t. field (typed t)) (type_step (type_with false ds) (bare kind 0))
unfolding field_list_step field_step
typed-list [] kind s t = absurd (false≢true (sym s))
typed-list (d ∷ ds) kind s t =
    let inside = within-true 30 48 kind t in
    rw (lt-leb kind 13 (omega arith), field_list_step, and-false (leb 11 kind)) (lifted_twice typed field (type_step (type_with false (d ∷ ds)) (bare kind 0)))
  where
    and-false : (b : Bool) → (b && false) ≡ false
    and-false true = refl
    and-false false = refl

module _ (s : State) (ds : List Due) (kind sub : ℕ) (g : GoesOn s ds kind) where
  type-list : field_list_step (field_list_of s.item ds) (bare kind 0) ≡ lifted (λ t. field (typed t)) (type_step (type_with false ds) (bare kind 0))
  type-list = ap (λ (i : Item). field_list_step (field_list_of i ds) (bare kind 0)) g.typed ∙ typed-list ds kind g.some g.type

  here : in_fields s.body kind ≡ true
  here = ap (λ b. in_fields b kind) g.message

  pub type_taken : (item : Item) (after : List Due) → Grammar.to (item, after) ≡ part ds kind
      → Grammar.to (state_of (record { body = s.body; item = item }) after) ≡ step (state_of s ds) (bare kind sub)
  type_taken item after e = list_taken kind sub s ds here item after (ap (lifted (λ (p : Item × List Due). field_list_of p.0 p.1)) e ∙ field_typed ds kind ∙ sym type-list)

  pub type_fault : (n : ℕ) → Grammar.fault n ≡ part ds kind → Grammar.fault n ≡ step (state_of s ds) (bare kind sub)
  type_fault n e = list_fault kind sub s ds here n (ap (lifted (λ (p : Item × List Due). field_list_of p.0 p.1)) e ∙ field_typed ds kind ∙ sym type-list)
