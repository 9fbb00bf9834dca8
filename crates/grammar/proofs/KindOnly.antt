-- The grammar asks a record for its kind and its sub alone.
use Prim.Native.Nat.{ℕ}
use mathlib.Core.Path.{◌≡◌, refl, sym, ap, ◌∙◌}
use native.Mathlib.Decide.{ℕ_discrete}
use mathlib.Core.Bool.{Bool, true, false, not, ◌&&◌}
use mathlib.Core.List.{List, [], ◌∷◌}
use lib.Dec.{eqb}
use borrow.Author.Tests.{ne_eqb}
use Rattle.rules.specs.Words.{within}
use Rattle.rules.specs.Record.{Rec}
use Rattle.rules.specs.Grammar as Grammar
use Rattle.rules.specs.Grammar.{Due, TypeState, FieldState, FieldListState, State, lifted, guarded, part_step, type_step, field_step, field_list_step, enum_step, union_step, context_step, step, type_due, none_due}
use Rattle.grammar.specs.Due.{bare}
use Rattle.grammar.specs.States.{condition_due}

module _ {A : Type 0} where
  -- what a test chooses
  abbrev choice : A → A → Bool → A
  choice x y b = elim b [ true ↦ x | false ↦ y ]

module _ {N P : Type 0} (r : Rec N P) where
  abbrev kind : ℕ
  kind = r.kind

  pub part_kind : (ds : List Due) → part_step ds r ≡ part_step ds (bare kind 0)
  unfolding part_step
  part_kind [] = refl
  part_kind (d ∷ ds) = refl

  pub type_kind : (s : TypeState) → type_step s r ≡ type_step s (bare kind 0)
  unfolding type_step
  type_kind s =
      ap (λ (x : Grammar.Step (List Due)). choice (guarded s.bits (Grammar.to s)) (lifted (λ ds. record { bits = eqb kind 48; due = ds }) x) (eqb kind 22))
      (part_kind s.due)

  pub field_kind : (s : FieldState) → field_step s r ≡ field_step s (bare kind 0)
  unfolding field_step
  field_kind (Grammar.annotations arguments) =
      ap (λ (x : Grammar.Step TypeState). choice (Grammar.to (Grammar.annotations true))
      (choice (guarded arguments (Grammar.to (Grammar.annotations true))) (lifted Grammar.typed x) (eqb kind 21)) (eqb kind 20))
      (type_kind type_due)
  field_kind (Grammar.typed s) =
      ap (λ (x : Grammar.Step TypeState). choice (lifted Grammar.conditioned (part_step condition_due r)) (lifted Grammar.typed x) (none_due s.due && not (eqb kind 22)))
      (type_kind s)
      ∙ ap (λ (x : Grammar.Step (List Due)). choice (lifted Grammar.conditioned x) (lifted Grammar.typed (type_step s (bare kind 0))) (none_due s.due && not (eqb kind 22)))
      (part_kind condition_due)
  field_kind (Grammar.conditioned ds) = ap (lifted Grammar.conditioned) (part_kind ds)

  pub list_kind : (s : FieldListState) → field_list_step s r ≡ field_list_step s (bare kind 0)
  unfolding field_list_step
  list_kind Grammar.between = refl
  list_kind (Grammar.field s) =
      ap (λ (x : Grammar.Step FieldState). choice (guarded (Grammar.field_done s) (Grammar.to (Grammar.field_item r))) (lifted Grammar.field x) (Grammar.starts_field_item r))
      (field_kind s)

  pub enum_kind : (s : Grammar.EnumState) → enum_step s r ≡ enum_step s (bare kind 0)
  unfolding enum_step
  enum_kind s = refl

  pub union_kind : (s : Grammar.UnionState) → union_step s r ≡ union_step s (bare kind 0)
  unfolding union_step
  union_kind Grammar.outside = refl
  union_kind (Grammar.variant s) =
      ap (λ (x : Grammar.Step FieldListState). choice (guarded (Grammar.field_list_done s) (Grammar.to (Grammar.union_item r))) (lifted Grammar.variant x) (Grammar.starts_item r))
      (list_kind s)

module _ {N P : Type 0} (r : Rec N P) where
  abbrev shown : Rec ℕ ℕ
  shown = bare r.kind r.sub

  pub context_kind : (s : TypeState) → context_step s r ≡ context_step s shown
  unfolding context_step
  context_kind s =
      ap (λ (x : Grammar.Step TypeState). choice (guarded (none_due s.due) (Grammar.to (Grammar.context_item r)))
      (choice (guarded (none_due s.due) (Grammar.to (Grammar.opened r.sub))) (lifted Grammar.context x) (eqb r.kind 10)) (Grammar.starts_context_item r))
      (type_kind r s ∙ sym (type_kind shown s))

  pub step-kind : (s : State) → step s r ≡ step s shown
  unfolding step
  step-kind (Grammar.context s) = context_kind s
  step-kind (Grammar.message s) = ap (lifted Grammar.message) (list_kind r s ∙ sym (list_kind shown s))
  step-kind (Grammar.enum s) = ap (lifted Grammar.enum) (enum_kind r s ∙ sym (enum_kind shown s))
  step-kind Grammar.flags = refl
  step-kind (Grammar.union s) = ap (lifted Grammar.union) (union_kind r s ∙ sym (union_kind shown s))
  step-kind (Grammar.newtype s) = ap (lifted Grammar.newtype) (type_kind r s ∙ sym (type_kind shown s))

-- a step asks a declaration and a head alone for their sub
module _ (kind : ℕ) where
  module _ (s : TypeState) (n₁ : kind ≡ 1 → ⊥) (n₂ : kind ≡ 10 → ⊥) where
    abbrev item : Grammar.Step State
    item = guarded (none_due s.due) (Grammar.to (Grammar.context Grammar.no_type))

    no_sub : (x : ℕ) → context_step s (bare kind x) ≡ choice item (lifted Grammar.context (type_step s (bare kind 0))) (within 1 3 kind)
    unfolding context_step
    no_sub x =
        ap (λ (k : Bool). choice (guarded (none_due s.due) (Grammar.to (Grammar.context (choice type_due Grammar.no_type (k && eqb x 4)))))
        (choice (guarded (none_due s.due) (Grammar.to (Grammar.opened x))) (lifted Grammar.context (type_step s (bare kind x))) (eqb kind 10)) (within 1 3 kind))
        (ne_eqb kind 1 n₁)
        ∙ ap (λ (t : Bool). choice item (choice (guarded (none_due s.due) (Grammar.to (Grammar.opened x))) (lifted Grammar.context (type_step s (bare kind x))) t) (within 1 3 kind))
        (ne_eqb kind 10 n₂)
        ∙ ap (λ (t : Grammar.Step TypeState). choice item (lifted Grammar.context t) (within 1 3 kind)) (type_kind (bare kind x) s)

  module _ (a b : ℕ) (h₁ : kind ≡ 1 → a ≡ b) (h₂ : kind ≡ 10 → a ≡ b) where
    context-sub : (s : TypeState) → context_step s (bare kind a) ≡ context_step s (bare kind b)
    context-sub s = go (ℕ_discrete kind 1) (ℕ_discrete kind 10)
      where
        go : Dec (kind ≡ 1) → Dec (kind ≡ 10) → context_step s (bare kind a) ≡ context_step s (bare kind b)
        go (yes e) d = ap (λ (x : ℕ). context_step s (bare kind x)) (h₁ e)
        go (no n₁) (yes e) = ap (λ (x : ℕ). context_step s (bare kind x)) (h₂ e)
        go (no n₁) (no n₂) = no_sub s n₁ n₂ a ∙ sym (no_sub s n₁ n₂ b)

    pub step-sub : (s : State) → step s (bare kind a) ≡ step s (bare kind b)
    unfolding step
    step-sub (Grammar.context s) = context-sub s
    step-sub (Grammar.message s) = ap (lifted Grammar.message) (list_kind (bare kind a) s ∙ sym (list_kind (bare kind b) s))
    step-sub (Grammar.enum s) = ap (lifted Grammar.enum) (enum_kind (bare kind a) s ∙ sym (enum_kind (bare kind b) s))
    step-sub Grammar.flags = refl
    step-sub (Grammar.union s) = ap (lifted Grammar.union) (union_kind (bare kind a) s ∙ sym (union_kind (bare kind b) s))
    step-sub (Grammar.newtype s) = ap (lifted Grammar.newtype) (type_kind (bare kind a) s ∙ sym (type_kind (bare kind b) s))
