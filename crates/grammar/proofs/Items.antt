-- A step in a field list is one of its field, and that one of its type or its condition: a step that is taken up twice is taken up once. A type where no
-- bit name may come takes its parts alone.
use Prim.Native.Nat.{ℕ}
use native.Mathlib.Decide.{ℕ_discrete}
use mathlib.Core.Path.{◌≡◌, refl, sym, ap, ◌∙◌, subst}
use mathlib.Core.Bool.{Bool, true, false, not, ◌&&◌, false≢true}
use mathlib.Core.List.{List, [], ◌∷◌}
use lib.Dec.{eqb}
use borrow.Author.Tests.{ne_eqb, eq-eqb}
use Rattle.rules.specs.Kind
use Rattle.rules.specs.Kind.{type, condition, operand}
use Rattle.rules.specs.Grammar as Grammar
use Rattle.rules.specs.Grammar.{Due, due_at, none_due, type_due, lifted, part_step, type_step, field_step, field, typed, conditioned, annotations}
use Rattle.grammar.specs.Due.{bare}
use Rattle.grammar.specs.States.{type_with, type_item, field_list_of, condition_due, typed_of, item_step_of}
use Rattle.grammar.specs.declared.state.Item.{Item}
use Rattle.rules.specs.declared.answer.Refusal.{Refusal}
use Rattle.std.specs.Prelude.{Result, Ok, Err}

pub lifted_twice : {S T U : Type 0} (f : S → T) (g : T → U) (x : Grammar.Step S) → lifted g (lifted f x) ≡ lifted (λ s. g (f s)) x
lifted_twice f g (Grammar.to s) = refl
lifted_twice f g (Grammar.fault n) = refl

-- a bit name is no part
no-bit-name : (ds : List Due) → part_step ds (bare 22 0) ≡ Grammar.fault 6
unfolding part_step
no-bit-name [] = refl
no-bit-name (d ∷ ds) = go d.part
  where
    go : (p : Kind.Part) → part_step (due_at d.depth p ∷ ds) (bare 22 0) ≡ Grammar.fault 6
    go type = refl
    go condition = refl
    go operand = refl

bit-instead : (ds : List Due) → none_due ds ≡ true → lifted (λ l. field (conditioned l)) (part_step condition_due (bare 22 0)) ≡ lifted field (field_step (typed (type_with false ds)) (bare 22 0))
unfolding field_step type_step part_step
bit-instead [] h = refl
bit-instead (d ∷ ds) h = absurd (false≢true h)

-- a type takes a part, where no bit name may come or none comes
module _ (ds : List Due) (kind : ℕ) where
  abbrev in_part : Grammar.Step Grammar.TypeState
  in_part = lifted (type_with (eqb kind Kind.BitsInline)) (part_step ds (bare kind 0))

  pub type_part : (bits : Bool) → (bits && eqb kind 22) ≡ false → type_step (type_with bits ds) (bare kind 0) ≡ in_part
  unfolding type_step
  type_part bits h = go bits h (ℕ_discrete kind 22)
    where
      go : (b : Bool) → (b && eqb kind 22) ≡ false → Dec (kind ≡ 22) → type_step (type_with b ds) (bare kind 0) ≡ in_part
      go true h (yes e) = let z : ◌≡◌ {A = Bool} true false = sym (eq-eqb kind 22 e) ∙ h in cc
      go false h (yes e) = rw e (sym (ap (lifted (type_with false)) (no-bit-name ds)))
      go b h (no n) = rw (type_step, ne_eqb kind 22 n) refl

  -- the type's part, and where the type stands then
  abbrev pub part : Grammar.Step (Item × List Due)
  part = lifted (λ l. (type_item (eqb kind Kind.BitsInline), l)) (part_step ds (bare kind 0))

  pub typed_as : {S : Type 0} (f : Grammar.TypeState → S) (g : Item → List Due → S) → ((b : Bool) (l : List Due) → g (type_item b) l ≡ f (type_with b l))
      → (bits : Bool) → (bits && eqb kind 22) ≡ false → lifted (λ (p : Item × List Due). g p.0 p.1) part ≡ lifted f (type_step (type_with bits ds) (bare kind 0))
  typed_as f g same bits h = by (eqb kind Kind.BitsInline) (part_step ds (bare kind 0)) ∙ ap (lifted f) (sym (type_part bits h))
    where
      by : (b : Bool) (x : Grammar.Step (List Due)) → lifted (λ (p : Item × List Due). g p.0 p.1) (lifted (λ l. (type_item b, l)) x) ≡ lifted f (lifted (type_with b) x)
      by b (Grammar.to l) = ap Grammar.to (same b l)
      by b (Grammar.fault n) = refl

  in-field : (b : Bool) (l : List Due) → field_list_of (type_item b) l ≡ field (typed (type_with b l))
  in-field true l = refl
  in-field false l = refl

  pub field_typed : lifted (λ (p : Item × List Due). field_list_of p.0 p.1) part ≡ lifted (λ t. field (typed t)) (type_step (type_with false ds) (bare kind 0))
  field_typed = typed_as (λ t. field (typed t)) field_list_of in-field false refl

  module _ (r : Result Item Refusal) (after : List Due) (e : typed_of r after ≡ part) where
    pub type_field : item_step_of r after ≡ lifted (λ t. field (typed t)) (type_step (type_with false ds) (bare kind 0))
    type_field = by r ∙ ap (lifted (λ (p : Item × List Due). field_list_of p.0 p.1)) e ∙ field_typed
      where
        by : (x : Result Item Refusal) → item_step_of x after ≡ lifted (λ (p : Item × List Due). field_list_of p.0 p.1) (typed_of x after)
        by (Ok item) = refl
        by (Err why) = refl

    -- where the type has not ended, it goes on
    pub type_goes_on : none_due ds ≡ false → item_step_of r after ≡ lifted field (field_step (typed (type_with false ds)) (bare kind 0))
    unfolding field_step
    type_goes_on some = type_field ∙ rw (field_step, some) (sym (lifted_twice typed field (type_step (type_with false ds) (bare kind 0))))

  -- where the type has ended, a condition begins
  pub condition_instead : none_due ds ≡ true → lifted (λ l. field (conditioned l)) (part_step condition_due (bare kind 0)) ≡ lifted field (field_step (typed (type_with false ds)) (bare kind 0))
  unfolding field_step
  condition_instead h = go (ℕ_discrete kind 22)
    where
      go : Dec (kind ≡ 22) → lifted (λ l. field (conditioned l)) (part_step condition_due (bare kind 0)) ≡ lifted field (field_step (typed (type_with false ds)) (bare kind 0))
      go (yes e) = subst (λ k. lifted (λ l. field (conditioned l)) (part_step condition_due (bare k 0)) ≡ lifted field (field_step (typed (type_with false ds)) (bare k 0))) (sym e) (bit-instead ds h)
      go (no n) = rw (ne_eqb kind 22 n, h) (sym (lifted_twice conditioned field (part_step condition_due (bare kind 0))))

  -- whether a bit name may come is asked of a bit name alone
  pub bits_aside : (kind ≡ 22 → ⊥) → lifted field (field_step (typed (type_with false ds)) (bare kind 0)) ≡ lifted field (field_step (typed (type_with true ds)) (bare kind 0))
  unfolding field_step
  bits_aside n =
      ap (λ x. lifted field (elim (none_due ds && not (eqb kind 22)) [ true ↦ lifted conditioned (part_step condition_due (bare kind 0)) | false ↦ lifted typed x ]))
      (type_part false refl ∙ sym (type_part true (ne_eqb kind 22 n)))

-- a bit name where one may come
pub bit_name_taken : (ds : List Due) → Grammar.to (field (typed (type_with true ds))) ≡ lifted field (field_step (typed (type_with true ds)) (bare 22 0))
unfolding field_step type_step
bit_name_taken [] = refl
bit_name_taken (d ∷ ds) = refl

-- a field's type begins, where no argument may come
pub opened_type : (kind : ℕ) → (kind ≡ 20 → ⊥) → lifted (λ t. field (typed t)) (type_step type_due (bare kind 0)) ≡ lifted field (field_step (annotations false) (bare kind 0))
unfolding field_step type_step part_step
opened_type kind n = go (ℕ_discrete kind 21)
  where
    go : Dec (kind ≡ 21) → lifted (λ t. field (typed t)) (type_step type_due (bare kind 0)) ≡ lifted field (field_step (annotations false) (bare kind 0))
    go (yes e) = rw e refl
    go (no m) = rw (field_step, ne_eqb kind 20 n, ne_eqb kind 21 m) (sym (lifted_twice typed field (type_step type_due (bare kind 0))))
