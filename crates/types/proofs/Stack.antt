-- The tests for the types that are due are always some that are skipped and then some that are checked: a skipped type's parts are skipped,
-- a map puts one skipped part before a checked one, a generic one skipped part, and any other checked type checked parts alone.
use Rattle.std.proofs.Common.{ℕ, zero, suc, ◌+◌, ◌-◌, ◌<◌, ◌≤◌, ◌≡◌, refl, ap, ◌∙◌, Bool, true, false, not, ◌&&◌, List, [], ◌∷◌, ◌++◌, map, append_assoc, arith, T, eqb, leb, length, replicate, ne_eqb, eqb-true, leb-true}
use lib.ListN.{replicate-append-replicate}
use Rattle.rules.specs.Kind
use Rattle.rules.specs.Types.{checked_parts}
use Rattle.sheet.proofs.Below.{passes_below, passes_at}
use Rattle.types.proofs.OwnKinds.{below}
use Rattle.types.specs.declared.field_type.Due.{Due}
use Rattle.types.specs.Due.{stack_of, stack_after, is_checked}

same_test : {A : Type 0} (b : Bool) (xs : List A) → map (λ part. b) xs ≡ replicate (length xs) b
same_test b [] = refl
same_test b (x ∷ xs) = ap (λ tests. b ∷ tests) (same_test b xs)

all-checked : {A : Type 0} (b : Bool) (xs : List A) → map (λ part. true && part) (map (λ part. b) xs) ≡ replicate (length xs) b
all-checked b [] = refl
all-checked b (x ∷ xs) = ap (λ tests. b ∷ tests) (all-checked b xs)

tested-parts : {A : Type 0} (b : Bool) (xs : List A) → length (map (λ part. b) xs) ≡ length xs
tested-parts b [] = refl
tested-parts b (x ∷ xs) = ap suc (tested-parts b xs)

test-count : (k : ℕ) (map? : Bool) → eqb k Kind.Map ≡ map? → length (checked_parts k) ≡ length (Kind.parts_of k)
unfolding Kind.parts_of
test-count k true h = rw (eqb-true k Kind.Map h)
test-count k false h = rw (checked_parts, h) (tested-parts (not (eqb k Kind.Generic)) (Kind.parts_of k))

-- the parts of a skipped type are skipped, and each has its test
all-skipped : (k : ℕ) → map (λ part. false && part) (checked_parts k) ≡ replicate (length (Kind.parts_of k)) false
all-skipped k = same_test false (checked_parts k) ∙ rw (test-count k (eqb k Kind.Map) refl)

after-type : (test : Bool) (tests : List Bool) (k : ℕ) → (k ≡ Kind.BitName → ⊥) → stack_after (test ∷ tests) k ≡ map (λ part. test && part) (checked_parts k) ++ tests
unfolding stack_after
after-type test tests k h = rw (stack_after, ne_eqb k Kind.BitName h)

-- a kind before generic has no parts, so that nothing is due after a type of it by itself
no-parts : (k : ℕ) → k < Kind.Generic → Kind.parts_of k ≡ []
unfolding Kind.parts_of
no-parts k h =
    rw (
      below Kind.Generic Kind.Set k (omega arith),
      below Kind.Vec2 Kind.Mat4 k (omega arith),
      below Kind.Map Kind.Result k (omega arith),
      below Kind.And Kind.Or k (omega arith),
      ne_eqb k Kind.Not (λ q. omega arith),
      ne_eqb k Kind.Cmp (λ q. omega arith),
      ne_eqb k Kind.LenCmp (λ q. omega arith),
      ne_eqb k Kind.Range (λ q. omega arith),
      ne_eqb k Kind.LenRange (λ q. omega arith),
    )

pub after-leaf : (k : ℕ) → (k ≡ Kind.BitName → ⊥) → k < Kind.Generic → stack_after (true ∷ []) k ≡ []
after-leaf k type h = after-type true [] k type ∙ rw (checked_parts, ne_eqb k Kind.Map (λ q. omega arith), no-parts k h)

module _ (k parts : ℕ) (count : parts ≡ length (Kind.parts_of k)) (type : k ≡ Kind.BitName → ⊥) where
  -- a skipped type, and a checked type that is neither map nor generic
  after-skipped : (p c : ℕ) → 0 < p → replicate (p - 1 + parts) false ++ replicate c true ≡ stack_after (replicate p false ++ replicate c true) k
  after-skipped zero c h = absurd (omega arith)
  after-skipped (suc p) c h =
      let sum : suc p - 1 + parts ≡ length (Kind.parts_of k) + p = omega arith in
      rw (sum, after-type false (replicate p false ++ replicate c true) k type, all-skipped k, ← append_assoc, replicate-append-replicate)

  after-checked : (c : ℕ) → (c ≡ 0 → ⊥) → (k ≡ Kind.Map → ⊥) → (k ≡ Kind.Generic → ⊥) → replicate (c - 1 + parts) true ≡ stack_after (replicate c true) k
  after-checked zero h map generic = absurd (h refl)
  after-checked (suc c) h map generic =
      let sum : suc c - 1 + parts ≡ length (Kind.parts_of k) + c = omega arith in
      rw (sum, after-type true (replicate c true) k type, checked_parts, ne_eqb k Kind.Map map, ne_eqb k Kind.Generic generic, all-checked true (Kind.parts_of k), replicate-append-replicate)

-- a checked map, and a checked generic
after_map : (k c : ℕ) → (c ≡ 0 → ⊥) → k ≡ Kind.Map → false ∷ replicate c true ≡ stack_after (replicate c true) k
unfolding stack_after
after_map k zero h map = absurd (h refl)
after_map k (suc c) h map = rw map

after-generic : (k c : ℕ) → (c ≡ 0 → ⊥) → k ≡ Kind.Generic → false ∷ replicate (c - 1) true ≡ stack_after (replicate c true) k
unfolding stack_after Kind.parts_of
after-generic k zero h generic = absurd (h refl)
after-generic k (suc c) h generic =
    let less : suc c - 1 ≡ c = omega arith in
    rw (generic, less)

-- the same, of the two numbers that the code keeps
module _ (due : Due) (k : ℕ) where
  pub due-skipped :
      (parts : ℕ) → (k ≡ Kind.BitName → ⊥) → parts ≡ length (Kind.parts_of k) → 0 < due.skipped →
      stack_of (record { skipped = due.skipped - 1 + parts; checked = due.checked }) ≡ stack_after (stack_of due) k
  unfolding stack_of
  due-skipped parts type count h = after-skipped k parts count type due.skipped due.checked h

module _ (due : Due) (k : ℕ) (none : due.skipped ≤ 0) where
  only-checked : stack_of due ≡ replicate due.checked true
  unfolding stack_of
  only-checked =
      let z : due.skipped ≡ 0 = omega arith in
      rw z

  pub due-none : due.checked ≡ 0 → stack_of due ≡ stack_after (stack_of due) k
  unfolding stack_after
  due-none h = rw (only-checked, h)

  pub due-map : (due.checked ≡ 0 → ⊥) → k ≡ Kind.Map → stack_of (record { skipped = 1; checked = due.checked }) ≡ stack_after (stack_of due) k
  unfolding stack_of
  due-map h map = rw only-checked (after_map k due.checked h map)

  pub due-generic : (due.checked ≡ 0 → ⊥) → k ≡ Kind.Generic → stack_of (record { skipped = 1; checked = due.checked - 1 }) ≡ stack_after (stack_of due) k
  unfolding stack_of
  due-generic h generic = rw only-checked (after-generic k due.checked h generic)

  pub due-checked :
      (parts : ℕ) → (k ≡ Kind.BitName → ⊥) → parts ≡ length (Kind.parts_of k) → (due.checked ≡ 0 → ⊥) → (k ≡ Kind.Map → ⊥) → (k ≡ Kind.Generic → ⊥) →
      stack_of (record { skipped = 0; checked = due.checked - 1 + parts }) ≡ stack_after (stack_of due) k
  unfolding stack_of
  due-checked parts type count h map generic =
      rw only-checked (after-checked k parts count type due.checked h map generic)

pub ruleset due_after = (due-skipped, due-none, due-map, due-generic, due-checked)

has_few : ℕ → Bool
has_few k = leb (length (Kind.parts_of k)) 2

few : (b : Bool) (n : ℕ) → leb n 2 ≡ b → T b → n ≤ 2
few true n e t = leb-true n 2 e
few false n e t = absurd t

-- no kind has more than two parts
pub few_parts : (k : ℕ) → k < 256 → length (Kind.parts_of k) ≤ 2
unfolding passes_below has_few Kind.parts_of
few_parts k h = few (has_few k) (length (Kind.parts_of k)) refl (passes_at 256 has_few tt k h)

-- the next type is one that is checked where none is skipped
pub first_checked : (due : Due) → (eqb due.skipped 0 && not (eqb due.checked 0)) ≡ is_checked (stack_of due)
unfolding stack_of
first_checked due = by due.skipped due.checked
  where
    by : (p c : ℕ) → (eqb p 0 && not (eqb c 0)) ≡ is_checked (replicate p false ++ replicate c true)
    by zero zero = refl
    by zero (suc c) = rw (ne_eqb (suc c) 0 (λ e. omega arith))
    by (suc p) c = rw (ne_eqb (suc p) 0 (λ e. omega arith))
