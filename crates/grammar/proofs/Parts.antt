-- The parts of a kind are all one part, and at most two: a test at each of the 256 bytes.
use Prim.Native.Nat.{ℕ, ◌<◌, ◌≤◌}
use native.Mathlib.Omega.{arith}
use mathlib.Core.Path.{◌≡◌, refl}
use mathlib.Core.Bool.{Bool, true, false, ◌&&◌}
use mathlib.Core.List.{List, [], ◌∷◌}
use lib.ListN.{length, replicate}
use lib.Dec.{T}
use Rattle.rules.specs.Kind
use Rattle.rules.specs.Kind.{Part, type, condition, operand}
use Rattle.sheet.proofs.Below.{passes_below, passes_at}
use Rattle.grammar.specs.Parts.{part_in, part_of}

same_part : Part → Part → Bool
same_part type type = true
same_part type condition = false
same_part type operand = false
same_part condition type = false
same_part condition condition = true
same_part condition operand = false
same_part operand type = false
same_part operand condition = false
same_part operand operand = true

same-part : (p q : Part) → T (same_part p q) → p ≡ q
unfolding same_part
same-part type type t = refl
same-part type condition t = absurd t
same-part type operand t = absurd t
same-part condition type t = absurd t
same-part condition condition t = refl
same-part condition operand t = absurd t
same-part operand type t = absurd t
same-part operand condition t = absurd t
same-part operand operand t = refl

-- none, one or two of the part
uniform : Part → List Part → Bool
uniform p [] = true
uniform p (q ∷ []) = same_part q p
uniform p (q ∷ r ∷ []) = same_part q p && same_part r p
uniform p (q ∷ r ∷ s ∷ l) = false

both : (a b : Bool) → T (a && b) → T a × T b
both true b t = (tt, t)
both false b t = absurd t

-- as many as there are, at most two
pub record Uniform (p : Part) (l : List Part) : Type 0 where
  pub same : l ≡ replicate (length l) p
  pub few : length l ≤ 2

is-uniform : (p : Part) (l : List Part) → T (uniform p l) → Uniform p l
unfolding uniform
is-uniform p [] t = record { same = refl; few = omega arith }
is-uniform p (q ∷ []) t = record { same = rw (same-part q p t); few = omega arith }
is-uniform p (q ∷ r ∷ []) t =
    let e = both (same_part q p) (same_part r p) t in
    record { same = rw (same-part q p e.0, same-part r p e.1); few = omega arith }
is-uniform p (q ∷ r ∷ s ∷ l) t = absurd t

pub kind-uniform : (kind : ℕ) → kind < 256 → Uniform (part_in (part_of kind)) (Kind.parts_of kind)
unfolding passes_below uniform same_part Kind.parts_of
kind-uniform kind h =
    is-uniform (part_in (part_of kind)) (Kind.parts_of kind)
    (passes_at 256 (λ k. uniform (part_in (part_of k)) (Kind.parts_of k)) tt kind h)
