-- Two names have the same bytes if they are of one length and the window of all their indices passes. A walk by smaller windows says that it does.
use Prim.Native.Nat.{ℕ, suc}
use mathlib.Core.Path.{◌≡◌, refl, ◌∙◌, ap}
use mathlib.Core.Bool.{Bool, false, and-false}
use mathlib.Core.List.{List, [], ◌∷◌}
use native.Mathlib.Omega.{arith}
use lib.ListN.{length}
use Rattle.rules.specs.Words.{same_bytes}
use Rattle.sheet.specs.Window.{passes}
use Rattle.sheet.proofs.Windows.{none-fails, one_more, window-done, window-fails, walk-starts, walk-goes-on, walk_ends}
use Rattle.sheet.proofs.Windows.{behind-first}
use Rattle.names.specs.Same.{same_at}

pub lengths_differ : (a b : List ℕ) → (length a ≡ length b → ⊥) → false ≡ same_bytes a b
unfolding same_bytes
lengths_differ [] [] h = absurd (h refl)
lengths_differ [] (y ∷ b) h = refl
lengths_differ (x ∷ a) [] h = refl
lengths_differ (x ∷ a) (y ∷ b) h = rw (← lengths_differ a b (λ e. h (ap suc e)), and-false)

windows-same : (a b : List ℕ) → length a ≡ length b → passes (same_at a b) 0 (length a) ≡ same_bytes a b
unfolding passes same_at same_bytes
windows-same [] [] l = refl
windows-same [] (y ∷ b) l = absurd (omega arith)
windows-same (x ∷ a) [] l = absurd (omega arith)
windows-same (x ∷ a) (y ∷ b) l =
    let rest : length a ≡ length b = omega arith in
    rw (behind-first (same_at (x ∷ a) (y ∷ b)) 0 (length a), windows-same a b rest)

pub all_same : (a b : List ℕ) (all : Bool) → length a ≡ length b → all ≡ passes (same_at a b) 0 (length a) → all ≡ same_bytes a b
all_same a b all l e = e ∙ windows-same a b l

-- what decides whether two names have the same bytes, window by window
pub ruleset windows = (none-fails, one_more, window-done, window-fails, walk-starts, walk-goes-on, walk_ends, lengths_differ, all_same)
