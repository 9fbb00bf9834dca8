-- The entries of the parts that are due: what a store above the height leaves, and what one at the top changes.
use Prim.Native.Nat.{ℕ, zero, suc, ◌-◌, ◌≤◌}
use native.Mathlib.Omega.{arith}
use mathlib.Core.Path.{◌≡◌, refl, sym}
use mathlib.Core.List.{List, ◌∷◌}
use lib.ListN.{get_or, set}
use lib.Seq.{get_or-set_other}
use lib.Dec.{eqb}
use borrow.Author.Tests.{ne_eqb}
use Rattle.rules.specs.Grammar.{Due, none_due}
use Rattle.grammar.specs.declared.due.Entry.{Entry}
use Rattle.grammar.specs.Parts.{due_of, none, dues, Sound}

-- a store at the height or above alters nothing below it
pub dues-above : (es : List Entry) (i : ℕ) (v : Entry) (h : ℕ) → h ≤ i → dues (set es i v) h ≡ dues es h
unfolding dues
dues-above es i v zero le = refl
dues-above es i v (suc h) le = rw (get_or-set_other es i h v none (omega arith), dues-above es i v h (omega arith))

-- where something is due, the last entry comes first
pub dues-top : (es : List Entry) (h : ℕ) → (h ≡ 0 → ⊥) → dues es h ≡ due_of (get_or es (h - 1) none) ∷ dues es (h - 1)
unfolding dues
dues-top es zero n = absurd (n refl)
dues-top es (suc h) n = let e : suc h - 1 ≡ h = omega arith in rw e

-- nothing is due just at height 0
pub none-due : (es : List Entry) (h : ℕ) → none_due (dues es h) ≡ eqb h 0
unfolding dues
none-due es zero = refl
none-due es (suc h) = sym (ne_eqb (suc h) 0 (omega arith))

pub height_none : (es : List Entry) (h : ℕ) (ds : List Due) → dues es h ≡ ds → eqb h 0 ≡ none_due ds
height_none es h ds e = rw (← e) (sym (none-due es h))

-- at most 65 are due
pub sound-height : (es : List Entry) (h : ℕ) → Sound es h → h ≤ 65
sound-height es zero s = omega arith
sound-height es (suc h) s = omega (arith, s.deep h (omega arith), s.bounded h (omega arith))
