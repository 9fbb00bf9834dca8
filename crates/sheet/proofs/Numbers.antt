-- A number of four or eight bytes is the sum that code reads byte by byte: `number_at-first`, as often as there are bytes.
use Prim.Native.Nat.{ℕ, ◌+◌, ◌*◌}
use mathlib.Core.Path.{◌≡◌, refl}
use mathlib.Core.List.{List}
use native.Mathlib.Nat.{add_assoc}
use native.Mathlib.Omega.{arith}
use lib.ListN.{get_or}
use Rattle.rules.specs.Words.{number}
use Rattle.rules.specs.Record.{number_at}
use Rattle.rules.proofs.Records.{number_at-first}

none_read : (at : ℕ) (l : List ℕ) → number_at at 0 l ≡ 0
unfolding number
none_read at l = refl

four : (at : ℕ) (l : List ℕ) → number_at at 4 l ≡ get_or l at 0 + 256 * (get_or l (at + 1) 0 + 256 * (get_or l (at + 2) 0 + 256 * get_or l (at + 3) 0))
four at l = simp (number_at-first at 3 l, number_at-first (at + 1) 2 l, add_assoc, number_at-first (at + 2) 1 l, number_at-first (at + 3) 0 l, none_read) (omega arith)

-- four bytes that were read make the number
pub word_read : (at : ℕ) (l : List ℕ) (a b c d r : ℕ) → a ≡ get_or l at 0 → b ≡ get_or l (at + 1) 0 → c ≡ get_or l (at + 2) 0 → d ≡ get_or l (at + 3) 0 → r ≡ a + 256 * (b + 256 * (c + 256 * d)) → r ≡ number_at at 4 l
word_read at l a b c d r ha hb hc hd hr = rw (four at l) (cc)

eight : (at : ℕ) (l : List ℕ) → number_at at 8 l ≡ number_at at 4 l + 4294967296 * number_at (at + 4) 4 l
eight at l =
    simp (number_at-first at 7 l, number_at-first (at + 1) 6 l, add_assoc, number_at-first (at + 2) 5 l, number_at-first (at + 3) 4 l, four at l)
    (omega arith)

-- two words that were read make the number
pub long-read : (at : ℕ) (l : List ℕ) (a b : ℕ) → a ≡ number_at at 4 l → b ≡ number_at (at + 4) 4 l → a + 4294967296 * b ≡ number_at at 8 l
long-read at l a b ha hb = rw (eight at l) (cc)
