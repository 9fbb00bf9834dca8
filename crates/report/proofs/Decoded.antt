-- The library's little-endian numbers are those that the definitions read.
use Prim.Native.Nat.{ℕ, ◌+◌}
use mathlib.Core.Path.{◌≡◌, sym}
use mathlib.Core.List.{List, [], ◌∷◌}
use lib.ListN.{get_or}
use Rattle.std.specs.Int.{from_le_bytes, w16, w32}
use Rattle.rules.specs.Words.{number}
use Rattle.rules.specs.Record.{number_at}
use Rattle.rules.proofs.Records.{number_at-first}
use Rattle.rules.proofs.LittleEndian.{number-2, number-4}

pub half : (at : ℕ) (l : List ℕ) → number_at at 2 l ≡ from_le_bytes w16 (get_or l at 0 ∷ get_or l (at + 1) 0 ∷ [])
unfolding number
half at l = rw (number_at-first at 1 l, number_at-first (at + 1) 0 l) (sym (number-2 _ _))

pub word :
    (at : ℕ) (l : List ℕ) →
    number_at at 4 l ≡ from_le_bytes w32 (get_or l at 0 ∷ get_or l (at + 1) 0 ∷ get_or l (at + 1 + 1) 0 ∷ get_or l (at + 1 + 1 + 1) 0 ∷ [])
unfolding number
word at l =
    rw
    (number_at-first at 3 l, number_at-first (at + 1) 2 l, number_at-first (at + 1 + 1) 1 l, number_at-first (at + 1 + 1 + 1) 0 l)
    (sym (number-4 _ _ _ _))
