-- The number that the library reads from bytes, lowest first, is the definitions' number.
use Rattle.std.proofs.Common.{◌≡◌, ℕ, [], ◌∷◌, arith}
use Rattle.std.specs.Int.{from_le_bytes, w16, w32}
use Rattle.rules.specs.Words.{number}

pub number-2 : (a b : ℕ) → from_le_bytes w16 (a ∷ b ∷ []) ≡ number (a ∷ b ∷ [])
unfolding number
number-2 a b = omega arith

pub number-4 : (a b c d : ℕ) → from_le_bytes w32 (a ∷ b ∷ c ∷ d ∷ []) ≡ number (a ∷ b ∷ c ∷ d ∷ [])
unfolding number
number-4 a b c d = omega arith
