-- The weights of a name's bytes are small, so that what is weighed fits its number.
use Prim.Native.Nat.{ℕ, ◌*◌, ◌<◌}
use Rattle.std.proofs.lemmas.Nat.{mul-lt}

pub weighed_few : (a w : ℕ) → a < 536870912 → w < 4294967296 → a * w < 2305843009213693952
weighed_few a w h k = mul-lt a w 536870912 4294967296 h k
