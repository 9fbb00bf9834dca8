-- The five buffers are starts of one list: none is longer than the list, and the last is all of it.
use Prim.Native.Nat.{ℕ, zero, suc, ◌+◌, ◌≤◌}
use mathlib.Core.Path.{◌≡◌, refl}
use mathlib.Core.List.{List, ◌++◌, append-nil}
use native.Mathlib.Omega.{arith}
use lib.ListN.{length, get_or, take, drop, drop_of_length-le}
use lib.Seq.{length-take-le}
use Rattle.rules.specs.Buffer.{buffer_after}
use Rattle.recorded.specs.Buffer.{marks}
use Rattle.recorded.specs.Replay.{longest, buffer_lengths, list_after}

-- none is longer than the longest
pub length_fits : (total i : ℕ) → get_or (buffer_lengths total) i 0 ≤ longest
unfolding buffer_lengths
length_fits total zero = omega arith
length_fits total (suc zero) = omega arith
length_fits total (suc (suc zero)) = omega arith
length_fits total (suc (suc (suc zero))) = omega arith
length_fits total (suc (suc (suc (suc zero)))) = omega arith
length_fits total (suc (suc (suc (suc (suc i))))) = omega arith

-- the last is the whole list, so that its call leaves nothing of what was there before
pub last_left :
    (sheet names list : List ℕ) (total i : ℕ) (left : List ℕ) → length list ≡ longest → i + 1 ≡ 5 →
    left ≡ buffer_after sheet names (marks (length (take (get_or (buffer_lengths total) i 0) list))) →
    left ++ drop (get_or (buffer_lengths total) i 0) list ≡ list_after sheet names
unfolding buffer_lengths list_after
last_left sheet names list total i left size last e =
    let index : i ≡ 4 = omega arith in
    let n : get_or (buffer_lengths total) i 0 ≡ longest = rw index refl in
    rw (e, n, drop_of_length-le list {i = longest} (omega arith), length-take-le longest list (omega arith)) (append-nil _)
