-- Each number passed is 0 if `all` says so.
use Rattle.std.proofs.Common.{◌≡◌, ℕ, ◌<◌, true, get_or}
use Rattle.names.proofs.table.is_zero.Given as goal

abbrev pub invariant-loop-number : goal.invariant-loop-number
invariant-loop-number l = l.all ≡ true → (k : ℕ) → k < l.number-index → get_or l.numbers k 0 ≡ 0
