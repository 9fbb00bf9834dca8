-- The first `k` windows pass, and so does the last.
use Rattle.std.proofs.Common.{◌*◌, length}
use Rattle.sheet.proofs.Windows.{Walked}
use Rattle.names.specs.Same.{same_at}
use Rattle.names.proofs.compare.windows_same.Given as goal

abbrev pub invariant-loop-k : goal.invariant-loop-k
invariant-loop-k l = Walked (same_at l.a l.b) l.n (length l.a) l.last (l.k * l.n)
