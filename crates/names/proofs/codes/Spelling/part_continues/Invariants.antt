-- The bytes from block `k` on decide, since those before it go on.
use Rattle.std.proofs.Common.{◌≡◌}
use Rattle.names.proofs.Blocks.{Walked}
use Rattle.names.proofs.codes.Spelling.part_continues.Given as goal

abbrev pub invariant-loop-k : goal.invariant-loop-k
invariant-loop-k l = (l.self ≡ l.fn.self) × Walked l.fn.self.marks l.fn.self.names l.start l.end l.k
