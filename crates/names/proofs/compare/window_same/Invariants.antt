-- The bytes looked at so far are the same if `all` says so.
use Rattle.std.proofs.Common.{◌≡◌}
use Rattle.sheet.specs.Window.{passes}
use Rattle.names.specs.Same.{same_at}
use Rattle.names.proofs.compare.window_same.Given as goal

abbrev pub invariant-loop-k : goal.invariant-loop-k
invariant-loop-k l = l.all ≡ passes (same_at l.a l.b) l.at l.k
