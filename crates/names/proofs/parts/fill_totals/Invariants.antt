-- `wildcard` and `found` tell of the records before `j`.
use Rattle.std.proofs.Common.{ℕ, List}
use Rattle.names.proofs.Found.{Counted}
use Rattle.names.proofs.parts.fill_totals.Given as goal

abbrev pub invariant-loop-j : goal.invariant-loop-j
invariant-loop-j l = (names : List ℕ) → Counted l.sheet names l.j l.wildcard l.found
