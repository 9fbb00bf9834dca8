use Rattle.lists.specs.Kept.{KnownBefore}
use Rattle.lists.proofs.numbers.Numbers.pass_to.Given as goal

abbrev pub invariant-loop-i : goal.invariant-loop-i
invariant-loop-i l = KnownBefore l.list l.self l.i
