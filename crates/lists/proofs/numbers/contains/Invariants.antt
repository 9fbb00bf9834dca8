-- `found` says whether the number is among the first `i` of either window.
use Rattle.lists.proofs.Marks.{InWindows}
use Rattle.lists.proofs.numbers.contains.Given as goal

abbrev pub invariant-loop-i : goal.invariant-loop-i
invariant-loop-i l = InWindows l.numbers l.number 0 l.last l.found l.i
