use Rattle.lists.specs.Named.{HasNames}
use Rattle.lists.proofs.met.Slots.put_between.Given as goal

abbrev pub invariant-loop-i : goal.invariant-loop-i
invariant-loop-i l = HasNames l.records l.self.behind l.i
