-- The last entry alone is another, and has room for so many.
use Rattle.std.proofs.Common.{arith}
use Rattle.grammar.proofs.PartSteps.{deepen-none, deepen-fits, deepened-dues, deepened-sound}
use Rattle.grammar.proofs.due.Due.deepen.Goals as goal

pub overflow_add-self : goal.overflow_add-self
overflow_add-self c = omega (arith, deepen-fits _ _ _ _ _ _ c.self.view_is c.room-room.ensures c.min.ensures c.if-self-ne0.true)

pub invariant_of-self : goal.invariant_of-self
invariant_of-self c = deepened-sound _ _ _ _ _ _ c.self.view_is c.room-room.ensures c.min.ensures c.if-self-ne0.true c.self.invariant

pub returns-then-self-ne0 : goal.returns-then-self-ne0
returns-then-self-ne0 c = deepened-dues _ _ _ _ _ _ c.self.view_is c.room-room.ensures c.min.ensures c.if-self-ne0.true c.self.invariant

pub returns-else-self-ne0 : goal.returns-else-self-ne0
returns-else-self-ne0 c = deepen-none _ _ _ c.self.view_is c.if-self-ne0.false _
