-- Slots that are behind no record of the new list say nothing of it.
use Rattle.lists.proofs.Slots.{slotted-none, slotted-ready, ready-new}
use Rattle.lists.proofs.met.MetNames.restart.Goals as goal
use Rattle.lists.proofs.met.MetNames.restart.Goals.{then-start-self, else-start-self}

pub invariant_of-self : goal.invariant_of-self
invariant_of-self c =
    elim c.if-start-self.branch [
      | then-start-self w ↦ rw w.self-inside-is (slotted-none _ _ _ _ (ready-new _))
      | else-start-self w ↦ rw w.self-inside-is (slotted-none _ _ _ _ (slotted-ready _ _ _ _ _ _ c.self.invariant w.if-start-self.false))
    ]
