-- Empty slots are behind no record, and nothing stands before the start.
use Rattle.lists.proofs.Slots.{slotted-none, ready-new}
use Rattle.lists.proofs.met.MetNames.new.Goals as goal

pub invariant_of-result : goal.invariant_of-result
invariant_of-result c = slotted-none _ _ _ _ (ready-new _)
