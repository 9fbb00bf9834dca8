-- The slot tells, or all are asked.
use Rattle.lists.proofs.Slots.{slot-none, slot-found}
use Rattle.lists.proofs.met.Slots.is_met.Goals as goal

pub returns-then-behind-records : goal.returns-then-behind-records
returns-then-behind-records c = rw c.id-id.ensures at (slot-none _ _ _ _ _ _ _ _ c.requires c.slot.ensures.0 c.from-behind.ensures c.if-behind-records.true)

pub returns-then-id : goal.returns-then-id
returns-then-id c =
    rw c.id-id.ensures at (slot-found _ _ _ _ _ _ _ _ c.requires c.slot.ensures.0 c.from-behind.ensures _ c.if-behind-records.false c.id.ensures c.if-id.true)
