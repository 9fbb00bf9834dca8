-- A record of the kind goes into its slot, and another changes nothing for the slots.
use Rattle.std.proofs.Common.{refl}
use Rattle.lists.proofs.Entered.{passed-by, entered}
use Rattle.lists.proofs.met.Slots.put.Goals as goal

pub returns-then-kind_within-records : goal.returns-then-kind_within-records
returns-then-kind_within-records c =
    entered c.args.records _ _ _ c.requires.before c.kind_within.ensures _ _ _ c.if-kind_within-records.true c.id-id.ensures c.slot.ensures.0 refl

pub returns-else-kind_within-records : goal.returns-else-kind_within-records
returns-else-kind_within-records c = passed-by c.args.records _ _ _ c.requires.before c.kind_within.ensures c.if-kind_within-records.false
