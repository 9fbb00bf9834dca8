-- Before the first record nothing is spread.
use Rattle.names.proofs.Spreading.{spread_none}
use Rattle.names.proofs.parts.spread_notes.Goals as goal

pub loop-i-init : goal.loop-i-init
loop-i-init c = spread_none _ _ _ c.requires
