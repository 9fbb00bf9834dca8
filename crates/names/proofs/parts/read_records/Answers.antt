-- Before the first record nothing is read, and every chain is empty.
use Rattle.names.proofs.Reading.{read_none}
use Rattle.names.proofs.parts.read_records.Goals as goal

pub loop-i-init : goal.loop-i-init
loop-i-init c = (c.new-spelling.ensures, c.new-chains.ensures _ _, read_none _ _ _ c.requires)
