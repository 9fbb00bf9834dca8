-- Nothing is known of a block that was not looked at.
use Rattle.names.proofs.Blocks.{judged_none}
use Rattle.names.proofs.codes.Spelling.new.Goals as goal

pub invariant_of-result : goal.invariant_of-result
invariant_of-result c = (c.requires, judged_none _ _ 256)
