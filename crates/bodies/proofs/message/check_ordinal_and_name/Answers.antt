-- The ordinal, and then the name.
use Rattle.lists.proofs.Ordinals.{named_found}
use Rattle.bodies.proofs.message.check_ordinal_and_name.Goals as goal

pub returns : goal.returns
returns c = named_found _ _ _ _ _ _ _ _ c.check.ensures c.tell_if.ensures
