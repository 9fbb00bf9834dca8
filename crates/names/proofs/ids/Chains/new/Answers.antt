-- At the start every chain is empty.
use Rattle.names.proofs.Leads.{chained_none}
use Rattle.names.proofs.ids.Chains.new.Goals as goal

pub returns : goal.returns
returns c = λ sheet names. chained_none sheet names
