-- Some record of the kind has the ordinal just if it is a value of theirs.
use Rattle.lists.proofs.Among.{among-values, among-before}
use Rattle.lists.proofs.list.ItemList.tell.Goals as goal

pub returns-clause-tombstoned : goal.returns-clause-tombstoned
returns-clause-tombstoned c = among-values _ _ _ _ _ _ c.is_among.ensures

pub returns-clause-met : goal.returns-clause-met
returns-clause-met c = among-before _ _ _ _ _ _ c.is_among-2.ensures
