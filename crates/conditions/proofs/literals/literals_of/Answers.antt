-- `literals_of` reads the type's first record.
use Rattle.std.proofs.Common.{rules}
use Rattle.conditions.proofs.FieldLiterals.{literals_none, literals_first}
use Rattle.conditions.proofs.literals.literals_of.Goals as goal

pub returns-in_default : goal.returns-in_default
returns-in_default c = search (rules, literals_none)

pub returns : goal.returns
returns c = search (rules, literals_first)
