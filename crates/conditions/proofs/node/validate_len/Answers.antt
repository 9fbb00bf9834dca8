-- `validate_len` adds what rule 30 finds, and then what is found at the operands.
use Rattle.std.proofs.Common.{rules}
use Rattle.conditions.proofs.LengthOperands.{length_added}
use Rattle.conditions.proofs.node.validate_len.Goals as goal

pub returns : goal.returns
returns c = search (rules, length_added)
