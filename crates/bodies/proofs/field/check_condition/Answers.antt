-- Nothing is found where there is none, and by the last of the optionals what is found by all.
use Rattle.std.proofs.Common.{rules}
use Rattle.bodies.proofs.FieldParts.{condition_none, condition_added}
use Rattle.bodies.proofs.field.check_condition.Goals as goal

pub returns-then-is_empty : goal.returns-then-is_empty
returns-then-is_empty c = search (rules, condition_none)

pub returns : goal.returns
returns c = search (rules, condition_added)
