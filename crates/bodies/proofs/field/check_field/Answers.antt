-- Each of the three parts adds what is wrong with it.
use Rattle.std.proofs.Common.{rules}
use Rattle.bodies.proofs.FieldParts.{parts_optionals, field_added}
use Rattle.bodies.proofs.field.check_field.Goals as goal

pub check_condition-requires : goal.check_condition-requires
check_condition-requires c = search (rules, parts_optionals)

pub returns : goal.returns
returns c = search (rules, field_added)
