-- A variant's parts are its fields.
use Rattle.std.proofs.Common.{rules, of_calls}
use Rattle.rules.specs.Bodies.{field_list_violations, union_violations}
use Rattle.bodies.proofs.unions.check_union.Goals as goal

pub returns : goal.returns
unfolding union_violations
returns c = c.check_variants.ensures (field_list_violations _) (λ f rest old r new g same step. rw (← same) (search (rules, of_calls)))
