-- A record is of the type by its kind.
use Rattle.std.proofs.Common.{nat_eq, ◌||◌}
use Rattle.rules.specs.Kind
use Rattle.bodies.proofs.runs.type_end.Goals as goal

pub returns : goal.returns
returns c = c.run_end.ensures.run (λ kind. nat_eq kind Kind.BitName || Kind.is_type kind) (λ kind r h. h)
