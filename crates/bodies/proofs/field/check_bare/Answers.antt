-- The type is judged where it has a name.
use Rattle.std.proofs.Common.{rules}
use Rattle.bodies.proofs.BareFields.{bare_named, bare_plain}
use Rattle.bodies.proofs.field.check_bare.Goals as goal

pub returns-then-kind-eq-NAMED : goal.returns-then-kind-eq-NAMED
returns-then-kind-eq-NAMED c = search (rules, bare_named)

pub returns-else-kind-eq-NAMED : goal.returns-else-kind-eq-NAMED
returns-else-kind-eq-NAMED c = search (rules, bare_plain)
