-- A bare field has one record, and the others are left to the call.
use Rattle.bodies.proofs.FieldEnds.{bare_end}
use Rattle.bodies.proofs.message.check_parts.Goals as goal

pub returns-then-is_bare-clause-end : goal.returns-then-is_bare-clause-end
returns-then-is_bare-clause-end c = (bare_end _ _ _ (c.is_bare.ensures c.if-is_bare.true)).0
