-- What is known before record `i`, and what is still to add.
use Rattle.std.proofs.Common.{◌-◌}
use Rattle.bodies.proofs.FieldList.{FieldsKnown}
use Rattle.bodies.proofs.message.check_message_body.Given as goal

abbrev pub invariant-loop-i : goal.invariant-loop-i
invariant-loop-i l = FieldsKnown l.fn.fields l.seen l.names l.fn.violations l.violations l.i

abbrev pub decreases-loop-i : goal.decreases-loop-i
decreases-loop-i l = l.fields.range.end - l.i
