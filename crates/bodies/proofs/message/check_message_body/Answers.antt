-- A field is met and judged with its parts, and another record by itself.
use Rattle.std.proofs.Common.{◌∙◌, arith}
use Rattle.bodies.proofs.FieldList.{fields_none, fields_other, fields_field, fields_end}
use Rattle.bodies.proofs.message.check_message_body.Goals as goal

pub loop-i-init : goal.loop-i-init
loop-i-init c = fields_none _ _ _ _ c.restart.ensures (c.collect.ensures ∙ c.fields-seen.ensures)

pub loop-i-preserved-in_default : goal.loop-i-preserved-in_default
loop-i-preserved-in_default c =
    rw c.meet.ensures.list (fields_other _ _ _ _ _ _ _ c.loop-i.invariant c.loop-i-test.true c.in_default.ensures.met c.check_invariant.ensures)

pub loop-i-preserved : goal.loop-i-preserved
loop-i-preserved c =
    let range = c.behind.ensures.within (omega arith) in
    fields_field _ _ _ _ _ _ c.loop-i.invariant c.in-Some.ensures.met.0 _ _ _ _ c.in-Some.field _ _ c.meet.ensures.list c.in-Some.ensures.met.1
    c.is_met-renamed.ensures (rw (range, c.behind.ensures.context) at c.check_parts-i.ensures.end) c.check_ordinal_and_name.ensures
    (rw (range, c.behind.ensures.context) at c.check_parts-i.ensures.found)

pub returns : goal.returns
returns c = fields_end _ _ _ _ _ _ c.loop-i.invariant c.loop-i-test.false
