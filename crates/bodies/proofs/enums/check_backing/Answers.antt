-- A record that is no backing is passed over.
use Rattle.bodies.proofs.Backings.{no-backing, rule-33}
use Rattle.bodies.proofs.enums.check_backing.Goals as goal

pub returns-then-kind-ne-BACKING : goal.returns-then-kind-ne-BACKING
returns-then-kind-ne-BACKING c = no-backing _ _ _ _ _ _ c.kind.ensures c.if-kind-ne-BACKING.true

pub returns : goal.returns
returns c =
    rule-33 _ _ _ _ _ _ c.kind.ensures _ _ _ _ c.if-kind-ne-BACKING.false c.sub.ensures c.backing_max.ensures c.is_narrow-bad.ensures c.tell_if.ensures
