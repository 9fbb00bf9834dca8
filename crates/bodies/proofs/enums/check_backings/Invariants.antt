-- What rule 33 finds at the records from `i` on is left to find.
use Rattle.names.specs.View.{view_of}
use Rattle.types.proofs.Left.{Leaves}
use Rattle.bodies.specs.Backing.{backings_from}
use Rattle.bodies.proofs.enums.check_backings.Given as goal

abbrev pub invariant-loop-i : goal.invariant-loop-i
invariant-loop-i l =
    let body = view_of l.sheet l.fn.body.start l.fn.body.end in
    Leaves l.fn.violations l.violations (backings_from body body) (backings_from body (view_of l.sheet l.i l.i-end))
