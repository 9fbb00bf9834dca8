-- What the rules find at the conditions from `start` on is left to find.
use Rattle.rules.specs.Conditions.{condition_violations}
use Rattle.names.specs.Known.{context_in, records_in}
use Rattle.names.specs.View.{view_of}
use Rattle.types.proofs.Left.{Leaves}
use Rattle.conditions.proofs.expr.validate_where_expr.Given as goal

abbrev pub invariant-loop-start : goal.invariant-loop-start
invariant-loop-start l =
    let found = condition_violations (context_in l.fn.context) (records_in l.fn.context l.fn.ty) in
    Leaves l.fn.violations l.violations
    (found (records_in l.fn.context l.fn.condition))
    (found (view_of l.fn.context.sheet.now l.start l.fn.condition.end))
