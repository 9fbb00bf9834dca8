use mathlib.Core.List.{flat_map}
use Rattle.rules.specs.Annotations.{limit_value_violations}
use Rattle.names.specs.Known.{context_in, records_in}
use Rattle.names.specs.View.{view_at, view_of}
use Rattle.types.proofs.Left.{Leaves}
use Rattle.annotations.proofs.limit.check_limit_value.Given as goal

abbrev pub invariant-loop-j : goal.invariant-loop-j
invariant-loop-j l =
    let found = limit_value_violations (context_in l.context) (records_in l.context l.ty) (view_at l.context.sheet.now l.annotation.start).place in
    Leaves l.fn.violations l.violations (flat_map found (view_of l.context.sheet.now l.initial.j l.j-end))
    (flat_map found (view_of l.context.sheet.now l.j l.j-end))
