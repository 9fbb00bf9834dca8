use Rattle.annotations.specs.Each.{each_from}
use Rattle.types.proofs.Left.{Leaves}
use Rattle.annotations.proofs.field.check_each.Given as goal

abbrev pub invariant-loop-i : goal.invariant-loop-i
invariant-loop-i l =
    Leaves l.fn.violations l.violations (each_from l.context l.ty l.annotations.start l.annotations.end) (each_from l.context l.ty l.i l.annotations.end)
