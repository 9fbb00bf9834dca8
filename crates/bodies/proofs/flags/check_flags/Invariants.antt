-- What rule 34 finds at the records from `i` on is left to find.
use mathlib.Core.List.{flat_map}
use Rattle.names.specs.Known.{records_in}
use Rattle.names.specs.View.{view_of}
use Rattle.types.proofs.Left.{Leaves}
use Rattle.bodies.specs.Bit.{bit_found}
use Rattle.bodies.proofs.flags.check_flags.Given as goal

abbrev pub invariant-loop-i : goal.invariant-loop-i
invariant-loop-i l =
    Leaves l.fn.violations l.violations (flat_map bit_found (records_in l.fn.body.context l.fn.body.range))
    (flat_map bit_found (view_of l.fn.body.context.sheet.now l.i l.i-end))
