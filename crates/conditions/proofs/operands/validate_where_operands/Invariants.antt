-- What the rules find at the operands from `i` on is left to find.
use Rattle.std.proofs.Common.{◌+◌}
use mathlib.Core.List.{flat_map}
use Rattle.rules.specs.Conditions.{operands_of, operand_violations}
use Rattle.names.specs.Known.{context_in}
use Rattle.names.specs.View.{view_at, view_of}
use Rattle.conditions.specs.Taken.{taken}
use Rattle.types.proofs.Left.{Leaves}
use Rattle.conditions.proofs.operands.validate_where_operands.Given as goal

abbrev pub invariant-loop-i : goal.invariant-loop-i
invariant-loop-i l =
    let sheet = l.fn.context.sheet.now in
    let find = operand_violations (context_in l.fn.context) (taken l.fn.literals) in
    Leaves l.fn.violations l.violations
    (flat_map find (operands_of (view_at sheet l.fn.node.start) (view_of sheet (l.fn.node.start + 1) l.fn.node.end)))
    (flat_map find (view_of sheet l.i l.i-end))
