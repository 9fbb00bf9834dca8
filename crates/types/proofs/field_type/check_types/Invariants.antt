-- What is left to add is what is found from record `i` on with the types that are due there. No more types are due than records have been passed, and one.
use Rattle.std.proofs.Common.{◌+◌, ◌≤◌}
use Rattle.rules.specs.Types.{type_violations}
use Rattle.names.specs.Known.{context_in, records_in}
use Rattle.types.specs.Due.{stack_of}
use Rattle.types.proofs.Walk.{TypesLeft}
use Rattle.types.proofs.field_type.check_types.Given as goal

abbrev pub invariant-loop-i : goal.invariant-loop-i
invariant-loop-i l =
    let ctx = context_in l.fn.context in
    let all = type_violations ctx (records_in l.fn.context l.fn.ty) in
    record {
      few : l.due.skipped + l.due.checked ≤ l.i + 1;
      left : TypesLeft ctx l.fn.context.sheet.now l.fn.ty.end l.fn.violations all l.i (stack_of l.due) l.violations;
    }
