use Rattle.std.proofs.Common.{◌≡◌, []}
use Rattle.rules.specs.Annotations.{annotations_of, duplicate_annotations}
use Rattle.names.specs.Known.{numbers_of, context_in, records_in}
use Rattle.lists.specs.Met.{Row, Tells}
use Rattle.annotations.specs.Earlier.{annotations_row}
use Rattle.types.proofs.Left.{Leaves}
use Rattle.annotations.proofs.Repeats.{duplicates_from}
use Rattle.annotations.proofs.duplicates.check_met.Given as goal

abbrev pub invariant-loop-i : goal.invariant-loop-i
invariant-loop-i g l =
    let row = annotations_row (numbers_of l.context) l.context.sheet.now l.fn.annotations.start in
    goal.F-IsAlwaysCallable g l.is_met
    × ((rows : _ → Row) → rows l.fn.is_met ≡ row → Tells (goal.F-step g) rows →
    (rows l.is_met ≡ row)
    × Leaves l.fn.violations l.violations (duplicate_annotations (context_in l.context) [] (annotations_of (records_in l.context l.fn.annotations)))
    (duplicates_from (numbers_of l.context) l.context.sheet.now l.fn.annotations.start l.fn.annotations.end l.i))
