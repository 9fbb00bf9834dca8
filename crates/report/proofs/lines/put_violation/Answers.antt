-- `report::lines::put_violation` meets its contract: the line is its parts, one behind the other.
use Rattle.rules.specs.Printed.{violation_line}
use Rattle.report.proofs.Puts.{adds_then}
use Rattle.report.proofs.lines.put_violation.Goals as goal

pub returns-clause-adds : goal.returns-clause-adds
unfolding violation_line
returns-clause-adds c =
    rw (← c.severity_letter.ensures, ← c.from.ensures)
    (adds_then
    (adds_then
    (adds_then
    (adds_then (adds_then (adds_then (adds_then c.put_decimal.ensures.adds c.put.ensures) c.put-2.ensures) c.put-3.ensures) c.put_decimal-2.ensures.adds)
    c.put-4.ensures)
    c.put_decimal-3.ensures.adds)
    c.put-5.ensures)
