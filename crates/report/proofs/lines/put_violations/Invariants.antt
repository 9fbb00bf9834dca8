-- `report::lines::put_violations`: the lines of the violations so far are put.
use Rattle.std.proofs.Common.{◌+◌, ◌*◌, ◌≤◌}
use Rattle.report.specs.Put.{Adds}
use Rattle.report.specs.Lines.{max_line, violation_lines}
use Rattle.report.proofs.lines.put_violations.Given as goal

abbrev pub invariant-loop-i : goal.invariant-loop-i
invariant-loop-i l = record {
  adds : Adds l.initial.text l.text (violation_lines l.i l.list);
  short : l.text.len ≤ l.initial.text.len + max_line * l.i;
}
