-- `report::answer::put_lines` meets its contract: its test of the number is the definition's, and the lines stand one behind the other.
use Rattle.report.proofs.Puts.{adds_then}
use Rattle.report.proofs.Answers.{refused-lines, accepted-lines}
use Rattle.report.proofs.answer.put_lines.Goals as goal

pub returns-then-values-eq0-clause-adds : goal.returns-then-values-eq0-clause-adds
returns-then-values-eq0-clause-adds c =
    rw (accepted-lines c.args.values c.args.list.now c.if-values-eq0.true, ← c.told.ensures.0)
    (adds_then c.put_violations.ensures.adds c.put_pair.ensures.adds)

pub returns-else-values-eq0-clause-adds : goal.returns-else-values-eq0-clause-adds
returns-else-values-eq0-clause-adds c = rw (refused-lines c.args.values c.args.list.now c.if-values-eq0.false) c.put_pair-else-values-eq0.ensures.adds
