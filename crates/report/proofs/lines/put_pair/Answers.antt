-- `report::lines::put_pair` meets its contract: the line is its parts, one behind the other.
use Rattle.report.specs.Lines.{pair_line}
use Rattle.report.proofs.Puts.{adds_then}
use Rattle.report.proofs.lines.put_pair.Goals as goal

pub returns-clause-adds : goal.returns-clause-adds
unfolding pair_line
returns-clause-adds c =
    adds_then
    (adds_then (adds_then (adds_then c.put.ensures c.put_decimal.ensures.adds) c.put-2.ensures) c.put_decimal-2.ensures.adds)
    c.put-3.ensures
