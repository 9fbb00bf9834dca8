-- The table is its parts, one behind the other.
use Rattle.names.proofs.TableWhole.{table-whole}
use Rattle.names.proofs.whole.fill.Goals as goal

pub returns : goal.returns
returns c = table-whole _ _ _ _ c.spread_notes.ensures (c.fill_totals.ensures _)
