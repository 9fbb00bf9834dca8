-- The table is its parts, one behind the other, and two numbers behind them.
use Prim.Native.Nat.{ℕ}
use mathlib.Core.Path.{◌≡◌, ◌∙◌}
use mathlib.Core.List.{List, ◌++◌}
use lib.ListN.{take}
use Rattle.names.specs.NameTable.{table_of, name_table}
use Rattle.names.specs.Parts.{known, ids, declarations, imported, targets, codes, totals}
use Rattle.names.specs.View.{totals_from}

-- the parts, and the numbers behind them
pub table-whole :
    (sheet names parts t : List ℕ) →
    take totals_from parts ≡ ids sheet names ++ declarations sheet names ++ imported sheet names ++ targets sheet names ++ codes sheet names →
    t ≡ take totals_from parts ++ totals sheet names → t ≡ name_table sheet names
unfolding name_table table_of known ids declarations imported targets codes totals
table-whole sheet names parts t h e = e ∙ rw h
