-- `sheet::field_name::continue_by` meets its contract: both ends of a short text are all of it, and a longer one is read by its halves.
use native.Mathlib.Omega.{arith}
use Rattle.sheet.proofs.Marks.{ends-continue}
use Rattle.sheet.proofs.field_name.continue_by.Goals as goal

pub returns-then-len-le8 : goal.returns-then-len-le8
returns-then-len-le8 c = ends-continue _ _ 4 _ _ (omega arith) (omega arith) c.four_continue.ensures c.four_continue-then-len-le8.ensures

pub returns-then-len-le16 : goal.returns-then-len-le16
returns-then-len-le16 c = ends-continue _ _ 8 _ _ (omega arith) (omega arith) c.eight_continue.ensures c.eight_continue-then-len-le16.ensures
