-- `sheet::bytes::long` meets its contract: two words make the number, and fit.
use borrow.Author.Rules.{rules}
use Rattle.sheet.proofs.Numbers.{long-read}
use Rattle.sheet.proofs.bytes.long.Goals as goal

ruleset laws = (rules, long-read)

pub returns : goal.returns
returns c = search laws
