-- `sheet::bytes::word` meets its contract: four bytes, each read at its place, make the number. Where the list ends early, each byte that it
-- lacks is 0 for both.
use borrow.Author.Rules.{rules}
use Rattle.sheet.proofs.Numbers.{word_read}
use Rattle.sheet.proofs.bytes.word.Goals as goal

ruleset laws = (rules, word_read)

pub returns-then-at-b : goal.returns-then-at-b
returns-then-at-b c = search laws

pub returns-else-at-b : goal.returns-else-at-b
returns-else-at-b c = search laws
