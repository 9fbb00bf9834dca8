-- `report::text::Text::put_decimal` meets its contract: the library's digits are the definition's.
use Rattle.std.proofs.Common.{sym, subst, ◌∙◌, arith}
use Rattle.report.specs.Put.{Adds}
use Rattle.report.proofs.Digits.{decimal-same}
use Rattle.report.proofs.text.Text.put_decimal.Goals as goal

pub returns-clause-adds : goal.returns-clause-adds
returns-clause-adds c =
    subst (Adds c.args.self.now c.put.new.self) (c.as_bytes.ensures.value ∙ c.format.ensures.text ∙ sym (decimal-same c.args.x (omega arith)))
    c.put.ensures
