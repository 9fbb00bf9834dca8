-- Each record of the range was asked.
use Rattle.std.proofs.Common.{rules}
use Rattle.lists.proofs.Asked.{any_from_range}
use Rattle.lists.specs.Earlier.{has_value}
use Rattle.lists.proofs.items.is_among.Goals as goal

pub returns : goal.returns
returns c = any_from_range _ _ _ _ (has_value c.args.kind c.args.sheet.now c.args.ordinal) c.any.ensures.ran (λ x q h. search rules) (λ x q h. search rules)
