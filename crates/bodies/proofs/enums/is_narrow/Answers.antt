-- Each record of the body was asked.
use Rattle.std.proofs.Common.{rules}
use Rattle.lists.proofs.Asked.{any_from_range}
use Rattle.bodies.proofs.Backings.{IsOver, over_found}
use Rattle.bodies.proofs.enums.is_narrow.Goals as goal

pub returns : goal.returns
returns c =
    let sheet = c.args.sheet.now in
    over_found sheet c.args.body.end c.args.max c.args.body.start c.any.result
    (any_from_range _ _ _ _ (IsOver sheet c.args.body.end c.args.max) c.any.ensures.ran (λ x q h. search rules) (λ x q h. search rules))
