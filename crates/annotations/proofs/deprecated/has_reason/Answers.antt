-- Each argument was asked for the code.
use Rattle.std.proofs.Common.{rules}
use Rattle.lists.proofs.Asked.{any_from_range}
use Rattle.annotations.proofs.Reasons.{reason-asked, code-is}
use Rattle.annotations.proofs.deprecated.has_reason.Goals as goal

pub returns : goal.returns
returns c =
    reason-asked _ _ _ _ _ _ _ c.arguments-arguments.ensures
    (any_from_range _ _ _ _ _ c.any.ensures.ran (λ x q h. code-is _ _ _ _ (search rules)) (λ x q h. (search rules, code-is _ _ _ _ (search rules))))
