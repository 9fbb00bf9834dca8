-- Each record after the first was asked.
use Rattle.std.proofs.Common.{rules}
use Rattle.lists.proofs.Asked.{any_from_range}
use Rattle.annotations.proofs.Single.{none-after}
use Rattle.annotations.proofs.field.has_second.Goals as goal

pub returns : goal.returns
returns c =
    none-after _ _ _ _ _ _ c.rest-rest.ensures.view (any_from_range _ _ _ _ _ c.any.ensures.ran (λ x q h. search rules) (λ x q h. search rules))
